-- The sites and chunks are those of a plan of the script.
use Rattle.std.proofs.Common.{◌∙◌, ap, List}
use Rattle.module_image.specs.Held.{first_states}
use Rattle.script_text.specs.Commands.{commands}
use Rattle.script_text.specs.declared.script.ScriptStep.{ScriptStep}
use Rattle.live_engine.specs.LivePlan.{chunks_made}
use Rattle.live_engine.proofs.LivePlans.{plan-is}
use Rattle.live_engine.proofs.plan.live_plan.Goals as goal

pub returns : goal.returns
returns c =
    plan-is c.args.image.now c.args.script.now _ c.accepted.ensures c.requires c.in_ok-sites.ensures.sites c.in_ok-sites.ensures.starts
    (c.in_ok-chunks.ensures ∙ ap (λ (steps : List ScriptStep). chunks_made c.args.image.now (first_states c.args.image.now) (commands steps)) c.steps.ensures.steps)
