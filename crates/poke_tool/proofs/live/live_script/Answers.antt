use Rattle.std.proofs.Common.{◌++◌, Err, List, Ok, map, refl, ℕ}
use Rattle.key_state.specs.Outcome.{ending_of}
use Rattle.live_trace.specs.WalkText.{walks_text}
use Rattle.module_image.specs.SiteLine.{site_lines}
use Rattle.poke_faults.specs.declared.fault.Fault.TheVariants.{Memory, Write}
use Rattle.poke_commands.specs.Live.{IsLiveText}
use Rattle.poke_commands.specs.Scripted.{PrintsAs}
use Rattle.poke_commands.specs.Wants.{outcome_lines}
use Rattle.poke_tool.proofs.LiveRuns.{live_text, members}
use Rattle.poke_commands.proofs.Ways.{fault_as}
use Rattle.poke_tool.proofs.live.live_script.Goals as goal

pub returns-in_err-dry_run : goal.returns-in_err-dry_run
returns-in_err-dry_run g c =
    fault_as (PrintsAs (IsLiveText c.args.image.now c.args.script.now c.args.turns) _ _) Memory c.from_residual.result c.from_residual.ensures.1 refl

pub returns-in_err-run : goal.returns-in_err-run
returns-in_err-run g c =
    fault_as (PrintsAs (IsLiveText c.args.image.now c.args.script.now c.args.turns) _ _) Memory c.from_residual-in_err-run.result c.from_residual-in_err-run.ensures.1 refl

pub returns-in_err-print_live : goal.returns-in_err-print_live
returns-in_err-print_live g c =
    let m = c.args.image.now in
    let script = c.args.script.now in
    let done = c.in_ok-dry_run.dry_run.outcomes.items in
    let text = c.in_ok-dry_run.dry_run.settled.text in
    let run = c.in_ok-run.run' in
    let printed : List ℕ = outcome_lines 1 (map ending_of done) ++ (walks_text m 0 script.entries (members run.walks.items) ++ site_lines m.base text m.sites) in
    fault_as (PrintsAs (IsLiveText m script c.args.turns) _ _) Write c.from_residual-in_err-print_live.result c.from_residual-in_err-print_live.ensures.1
    (c.in_err-print_live.field-0.0, record { text = printed; is = live_text m script c.args.turns done text run c.in_ok-dry_run.ensures.endings c.in_ok-dry_run.ensures.settled c.in_ok-run.ensures; prints = c.in_err-print_live.ensures })

pub returns : goal.returns
returns g c =
    let m = c.args.image.now in
    let script = c.args.script.now in
    let done = c.in_ok-dry_run.dry_run.outcomes.items in
    let text = c.in_ok-dry_run.dry_run.settled.text in
    let run = c.in_ok-run.run' in
    let printed : List ℕ = outcome_lines 1 (map ending_of done) ++ (walks_text m 0 script.entries (members run.walks.items) ++ site_lines m.base text m.sites) in
    record { text = printed; is = live_text m script c.args.turns done text run c.in_ok-dry_run.ensures.endings c.in_ok-dry_run.ensures.settled c.in_ok-run.ensures; prints = c.in_ok-print_live.ensures }
