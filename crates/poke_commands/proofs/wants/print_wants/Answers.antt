use Rattle.std.proofs.Common.{◌++◌, Err, List, Ok, map, refl, ℕ}
use Rattle.key_state.specs.Outcome.{ending_of}
use Rattle.module_image.specs.SiteLine.{site_lines}
use Rattle.poke_faults.specs.declared.fault.Fault.TheVariants.{Memory, Write}
use Rattle.poke_commands.specs.Scripted.{PrintsAs}
use Rattle.poke_commands.specs.Wants.{IsWantsText, outcome_lines}
use Rattle.poke_commands.proofs.ScriptUpdates.{wants_text}
use Rattle.poke_commands.proofs.Ways.{fault_as}
use Rattle.poke_commands.proofs.wants.print_wants.Goals as goal

pub returns-in_err-dry_run : goal.returns-in_err-dry_run
returns-in_err-dry_run g c =
    fault_as (PrintsAs (IsWantsText c.args.image.now c.args.script.now) _ _) Memory c.from_residual.result c.from_residual.ensures.1 refl

pub returns-in_err-print_run : goal.returns-in_err-print_run
returns-in_err-print_run g c =
    let m = c.args.image.now in
    let script = c.args.script.now in
    let done = c.in_ok-dry_run.dry_run.outcomes.items in
    let text = c.in_ok-dry_run.dry_run.settled.text in
    let printed : List ℕ = outcome_lines 1 (map ending_of done) ++ site_lines m.base text m.sites in
    fault_as (PrintsAs (IsWantsText m script) _ _) Write c.from_residual-in_err-print_run.result c.from_residual-in_err-print_run.ensures.1
    (c.in_err-print_run.field-0.0, record { text = printed; is = wants_text m script done text c.in_ok-dry_run.ensures.endings c.in_ok-dry_run.ensures.settled; prints = c.in_err-print_run.ensures })

pub returns : goal.returns
returns g c =
    let m = c.args.image.now in
    let script = c.args.script.now in
    let done = c.in_ok-dry_run.dry_run.outcomes.items in
    let text = c.in_ok-dry_run.dry_run.settled.text in
    let printed : List ℕ = outcome_lines 1 (map ending_of done) ++ site_lines m.base text m.sites in
    record { text = printed; is = wants_text m script done text c.in_ok-dry_run.ensures.endings c.in_ok-dry_run.ensures.settled; prints = c.in_ok-print_run.ensures }
