use Rattle.std.proofs.Common.{Err, Ok, inl, refl}
use Rattle.poke_faults.specs.declared.fault.Fault.TheVariants.{Write}
use Rattle.poke_faults.specs.RunFault.{run_fault}
use Rattle.poke_commands.specs.Scripted.{RunsAs}
use Rattle.poke_tool.proofs.RunWays.{run_answers}
use Rattle.poke_commands.proofs.Ways.{fault_as}
use Rattle.poke_tool.proofs.run.run_world.Goals as goal

pub returns-in_err-make_file : goal.returns-in_err-make_file
returns-in_err-make_file g c =
    fault_as (RunsAs c.args.world.now.image c.args.world.now.script c.args.journal_name.now c.args.seed _ _ _ _) Write c.from_residual.result c.from_residual.ensures.1
    (inl (record { why = c.in_err-make_file.field-0.0; makes = c.in_err-make_file.ensures; untold = refl }))

pub returns-in_err-run : goal.returns-in_err-run
returns-in_err-run g c =
    fault_as (RunsAs c.args.world.now.image c.args.world.now.script c.args.journal_name.now c.args.seed _ _ _ _) (run_fault c.in_err-run.field-0.0) c.from_residual-in_err-run.result c.from_residual-in_err-run.ensures.1
    (run_answers c.args.world.now.image c.args.world.now.script c.args.journal_name.now c.args.seed c.from_seed-words.result _ _ _ _ _ (Err c.in_err-run.field-0.0) c.from_seed-words.ensures c.in_ok-make_file.ensures c.in_err-run.ensures)

pub returns : goal.returns
returns g c =
    run_answers c.args.world.now.image c.args.world.now.script c.args.journal_name.now c.args.seed c.from_seed-words.result _ _ _ _ _ (Ok tt) c.from_seed-words.ensures c.in_ok-make_file.ensures c.in_ok-run.ensures
