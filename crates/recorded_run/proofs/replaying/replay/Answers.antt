use Rattle.recorded_run.specs.declared.fault.RunFault.TheVariants.{Write}
use Rattle.recorded_run.proofs.Underway.{ending_cut, ending_whole, events_stopped, replay_fault}
use Rattle.recorded_run.proofs.replaying.replay.Goals as goal

pub returns-in_err-replay_events : goal.returns-in_err-replay_events
returns-in_err-replay_events g c =
    replay_fault _ _ _ _ _ _ _ c.in_err-replay_events.field-0.0 c.from_residual.result c.from_residual.ensures.1
    (events_stopped _ _ _ _ _ c.replay_events.new.world c.replay_events.new.drops.items _ _ c.in_err-replay_events.field-0.0 c.in_err-replay_events.ensures)

pub returns-in_err-print_end : goal.returns-in_err-print_end
returns-in_err-print_end g c =
    replay_fault _ _ _ _ _ _ _ Write c.from_residual-in_err-print_end.result c.from_residual-in_err-print_end.ensures.1
    (ending_cut _ _ _ _ _ _ c.deref.result.now _ _ _ c.in_err-print_end.field-0.0 c.in_ok-replay_events.ensures c.deref.ensures.0 c.in_err-print_end.ensures)

pub returns : goal.returns
returns g c =
    ending_whole _ _ _ _ _ _ c.deref.result.now _ _ _ c.reached.ensures.reached.accepted c.reached.ensures.script_of c.in_ok-replay_events.ensures c.deref.ensures.0 c.in_ok-print_end.ensures
