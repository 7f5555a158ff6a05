use Rattle.recorded_run.proofs.Runs.{end_cut, end_done, events_cut, header_cut, write_failed}
use Rattle.recorded_run.proofs.recording.run.Goals as goal

pub returns-in_err-append : goal.returns-in_err-append
returns-in_err-append g c =
    write_failed c.args.world.now.image c.args.world.now.script c.args.words.now _ _ _ _ c.from_residual.result c.from_residual.ensures.0 c.from_residual.ensures.1
    (header_cut c.args.world.now c.args.words.now _ c.in_err-append.field-0.0 _ _ c.reached.ensures c.in_err-append.ensures)

pub returns-in_err-run_events : goal.returns-in_err-run_events
returns-in_err-run_events g c =
    let failed = c.from_residual-in_err-run_events in
    write_failed c.args.world.now.image c.args.world.now.script c.args.words.now _ _ _ _ failed.result failed.ensures.0 failed.ensures.1
    (events_cut c.args.world.now.image c.args.world.now.script c.args.words.now _ _ _ _ _ c.in_ok-append.ensures c.in_err-run_events.ensures)

pub returns-in_err-print_end : goal.returns-in_err-print_end
returns-in_err-print_end g c =
    let failed = c.from_residual-in_err-print_end in
    write_failed c.args.world.now.image c.args.world.now.script c.args.words.now _ _ _ _ failed.result failed.ensures.0 failed.ensures.1
    (end_cut c.args.world.now.image c.args.world.now.script c.args.words.now _ c.run_events.new.world _ c.deref.result.now c.in_err-print_end.field-0.0 _ _ _ _ c.in_ok-append.ensures c.in_ok-run_events.ensures c.deref.ensures.0 (λ s stands. c.in_err-print_end.ensures s stands))

pub returns : goal.returns
returns g c =
    end_done c.args.world.now.image c.args.world.now.script c.args.words.now _ c.run_events.new.world _ c.deref.result.now _ _ _ _ c.reached.ensures.reached.accepted c.reached.ensures.script_of c.in_ok-append.ensures c.in_ok-run_events.ensures c.deref.ensures.0 (λ s stands. c.in_ok-print_end.ensures s stands)
