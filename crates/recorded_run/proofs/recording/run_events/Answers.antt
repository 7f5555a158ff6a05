use Rattle.std.proofs.Common.{arith}
use Rattle.recorded_run.proofs.Runs.{events_failed, run_begun, run_can, run_cut, run_ends, run_more, run_over}
use Rattle.recorded_run.proofs.recording.run_events.Goals as goal

pub loop-init : goal.loop-init
loop-init g c =
    run_begun c.args.world.now c.args.words.now _ c.args.drops.now.items _ c.reached.ensures c.requires.first c.requires.idle c.requires.none

pub returns-in_default : goal.returns-in_default
returns-in_default g c =
    let h = c.loop.invariant in
    run_over _ _ _ _ _ c.loop.world c.loop.words _ _ c.loop.counter h c.choose.new.words (c.in_default.ensures h.last h.chooses)

pub record_event-requires-clause-can : goal.record_event-requires-clause-can
record_event-requires-clause-can g c =
    let h = c.loop.invariant in
    run_can _ _ _ _ _ c.loop.world c.loop.words _ _ c.loop.counter h c.in-Some.event c.choose.new.words (c.in-Some.ensures h.last h.chooses)

pub returns-in_err-record_event : goal.returns-in_err-record_event
returns-in_err-record_event g c =
    let h = c.loop.invariant in
    events_failed c.args.world.now.image c.args.world.now.script c.args.words.now _ c.record_event.new.world _ _ _ c.from_residual.result c.from_residual.ensures.0
    (run_cut _ _ _ _ _ c.loop.world c.loop.words _ _ c.loop.counter h c.in-Some.event c.choose.new.words _ _ (c.in-Some.ensures h.last h.chooses) c.in_err-record_event.ensures)

pub loop-preserved : goal.loop-preserved
loop-preserved g c =
    let h = c.loop.invariant in
    run_more _ _ _ _ _ c.loop.world c.loop.words _ _ c.loop.counter h c.in-Some.event c.choose.new.words c.record_event.new.world _ _ (c.in-Some.ensures h.last h.chooses) c.in_ok-record_event.ensures

pub returns : goal.returns
returns g c =
    let most = run_ends _ _ _ _ _ c.loop.world c.loop.words _ _ c.loop.counter c.loop.invariant in
    let past = c.loop-test.false in
    absurd (omega (arith, most, past))
