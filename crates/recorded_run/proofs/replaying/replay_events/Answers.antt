use Rattle.std.proofs.Common.{◌∙◌, Ok, ap, sym, subst, map}
use Rattle.std.proofs.lemmas.Bool.{false≢true}
use Rattle.run_journal.specs.Reading.{ReadsEvent}
use Rattle.run_journal.specs.ReaderState.{ReaderState}
use Rattle.switching.specs.State.{first}
use Rattle.recorded_run.specs.declared.fault.RunFault.TheVariants.{Line, Write}
use Rattle.recorded_run.specs.Underway.{IsUnderway}
use Rattle.recorded_run.proofs.Underway.{acted_it, events_fault, found_it, refused_bad, refused_end, refused_none, replayed_whole, room_now, underway_cut, underway_first, underway_push}
use Rattle.recorded_run.proofs.replaying.replay_events.Goals as goal

pub loop-event-init : goal.loop-event-init
loop-event-init g c =
    let w = c.args.world.now in
    let o = g.H.Host.outside c.args.host.now in
    subst (λ (r : ReaderState). IsUnderway w.image (first w.image w.script) c.args.journal.now (map (λ b. (goal.Tracer-dyn g (b.vtable, b.value)).meaning b.value) c.args.tracers.now.items) r w (record { tracers = map (λ b. (goal.Tracer-dyn g (b.vtable, b.value)).meaning b.value) c.args.tracers.now.items; drops = c.args.drops.now.items }) o o) (sym c.new-reader.ensures)
    (underway_first w (first w.image w.script) c.args.journal.now _ c.args.drops.now.items o c.requires.first c.requires.none)

pub returns-in_err-acted : goal.returns-in_err-acted
returns-in_err-acted g c =
    let reads = found_it (ReadsEvent c.loop-event.reader c.next.new.self) c.in_ok-event.field-0 c.in-Some.event c.in-Some.is c.in_ok-event.ensures.event in
    let shows = c.in_err-acted.ensures in
    let w = c.args.world.now in
    events_fault _ _ _ _ _ _ _ _ Write c.from_residual-in_err-acted.result c.from_residual-in_err-acted.ensures.1
    (underway_cut w.image (first w.image w.script) c.args.journal.now _ c.loop-event.reader c.next.new.self c.loop-event.world c.show.new.world _ _ _ _ c.in-Some.event shows.0 shows.1 c.in_err-acted.field-0.0 c.loop-event.invariant reads shows.2 shows.3)

pub tell-requires : goal.tell-requires
tell-requires g c =
    let w = c.args.world.now in
    let shows = acted_it c.loop-event.world c.show.new.world c.in-Some.event _ _ c.in_ok-acted.field-0 c.in-Some-2.acted c.in-Some-2.is c.in_ok-acted.ensures in
    record { room = room_now w.image w.script c.args.journal.now _ c.loop-event.reader c.loop-event.world c.show.new.world _ _ _ c.in-Some.event shows.0 c.in-Some-2.acted c.reached.ensures.script_of c.loop-event.invariant shows.1 }

pub loop-event-preserved : goal.loop-event-preserved
loop-event-preserved g c =
    let w = c.args.world.now in
    let reads = found_it (ReadsEvent c.loop-event.reader c.next.new.self) c.in_ok-event.field-0 c.in-Some.event c.in-Some.is c.in_ok-event.ensures.event in
    let shows = acted_it c.loop-event.world c.show.new.world c.in-Some.event _ _ c.in_ok-acted.field-0 c.in-Some-2.acted c.in-Some-2.is c.in_ok-acted.ensures in
    underway_push w.image (first w.image w.script) c.args.journal.now _ c.loop-event.reader c.next.new.self c.loop-event.world c.show.new.world _ _ _ _ _ c.in-Some.event shows.0 c.in-Some-2.acted c.loop-event.invariant reads shows.1 shows.2 c.tell.ensures.fed

pub returns-in_err-event : goal.returns-in_err-event
returns-in_err-event g c =
    let w = c.args.world.now in
    let bad = c.in_err-event.field-0.0 in
    events_fault _ _ _ _ _ _ _ _ (Line bad.line) c.from_residual.result c.from_residual.ensures.1
    (refused_bad w.image (first w.image w.script) c.args.journal.now _ _ _ _ _ _ bad c.loop-event.invariant c.in_err-event.ensures.bad)

pub returns-in-None : goal.returns-in-None
returns-in-None g c =
    let w = c.args.world.now in
    let reads = found_it (ReadsEvent c.loop-event.reader c.next.new.self) c.in_ok-event.field-0 c.in-Some.event c.in-Some.is c.in_ok-event.ensures.event in
    refused_none w.image (first w.image w.script) c.args.journal.now _ c.loop-event.reader c.next.new.self c.loop-event.world c.show.new.world _ _ _ _ c.in-Some.event c.in_ok-acted.field-0 c.line.result c.loop-event.invariant reads c.in-None.is c.in_ok-acted.ensures c.line.ensures.taken

pub returns-then-finished : goal.returns-then-finished
returns-then-finished g c =
    let w = c.args.world.now in
    replayed_whole w.image (first w.image w.script) c.args.journal.now _ c.loop-event.reader c.next.new.self _ _ _ _ c.loop-event.invariant (c.in_ok-event.ensures.end (ap Ok c.in_default.is)) (λ t stands. (c.finished.ensures t stands).0 c.if-finished.true)

pub returns-else-finished : goal.returns-else-finished
returns-else-finished g c =
    let w = c.args.world.now in
    refused_end w.image (first w.image w.script) c.args.journal.now _ c.loop-event.reader c.next.new.self _ _ _ _ c.line-else-finished.result c.loop-event.invariant (c.in_ok-event.ensures.end (ap Ok c.in_default.is)) (λ t stands finished. absurd (false≢true (sym c.if-finished.false ∙ (c.finished.ensures t stands).1 finished))) c.line-else-finished.ensures.taken
