use Rattle.recorded_run.proofs.Runs.{drop_room, event_done, event_failed, line_cut, shown_some, text_cut}
use Rattle.recorded_run.proofs.recording.record_event.Goals as goal

pub returns-in_err-append_line : goal.returns-in_err-append_line
returns-in_err-append_line g c =
    event_failed c.args.world.now c.args.world.now c.args.event.now _ _ _ _ c.from_residual.result c.from_residual.ensures.0
    (line_cut c.args.world.now c.args.event.now c.in_err-append_line.field-0.0 _ _ _ c.in_err-append_line.ensures)

pub returns-in_err-acted : goal.returns-in_err-acted
returns-in_err-acted g c =
    let failed = c.from_residual-in_err-acted in
    let shown = c.in_err-acted.ensures in
    event_failed c.args.world.now c.show.new.world c.args.event.now _ _ _ _ failed.result failed.ensures.0
    (text_cut c.args.world.now c.show.new.world c.args.event.now shown.0 shown.1 c.in_err-acted.field-0.0 _ _ _ _ c.in_ok-append_line.ensures shown.2 shown.3)

pub tell-requires : goal.tell-requires
tell-requires g c =
    let shown = shown_some c.args.world.now c.show.new.world c.args.event.now _ _ c.in_ok-acted.field-0 c.in-Some.acted c.in-Some.is c.in_ok-acted.ensures in
    record { room = drop_room c.args.world.now c.show.new.world c.args.event.now shown.0 c.in-Some.acted c.args.drops.now.items c.requires.can shown.1 }

pub returns-in-Some : goal.returns-in-Some
returns-in-Some g c =
    let shown = shown_some c.args.world.now c.show.new.world c.args.event.now _ _ c.in_ok-acted.field-0 c.in-Some.acted c.in-Some.is c.in_ok-acted.ensures in
    event_done c.args.world.now c.show.new.world c.args.event.now shown.0 c.in-Some.acted _ _ _ _ _ c.in_ok-append_line.ensures shown.1 shown.2 c.tell.ensures.fed
