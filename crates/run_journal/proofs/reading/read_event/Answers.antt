use Rattle.run_journal.proofs.Lines.{no_event_line, no_short_line}
use Rattle.run_journal.proofs.reading.read_event.Goals as goal

pub returns-in_err-line : goal.returns-in_err-line
returns-in_err-line c = rw c.from_residual.ensures (no_short_line c.args.text.now c.in_err-line.ensures)

pub returns-in_err-event : goal.returns-in_err-event
returns-in_err-event c =
    rw c.from_residual-in_err-event.ensures
    (no_event_line c.args.text.now c.in_ok-line.line.now c.in_ok-line.rest.now c.in_ok-first.first.now c.in_ok-first.words.now c.in_ok-line.ensures c.in_ok-first.ensures.cases.0 c.in_err-event.ensures)
