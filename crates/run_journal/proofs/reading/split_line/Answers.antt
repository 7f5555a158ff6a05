use Rattle.run_journal.proofs.Splits.{no_split_in_window, room_in_window, split_in_window}
use Rattle.run_journal.proofs.reading.split_line.Goals as goal

pub returns-in_err-line : goal.returns-in_err-line
returns-in_err-line c =
    rw c.from_residual.ensures (no_split_in_window c.min.result 24 10 c.args.text.now c.min.ensures c.in_err-line.ensures)

pub split_at-requires : goal.split_at-requires
split_at-requires c = room_in_window c.min.result 10 c.args.text.now c.in_ok-line.line.now c.in_ok-line.field-0-1.now c.in_ok-line.ensures

pub returns : goal.returns
returns c =
    split_in_window c.min.result 10 c.args.text.now c.in_ok-line.line.now c.in_ok-line.field-0-1.now c.split_at.result.1.now c.in_ok-line.ensures c.split_at.ensures.back
