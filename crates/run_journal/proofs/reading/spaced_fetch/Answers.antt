use Rattle.run_journal.proofs.Lines.{no_bytes_word, no_cpu_word}
use Rattle.run_journal.proofs.reading.spaced_fetch.Goals as goal

pub returns-in_err-read_cpu : goal.returns-in_err-read_cpu
returns-in_err-read_cpu c =
    rw c.from_residual-in_err-read_cpu.ensures
    (no_cpu_word c.args.words.now c.in_ok-after.field-0.now c.in_ok-cpu.cpu.now c.in_ok-cpu.bytes.now c.in_ok-after.ensures c.in_ok-cpu.ensures c.in_err-read_cpu.ensures)

pub returns-in_err-read_bytes : goal.returns-in_err-read_bytes
returns-in_err-read_bytes c =
    rw c.from_residual-in_err-read_bytes.ensures
    (no_bytes_word c.args.words.now c.in_ok-after.field-0.now c.in_ok-cpu.cpu.now c.in_ok-cpu.bytes.now c.in_ok-after.ensures c.in_ok-cpu.ensures c.in_err-read_bytes.ensures)
