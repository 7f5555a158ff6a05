use Rattle.std.proofs.Common.{◌∙◌, ap, arith, if◌then◌else◌, nat_lt, sym}
use Rattle.run_journal.proofs.CpuWords.{is_cpu, length_cpu, no_cpu, same_cpu}
use Rattle.run_journal.proofs.reading.read_cpu.Goals as goal

pub returns-in_err-cpu : goal.returns-in_err-cpu
returns-in_err-cpu c =
    rw c.from_residual.ensures (no_cpu c.args.word.now c.read_dec.result (sym c.in_err-cpu.was) c.read_dec.ensures)

pub returns-then-cpu-gt15 : goal.returns-then-cpu-gt15
returns-then-cpu-gt15 c cpu h =
    let same = same_cpu c.args.word.now c.in_ok-cpu.cpu cpu (sym c.in_ok-cpu.was ∙ c.read_dec.ensures) h in
    omega (arith, same, h.few, c.if-cpu-gt15.true)

pub returns-then-word-digits_len : goal.returns-then-word-digits_len
returns-then-word-digits_len c cpu h =
    let same = same_cpu c.args.word.now c.in_ok-cpu.cpu cpu (sym c.in_ok-cpu.was ∙ c.read_dec.ensures) h in
    let len = length_cpu c.args.word.now cpu h in
    c.if-word-digits_len.true (len ∙ ap (λ n. if nat_lt n 10 then 1 else 2) (sym same) ∙ sym c.digits_len.ensures)

pub returns : goal.returns
returns c =
    is_cpu c.args.word.now c.in_ok-cpu.cpu (sym c.in_ok-cpu.was ∙ c.read_dec.ensures) (omega (arith, c.if-cpu-gt15.false)) (c.if-word-digits_len.false ∙ c.digits_len.ensures)
