use Rattle.std.proofs.Common.{◌∙◌, ap, arith, length, sym}
use Rattle.run_journal.proofs.Codes.{code_length, decoded, empty_code, is_code, no_code, no_upper, room}
use Rattle.run_journal.proofs.reading.read_bytes.Goals as goal

pub returns-then-len-gt9 : goal.returns-then-len-gt9
returns-then-len-gt9 c bytes h = omega (arith, code_length c.args.word.now bytes h, h.fetched.few, c.if-len-gt9.true)

pub returns-then-has_uppercase : goal.returns-then-has_uppercase
returns-then-has_uppercase c bytes h =
    let none = no_upper c.args.word.now bytes h in
    let some = sym c.if-has_uppercase.true ∙ c.has_uppercase.ensures in
    cc (some ∙ none)

pub returns-in_err-ok : goal.returns-in_err-ok
returns-in_err-ok c =
    rw c.from_residual.ensures
    (no_code c.args.word.now _ _ c.decode_to_slice.result (room _ (omega (arith, c.if-len-gt9.false))) c.decode_to_slice.ensures.value (sym c.ok.ensures.value ∙ c.in_err-ok.was))

pub returns-in_err-first : goal.returns-in_err-first
returns-in_err-first c =
    let read = decoded _ c.decode_to_slice.result _ _ c.decode_to_slice.ensures.value (sym c.ok.ensures.value ∙ c.in_ok-ok.was) in
    rw c.from_residual-in_err-first.ensures (empty_code c.args.word.now _ _ (room _ (omega (arith, c.if-len-gt9.false))) read c.in_err-first.ensures.cases)

pub returns : goal.returns
returns c =
    let read = decoded _ c.decode_to_slice.result _ _ c.decode_to_slice.ensures.value (sym c.ok.ensures.value ∙ c.in_ok-ok.was) in
    let lower = sym c.has_uppercase.ensures ∙ c.if-has_uppercase.false in
    let code = is_code c.args.word.now _ _ read lower (omega (arith, c.if-len-gt9.false)) (omega (arith, ap length c.in_ok-first.ensures.cases.0)) in
    rw (c.code_bytes.ensures, ← c.in_ok-first.ensures.cases.0) code
