-- The four bytes lead to the target.
use Rattle.std.proofs.Common.{◌∙◌, ap, sym, Ok, ℕ}
use Rattle.std.proofs.lemmas.Result.{err_from_is_err_and}
use Rattle.std.specs.Int.{w32}
use Rattle.insn_forms.specs.Displacement.{leads}
use Rattle.insn_forms.specs.Spelling.{after}
use Rattle.x64_subset.proofs.reading.far_target.Goals as goal

pub returns-in_err-rel32 : goal.returns-in_err-rel32
returns-in_err-rel32 c =
    let p = err_from_is_err_and c.from_residual.result c.from_residual.ensures.1 in
    rw (p.1, p.2)
    (λ insn. c.in_err-rel32.ensures (λ rel. insn (leads w32 (after c.args.at c.args.len) rel)) c.args.len)

pub returns : goal.returns
returns c insn =
    c.in_ok-rel32.ensures (λ rel. insn (leads w32 (after c.args.at c.args.len) rel)) c.args.len
    ∙ ap (λ (t : ℕ). Ok (insn t, c.args.len))
    (ap (λ (n : ℕ). leads w32 (after c.args.at n) c.in_ok-rel32.rel32) (sym c.from.ensures) ∙ sym c.target32.ensures)
