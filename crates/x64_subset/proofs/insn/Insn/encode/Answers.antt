-- Where no displacement leads to the target there is no spelling; the operands are in range.
use Rattle.std.proofs.Common.{subst}
use Rattle.std.proofs.lemmas.Result.{on_err_weaker}
use Rattle.x64_subset.specs.declared.insn.Insn.{Insn}
use Rattle.x64_subset.specs.Spells.{Spells}
use Rattle.x64_subset.proofs.insn.Insn.encode.Goals as goal

pub returns-in-Jmp8-clause-no_reach : goal.returns-in-Jmp8-clause-no_reach
unfolding Spells
returns-in-Jmp8-clause-no_reach c =
    on_err_weaker c.near.result
    (λ none code is. none code (subst (λ (i : Insn). Spells i c.args.at code) c.in-Jmp8.is is))
    c.near.ensures.no_reach

pub returns-in-Jmp32-clause-no_reach : goal.returns-in-Jmp32-clause-no_reach
unfolding Spells
returns-in-Jmp32-clause-no_reach c =
    on_err_weaker c.far.result
    (λ none code is. none code (subst (λ (i : Insn). Spells i c.args.at code) c.in-Jmp32.is is))
    c.far.ensures.no_reach

pub returns-in-Call-clause-no_reach : goal.returns-in-Call-clause-no_reach
unfolding Spells
returns-in-Call-clause-no_reach c =
    on_err_weaker c.far-in-Call.result
    (λ none code is. none code (subst (λ (i : Insn). Spells i c.args.at code) c.in-Call.is is))
    c.far-in-Call.ensures.no_reach

pub returns-in-Jcc8-clause-no_reach : goal.returns-in-Jcc8-clause-no_reach
unfolding Spells
returns-in-Jcc8-clause-no_reach c =
    on_err_weaker c.near-in-Jcc8.result
    (λ none code is. none code ((subst (λ (i : Insn). Spells i c.args.at code) c.in-Jcc8.is is).1))
    c.near-in-Jcc8.ensures.no_reach

pub returns-in-Jcc32-clause-no_reach : goal.returns-in-Jcc32-clause-no_reach
unfolding Spells
returns-in-Jcc32-clause-no_reach c =
    on_err_weaker c.far-in-Jcc32.result
    (λ none code is. none code ((subst (λ (i : Insn). Spells i c.args.at code) c.in-Jcc32.is is).1))
    c.far-in-Jcc32.ensures.no_reach
