use Rattle.std.proofs.Common.{ap, ◌∙◌, List, length, ◌++◌, ◌∷◌, [], sym, map, ℕ}
use Rattle.std.proofs.lemmas.List.{take_all}
use Rattle.insn_forms.specs.declared.forms.Change.{Change}
use Rattle.live_text.specs.declared.view.PlacedWrite.{PlacedWrite}
use Rattle.poke_batch.specs.Poke.{traps}
use Rattle.live_text.specs.Flat.{placed}
use Rattle.live_text.proofs.Layouts.{on_ok_two, adds_round}
use Rattle.live_text.proofs.layout.Rounds.add_traps.Goals as goal

pub returns : goal.returns
returns c =
    let whole = take_all c.loop-change.change-index c.args.chunk.now c.loop-change-test.false in
    on_ok_two c.end.result
    (λ writes cuts.
    adds_round c.args.sites.now (traps c.args.chunk.now) c.args.self.now c.end.new.self
    (writes ∙ c.loop-change.invariant.0 ∙ ap (λ (l : List Change). c.args.self.now.writes.items ++ map (placed c.args.sites.now) (traps l)) whole)
    (cuts ∙ ap (λ (l : List ℕ). l ++ length c.loop-change.self.writes.items ∷ []) c.loop-change.invariant.1 ∙ ap (λ (l : List PlacedWrite). c.args.self.now.cuts.items ++ length l ∷ []) (sym writes)))
    c.end.ensures.writes c.end.ensures.cuts
