use Rattle.std.proofs.Common.{◌≡◌, ℕ, ◌+◌, List, ◌++◌, drop, ap, sym, ◌∙◌}
use Rattle.std.proofs.lemmas.Result.{on_ok_weaker}
use Rattle.poke_batch.specs.Poke.{spelled}
use Rattle.live_text.specs.declared.view.PlacedWrite.{PlacedWrite}
use Rattle.live_text.specs.Layout.{row_from}
use Rattle.live_text.proofs.Layouts.{tail_row}
use Rattle.live_text.proofs.layout.Rounds.put_tail.Goals as goal

pub returns-in-Some-clause-writes : goal.returns-in-Some-clause-writes
returns-in-Some-clause-writes c =
    let tail : c.in-Some.tail.now ≡ drop 1 (spelled c.args.change.now.new c.args.change.now.at) = ap (λ (l : List ℕ). drop 1 l) (sym c.in-Some.ensures.cases.0 ∙ c.as_slice.ensures.value ∙ c.spelled-code.ensures) in
    on_ok_weaker c.put_row.result
    (λ writes.
    writes
    ∙ ap (λ (z : ℕ × List ℕ). c.args.self.now.writes.items ++ row_from (z.0 + 1) z.1) (λ k. (c.place_of-place.ensures.place k, tail k))
    ∙ ap (λ (l : List PlacedWrite). c.args.self.now.writes.items ++ l) (sym (tail_row c.args.sites.now c.args.change.now c.requires.row)))
    c.put_row.ensures.writes
