use Rattle.std.proofs.Common.{ap, ◌∙◌, List, ℕ, get_or, take, ◌++◌, ◌∷◌, [], arith, sym}
use Rattle.std.proofs.lemmas.List.{append_assoc}
use Rattle.live_text.specs.declared.view.PlacedWrite.{PlacedWrite}
use Rattle.live_text.specs.Layout.{row_from}
use Rattle.live_text.proofs.Layouts.{row_more}
use Rattle.live_text.proofs.layout.Rounds.put_row.Goals as goal

pub loop-byte-preserved : goal.loop-byte-preserved
loop-byte-preserved c =
    let i = c.loop-byte.byte-index in
    let bytes = c.args.bytes.now in
    let old = c.args.self.now.writes.items in
    let kept = c.loop-byte.invariant in (
      c.in_ok-put.ensures.writes
          ∙ ap (λ (l : List PlacedWrite). l ++ record { place = c.loop-byte.next; byte = get_or bytes i 0 } ∷ []) kept.0
          ∙ append_assoc old (row_from c.args.place (take i bytes)) (record { place = c.loop-byte.next; byte = get_or bytes i 0 } ∷ [])
          ∙ ap (λ (k : ℕ). old ++ (row_from c.args.place (take i bytes) ++ record { place = k; byte = get_or bytes i 0 } ∷ [])) kept.2
          ∙ ap (λ (l : List PlacedWrite). old ++ l) (sym (row_more c.args.place bytes i 0 c.loop-byte-test.true)),
      c.in_ok-put.ensures.cuts ∙ kept.1,
      omega (arith, kept.2),
    )
