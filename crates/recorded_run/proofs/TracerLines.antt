-- The lines of tracers are printed tracer by tracer.
use Rattle.std.proofs.Common.{◌≡◌, ◌∙◌, ◌+◌, ◌<◌, ℕ, List, [], ◌∷◌, ◌++◌, length, take, drop, map, get_or, Option, Some, option_map, slice_get, Result, Ok, Err, IsErr, refl, sym, ap, subst, arith, append-nil}
use Rattle.std.proofs.lemmas.List.{length-map, length-take-le}
use Rattle.std.proofs.lemmas.Option.{slice_get-map, slice_get_read}
use Rattle.poke_base.specs.declared.host.WriteFail.{WriteFail}
use Rattle.poke_base.specs.Host.{Outside, Prints}
use Rattle.poke_base.proofs.Outsides.{Prints-more, Prints-part}
use Rattle.tracer_ops.specs.Meaning.{IsTotal, Meaning}
use Rattle.recorded_run.specs.Tally.{AreTotals, tracer_line, tracer_lines}
use Rattle.poke_base.proofs.ItemLines.{take_more, whole}
use Rattle.recorded_run.proofs.Tallies.{are_some_totals, some_totals, totals-append, totals_length, tracer_lines-append}

-- the lines of the first tracers were printed
pub record TotalsPrinted (ts : List Meaning) (place : ℕ) (old new : Outside) : Type 0 where
  pub totals : List ℕ
  pub are : AreTotals (take place ts) totals
  pub prints : Prints {T = Unit {0}} {E = WriteFail} old new (tracer_lines 0 totals) (Ok tt)

-- the tracer at a place, with what it answers
record Counts (ts : List Meaning) (place n : ℕ) : Type 0 where
  tracer : Meaning
  there : slice_get ts place ≡ Some tracer
  within : place < length ts
  counts : IsTotal tracer n

counts_at : {X : Type 0} (meaning : X → Meaning) (tracers : List X) (place : ℕ) (tracer : X) (n : ℕ) → place < length tracers → tracer ≡ get_or tracers place tracer → IsTotal (meaning tracer) n → Counts (map meaning tracers) place n
counts_at {X = X} meaning tracers place tracer n inside read counts =
    let long = length-map tracers meaning in
    record {
      tracer = meaning tracer;
      there = slice_get-map meaning tracers place ∙ ap (λ (o : Option X). option_map meaning o) (slice_get_read tracers (length tracers) place tracer refl inside read);
      within = omega (arith, long, inside);
      counts = counts;
    }

-- one more total
totals_push : (ts : List Meaning) (place n : ℕ) (totals : List ℕ) → Counts ts place n → AreTotals (take place ts) totals → AreTotals (take (place + 1) ts) (totals ++ n ∷ [])
totals_push ts place n totals here are =
    subst (λ (us : List Meaning). AreTotals us (totals ++ n ∷ [])) (sym (take_more ts place here.tracer here.there))
    (totals-append (take place ts) (here.tracer ∷ []) totals (n ∷ []) are (here.counts, tt))

lines_push : (ts : List Meaning) (place n : ℕ) (totals : List ℕ) → Counts ts place n → AreTotals (take place ts) totals → tracer_lines 0 totals ++ tracer_line place n ≡ tracer_lines 0 (totals ++ n ∷ [])
lines_push ts place n totals here are =
    let inside = here.within in
    let few = totals_length (take place ts) totals are in
    let long = length-take-le place ts (omega (arith, inside)) in
    let same : place ≡ 0 + length totals = omega (arith, few, long) in
    ap (λ (p : ℕ). tracer_lines 0 totals ++ tracer_line p n) same
    ∙ ap (λ (text : List ℕ). tracer_lines 0 totals ++ text) (sym (append-nil (tracer_line (0 + length totals) n)))
    ∙ sym (tracer_lines-append 0 totals (n ∷ []))

printed_by : (ts : List Meaning) (place n : ℕ) (text : List ℕ) (old middle new : Outside) → Counts ts place n → TotalsPrinted ts place old middle → text ≡ tracer_line place n → Prints {T = Unit {0}} {E = WriteFail} middle new text (Ok tt) → TotalsPrinted ts (place + 1) old new
printed_by ts place n text old middle new here before is prints = record {
  totals = before.totals ++ n ∷ [];
  are = totals_push ts place n before.totals here before.are;
  prints =
      subst (λ (lines : List ℕ). Prints {T = Unit {0}} {E = WriteFail} old new lines (Ok tt))
      (ap (λ (t : List ℕ). tracer_lines 0 before.totals ++ t) is ∙ lines_push ts place n before.totals here before.are)
      (Prints-more old middle new (tracer_lines 0 before.totals) text tt (Ok tt) before.prints prints);
}

pub total_printed : {X : Type 0} (meaning : X → Meaning) (tracers : List X) (place : ℕ) (tracer : X) (n : ℕ) (text : List ℕ) (old middle new : Outside) → place < length tracers → tracer ≡ get_or tracers place tracer → IsTotal (meaning tracer) n → TotalsPrinted (map meaning tracers) place old middle → text ≡ tracer_line place n → Prints {T = Unit {0}} {E = WriteFail} middle new text (Ok tt) → TotalsPrinted (map meaning tracers) (place + 1) old new
total_printed meaning tracers place tracer n text old middle new inside read counts before is prints =
    printed_by (map meaning tracers) place n text old middle new (counts_at meaning tracers place tracer n inside read counts) before is prints

-- what was printed of all of them, where a line failed
pub record TotalsPrint (ts : List Meaning) (old new : Outside) (result : Result (Unit {0}) WriteFail) : Type 0 where
  pub totals : List ℕ
  pub are : AreTotals ts totals
  pub prints : Prints {T = Unit {0}} {E = WriteFail} old new (tracer_lines 0 totals) result

failed_by : (ts : List Meaning) (place n : ℕ) (text : List ℕ) (why : WriteFail) (old middle new : Outside) → Counts ts place n → TotalsPrinted ts place old middle → text ≡ tracer_line place n → Prints {T = Unit {0}} {E = WriteFail} middle new text (Err why) → TotalsPrint ts old new (Err why)
failed_by ts place n text why old middle new here before is prints =
    let had = before.totals in
    let rest = some_totals (drop (place + 1) ts) in
    let front : AreTotals (take (place + 1) ts) (had ++ n ∷ []) = totals_push ts place n had here before.are in
    let split : take (place + 1) ts ++ drop (place + 1) ts ≡ ts = ap (λ (us : List Meaning). us ++ drop (place + 1) ts) (take_more ts place here.tracer here.there) ∙ whole ts place here.tracer here.there in
    record {
      totals = (had ++ n ∷ []) ++ rest;
      are =
          subst (λ (us : List Meaning). AreTotals us ((had ++ n ∷ []) ++ rest)) split
          (totals-append (take (place + 1) ts) (drop (place + 1) ts) (had ++ n ∷ []) rest front (are_some_totals (drop (place + 1) ts)));
      prints =
          subst (λ (lines : List ℕ). Prints {T = Unit {0}} {E = WriteFail} old new lines (Err why))
          (ap (λ (t : List ℕ). (tracer_lines 0 had ++ t) ++ tracer_lines (0 + length (had ++ n ∷ [])) rest) is
          ∙ ap (λ (t : List ℕ). t ++ tracer_lines (0 + length (had ++ n ∷ [])) rest) (lines_push ts place n had here before.are)
          ∙ sym (tracer_lines-append 0 (had ++ n ∷ []) rest))
          (Prints-part old middle new (tracer_lines 0 had) text (tracer_lines (0 + length (had ++ n ∷ [])) rest) tt why before.prints prints);
    }

pub total_failed : {X : Type 0} (meaning : X → Meaning) (tracers : List X) (place : ℕ) (tracer : X) (n : ℕ) (text : List ℕ) (why : WriteFail) (old middle new : Outside) → place < length tracers → tracer ≡ get_or tracers place tracer → IsTotal (meaning tracer) n → TotalsPrinted (map meaning tracers) place old middle → text ≡ tracer_line place n → Prints {T = Unit {0}} {E = WriteFail} middle new text (Err why) → TotalsPrint (map meaning tracers) old new (Err why)
total_failed meaning tracers place tracer n text why old middle new inside read counts before is prints =
    failed_by (map meaning tracers) place n text why old middle new (counts_at meaning tracers place tracer n inside read counts) before is prints

-- a failed print is the same whatever its error
pub totals_failed : (ts : List Meaning) (old new : Outside) (why : WriteFail) (result : Result (Unit {0}) WriteFail) → IsErr result → TotalsPrint ts old new (Err why) → TotalsPrint ts old new result
totals_failed ts old new why (Ok done) failed prints = absurd (cc)
totals_failed ts old new why (Err fail) failed prints = prints
