-- A tracer is taken out of a list.
use Rattle.std.proofs.Common.{◌≡◌, ◌∙◌, ◌<◌, ap, sym, subst, refl, map, length, ℕ, ◌+◌, List, ◌++◌, take, drop, get_or, arith}
use Rattle.std.proofs.lemmas.List.{map-append, take-map, drop-map}
use Rattle.std.proofs.lemmas.Option.{slice_get-map, slice_get_read, same_Some}
use Rattle.std.specs.Prelude.{slice_get, Some, option_map}
use Rattle.std.specs.Option.{ForSome}
use Rattle.tracer_ops.specs.Meaning.{IsTotal, Meaning}
use Rattle.tracer_ops.specs.Tracers.{without}

-- those after the place close up
pub map-without : {X : Type 0} (meaning : X → Meaning) (tracers left : List X) (place : ℕ) → left ≡ take place tracers ++ drop (place + 1) tracers → map meaning left ≡ without place (map meaning tracers)
map-without meaning tracers left place closes = grind (arith, map-append, take-map, drop-map)

-- the total is that of the one at the place
pub total_at : {X : Type 0} (meaning : X → Meaning) (tracers : List X) (place : ℕ) (tracer : X) (n : ℕ) → place < length tracers → tracer ≡ get_or tracers place tracer → IsTotal (meaning tracer) n → ForSome (slice_get (map meaning tracers) place) (λ t. IsTotal t n)
total_at meaning tracers place tracer n inside read counts t stands =
    let found : slice_get (map meaning tracers) place ≡ Some (meaning tracer) =
    slice_get-map meaning tracers place ∙ ap (option_map meaning) (slice_get_read tracers (length tracers) place tracer refl inside read) in
    subst (λ (t : Meaning). IsTotal t n) (same_Some (meaning tracer) t (sym found ∙ stands)) counts
