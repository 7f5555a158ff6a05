-- A list of tracers while it is fed.
use Rattle.std.proofs.Common.{◌≡◌, ◌∙◌, ◌<◌, ap, sym, subst, refl, add-one, map, length, ℕ, ◌+◌, suc, zero, List, [], ◌∷◌, take, drop, get_or, set, arith}
use Rattle.std.proofs.lemmas.List.{map-set, get_or-map, length-map}
use Rattle.tracer_ops.specs.Meaning.{IsAs, Meaning, hit}
use Rattle.tracer_ops.specs.Tracers.{AreAs, all_hit}

-- those before a place were hit, and the rest are as before
pub record AreFed (place site : ℕ) (now before : List Meaning) : Type 0 where
  pub front : AreAs (take place now) (all_hit site (take place before))
  pub rest : drop place now ≡ drop place before

-- the next one is hit
next_fed : (place site : ℕ) (now before : List Meaning) (t d : Meaning) → place < length now → AreFed place site now before → IsAs t (hit site (get_or now place d)) → AreFed (suc place) site (set now place t) before
next_fed place site [] before t d inside fed hits = absurd (omega arith)
next_fed zero site (u ∷ now) before t d inside fed hits = subst (λ (b : List Meaning). AreFed (suc zero) site (t ∷ now) b) fed.rest (record { front = (hits, tt); rest = refl })
next_fed (suc place) site (u ∷ now) [] t d inside fed hits = absurd fed.front
next_fed (suc place) site (u ∷ now) (v ∷ before) t d inside fed hits =
    let more : AreFed (suc place) site (set now place t) before = next_fed place site now before t d (omega arith) (record { front = fed.front.1; rest = fed.rest }) hits in
    record { front = (fed.front.0, more.front); rest = more.rest }

pub AreFed-more : {X : Type 0} (meaning : X → Meaning) (tracers : List X) (before : List Meaning) (place site : ℕ) (tracer hit_tracer : X) → place < length tracers → tracer ≡ get_or tracers place tracer → AreFed place site (map meaning tracers) before → IsAs (meaning hit_tracer) (hit site (meaning tracer)) → AreFed (place + 1) site (map meaning (set tracers place hit_tracer)) before
AreFed-more meaning tracers before place site tracer hit_tracer inside read fed hits =
    let stood : meaning tracer ≡ get_or (map meaning tracers) place (meaning tracer) = ap meaning read ∙ sym (get_or-map meaning tracers place tracer (meaning tracer) inside) in
    let step : AreFed (suc place) site (set (map meaning tracers) place (meaning hit_tracer)) before =
    next_fed place site (map meaning tracers) before (meaning hit_tracer) (meaning tracer) (rw (length-map tracers meaning) inside) fed (subst (λ (t : Meaning). IsAs (meaning hit_tracer) (hit site t)) stood hits) in
    subst (λ (n : ℕ). AreFed n site (map meaning (set tracers place hit_tracer)) before) (sym (add-one place))
    (subst (λ (ts : List Meaning). AreFed (suc place) site ts before) (sym (map-set meaning tracers place hit_tracer)) step)
