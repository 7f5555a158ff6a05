-- What operations make of tracers, and of the answers of drops.
use Rattle.std.proofs.Common.{◌≡◌, ◌∙◌, ◌+◌, ◌<◌, ◌≤◌, ℕ, List, [], ◌∷◌, ◌++◌, length, map, Option, None, Result, Ok, Err, OnOk, OnErr, IfOk, IfErr, slice_get, refl, sym, ap, subst, arith, length-append}
use Rattle.std.specs.List.{flat_map}
use Rattle.std.specs.Option.{ForSome}
use Rattle.std.specs.Result.{result_ok}
use Rattle.std.proofs.lemmas.List.{length-map}
use Rattle.std.proofs.lemmas.Option.{slice_get_past}
use Rattle.script_runner.specs.declared.acted.Acted.{Acted}
use Rattle.script_runner.specs.Operations.{Operation, operations_of}
use Rattle.script_runner.specs.Operations.Operation.{Hits, DropsAt}
use Rattle.tracer_ops.specs.declared.list.NoSuch.{NoSuch}
use Rattle.tracer_ops.specs.Meaning.{IsTotal, Meaning}
use Rattle.tracer_ops.specs.Tracers.{AreAs, all_hit, without}
use Rattle.recorded_run.specs.declared.tracing.Dropped.{Dropped}
use Rattle.recorded_run.specs.Fed.{AreAnswers, Fed, IsAnswer, IsFed, fed, fed_by, handed}
use Rattle.recorded_run.proofs.Matching.{answer_as, answer_at, are_as_self, are_as_trans, hits_as, without_as, without_past}

-- ---- lists of operations

pub fed-append : (f : Fed) (first more : List Operation) → fed f (first ++ more) ≡ fed (fed f first) more
fed-append f [] more = refl
fed-append f (operation ∷ first) more = fed-append (fed_by f operation) first more

-- the places that operations drop
abbrev pub drops_of : Operation → List ℕ
drops_of (Hits cpu site) = []
drops_of (DropsAt place) = place ∷ []

-- each of them is answered
pub fed_drops : (f : Fed) (operations : List Operation) → length (fed f operations).drops ≡ length f.drops + length (flat_map drops_of operations)
fed_drops f [] = omega arith
fed_drops f (Hits cpu site ∷ operations) = fed_drops (fed_by f (Hits cpu site)) operations
fed_drops f (DropsAt place ∷ operations) =
    let rest = fed_drops (fed_by f (DropsAt place)) operations in
    let one = length-append f.drops ((place, slice_get f.left place) ∷ []) in
    omega (arith, rest, one)

-- ---- answers

pub answers_length : (drops : List (ℕ × Option Meaning)) (answers : List Dropped) → AreAnswers drops answers → length answers ≡ length drops
answers_length [] [] are = refl
answers_length [] (answer ∷ answers) are = absurd are
answers_length (drop ∷ drops) [] are = absurd are
answers_length (drop ∷ drops) (answer ∷ answers) are = (let rest = answers_length drops answers are.2 in omega (arith, rest))

answers_more : (drops : List (ℕ × Option Meaning)) (answers : List Dropped) (drop : ℕ × Option Meaning) (answer : Dropped) → AreAnswers drops answers → answer.place ≡ drop.0 → IsAnswer drop.1 answer.total → AreAnswers (drops ++ drop ∷ []) (answers ++ answer ∷ [])
answers_more [] [] drop answer are place is = (place, is, tt)
answers_more [] (other ∷ answers) drop answer are place is = absurd are
answers_more (first ∷ drops) [] drop answer are place is = absurd are
answers_more (first ∷ drops) (other ∷ answers) drop answer are place is =
    (are.0, are.1, answers_more drops answers drop answer are.2 place is)

-- ---- before the first event

pub is_handed : (tracers : List Meaning) (answers : List Dropped) → answers ≡ [] → IsFed (handed tracers) tracers answers
is_handed tracers answers none = record { left = are_as_self tracers; drops = subst (λ (none : List Dropped). AreAnswers [] none) (sym none) tt }

-- ---- one operation

-- all were hit
pub fed_hits : (f : Fed) (cpu site : ℕ) (before now : List Meaning) (answers : List Dropped) → AreAs now (all_hit site before) → IsFed f before answers → IsFed (fed f (Hits cpu site ∷ [])) now answers
fed_hits f cpu site before now answers hits h = record {
  left = are_as_trans now (all_hit site before) (all_hit site f.left) hits (hits_as site before f.left h.left);
  drops = h.drops;
}

-- one was taken out, if it was there, and its total was answered
pub record TakesOut (place : ℕ) (before now : List Meaning) (answer : Option ℕ) : Type 0 where
  pub left : now ≡ without place before
  pub answered : IsAnswer (slice_get before place) answer

fed_takes_out : (f : Fed) (before now : List Meaning) (answers : List Dropped) (answer : Dropped) → TakesOut answer.place before now answer.total → IsFed f before answers → IsFed (fed f (DropsAt answer.place ∷ [])) now (answers ++ answer ∷ [])
fed_takes_out f before now answers answer takes h = record {
  left = subst (λ (ts : List Meaning). AreAs ts (without answer.place f.left)) (sym takes.left) (without_as answer.place before f.left h.left);
  drops = answers_more f.drops answers (answer.place, slice_get f.left answer.place) answer h.drops refl (answer_as answer.place before f.left answer.total h.left takes.answered);
}

-- what is answered of a drop says so
pub takes_out : {X : Type 0} (meaning : X → Meaning) (old new : List X) (place : ℕ) (result : Result ℕ NoSuch) → OnOk result (place < length old) → OnOk result (map meaning new ≡ without place (map meaning old)) → IfOk result (λ total. ForSome (slice_get (map meaning old) place) (λ t. IsTotal t total)) → IfErr result (λ none. (length old ≤ place) × (none.len ≡ length old)) → OnErr result (new ≡ old) → TakesOut place (map meaning old) (map meaning new) (result_ok result)
takes_out meaning old new place (Ok total) found closes counts missing stays =
    let long = length-map old meaning in
    record { left = closes; answered = answer_at place (map meaning old) total (omega (arith, long, found)) counts }
takes_out {X = X} meaning old new place (Err why) found closes counts missing stays =
    let long = length-map old meaning in
    let past : length (map meaning old) ≤ place = (let short = missing.0 in omega (arith, long, short)) in
    record {
      left = ap (λ (xs : List X). map meaning xs) stays ∙ sym (without_past place (map meaning old) past);
      answered = subst (λ (o : Option Meaning). IsAnswer o None) (sym (slice_get_past (map meaning old) place past)) tt;
    }

-- it was answered, and kept
pub dropped_kept : {X : Type 0} (meaning : X → Meaning) (f : Fed) (old new : List X) (answers kept : List Dropped) (place : ℕ) (total : Option ℕ) (result : Result ℕ NoSuch) → total ≡ result_ok result → kept ≡ answers ++ record { place = place; total = total } ∷ [] → TakesOut place (map meaning old) (map meaning new) (result_ok result) → IsFed f (map meaning old) answers → IsFed (fed f (DropsAt place ∷ [])) (map meaning new) kept
dropped_kept meaning f old new answers kept place total result answered is takes h =
    subst (λ (ds : List Dropped). IsFed (fed f (DropsAt place ∷ [])) (map meaning new) ds) (sym is)
    (fed_takes_out f (map meaning old) (map meaning new) answers (record { place = place; total = total })
    (subst (λ (answer : Option ℕ). TakesOut place (map meaning old) (map meaning new) answer) (sym answered) takes) h)

-- what an event is answered to have done
pub acted_fed : (f : Fed) (did other : Acted) (tracers : List Meaning) (answers : List Dropped) → did ≡ other → IsFed (fed f (operations_of other)) tracers answers → IsFed (fed f (operations_of did)) tracers answers
acted_fed f did other tracers answers same h =
    subst (λ (acted : Acted). IsFed (fed f (operations_of acted)) tracers answers) (sym same) h
