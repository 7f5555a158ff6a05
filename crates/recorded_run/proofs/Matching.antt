-- Tracers that are as expected, but for the numbers of those whose rule isn't told.
use Rattle.std.proofs.Common.{◌≡◌, ◌∙◌, ◌+◌, ◌<◌, ◌≤◌, ℕ, zero, suc, List, [], ◌∷◌, ◌++◌, length, take, drop, Option, Some, None, slice_get, refl, sym, ap, arith, append-nil}
use Rattle.std.proofs.lemmas.List.{take_all, drop_all}
use Rattle.std.specs.Option.{ForSome}
use Rattle.tracer_ops.specs.declared.tracer.TracerRule.{TracerRule}
use Rattle.tracer_ops.specs.Meaning.{IsAs, IsTotal, Meaning, hit, numbers_hit, total}
use Rattle.tracer_ops.specs.Tracers.{AreAs, all_hit, without}
use Rattle.recorded_run.specs.Fed.{IsAnswer}

-- ---- one tracer

is_as_self : (t : Meaning) → IsAs t t
is_as_self t = record { rule = refl; numbers = λ told. refl }

is_as_trans : (t u v : Meaning) → IsAs t u → IsAs u v → IsAs t v
is_as_trans t u v h k = record {
  rule = h.rule ∙ k.rule;
  numbers = λ told. h.numbers told ∙ k.numbers (λ untold. told (h.rule ∙ untold));
}

-- what a hit makes of two that are alike is alike
hit_as : (site : ℕ) (t u : Meaning) → IsAs t u → IsAs (hit site t) (hit site u)
hit_as site t u h = record {
  rule = h.rule;
  numbers = λ told.
      ap (λ (rule : TracerRule). numbers_hit rule site t.numbers) h.rule
      ∙ ap (λ (numbers : List ℕ). numbers_hit u.rule site numbers) (h.numbers told);
}

-- they answer the same total
pub total_as : (t u : Meaning) (n : ℕ) → IsAs t u → IsTotal t n → IsTotal u n
total_as t u n h counts told =
    let known = λ (untold : _). told (sym h.rule ∙ untold) in
    counts known ∙ ap total (h.numbers known)

-- ---- lists of tracers

pub are_as_self : (ts : List Meaning) → AreAs ts ts
are_as_self [] = tt
are_as_self (t ∷ ts) = (is_as_self t, are_as_self ts)

pub are_as_trans : (ts us vs : List Meaning) → AreAs ts us → AreAs us vs → AreAs ts vs
are_as_trans [] [] vs h k = k
are_as_trans [] (u ∷ us) vs h k = absurd h
are_as_trans (t ∷ ts) [] vs h k = absurd h
are_as_trans (t ∷ ts) (u ∷ us) [] h k = absurd k
are_as_trans (t ∷ ts) (u ∷ us) (v ∷ vs) h k = (is_as_trans t u v h.0 k.0, are_as_trans ts us vs h.1 k.1)

pub hits_as : (site : ℕ) (ts us : List Meaning) → AreAs ts us → AreAs (all_hit site ts) (all_hit site us)
hits_as site [] [] h = tt
hits_as site [] (u ∷ us) h = absurd h
hits_as site (t ∷ ts) [] h = absurd h
hits_as site (t ∷ ts) (u ∷ us) h = (hit_as site t u h.0, hits_as site ts us h.1)

take_as : (n : ℕ) (ts us : List Meaning) → AreAs ts us → AreAs (take n ts) (take n us)
take_as zero ts us h = tt
take_as (suc n) [] [] h = tt
take_as (suc n) [] (u ∷ us) h = absurd h
take_as (suc n) (t ∷ ts) [] h = absurd h
take_as (suc n) (t ∷ ts) (u ∷ us) h = (h.0, take_as n ts us h.1)

drop_as : (n : ℕ) (ts us : List Meaning) → AreAs ts us → AreAs (drop n ts) (drop n us)
drop_as zero ts us h = h
drop_as (suc n) [] [] h = tt
drop_as (suc n) [] (u ∷ us) h = absurd h
drop_as (suc n) (t ∷ ts) [] h = absurd h
drop_as (suc n) (t ∷ ts) (u ∷ us) h = drop_as n ts us h.1

append_as : (ts us more others : List Meaning) → AreAs ts us → AreAs more others → AreAs (ts ++ more) (us ++ others)
append_as [] [] more others h k = k
append_as [] (u ∷ us) more others h k = absurd h
append_as (t ∷ ts) [] more others h k = absurd h
append_as (t ∷ ts) (u ∷ us) more others h k = (h.0, append_as ts us more others h.1 k)

pub without_as : (place : ℕ) (ts us : List Meaning) → AreAs ts us → AreAs (without place ts) (without place us)
without_as place ts us h =
    append_as (take place ts) (take place us) (drop (place + 1) ts) (drop (place + 1) us) (take_as place ts us h) (drop_as (place + 1) ts us h)

-- where there is none at a place, all stay
pub without_past : (place : ℕ) (ts : List Meaning) → length ts ≤ place → without place ts ≡ ts
without_past place ts past =
    ap (λ (rest : List Meaning). take place ts ++ rest) (drop_all (place + 1) ts (omega (arith, past)))
    ∙ append-nil (take place ts)
    ∙ take_all place ts past

-- ---- what is answered for the one at a place

pub answer_as : (place : ℕ) (ts us : List Meaning) (answer : Option ℕ) → AreAs ts us → IsAnswer (slice_get ts place) answer → IsAnswer (slice_get us place) answer
answer_as place [] [] answer h is = is
answer_as place [] (u ∷ us) answer h is = absurd h
answer_as place (t ∷ ts) [] answer h is = absurd h
answer_as zero (t ∷ ts) (u ∷ us) None h is = is
answer_as zero (t ∷ ts) (u ∷ us) (Some n) h is = total_as t u n h.0 is
answer_as (suc place) (t ∷ ts) (u ∷ us) answer h is = answer_as place ts us answer h.1 is

pub answer_at : (place : ℕ) (ts : List Meaning) (n : ℕ) → place < length ts → ForSome (slice_get ts place) (λ t. IsTotal t n) → IsAnswer (slice_get ts place) (Some n)
answer_at place [] n inside counts = absurd (omega (arith, inside))
answer_at zero (t ∷ ts) n inside counts = counts t refl
answer_at (suc place) (t ∷ ts) n inside counts = answer_at place ts n (omega (arith, inside)) counts
