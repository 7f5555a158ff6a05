-- How many values a byte has had since a number of writes.
--
-- For the machines' proofs:
--   since_two                  each candidate is x or y → length (since start writes mark at) ≤ 2
--   two_at_most                each candidate is in the table → length (since start writes mark at) ≤ 2
use Rattle.std.proofs.Common.{◌≡◌, ◌⊎◌, inl, inr, ℕ, zero, suc, ◌+◌, ◌-◌, ◌<◌, ◌≤◌, ◌==◌, ◌||◌, Bool, true, false, if◌then◌else◌, List, [], ◌∷◌, length, map, refl, ap, sym, ◌∙◌, arith}
use Rattle.std.specs.List.{list_any, range_with_len}
use Rattle.std.proofs.lemmas.Bool.Decides.{Decides-eqb}
use Rattle.insn_forms.specs.declared.forms.Change.{Change}
use Rattle.insn_forms.specs.Write.{Write}
use Rattle.insn_forms.specs.History.{Memory, byte, IsCandidate, without, since}
use Rattle.switching.specs.Table.{byte_after, IsInTable}
use Rattle.switching.proofs.Writes.{Has}

-- each value is one of two
abbrev AreOf : ℕ → ℕ → List ℕ → Type 0
AreOf x y values = (v : ℕ) → Has values v → (v ≡ x) ⊎ (v ≡ y)

seen_first : (w x y : ℕ) → w ≡ x → list_any (λ other. other == w) (x ∷ y ∷ []) ≡ true
seen_first w x y is = ap (λ (b : Bool). b || ((y == w) || false)) ((Decides-eqb x w).1 (sym is))

seen_second : (w x y : ℕ) → w ≡ y → list_any (λ other. other == w) (x ∷ y ∷ []) ≡ true
seen_second w x y is = go (x == w) ((Decides-eqb y w).1 (sym is))
  where
    go : (b : Bool) → (y == w) ≡ true → (b || ((y == w) || false)) ≡ true
    go true e = refl
    go false e = ap (λ (c : Bool). c || false) e

-- where both were seen no more are found
none_more : (x y : ℕ) (values : List ℕ) → AreOf x y values → length (without (x ∷ y ∷ []) values) ≡ 0
none_more x y [] each = refl
none_more x y (w ∷ values) each =
    let seen : list_any (λ other. other == w) (x ∷ y ∷ []) ≡ true = elim (each w (inl refl)) [ inl is ↦ seen_first w x y is | inr is ↦ seen_second w x y is ] in
    ap (λ (b : Bool). length (if b then without (x ∷ y ∷ []) values else w ∷ without (w ∷ x ∷ y ∷ []) values)) seen
    ∙ none_more x y values (λ v has. each v (inr has))

-- one of two that isn't the first is the second
other_one : (w x y : ℕ) → ((x == w) || false) ≡ false → (w ≡ x) ⊎ (w ≡ y) → w ≡ y
other_one w x y no_case (inl is) =
    let same : ((x == w) || false) ≡ true = ap (λ (c : Bool). c || false) ((Decides-eqb x w).1 (sym is)) in absurd (cc)
other_one w x y no_case (inr is) = is

-- where the first was seen at most one more is found
one_more : (x y : ℕ) (values : List ℕ) → AreOf x y values → length (without (x ∷ []) values) ≤ 1
one_more x y [] each = omega arith
one_more x y (w ∷ values) each = go ((x == w) || false) refl (one_more x y values (λ v has. each v (inr has)))
  where
    go : (b : Bool) → ((x == w) || false) ≡ b → length (without (x ∷ []) values) ≤ 1 → length (if b then without (x ∷ []) values else w ∷ without (w ∷ x ∷ []) values) ≤ 1
    go true is rest = rest
    go false is rest =
        let second : w ≡ y = other_one w x y is (each w (inl refl)) in
        let later : AreOf w x values = λ v has. elim (each v (inr has)) [ inl first ↦ inr first | inr last ↦ inl (last ∙ sym second) ] in
        let none : length (without (w ∷ x ∷ []) values) ≡ 0 = none_more w x values later in
        omega arith

-- of two values at most two are found
two_found : (x y : ℕ) (values : List ℕ) → AreOf x y values → length (without [] values) ≤ 2
two_found x y [] each = omega arith
two_found x y (w ∷ values) each =
    let rest : length (without (w ∷ []) values) ≤ 1 = elim (each w (inl refl)) [
      | inl is ↦ one_more w y values (λ v has. elim (each v (inr has)) [ inl first ↦ inl (first ∙ sym is) | inr last ↦ inr last ])
      | inr is ↦ one_more w x values (λ v has. elim (each v (inr has)) [ inl first ↦ inr first | inr last ↦ inl (last ∙ sym is) ])
    ] in
    omega arith

-- a value at a place of a range
pub record IsAt (f : ℕ → ℕ) (low n v : ℕ) : Type 0 where
  pub place : ℕ
  pub from : low ≤ place
  pub to : place < low + n
  pub is : f place ≡ v

pub range_at : (f : ℕ → ℕ) (low n v : ℕ) → Has (map f (range_with_len low n)) v → IsAt f low n v
range_at f low zero v h = elim h [ ]
range_at f low (suc n) v (inl is) = record { place = low; from = omega arith; to = omega arith; is = is }
range_at f low (suc n) v (inr later) =
    let rest : IsAt f (low + 1) n v = range_at f (low + 1) n v later in
    let from : low + 1 ≤ rest.place = rest.from in
    let to : rest.place < (low + 1) + n = rest.to in
    record { place = rest.place; from = omega arith; to = omega arith; is = rest.is }

-- a byte of which each candidate is one of two values has had at most two since the mark
pub since_two : (start : Memory) (writes : List Write) (mark at x y : ℕ) → ((v : ℕ) → IsCandidate start writes mark at v → (v ≡ x) ⊎ (v ≡ y)) → length (since start writes mark at) ≤ 2
since_two start writes mark at x y each =
    two_found x y _
    (λ v has.
    let place : IsAt (λ n. byte start writes n at) mark (length writes + 1 - mark) v = range_at _ mark (length writes + 1 - mark) v has in
    let from : mark ≤ place.place = place.from in
    let to : place.place < mark + (length writes + 1 - mark) = place.to in
    each v (record { after = place.place; from = from; to = omega arith; had = place.is }))

-- so has a byte that has the candidates of the table
pub two_at_most : (start : Memory) (writes : List Write) (mark at taken : ℕ) (k : Change) (j : ℕ) → ((v : ℕ) → IsCandidate start writes mark at v → IsInTable taken k j v) → length (since start writes mark at) ≤ 2
two_at_most start writes mark at taken k j each =
    since_two start writes mark at (byte_after taken k j) (byte_after (suc taken) k j) each
