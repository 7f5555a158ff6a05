-- Look-ups in lists: an element by its index after one was set, and the change of the site at an address.
use Rattle.std.proofs.Common.{◌≡◌, ◌≢◌, ◌∙◌, ◌+◌, ◌<◌, ◌≤◌, ◌==◌, ◌⊎◌, inl, inr, ℕ, zero, suc, Bool, true, false, cond, List, [], ◌∷◌, ◌++◌, length, get_or, set, AllPairs, Contains, find, Some, None, slice_get, refl, sym, ap, subst, arith}
use Rattle.std.specs.List.{flat_map, range_with_len}
use Rattle.std.proofs.lemmas.Bool.{cases_order}
use Rattle.std.proofs.lemmas.Bool.Decides.{Decides-eqb}
use Rattle.std.proofs.lemmas.List.{get_or-append-add, length-append, length-set}
use Rattle.std.proofs.Math.ListN.{get_or-append}
use Rattle.std.proofs.lemmas.List.Elements.{Contains-append_cases, Contains-append_left, Contains-append_right}
use Rattle.std.proofs.lemmas.Option.{same_Some, slice_get_within}
use Rattle.insn_forms.specs.declared.forms.Change.{Change}
use Rattle.insn_forms.specs.declared.forms.Form.{Form}
use Rattle.insn_forms.specs.Spelling.{size}
use Rattle.insn_forms.proofs.Spellings.{size_pos}
use Rattle.module_image.proofs.Positions.{slice_get-set_other, slice_get-set_same}
use Rattle.poke_batch.specs.Underway.{AreApart}
use Rattle.poke_batch.specs.Walk.{new_form}
use Rattle.switching.specs.Switching.{with_new}

-- what stands at an index of a list in which one element was set
pub data AtSet {X : Type 0} (xs : List X) (c : ℕ) (x : X) (i : ℕ) (y : X) : Type 0 where
  at_it : i ≡ c → y ≡ x → AtSet xs c x i y
  beside_it : i ≢ c → slice_get xs i ≡ Some y → AtSet xs c x i y

pub at_set : {X : Type 0} (xs : List X) (c : ℕ) (x : X) (i : ℕ) (y : X) → slice_get (set xs c x) i ≡ Some y → AtSet xs c x i y
at_set {X = X} xs c x i y e = by (cases_order i c)
  where
    beside : i ≢ c → AtSet xs c x i y
    beside other = beside_it other (sym (slice_get-set_other xs c i x other) ∙ e)

    by : (i ≡ c) ⊎ ((i < c) ⊎ (c < i)) → AtSet xs c x i y
    by (inl same) =
        let below : i < length (set xs c x) = slice_get_within (set xs c x) i y e in
        let long = length-set xs c x in
        at_it same (same_Some y x (sym e ∙ slice_get-set_same xs c i x (omega (arith, same, below, long)) same))
    by (inr (inl less)) = beside (λ same. absurd (omega (arith, same, less)))
    by (inr (inr more)) = beside (λ same. absurd (omega (arith, same, more)))

-- the element that was set
pub set_there : {X : Type 0} (xs : List X) (c : ℕ) (x y : X) → slice_get xs c ≡ Some y → slice_get (set xs c x) c ≡ Some x
set_there xs c x y here = slice_get-set_same xs c c x (slice_get_within xs c y here) refl

-- the first element is one, and so is each later one
pub first_in : {X : Type 0} (x : X) (xs : List X) → Contains (x ∷ xs) x
first_in x xs = (0, omega arith, refl)

pub later_in : {X : Type 0} (x y : X) (xs : List X) → Contains xs y → Contains (x ∷ xs) y
later_in x y xs (k, below, is) = (suc k, omega (arith, below), is)

-- an empty list has no element
pub none_in : {X : Type 0} (x : X) → Contains [] x → ⊥
none_in x (k, below, is) = absurd (omega (arith, below))

-- an element of a list is the first, or one of the others
pub in_cases : {X : Type 0} (x y : X) (xs : List X) → Contains (x ∷ xs) y → (y ≡ x) ⊎ Contains xs y
in_cases x y xs (zero, below, is) = inl (sym is)
in_cases x y xs (suc k, below, is) = inr (k, omega (arith, below), is)

pub one_in : {X : Type 0} (x y : X) → Contains (x ∷ []) y → y ≡ x
one_in x y has = by (in_cases x y [] has)
  where
    by : (y ≡ x) ⊎ Contains [] y → y ≡ x
    by (inl same) = same
    by (inr none) = absurd (none_in y none)

-- an element of joined lists is one of a piece
pub in_range : {X : Type 0} (f : ℕ → List X) (a n : ℕ) (x : X) → Contains (flat_map f (range_with_len a n)) x → (i : ℕ) × (a ≤ i) × (i < a + n) × Contains (f i) x
in_range f a zero x has = absurd (none_in x has)
in_range {X = X} f a (suc n) x has = by (in_range f (a + 1) n x) (Contains-append_cases (f a) (flat_map f (range_with_len (a + 1) n)) x has)
  where
    by : (Contains (flat_map f (range_with_len (a + 1) n)) x → (i : ℕ) × (a + 1 ≤ i) × (i < a + 1 + n) × Contains (f i) x) → Contains (f a) x ⊎ Contains (flat_map f (range_with_len (a + 1) n)) x → (i : ℕ) × (a ≤ i) × (i < a + suc n) × Contains (f i) x
    by more (inl here) = (a, omega arith, omega arith, here)
    by more (inr later) =
        let rest = more later in
        (rest.0, omega (arith, rest.1), omega (arith, rest.2), rest.3)

-- an element of a piece is one of the joined lists
pub range_in : {X : Type 0} (f : ℕ → List X) (a n i : ℕ) (x : X) → a ≤ i → i < a + n → Contains (f i) x → Contains (flat_map f (range_with_len a n)) x
range_in f a zero i x from to has = absurd (omega (arith, from, to))
range_in {X = X} f a (suc n) i x from to has = by (range_in f (a + 1) n i x) (cases_order a i)
  where
    by : (a + 1 ≤ i → i < a + 1 + n → Contains (f i) x → Contains (flat_map f (range_with_len (a + 1) n)) x) → (a ≡ i) ⊎ ((a < i) ⊎ (i < a)) → Contains (f a ++ flat_map f (range_with_len (a + 1) n)) x
    by more (inl same) = Contains-append_left (f a) (flat_map f (range_with_len (a + 1) n)) x (subst (λ (k : ℕ). Contains (f k) x) (sym same) has)
    by more (inr (inl less)) = Contains-append_right (f a) (flat_map f (range_with_len (a + 1) n)) x (more (omega (arith, less)) (omega (arith, to)) has)
    by more (inr (inr other)) = absurd (omega (arith, other, from))

-- the change of the site at an address among some, and what the look-ups give
pub data Found (changes : List Change) (at : ℕ) : Type 0 where
  found : (c : Change) → Contains changes c → c.at ≡ at → find (λ (d : Change). d.at == at) changes ≡ Some c → ((forms : ℕ → Form) → with_new changes forms at ≡ c.new) → new_form changes at ≡ Some (c.new, size c.new) → Found changes at
  missed : ((c : Change) → Contains changes c → c.at ≡ at → ⊥) → find (λ (d : Change). d.at == at) changes ≡ None → ((forms : ℕ → Form) → with_new changes forms at ≡ forms at) → new_form changes at ≡ None → Found changes at

found_more : (c : Change) (changes : List Change) (at : ℕ) (same : Bool) → (c.at == at) ≡ same → Found changes at → Found (c ∷ changes) at
found_more c changes at true e rest =
    found c (first_in c changes) ((Decides-eqb c.at at).0 e)
    (ap (λ (b : Bool). cond b (Some c) (find (λ (d : Change). d.at == at) changes)) e)
    (λ forms. ap (λ (b : Bool). cond b c.new (with_new changes forms at)) e)
    (ap (λ (b : Bool). cond b (Some (c.new, size c.new)) (new_form changes at)) e)
found_more c changes at false e (found d has begins is new form) =
    found d (later_in c d changes has) begins
    (ap (λ (b : Bool). cond b (Some c) (find (λ (d : Change). d.at == at) changes)) e ∙ is)
    (λ forms. ap (λ (b : Bool). cond b c.new (with_new changes forms at)) e ∙ new forms)
    (ap (λ (b : Bool). cond b (Some (c.new, size c.new)) (new_form changes at)) e ∙ form)
found_more c changes at false e (missed none is new form) =
    missed (λ d has begins. elim (in_cases c d changes has) [
      | inl same ↦ (let clash : (c.at == at) ≡ true = (Decides-eqb c.at at).1 (ap (λ (x : Change). x.at) (sym same) ∙ begins) in absurd (cc))
      | inr later ↦ none d later begins
    ])
    (ap (λ (b : Bool). cond b (Some c) (find (λ (d : Change). d.at == at) changes)) e ∙ is)
    (λ forms. ap (λ (b : Bool). cond b c.new (with_new changes forms at)) e ∙ new forms)
    (ap (λ (b : Bool). cond b (Some (c.new, size c.new)) (new_form changes at)) e ∙ form)

pub look : (changes : List Change) (at : ℕ) → Found changes at
look [] at = missed (λ c has. absurd (none_in c has)) refl (λ forms. refl) refl
look (c ∷ changes) at = found_more c changes at (c.at == at) refl (look changes at)

-- two changes of a list whose sites don't overlap are one, or one ends before the other
pub data Placed (c d : Change) : Type 0 where
  one : c ≡ d → Placed c d
  before : c.at + size c.old ≤ d.at → Placed c d
  beyond : d.at + size d.old ≤ c.at → Placed c d

-- which element stands for none doesn't matter where there is one
pub same_default : {X : Type 0} (xs : List X) (k : ℕ) (x y : X) → k < length xs → get_or xs k y ≡ get_or xs k x
same_default [] k x y below = absurd (omega (arith, below))
same_default (z ∷ zs) zero x y below = refl
same_default (z ∷ zs) (suc k) x y below = same_default zs k x y (omega (arith, below))

pub placed : (changes : List Change) (c d : Change) → AreApart changes → Contains changes c → Contains changes d → Placed c d
placed changes c d apart (i, i_below, i_is) (j, j_below, j_is) = by (cases_order i j)
  where
    at_c : get_or changes i d ≡ c
    at_c = same_default changes i c d i_below ∙ i_is

    by : (i ≡ j) ⊎ ((i < j) ⊎ (j < i)) → Placed c d
    by (inl same) = one (sym at_c ∙ ap (λ (k : ℕ). get_or changes k d) same ∙ j_is)
    by (inr (inl less)) =
        before (subst (λ (x : Change). c.at + size c.old ≤ x.at) j_is
        (subst (λ (x : Change). x.at + size x.old ≤ (get_or changes j d).at) at_c (apart i j d less j_below)))
    by (inr (inr more)) =
        beyond (subst (λ (x : Change). d.at + size d.old ≤ x.at) at_c
        (subst (λ (x : Change). x.at + size x.old ≤ (get_or changes i d).at) j_is (apart j i d more i_below)))

-- so changes at one address are one
pub same_place : (changes : List Change) (c d : Change) → AreApart changes → Contains changes c → Contains changes d → c.at ≡ d.at → c ≡ d
same_place changes c d apart has also at = by (placed changes c d apart has also)
  where
    by : Placed c d → c ≡ d
    by (one same) = same
    by (before ends) = (let long = size_pos c.old in absurd (omega (arith, ends, long, at)))
    by (beyond ends) = (let long = size_pos d.old in absurd (omega (arith, ends, long, at)))

-- what holds of all pairs of joined lists holds of those of each, and across
pub pairs_left : {X : Type 0} (R : X → X → Type 0) (xs ys : List X) → AllPairs R (xs ++ ys) → AllPairs R xs
pairs_left R xs ys pairs i j d less below =
    let long = length-append xs ys in
    subst (λ (x : _). R x (get_or xs j d)) (get_or-append xs ys d i (omega (arith, less, below)))
    (subst (λ (y : _). R (get_or (xs ++ ys) i d) y) (get_or-append xs ys d j below) (pairs i j d less (omega (arith, long, below))))

pub pairs_right : {X : Type 0} (R : X → X → Type 0) (xs ys : List X) → AllPairs R (xs ++ ys) → AllPairs R ys
pairs_right R xs ys pairs i j d less below =
    let long = length-append xs ys in
    subst (λ (x : _). R x (get_or ys j d)) (get_or-append-add xs ys i d)
    (subst (λ (y : _). R (get_or (xs ++ ys) (length xs + i) d) y) (get_or-append-add xs ys j d)
    (pairs (length xs + i) (length xs + j) d (omega (arith, less)) (omega (arith, long, below))))

pub pairs_across : {X : Type 0} (R : X → X → Type 0) (xs ys : List X) (x y : X) → AllPairs R (xs ++ ys) → Contains xs x → Contains ys y → R x y
pairs_across R xs ys x y pairs (i, i_below, i_is) (j, j_below, j_is) =
    let long = length-append xs ys in
    let first : get_or (xs ++ ys) i y ≡ x = get_or-append xs ys y i i_below ∙ same_default xs i x y i_below ∙ i_is in
    let second : get_or (xs ++ ys) (length xs + j) y ≡ y = get_or-append-add xs ys j y ∙ j_is in
    subst (λ z. R z y) first (subst (λ z. R (get_or (xs ++ ys) i y) z) second (pairs i (length xs + j) y (omega (arith, i_below)) (omega (arith, long, j_below))))

-- forms after changes
pub with_new-append : (first more : List Change) (forms : ℕ → Form) (at : ℕ) → with_new (first ++ more) forms at ≡ with_new first (with_new more forms) at
with_new-append [] more forms at = refl
with_new-append (c ∷ first) more forms at = ap (λ (f : Form). cond (c.at == at) c.new f) (with_new-append first more forms at)

pub with_new-missed : (changes : List Change) (forms : ℕ → Form) (at : ℕ) → ((c : Change) → Contains changes c → c.at ≡ at → ⊥) → with_new changes forms at ≡ forms at
with_new-missed changes forms at none = by (look changes at)
  where
    by : Found changes at → with_new changes forms at ≡ forms at
    by (found c has begins is new form) = absurd (none c has begins)
    by (missed _ is new form) = new forms

pub with_new-found : (changes : List Change) (forms : ℕ → Form) (k : Change) → AreApart changes → Contains changes k → with_new changes forms k.at ≡ k.new
with_new-found changes forms k apart has = by (look changes k.at)
  where
    by : Found changes k.at → with_new changes forms k.at ≡ k.new
    by (found c among begins is new form) = new forms ∙ ap (λ (d : Change). d.new) (same_place changes c k apart among has begins)
    by (missed none is new form) = absurd (none k has refl)

-- the look-up of the change of a site finds it
pub found_there : (changes : List Change) (k : Change) → AreApart changes → Contains changes k → find (λ (d : Change). d.at == k.at) changes ≡ Some k
found_there changes k apart has = by (look changes k.at)
  where
    by : Found changes k.at → find (λ (d : Change). d.at == k.at) changes ≡ Some k
    by (found c among begins is new form) = is ∙ ap (λ (d : Change). Some d) (same_place changes c k apart among has begins)
    by (missed none is new form) = absurd (none k has refl)

pub form_there : (changes : List Change) (k : Change) → AreApart changes → Contains changes k → new_form changes k.at ≡ Some (k.new, size k.new)
form_there changes k apart has = by (look changes k.at)
  where
    by : Found changes k.at → new_form changes k.at ≡ Some (k.new, size k.new)
    by (found c among begins is new form) = form ∙ ap (λ (d : Change). Some (d.new, size d.new)) (same_place changes c k apart among has begins)
    by (missed none is new form) = absurd (none k has refl)
