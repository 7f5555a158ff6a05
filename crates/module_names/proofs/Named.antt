-- What names stand for: in a list and its parts, in a map, and once a name is given again.
use Rattle.std.proofs.Common.{◌≡◌, ◌∙◌, ℕ, Bool, true, false, List, [], ◌∷◌, ◌++◌, Option, None, Some, if◌then◌else◌, refl, sym, ap}
use Rattle.std.specs.Global.{Vec}
use Rattle.std.specs.Map.{lookup}
use Rattle.std.specs.Option.{option_or}
use Rattle.std.specs.Str.{bytes_eq}
use Rattle.std.proofs.lemmas.Slice.Eq.{bytes_eq-Decides}
use Rattle.indexmap.specs.IndexMap.{insert_entry}
use Rattle.module_names.specs.Names.{value_of}
use Rattle.module_names.specs.Naming.{named_in}

-- of two lists the first counts
pub value_of-append : {T : Type 0} (q : List ℕ) (xs ys : List (List ℕ × T)) → value_of q (xs ++ ys) ≡ option_or (value_of q xs) (value_of q ys)
value_of-append q [] ys = refl
value_of-append q (x ∷ xs) ys = step (bytes_eq q x.0) (value_of-append q xs ys)
  where
    step : (b : Bool) → value_of q (xs ++ ys) ≡ option_or (value_of q xs) (value_of q ys)
        → (if b then Some x.1 else value_of q (xs ++ ys)) ≡ option_or (if b then Some x.1 else value_of q xs) (value_of q ys)
    step true rest = refl
    step false rest = rest

-- lists in which names stand for the same do so with more after them
pub value_of-same : {T : Type 0} (q : List ℕ) (xs ys zs : List (List ℕ × T)) → value_of q xs ≡ value_of q ys → value_of q (xs ++ zs) ≡ value_of q (ys ++ zs)
value_of-same q xs ys zs e = value_of-append q xs zs ∙ ap (λ o. option_or o (value_of q zs)) e ∙ sym (value_of-append q ys zs)

-- to give a name again changes nothing
pub value_of-again : {T : Type 0} (name : List ℕ) (value old : T) (xs : List (List ℕ × T)) → value_of name xs ≡ Some old
    → (q : List ℕ) → value_of q xs ≡ value_of q (xs ++ (name, value) ∷ [])
value_of-again {T} name value old xs there q = by (value_of q xs) refl
  where
    other : (b : Bool) → bytes_eq q name ≡ b → value_of q xs ≡ None → None ≡ (if b then Some value else None)
    other true e none = absurd (cc (ap (λ n. value_of n xs) ((bytes_eq-Decides q name).0 e), there, none))
    other false e none = refl

    by : (o : Option T) → value_of q xs ≡ o → value_of q xs ≡ value_of q (xs ++ (name, value) ∷ [])
    by (Some v) e = e ∙ sym (value_of-append q xs ((name, value) ∷ []) ∙ ap (λ o. option_or o (value_of q ((name, value) ∷ []))) e)
    by None e =
        e ∙ other (bytes_eq q name) refl e
        ∙ sym (value_of-append q xs ((name, value) ∷ []) ∙ ap (λ o. option_or o (value_of q ((name, value) ∷ []))) e)

-- what a map finds
pub value_of-named_in : {T : Type 0} (q : List ℕ) (es : List (Vec ℕ × T)) → lookup (λ (k : Vec ℕ). bytes_eq q k.items) es ≡ value_of q (named_in es)
value_of-named_in q [] = refl
value_of-named_in q (e ∷ es) = ap (λ o. if bytes_eq q e.0.items then Some e.1 else o) (value_of-named_in q es)

-- a new name goes last
pub named_in-insert_entry : {T : Type 0} (k : Vec ℕ) (v : T) (es : List (Vec ℕ × T)) → value_of k.items (named_in es) ≡ None
    → named_in (insert_entry (λ (x y : Vec ℕ). bytes_eq x.items y.items) es k v) ≡ named_in es ++ (k.items, v) ∷ []
named_in-insert_entry k v [] none = refl
named_in-insert_entry k v (e ∷ es) none = step (bytes_eq k.items e.0.items) none (named_in-insert_entry k v es)
  where
    step : (b : Bool) → (if b then Some e.1 else value_of k.items (named_in es)) ≡ None
        → (value_of k.items (named_in es) ≡ None → named_in (insert_entry (λ (x y : Vec ℕ). bytes_eq x.items y.items) es k v) ≡ named_in es ++ (k.items, v) ∷ [])
        → named_in (if b then (e.0, v) ∷ es else e ∷ insert_entry (λ (x y : Vec ℕ). bytes_eq x.items y.items) es k v) ≡ (e.0.items, e.1) ∷ named_in es ++ (k.items, v) ∷ []
    step true none rest = absurd (cc)
    step false none rest = ap (λ ns. (e.0.items, e.1) ∷ ns) (rest none)
