-- The search for a site among those of a chunk.
use Rattle.std.proofs.Common.{◌≡◌, ◌≢◌, ◌+◌, ◌<◌, ◌≤◌, ℕ, zero, suc, Bool, true, false, if◌then◌else◌, nat_lt, ◌==◌, List, [], ◌∷◌, length, map, get_or, Some, None, Result, Ok, Err, All, AllPairs, Less, Equal, Greater, refl, ap, sym, ◌∙◌, subst, arith, le_of_eq, tests}
use Rattle.std.specs.List.Sorted.{IsBinarySearchResult, IsSearchInRange}
use Rattle.std.specs.Ordering.{nat_cmp, ordering_index}
use Rattle.std.proofs.lemmas.Bool.{eq-eqb, ltb-false, ltb-true, ne_eqb}
use Rattle.std.proofs.lemmas.Cmp.{ranked}
use Rattle.std.proofs.lemmas.List.{get_or-map, length-map}
use Rattle.insn_forms.specs.declared.forms.Change.{Change}
use Rattle.insn_forms.specs.Spelling.{size}
use Rattle.poke_batch.specs.declared.patch.Patch.{Patch}
use Rattle.poke_batch.specs.Inside.{change_of}
use Rattle.poke_batch.specs.Underway.{AreApart}
use Rattle.poke_batch.specs.Walk.{new_form}
use Rattle.poke_batch.proofs.Patches.{two-le-size}

-- sites that are apart ascend
pub ascending : (patches : List Patch) → AreApart (map change_of patches) → AllPairs (λ (p q : Patch). p.change.at < q.change.at) patches
ascending patches apart i j d lt below =
    let few : j < length (map change_of patches) = omega (arith, length-map patches change_of) in
    let p = get_or patches i d in
    let q = get_or patches j d in
    let left : get_or (map change_of patches) i d.change ≡ p.change = get_or-map change_of patches i d d.change (omega arith) in
    let right : get_or (map change_of patches) j d.change ≡ q.change = get_or-map change_of patches j d d.change below in
    let before = apart i j d.change lt few in
    let after : p.change.at + size p.change.old ≤ q.change.at =
    subst (λ (c : Change). p.change.at + size p.change.old ≤ c.at) right
    (subst (λ (c : Change). c.at + size c.old ≤ (get_or (map change_of patches) j d.change).at) left before) in
    let long = two-le-size p.change.old in
    omega arith

-- the form of a site is found
found : (chunk : List Patch) (at site : ℕ) (d : Patch) → AllPairs (λ (p q : Patch). p.change.at < q.change.at) chunk → site < length chunk → (get_or chunk site d).change.at ≡ at → new_form (map change_of chunk) at ≡ Some ((get_or chunk site d).change.new, size (get_or chunk site d).change.new)
found [] at site d up lt same = absurd (omega arith)
found (q ∷ chunk) at zero d up lt same =
    let here : (q.change.at == at) ≡ true = eq-eqb q.change.at at same in
    ap (λ (b : Bool). if b then Some (q.change.new, size q.change.new) else new_form (map change_of chunk) at) here
found (q ∷ chunk) at (suc site) d up lt same =
    let below : q.change.at < (get_or chunk site d).change.at = up 0 (suc site) d (omega arith) lt in
    let other : (q.change.at == at) ≡ false = ne_eqb q.change.at at (λ equal. omega arith) in
    ap (λ (b : Bool). if b then Some (q.change.new, size q.change.new) else new_form (map change_of chunk) at) other
    ∙ found chunk at site d (λ i j e less within. up (suc i) (suc j) e (omega arith) (omega arith)) (omega arith) same

-- no form is found where no site begins
not_found : (chunk : List Patch) (at : ℕ) → All (λ (p : Patch). p.change.at ≢ at) chunk → new_form (map change_of chunk) at ≡ None
not_found [] at none = refl
not_found (q ∷ chunk) at none =
    let other : (q.change.at == at) ≡ false = ne_eqb q.change.at at (none 0 q (omega arith)) in
    ap (λ (b : Bool). if b then Some (q.change.new, size q.change.new) else new_form (map change_of chunk) at) other
    ∙ not_found chunk at (λ k d lt. none (suc k) d (omega arith))

-- a comparison with a number rises
rises : (x a b : ℕ) → a ≤ b → ordering_index (nat_cmp a x) ≤ ordering_index (nat_cmp b x)
rises x a b le = grind (arith, tests)

-- the addresses don't fall
addresses_rise : (chunk : List Patch) (i j : ℕ) (d : Patch) → AllPairs (λ (p q : Patch). p.change.at < q.change.at) chunk → i ≤ j → j < length chunk → (before : Bool) → nat_lt i j ≡ before → (get_or chunk i d).change.at ≤ (get_or chunk j d).change.at
addresses_rise chunk i j d up le below true is =
    let less = up i j d (ltb-true i j is) below in
    omega arith
addresses_rise chunk i j d up le below false is =
    let end : j ≤ i = ltb-false i j is in
    let same : i ≡ j = omega arith in
    le_of_eq (ap (λ k. (get_or chunk k d).change.at) same)

-- a site before the place that a search by address answers begins before the address, and one after it after
apart_from : (at x place k : ℕ) (before : Bool) → nat_lt k place ≡ before → (k < place → nat_cmp x at ≡ Less) → (place ≤ k → nat_cmp x at ≡ Greater) → x ≢ at
apart_from at x place k true is less greater same =
    let below : x < at = ranked x at Less (sym (less (ltb-true k place is))) in
    omega arith
apart_from at x place k false is less greater same =
    let above : at < x = ranked x at Greater (sym (greater (ltb-false k place is))) in
    omega arith

-- a binary search by address over ascending sites finds a site where it begins
hit : (chunk : List Patch) (at site : ℕ) (d : Patch) → AllPairs (λ (p q : Patch). p.change.at < q.change.at) chunk → IsBinarySearchResult (λ (p : Patch). nat_cmp p.change.at at) chunk (Ok site) → site < length chunk → new_form (map change_of chunk) at ≡ Some ((get_or chunk site d).change.new, size (get_or chunk site d).change.new)
hit chunk at site d up searched lt =
    found chunk at site d up lt (ranked (get_or chunk site d).change.at at Equal (sym (searched d)))

-- and none only where none begins
missed : (chunk : List Patch) (at place : ℕ) → AllPairs (λ (p q : Patch). p.change.at < q.change.at) chunk → IsBinarySearchResult (λ (p : Patch). nat_cmp p.change.at at) chunk (Err place) → All (λ (p : Patch). p.change.at ≢ at) chunk
missed chunk at place up searched k d below =
    let parted = searched (λ i j e le within. rises at (get_or chunk i e).change.at (get_or chunk j e).change.at (addresses_rise chunk i j e up le within (nat_lt i j) refl)) in
    apart_from at (get_or chunk k d).change.at place k (nat_lt k place) refl (λ lt. parted.0 k d (omega arith) lt) (λ le. parted.1 k d le below)

-- what is found then is the form of the site that begins at the address
pub form_at-Ok : (chunk : List Patch) (at site : ℕ) (r : Result ℕ ℕ) (d : Patch) (n : ℕ) → AllPairs (λ (p q : Patch). p.change.at < q.change.at) chunk → IsBinarySearchResult (λ (p : Patch). nat_cmp p.change.at at) chunk r → IsSearchInRange r (length chunk) → r ≡ Ok site → n ≡ size (get_or chunk site d).change.new → Some ((get_or chunk site d).change.new, n) ≡ new_form (map change_of chunk) at
form_at-Ok chunk at site r d n up searched bound is size_is =
    let by_site : IsBinarySearchResult (λ (p : Patch). nat_cmp p.change.at at) chunk (Ok site) = subst (λ (answer : Result ℕ ℕ). IsBinarySearchResult (λ (p : Patch). nat_cmp p.change.at at) chunk answer) is searched in
    let lt : site < length chunk = subst (λ (answer : Result ℕ ℕ). IsSearchInRange answer (length chunk)) is bound in
    ap (λ k. Some ((get_or chunk site d).change.new, k)) size_is ∙ sym (hit chunk at site d up by_site lt)

pub form_at-Err : (chunk : List Patch) (at place : ℕ) (r : Result ℕ ℕ) → AllPairs (λ (p q : Patch). p.change.at < q.change.at) chunk → IsBinarySearchResult (λ (p : Patch). nat_cmp p.change.at at) chunk r → r ≡ Err place → None ≡ new_form (map change_of chunk) at
form_at-Err chunk at place r up searched is =
    sym (not_found chunk at (missed chunk at place up (subst (λ (answer : Result ℕ ℕ). IsBinarySearchResult (λ (p : Patch). nat_cmp p.change.at at) chunk answer) is searched)))
