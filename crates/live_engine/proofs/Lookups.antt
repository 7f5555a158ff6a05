-- Sites and changes of a plan that are looked up by their addresses.
use Rattle.std.proofs.Common.{◌≡◌, ◌≢◌, ◌+◌, ◌<◌, ◌≤◌, ℕ, zero, suc, Bool, true, false, if◌then◌else◌, ◌==◌, List, [], ◌∷◌, length, get_or, map, nat_lt, Some, None, Result, Ok, Err, All, AllPairs, refl, ap, sym, ◌∙◌, subst, arith}
use Rattle.std.specs.List.{slice_get}
use Rattle.std.specs.List.Sorted.{IsBinarySearchResult, IsSearchInRange}
use Rattle.std.specs.Option.{option_map}
use Rattle.std.specs.Ordering.{nat_cmp}
use Rattle.std.proofs.lemmas.Bool.{eq-eqb, ltb-true, ne_eqb}
use Rattle.std.proofs.lemmas.Option.{get_or_from_slice_get, slice_get-get_or, slice_get-map}
use Rattle.insn_forms.specs.declared.forms.Form.{Form}
use Rattle.insn_forms.specs.declared.forms.Form.TheVariants.{Nop2, Nop5, Jmp8, Jmp32, Call, Ret}
use Rattle.insn_forms.specs.declared.forms.Change.{Change}
use Rattle.insn_forms.specs.Spelling.{size}
use Rattle.live_text.specs.declared.plan.LiveSite.{LiveSite}
use Rattle.live_text.specs.Plan.{SitesApart}
use Rattle.poke_batch.specs.Walk.{new_form}
use Rattle.live_engine.proofs.Searches.{hit, missed}

-- a form has bytes
pub some-size : (form : Form) → 2 ≤ size form
some-size Nop2 = omega arith
some-size Nop5 = omega arith
some-size (Jmp8 target) = omega arith
some-size (Jmp32 target) = omega arith
some-size (Call target) = omega arith
some-size Ret = omega arith

-- sites that are apart ascend
pub sites-ascend : (sites : List LiveSite) → SitesApart sites → AllPairs (λ (s t : LiveSite). s.at < t.at) sites
sites-ascend sites apart i j d lt below =
    let s = get_or sites i d in
    let t = get_or sites j d in
    let before : s.at + size s.start ≤ t.at = apart i j d lt below in
    let long = some-size s.start in
    omega arith

-- the form of a change is found
pub found : (chunk : List Change) (at place : ℕ) (d : Change) → AllPairs (λ (p q : Change). p.at < q.at) chunk → place < length chunk → (get_or chunk place d).at ≡ at → new_form chunk at ≡ Some ((get_or chunk place d).new, size (get_or chunk place d).new)
found [] at place d up lt same = absurd (omega arith)
found (q ∷ chunk) at zero d up lt same =
    ap (λ (b : Bool). if b then Some (q.new, size q.new) else new_form chunk at) (eq-eqb q.at at same)
found (q ∷ chunk) at (suc place) d up lt same =
    let below : q.at < (get_or chunk place d).at = up 0 (suc place) d (omega arith) lt in
    let other : (q.at == at) ≡ false = ne_eqb q.at at (λ equal. omega arith) in
    ap (λ (b : Bool). if b then Some (q.new, size q.new) else new_form chunk at) other
    ∙ found chunk at place d (λ i j e less within. up (suc i) (suc j) e (omega arith) (omega arith)) (omega arith) same

-- no form is found where no change is there
pub not_found : (chunk : List Change) (at : ℕ) → All (λ (p : Change). p.at ≢ at) chunk → new_form chunk at ≡ None
not_found [] at none = refl
not_found (q ∷ chunk) at none =
    ap (λ (b : Bool). if b then Some (q.new, size q.new) else new_form chunk at) (ne_eqb q.at at (none 0 q (omega arith)))
    ∙ not_found chunk at (λ k d lt. none (suc k) d (omega arith))

-- the chunk with a number, as a list
pub chunk-there : {A : Type 0} (list : A → List Change) (xs : List A) (j : ℕ) (x : A) → true ≡ nat_lt j (length xs) → x ≡ get_or xs j x → slice_get (map list xs) j ≡ Some (list x)
chunk-there list xs j x within here =
    slice_get-map list xs j ∙ ap (option_map list) (slice_get-get_or xs j x (ltb-true j (length xs) (sym within)) ∙ ap Some (sym here))

-- a search answers the form of the change that is there
pub form-there : (xs chunk : List Change) (lists : List (List Change)) (j at place : ℕ) (r : Result ℕ ℕ) (x : Change) → xs ≡ chunk → slice_get lists j ≡ Some chunk → AllPairs (λ (p q : Change). p.at < q.at) chunk → IsBinarySearchResult (λ (p : Change). nat_cmp p.at at) xs r → IsSearchInRange r (length xs) → r ≡ Ok place → x ≡ get_or chunk place x → Some x.new ≡ option_map (λ (f : Form × ℕ). f.0) (new_form (get_or lists j []) at)
form-there xs chunk lists j at place r x same listed up searched bound is here =
    let by_place : IsBinarySearchResult (λ (p : Change). nat_cmp p.at at) chunk (Ok place) = subst (λ (ys : List Change). IsBinarySearchResult (λ (p : Change). nat_cmp p.at at) ys (Ok place)) same (subst (λ (answer : Result ℕ ℕ). IsBinarySearchResult (λ (p : Change). nat_cmp p.at at) xs answer) is searched) in
    let lt : place < length chunk = subst (λ (ys : List Change). place < length ys) same (subst (λ (answer : Result ℕ ℕ). IsSearchInRange answer (length xs)) is bound) in
    ap (λ (y : Change). Some y.new) here
    ∙ sym (ap (option_map (λ (f : Form × ℕ). f.0)) (found chunk at place x up lt (hit (λ (p : Change). p.at) chunk at place x by_place)))
    ∙ ap (λ (ys : List Change). option_map (λ (f : Form × ℕ). f.0) (new_form ys at)) (sym (get_or_from_slice_get lists j chunk [] listed))

pub form-missing : (xs chunk : List Change) (lists : List (List Change)) (j at place : ℕ) (r : Result ℕ ℕ) → xs ≡ chunk → slice_get lists j ≡ Some chunk → AllPairs (λ (p q : Change). p.at < q.at) chunk → IsBinarySearchResult (λ (p : Change). nat_cmp p.at at) xs r → r ≡ Err place → None ≡ option_map (λ (f : Form × ℕ). f.0) (new_form (get_or lists j []) at)
form-missing xs chunk lists j at place r same listed up searched is =
    let by_place : IsBinarySearchResult (λ (p : Change). nat_cmp p.at at) chunk (Err place) = subst (λ (ys : List Change). IsBinarySearchResult (λ (p : Change). nat_cmp p.at at) ys (Err place)) same (subst (λ (answer : Result ℕ ℕ). IsBinarySearchResult (λ (p : Change). nat_cmp p.at at) xs answer) is searched) in
    sym (ap (option_map (λ (f : Form × ℕ). f.0)) (not_found chunk at (missed (λ (p : Change). p.at) chunk at place up by_place)))
    ∙ ap (λ (ys : List Change). option_map (λ (f : Form × ℕ). f.0) (new_form ys at)) (sym (get_or_from_slice_get lists j chunk [] listed))

-- a search answers the number of the site that is there
pub site-there : (xs sites : List LiveSite) (at number : ℕ) (r : Result ℕ ℕ) (d : LiveSite) → xs ≡ sites → IsBinarySearchResult (λ (s : LiveSite). nat_cmp s.at at) xs r → IsSearchInRange r (length xs) → r ≡ Ok number → (number < length sites) × ((get_or sites number d).at ≡ at)
site-there xs sites at number r d same searched bound is =
    let by_place : IsBinarySearchResult (λ (s : LiveSite). nat_cmp s.at at) sites (Ok number) = subst (λ (ys : List LiveSite). IsBinarySearchResult (λ (s : LiveSite). nat_cmp s.at at) ys (Ok number)) same (subst (λ (answer : Result ℕ ℕ). IsBinarySearchResult (λ (s : LiveSite). nat_cmp s.at at) xs answer) is searched) in
    (subst (λ (ys : List LiveSite). number < length ys) same (subst (λ (answer : Result ℕ ℕ). IsSearchInRange answer (length xs)) is bound), hit (λ (s : LiveSite). s.at) sites at number d by_place)

pub site-missing : (xs sites : List LiveSite) (at place : ℕ) (r : Result ℕ ℕ) → xs ≡ sites → SitesApart sites → IsBinarySearchResult (λ (s : LiveSite). nat_cmp s.at at) xs r → r ≡ Err place → All (λ (s : LiveSite). s.at ≢ at) sites
site-missing xs sites at place r same apart searched is =
    let by_place : IsBinarySearchResult (λ (s : LiveSite). nat_cmp s.at at) sites (Err place) = subst (λ (ys : List LiveSite). IsBinarySearchResult (λ (s : LiveSite). nat_cmp s.at at) ys (Err place)) same (subst (λ (answer : Result ℕ ℕ). IsBinarySearchResult (λ (s : LiveSite). nat_cmp s.at at) xs answer) is searched) in
    missed (λ (s : LiveSite). s.at) sites at place (sites-ascend sites apart) by_place
