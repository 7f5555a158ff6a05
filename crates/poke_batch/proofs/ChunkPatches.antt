-- The patches of a chunk, and what is due in it.
use Rattle.std.proofs.Common.{◌≡◌, ◌+◌, ◌-◌, ◌^◌, ◌<◌, ◌≤◌, ℕ, zero, suc, Bool, true, false, if◌then◌else◌, nat_lt, List, [], ◌∷◌, length, map, min, drop, take, get_or, All, AllPairs, ap, sym, ◌∙◌, subst, arith, add-zero, length-drop}
use Rattle.std.proofs.lemmas.Bool.{le-ltb, lt-ltb}
use Rattle.std.proofs.lemmas.List.{drop-map, get_or-drop, get_or-map, get_or-take, length-map, length-take, take-map, take_all, take_min}
use Rattle.insn_forms.specs.declared.forms.Change.{Change}
use Rattle.insn_forms.specs.Spelling.{size}
use Rattle.poke_batch.specs.declared.batch.Due.{Due}
use Rattle.poke_batch.specs.declared.batch.Due.TheVariants.{Write as Writes}
use Rattle.poke_batch.specs.declared.patch.Patch.{Patch}
use Rattle.poke_batch.specs.declared.stage.Stage.{Stage}
use Rattle.poke_batch.specs.declared.stage.Stage.TheVariants.{Trap, Tail, First}
use Rattle.poke_batch.specs.Inside.{change_of, chunk_at, due_in}
use Rattle.poke_batch.specs.Patch.{IsSpelt}
use Rattle.poke_batch.specs.Poke.{spelled}
use Rattle.poke_batch.specs.Stage.{IsInside, after_due, site_size, tail_after}
use Rattle.poke_batch.proofs.Stages.{IsWhole, byte_due, first_due, site_size-is, site_size-most, trap_due}

-- the changes of a chunk of patches are the chunk of the changes
pub chunk-map : (from : ℕ) (patches : List Patch) → map change_of (take 256 (drop from patches)) ≡ chunk_at from (map change_of patches)
chunk-map from patches = sym (ap (take 256) (drop-map change_of from patches) ∙ take-map change_of 256 (drop from patches))

-- an element of a chunk stands in the whole list
record Within {X : Type 0} (from : ℕ) (xs : List X) (k : ℕ) (d : X) : Type 0 where
  lt : from + k < length xs
  is : get_or (take 256 (drop from xs)) k d ≡ get_or xs (from + k) d

within : {X : Type 0} (from : ℕ) (xs : List X) (k : ℕ) (d : X) → k < length (take 256 (drop from xs)) → Within from xs k d
within from xs k d below =
    let first : k < 256 = omega (arith, length-take 256 (drop from xs)) in
    record {
      lt = omega (arith, length-take 256 (drop from xs), length-drop from xs);
      is = get_or-take 256 (drop from xs) k d first ∙ get_or-drop from xs k d;
    }

-- what holds of all holds in a chunk
pub chunk-all : {X : Type 0} (P : X → Type 0) (from : ℕ) (xs : List X) → All P xs → All P (take 256 (drop from xs))
chunk-all P from xs all k d below =
    let there = within from xs k d below in
    subst P (sym there.is) (all (from + k) d there.lt)

pub chunk-pairs : {X : Type 0} (R : X → X → Type 0) (from : ℕ) (xs : List X) → AllPairs R xs → AllPairs R (take 256 (drop from xs))
chunk-pairs R from xs all i j d lt below =
    let left = within from xs i d (omega arith) in
    let right = within from xs j d below in
    subst (λ x. R x (get_or (take 256 (drop from xs)) j d)) (sym left.is)
    (subst (λ x. R (get_or xs (from + i) d) x) (sym right.is) (all (from + i) (from + j) d (omega arith) right.lt))

-- patches that are spelt have whole spellings
pub whole_of : (patches : List Patch) → All IsSpelt patches → All IsWhole (map change_of patches)
whole_of [] spelt k d below = absurd (omega arith)
whole_of (p ∷ patches) spelt zero d below =
    let here = spelt 0 p (omega arith) in
    record { whole = sym (ap length here.code) ∙ here.whole }
whole_of (p ∷ patches) spelt (suc k) d below =
    whole_of patches (λ i e lt. spelt (suc i) e (omega arith)) k d (omega arith)

-- the change of a patch is the change at its site
change_at : (patches : List Patch) (site : ℕ) (d : Patch) (c : Change) → site < length patches → (get_or patches site d).change ≡ get_or (map change_of patches) site c
change_at patches site d c lt = sym (get_or-map change_of patches site d c lt)

-- a site of the patches is one of their changes
few : (patches : List Patch) (site : ℕ) → site < length (map change_of patches) → site < length patches
few patches site lt = omega (arith, length-map patches change_of)

-- how many bytes the site of a patch takes
size_at : (patches : List Patch) (site : ℕ) (d : Patch) → site < length (map change_of patches) → site_size (map change_of patches) site ≡ size (get_or patches site d).change.new
size_at patches site d lt =
    site_size-is (map change_of patches) site d.change lt
    ∙ ap (λ (c : Change). size c.new) (sym (change_at patches site d d.change (few patches site lt)))

-- the due byte of a tail is one of its site
pub byte_within : (patches : List Patch) (stage : Stage) (site place : ℕ) (p : Patch) → IsInside (map change_of patches) stage → All IsSpelt patches → stage ≡ Tail site place → p ≡ get_or patches site p → place < length p.code.items
byte_within patches stage site place p inside spelt is same =
    let within : (site < length (map change_of patches)) × (place < site_size (map change_of patches) site) = subst (λ (s : Stage). IsInside (map change_of patches) s) is inside in
    let size_is : site_size (map change_of patches) site ≡ size p.change.new = size_at patches site p within.0 ∙ ap (λ (q : Patch). size q.change.new) (sym same) in
    let whole : length p.code.items ≡ size p.change.new = (subst IsSpelt (sym same) (spelt site p (few patches site within.0))).whole in
    let lt = within.1 in
    omega arith

-- what is due in the chunk of the patches
pub trap_of : (patches : List Patch) (stage : Stage) (site : ℕ) (d : Patch) → IsInside (map change_of patches) stage → stage ≡ Trap site → Writes (get_or patches site d).change.at 0xcc ≡ due_in stage (map change_of patches)
trap_of patches stage site d inside is =
    let lt : site < length (map change_of patches) = subst (λ (s : Stage). IsInside (map change_of patches) s) is inside in
    trap_due (map change_of patches) site (get_or patches site d).change lt (change_at patches site d (get_or patches site d).change (few patches site lt))
    ∙ ap (λ (s : Stage). due_in s (map change_of patches)) (sym is)

pub byte_of : (patches : List Patch) (stage : Stage) (site place : ℕ) (p : Patch) (due : Due) → IsInside (map change_of patches) stage → All IsSpelt patches → stage ≡ Tail site place → p ≡ get_or patches site p → due ≡ Writes (p.change.at + place) (get_or p.code.items place 0) → due ≡ due_in stage (map change_of patches)
byte_of patches stage site place p due inside spelt is same writes =
    let within : (site < length (map change_of patches)) × (place < site_size (map change_of patches) site) = subst (λ (s : Stage). IsInside (map change_of patches) s) is inside in
    let lt = few patches site within.0 in
    let here : IsSpelt p = subst IsSpelt (sym same) (spelt site p lt) in
    let byte : place < length (spelled p.change.new p.change.at) = subst (λ bytes. place < length bytes) here.code (byte_within patches stage site place p inside spelt is same) in
    let change : p.change ≡ get_or (map change_of patches) site p.change = ap (λ (q : Patch). q.change) same ∙ change_at patches site p p.change lt in
    writes ∙ ap (λ bytes. Writes (p.change.at + place) (get_or bytes place 0)) here.code
    ∙ byte_due (map change_of patches) site place p.change within.0 change byte
    ∙ ap (λ (s : Stage). due_in s (map change_of patches)) (sym is)

pub first_of : (patches : List Patch) (stage : Stage) (site : ℕ) (p : Patch) (due : Due) → IsInside (map change_of patches) stage → All IsSpelt patches → stage ≡ First site → p ≡ get_or patches site p → due ≡ Writes (p.change.at + 0) (get_or p.code.items 0 0) → due ≡ due_in stage (map change_of patches)
first_of patches stage site p due inside spelt is same writes =
    let lt : site < length (map change_of patches) = subst (λ (s : Stage). IsInside (map change_of patches) s) is inside in
    let here : IsSpelt p = subst IsSpelt (sym same) (spelt site p (few patches site lt)) in
    let change : p.change ≡ get_or (map change_of patches) site p.change = ap (λ (q : Patch). q.change) same ∙ change_at patches site p p.change (few patches site lt) in
    writes ∙ ap (λ at. Writes at (get_or p.code.items 0 0)) (add-zero p.change.at)
    ∙ ap (λ bytes. Writes p.change.at (get_or bytes 0 0)) here.code
    ∙ first_due (map change_of patches) site p.change lt change
    ∙ ap (λ (s : Stage). due_in s (map change_of patches)) (sym is)

-- the place after the due byte of a tail fits a byte
pub place_fits : (patches : List Patch) (stage : Stage) (site place : ℕ) → IsInside (map change_of patches) stage → stage ≡ Tail site place → place + 1 < 2 ^ 8
place_fits patches stage site place inside is =
    let within : (site < length (map change_of patches)) × (place < site_size (map change_of patches) site) = subst (λ (s : Stage). IsInside (map change_of patches) s) is inside in
    let lt = within.1 in
    omega (arith, site_size-most (map change_of patches) site)

-- the stage after the due byte of a tail
pub byte_then : (patches : List Patch) (stage : Stage) (site place n : ℕ) (d : Patch) → IsInside (map change_of patches) stage → stage ≡ Tail site place → n ≡ size (get_or patches site d).change.new → place + 1 < n → Tail site (place + 1) ≡ after_due (map change_of patches) stage
byte_then patches stage site place n d inside is size_is lt =
    let within : (site < length (map change_of patches)) × (place < site_size (map change_of patches) site) = subst (λ (s : Stage). IsInside (map change_of patches) s) is inside in
    let more : nat_lt (place + 1) (site_size (map change_of patches) site) ≡ true = lt-ltb (place + 1) (site_size (map change_of patches) site) (let long = size_at patches site d within.0 in omega arith) in
    sym (ap (λ (b : Bool). if b then Tail site (place + 1) else tail_after site (length (map change_of patches))) more)
    ∙ ap (λ (s : Stage). after_due (map change_of patches) s) (sym is)

pub byte_else : (patches : List Patch) (stage next : Stage) (site place n : ℕ) (d : Patch) → IsInside (map change_of patches) stage → stage ≡ Tail site place → n ≡ size (get_or patches site d).change.new → n ≤ place + 1 → next ≡ tail_after site (length patches) → next ≡ after_due (map change_of patches) stage
byte_else patches stage next site place n d inside is size_is le next_is =
    let within : (site < length (map change_of patches)) × (place < site_size (map change_of patches) site) = subst (λ (s : Stage). IsInside (map change_of patches) s) is inside in
    let last : nat_lt (place + 1) (site_size (map change_of patches) site) ≡ false = le-ltb (place + 1) (site_size (map change_of patches) site) (let long = size_at patches site d within.0 in omega arith) in
    next_is ∙ ap (λ sites. tail_after site sites) (sym (length-map patches change_of))
    ∙ sym (ap (λ (b : Bool). if b then Tail site (place + 1) else tail_after site (length (map change_of patches))) last)
    ∙ ap (λ (s : Stage). after_due (map change_of patches) s) (sym is)

-- as much as there is of a chunk
pub chunk_is : {X : Type 0} (n from : ℕ) (xs : List X) → n ≡ min (length (take (length xs - from) (drop from xs))) 256 → take n (take (length xs - from) (drop from xs)) ≡ take 256 (drop from xs)
chunk_is n from xs n_is =
    let all : take (length xs - from) (drop from xs) ≡ drop from xs = take_all (length xs - from) (drop from xs) (omega (arith, length-drop from xs)) in
    let long : n ≡ min (length (drop from xs)) 256 = n_is ∙ ap (λ ys. min (length ys) 256) all in
    let short : n ≡ min 256 (length (drop from xs)) = omega arith in
    ap (λ ys. take n ys) all ∙ ap (λ k. take k (drop from xs)) short ∙ take_min 256 (drop from xs)
