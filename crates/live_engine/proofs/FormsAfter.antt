-- Which form a site has after the changes of some chunks.
use Rattle.std.proofs.Common.{◌≡◌, ◌≢◌, ◌⊎◌, inl, inr, ◌∙◌, ◌<◌, ◌==◌, ℕ, suc, Bool, true, false, if◌then◌else◌, List, [], ◌∷◌, ◌++◌, get_or, All, AllPairs, refl, sym, ap, arith, true≢false}
use Rattle.std.specs.List.{flat_map}
use Rattle.std.proofs.lemmas.Bool.Decides.{Decides-eqb}
use Rattle.std.proofs.lemmas.List.Elements.{All-cons, All-head, All-nil, All-tail}
use Rattle.insn_forms.specs.declared.forms.Change.{Change}
use Rattle.insn_forms.specs.declared.forms.Form.{Form}
use Rattle.live_text.specs.Plan.{changed, form_after}

-- ---- the front and the rest of a joined list

-- what holds of all of both holds of all of each
pub all-left : {X : Type 0} (P : X → Type 0) (xs ys : List X) → All P (xs ++ ys) → All P xs
all-left P [] ys all = All-nil P
all-left P (x ∷ xs) ys all = All-cons P x xs (All-head P x (xs ++ ys) all) (all-left P xs ys (All-tail P x (xs ++ ys) all))

pub all-right : {X : Type 0} (P : X → Type 0) (xs ys : List X) → All P (xs ++ ys) → All P ys
all-right P [] ys all = all
all-right P (x ∷ xs) ys all = all-right P xs ys (All-tail P x (xs ++ ys) all)

-- the first is so with each later one, and the later ones among them
pub pairs-head : {X : Type 0} (R : X → X → Type 0) (x : X) (xs : List X) → AllPairs R (x ∷ xs) → All (R x) xs
pairs-head R x xs pairs = λ k d below. pairs 0 (suc k) d (omega arith) (omega arith)

pub pairs-tail : {X : Type 0} (R : X → X → Type 0) (x : X) (xs : List X) → AllPairs R (x ∷ xs) → AllPairs R xs
pairs-tail R x xs pairs = λ i j d lt below. pairs (suc i) (suc j) d (omega arith) (omega arith)

pub pairs-left : {X : Type 0} (R : X → X → Type 0) (xs ys : List X) → AllPairs R (xs ++ ys) → AllPairs R xs
pairs-left R [] ys pairs = λ i j d lt below. absurd (omega arith)
pairs-left R (x ∷ xs) ys pairs =
    Rattle.std.proofs.lemmas.List.Kept.AllPairs-cons R x xs (all-left (R x) xs ys (pairs-head R x (xs ++ ys) pairs)) (pairs-left R xs ys (pairs-tail R x (xs ++ ys) pairs))

pub pairs-right : {X : Type 0} (R : X → X → Type 0) (xs ys : List X) → AllPairs R (xs ++ ys) → AllPairs R ys
pairs-right R [] ys pairs = pairs
pairs-right R (x ∷ xs) ys pairs = pairs-right R xs ys (pairs-tail R x (xs ++ ys) pairs)

-- ---- changes that ascend

-- one change is at a lower address than another
abbrev pub Below : Change → Change → Type 0
Below c d = c.at < d.at

-- no change is at an address
abbrev pub Spares : List Change → ℕ → Type 0
Spares changes at = All (λ (c : Change). c.at ≢ at) changes

-- of changes that ascend, those before spare the addresses of those after
pub front-spares : (front rest : List Change) → AllPairs Below (front ++ rest) → All (λ (d : Change). Spares front d.at) rest
front-spares [] rest ascend = λ k d below. All-nil (λ (c : Change). c.at ≢ (get_or rest k d).at)
front-spares (c ∷ front) rest ascend =
    let later : All (Below c) rest = all-right (Below c) front rest (pairs-head Below c (front ++ rest) ascend) in
    let others = front-spares front rest (pairs-tail Below c (front ++ rest) ascend) in
    λ k d below.
    let lower : c.at < (get_or rest k d).at = later k d below in
    All-cons (λ (x : Change). x.at ≢ (get_or rest k d).at) c front (λ same. omega (arith, lower, same)) (others k d below)

-- ---- what changes make of one site

-- different numbers aren't found equal
differ : (a b : ℕ) → a ≢ b → (a == b) ≡ false
differ a b other = by (a == b) refl
  where
    by : (test : Bool) → (a == b) ≡ test → test ≡ false
    by false e = refl
    by true e = absurd (other ((Decides-eqb a b).0 e))

-- changes of other sites leave a form as it is
pub changed-elsewhere : (changes : List Change) (at : ℕ) (form : Form) → Spares changes at → changed changes at form ≡ form
changed-elsewhere [] at form spares = refl
changed-elsewhere (c ∷ changes) at form spares =
    ap (λ (b : Bool). if b then c.new else changed changes at form) (differ c.at at (All-head (λ (x : Change). x.at ≢ at) c changes spares))
    ∙ changed-elsewhere changes at form (All-tail (λ (x : Change). x.at ≢ at) c changes spares)

-- each change at an address gives this form
abbrev pub Give : ℕ → Form → List Change → Type 0
Give at form changes = All (λ (c : Change). c.at ≡ at → c.new ≡ form) changes

-- some change is at an address
abbrev pub Meets : ℕ → List Change → Type 0
Meets at [] = ⊥
Meets at (c ∷ changes) = (c.at ≡ at) ⊎ Meets at changes

pub meets-left : (at : ℕ) (xs ys : List Change) → Meets at xs → Meets at (xs ++ ys)
meets-left at [] ys meets = absurd meets
meets-left at (x ∷ xs) ys (inl here) = inl here
meets-left at (x ∷ xs) ys (inr later) = inr (meets-left at xs ys later)

pub meets-right : (at : ℕ) (xs ys : List Change) → Meets at ys → Meets at (xs ++ ys)
meets-right at [] ys meets = meets
meets-right at (x ∷ xs) ys meets = inr (meets-right at xs ys meets)

meets-cases : (at : ℕ) (xs ys : List Change) → Meets at (xs ++ ys) → Meets at xs ⊎ Meets at ys
meets-cases at [] ys meets = inr meets
meets-cases at (x ∷ xs) ys (inl here) = inl (inl here)
meets-cases at (x ∷ xs) ys (inr later) = elim (meets-cases at xs ys later) [ inl before ↦ inl (inr before) | inr after ↦ inr after ]

-- a site that has a form, or is changed, has it after changes that give it this one
pub changed-given : (changes : List Change) (at : ℕ) (form given : Form) → Give at given changes → (form ≡ given) ⊎ Meets at changes → changed changes at form ≡ given
changed-given [] at form given give (inl same) = same
changed-given [] at form given give (inr meets) = absurd meets
changed-given (c ∷ changes) at form given give had =
    by (λ later. changed-given changes at form given (All-tail (λ (x : Change). x.at ≡ at → x.new ≡ given) c changes give) later) (c.at == at) refl had
  where
    by : ((form ≡ given) ⊎ Meets at changes → changed changes at form ≡ given) → (test : Bool) → (c.at == at) ≡ test → (form ≡ given) ⊎ Meets at (c ∷ changes) → (if test then c.new else changed changes at form) ≡ given
    by rest true e had = All-head (λ (x : Change). x.at ≡ at → x.new ≡ given) c changes give ((Decides-eqb c.at at).0 e)
    by rest false e (inl same) = rest (inl same)
    by rest false e (inr (inl here)) = absurd (true≢false (sym ((Decides-eqb c.at at).1 here) ∙ e))
    by rest false e (inr (inr later)) = rest (inr later)

-- ---- what chunks make of it

-- the changes of some chunks, one after the other
abbrev pub joined : List (List Change) → List Change
joined chunks = flat_map (λ (chunk : List Change). chunk) chunks

-- the same for chunks
pub form-given : (chunks : List (List Change)) (at : ℕ) (form given : Form) → Give at given (joined chunks) → (form ≡ given) ⊎ Meets at (joined chunks) → form_after chunks at form ≡ given
form-given [] at form given give (inl same) = same
form-given [] at form given give (inr meets) = absurd meets
form-given (chunk ∷ chunks) at form given give had =
    form-given chunks at (changed chunk at form) given (all-right (λ (x : Change). x.at ≡ at → x.new ≡ given) chunk (joined chunks) give) (after had)
  where
    first : Give at given chunk
    first = all-left (λ (x : Change). x.at ≡ at → x.new ≡ given) chunk (joined chunks) give

    after : (form ≡ given) ⊎ Meets at (chunk ++ joined chunks) → (changed chunk at form ≡ given) ⊎ Meets at (joined chunks)
    after (inl same) = inl (changed-given chunk at form given first (inl same))
    after (inr meets) = elim (meets-cases at chunk (joined chunks) meets) [ inl here ↦ inl (changed-given chunk at form given first (inr here)) | inr later ↦ inr later ]

-- chunks and then others
pub form-append : (first more : List (List Change)) (at : ℕ) (form : Form) → form_after (first ++ more) at form ≡ form_after more at (form_after first at form)
form-append [] more at form = refl
form-append (chunk ∷ first) more at form = form-append first more at (changed chunk at form)
