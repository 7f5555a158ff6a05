-- The place of a site among the changes of a chunk, and what the chunk makes of the site.
use Rattle.std.proofs.Common.{◌≡◌, ◌≢◌, inl, inr, ℕ, zero, suc, ◌+◌, ◌<◌, ◌≤◌, ◌==◌, Bool, true, false, if◌then◌else◌, List, [], ◌∷◌, length, take, get_or, refl, ap, sym, ◌∙◌, subst, arith, Option, Some, None}
use Rattle.std.specs.Prelude.{slice_get, position, MatchOption}
use Rattle.std.specs.List.{Contains, position_or_len}
use Rattle.std.proofs.lemmas.Bool.Decides.{Decides-eqb}
use Rattle.std.proofs.lemmas.Grind.{common_steps}
use Rattle.std.proofs.lemmas.List.{take_more, take_all, get_or_default}
use Rattle.std.proofs.lemmas.List.Quantifiers.{position-Some}
use Rattle.std.proofs.lemmas.List.Sums.{fails_before_first}
use mathlib.Core.Logic.{dite}
use native.Mathlib.Decide.{dec_le}
use Rattle.insn_forms.specs.declared.forms.Form.{Form}
use Rattle.insn_forms.specs.declared.forms.Form.TheVariants.{Nop2}
use Rattle.insn_forms.specs.declared.forms.Change.{Change}
use Rattle.insn_forms.specs.Spelling.{size}
use Rattle.live_text.specs.declared.plan.LivePlan.{LivePlan}
use Rattle.live_text.specs.declared.plan.LiveSite.{LiveSite}
use Rattle.live_text.specs.Plan.{chunks_of, changed, form_after, IsChange, Stands}
use Rattle.live_text.specs.Own.{HasByte, site_of}
use Rattle.live_text.specs.Versions.{version, version_change, chunk_of, is_at, place_in}
use Rattle.live_text.specs.Laws.{ChunksMakeVersions}
use Rattle.live_text.proofs.Writes.{Has, has_from, has_contains}
use Rattle.live_text.proofs.Standing.{changed_cases, form_more, site_at, site_same, no_site, change_in, change_size, chunk_at}

-- an element by its place
pub get_there : {A : Type 0} (xs : List A) (i : ℕ) (d : A) → i < length xs → slice_get xs i ≡ Some (get_or xs i d)
get_there [] i d below = absurd (omega arith)
get_there (x ∷ xs) zero d below = refl
get_there (x ∷ xs) (suc i) d below = get_there xs i d (omega arith)

-- what a chunk makes of a form is the new form of the first change at the address
changed_first : (chunk : List Change) (i at : ℕ) (form : Form) (d : Change) → i < length chunk → ((get_or chunk i d).at == at) ≡ true → ((k : ℕ) → k < i → ((get_or chunk k d).at == at) ≡ false) → changed chunk at form ≡ (get_or chunk i d).new
changed_first [] i at form d below here before = absurd (omega arith)
changed_first (c ∷ chunk) zero at form d below here before =
    ap (λ (b : Bool). if b then c.new else changed chunk at form) here
changed_first (c ∷ chunk) (suc i) at form d below here before =
    ap (λ (b : Bool). if b then c.new else changed chunk at form) (before 0 (omega arith))
    ∙ changed_first chunk i at form d (omega arith) here (λ k lt. before (suc k) (omega arith))

-- a change of a chunk by its place
pub record IsPlaced (chunk : List Change) (at place : ℕ) : Type 0 where
  pub change : Change
  pub below : place < length chunk
  pub get : slice_get chunk place ≡ Some change
  pub has : Has chunk change
  pub there : change.at ≡ at
  pub new : (form : Form) → changed chunk at form ≡ change.new
  pub first : (k : ℕ) (d : Change) → k < place → (get_or chunk k d).at ≢ at

abbrev no_change : Change
no_change = record { at = 0; old = Nop2; new = Nop2 }

not_equal : (a b : ℕ) → (a == b) ≡ false → a ≢ b
not_equal a b differs is = let yes : (a == b) ≡ true = (Decides-eqb a b).1 is in absurd (cc)

pub placed_some : (chunk : List Change) (at place : ℕ) → position (is_at at) chunk ≡ Some place → IsPlaced chunk at place
placed_some chunk at place e =
    let found = position-Some (is_at at) chunk place no_change e in
    let c : Change = get_or chunk place no_change in
    record {
      change = c;
      below = found.0;
      get = get_there chunk place no_change found.0;
      has = has_from chunk c (place, found.0, get_or_default chunk place c no_change found.0);
      there = (Decides-eqb c.at at).0 found.1;
      new = λ form. changed_first chunk place at form no_change found.0 found.1 found.2;
      first = λ k d lt. not_equal (get_or chunk k d).at at ((position-Some (is_at at) chunk place d e).2 k lt);
    }

-- a chunk without a change there
abbrev pub HasNone : List Change → ℕ → Type 0
HasNone chunk at = (k : Change) → Has chunk k → k.at ≢ at

pub placed_none : (chunk : List Change) (at : ℕ) → position (is_at at) chunk ≡ None → HasNone chunk at
placed_none chunk at e k has =
    let all : length chunk ≤ position_or_len (is_at at) chunk = grind (arith, common_steps) in
    let place : Contains chunk k = has_contains chunk k has in
    let below : place.0 < length chunk = place.1 in
    let no : ((get_or chunk place.0 k).at == at) ≡ false = fails_before_first (is_at at) chunk place.0 k (omega arith) in
    subst (λ (c : Change). c.at ≢ at) place.2 (not_equal (get_or chunk place.0 k).at at no)

unchanged : (chunk : List Change) (at : ℕ) (form : Form) → HasNone chunk at → changed chunk at form ≡ form
unchanged chunk at form none_there =
    elim (changed_cases chunk at form) [
      | inl same ↦ same
      | inr n ↦ absurd (none_there n.change n.has n.there)
    ]

-- only a chunk of the plan has a change
pub has_below : (chunks : List (List Change)) (j : ℕ) (k : Change) → Has (get_or chunks j []) k → j < length chunks
has_below [] j k has = elim has [ ]
has_below (c ∷ chunks) zero k has = omega arith
has_below (c ∷ chunks) (suc j) k has = let rest : j < length chunks = has_below chunks j k has in omega arith

-- a site of the plan is one of its sites
pub has_site : (plan : LivePlan) (site : ℕ) → site < length plan.sites.items → Has plan.sites.items (site_of plan site)
has_site plan site below =
    has_from plan.sites.items (site_of plan site) (site, below, get_or_default plan.sites.items site (site_of plan site) no_site below)

-- the change of a chunk as the plan says it
pub is_change : (plan : LivePlan) (j : ℕ) (k : Change) → Stands plan → Has (chunk_of plan j) k → IsChange plan.sites.items (take j (chunks_of plan)) k
is_change plan j k stands has =
    change_in plan.sites.items (take j (chunks_of plan)) (chunk_of plan j) k (chunk_at plan j [] stands (has_below (chunks_of plan) j k has)) has

-- one chunk more
version_more : (plan : LivePlan) (j site : ℕ) → j < length (chunks_of plan) → version plan site (j + 1) ≡ changed (chunk_of plan j) (site_of plan site).at (version plan site j)
version_more plan j site below =
    let s : LiveSite = site_of plan site in
    ap (λ (l : List (List Change)). form_after l s.at s.start) (take_more (chunks_of plan) j [] below)
    ∙ form_more (take j (chunks_of plan)) (chunk_of plan j) s.at s.start

-- past the last chunk there are no more versions
version_past : (plan : LivePlan) (j site : ℕ) → length (chunks_of plan) ≤ j → version plan site (j + 1) ≡ version plan site j
version_past plan j site past =
    let s : LiveSite = site_of plan site in
    ap (λ (l : List (List Change)). form_after l s.at s.start) (take_all (j + 1) (chunks_of plan) (omega arith) ∙ sym (take_all j (chunks_of plan) past))

-- a site that a chunk has no change of keeps its version
pub stays : (plan : LivePlan) (j site : ℕ) → HasNone (chunk_of plan j) (site_of plan site).at → version plan site (j + 1) ≡ version plan site j
stays plan j site none_there =
    dite (dec_le (length (chunks_of plan)) j)
    (λ past. version_past plan j site past)
    (λ more.
    version_more plan j site (omega arith)
    ∙ unchanged (chunk_of plan j) (site_of plan site).at (version plan site j) none_there)

-- a change at the address of a site is of that site
same_site : (plan : LivePlan) (j site : ℕ) (k : Change) (is : IsChange plan.sites.items (take j (chunks_of plan)) k) → Stands plan → site < length plan.sites.items → k.at ≡ (site_of plan site).at → is.site ≡ site_of plan site
same_site plan j site k is stands listed there =
    site_at plan.sites.items is.site (site_of plan site) stands.apart (has_from plan.sites.items is.site is.listed) (has_site plan site listed) (is.there ∙ there)

-- and as long as it
pub size_there : (plan : LivePlan) (j site : ℕ) (k : Change) → Stands plan → site < length plan.sites.items → Has (chunk_of plan j) k → k.at ≡ (site_of plan site).at → size k.old ≡ size (site_of plan site).start
size_there plan j site k stands listed has there =
    let is : IsChange plan.sites.items (take j (chunks_of plan)) k = is_change plan j k stands has in
    let in_plan : j < length (chunks_of plan) = has_below (chunks_of plan) j k has in
    change_size plan.sites.items (chunks_of plan) j k is stands.apart stands.chunks (omega arith)
    ∙ ap (λ (t : LiveSite). size t.start) (same_site plan j site k is stands listed there)

same_change : (c : Change) (at : ℕ) (old new : Form) → c.at ≡ at → c.old ≡ old → c.new ≡ new → ◌≡◌ {A = Change} c (record { at = at; old = old; new = new })
same_change c at old new p q r i = record { at = p i; old = q i; new = r i }

-- the change of a site is the one from its version to the next
pub change_is : (plan : LivePlan) (j site : ℕ) (c : Change) → Stands plan → site < length plan.sites.items → Has (chunk_of plan j) c → c.at ≡ (site_of plan site).at → ((form : Form) → changed (chunk_of plan j) (site_of plan site).at form ≡ c.new) → c ≡ version_change plan site j
change_is plan j site c stands listed has there new =
    let s : LiveSite = site_of plan site in
    let is : IsChange plan.sites.items (take j (chunks_of plan)) c = is_change plan j c stands has in
    let same : is.site ≡ s = same_site plan j site c is stands listed there in
    let old : c.old ≡ version plan site j = is.old_is ∙ ap (λ (at : ℕ). form_after (take j (chunks_of plan)) at is.site.start) there ∙ ap (λ (t : LiveSite). form_after (take j (chunks_of plan)) s.at t.start) same in
    let next : c.new ≡ version plan site (j + 1) = sym (version_more plan j site (has_below (chunks_of plan) j c has) ∙ new (version plan site j)) in
    same_change c s.at (version plan site j) (version plan site (j + 1)) there old next

-- a byte of a site that the chunk has no change of is beside the sites of its changes
abbrev pub IsBeside : List Change → ℕ → Type 0
IsBeside chunk at = (k : Change) (i : ℕ) → Has chunk k → i < size k.old → at ≢ k.at + i

pub beside : (plan : LivePlan) (j site i : ℕ) → Stands plan → HasByte plan site i → HasNone (chunk_of plan j) (site_of plan site).at → IsBeside (chunk_of plan j) ((site_of plan site).at + i)
beside plan j site i stands at none_there k n has below meet =
    let s : LiveSite = site_of plan site in
    let is : IsChange plan.sites.items (take j (chunks_of plan)) k = is_change plan j k stands has in
    let in_plan : j < length (chunks_of plan) = has_below (chunks_of plan) j k has in
    let one_size : size k.old ≡ size is.site.start = change_size plan.sites.items (chunks_of plan) j k is stands.apart stands.chunks (omega arith) in
    let start : is.site.at ≡ k.at = is.there in
    let inside : i < size s.start = at.byte in
    let same : is.site ≡ s = site_same plan.sites.items is.site s n i stands.apart (has_from plan.sites.items is.site is.listed) (has_site plan site at.listed) (omega arith) inside (omega arith) in
    absurd (none_there k has (sym start ∙ ap (λ (t : LiveSite). t.at) same))

-- the law
pub chunks_make : ChunksMakeVersions
chunks_make plan j site stands listed = go (place_in plan j site) refl
  where
    go : (o : Option ℕ) → place_in plan j site ≡ o → MatchOption o (version plan site (j + 1) ≡ version plan site j) (λ place. slice_get (chunk_of plan j) place ≡ Some (version_change plan site j))
    go None e = stays plan j site (placed_none (chunk_of plan j) (site_of plan site).at e)
    go (Some place) e =
        let is : IsPlaced (chunk_of plan j) (site_of plan site).at place = placed_some (chunk_of plan j) (site_of plan site).at place e in
        is.get
        ∙ ap (λ (c : Change). Some c) (change_is plan j site is.change stands listed is.has is.there is.new)
