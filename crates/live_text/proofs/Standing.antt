-- What a plan that stands gives: sizes stay, sites keep their numbers, and every write is to a byte of a site.
use Rattle.std.proofs.Common.{◌≡◌, ◌⊎◌, inl, inr, ℕ, zero, suc, ◌+◌, ◌-◌, ◌<◌, ◌≤◌, ◌==◌, nat_lt, Bool, true, false, if◌then◌else◌, List, [], ◌∷◌, ◌++◌, length, take, get_or, refl, ap, sym, ◌∙◌, subst, arith, All, Some}
use Rattle.std.specs.Prelude.{slice_get}
use Rattle.std.specs.List.{Contains}
use Rattle.std.proofs.lemmas.Bool.{le-ltb}
use Rattle.std.proofs.lemmas.Bool.Decides.{Decides-eqb}
use Rattle.std.proofs.lemmas.List.{length-append, length-map, get_or-map, take_more, get_or_default}
use Rattle.std.proofs.lemmas.List.Elements.{All-contains}
use Rattle.insn_forms.specs.declared.forms.Form.{Form}
use Rattle.insn_forms.specs.declared.forms.Form.TheVariants.{Nop2}
use Rattle.insn_forms.specs.declared.forms.Change.{Change}
use Rattle.insn_forms.specs.Spelling.{size}
use Rattle.insn_forms.proofs.Spellings.{size_pos}
use Rattle.poke_batch.specs.Poke.{spelled}
use Rattle.live_text.specs.declared.plan.LivePlan.{LivePlan}
use Rattle.live_text.specs.declared.plan.LiveSite.{LiveSite}
use Rattle.live_text.specs.Plan.{chunks_of, changed, form_after, SitesApart, IsChange, IsChunk, Stands}
use Rattle.live_text.specs.Flat.{starts, place}
use Rattle.live_text.specs.Layout.{IsInRow}
use Rattle.live_text.proofs.Writes.{Has, has_from, has_contains}
use Rattle.live_text.proofs.Rounds.{length-spelled}
use Rattle.live_text.proofs.Bytes.{AreSpelt}

-- the first site ends before the sites after it begin
pub first_apart : (s : LiveSite) (sites : List LiveSite) (n : ℕ) (d : LiveSite) → SitesApart (s ∷ sites) → n < length sites → s.at + size s.start ≤ (get_or sites n d).at
first_apart s sites n d apart below = apart 0 (suc n) d (omega arith) (omega arith)

pub rest_apart : (s : LiveSite) (sites : List LiveSite) → SitesApart (s ∷ sites) → SitesApart sites
rest_apart s sites apart i j d lt below = apart (suc i) (suc j) d (omega arith) (omega arith)

rest_spelt : (s : LiveSite) (sites : List LiveSite) → AreSpelt (s ∷ sites) → AreSpelt sites
rest_spelt s sites spelt i d below = spelt (suc i) d (omega arith)

-- byte i of site n has the number i after the bytes of the sites before it
pub place_there : (sites : List LiveSite) (n i : ℕ) (d : LiveSite) → SitesApart sites → AreSpelt sites → n < length sites → i < size (get_or sites n d).start → place sites ((get_or sites n d).at + i) ≡ length (starts (take n sites)) + i
place_there [] n i d apart spelt below small = absurd (omega arith)
place_there (s ∷ sites) zero i d apart spelt below small =
    let same : s.at + i - s.at ≡ i = omega arith in
    let inside : s.at + i - s.at < size s.start = omega arith in
    ap (λ (t : Bool). if t then s.at + i - s.at else size s.start + place sites (s.at + i)) (yes (s.at + i - s.at) (size s.start) inside) ∙ same ∙ zero_first
  where
    yes : (a b : ℕ) → a < b → nat_lt a b ≡ true
    yes a b lt = grind (arith, Rattle.std.proofs.lemmas.Bool.Decides.nat_tests)

    zero_first : i ≡ 0 + i
    zero_first = omega arith
place_there (s ∷ sites) (suc n) i d apart spelt below small =
    let t : LiveSite = get_or sites n d in
    let after : s.at + size s.start ≤ t.at = first_apart s sites n d apart (omega arith) in
    let outside : size s.start ≤ t.at + i - s.at = omega arith in
    let rest : place sites (t.at + i) ≡ length (starts (take n sites)) + i = place_there sites n i d (rest_apart s sites apart) (rest_spelt s sites spelt) (omega arith) small in
    let long : length (spelled s.start s.at) ≡ size s.start = length-spelled s.start s.at (spelt 0 s (omega arith)) in
    let all : length (spelled s.start s.at ++ starts (take n sites)) ≡ length (spelled s.start s.at) + length (starts (take n sites)) = length-append (spelled s.start s.at) (starts (take n sites)) in
    let sum : size s.start + place sites (t.at + i) ≡ length (spelled s.start s.at ++ starts (take n sites)) + i = omega arith in
    ap (λ (b : Bool). if b then t.at + i - s.at else size s.start + place sites (t.at + i)) (le-ltb (t.at + i - s.at) (size s.start) outside) ∙ sum

-- sites that share an address are one
pub site_same : (sites : List LiveSite) (s t : LiveSite) (i j : ℕ) → SitesApart sites → Has sites s → Has sites t → i < size s.start → j < size t.start → s.at + i ≡ t.at + j → s ≡ t
site_same [] s t i j apart h g p q e = elim h [ ]
site_same (u ∷ sites) s t i j apart (inl a) (inl b) p q e = sym a ∙ b
site_same (u ∷ sites) s t i j apart (inl a) (inr g) p q e =
    let c : Contains sites t = has_contains sites t g in
    let order : u.at + size u.start ≤ (get_or sites c.0 t).at = first_apart u sites c.0 t apart c.1 in
    let order' : s.at + size s.start ≤ t.at = subst (λ (z : LiveSite × LiveSite). z.0.at + size z.0.start ≤ z.1.at) (λ k. (a k, c.2 k)) order in
    absurd (omega arith)
site_same (u ∷ sites) s t i j apart (inr h) (inl b) p q e =
    let c : Contains sites s = has_contains sites s h in
    let order : u.at + size u.start ≤ (get_or sites c.0 s).at = first_apart u sites c.0 s apart c.1 in
    let order' : t.at + size t.start ≤ s.at = subst (λ (z : LiveSite × LiveSite). z.0.at + size z.0.start ≤ z.1.at) (λ k. (b k, c.2 k)) order in
    absurd (omega arith)
site_same (u ∷ sites) s t i j apart (inr h) (inr g) p q e = site_same sites s t i j (rest_apart u sites apart) h g p q e

pub site_at : (sites : List LiveSite) (s t : LiveSite) → SitesApart sites → Has sites s → Has sites t → s.at ≡ t.at → s ≡ t
site_at sites s t apart h g e =
    let p : 0 < size s.start = size_pos s.start in
    let q : 0 < size t.start = size_pos t.start in
    site_same sites s t 0 0 apart h g p q (omega arith)

-- what a chunk makes of a site: nothing, or the new form of one of its changes
pub record IsNew (chunk : List Change) (at : ℕ) (form : Form) : Type 0 where
  pub change : Change
  pub has : Has chunk change
  pub there : change.at ≡ at
  pub new : form ≡ change.new

pub changed_cases : (chunk : List Change) (at : ℕ) (form : Form) → (changed chunk at form ≡ form) ⊎ IsNew chunk at (changed chunk at form)
changed_cases [] at form = inl refl
changed_cases (c ∷ chunk) at form = go (c.at == at) refl (changed_cases chunk at form)
  where
    go : (b : Bool) → (c.at == at) ≡ b → (changed chunk at form ≡ form) ⊎ IsNew chunk at (changed chunk at form) → ((if b then c.new else changed chunk at form) ≡ form) ⊎ IsNew (c ∷ chunk) at (if b then c.new else changed chunk at form)
    go true is rest = inr (record { change = c; has = inl refl; there = (Decides-eqb c.at at).0 is; new = refl })
    go false is (inl same) = inl same
    go false is (inr n) = inr (record { change = n.change; has = inr n.has; there = n.there; new = n.new })

pub form_more : (chunks : List (List Change)) (chunk : List Change) (at : ℕ) (form : Form) → form_after (chunks ++ chunk ∷ []) at form ≡ changed chunk at (form_after chunks at form)
form_more [] chunk at form = refl
form_more (c ∷ chunks) chunk at form = form_more chunks chunk at (changed c at form)

-- the chunks of a plan that stands, the first of them after so many
abbrev pub AreChunks : List LiveSite → List (List Change) → Type 0
AreChunks sites chunks = (j : ℕ) (chunk : List Change) → slice_get chunks j ≡ Some chunk → IsChunk sites (take j chunks) chunk

slice_there : (chunks : List (List Change)) (j : ℕ) (d : List Change) → j < length chunks → slice_get chunks j ≡ Some (get_or chunks j d)
slice_there [] j d below = absurd (omega arith)
slice_there (c ∷ chunks) zero d below = refl
slice_there (c ∷ chunks) (suc j) d below = slice_there chunks j d (omega arith)

-- a change of a chunk
pub change_in : (sites : List LiveSite) (earlier : List (List Change)) (chunk : List Change) (c : Change) → IsChunk sites earlier chunk → Has chunk c → IsChange sites earlier c
change_in sites earlier chunk c is has = All-contains (IsChange sites earlier) chunk c is.changes (has_contains chunk c has)

-- sizes stay
pub size_stays : (sites : List LiveSite) (chunks : List (List Change)) (s : LiveSite) (j : ℕ) → SitesApart sites → AreChunks sites chunks → Has sites s → j ≤ length chunks → size (form_after (take j chunks) s.at s.start) ≡ size s.start
size_stays sites chunks s zero apart are has le = refl
size_stays sites chunks s (suc j) apart are has le =
    let before : size (form_after (take j chunks) s.at s.start) ≡ size s.start = size_stays sites chunks s j apart are has (omega arith) in
    let chunk : List Change = get_or chunks j [] in
    let is : IsChunk sites (take j chunks) chunk = are j chunk (slice_there chunks j [] (omega arith)) in
    let more : take (suc j) chunks ≡ take j chunks ++ chunk ∷ [] = ap (λ (n : ℕ). take n chunks) (plus j) ∙ take_more chunks j [] (omega arith) in
    let after : form_after (take (suc j) chunks) s.at s.start ≡ changed chunk s.at (form_after (take j chunks) s.at s.start) = ap (λ (l : List (List Change)). form_after l s.at s.start) more ∙ form_more (take j chunks) chunk s.at s.start in
    ap size after
    ∙ elim (changed_cases chunk s.at (form_after (take j chunks) s.at s.start)) [
      | inl same ↦ ap size same ∙ before
      | inr n ↦ ap size n.new ∙ new_size (take j chunks) n.change (change_in sites (take j chunks) chunk n.change is n.has) n.there before
    ]
  where
    plus : (n : ℕ) → suc n ≡ n + 1
    plus n = omega arith

    new_size : (earlier : List (List Change)) (c : Change) → IsChange sites earlier c → c.at ≡ s.at → size (form_after earlier s.at s.start) ≡ size s.start → size c.new ≡ size s.start
    new_size earlier c is there before =
        let same : is.site ≡ s = site_at sites is.site s apart (has_from sites is.site is.listed) has (is.there ∙ there) in
        sym is.one_size
        ∙ ap size is.old_is
        ∙ ap (λ (z : ℕ × LiveSite). size (form_after earlier z.0 z.1.start)) (λ k. (there k, same k))
        ∙ before

-- a change has the size of its site
pub change_size : (sites : List LiveSite) (chunks : List (List Change)) (j : ℕ) (c : Change) (is : IsChange sites (take j chunks) c) → SitesApart sites → AreChunks sites chunks → j ≤ length chunks → size c.old ≡ size is.site.start
change_size sites chunks j c is apart are le =
    ap size is.old_is
    ∙ ap (λ (at : ℕ). size (form_after (take j chunks) at is.site.start)) (sym is.there)
    ∙ size_stays sites chunks is.site j apart are (has_from sites is.site is.listed) le

-- so each byte of a change is a byte of its site, by number too
pub record IsNumbered (sites : List LiveSite) (c : Change) : Type 0 where
  pub first : ℕ
  pub row : (i : ℕ) → i < size c.old → place sites (c.at + i) ≡ first + i
  pub below : first + size c.old ≤ length (starts sites)

starts_below : (sites : List LiveSite) (n : ℕ) (d : LiveSite) → AreSpelt sites → n < length sites → length (starts (take n sites)) + size (get_or sites n d).start ≤ length (starts sites)
starts_below [] n d spelt below = absurd (omega arith)
starts_below (s ∷ sites) zero d spelt below =
    let long : length (spelled s.start s.at) ≡ size s.start = length-spelled s.start s.at (spelt 0 s (omega arith)) in
    let all : length (spelled s.start s.at ++ starts sites) ≡ length (spelled s.start s.at) + length (starts sites) = length-append (spelled s.start s.at) (starts sites) in
    omega arith
starts_below (s ∷ sites) (suc n) d spelt below =
    let rest : length (starts (take n sites)) + size (get_or sites n d).start ≤ length (starts sites) = starts_below sites n d (rest_spelt s sites spelt) (omega arith) in
    let one : length (spelled s.start s.at ++ starts sites) ≡ length (spelled s.start s.at) + length (starts sites) = length-append (spelled s.start s.at) (starts sites) in
    let two : length (spelled s.start s.at ++ starts (take n sites)) ≡ length (spelled s.start s.at) + length (starts (take n sites)) = length-append (spelled s.start s.at) (starts (take n sites)) in
    omega arith

pub numbered : (sites : List LiveSite) (c : Change) (s : LiveSite) → SitesApart sites → AreSpelt sites → Contains sites s → s.at ≡ c.at → size c.old ≡ size s.start → IsNumbered sites c
numbered sites c s apart spelt listed there same =
    let n : ℕ = listed.0 in
    let is : get_or sites n s ≡ s = listed.2 in
    let small : size c.old ≡ size (get_or sites n s).start = same ∙ ap (λ (t : LiveSite). size t.start) (sym is) in
    let at : (get_or sites n s).at ≡ c.at = ap (λ (t : LiveSite). t.at) is ∙ there in
    let low : length (starts (take n sites)) + size (get_or sites n s).start ≤ length (starts sites) = starts_below sites n s spelt listed.1 in
    record {
      first = length (starts (take n sites));
      row = λ i below. ap (λ (a : ℕ). place sites (a + i)) (sym at) ∙ place_there sites n i s apart spelt listed.1 (omega arith);
      below = omega arith;
    }

pub change_numbered : (sites : List LiveSite) (chunks : List (List Change)) (j : ℕ) (c : Change) → SitesApart sites → AreSpelt sites → AreChunks sites chunks → j ≤ length chunks → IsChange sites (take j chunks) c → IsNumbered sites c
change_numbered sites chunks j c apart spelt are le is = numbered sites c is.site apart spelt is.listed is.there (change_size sites chunks j c is apart are le)

pub in_row : (sites : List LiveSite) (earlier : List (List Change)) (c : Change) → IsChange sites earlier c → IsNumbered sites c → IsInRow sites c
in_row sites earlier c is n =
    let some : 0 < size c.old = size_pos c.old in
    let same : size c.old ≡ size c.new = is.one_size in
    let first : place sites (c.at + 0) ≡ n.first + 0 = n.row 0 some in
    let at : c.at + 0 ≡ c.at = omega arith in
    let first' : place sites c.at ≡ n.first = ap (place sites) (sym at) ∙ first ∙ (omega arith) in
    record {
      row = λ i below. n.row i (omega arith) ∙ ap (λ (k : ℕ). k + i) (sym first');
      spelt = is.new_spelt;
    }

-- every chunk of a plan that stands
pub chunk_at : (plan : LivePlan) (j : ℕ) (d : List Change) → Stands plan → j < length (chunks_of plan) → IsChunk plan.sites.items (take j (chunks_of plan)) (get_or (chunks_of plan) j d)
chunk_at plan j d stands below = stands.chunks j (get_or (chunks_of plan) j d) (slice_there (chunks_of plan) j d below)

pub rows_at : (plan : LivePlan) (j : ℕ) (d : List Change) → Stands plan → j < length (chunks_of plan) → All (IsInRow plan.sites.items) (get_or (chunks_of plan) j d)
rows_at plan j d stands below i c small =
    let chunk : List Change = get_or (chunks_of plan) j d in
    let is : IsChange plan.sites.items (take j (chunks_of plan)) (get_or chunk i c) = (chunk_at plan j d stands below).changes i c small in
    in_row plan.sites.items (take j (chunks_of plan)) (get_or chunk i c) is (change_numbered plan.sites.items (chunks_of plan) j (get_or chunk i c) stands.apart stands.spelt stands.chunks (omega arith) is)

pub rows_of : (plan : LivePlan) → Stands plan → All (λ chunk. All (IsInRow plan.sites.items) chunk.items) plan.chunks.items
rows_of plan stands k d below =
    let count : length (chunks_of plan) ≡ length plan.chunks.items = length-map plan.chunks.items (λ chunk. chunk.items) in
    let same : get_or (chunks_of plan) k [] ≡ (get_or plan.chunks.items k d).items = get_or-map (λ chunk. chunk.items) plan.chunks.items k d [] below in
    subst (λ (chunk : List Change). All (IsInRow plan.sites.items) chunk) same (rows_at plan k [] stands (omega arith))

-- an address of a byte of a site, by the site's number
abbrev pub no_site : LiveSite
no_site = record { at = 0; start = Nop2 }

abbrev pub the_site : List LiveSite → ℕ → LiveSite
the_site sites n = get_or sites n no_site

pub record IsSited (sites : List LiveSite) (at : ℕ) : Type 0 where
  pub site : ℕ
  pub offset : ℕ
  pub listed : site < length sites
  pub inside : offset < size (the_site sites site).start
  pub there : (the_site sites site).at + offset ≡ at

-- as each byte of a change is
pub sited : (sites : List LiveSite) (c : Change) (s : LiveSite) (i at : ℕ) → Contains sites s → s.at ≡ c.at → size c.old ≡ size s.start → i < size c.old → at ≡ c.at + i → IsSited sites at
sited sites c s i at listed there same below is =
    let found : the_site sites listed.0 ≡ s = get_or_default sites listed.0 no_site s listed.1 ∙ listed.2 in
    let address : (the_site sites listed.0).at ≡ c.at = ap (λ (t : LiveSite). t.at) found ∙ there in
    let size_is : size (the_site sites listed.0).start ≡ size c.old = ap (λ (t : LiveSite). size t.start) found ∙ sym same in
    record { site = listed.0; offset = i; listed = listed.1; inside = omega arith; there = omega arith }
