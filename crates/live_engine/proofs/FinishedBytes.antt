-- The bytes of all sites when all writes of a plan are done: those of each site's last form.
use Rattle.std.proofs.Common.{◌≡◌, ◌∙◌, ◌+◌, ◌-◌, ◌*◌, ◌/◌, ◌<◌, ◌≤◌, inl, inr, ℕ, suc, List, [], ◌∷◌, length, get_or, take, None, sym, ap, subst, arith, length-append}
use Rattle.std.specs.Prelude.{slice_index}
use Rattle.std.specs.List.{flat_map, position}
use Rattle.std.specs.Option.{is_some}
use Rattle.std.proofs.lemmas.Bool.{cases_lt}
use Rattle.std.proofs.lemmas.List.{get_or-take, get_or_default, get_or_past, length-take, same_lists, take_all}
use Rattle.std.proofs.lemmas.List.Concat.{get_or-flat_map}
use Rattle.insn_forms.specs.declared.forms.Change.{Change}
use Rattle.insn_forms.specs.declared.forms.Form.TheVariants.{Nop2}
use Rattle.live_text.specs.declared.plan.LivePlan.{LivePlan}
use Rattle.live_text.specs.declared.plan.LiveSite.{LiveSite}
use Rattle.live_text.specs.declared.view.View.{View}
use Rattle.live_text.specs.Flat.{shape_of, starts}
use Rattle.live_text.specs.Laws.{ChunksHaveThreeRequests, ChunksMakeVersions, IsBetween, OtherBytesAreOfTheForm}
use Rattle.live_text.specs.Own.{AreBytes, HasByte, byte_number, site_of}
use Rattle.live_text.specs.Past.{cut, value}
use Rattle.live_text.specs.Plan.{Stands, chunks_of, form_after}
use Rattle.live_text.specs.Seats.{NoneDue}
use Rattle.live_text.specs.Versions.{is_at, place_in}
use Rattle.poke_batch.specs.Poke.{spelled}
use Rattle.live_engine.specs.LivePlan.{last_bytes}
use Rattle.live_engine.proofs.FetchSteps.{length-spelled}
use Rattle.live_engine.proofs.LastBytes.{cut-last, last-length, last-size, lengths}

-- ---- an item of lists side by side

-- a site by its number, as a plan has it
abbrev at-number : List LiveSite → ℕ → LiveSite
at-number sites site = get_or sites site (record { at = 0; start = Nop2 })

-- item b is item j of the list of one of the sites
record IsPiece (f : LiveSite → List ℕ) (sites : List LiveSite) (b : ℕ) : Type 0 where
  site : ℕ
  j : ℕ
  listed : site < length sites
  inside : j < length (f (at-number sites site))
  number : b ≡ length (flat_map f (take site sites)) + j

piece-later : (f : LiveSite → List ℕ) (s : LiveSite) (sites : List LiveSite) (b : ℕ) → length (f s) ≤ b → IsPiece f sites (b - length (f s)) → IsPiece f (s ∷ sites) b
piece-later f s sites b past piece =
    let listed = piece.listed in
    let number = piece.number in
    record {
      site = suc piece.site;
      j = piece.j;
      listed = omega (arith, listed);
      inside = piece.inside;
      number = omega (arith, past, number, length-append (f s) (flat_map f (take piece.site sites)));
    }

find-piece : (f : LiveSite → List ℕ) (sites : List LiveSite) (b : ℕ) → b < length (flat_map f sites) → IsPiece f sites b
find-piece f [] b below = absurd (omega (arith, below))
find-piece f (s ∷ sites) b below =
    elim (cases_lt b (length (f s))) [
      | inl here ↦ record { site = 0; j = b; listed = omega arith; inside = here; number = omega arith }
      | inr past ↦ piece-later f s sites b past (find-piece f sites (b - length (f s)) (omega (arith, below, past, length-append (f s) (flat_map f sites))))
    ]

-- ---- after the last write

-- the bytes with which a site starts, and those of its last form
abbrev first-code : LiveSite → List ℕ
first-code s = spelled s.start s.at

abbrev last-code : LivePlan → LiveSite → List ℕ
last-code plan s = spelled (form_after (chunks_of plan) s.at s.start) s.at

-- all writes lie between the last request and none
all-between : (plan : LivePlan) (cpus : ℕ) → ChunksHaveThreeRequests → IsBetween (shape_of plan cpus) (3 * length (chunks_of plan)) (length (shape_of plan cpus).writes)
all-between plan cpus three =
    let last = cut-last plan cpus in
    let past : cut (shape_of plan cpus) (3 * length (chunks_of plan) + 1) ≡ length (shape_of plan cpus).writes = get_or_past (shape_of plan cpus).cuts (3 * length (chunks_of plan) + 1) (length (shape_of plan cpus).writes) (omega (arith, three plan cpus)) in
    record { from = omega (arith, last); to = omega (arith, past) }

-- no chunk comes after the last
none-after : (plan : LivePlan) (site n : ℕ) → n ≡ length (chunks_of plan) → place_in plan n site ≡ None
none-after plan site n is =
    ap (λ (chunk : List Change). position (is_at (site_of plan site).at) chunk) (get_or_past (chunks_of plan) n [] (omega (arith, is)))

-- each byte of a site is then that of its last form
last-byte : (plan : LivePlan) (cpus site j : ℕ) → ChunksHaveThreeRequests → OtherBytesAreOfTheForm → Stands plan → HasByte plan site j → value (shape_of plan cpus) (length (shape_of plan cpus).writes) (byte_number plan site j) ≡ slice_index (last-code plan (site_of plan site)) j
last-byte plan cpus site j three others stands has =
    let n = length (chunks_of plan) in
    let third : 3 * n / 3 ≡ n = omega arith in
    let all : take (3 * n / 3) (chunks_of plan) ≡ chunks_of plan = take_all (3 * n / 3) (chunks_of plan) (omega (arith, third)) in
    others plan cpus (3 * n) (length (shape_of plan cpus).writes) site j stands has (all-between plan cpus three) (ap is_some (none-after plan site (3 * n / 3) third))
    ∙ ap (λ (cs : List (List Change)). slice_index (spelled (form_after cs (site_of plan site).at (site_of plan site).start) (site_of plan site).at) j) all

-- a byte of the last forms, by its site
record IsLastByte (plan : LivePlan) (b : ℕ) : Type 0 where
  site : ℕ
  j : ℕ
  has : HasByte plan site j
  number : b ≡ byte_number plan site j
  is : slice_index (last_bytes plan) b ≡ slice_index (last-code plan (site_of plan site)) j

-- the sites before one have as many bytes last as at first
before-size : (plan : LivePlan) (site : ℕ) → ChunksMakeVersions → Stands plan → length (flat_map (last-code plan) (take site plan.sites.items)) ≡ length (starts (take site plan.sites.items))
before-size plan site makes stands =
    lengths (last-code plan) first-code (take site plan.sites.items)
    (λ k d below.
    let few = length-take site plan.sites.items in
    let here : get_or (take site plan.sites.items) k d ≡ get_or plan.sites.items k d = get_or-take site plan.sites.items k d (omega (arith, below, few)) in
    ap (λ (s : LiveSite). length (last-code plan s)) here
    ∙ last-size makes plan stands k d (omega (arith, below, few))
    ∙ ap (λ (s : LiveSite). length (first-code s)) (sym here))

byte-there : (plan : LivePlan) (b : ℕ) → ChunksMakeVersions → Stands plan → IsPiece (last-code plan) plan.sites.items b → IsLastByte plan b
byte-there plan b makes stands piece =
    let sites = plan.sites.items in
    let none : LiveSite = record { at = 0; start = Nop2 } in
    let long = last-size makes plan stands piece.site none piece.listed in
    let first = length-spelled (site_of plan piece.site).start (site_of plan piece.site).at (stands.spelt piece.site none piece.listed) in
    let inside = piece.inside in
    let number = piece.number in
    let before = before-size plan piece.site makes stands in
    record {
      site = piece.site;
      j = piece.j;
      has = record { listed = piece.listed; byte = omega (arith, long, first, inside) };
      number = omega (arith, number, before);
      is =
          ap (λ (k : ℕ). get_or (last_bytes plan) k 0) number
          ∙ get_or-flat_map (last-code plan) sites piece.site piece.j none 0 piece.listed inside;
    }

-- so all bytes are those of the last forms
pub finished-bytes : (plan : LivePlan) (cpus : ℕ) (bytes : List ℕ) → ChunksHaveThreeRequests → ChunksMakeVersions → OtherBytesAreOfTheForm → Stands plan → AreBytes (shape_of plan cpus) (length (shape_of plan cpus).writes) bytes → bytes ≡ last_bytes plan
finished-bytes plan cpus bytes three makes others stands are =
    let long = are.size in
    let last = last-length plan makes stands in
    same_lists bytes (last_bytes plan) (omega (arith, long, last))
    (λ b d below.
    let there = byte-there plan b makes stands (find-piece (last-code plan) plan.sites.items b (omega (arith, below, long, last))) in
    get_or_default bytes b d 0 below
    ∙ are.values b (omega (arith, below, long))
    ∙ ap (value (shape_of plan cpus) (length (shape_of plan cpus).writes)) there.number
    ∙ last-byte plan cpus there.site there.j three others stands there.has
    ∙ sym there.is
    ∙ get_or_default (last_bytes plan) b 0 d (omega (arith, below, long, last)))

-- ---- what a seat that patched leaves

-- a seat that has nothing more to do leaves the last forms
pub finished-sites : (plan : LivePlan) (cpus : ℕ) (v : View) (bytes : List ℕ) → ChunksHaveThreeRequests → ChunksMakeVersions → OtherBytesAreOfTheForm → Stands plan → v.shape ≡ shape_of plan cpus → NoneDue v → AreBytes v.shape v.patch.done bytes → bytes ≡ last_bytes plan
finished-sites plan cpus v bytes three makes others stands shape due are =
    finished-bytes plan cpus bytes three makes others stands
    (subst (λ p. AreBytes p (length p.writes) bytes) shape (subst (λ (k : ℕ). AreBytes v.shape k bytes) due.0 are))

-- and any seat leaves as many bytes
pub sites-size : (plan : LivePlan) (cpus : ℕ) (v : View) (bytes : List ℕ) → ChunksMakeVersions → Stands plan → v.shape ≡ shape_of plan cpus → AreBytes v.shape v.patch.done bytes → length bytes ≡ length (last_bytes plan)
sites-size plan cpus v bytes makes stands shape are =
    are.size ∙ ap (λ p. length p.starts) shape ∙ sym (last-length plan makes stands)
