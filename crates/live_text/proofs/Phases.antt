-- The bytes of the sites by phase: those of the site's form after the chunks before, and of the table in a chunk that changes it.
use Rattle.std.proofs.Common.{◌≡◌, ℕ, zero, suc, ◌+◌, ◌-◌, ◌*◌, ◌/◌, ◌%◌, ◌<◌, ◌≤◌, List, [], ◌∷◌, ◌++◌, length, take, get_or, refl, ap, sym, ◌∙◌, subst, arith, Option, Some, None}
use Rattle.std.specs.Prelude.{IsSome, IsNone}
use Rattle.std.proofs.lemmas.List.{take_more, take_all, get_or_default, get_or_past}
use mathlib.Core.Logic.{dite}
use native.Mathlib.Decide.{dec_le}
use Rattle.insn_forms.specs.declared.forms.Form.{Form}
use Rattle.insn_forms.specs.declared.forms.Change.{Change}
use Rattle.insn_forms.specs.Spelling.{size}
use Rattle.insn_forms.specs.Write.{Write}
use Rattle.insn_forms.specs.History.{Memory, written}
use Rattle.poke_batch.specs.Poke.{spelled, traps, tails, firsts}
use Rattle.live_text.specs.declared.plan.LivePlan.{LivePlan}
use Rattle.live_text.specs.declared.plan.LiveSite.{LiveSite}
use Rattle.live_text.specs.declared.view.Shape.{Shape}
use Rattle.live_text.specs.Plan.{chunks_of, form_after, IsChange, Stands}
use Rattle.live_text.specs.Flat.{rounds, joined, shape_of}
use Rattle.live_text.specs.Past.{cut, value, seek, Found}
use Rattle.live_text.specs.Own.{HasByte, site_of, byte_number}
use Rattle.live_text.specs.Table.{byte_after, IsInTable}
use Rattle.live_text.specs.Versions.{version, version_change, chunk_of, place_in}
use Rattle.live_text.specs.Laws.{IsBetween, ChangedBytesAreInTheTable, OtherBytesAreOfTheForm, CachedBytesWereThere}
use Rattle.live_text.proofs.Writes.{Has, has_from, has_contains, written_append}
use Rattle.live_text.proofs.Values.{seek_from}
use Rattle.live_text.proofs.Rounds.{round, IsPoked, BytesAre}
use Rattle.live_text.proofs.Standing.{no_site}
use Rattle.live_text.proofs.Shapes.{cut_is, chunk_poked}
use Rattle.live_text.proofs.Layouts.{joined_append, rounds_more}
use Rattle.live_text.proofs.Numbers.{start_text, holds_starts, values_are}
use Rattle.live_text.proofs.Places.{IsPlaced, HasNone, IsBeside, placed_some, placed_none, is_change, change_is, size_there, stays, beside}
use Rattle.live_text.proofs.Pokes.{after_rounds, rounds_step, rounds_miss, part_in_table, part_misses, thrice, thrice_is, round_at, three_rounds, rounds_past, IsWithin, within}

-- the text of a plan after the first n chunks
abbrev pub after_chunks : LivePlan → ℕ → Memory
after_chunks plan n = written (joined (rounds (take n (chunks_of plan)))) (start_text plan)

-- what holds of every chunk, and of none
pub poked : (plan : LivePlan) (j : ℕ) → Stands plan → IsPoked (chunk_of plan j)
poked plan j stands =
    dite (dec_le (length (chunks_of plan)) j)
    (λ past. subst (λ (c : List Change). IsPoked c) (sym (get_or_past (chunks_of plan) j [] past)) nothing)
    (λ more. chunk_poked plan j stands (omega arith))
  where
    nothing : IsPoked []
    nothing = record {
      each = λ i d below. absurd (omega arith);
      apart = λ i k d lt below. absurd (omega arith);
    }

-- one chunk more
chunk_step : (plan : LivePlan) (n : ℕ) → n < length (chunks_of plan) → after_chunks plan (n + 1) ≡ after_rounds 3 (chunk_of plan n) (after_chunks plan n)
chunk_step plan n below =
    let chunk : List Change = chunk_of plan n in
    let before : List (List Change) = take n (chunks_of plan) in
    ap (λ (l : List (List Change)). written (joined (rounds l)) (start_text plan)) (take_more (chunks_of plan) n [] below)
    ∙ ap (λ (l : List (List Write)). written (joined l) (start_text plan)) (rounds_more before chunk)
    ∙ ap (λ (l : List Write). written l (start_text plan)) (joined_append (rounds before) (traps chunk ∷ tails chunk ∷ firsts chunk ∷ []))
    ∙ written_append (joined (rounds before)) (traps chunk ++ (tails chunk ++ (firsts chunk ++ []))) (start_text plan)
    ∙ three_rounds chunk [] (after_chunks plan n)

-- the bytes of all sites are those of their forms after so many chunks
abbrev pub HoldsVersions : LivePlan → ℕ → Memory → Type 0
HoldsVersions plan n m = (site i : ℕ) → HasByte plan site i → m ((site_of plan site).at + i) ≡ get_or (spelled (version plan site n) (site_of plan site).at) i 0

-- the site of a change, by its number
record IsOfSite (plan : LivePlan) (n : ℕ) (k : Change) : Type 0 where
  site : ℕ
  listed : site < length plan.sites.items
  at : k.at ≡ (site_of plan site).at
  old : k.old ≡ version plan site n

of_site : (plan : LivePlan) (n : ℕ) (k : Change) → Stands plan → Has (chunk_of plan n) k → IsOfSite plan n k
of_site plan n k stands has =
    let is : IsChange plan.sites.items (take n (chunks_of plan)) k = is_change plan n k stands has in
    let site : ℕ = is.listed.0 in
    let found : site_of plan site ≡ is.site = get_or_default plan.sites.items site no_site is.site is.listed.1 ∙ is.listed.2 in
    let at : k.at ≡ (site_of plan site).at = sym is.there ∙ ap (λ (t : LiveSite). t.at) (sym found) in
    record {
      site = site;
      listed = is.listed.1;
      at = at;
      old = is.old_is
          ∙ ap (λ (z : ℕ × LiveSite). form_after (take n (chunks_of plan)) z.0 z.1.start) (λ i. (at i, sym found i));
    }

-- so before a chunk the bytes of its sites are those of its old forms
before_chunk : (plan : LivePlan) (n : ℕ) (m : Memory) → Stands plan → HoldsVersions plan n m → BytesAre m 0 (chunk_of plan n)
before_chunk plan n m stands holds k j contains below =
    let has : Has (chunk_of plan n) k = has_from (chunk_of plan n) k contains in
    let of : IsOfSite plan n k = of_site plan n k stands has in
    let same : size k.old ≡ size (site_of plan of.site).start = size_there plan n of.site k stands of.listed has of.at in
    ap (λ (a : ℕ). m (a + j)) of.at
    ∙ holds of.site j (record { listed = of.listed; byte = omega arith })
    ∙ ap (λ (z : Form × ℕ). get_or (spelled z.0 z.1) j 0) (λ i. (sym of.old i, sym of.at i))

-- a site that a chunk changes: its change there, the one from its version to the next
pub record IsChanged (plan : LivePlan) (n site : ℕ) : Type 0 where
  pub change : Change
  pub has : Has (chunk_of plan n) change
  pub at : change.at ≡ (site_of plan site).at
  pub is : change ≡ version_change plan site n
  pub size_is : size change.old ≡ size (site_of plan site).start

pub is_changed : (plan : LivePlan) (n site place : ℕ) → Stands plan → site < length plan.sites.items → place_in plan n site ≡ Some place → IsChanged plan n site
is_changed plan n site place stands listed e =
    let is : IsPlaced (chunk_of plan n) (site_of plan site).at place = placed_some (chunk_of plan n) (site_of plan site).at place e in
    record {
      change = is.change;
      has = is.has;
      at = is.there;
      is = change_is plan n site is.change stands listed is.has is.there is.new;
      size_is = size_there plan n site is.change stands listed is.has is.there;
    }

-- the bytes of a site after a chunk are those of its next version
version_step : (plan : LivePlan) (n site i : ℕ) (m : Memory) (o : Option ℕ) → Stands plan → HasByte plan site i → HoldsVersions plan n m → place_in plan n site ≡ o → after_rounds 3 (chunk_of plan n) m ((site_of plan site).at + i) ≡ get_or (spelled (version plan site (n + 1)) (site_of plan site).at) i 0
version_step plan n site i m None stands has holds e =
    let s : LiveSite = site_of plan site in
    let none_there : HasNone (chunk_of plan n) s.at = placed_none (chunk_of plan n) s.at e in
    rounds_miss 3 (chunk_of plan n) m (s.at + i) (poked plan n stands) (beside plan n site i stands has none_there)
    ∙ holds site i has
    ∙ ap (λ (f : Form). get_or (spelled f s.at) i 0) (sym (stays plan n site none_there))
version_step plan n site i m (Some place) stands has holds e =
    let c : IsChanged plan n site = is_changed plan n site place stands has.listed e in
    let bytes : BytesAre (after_rounds 3 (chunk_of plan n) m) 3 (chunk_of plan n) = rounds_step 3 (chunk_of plan n) m (poked plan n stands) (before_chunk plan n m stands holds) in
    let inside : i < size (site_of plan site).start = has.byte in
    let same : size c.change.old ≡ size (site_of plan site).start = c.size_is in
    ap (λ (a : ℕ). after_rounds 3 (chunk_of plan n) m (a + i)) (sym c.at)
    ∙ bytes c.change i (has_contains (chunk_of plan n) c.change c.has) (omega arith)
    ∙ ap (λ (k : Change). byte_after 3 k i) c.is

-- so after n chunks the sites hold their version n
pub holds_version : (plan : LivePlan) (n : ℕ) → Stands plan → HoldsVersions plan n (after_chunks plan n)
holds_version plan zero stands site i has = holds_starts plan stands site i has
holds_version plan (suc n) stands site i has =
    let s : LiveSite = site_of plan site in
    dite (dec_le (length (chunks_of plan)) n)
    (λ past.
    (let same : take (suc n) (chunks_of plan) ≡ take n (chunks_of plan) = take_all (suc n) (chunks_of plan) (omega arith) ∙ sym (take_all n (chunks_of plan) past) in
    ap (λ (l : List (List Change)). written (joined (rounds l)) (start_text plan) (s.at + i)) same
    ∙ holds_version plan n stands site i has
    ∙ ap (λ (l : List (List Change)). get_or (spelled (form_after l s.at s.start) s.at) i 0) (sym same)))
    (λ more.
    (let next : suc n ≡ n + 1 = omega arith in
    ap (λ (k : ℕ). after_chunks plan k (s.at + i)) next
    ∙ ap (λ (m : Memory). m (s.at + i)) (chunk_step plan n (omega arith))
    ∙ version_step plan n site i (after_chunks plan n) (place_in plan n site) stands has (holds_version plan n stands) refl
    ∙ ap (λ (k : ℕ). get_or (spelled (version plan site k) s.at) i 0) (sym next)))

-- a byte after k writes, where k lies between request 3 j + r and the next: amid round r of chunk j
pub record IsAmid (plan : LivePlan) (p : Shape) (g k j r : ℕ) : Type 0 where
  pub some : ℕ
  pub count : k ≡ cut p g + some
  pub value_is : (site i : ℕ) → HasByte plan site i → value p k (byte_number plan site i) ≡ written (take some (round r (chunk_of plan j))) (after_rounds r (chunk_of plan j) (after_chunks plan j)) ((site_of plan site).at + i)

pub amid : (plan : LivePlan) (cpus g k j r : ℕ) → Stands plan → IsBetween (shape_of plan cpus) g k → g ≡ 3 * j + r → r < 3 → IsAmid plan (shape_of plan cpus) g k j r
amid plan cpus g k j r stands between is below =
    let lists : List (List Write) = rounds (chunks_of plan) in
    let at : g ≡ thrice j r = is ∙ sym (thrice_is j r) in
    let next : g + 1 ≡ suc g = omega arith in
    let low : cut (shape_of plan cpus) g ≡ length (joined (take g lists)) = cut_is plan cpus g in
    let high : cut (shape_of plan cpus) (g + 1) ≡ length (joined (take (suc g) lists)) = cut_is plan cpus (g + 1) ∙ ap (λ (n : ℕ). length (joined (take n lists))) next in
    let from : cut (shape_of plan cpus) g ≤ k = between.from in
    let to : k ≤ cut (shape_of plan cpus) (g + 1) = between.to in
    let w : IsWithin lists g k = within lists g k (omega arith) (omega arith) in
    let count : k ≡ length (joined (take g lists)) + w.some = w.count in
    record {
      some = w.some;
      count = omega arith;
      value_is = λ site i has.
          values_are plan cpus (start_text plan) stands (holds_starts plan stands) k site i has
          ∙ ap (λ (l : List Write). written l (start_text plan) ((site_of plan site).at + i)) w.is
          ∙ ap (λ (m : Memory). m ((site_of plan site).at + i)) (written_append (joined (take g lists)) (take w.some (get_or lists g [])) (start_text plan))
          ∙ ap (λ (n : ℕ). written (take w.some (get_or lists n [])) (written (joined (take n lists)) (start_text plan)) ((site_of plan site).at + i)) at
          ∙ ap (λ (l : List Write). written (take w.some l) (written (joined (take (thrice j r) lists)) (start_text plan)) ((site_of plan site).at + i)) (round_at (chunks_of plan) j r below)
          ∙ ap (λ (m : Memory). written (take w.some (round r (chunk_of plan j))) m ((site_of plan site).at + i)) (rounds_past (chunks_of plan) j r (start_text plan) below);
    }

pub amid_phase : (plan : LivePlan) (cpus g k : ℕ) → Stands plan → IsBetween (shape_of plan cpus) g k → IsAmid plan (shape_of plan cpus) g k (g / 3) (g % 3)
amid_phase plan cpus g k stands between =
    amid plan cpus g k (g / 3) (g % 3) stands between (omega arith) (omega arith)

-- the laws
pub in_table : ChangedBytesAreInTheTable
in_table plan cpus g k site i stands has between some = go (place_in plan (g / 3) site) refl some
  where
    amid_here : IsAmid plan (shape_of plan cpus) g k (g / 3) (g % 3)
    amid_here = amid_phase plan cpus g k stands between

    go : (o : Option ℕ) → place_in plan (g / 3) site ≡ o → IsSome o → IsInTable (g % 3) (version_change plan site (g / 3)) i (value (shape_of plan cpus) k (byte_number plan site i))
    go None e is = absurd (cc)
    go (Some place) e is =
        let j : ℕ = g / 3 in
        let r : ℕ = g % 3 in
        let chunk : List Change = chunk_of plan j in
        let c : IsChanged plan j site = is_changed plan j site place stands has.listed e in
        let before : BytesAre (after_chunks plan j) 0 chunk = before_chunk plan j (after_chunks plan j) stands (holds_version plan j stands) in
        let bytes : BytesAre (after_rounds r chunk (after_chunks plan j)) r chunk = rounds_step r chunk (after_chunks plan j) (poked plan j stands) before in
        let inside : i < size (site_of plan site).start = has.byte in
        let same : size c.change.old ≡ size (site_of plan site).start = c.size_is in
        let found : IsInTable r c.change i (written (take amid_here.some (round r chunk)) (after_rounds r chunk (after_chunks plan j)) (c.change.at + i)) = part_in_table r amid_here.some chunk (after_rounds r chunk (after_chunks plan j)) c.change i (poked plan j stands) bytes c.has (omega arith) in
        let byte_is : written (take amid_here.some (round r chunk)) (after_rounds r chunk (after_chunks plan j)) (c.change.at + i) ≡ value (shape_of plan cpus) k (byte_number plan site i) = ap (λ (a : ℕ). written (take amid_here.some (round r chunk)) (after_rounds r chunk (after_chunks plan j)) (a + i)) c.at ∙ sym (amid_here.value_is site i has) in
        subst (λ (z : Change × ℕ). IsInTable r z.0 i z.1) (λ t. (c.is t, byte_is t)) found

pub of_the_form : OtherBytesAreOfTheForm
of_the_form plan cpus g k site i stands has between absent = go (place_in plan (g / 3) site) refl absent
  where
    amid_here : IsAmid plan (shape_of plan cpus) g k (g / 3) (g % 3)
    amid_here = amid_phase plan cpus g k stands between

    go : (o : Option ℕ) → place_in plan (g / 3) site ≡ o → IsNone o → value (shape_of plan cpus) k (byte_number plan site i) ≡ get_or (spelled (version plan site (g / 3)) (site_of plan site).at) i 0
    go (Some place) e is = absurd (cc)
    go None e is =
        let chunk : List Change = chunk_of plan (g / 3) in
        let at : ℕ = (site_of plan site).at + i in
        let out : IsBeside chunk at = beside plan (g / 3) site i stands has (placed_none chunk (site_of plan site).at e) in
        amid_here.value_is site i has
        ∙ part_misses (g % 3) amid_here.some chunk (after_rounds (g % 3) chunk (after_chunks plan (g / 3))) at (poked plan (g / 3) stands) out
        ∙ rounds_miss (g % 3) chunk (after_chunks plan (g / 3)) at (poked plan (g / 3) stands) out
        ∙ holds_version plan (g / 3) stands site i has

pub were_there : CachedBytesWereThere
were_there v b n sits held =
    let found : Found v.shape v.cpu.mark v.cpu.known b n = sits.cache_is b n held in
    let after : ℕ = seek v.shape b n v.cpu.mark (v.cpu.known - v.cpu.mark) in
    let from : v.cpu.mark ≤ after = seek_from v.shape b n v.cpu.mark (v.cpu.known - v.cpu.mark) in
    let to : after ≤ v.cpu.known = found.by in
    let low : cut v.shape v.cpu.ack ≤ v.cpu.mark = sits.mark_above in
    let high : v.cpu.known ≤ cut v.shape (v.cpu.ack + 1) = sits.near in
    record {
      after = after;
      from = from;
      to = to;
      between = record { from = omega arith; to = omega arith };
      is = found.same;
    }
