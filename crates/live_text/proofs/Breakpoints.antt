-- The breakpoints of a chunk among its writes, and which first bytes they make.
use Rattle.std.proofs.Common.{◌≡◌, ◌≢◌, inl, inr, ℕ, zero, suc, ◌+◌, ◌*◌, ◌/◌, ◌<◌, ◌≤◌, List, [], ◌∷◌, ◌++◌, length, take, get_or, refl, ap, sym, ◌∙◌, subst, arith, Some}
use Rattle.std.specs.Prelude.{slice_get, IsSome}
use Rattle.std.specs.Int.{w8, w32}
use Rattle.std.proofs.lemmas.List.{length-append, length-map}
use Rattle.std.proofs.lemmas.Option.{same_Some}
use mathlib.Core.Logic.{dite}
use native.Mathlib.Decide.{dec_le}
use Rattle.insn_forms.specs.declared.forms.Form.{Form}
use Rattle.insn_forms.specs.declared.forms.Form.TheVariants.{Nop2, Nop5, Jmp8, Jmp32, Call, Ret}
use Rattle.insn_forms.specs.declared.forms.Change.{Change}
use Rattle.insn_forms.specs.Spelling.{spell, after}
use Rattle.insn_forms.specs.Write.{Write}
use Rattle.insn_forms.specs.History.{written}
use Rattle.insn_forms.proofs.Spellings.{relative, size_pos}
use Rattle.poke_batch.specs.Poke.{spelled, traps}
use Rattle.live_text.specs.declared.plan.LiveSite.{LiveSite}
use Rattle.live_text.specs.declared.view.Shape.{Shape}
use Rattle.live_text.specs.declared.view.PlacedWrite.{PlacedWrite}
use Rattle.live_text.specs.Plan.{chunks_of}
use Rattle.live_text.specs.Flat.{place, placed, rounds, joined, shape_of}
use Rattle.live_text.specs.Past.{cut, value}
use Rattle.live_text.specs.Own.{HasByte, site_of, byte_number}
use Rattle.live_text.specs.Versions.{version, chunk_of, breakpoint_write}
use Rattle.live_text.specs.Laws.{writes_of, ChunksHaveThreeRequests, BreakpointsAreWritten, FirstBytesAreBreakpoints}
use Rattle.live_text.proofs.Writes.{Has, Puts, has_take, written_does, written_misses}
use Rattle.live_text.proofs.Rounds.{WritesTo, spelt_as}
use Rattle.live_text.proofs.Standing.{IsSited}
use Rattle.live_text.proofs.Shapes.{cut_is, shapes}
use Rattle.live_text.proofs.Items.{get_map, get_right, get_below, ends_length}
use Rattle.live_text.proofs.Numbers.{number_of}
use Rattle.live_text.proofs.Places.{IsPlaced, placed_some, is_change}
use Rattle.live_text.proofs.Pokes.{thrice, thrice_is, round_at, list_more}
use Rattle.live_text.proofs.Phases.{after_chunks, holds_version, IsChanged, is_changed, IsAmid, amid}

-- three requests a chunk
rounds_length : (chunks : List (List Change)) → length (rounds chunks) ≡ 3 * length chunks
rounds_length [] = refl
rounds_length (c ∷ chunks) =
    let rest : length (rounds chunks) ≡ 3 * length chunks = rounds_length chunks in
    omega arith

pub three_requests : ChunksHaveThreeRequests
three_requests plan cpus =
    ends_length 0 (rounds (chunks_of plan)) ∙ ap (λ (n : ℕ). n + 1) (rounds_length (chunks_of plan))

-- the breakpoint of each change among the first n
traps_cc : (chunk : List Change) (w : Write) → Has (traps chunk) w → w.byte ≡ 0xcc
traps_cc [] w h = elim h [ ]
traps_cc (c ∷ chunk) w (inl is) = sym (ap (λ (x : Write). x.byte) is)
traps_cc (c ∷ chunk) w (inr later) = traps_cc chunk w later

trap_has : (chunk : List Change) (n place : ℕ) (c : Change) → slice_get chunk place ≡ Some c → place < n → WritesTo (take n (traps chunk)) c.at
trap_has [] n place c e lt = absurd (cc)
trap_has (d ∷ chunk) zero place c e lt = absurd (omega arith)
trap_has (d ∷ chunk) (suc n) zero c e lt = record {
  write = record { at = d.at; byte = 0xcc };
  has = inl refl;
  there = ap (λ (x : Change). x.at) (same_Some d c e);
}
trap_has (d ∷ chunk) (suc n) (suc place) c e lt =
    let w : WritesTo (take n (traps chunk)) c.at = trap_has chunk n place c e (omega arith) in
    record { write = w.write; has = inr w.has; there = w.there }

-- none of them is at an address that only a later change has
trap_misses : (chunk : List Change) (n place at : ℕ) → ((k : ℕ) (d : Change) → k < place → (get_or chunk k d).at ≢ at) → n ≤ place → (w : Write) → Has (take n (traps chunk)) w → w.at ≢ at
trap_misses chunk zero place at before le w h = elim h [ ]
trap_misses [] (suc n) place at before le w h = elim h [ ]
trap_misses (d ∷ chunk) (suc n) zero at before le w h = absurd (omega arith)
trap_misses (d ∷ chunk) (suc n) (suc place) at before le w (inl is) =
    λ e. before 0 d (omega arith) (ap (λ (x : Write). x.at) is ∙ e)
trap_misses (d ∷ chunk) (suc n) (suc place) at before le w (inr later) =
    trap_misses chunk n place at (λ k c lt. before (suc k) c (omega arith)) (omega arith) w later

-- no form begins with a breakpoint
first_is : (form : Form) (at byte : ℕ) (rest : List ℕ) → spelled form at ≡ byte ∷ rest → get_or (spelled form at) 0 0 ≡ byte
first_is form at byte rest is = ap (λ (code : List ℕ). get_or code 0 0) is

no_breakpoint : (form : Form) (at : ℕ) → IsSome (spell form at) → get_or (spelled form at) 0 0 ≢ 0xcc
unfolding spell
no_breakpoint Nop2 at some is = let e : ◌≡◌ {A = ℕ} 0x66 0xcc = is in absurd (omega arith)
no_breakpoint Nop5 at some is = let e : ◌≡◌ {A = ℕ} 0x0f 0xcc = is in absurd (omega arith)
no_breakpoint (Jmp8 target) at some is =
    let code = (relative w8 0xeb (after at 2) target (spelled (Jmp8 target) at) (spelt_as (Jmp8 target) at some)).bytes in
    let e : ◌≡◌ {A = ℕ} 0xeb 0xcc = sym (first_is (Jmp8 target) at 0xeb _ code) ∙ is in
    absurd (omega arith)
no_breakpoint (Jmp32 target) at some is =
    let code = (relative w32 0xe9 (after at 5) target (spelled (Jmp32 target) at) (spelt_as (Jmp32 target) at some)).bytes in
    let e : ◌≡◌ {A = ℕ} 0xe9 0xcc = sym (first_is (Jmp32 target) at 0xe9 _ code) ∙ is in
    absurd (omega arith)
no_breakpoint (Call target) at some is =
    let code = (relative w32 0xe8 (after at 5) target (spelled (Call target) at) (spelt_as (Call target) at some)).bytes in
    let e : ◌≡◌ {A = ℕ} 0xe8 0xcc = sym (first_is (Call target) at 0xe8 _ code) ∙ is in
    absurd (omega arith)
no_breakpoint Ret at some is = let e : ◌≡◌ {A = ℕ} 0xc3 0xcc = is in absurd (omega arith)

-- an element of one of some lists, among those of all
get_list : (lists : List (List Write)) (g i : ℕ) → i < length (get_or lists g []) → slice_get (joined lists) (length (joined (take g lists)) + i) ≡ slice_get (get_or lists g []) i
get_list [] g i below = absurd (omega arith)
get_list (ws ∷ lists) zero i below =
    let same : 0 + i ≡ i = omega arith in
    ap (λ (n : ℕ). slice_get (ws ++ joined lists) n) same ∙ get_below ws (joined lists) i below
get_list (ws ∷ lists) (suc g) i below =
    let long : length (ws ++ joined (take g lists)) ≡ length ws + length (joined (take g lists)) = length-append ws (joined (take g lists)) in
    get_right ws (joined lists) (length (ws ++ joined (take g lists)) + i) (length (joined (take g lists)) + i) (omega arith)
    ∙ get_list lists g i below

-- the breakpoint of a site in a chunk
abbrev trap_of : Change → Write
trap_of c = record { at = c.at; byte = 0xcc }

abbrev trap_in : ℕ → PlacedWrite
trap_in n = record { place = n; byte = 0xcc }

pub breakpoints_written : BreakpointsAreWritten
breakpoints_written plan cpus j site i stands listed e =
    record { write = write; before = λ g later. before g later }
  where
    p : Shape
    p = shape_of plan cpus

    lists : List (List Write)
    lists = rounds (chunks_of plan)

    s : LiveSite
    s = site_of plan site

    is : IsPlaced (chunk_of plan j) s.at i
    is = placed_some (chunk_of plan j) s.at i e

    at : 3 * j ≡ thrice j 0
    at = let same : thrice j 0 ≡ 3 * j + 0 = thrice_is j 0 in omega arith

    list_is : get_or lists (thrice j 0) [] ≡ traps (chunk_of plan j)
    list_is = round_at (chunks_of plan) j 0 (omega arith)

    long : length (get_or lists (thrice j 0) []) ≡ length (chunk_of plan j)
    long = ap (λ (l : List Write). length l) list_is ∙ length-map (chunk_of plan j) trap_of

    low : cut p (3 * j) ≡ length (joined (take (thrice j 0) lists))
    low = cut_is plan cpus (3 * j) ∙ ap (λ (n : ℕ). length (joined (take n lists))) at

    inside : i < length (get_or lists (thrice j 0) [])
    inside =
        let below : i < length (chunk_of plan j) = is.below in
        let same : length (get_or lists (thrice j 0) []) ≡ length (chunk_of plan j) = long in
        omega arith

    sited : IsSited plan.sites.items is.change.at
    sited = record {
      site = site;
      offset = 0;
      listed = listed;
      inside = size_pos s.start;
      there = let same : is.change.at ≡ s.at = is.there in omega arith;
    }

    here : slice_get (writes_of plan) (length (joined (take (thrice j 0) lists)) + i) ≡ Some (trap_of is.change)
    here =
        get_list lists (thrice j 0) i inside
        ∙ ap (λ (l : List Write). slice_get l i) list_is
        ∙ get_map trap_of (chunk_of plan j) i is.change is.get

    write : slice_get p.writes (breakpoint_write p j i) ≡ Some (record { place = byte_number plan site 0; byte = 0xcc })
    write =
        ap (λ (n : ℕ). slice_get p.writes (n + i)) low
        ∙ get_map (placed plan.sites.items) (writes_of plan) (length (joined (take (thrice j 0) lists)) + i) (trap_of is.change) here
        ∙ ap (λ (n : ℕ). Some (trap_in n)) (number_of plan.sites.items is.change.at sited stands.apart stands.spelt)

    before : (g : ℕ) → 3 * j < g → breakpoint_write p j i < cut p g
    before g later =
        let same : 3 * j ≡ thrice j 0 = at in
        let next : 3 * j + 1 ≡ suc (thrice j 0) = omega arith in
        let high : cut p (3 * j + 1) ≡ length (joined (take (suc (thrice j 0)) lists)) = cut_is plan cpus (3 * j + 1) ∙ ap (λ (n : ℕ). length (joined (take n lists))) next in
        let more : length (joined (take (suc (thrice j 0)) lists)) ≡ length (joined (take (thrice j 0) lists)) + length (get_or lists (thrice j 0) []) = list_more lists (thrice j 0) in
        let order : cut p (3 * j + 1) ≤ cut p g = (shapes plan cpus stands).ordered (3 * j + 1) g (omega arith) in
        let below : i < length (get_or lists (thrice j 0) []) = inside in
        let first : cut p (3 * j) ≡ length (joined (take (thrice j 0) lists)) = low in
        omega arith

-- before the chunk's first request a first byte is a breakpoint where that was written
pub first_bytes : FirstBytesAreBreakpoints
first_bytes plan cpus g k site i stands listed between first e = (λ is_cc. to is_cc, λ past. from past)
  where
    j : ℕ
    j = g / 3

    p : Shape
    p = shape_of plan cpus

    s : LiveSite
    s = site_of plan site

    has : HasByte plan site 0
    has = record { listed = listed; byte = size_pos s.start }

    start : g ≡ 3 * j + 0
    start = omega arith

    a : IsAmid plan p g k j 0
    a = amid plan cpus g k j 0 stands between start (omega arith)

    some : List Write
    some = take a.some (traps (chunk_of plan j))

    is : IsPlaced (chunk_of plan j) s.at i
    is = placed_some (chunk_of plan j) s.at i e

    byte_is : value p k (byte_number plan site 0) ≡ written some (after_chunks plan j) (s.at + 0)
    byte_is = a.value_is site 0 has

    same_cut : cut p g ≡ cut p (3 * j)
    same_cut = let same : g ≡ 3 * j = omega arith in ap (λ (n : ℕ). cut p n) same

    spelt : IsSome (spell (version plan site j) s.at)
    spelt =
        let c : IsChanged plan j site = is_changed plan j site i stands listed e in
        subst (λ (k : Change). IsSome (spell k.old k.at)) c.is (is_change plan j c.change stands c.has).old_spelt

    from : breakpoint_write p j i < k → value p k (byte_number plan site 0) ≡ 0xcc
    from past =
        let count : k ≡ cut p g + a.some = a.count in
        let cuts : cut p g ≡ cut p (3 * j) = same_cut in
        let w : WritesTo some is.change.at = trap_has (chunk_of plan j) a.some i is.change is.get (omega arith) in
        let zero_after : s.at ≡ s.at + 0 = omega arith in
        let puts : Puts some (s.at + 0) 0xcc = λ v h there. traps_cc (chunk_of plan j) v (has_take a.some (traps (chunk_of plan j)) v h) in
        byte_is
        ∙ written_does some (after_chunks plan j) (s.at + 0) 0xcc puts w.write w.has (w.there ∙ is.there ∙ zero_after)

    to : value p k (byte_number plan site 0) ≡ 0xcc → breakpoint_write p j i < k
    to is_cc =
        let count : k ≡ cut p g + a.some = a.count in
        let cuts : cut p g ≡ cut p (3 * j) = same_cut in
        dite (dec_le a.some i)
        (λ before.
        (let zero_after : s.at + 0 ≡ s.at = omega arith in
        let none_there : (w : Write) → Has some w → w.at ≢ s.at + 0 = λ w h there. trap_misses (chunk_of plan j) a.some i s.at is.first before w h (there ∙ zero_after) in
        let old : value p k (byte_number plan site 0) ≡ get_or (spelled (version plan site j) s.at) 0 0 = byte_is ∙ written_misses some (after_chunks plan j) (s.at + 0) none_there ∙ holds_version plan j stands site 0 has in
        absurd (no_breakpoint (version plan site j) s.at spelt (sym old ∙ is_cc))))
        (λ past. omega arith)
