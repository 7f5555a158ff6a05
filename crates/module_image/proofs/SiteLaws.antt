-- Laws of a module's sites: where they lie, and how many there are.
use Rattle.std.proofs.Common.{◌≡◌, ◌≢◌, ◌∙◌, ◌==◌, ℕ, suc, zero, ◌+◌, ◌-◌, ◌<◌, ◌≤◌, ◌⊎◌, inl, inr, Bool, true, false, cond, nat_lt, nat_le, ltb-false, List, [], ◌∷◌, length, map, drop, length-drop, slice_get, slice_index_or, Option, Some, None, Ok, Err, refl, sym, ap, subst, arith, true≢false}
use Rattle.std.specs.Prelude.{⊤}
use Rattle.std.proofs.lemmas.Bool.Decides.{Decides-eqb}
use Rattle.std.proofs.lemmas.Option.{none-some, same_Some, slice_get-get_or}
use Rattle.elf_module.specs.Elf.{Elf}
use Rattle.x64_subset.specs.Reading.{Answer, read}
use Rattle.x64_subset.proofs.WhatIsRead.{what_is_read}
use Rattle.module_parts.specs.declared.entry.Entry.{Entry}
use Rattle.module_parts.specs.declared.entry.EntryKind.{EntryKind}
use Rattle.module_parts.specs.declared.entry.EntryKind.TheVariants.{Jump as JumpEntry, Call as CallEntry, Tail as TailEntry, Trace as TraceEntry}
use Rattle.module_parts.specs.declared.refused.Refused.TheVariants.{SiteOverlap}
use Rattle.module_parts.specs.declared.site.Site.{Site}
use Rattle.module_image.specs.Early.{HasCallLen, HaveCallLens}
use Rattle.module_names.specs.Entries.{answer_len, length_at}
use Rattle.module_image.specs.First.{HasNone}
use Rattle.module_image.specs.Refusals.{IsBadLength, IsOutsideOf, Passes, past_site_overlap, room_of}
use Rattle.module_image.specs.Sites.{ascending, entry_len, insert_site, kind_of, overlap_after, site_of, sites}
use Rattle.module_image.specs.Text.{AreApart, AreInside, IsInside}

-- ---- room in the text

-- an entry's room is in the text
pub record IsRoom (base size : ℕ) (e : Entry) : Type 0 where
  pub from : base ≤ e.at
  pub to : e.at + room_of e.kind ≤ base + size

-- that of an entry that isn't outside
pub entry_room : (base size : ℕ) (e : Entry) → ¬ IsOutsideOf base size e → IsRoom base size e
entry_room base size e outside =
    let low : e.at < base → ⊥ = λ h. outside (inl h) in
    let high : base + size < e.at + room_of e.kind → ⊥ = λ h. outside (inr h) in
    record { from = omega arith; to = omega arith }

-- that of each entry of a list
pub room_at : (base size : ℕ) (es : List Entry) (i : ℕ) (d : Entry) → i < length es → ((k : ℕ) (e : Entry) → slice_get es k ≡ Some e → ¬ IsOutsideOf base size e) → IsRoom base size (slice_index_or es i d)
room_at base size es i d below inside =
    entry_room base size (slice_index_or es i d) (inside i (slice_index_or es i d) (slice_get-get_or es i d below))

-- ---- what holds of each site

abbrev Every : (Site → Type 0) → List Site → Type 0
Every P [] = ⊤
Every P (s ∷ ss) = P s × Every P ss

every_put : (P : Site → Type 0) (s : Site) (ss : List Site) → P s → Every P ss → Every P (insert_site s ss)
every_put P s [] first all = (first, tt)
every_put P s (x ∷ xs) first all = by (every_put P s xs first all.1) (nat_le s.at x.at)
  where
    by : Every P (insert_site s xs) → (test : Bool) → Every P (cond test (s ∷ x ∷ xs) (x ∷ insert_site s xs))
    by rest true = (first, all)
    by rest false = (all.0, rest)

every_ascending : (P : Site → Type 0) (ss : List Site) → Every P ss → Every P (ascending ss)
every_ascending P [] all = tt
every_ascending P (s ∷ ss) all = every_put P s (ascending ss) all.0 (every_ascending P ss all.1)

every_made : (P : Site → Type 0) (f : Entry → Site) (es : List Entry) → ((i : ℕ) (e : Entry) → slice_get es i ≡ Some e → P (f e)) → Every P (map f es)
every_made P f [] each = tt
every_made P f (e ∷ es) each = (each 0 e refl, every_made P f es (λ i x get. each (suc i) x get))

every_at : (P : Site → Type 0) (ss : List Site) (i : ℕ) (s : Site) → Every P ss → slice_get ss i ≡ Some s → P s
every_at P [] i s all get = absurd (none-some s get)
every_at P (x ∷ xs) zero s all get = subst P (same_Some x s get) all.0
every_at P (x ∷ xs) (suc i) s all get = every_at P xs i s all.1 get

-- what holds of the site of each entry holds of each site
pub each_site : (P : Site → Type 0) (f : Entry → Site) (es : List Entry) → ((i : ℕ) (e : Entry) → slice_get es i ≡ Some e → P (f e)) → (i : ℕ) (s : Site) → slice_get (ascending (map f es)) i ≡ Some s → P s
each_site P f es each i s get =
    every_at P (ascending (map f es)) i s (every_ascending P (map f es) (every_made P f es each)) get

-- ---- the sites are in the text

-- an instruction has no more bytes than there are
read_within : (at : ℕ) (bytes : List ℕ) → answer_len (read at bytes) ≤ length bytes
read_within at bytes = by (read at bytes) refl
  where
    by : (a : Answer) → read at bytes ≡ a → answer_len a ≤ length bytes
    by (Ok (insn, len)) is = (what_is_read at bytes insn len is).3
    by (Err why) is = omega arith

-- an instruction ends in the text
pub length_within : (base : ℕ) (text : List ℕ) (at : ℕ) → base ≤ at → at ≤ base + length text → at + length_at base text at ≤ base + length text
length_within base text at from to =
    let most = read_within at (drop (at - base) text) in
    let rest = length-drop (at - base) text in
    omega arith

two_or_five : (n : ℕ) → ¬ ((n ≢ 2) × (n ≢ 5)) → (n ≡ 2) ⊎ (n ≡ 5)
two_or_five n neither = by (n == 2) (n == 5) refl refl
  where
    by : (two five : Bool) → (n == 2) ≡ two → (n == 5) ≡ five → (n ≡ 2) ⊎ (n ≡ 5)
    by true five e f = inl ((Decides-eqb n 2).0 e)
    by false true e f = inr ((Decides-eqb n 5).0 f)
    by false false e f =
        absurd
        (neither (λ two. true≢false (sym ((Decides-eqb n 2).1 two) ∙ e), λ five. true≢false (sym ((Decides-eqb n 5).1 five) ∙ f)))

inside_kind : (base : ℕ) (text : List ℕ) (at : ℕ) (kind : EntryKind) → base ≤ at → at + room_of kind ≤ base + length text → ¬ IsBadLength (length_at base text at) kind → (at + entry_len base text at kind ≤ base + length text) × ((entry_len base text at kind ≡ 2) ⊎ (entry_len base text at kind ≡ 5))
inside_kind base text at (JumpEntry target key likely) from to good =
    (length_within base text at from (omega arith), two_or_five (length_at base text at) good)
inside_kind base text at (CallEntry key) from to good = (to, inr refl)
inside_kind base text at (TailEntry key) from to good = (to, inr refl)
inside_kind base text at TraceEntry from to good = (to, inr refl)

-- the site of an entry that isn't outside and has a length
pub site_inside : (base : ℕ) (text jumps calls : List ℕ) (e : Entry) → ¬ IsOutsideOf base (length text) e → ¬ IsBadLength (length_at base text e.at) e.kind → IsInside base (length text) (site_of base text jumps calls e)
site_inside base text jumps calls e outside good =
    let room = entry_room base (length text) e outside in
    let parts = inside_kind base text e.at e.kind room.from room.to good in
    record { from = room.from; to = parts.0; two_or_five = parts.1 }

-- the sites of such entries
pub sites_inside : (base size : ℕ) (text jumps calls : List ℕ) (es : List Entry) → size ≡ length text → HasNone (IsOutsideOf base size) es → HasNone (λ (e : Entry). IsBadLength (length_at base text e.at) e.kind) es → AreInside base size (ascending (map (site_of base text jumps calls) es))
sites_inside base size text jumps calls es same outside good =
    each_site (IsInside base size) (site_of base text jumps calls) es
    (λ i e get. subst (λ (n : ℕ). IsInside base n (site_of base text jumps calls e)) (sym same)
    (site_inside base text jumps calls e (subst (λ (n : ℕ). ¬ IsOutsideOf base n e) same (outside i e get)) (good i e get)))

-- the sites of calls and traces have five bytes
call_len : (base : ℕ) (text jumps calls : List ℕ) (at : ℕ) (kind : EntryKind) → HasCallLen (entry_len base text at kind) (kind_of jumps calls kind)
call_len base text jumps calls at (JumpEntry target key likely) = tt
call_len base text jumps calls at (CallEntry key) = refl
call_len base text jumps calls at (TailEntry key) = refl
call_len base text jumps calls at TraceEntry = refl

pub sites_call_lens : (base : ℕ) (text jumps calls : List ℕ) (es : List Entry) → HaveCallLens (ascending (map (site_of base text jumps calls) es))
sites_call_lens base text jumps calls es =
    each_site (λ (s : Site). HasCallLen s.len s.kind) (site_of base text jumps calls) es
    (λ i e get. call_len base text jumps calls e.at e.kind)

-- ---- the sites are apart

-- what the test of the first site says
pub overlap_first : (end : ℕ) (x : Site) (xs : List Site) → overlap_after end (x ∷ xs) ≡ None → (end ≤ x.at) × (overlap_after (x.at + x.len) xs ≡ None)
overlap_first end x xs none = by (nat_lt x.at end) refl none
  where
    by : (test : Bool) → nat_lt x.at end ≡ test → cond test (Some x.at) (overlap_after (x.at + x.len) xs) ≡ None → (end ≤ x.at) × (overlap_after (x.at + x.len) xs ≡ None)
    by true e none = absurd (none-some x.at (sym none))
    by false e none = (ltb-false x.at end e, none)

-- no site begins before the end of what stands before
pub no_lower : (end : ℕ) (xs : List Site) (i : ℕ) (s : Site) → overlap_after end xs ≡ None → slice_get xs i ≡ Some s → end ≤ s.at
no_lower end [] i s none get = absurd (none-some s get)
no_lower end (x ∷ xs) zero s none get =
    subst (λ (site : Site). end ≤ site.at) (same_Some x s get) (overlap_first end x xs none).0
no_lower end (x ∷ xs) (suc i) s none get =
    let first = overlap_first end x xs none in
    let here = first.0 in
    let later = no_lower (x.at + x.len) xs i s first.1 get in
    omega arith

apart_after : (end : ℕ) (xs : List Site) (i j : ℕ) (s u : Site) → overlap_after end xs ≡ None → i < j → slice_get xs i ≡ Some s → slice_get xs j ≡ Some u → s.at + s.len ≤ u.at
apart_after end [] i j s u none below first second = absurd (none-some s first)
apart_after end (x ∷ xs) i zero s u none below first second = absurd (omega arith)
apart_after end (x ∷ xs) zero (suc j) s u none below first second =
    subst (λ (site : Site). site.at + site.len ≤ u.at) (same_Some x s first)
    (no_lower (x.at + x.len) xs j u (overlap_first end x xs none).1 second)
apart_after end (x ∷ xs) (suc i) (suc j) s u none below first second =
    apart_after (x.at + x.len) xs i j s u (overlap_first end x xs none).1 (omega arith) first second

-- sites of which none overlaps
pub sites_apart : (xs : List Site) → overlap_after 0 xs ≡ None → AreApart xs
sites_apart xs none i j s u = apart_after 0 xs i j s u none

-- those of a module without overlaps
pub no_overlap : (elf : Elf) → Passes elf past_site_overlap → overlap_after 0 (sites elf) ≡ None
no_overlap elf passes = by (overlap_after 0 (sites elf)) refl
  where
    by : (found : Option ℕ) → overlap_after 0 (sites elf) ≡ found → found ≡ None
    by None e = refl
    by (Some at) e = absurd (passes.none (SiteOverlap at) (omega arith) e)

pub sites_apart_passed : (elf : Elf) → Passes elf past_site_overlap → AreApart (sites elf)
sites_apart_passed elf passes = sites_apart (sites elf) (no_overlap elf passes)

-- ---- how many there are

length_put : (s : Site) (ss : List Site) → length (insert_site s ss) ≡ suc (length ss)
length_put s [] = refl
length_put s (x ∷ xs) = by (length_put s xs) (nat_le s.at x.at)
  where
    by : length (insert_site s xs) ≡ suc (length xs) → (test : Bool) → length (cond test (s ∷ x ∷ xs) (x ∷ insert_site s xs)) ≡ suc (suc (length xs))
    by rest true = refl
    by rest false = ap suc rest

pub length_ascending : (ss : List Site) → length (ascending ss) ≡ length ss
length_ascending [] = refl
length_ascending (s ∷ ss) = length_put s (ascending ss) ∙ ap suc (length_ascending ss)

length_made : (f : Entry → Site) (es : List Entry) → length (map f es) ≡ length es
length_made f [] = refl
length_made f (e ∷ es) = ap suc (length_made f es)

-- as many sites as entries
pub few_sites : (f : Entry → Site) (es : List Entry) → length (ascending (map f es)) ≡ length es
few_sites f es = length_ascending (map f es) ∙ length_made f es
