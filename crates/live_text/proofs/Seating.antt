-- The table at its start, the split of the processors' seats, and the bytes at the end.
use Rattle.std.proofs.Common.{◌≡◌, ◌⊎◌, inl, inr, ℕ, zero, suc, ◌+◌, ◌-◌, ◌<◌, ◌≤◌, List, [], ◌∷◌, ◌++◌, length, replicate, get_or, set, refl, ap, sym, ◌∙◌, subst, arith, length-append, Some, None}
use mathlib.Core.Logic.{dite}
use mathlib.Core.Option.{some, some-injective, some-ne-none}
use native.Mathlib.Decide.{ℕ_discrete}
use lib.ListN.{get_elem?, length-replicate, get_or-append}
use Rattle.std.proofs.lemmas.List.{get_or-append_right, get_or_push}
use Rattle.atomic_table.specs.Table.{opening, Splits, Final, Seen}
use Rattle.live_text.specs.declared.view.Shape.{Shape}
use Rattle.live_text.specs.declared.view.PatchView.{PatchView}
use Rattle.live_text.specs.declared.view.View.{View}
use Rattle.live_text.specs.declared.view.Role.TheVariants.{Patch}
use Rattle.live_text.specs.Past.{value, cut, IsShape}
use Rattle.live_text.specs.Steps.{zeros, first_words, first_view, first_cpu, seated, newcomer}
use Rattle.live_text.specs.Rule.{generation_word, ack_word, Leads, Follows, Live}
use Rattle.std.specs.Prelude.{slice_get}
use Rattle.std.proofs.lemmas.Option.{same_Some}
use Rattle.live_text.specs.Seats.{Placed, Patches, Sits}
use Rattle.live_text.specs.Own.{TextState, IsSeated, AreSeated}
use Rattle.live_text.proofs.Values.{same_everywhere, value_start}
use Rattle.live_text.proofs.PatchKeeps.{St, IsFirst, at_patch, follows_on}
use Rattle.live_text.proofs.CpuKeeps.{empty_cache}

zero_at : (n i : ℕ) → get_or (zeros n) i 0 ≡ 0
zero_at n i = same_everywhere n i 0

zero_after : (p : Shape) (i : ℕ) → length p.starts ≤ i → get_or (first_words p) i 0 ≡ 0
zero_after p i from = get_or-append_right p.starts (replicate (p.cpus + 1) 0) (length p.starts) i 0 refl from ∙ zero_at (p.cpus + 1) (i - length p.starts)

opens_leads : (p : Shape) → IsShape p → 0 < length p.cuts → Leads p (first_words p) (first_view p).patch
opens_leads p sound some_cuts =
    let begins : cut p 0 ≡ 0 = sound.begins in
    record {
      generation = zero_after p (generation_word p) (omega arith);
      bytes = λ b small. get_or-append p.starts (zeros (p.cpus + 1)) 0 b small ∙ sym (value_start p b);
      from = omega arith;
      to = omega arith;
      requests = some_cuts;
      bounds_size = length-replicate p.cpus 0;
      bound = λ c small.
          (let low : get_or (zeros p.cpus) c 0 ≡ 0 = zero_at p.cpus c in omega arith);
      asked = λ c small. omega arith;
      settled = λ c small after. omega arith;
    }

pub words_length : (p : Shape) → length (first_words p) ≡ length p.starts + (p.cpus + 1)
words_length p =
    length-append p.starts (zeros (p.cpus + 1))
    ∙ ap (λ (n : ℕ). length p.starts + n) (length-replicate (p.cpus + 1) 0)

pub opens : (p : Shape) → IsShape p → 0 < length p.cuts → Live p (opening (first_words p) [] (first_view p))
opens p sound some_cuts = record {
  sound = sound;
  size = length-append p.starts (replicate (p.cpus + 1) 0) ∙ ap (λ (n : ℕ). length p.starts + n) (length-replicate (p.cpus + 1) 0);
  patch = first_view p;
  others = [];
  views_are = refl;
  patch_role = refl;
  patch_shape = refl;
  leads = opens_leads p sound some_cuts;
  split = refl;
  few = omega arith;
  follows = λ c v at. absurd (some-ne-none v (sym at));
  unsplit = λ c from small. zero_after p (ack_word p c) (omega arith);
}

-- the processor that gets the next seat
newcomer_fits : (p : Shape) (words : List ℕ) (x : PatchView) (c : ℕ) → IsShape p → get_or words (ack_word p c) 0 ≡ 0 → Follows p words x c (first_cpu p c)
newcomer_fits p words x c sound word =
    let begins : cut p 0 ≡ 0 = sound.begins in
    record {
      role = refl;
      shape = refl;
      fits = record {
        number = refl;
        word_is = word;
        greatest = omega arith;
        knows = omega arith;
        place = omega arith;
        acked = λ _. omega arith;
        mark_below = omega arith;
        mark_above = λ _. omega arith;
        cache_size = length-replicate (length p.starts) None;
        cache_is = λ b v held. absurd (empty_cache (length p.starts) b v held);
      };
    }

last_at : (l : List View) (w : View) (c : ℕ) (v : View) → get_elem? (l ++ w ∷ []) c ≡ some v → (get_elem? l c ≡ some v) ⊎ ((c ≡ length l) × (w ≡ v))
last_at [] w zero v e = inr (refl, some-injective w v e)
last_at [] w (suc c) v e = absurd (some-ne-none v (sym e))
last_at (x ∷ l) w zero v e = inl e
last_at (x ∷ l) w (suc c) v e =
    elim (last_at l w c v e) [ inl before ↦ inl before | inr last ↦ inr (ap suc last.0, last.1) ]

split_keeps : (p : Shape) (s : St) (l : Live p s) → l.patch.patch.split < p.cpus → Live p (record { words = s.words; homes = s.homes; views = set s.views 0 (seated l.patch) ++ newcomer l.patch ∷ [] })
split_keeps p s l more =
    let count : l.patch.patch.split ≡ length l.others = l.split in
    let longer : length (l.others ++ newcomer l.patch ∷ []) ≡ length l.others + 1 = length-append l.others (newcomer l.patch ∷ []) in
    let zero_word : get_or s.words (ack_word p l.patch.patch.split) 0 ≡ 0 = l.unsplit l.patch.patch.split (omega arith) more in
    let new : Follows p s.words l.patch.patch l.patch.patch.split (newcomer l.patch) = subst (λ (q : Shape). Follows p s.words l.patch.patch l.patch.patch.split (first_cpu q l.patch.patch.split)) (sym l.patch_shape) (newcomer_fits p s.words l.patch.patch l.patch.patch.split l.sound zero_word) in
    record {
      sound = l.sound;
      size = l.size;
      patch = seated l.patch;
      others = l.others ++ newcomer l.patch ∷ [];
      views_are = ap (λ (vs : List View). set vs 0 (seated l.patch) ++ newcomer l.patch ∷ []) l.views_are;
      patch_role = l.patch_role;
      patch_shape = l.patch_shape;
      leads = record {
        generation = l.leads.generation;
        bytes = l.leads.bytes;
        from = l.leads.from;
        to = l.leads.to;
        requests = l.leads.requests;
        bounds_size = l.leads.bounds_size;
        bound = l.leads.bound;
        asked = l.leads.asked;
        settled = l.leads.settled;
      };
      split = omega arith;
      few = omega arith;
      follows = λ c v at.
          elim (last_at l.others (newcomer l.patch) c v at) [
            | inl before ↦ follows_on p s.words s.words l.patch.patch (seated l.patch).patch c v (omega arith) (omega arith) refl (l.follows c v before)
            | inr last ↦ follows_on p s.words s.words l.patch.patch (seated l.patch).patch c v (omega arith) (omega arith) refl (subst (λ (z : ℕ × View). Follows p s.words l.patch.patch z.0 z.1) (λ k. ((count ∙ sym last.0) k, last.1 k)) new)
          ];
      unsplit = λ c from small. l.unsplit c (omega arith) small;
    }

pub splits : (p : Shape) (id : ℕ) (v : View) → v.role ≡ Patch → v.patch.split < p.cpus → Splits (Live p) id v (seated v) (newcomer v)
splits p id v role more s l at =
    let first : IsFirst s p l id v = at_patch p s l id v at role in
    let more' : l.patch.patch.split < p.cpus = subst (λ (w : View). w.patch.split < p.cpus) (sym first.view) more in
    subst (λ (z : ℕ × View). Live p (record { words = s.words; homes = s.homes; views = set s.views z.0 (seated z.1) ++ newcomer z.1 ∷ [] })) (λ k. (sym first.number k, first.view k)) (split_keeps p s l more')

-- the bytes at the end are those at the patch seat's place
pub record AreWords (p : Shape) (k : ℕ) (words : List ℕ) : Type 0 where
  pub size : length words ≡ length p.starts + (p.cpus + 1)
  pub bytes : (b : ℕ) → b < length p.starts → get_or words b 0 ≡ value p k b
  pub small : (b : ℕ) → b < length p.starts → get_or words b 0 < 256

pub final_bytes : (p : Shape) (id : ℕ) (v : View) (words : List ℕ) (slots : List (Unit {0})) → v.role ≡ Patch → Final (Seen (Live p) id v) words slots → AreWords p v.patch.done words
final_bytes p id v words slots role final =
    let s : St = final.0 in
    let l : Live p s = final.1.0 in
    let first : IsFirst s p l id v = at_patch p s l id v final.1.1 role in
    let same : s.words ≡ words = final.2 in
    let is : AreWords p l.patch.patch.done s.words = record {
      size = l.size;
      bytes = l.leads.bytes;
      small = λ b below.
          (let e : get_or s.words b 0 ≡ value p l.patch.patch.done b = l.leads.bytes b below in
          let least : value p l.patch.patch.done b < 256 = l.sound.small l.patch.patch.done b in
          omega arith);
    } in
    subst (λ (z : View × List ℕ). AreWords p z.0.patch.done z.1) (λ k. (first.view k, same k)) is

-- a processor's seat at the start
pub first_sits : (p : Shape) (c : ℕ) → IsShape p → 0 < length p.cuts → c < p.cpus → Sits (first_cpu p c)
first_sits p c sound some_cuts small =
    let begins : cut p 0 ≡ 0 = sound.begins in
    record {
      role = refl;
      number = small;
      acked = omega arith;
      stored = some_cuts;
      mark_above = omega arith;
      mark_below = omega arith;
      knows = omega arith;
      near = omega arith;
      within = omega arith;
      cache_size = length-replicate (length p.starts) None;
      cache_is = λ b v held. absurd (empty_cache (length p.starts) b v held);
    }

-- the patch seat at the start
pub first_patches : (p : Shape) → 0 < length p.cuts → Patches (first_view p)
first_patches p some_cuts = record {
  role = refl;
  to = omega arith;
  requests = some_cuts;
  bounds = length-replicate p.cpus 0;
}

-- a word by its place
pub word_at : (words : List ℕ) (i n : ℕ) → get_elem? words i ≡ some n → get_or words i 0 ≡ n
word_at [] i n e = absurd (some-ne-none n (sym e))
word_at (x ∷ words) zero n e = some-injective x n e
word_at (x ∷ words) (suc i) n e = word_at words i n e

slice_last : (l : List Placed) (w : Placed) (c : ℕ) (v : Placed) → slice_get (l ++ w ∷ []) c ≡ Some v → (slice_get l c ≡ Some v) ⊎ ((c ≡ length l) × (w ≡ v))
slice_last [] w zero v e = inr (refl, same_Some w v e)
slice_last [] w (suc c) v e = absurd (cc)
slice_last (x ∷ l) w zero v e = inl e
slice_last (x ∷ l) w (suc c) v e =
    elim (slice_last l w c v e) [ inl before ↦ inl before | inr last ↦ inr (ap suc last.0, last.1) ]

-- one seat more
pub seated_more : (text : TextState) (n : ℕ) (seats : List Placed) (seat : Placed) → AreSeated text n seats → IsSeated text n seat → AreSeated text (n + 1) (seats ++ seat ∷ [])
seated_more text n seats seat are is = record {
  count_is = length-append seats (seat ∷ []) ∙ ap (λ (k : ℕ). k + 1) are.count_is;
  each = λ number s at.
      elim (slice_last seats seat number s at) [
        | inl before ↦ are.each number s before
        | inr last ↦ subst (λ (z : ℕ × Placed). IsSeated text z.0 z.1) (λ k. (sym (last.0 ∙ are.count_is) k, last.1 k)) is
      ];
}

-- one byte more
pub bytes_more : (room words : List ℕ) (n byte : ℕ) → length room ≡ n → ((b : ℕ) → b < n → get_or room b 0 ≡ get_or words b 0) → get_elem? words n ≡ some byte → (b : ℕ) → b < n + 1 → get_or (room ++ byte ∷ []) b 0 ≡ get_or words b 0
bytes_more room words n byte long same at b below =
    dite (ℕ_discrete b n)
    (λ here.
    ap (λ (k : ℕ). get_or (room ++ byte ∷ []) k 0) (here ∙ sym long)
    ∙ get_or_push room byte 0 (length room) refl
    ∙ sym (word_at words n byte at)
    ∙ ap (λ (k : ℕ). get_or words k 0) (sym here))
    (λ other. get_or-append room (byte ∷ []) 0 b (omega arith) ∙ same b (omega arith))
