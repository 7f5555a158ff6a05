-- The stages of a chunk go through the items of its poke.
use Rattle.std.proofs.Common.{◌≡◌, ◌+◌, ◌<◌, ◌≤◌, ℕ, zero, suc, Bool, true, false, if◌then◌else◌, nat_lt, List, [], ◌∷◌, ◌++◌, length, map, drop, get_or, Option, Some, None, All, refl, ap, sym, ◌∙◌, add-one, arith, drop-cons}
use Rattle.std.proofs.Math.ListN.{drop_of_length-le}
use Rattle.std.proofs.lemmas.Bool.{ltb-false, ltb-true}
use Rattle.insn_forms.specs.declared.forms.Change.{Change}
use Rattle.insn_forms.specs.declared.forms.Form.TheVariants.{Nop2}
use Rattle.insn_forms.specs.Spelling.{size}
use Rattle.insn_forms.specs.Write.{Write}
use Rattle.poke_batch.specs.declared.batch.Due.TheVariants.{Write as Writes}
use Rattle.poke_batch.specs.declared.stage.Round.TheVariants.{Traps, Tails, Firsts}
use Rattle.poke_batch.specs.declared.stage.Stage.{Stage}
use Rattle.poke_batch.specs.declared.stage.Stage.TheVariants.{Idle, Trap, Tail, First, Sync, Return}
use Rattle.poke_batch.specs.Inside.{due_in, left_at, tails_from, walk_in}
use Rattle.poke_batch.specs.Poke.{Item, firsts, from_firsts, from_tails, spelled, tails, traps, writes_from}
use Rattle.poke_batch.specs.Poke.Item.{Puts, Syncs}
use Rattle.poke_batch.specs.Stage.{IsInside, after_due, is_idle, is_requested, site_size, tail_after}
use Rattle.poke_batch.specs.Walk.{Walk, due_at, moved, moved_at}
use Rattle.insn_forms.proofs.Spellings.{size_most}
use Rattle.poke_batch.proofs.Patches.{two-le-size}

-- the new form is spelt in as many bytes as it takes
pub record IsWhole (c : Change) : Type 0 where
  pub whole : length (spelled c.new c.at) ≡ size c.new

-- the size of a site is that of its new form
pub site_size-is : (chunk : List Change) (site : ℕ) (d : Change) → site < length chunk → site_size chunk site ≡ size (get_or chunk site d).new
site_size-is [] site d lt = absurd (omega arith)
site_size-is (c ∷ chunk) zero d lt = refl
site_size-is (c ∷ chunk) (suc site) d lt = site_size-is chunk site d (omega arith)

-- each site has a tail
pub site_size-two : (chunk : List Change) (site : ℕ) → site < length chunk → 2 ≤ site_size chunk site
site_size-two [] site lt = absurd (omega arith)
site_size-two (c ∷ chunk) zero lt = two-le-size c.new
site_size-two (c ∷ chunk) (suc site) lt = site_size-two chunk site (omega arith)

-- and at most five bytes
pub site_size-most : (chunk : List Change) (site : ℕ) → site_size chunk site ≤ 5
site_size-most [] site = omega arith
site_size-most (c ∷ chunk) zero = size_most c.new
site_size-most (c ∷ chunk) (suc site) = site_size-most chunk site

-- the tails begin after the first bytes
pub tails_from-one : (chunk : List Change) → tails_from 1 chunk ≡ tails chunk
tails_from-one [] = refl
tails_from-one (c ∷ chunk) = refl

-- a stage of a chunk, not asked for yet, at which these items are left
record Stands (chunk : List Change) (stage : Stage) (items : List Item) : Type 0 where
  left : left_at stage chunk ≡ items
  unasked : is_requested stage ≡ false
  active : is_idle stage ≡ false
  inside : IsInside chunk stage

-- after the trap of a site
trap_next : (chunk : List Change) (site : ℕ) (more : Bool) → nat_lt (site + 1) (length chunk) ≡ more → Stands chunk (if more then Trap (site + 1) else Sync Traps false) (map Puts (traps (drop (suc site) chunk)) ++ Syncs ∷ from_tails chunk)
trap_next chunk site true is = record {
  left = ap (λ place. map Puts (traps (drop place chunk)) ++ Syncs ∷ from_tails chunk) (add-one site);
  unasked = refl;
  active = refl;
  inside = ltb-true (site + 1) (length chunk) is;
}
trap_next chunk site false is =
    let end : length chunk ≤ site + 1 = ltb-false (site + 1) (length chunk) is in
    let short : length chunk ≤ suc site = omega arith in
    record {
      left = ap (λ (rest : List Change). map Puts (traps rest) ++ Syncs ∷ from_tails chunk) (sym (drop_of_length-le chunk short));
      unasked = refl;
      active = refl;
      inside = tt;
    }

-- after the first byte of a site
first_next : (chunk : List Change) (site : ℕ) (more : Bool) → nat_lt (site + 1) (length chunk) ≡ more → Stands chunk (if more then First (site + 1) else Sync Firsts false) (map Puts (firsts (drop (suc site) chunk)) ++ Syncs ∷ [])
first_next chunk site true is = record {
  left = ap (λ place. map Puts (firsts (drop place chunk)) ++ Syncs ∷ []) (add-one site);
  unasked = refl;
  active = refl;
  inside = ltb-true (site + 1) (length chunk) is;
}
first_next chunk site false is =
    let end : length chunk ≤ site + 1 = ltb-false (site + 1) (length chunk) is in
    let short : length chunk ≤ suc site = omega arith in
    record {
      left = ap (λ (rest : List Change). map Puts (firsts rest) ++ Syncs ∷ []) (sym (drop_of_length-le chunk short));
      unasked = refl;
      active = refl;
      inside = tt;
    }

-- after the tail of a site
tail_next : (chunk : List Change) (site : ℕ) (more : Bool) → nat_lt (site + 1) (length chunk) ≡ more → Stands chunk (if more then Tail (site + 1) 1 else Sync Tails false) (map Puts (tails (drop (suc site) chunk)) ++ Syncs ∷ from_firsts chunk)
tail_next chunk site true is =
    let lt : site + 1 < length chunk = ltb-true (site + 1) (length chunk) is in
    let two = site_size-two chunk (site + 1) lt in
    record {
      left =
          ap (λ (writes : List Write). map Puts writes ++ Syncs ∷ from_firsts chunk) (tails_from-one (drop (site + 1) chunk))
          ∙ ap (λ place. map Puts (tails (drop place chunk)) ++ Syncs ∷ from_firsts chunk) (add-one site);
      unasked = refl;
      active = refl;
      inside = (lt, omega arith);
    }
tail_next chunk site false is =
    let end : length chunk ≤ site + 1 = ltb-false (site + 1) (length chunk) is in
    let short : length chunk ≤ suc site = omega arith in
    record {
      left = ap (λ (rest : List Change). map Puts (tails rest) ++ Syncs ∷ from_firsts chunk) (sym (drop_of_length-le chunk short));
      unasked = refl;
      active = refl;
      inside = tt;
    }

-- the items after a byte of a tail
abbrev after_byte : List Change → ℕ → ℕ → Change → List Item
after_byte chunk site place c =
    map Puts (writes_from ((c.at + place) + 1) (drop (suc place) (spelled c.new c.at)) ++ tails (drop (suc site) chunk)) ++ Syncs ∷ from_firsts chunk

-- after a byte of a tail
byte_next : (chunk : List Change) (site place : ℕ) (c : Change) (more : Bool) → site < length chunk → drop site chunk ≡ c ∷ drop (suc site) chunk → length (spelled c.new c.at) ≡ site_size chunk site → nat_lt (place + 1) (site_size chunk site) ≡ more
    → Stands chunk (if more then Tail site (place + 1) else tail_after site (length chunk)) (after_byte chunk site place c)
byte_next chunk site place c true lt is whole more =
    let code : List ℕ = spelled c.new c.at in
    let at : c.at + (place + 1) ≡ (c.at + place) + 1 = omega arith in
    record {
      left =
          ap (λ (rest : List Change). map Puts (tails_from (place + 1) rest) ++ Syncs ∷ from_firsts chunk) is
          ∙ ap (λ a. map Puts (writes_from a (drop (place + 1) code) ++ tails (drop (suc site) chunk)) ++ Syncs ∷ from_firsts chunk) at
          ∙ ap (λ k. map Puts (writes_from ((c.at + place) + 1) (drop k code) ++ tails (drop (suc site) chunk)) ++ Syncs ∷ from_firsts chunk) (add-one place);
      unasked = refl;
      active = refl;
      inside = (lt, ltb-true (place + 1) (site_size chunk site) more);
    }
byte_next chunk site place c false lt is whole more =
    let code : List ℕ = spelled c.new c.at in
    let end : site_size chunk site ≤ place + 1 = ltb-false (place + 1) (site_size chunk site) more in
    let short : length code ≤ suc place = omega arith in
    let next = tail_next chunk site (nat_lt (site + 1) (length chunk)) refl in
    record {
      left = next.left ∙ ap (λ bytes. map Puts (writes_from ((c.at + place) + 1) bytes ++ tails (drop (suc site) chunk)) ++ Syncs ∷ from_firsts chunk) (sym (drop_of_length-le code short));
      unasked = next.unasked;
      active = next.active;
      inside = next.inside;
    }

-- the due write of a trap, of a tail and of a first byte
trap_left : (chunk : List Change) (site : ℕ) (c : Change) → drop site chunk ≡ c ∷ drop (suc site) chunk → left_at (Trap site) chunk ≡ Puts (record { at = c.at; byte = 0xcc }) ∷ (map Puts (traps (drop (suc site) chunk)) ++ Syncs ∷ from_tails chunk)
trap_left chunk site c is = ap (λ (rest : List Change). map Puts (traps rest) ++ Syncs ∷ from_tails chunk) is

byte_left : (chunk : List Change) (site place : ℕ) (c : Change) → drop site chunk ≡ c ∷ drop (suc site) chunk → place < length (spelled c.new c.at) → left_at (Tail site place) chunk ≡ Puts (record { at = c.at + place; byte = get_or (spelled c.new c.at) place 0 }) ∷ after_byte chunk site place c
byte_left chunk site place c is lt =
    ap (λ (rest : List Change). map Puts (tails_from place rest) ++ Syncs ∷ from_firsts chunk) is
    ∙ ap (λ bytes. map Puts (writes_from (c.at + place) bytes ++ tails (drop (suc site) chunk)) ++ Syncs ∷ from_firsts chunk) (drop-cons (spelled c.new c.at) place 0 lt)

first_left : (chunk : List Change) (site : ℕ) (c : Change) → drop site chunk ≡ c ∷ drop (suc site) chunk → left_at (First site) chunk ≡ Puts (record { at = c.at; byte = get_or (spelled c.new c.at) 0 0 }) ∷ (map Puts (firsts (drop (suc site) chunk)) ++ Syncs ∷ [])
first_left chunk site c is = ap (λ (rest : List Change). map Puts (firsts rest) ++ Syncs ∷ []) is

-- what is due there
pub trap_due : (chunk : List Change) (site : ℕ) (c : Change) → site < length chunk → c ≡ get_or chunk site c → Writes c.at 0xcc ≡ due_in (Trap site) chunk
trap_due chunk site c lt is =
    let here : drop site chunk ≡ c ∷ drop (suc site) chunk = drop-cons chunk site c lt ∙ ap (λ (d : Change). d ∷ drop (suc site) chunk) (sym is) in
    sym (ap (λ left. due_at left false) (trap_left chunk site c here))

pub byte_due : (chunk : List Change) (site place : ℕ) (c : Change) → site < length chunk → c ≡ get_or chunk site c → place < length (spelled c.new c.at) → Writes (c.at + place) (get_or (spelled c.new c.at) place 0) ≡ due_in (Tail site place) chunk
byte_due chunk site place c lt is within =
    let here : drop site chunk ≡ c ∷ drop (suc site) chunk = drop-cons chunk site c lt ∙ ap (λ (d : Change). d ∷ drop (suc site) chunk) (sym is) in
    sym (ap (λ left. due_at left false) (byte_left chunk site place c here within))

pub first_due : (chunk : List Change) (site : ℕ) (c : Change) → site < length chunk → c ≡ get_or chunk site c → Writes c.at (get_or (spelled c.new c.at) 0 0) ≡ due_in (First site) chunk
first_due chunk site c lt is =
    let here : drop site chunk ≡ c ∷ drop (suc site) chunk = drop-cons chunk site c lt ∙ ap (λ (d : Change). d ∷ drop (suc site) chunk) (sym is) in
    sym (ap (λ left. due_at left false) (first_left chunk site c here))

-- the open update at a stage of a chunk, where one is open
abbrev pub open_at : List Change → List (List Change) → Stage → List Change → List Bool → Option Walk
open_at chunk later stage changes took = if is_idle stage then None else Some (walk_in chunk later stage changes took)

-- after the due write is the stage at which the other items are left
write_moves : (chunk : List Change) (later : List (List Change)) (stage next : Stage) (changes : List Change) (took : List Bool) (w : Write) (left : List Item) → left_at stage chunk ≡ Puts w ∷ left → is_requested stage ≡ false → Stands chunk next left → open_at chunk later next changes took ≡ moved (walk_in chunk later stage changes took)
write_moves chunk later stage next changes took w left is unasked stands =
    let walk : List Item → Bool → Option Walk = λ items requested. Some (record { changes = changes; chunk = chunk; left = items; later = later; requested = requested; took = took }) in
    ap (λ (idle : Bool). if idle then None else Some (walk_in chunk later next changes took)) stands.active
    ∙ ap (λ items. walk items (is_requested next)) stands.left
    ∙ ap (λ requested. walk left requested) (stands.unasked ∙ sym unasked)
    ∙ sym (ap (λ items. moved_at items (walk_in chunk later stage changes took)) is)

-- the stage after the due write, request or return stands for the update after it, and lies in the chunk
pub record Moves (chunk : List Change) (later : List (List Change)) (stage : Stage) (changes : List Change) (took : List Bool) : Type 0 where
  pub step : open_at chunk later (after_due chunk stage) changes took ≡ moved (walk_in chunk later stage changes took)
  pub inside : IsInside chunk (after_due chunk stage)

-- some change, where there is none
abbrev no_change : Change
no_change = record { at = 0; old = Nop2; new = Nop2 }

pub stage_moves : (chunk : List Change) (later : List (List Change)) (stage : Stage) (changes : List Change) (took : List Bool) → is_idle stage ≡ false → IsInside chunk stage → All IsWhole chunk → Moves chunk later stage changes took
stage_moves chunk later Idle changes took active inside whole = absurd (cc)
stage_moves chunk later (Trap site) changes took active inside whole =
    let c : Change = get_or chunk site no_change in
    let next = trap_next chunk site (nat_lt (site + 1) (length chunk)) refl in
    record {
      step = write_moves chunk later (Trap site) _ changes took _ _ (trap_left chunk site c (drop-cons chunk site no_change inside)) refl next;
      inside = next.inside;
    }
stage_moves chunk later (Tail site place) changes took active inside whole =
    let c : Change = get_or chunk site no_change in
    let size_is = site_size-is chunk site no_change inside.0 in
    let long : length (spelled c.new c.at) ≡ site_size chunk site = (whole site no_change inside.0).whole ∙ sym size_is in
    let here : drop site chunk ≡ c ∷ drop (suc site) chunk = drop-cons chunk site no_change inside.0 in
    let next = byte_next chunk site place c (nat_lt (place + 1) (site_size chunk site)) inside.0 here long refl in
    let within : place < length (spelled c.new c.at) = let lt = inside.1 in omega arith in
    record {
      step = write_moves chunk later (Tail site place) _ changes took _ _ (byte_left chunk site place c here within) refl next;
      inside = next.inside;
    }
stage_moves chunk later (First site) changes took active inside whole =
    let c : Change = get_or chunk site no_change in
    let next = first_next chunk site (nat_lt (site + 1) (length chunk)) refl in
    record {
      step = write_moves chunk later (First site) _ changes took _ _ (first_left chunk site c (drop-cons chunk site no_change inside)) refl next;
      inside = next.inside;
    }
stage_moves chunk later (Sync Traps requested) changes took active inside whole = record { step = refl; inside = tt }
stage_moves chunk later (Sync Tails requested) changes took active inside whole = record { step = refl; inside = tt }
stage_moves chunk later (Sync Firsts requested) changes took active inside whole = record { step = refl; inside = tt }
stage_moves chunk later Return changes took active inside whole = record { step = refl; inside = tt }
