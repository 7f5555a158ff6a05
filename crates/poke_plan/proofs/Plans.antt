-- The change of a plan can be poked, and its poke is printed item by item.
use Rattle.std.proofs.Common.{◌≡◌, ◌≢◌, ◌≤◌, ◌<◌, ◌+◌, ◌-◌, ◌*◌, ℕ, zero, suc, Bool, true, false, List, [], ◌∷◌, ◌++◌, length, take, drop, get_or, Option, Some, None, IsSome, Result, Ok, Err, IsErr, unwrap_or, refl, sym, ap, ◌∙◌, subst, arith, append_assoc, append-nil, drop-cons}
use Rattle.std.specs.Prelude.{All}
use Rattle.std.specs.List.{flat_map, slice_get}
use Rattle.std.proofs.lemmas.Grind.{common_steps}
use Rattle.std.proofs.lemmas.Bool.{le-leb}
use Rattle.std.proofs.lemmas.Grind.{flat_map-append}
use Rattle.std.proofs.lemmas.Slice.Eq.{bytes_eq-Decides}
use Rattle.std.proofs.lemmas.Option.{slice_get-get_or, unwrap_or-slice_get}
use Rattle.poke_base.specs.declared.host.WriteFail.{WriteFail}
use Rattle.poke_base.specs.Host.{Outside, Prints}
use Rattle.poke_base.proofs.Outsides.{Prints-none, Prints-more, Prints-part}
use Rattle.insn_forms.specs.declared.forms.Form.{Form}
use Rattle.insn_forms.specs.declared.forms.Change.{Change}
use Rattle.insn_forms.specs.Changes.{ChangeList}
use Rattle.insn_forms.specs.Spelling.{spell, size}
use Rattle.insn_forms.proofs.Spellings.{length-spell, size_most}
use Rattle.poke_batch.specs.declared.batch.Due.{Due}
use Rattle.poke_batch.specs.declared.batch.Due.TheVariants.{Idle, Write, Request, Wait, Return}
use Rattle.poke_batch.specs.Poke.{Item, poke, spelled}
use Rattle.poke_batch.specs.Poke.Item.{Puts, Syncs}
use Rattle.poke_batch.specs.Walk.{Walk, due_of, due_at, to_come}
use Rattle.poke_batch.specs.Clash.{IsPatchable, CanPoke, held_bytes, holds_old, first_clash}
use Rattle.poke_plan.specs.declared.plan_line.Plan.{Plan}
use Rattle.poke_plan.specs.declared.plan_line.SiteBytes.{SiteBytes}
use Rattle.poke_plan.specs.SiteBytes.{site_byte}
use Rattle.poke_plan.specs.PlanLine.{IsPlan}
use Rattle.insn_forms.specs.Write.{Write as WriteItem}
use Rattle.poke_plan.specs.Plan.{item_line, to_print, after_wait}

-- a byte of the site
site_byte-inside : (site : SiteBytes) (j : ℕ) → site_byte site (site.at + j) ≡ slice_get site.bytes.items j
site_byte-inside site j =
    let place : site.at + j - site.at ≡ j = omega arith in
    rw (le-leb site.at (site.at + j) (omega arith)) (ap (λ (n : ℕ). slice_get site.bytes.items n) place)

-- the bytes that the site holds from a place on
held_bytes-site : (site : SiteBytes) (k n : ℕ) → k + n ≤ length site.bytes.items → held_bytes (site_byte site) (site.at + k) n ≡ take n (drop k site.bytes.items)
held_bytes-site site k zero fits = refl
held_bytes-site site k (suc n) fits =
    let bytes = site.bytes.items in
    let here : k < length bytes = omega arith in
    let first : unwrap_or (site_byte site (site.at + k)) 0 ≡ get_or bytes k 0 = ap (λ (o : Option ℕ). unwrap_or o 0) (site_byte-inside site k) ∙ unwrap_or-slice_get bytes k 0 in
    let next : site.at + k + 1 ≡ site.at + suc k = omega arith in
    let rest : held_bytes (site_byte site) (site.at + k + 1) n ≡ take n (drop (suc k) bytes) = ap (λ (a : ℕ). held_bytes (site_byte site) a n) next ∙ held_bytes-site site (suc k) n (omega arith) in
    (λ i. first i ∷ rest i) ∙ sym (ap (λ (xs : List ℕ). take (suc n) xs) (drop-cons bytes k 0 here))

-- the bytes that a site holds at its address
held_bytes-whole : (site : SiteBytes) (at n : ℕ) → site.at ≡ at → length site.bytes.items ≡ n → held_bytes (site_byte site) at n ≡ site.bytes.items
held_bytes-whole site at n same_place same_length =
    let here : at ≡ site.at + 0 = omega arith in
    ap (λ (a : ℕ). held_bytes (site_byte site) a n) here ∙ held_bytes-site site 0 n (omega arith)
    ∙ grind (arith, common_steps)

-- the site of a plan holds its old form
plan_holds : (plan : Plan) → IsPlan plan → holds_old (site_byte plan.held) plan.change ≡ true
plan_holds plan is =
    let c = plan.change in
    let long : length plan.held.bytes.items ≡ size c.old = length-spell c.old c.at plan.held.bytes.items is.old in
    let held : held_bytes (site_byte plan.held) c.at (size c.old) ≡ plan.held.bytes.items = held_bytes-whole plan.held c.at (size c.old) is.held_at long in
    let wanted : spelled c.old c.at ≡ plan.held.bytes.items = ap (λ (o : Option (List ℕ)). unwrap_or o []) is.old in
    (bytes_eq-Decides (held_bytes (site_byte plan.held) c.at (size c.old)) (spelled c.old c.at)).1 (held ∙ sym wanted)

-- so there is no clash
pub plan_no_clash : (plan : Plan) → IsPlan plan → first_clash (site_byte plan.held) (plan.change ∷ []) ≡ None
plan_no_clash plan is = rw (plan_holds plan is) refl

-- what holds of one change holds of each
each_one : (P : Change → Type 0) (c : Change) → P c → All P (c ∷ [])
each_one P c holds zero d within = holds
each_one P c holds (suc k) d within = absurd (omega arith)

-- a form with a spelling
spelt_form : (form : Form) (at : ℕ) (code : List ℕ) → spell form at ≡ Some code → IsSome (spell form at)
spelt_form form at code spelt = subst (λ (o : Option (List ℕ)). IsSome o) (sym spelt) refl

-- the site of a plan holds a byte at each place
plan_inside : (plan : Plan) → IsPlan plan → (j : ℕ) → j < size plan.change.old → IsSome (site_byte plan.held (plan.change.at + j))
plan_inside plan is j within =
    let bytes = plan.held.bytes.items in
    let long : length bytes ≡ size plan.change.old = length-spell plan.change.old plan.change.at bytes is.old in
    let there : site_byte plan.held (plan.held.at + j) ≡ Some (get_or bytes j 0) = site_byte-inside plan.held j ∙ slice_get-get_or bytes j 0 (omega arith) in
    let moved : site_byte plan.held (plan.change.at + j) ≡ Some (get_or bytes j 0) = ap (λ (a : ℕ). site_byte plan.held (a + j)) (sym is.held_at) ∙ there in
    subst (λ (o : Option ℕ). IsSome o) (sym moved) refl

-- the change of a plan can be poked
pub plan_ready : (plan : Plan) → IsPlan plan → CanPoke (site_byte plan.held) (plan.change ∷ [])
plan_ready plan is = record {
  each =
      each_one (IsPatchable (site_byte plan.held)) plan.change
      (record {
        one_size = is.one_size;
        old_spelt = spelt_form plan.change.old plan.change.at plan.held.bytes.items is.old;
        new_spelt = is.new;
        below = let low = is.below in omega (arith, size_most plan.change.old);
        inside = plan_inside plan is;
      });
  apart = λ i j d before within. absurd (omega arith);
}

-- a change pushed to an empty list is its only one
pub only_change : (old new : ChangeList) (change : Change) → old.list ≡ [] → new ≡ record old { list = old.list ++ (change ∷ []) } → new.list ≡ change ∷ []
only_change old new change empty pushed =
    ap (λ (changes : ChangeList). changes.list) pushed ∙ ap (λ (xs : List Change). xs ++ (change ∷ [])) empty

-- how many steps the poke of an update still takes
abbrev pub extra_steps : Due → ℕ
extra_steps Idle = 0
extra_steps (Write at byte) = 0
extra_steps Request = 2
extra_steps Wait = 1
extra_steps Return = 1

abbrev pub steps_left : Option Walk → ℕ
steps_left update = 3 * length (to_come update) + extra_steps (due_of update)

-- the items that were printed, and those still to come, are all the items
pub record HasPrinted (old new : Outside) (all left : List Item) : Type 0 where
  pub done : List Item
  pub whole : done ++ left ≡ all
  pub prints : Prints {T = Unit {0}} {E = WriteFail} old new (flat_map item_line done) (Ok tt)

-- nothing is printed at first
pub printed-none : (old : Outside) (all : List Item) → HasPrinted old old all all
printed-none old all = record { done = []; whole = refl; prints = Prints-none old tt }

-- one item more
pub printed-more : (old middle new : Outside) (all left rest : List Item) (item : Item) → HasPrinted old middle all left → left ≡ item ∷ rest → Prints {T = Unit {0}} {E = WriteFail} middle new (item_line item) (Ok tt) → HasPrinted old new all rest
printed-more old middle new all left rest item printed first prints = record {
  done = printed.done ++ (item ∷ []);
  whole = append_assoc printed.done (item ∷ []) rest ∙ ap (λ (xs : List Item). printed.done ++ xs) (sym first) ∙ printed.whole;
  prints =
      subst (λ (text : List ℕ). Prints {T = Unit {0}} {E = WriteFail} old new text (Ok tt)) (one_more printed.done item)
      (Prints-more old middle new (flat_map item_line printed.done) (item_line item) tt (Ok tt) printed.prints prints);
}
  where
    one_more : (done : List Item) (item : Item) → flat_map item_line done ++ item_line item ≡ flat_map item_line (done ++ (item ∷ []))
    one_more done item = sym (flat_map-append item_line done (item ∷ []) ∙ ap (λ (xs : List ℕ). flat_map item_line done ++ xs) (append-nil (item_line item)))

-- all is printed where nothing is to come
pub printed-all : (old new : Outside) (all left : List Item) → HasPrinted old new all left → left ≡ [] → Prints {T = Unit {0}} {E = WriteFail} old new (flat_map item_line all) (Ok tt)
printed-all old new all left printed none =
    let same : printed.done ≡ all = sym (append-nil printed.done) ∙ ap (λ (xs : List Item). printed.done ++ xs) (sym none) ∙ printed.whole in
    subst (λ (xs : List Item). Prints {T = Unit {0}} {E = WriteFail} old new (flat_map item_line xs) (Ok tt)) same printed.prints

-- a print that failed
pub printed-part : (old middle new : Outside) (all left rest : List Item) (item : Item) (why : WriteFail) → HasPrinted old middle all left → left ≡ item ∷ rest → Prints {T = Unit {0}} {E = WriteFail} middle new (item_line item) (Err why) → Prints {T = Unit {0}} {E = WriteFail} old new (flat_map item_line all) (Err why)
printed-part old middle new all left rest item why printed first prints =
    let whole : (flat_map item_line printed.done ++ item_line item) ++ flat_map item_line rest ≡ flat_map item_line all =
    append_assoc (flat_map item_line printed.done) (item_line item) (flat_map item_line rest)
    ∙ sym (flat_map-append item_line printed.done (item ∷ rest))
    ∙ ap (λ (xs : List Item). flat_map item_line (printed.done ++ xs)) (sym first)
    ∙ ap (λ (xs : List Item). flat_map item_line xs) printed.whole in
    subst (λ (text : List ℕ). Prints {T = Unit {0}} {E = WriteFail} old new text (Err why)) whole
    (Prints-part old middle new (flat_map item_line printed.done) (item_line item) (flat_map item_line rest) tt why printed.prints prints)

-- nothing is to come where nothing is due
pub idle_done : (update : Option Walk) → due_of update ≡ Idle → to_come update ≡ []
idle_done None idle = refl
idle_done (Some walk) idle = absurd (not_idle walk.left walk.requested idle)
  where
    not_idle : (left : List Item) (requested : Bool) → due_at left requested ≡ Idle → ⊥
    not_idle [] requested idle = absurd (cc)
    not_idle (Puts w ∷ left) requested idle = absurd (cc)
    not_idle (Syncs ∷ left) true idle = absurd (cc)
    not_idle (Syncs ∷ left) false idle = absurd (cc)

-- but at a wait, what is still to come is still to be printed
after_wait-other : (due : Due) (items : List Item) → due ≢ Wait → after_wait due items ≡ items
after_wait-other Idle items other = refl
after_wait-other (Write at byte) items other = refl
after_wait-other Request items other = refl
after_wait-other Wait items other = absurd (other refl)
after_wait-other Return items other = refl

-- a due write is the next item
pub write_next : (old new : Option Walk) (at byte : ℕ) → due_of old ≡ Write at byte → ((w : WriteItem) → due_of old ≡ Write w.at w.byte → to_come old ≡ Puts w ∷ to_come new) → (due_of old ≢ Request → due_of new ≢ Wait) → to_print old ≡ Puts (record { at = at; byte = byte }) ∷ to_print new
write_next old new at byte due wrote unasked =
    let write : WriteItem = record { at = at; byte = byte } in
    let no_wait : due_of old ≢ Wait = λ waits. absurd (cc) in
    let no_request : due_of old ≢ Request = λ requests. absurd (cc) in
    after_wait-other (due_of old) (to_come old) no_wait ∙ wrote write due
    ∙ ap (λ (items : List Item). Puts write ∷ items) (sym (after_wait-other (due_of new) (to_come new) (unasked no_request)))

-- a due write is the first item
pub write_first : (update : Option Walk) (at byte : ℕ) → due_of update ≡ Write at byte → to_print update ≡ Puts (record { at = at; byte = byte }) ∷ drop 1 (to_print update)
write_first None at byte due = absurd (cc)
write_first (Some walk) at byte due =
    let no_wait : due_of (Some walk) ≢ Wait = λ waits. absurd (cc) in
    let prefix : walk.left ++ flat_map poke walk.later ≡ Puts (record { at = at; byte = byte }) ∷ drop 1 (walk.left ++ flat_map poke walk.later) = first walk.left walk.requested (flat_map poke walk.later) due in
    subst (λ (items : List Item). items ≡ Puts (record { at = at; byte = byte }) ∷ drop 1 items) (sym (after_wait-other (due_of (Some walk)) (to_come (Some walk)) no_wait)) prefix
  where
    first : (left : List Item) (requested : Bool) (later : List Item) → due_at left requested ≡ Write at byte → left ++ later ≡ Puts (record { at = at; byte = byte }) ∷ drop 1 (left ++ later)
    first [] requested later due = absurd (cc)
    first (Puts w ∷ left) requested later due =
        let here : w.at ≡ at = cc in
        let what : w.byte ≡ byte = cc in
        λ i. Puts (record { at = here i; byte = what i }) ∷ (left ++ later)
    first (Syncs ∷ left) true later due = absurd (cc)
    first (Syncs ∷ left) false later due = absurd (cc)

-- a synchronisation is the next item where a request is due
request_first : (update : Option Walk) → due_of update ≡ Request → to_come update ≡ Syncs ∷ drop 1 (to_come update)
request_first None due = absurd (cc)
request_first (Some walk) due = first walk.left walk.requested (flat_map poke walk.later) due
  where
    first : (left : List Item) (requested : Bool) (later : List Item) → due_at left requested ≡ Request → left ++ later ≡ Syncs ∷ drop 1 (left ++ later)
    first [] requested later due = absurd (cc)
    first (Puts w ∷ left) requested later due = absurd (cc)
    first (Syncs ∷ left) requested later due = refl

-- and it is the first to be printed
pub request_printed : (update : Option Walk) → due_of update ≡ Request → to_print update ≡ Syncs ∷ drop 1 (to_print update)
request_printed update due =
    let no_wait : due_of update ≢ Wait = λ waits. absurd (cc) in
    subst (λ (items : List Item). items ≡ Syncs ∷ drop 1 items) (sym (after_wait-other (due_of update) (to_come update) no_wait)) (request_first update due)

-- its line is printed at the request
pub request_next : (old new : Option Walk) → due_of old ≡ Request → due_of new ≡ Wait → to_come new ≡ to_come old → to_print old ≡ Syncs ∷ to_print new
request_next old new due waits same =
    let no_wait : due_of old ≢ Wait = λ also. absurd (cc) in
    let rest : to_print new ≡ drop 1 (to_come old) = ap (λ (d : Due). after_wait d (to_come new)) waits ∙ ap (λ (items : List Item). drop 1 items) same in
    after_wait-other (due_of old) (to_come old) no_wait ∙ request_first old due
    ∙ ap (λ (items : List Item). Syncs ∷ items) (sym rest)
