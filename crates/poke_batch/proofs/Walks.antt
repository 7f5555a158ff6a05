-- The steps of an open update go through the items of its poke in order.
use Rattle.std.proofs.Common.{◌≡◌, ◌≢◌, ◌<◌, ℕ, suc, Bool, true, false, if◌then◌else◌, List, [], ◌∷◌, ◌++◌, length, get_or, set, drop, Option, Some, None, IfSome, refl, ap, sym, subst, ◌∙◌, arith, get_or-set_other, get_or-set_same}
use Rattle.std.specs.List.{flat_map, list_all}
use Rattle.std.proofs.lemmas.List.Folds.{list_all_at}
use Rattle.std.proofs.lemmas.List.{length-set}
use Rattle.insn_forms.specs.declared.forms.Change.{Change}
use Rattle.insn_forms.specs.Write.{Write}
use Rattle.poke_batch.specs.declared.batch.Due.TheVariants.{Write as Writes, Request, Wait, Return}
use Rattle.poke_batch.specs.Poke.{Item, poke, chunks, items}
use Rattle.poke_batch.specs.Poke.Item.{Puts, Syncs}
use Rattle.poke_batch.specs.Walk.{Walk, has_taken, opened, to_come, due_at, due_of, moved_at, moved, nobody, at_first, next_phase, passed, taken}

-- no write is due where all processors are to serialise
sync_writes_nothing : (requested : Bool) (at byte : ℕ) → (if requested then Wait else Request) ≡ Writes at byte → ⊥
sync_writes_nothing true at byte e = cc
sync_writes_nothing false at byte e = cc

-- no return is due there
sync_returns_not : (requested : Bool) → (if requested then Wait else Request) ≡ Return → ⊥
sync_returns_not true e = cc
sync_returns_not false e = cc

-- two writes of one byte at one address are one
same_write : (v w : Write) → v.at ≡ w.at → v.byte ≡ w.byte → v ≡ w
same_write v w at byte =
    let by_at : ℕ → Write = λ a. record { at = a; byte = v.byte } in
    let by_byte : ℕ → Write = λ b. record { at = w.at; byte = b } in
    ap by_at at ∙ ap by_byte byte

-- a due write is the next item
put_is_next : (left : List Item) (walk : Walk) (w : Write) → due_at left walk.requested ≡ Writes w.at w.byte → left ++ flat_map poke walk.later ≡ Puts w ∷ to_come (moved_at left walk)
put_is_next [] walk w e = cc
put_is_next (Puts v ∷ left) walk w e =
    let at : v.at ≡ w.at = cc in
    let byte : v.byte ≡ w.byte = cc in
    ap (λ u. Puts u ∷ (left ++ flat_map poke walk.later)) (same_write v w at byte)
put_is_next (Syncs ∷ left) walk w e = absurd (sync_writes_nothing walk.requested w.at w.byte e)

-- the same of an update and of what follows its due write
pub moved-writes : (old new : Option Walk) (w : Write) → IfSome old (λ walk. new ≡ moved walk) → due_of old ≡ Writes w.at w.byte → to_come old ≡ Puts w ∷ to_come new
moved-writes None new w step e = cc
moved-writes (Some walk) new w step e =
    put_is_next walk.left walk w e ∙ ap (λ after. Puts w ∷ to_come after) (sym step)

-- a request passes no item
request_waits : (left : List Item) (walk : Walk) → walk.left ≡ left → due_at left walk.requested ≡ Request → (due_of (moved_at left walk) ≡ Wait) × (to_come (moved_at left walk) ≡ to_come (Some walk))
request_waits [] walk is e = cc
request_waits (Puts v ∷ left) walk is e = cc
request_waits (Syncs ∷ left) walk is e = (ap (λ l. due_at l true) is, refl)

-- the same of an update and of what follows its due request
pub moved-requests : (old new : Option Walk) → IfSome old (λ walk. new ≡ moved walk) → due_of old ≡ Request → (due_of new ≡ Wait) × (to_come new ≡ to_come old)
moved-requests None new step e = cc
moved-requests (Some walk) new step e =
    let kept : (due_of (moved walk) ≡ Wait) × (to_come (moved walk) ≡ to_come (Some walk)) = request_waits walk.left walk refl e in
    (ap (λ after. due_of after) step ∙ kept.0, ap (λ after. to_come after) step ∙ kept.1)

-- a return is due where nothing is to come, and closes the update
return_closes : (left : List Item) (walk : Walk) → (left ≡ [] → walk.later ≡ []) → due_at left walk.requested ≡ Return → (moved_at left walk ≡ None) × (left ++ flat_map poke walk.later ≡ [])
return_closes [] walk last e = (refl, ap (flat_map poke) (last refl))
return_closes (Puts v ∷ left) walk last e = cc
return_closes (Syncs ∷ left) walk last e = absurd (sync_returns_not walk.requested e)

-- the same of an update and of what follows its due return
pub moved-returns : (old new : Option Walk) → IfSome old (λ walk. new ≡ moved walk) → IfSome old (λ walk. walk.left ≡ [] → walk.later ≡ []) → due_of old ≡ Return → (new ≡ None) × (to_come old ≡ [])
moved-returns None new step last e = cc
moved-returns (Some walk) new step last e =
    let closed : (moved walk ≡ None) × (to_come (Some walk) ≡ []) = return_closes walk.left walk last e in
    (step ∙ closed.0, closed.1)

-- after a synchronisation the items are those after it
next_phase-to_come : (left : List Item) (later : List (List Change)) (walk : Walk) → walk.later ≡ later → to_come (Some (next_phase left later walk)) ≡ left ++ flat_map poke later
next_phase-to_come (item ∷ left) later walk is = ap (λ chunks. (item ∷ left) ++ flat_map poke chunks) is
next_phase-to_come [] (chunk ∷ later) walk is = refl
next_phase-to_come [] [] walk is = ap (flat_map poke) is

-- a synchronisation is the next item where a wait is due
wait_is_next : (left : List Item) (walk : Walk) → walk.left ≡ left → due_at left walk.requested ≡ Wait → to_come (Some walk) ≡ Syncs ∷ to_come (Some (passed walk))
wait_is_next [] walk is e = cc
wait_is_next (Puts v ∷ left) walk is e = cc
wait_is_next (Syncs ∷ left) walk is e =
    let after : drop 1 walk.left ≡ left = ap (drop 1) is in
    let next : to_come (Some (passed walk)) ≡ drop 1 walk.left ++ flat_map poke walk.later =
    next_phase-to_come (drop 1 walk.left) walk.later (record walk { requested = false; took = nobody (length walk.took) }) refl in
    ap (λ items. items ++ flat_map poke walk.later) is ∙ ap (λ items. Syncs ∷ (items ++ flat_map poke walk.later)) (sym after) ∙ ap (λ items. Syncs ∷ items) (sym next)

-- all flags are set where each one is
all_set : (flags : List Bool) → ((i : ℕ) → i < length flags → get_or flags i false ≡ true) → list_all (λ flag. flag) flags ≡ true
all_set [] each = refl
all_set (flag ∷ flags) each =
    rw (each 0 (omega arith)) (all_set flags (λ i lt. each (suc i) (omega arith)))

-- the flags of the processors that have taken a request, where this one has taken it and so have all others
pub everybody : (took : List Bool) (cpu : ℕ) → cpu < length took → ((other : ℕ) → other < length took → other ≢ cpu → get_or took other false ≡ true) → list_all (λ flag. flag) (set took cpu true) ≡ true
everybody took cpu lt each =
    all_set (set took cpu true) (λ i below. grind (arith, get_or-set_other, get_or-set_same, length-set, each))

-- not all have, where another one hasn't
pub not_everybody : (took : List Bool) (cpu other : ℕ) → other < length took → other ≢ cpu → get_or took other false ≡ false → list_all (λ flag. flag) (set took cpu true) ≡ false
not_everybody took cpu other lt ne e =
    list_all_at (λ flag. flag) (set took cpu true) other false (omega (arith, length-set took cpu true)) (get_or-set_other took cpu other true false ne ∙ e)

-- the last acknowledgement passes the due synchronisation
pub taken-all : (walk : Walk) (cpu : ℕ) → list_all (λ flag. flag) (set walk.took cpu true) ≡ true → taken cpu walk ≡ passed walk
taken-all walk cpu all =
    ap (λ (last : Bool). if last then passed walk else record walk { took = set walk.took cpu true }) all

-- any other is only noted
pub taken-some : (walk : Walk) (cpu : ℕ) → list_all (λ flag. flag) (set walk.took cpu true) ≡ false → taken cpu walk ≡ record walk { took = set walk.took cpu true }
taken-some walk cpu some =
    ap (λ (last : Bool). if last then passed walk else record walk { took = set walk.took cpu true }) some

-- the last processor's acknowledgement passes the synchronisation
last_passes : (walk : Walk) (cpu : ℕ) → due_of (Some walk) ≡ Wait → cpu < length walk.took → ((other : ℕ) → other < length walk.took → other ≢ cpu → get_or walk.took other false ≡ true) → to_come (Some walk) ≡ Syncs ∷ to_come (Some (taken cpu walk))
last_passes walk cpu e lt each =
    wait_is_next walk.left walk refl e ∙ ap (λ (after : Walk). Syncs ∷ to_come (Some after)) (sym (taken-all walk cpu (everybody walk.took cpu lt each)))

-- no other processor's does
others_wait : (walk : Walk) (cpu other : ℕ) → due_of (Some walk) ≡ Wait → other < length walk.took → other ≢ cpu → get_or walk.took other false ≡ false → (due_of (Some (taken cpu walk)) ≡ Wait) × (to_come (Some (taken cpu walk)) ≡ to_come (Some walk))
others_wait walk cpu other e lt ne waits =
    let after : taken cpu walk ≡ record walk { took = set walk.took cpu true } = taken-some walk cpu (not_everybody walk.took cpu other lt ne waits) in
    (ap (λ (w : Walk). due_of (Some w)) after ∙ e, ap (λ (w : Walk). to_come (Some w)) after)

-- the same of an update of n processors, and of what follows the last acknowledgement
pub taken-last : (old new : Option Walk) (cpu n : ℕ) → IfSome old (λ walk. new ≡ Some (taken cpu walk)) → IfSome old (λ walk. length walk.took ≡ n) → due_of old ≡ Wait → cpu < n → ((other : ℕ) → other < n → other ≢ cpu → has_taken old other ≡ true) → to_come old ≡ Syncs ∷ to_come new
taken-last None new cpu n step flags e lt each = cc
taken-last (Some walk) new cpu n step flags e lt each =
    last_passes walk cpu e (omega arith) (λ other below. each other (omega arith)) ∙ ap (λ after. Syncs ∷ to_come after) (sym step)

-- nothing is waited for without a request
pub due_at-unasked : (left : List Item) → due_at left false ≢ Wait
due_at-unasked [] waits = absurd (cc)
due_at-unasked (Puts w ∷ left) waits = absurd (cc)
due_at-unasked (Syncs ∷ left) waits = absurd (cc)

-- after a synchronisation nothing is waited for yet
passed-unasked : (left : List Item) (later : List (List Change)) (walk : Walk) → walk.requested ≡ false → due_of (Some (next_phase left later walk)) ≢ Wait
passed-unasked (item ∷ left) later walk unasked waits =
    due_at-unasked (item ∷ left) (subst (λ (r : Bool). due_at (item ∷ left) r ≡ Wait) unasked waits)
passed-unasked [] (chunk ∷ later) walk unasked waits =
    due_at-unasked (poke chunk) (subst (λ (r : Bool). due_at (poke chunk) r ≡ Wait) unasked waits)
passed-unasked [] [] walk unasked waits =
    due_at-unasked [] (subst (λ (r : Bool). due_at [] r ≡ Wait) unasked waits)

-- the last acknowledgement leaves nothing to wait for
pub taken-passed : (old new : Option Walk) (cpu n : ℕ) → IfSome old (λ walk. new ≡ Some (taken cpu walk)) → IfSome old (λ walk. length walk.took ≡ n) → due_of old ≡ Wait → cpu < n → ((other : ℕ) → other < n → other ≢ cpu → has_taken old other ≡ true) → due_of new ≢ Wait
taken-passed None new cpu n step flags e lt each waits = cc
taken-passed (Some walk) new cpu n step flags e lt each waits =
    let all : taken cpu walk ≡ passed walk = taken-all walk cpu (everybody walk.took cpu (omega arith) (λ other below. each other (omega arith))) in
    let next : new ≡ Some (passed walk) = step ∙ ap (λ (after : Walk). Some after) all in
    passed-unasked (drop 1 walk.left) walk.later (record walk { requested = false; took = nobody (length walk.took) }) refl
    (subst (λ (after : Option Walk). due_of after ≡ Wait) next waits)

-- the same of an acknowledgement that isn't the last
pub taken-others : (old new : Option Walk) (cpu n : ℕ) → IfSome old (λ walk. new ≡ Some (taken cpu walk)) → IfSome old (λ walk. length walk.took ≡ n) → due_of old ≡ Wait → (other : ℕ) → other < n → other ≢ cpu → has_taken old other ≡ false → (due_of new ≡ Wait) × (to_come new ≡ to_come old)
taken-others None new cpu n step flags e other lt ne waits = cc
taken-others (Some walk) new cpu n step flags e other lt ne waits =
    let kept : (due_of (Some (taken cpu walk)) ≡ Wait) × (to_come (Some (taken cpu walk)) ≡ to_come (Some walk)) = others_wait walk cpu other e (omega arith) ne waits in
    (ap (λ after. due_of after) step ∙ kept.0, ap (λ after. to_come after) step ∙ kept.1)

-- opening an update, all items are to come
first_to_come : (cpus : ℕ) (changes : List Change) (cut : List (List Change)) → to_come (at_first cpus changes cut) ≡ flat_map poke cut
first_to_come cpus changes [] = refl
first_to_come cpus changes (chunk ∷ later) = refl

-- an update that was opened has the items of its changes to come
pub opened-to_come : (cpus : ℕ) (changes : List Change) → to_come (opened cpus changes) ≡ items changes
opened-to_come cpus changes = first_to_come cpus changes (chunks changes)
