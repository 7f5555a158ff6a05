-- How far an update comes by a synchronisation of all processors.
use Rattle.std.proofs.Common.{◌≡◌, ◌+◌, ◌<◌, ◌≤◌, ℕ, Bool, true, false, if◌then◌else◌, nat_lt, List, [], ◌∷◌, ◌++◌, length, map, drop, take, set, replicate, Option, Some, None, IfSome, All, refl, ap, sym, ◌∙◌, arith, length-drop, drop-drop}
use Rattle.std.specs.List.{list_all}
use Rattle.std.proofs.Math.ListN.{drop_of_length-le}
use Rattle.std.proofs.Math.Seq.{take-set-lt}
use Rattle.std.proofs.lemmas.Bool.{ltb-false, ltb-true}
use Rattle.std.proofs.lemmas.List.{take-replicate, length-take, length-take-le}
use Rattle.std.proofs.lemmas.Option.{IfSome_then}
use Rattle.insn_forms.specs.declared.forms.Change.{Change}
use Rattle.insn_forms.specs.Write.{Write}
use Rattle.poke_batch.specs.declared.batch.Due.TheVariants.{Wait}
use Rattle.poke_batch.specs.declared.stage.Progress.{Progress}
use Rattle.poke_batch.specs.declared.stage.Round.TheVariants.{Traps, Tails, Firsts}
use Rattle.poke_batch.specs.declared.stage.Stage.{Stage}
use Rattle.poke_batch.specs.declared.stage.Stage.TheVariants.{Idle, Trap, Tail, First, Sync, Return}
use Rattle.poke_batch.specs.Inside.{chunk_at, later_at, left_at, walk_at, walk_in}
use Rattle.poke_batch.specs.Poke.{Item, chunks, firsts, from_firsts, from_tails, poke, tails}
use Rattle.poke_batch.specs.Poke.Item.{Puts, Syncs}
use Rattle.poke_batch.specs.Stage.{IsInside, after_due, after_sync, is_idle, is_requested}
use Rattle.poke_batch.specs.Walk.{BatchState, Walk, due_at, due_of, moved, next_phase, nobody, opened, at_first, passed, taken}
use Rattle.poke_batch.proofs.Chunks.{chunks-step}
use Rattle.poke_batch.proofs.Stages.{IsWhole, site_size-two, stage_moves, tails_from-one}
use Rattle.poke_batch.proofs.Walks.{taken-all, taken-some}

-- what holds of a walk that is open holds of the update
pub where_open : (idle : Bool) (walk : Walk) (Q : Walk → Type 0) → (idle ≡ false → Q walk) → IfSome (if idle then None else Some walk) Q
where_open true walk Q f = tt
where_open false walk Q f = f refl

-- after the due write, request or return
pub progress_moves : (from : ℕ) (stage : Stage) (changes : List Change) (took : List Bool) → IsInside (chunk_at from changes) stage → All IsWhole (chunk_at from changes) → IfSome (walk_at (record { from = from; stage = stage }) changes took) (λ walk. walk_at (record { from = from; stage = after_due (chunk_at from changes) stage }) changes took ≡ moved walk)
progress_moves from stage changes took inside whole =
    where_open (is_idle stage) (walk_in (chunk_at from changes) (later_at from changes) stage changes took) (λ walk. walk_at (record { from = from; stage = after_due (chunk_at from changes) stage }) changes took ≡ moved walk)
    (λ active. (stage_moves (chunk_at from changes) (later_at from changes) stage changes took active inside whole).step)

-- the due write lies in the chunk then
pub inside_after_due : (chunk : List Change) (stage : Stage) → IsInside chunk stage → All IsWhole chunk → IsInside chunk (after_due chunk stage)
inside_after_due chunk stage inside whole = by_idle (is_idle stage) refl
  where
    by_idle : (idle : Bool) → is_idle stage ≡ idle → IsInside chunk (after_due chunk stage)
    by_idle true is = idle_inside stage is
      where
        idle_inside : (s : Stage) → is_idle s ≡ true → IsInside chunk (after_due chunk s)
        idle_inside Idle is = tt
        idle_inside (Trap site) is = absurd (cc)
        idle_inside (Tail site place) is = absurd (cc)
        idle_inside (First site) is = absurd (cc)
        idle_inside (Sync round requested) is = tt
        idle_inside Return is = tt
    by_idle false active = (stage_moves chunk [] stage [] [] active inside whole).inside

-- an update that is closed stays so
pub closed_after_due : (from : ℕ) (stage : Stage) (changes : List Change) (took : List Bool) → walk_at (record { from = from; stage = stage }) changes took ≡ None → walk_at (record { from = from; stage = after_due (chunk_at from changes) stage }) changes took ≡ None
closed_after_due from Idle changes took closed = refl
closed_after_due from (Trap site) changes took closed = absurd (cc)
closed_after_due from (Tail site place) changes took closed = absurd (cc)
closed_after_due from (First site) changes took closed = absurd (cc)
closed_after_due from (Sync round requested) changes took closed = absurd (cc)
closed_after_due from Return changes took closed = absurd (cc)

-- an update that is opened is at the first trap
pub opens : (changes : List Change) (cpus : ℕ) → 0 < length changes → walk_at (record { from = 0; stage = Trap 0 }) changes (nobody cpus) ≡ opened cpus changes
opens changes cpus some = ap (λ (cut : List (List Change)). at_first cpus changes cut) (sym (chunks-step changes some))

-- after a synchronisation is what is left of the chunk
next_phase-more : (before after : List Item) (item : Item) (later : List (List Change)) (walk : Walk) → next_phase (before ++ item ∷ after) later walk ≡ record walk { left = before ++ item ∷ after }
next_phase-more [] after item later walk = refl
next_phase-more (first ∷ before) after item later walk = refl

-- without a request no wait is due
unrequested : (left : List Item) → due_at left false ≡ Wait → ⊥
unrequested [] e = cc
unrequested (Puts w ∷ left) e = cc
unrequested (Syncs ∷ left) e = cc

-- after the last synchronisation of a chunk: the next chunk, or the end
chunk_passes : (from : ℕ) (changes : List Change) (took : List Bool) (walk : Walk) (more : Bool) → nat_lt (from + 256) (length changes) ≡ more → walk.changes ≡ changes → walk.chunk ≡ chunk_at from changes → walk.later ≡ later_at from changes → walk.requested ≡ false → walk.took ≡ took
    → walk_at (if more then record { from = from + 256; stage = Trap 0 } else record { from = from; stage = Return }) changes took ≡ Some (next_phase [] (later_at from changes) walk)
chunk_passes from changes took walk true is all chunk later requested taken =
    let lt : from + 256 < length changes = ltb-true (from + 256) (length changes) is in
    let rest : drop 256 (drop from changes) ≡ drop (from + 256) changes = drop-drop 256 from changes in
    let some : 0 < length (drop (from + 256) changes) = omega (arith, length-drop (from + 256) changes) in
    let cut : later_at from changes ≡ chunk_at (from + 256) changes ∷ later_at (from + 256) changes = ap chunks rest ∙ chunks-step (drop (from + 256) changes) some in
    let chunk' : List Change = chunk_at (from + 256) changes in
    let later' : List (List Change) = later_at (from + 256) changes in
    (λ i. Some (record { changes = sym all i; chunk = chunk'; left = poke chunk'; later = later'; requested = sym requested i; took = sym taken i }))
    ∙ ap (λ (cuts : List (List Change)). Some (next_phase [] cuts walk)) (sym cut)
chunk_passes from changes took walk false is all chunk later requested taken =
    let end : length changes ≤ from + 256 = ltb-false (from + 256) (length changes) is in
    let rest : drop 256 (drop from changes) ≡ [] = drop-drop 256 from changes ∙ drop_of_length-le changes end in
    let none : later_at from changes ≡ [] = ap chunks rest in
    (λ i. Some (record { changes = sym all i; chunk = sym chunk i; left = []; later = sym later i; requested = sym requested i; took = sym taken i }))
    ∙ ap (λ (cuts : List (List Change)). Some (next_phase [] cuts walk)) (sym none)

-- after all processors have serialised, the progress stands for the walk after that
sync_passes : (from : ℕ) (stage : Stage) (changes : List Change) (took : List Bool) → due_of (walk_at (record { from = from; stage = stage }) changes took) ≡ Wait
    → walk_at (after_sync (length changes) from stage) changes (nobody (length took)) ≡ Some (passed (walk_in (chunk_at from changes) (later_at from changes) stage changes took))
sync_passes from Idle changes took e = absurd (cc)
sync_passes from (Trap site) changes took e = absurd (unrequested (left_at (Trap site) (chunk_at from changes)) e)
sync_passes from (Tail site place) changes took e = absurd (unrequested (left_at (Tail site place) (chunk_at from changes)) e)
sync_passes from (First site) changes took e = absurd (unrequested (left_at (First site) (chunk_at from changes)) e)
sync_passes from (Sync Traps requested) changes took e =
    let chunk : List Change = chunk_at from changes in
    let walk : List Item → Walk = λ items. record (walk_in chunk (later_at from changes) (First 0) changes (nobody (length took))) { left = items } in
    ap (λ (writes : List Write). Some (walk (map Puts writes ++ Syncs ∷ from_firsts chunk))) (tails_from-one chunk)
    ∙ ap Some (sym (next_phase-more (map Puts (tails chunk)) (from_firsts chunk) Syncs (later_at from changes) (walk (Syncs ∷ from_tails chunk))))
sync_passes from (Sync Tails requested) changes took e =
    let chunk : List Change = chunk_at from changes in
    ap Some (sym (next_phase-more (map Puts (firsts chunk)) [] Syncs (later_at from changes) (record (walk_in chunk (later_at from changes) (First 0) changes (nobody (length took))) { left = Syncs ∷ from_firsts chunk })))
sync_passes from (Sync Firsts requested) changes took e =
    chunk_passes from changes (nobody (length took)) (record (walk_in (chunk_at from changes) (later_at from changes) (First 0) changes (nobody (length took))) { left = Syncs ∷ [] }) (nat_lt (from + 256) (length changes)) refl refl refl refl refl refl
sync_passes from Return changes took e = absurd (unrequested [] e)

-- so it does after the last acknowledgement
pub progress_takes_last : (from : ℕ) (stage : Stage) (changes : List Change) (acks : List Bool) (n cpu : ℕ) → n ≤ 16 → length acks ≡ 16 → cpu < n → due_of (walk_at (record { from = from; stage = stage }) changes (take n acks)) ≡ Wait → list_all (λ flag. flag) (take n (set acks cpu true)) ≡ true
    → IfSome (walk_at (record { from = from; stage = stage }) changes (take n acks)) (λ walk. walk_at (after_sync (length changes) from stage) changes (take n (replicate 16 false)) ≡ Some (taken cpu walk))
progress_takes_last from stage changes acks n cpu most len lt e all =
    let took : List Bool = take n acks in
    let walk : Walk = walk_in (chunk_at from changes) (later_at from changes) stage changes took in
    let cpus : length took ≡ n = omega (arith, length-take n acks) in
    let nobody_is : take n (replicate 16 false) ≡ nobody (length took) = take-replicate n 16 false most ∙ ap (λ k. nobody k) (sym cpus) in
    let all_took : list_all (λ flag. flag) (set took cpu true) ≡ true = ap (λ flags. list_all (λ flag. flag) flags) (sym (take-set-lt n acks cpu true lt)) ∙ all in
    where_open (is_idle stage) walk (λ w. walk_at (after_sync (length changes) from stage) changes (take n (replicate 16 false)) ≡ Some (taken cpu w))
    (λ active. ap (λ flags. walk_at (after_sync (length changes) from stage) changes flags) nobody_is ∙ sync_passes from stage changes took e ∙ ap Some (sym (taken-all walk cpu all_took)))

-- any other acknowledgement is noted
pub progress_takes : (from : ℕ) (stage : Stage) (changes : List Change) (acks : List Bool) (n cpu : ℕ) → cpu < n → list_all (λ flag. flag) (take n (set acks cpu true)) ≡ false
    → IfSome (walk_at (record { from = from; stage = stage }) changes (take n acks)) (λ walk. walk_at (record { from = from; stage = stage }) changes (take n (set acks cpu true)) ≡ Some (taken cpu walk))
progress_takes from stage changes acks n cpu lt some =
    let took : List Bool = take n acks in
    let walk : List Bool → Walk = λ flags. walk_in (chunk_at from changes) (later_at from changes) stage changes flags in
    let set_is : take n (set acks cpu true) ≡ set took cpu true = take-set-lt n acks cpu true lt in
    let some_took : list_all (λ flag. flag) (set took cpu true) ≡ false = ap (λ flags. list_all (λ flag. flag) flags) (sym set_is) ∙ some in
    where_open (is_idle stage) (walk took) (λ w. walk_at (record { from = from; stage = stage }) changes (take n (set acks cpu true)) ≡ Some (taken cpu w))
    (λ active. ap (λ flags. walk_at (record { from = from; stage = stage }) changes flags) set_is
    ∙ (ap (λ (idle : Bool). if idle then None else Some (walk (set took cpu true))) active ∙ ap Some (sym (taken-some (walk took) cpu some_took))))

-- a chunk that begins before the end has a site
pub chunk-some : (from : ℕ) (changes : List Change) → from < length changes → 0 < length (chunk_at from changes)
chunk-some from changes lt = omega (arith, length-take 256 (drop from changes), length-drop from changes)

-- the open chunk has a site, and the due write lies in it
pub record Sits (changes : List Change) (progress : Progress) : Type 0 where
  pub from : progress.from < length changes
  pub inside : IsInside (chunk_at progress.from changes) progress.stage

chunk_sits : (from : ℕ) (changes : List Change) (more : Bool) → nat_lt (from + 256) (length changes) ≡ more → from < length changes → Sits changes (if more then record { from = from + 256; stage = Trap 0 } else record { from = from; stage = Return })
chunk_sits from changes true is lt =
    let next : from + 256 < length changes = ltb-true (from + 256) (length changes) is in
    record { from = next; inside = chunk-some (from + 256) changes next }
chunk_sits from changes false is lt = record { from = lt; inside = tt }

-- the due write lies in the open chunk after a synchronisation
pub sync_sits : (from : ℕ) (stage : Stage) (changes : List Change) → from < length changes → IsInside (chunk_at from changes) stage → Sits changes (after_sync (length changes) from stage)
sync_sits from Idle changes lt inside = record { from = lt; inside = inside }
sync_sits from (Trap site) changes lt inside = record { from = lt; inside = inside }
sync_sits from (Tail site place) changes lt inside = record { from = lt; inside = inside }
sync_sits from (First site) changes lt inside = record { from = lt; inside = inside }
sync_sits from (Sync Traps requested) changes lt inside =
    let some = chunk-some from changes lt in
    let two = site_size-two (chunk_at from changes) 0 some in
    record { from = lt; inside = (some, omega arith) }
sync_sits from (Sync Tails requested) changes lt inside = record { from = lt; inside = chunk-some from changes lt }
sync_sits from (Sync Firsts requested) changes lt inside = chunk_sits from changes (nat_lt (from + 256) (length changes)) refl lt
sync_sits from Return changes lt inside = record { from = lt; inside = inside }

-- an update that waits is open
pub waits_open : (from : ℕ) (stage : Stage) (changes : List Change) (took : List Bool) → due_of (walk_at (record { from = from; stage = stage }) changes took) ≡ Wait → is_idle stage ≡ false
waits_open from Idle changes took e = absurd (cc)
waits_open from (Trap site) changes took e = refl
waits_open from (Tail site place) changes took e = refl
waits_open from (First site) changes took e = refl
waits_open from (Sync round requested) changes took e = refl
waits_open from Return changes took e = refl

-- nobody has taken a request of an update that isn't open
pub idle_unasked : (progress : Progress) (changes : List Change) (took : List Bool) → walk_at progress changes took ≡ None → is_requested progress.stage ≡ false
idle_unasked progress changes took closed = by_stage progress.stage closed
  where
    by_stage : (stage : Stage) → walk_at (record { from = progress.from; stage = stage }) changes took ≡ None → is_requested stage ≡ false
    by_stage Idle e = refl
    by_stage (Trap site) e = refl
    by_stage (Tail site place) e = refl
    by_stage (First site) e = refl
    by_stage (Sync round requested) e = absurd (cc)
    by_stage Return e = refl

-- the state after a step whose update is known
pub state_steps : (old : BatchState) (update : Option Walk) (f : Walk → Option Walk) → IfSome old.update (λ walk. update ≡ f walk) → IfSome old.update (λ walk. record old { update = update } ≡ record old { update = f walk })
state_steps old update f h =
    IfSome_then old.update h (λ walk e. ap (λ (u : Option Walk). record old { update = u }) e)

-- an open update has a flag for each processor
pub flag_each : (progress : Progress) (changes : List Change) (acks : List Bool) (n : ℕ) → n ≤ length acks → IfSome (walk_at progress changes (take n acks)) (λ walk. length walk.took ≡ n)
flag_each progress changes acks n le =
    where_open (is_idle progress.stage) (walk_in (chunk_at progress.from changes) (later_at progress.from changes) progress.stage changes (take n acks)) (λ walk. length walk.took ≡ n)
    (λ active. length-take-le n acks le)
