-- What the fields of a batch say of its open update.
use Rattle.std.proofs.Common.{◌≡◌, ◌<◌, ◌≤◌, ℕ, Bool, true, false, if◌then◌else◌, List, length, map, drop, take, set, replicate, Option, Some, None, IfSome, All, AllPairs, refl, ap, sym, ◌∙◌, subst, arith}
use Rattle.std.specs.List.{list_all}
use Rattle.std.proofs.lemmas.List.{length-map}
use Rattle.insn_forms.specs.declared.forms.Change.{Change}
use Rattle.insn_forms.specs.declared.forms.Form.{Form}
use Rattle.poke_batch.specs.declared.batch.Due.{Due}
use Rattle.poke_batch.specs.declared.batch.Due.TheVariants.{Idle as NoneDue, Wait}
use Rattle.poke_batch.specs.declared.patch.Patch.{Patch}
use Rattle.poke_batch.specs.declared.stage.Progress.{Progress}
use Rattle.poke_batch.specs.declared.stage.Stage.{Stage}
use Rattle.poke_batch.specs.declared.stage.Stage.TheVariants.{Idle, Trap, Tail, First, Sync, Return}
use Rattle.poke_batch.specs.Clash.{CanPoke}
use Rattle.poke_batch.specs.Inside.{change_of, chunk_at, due_in, later_at, walk_at, walk_in}
use Rattle.poke_batch.specs.Patch.{IsSpelt}
use Rattle.poke_batch.specs.Stage.{IsInside, after_due, after_sync, is_idle, is_requested}
use Rattle.poke_batch.specs.Underway.{AreApart, IsUnderway}
use Rattle.poke_batch.specs.Walk.{Walk, due_at, due_of, moved, new_form, nobody, open_form, opened, taken}
use Rattle.poke_batch.proofs.ChunkPatches.{chunk-all, chunk-map, chunk-pairs, whole_of}
use Rattle.poke_batch.proofs.Finding.{ascending}
use Rattle.poke_batch.proofs.Progresses.{Sits, chunk-some, closed_after_due, opens, progress_moves, progress_takes_last, sync_sits, waits_open}
use Rattle.poke_batch.proofs.Stages.{IsWhole}
use Rattle.poke_batch.proofs.Underways.{opened_underway, step_underway}

-- the changes of the chunk that the code takes from the patches
pub chunk_of : (from : ℕ) (patches read chunk : List Patch) → read ≡ patches → chunk ≡ take 256 (drop from read) → map change_of chunk ≡ chunk_at from (map change_of patches)
chunk_of from patches read chunk is chunk_is =
    ap (map change_of) chunk_is ∙ ap (λ (qs : List Patch). map change_of (take 256 (drop from qs))) is ∙ chunk-map from patches

-- that chunk's patches are spelt
pub chunk_spelt : (from : ℕ) (patches read chunk : List Patch) → read ≡ patches → chunk ≡ take 256 (drop from read) → All IsSpelt patches → All IsSpelt chunk
chunk_spelt from patches read chunk is chunk_is spelt =
    subst (λ (qs : List Patch). All IsSpelt qs) (sym (chunk_is ∙ ap (λ (qs : List Patch). take 256 (drop from qs)) is)) (chunk-all IsSpelt from patches spelt)

-- the due write lies in that chunk
pub chunk_inside : (from : ℕ) (stage : Stage) (patches read chunk : List Patch) → read ≡ patches → chunk ≡ take 256 (drop from read) → IsInside (chunk_at from (map change_of patches)) stage → IsInside (map change_of chunk) stage
chunk_inside from stage patches read chunk is chunk_is inside =
    subst (λ (changes : List Change). IsInside changes stage) (sym (chunk_of from patches read chunk is chunk_is)) inside

-- its addresses ascend
pub chunk_ascends : (from : ℕ) (patches read chunk : List Patch) → read ≡ patches → chunk ≡ take 256 (drop from read) → AreApart (map change_of patches) → AllPairs (λ (p q : Patch). p.change.at < q.change.at) chunk
chunk_ascends from patches read chunk is chunk_is apart =
    subst (λ (qs : List Patch). AllPairs (λ (p q : Patch). p.change.at < q.change.at) qs) (sym (chunk_is ∙ ap (λ (qs : List Patch). take 256 (drop from qs)) is))
    (chunk-pairs (λ (p q : Patch). p.change.at < q.change.at) from patches (ascending patches apart))

-- the spellings of the open chunk are whole
pub chunk_whole : (from : ℕ) (patches : List Patch) → All IsSpelt patches → All IsWhole (chunk_at from (map change_of patches))
chunk_whole from patches spelt = chunk-all IsWhole from (map change_of patches) (whole_of patches spelt)

-- what is due in the open chunk is what is due
due_if : (idle requested : Bool) (walk : Walk) → walk.requested ≡ requested → (if idle then NoneDue else due_at walk.left requested) ≡ due_of (if idle then None else Some walk)
due_if true requested walk is = refl
due_if false requested walk is = ap (λ (r : Bool). due_at walk.left r) (sym is)

pub due_is : (from : ℕ) (stage : Stage) (changes chunk : List Change) (took : List Bool) (due : Due) → due ≡ due_in stage chunk → chunk ≡ chunk_at from changes → due ≡ due_of (walk_at (record { from = from; stage = stage }) changes took)
due_is from stage changes chunk took due is chunk_is =
    is ∙ ap (λ (cs : List Change). due_in stage cs) chunk_is
    ∙ due_if (is_idle stage) (is_requested stage) (walk_in (chunk_at from changes) (later_at from changes) stage changes took) refl

-- a stage that isn't the idle one
pub active_of : (stage : Stage) → (stage ≡ Idle → ⊥) → is_idle stage ≡ false
active_of Idle other = absurd (other refl)
active_of (Trap site) other = refl
active_of (Tail site place) other = refl
active_of (First site) other = refl
active_of (Sync round requested) other = refl
active_of Return other = refl

-- what holds of an update that is open
opened_walk : (idle : Bool) (walk : Walk) (Q : Walk → Type 0) → IfSome (if idle then None else Some walk) Q → idle ≡ false → Q walk
opened_walk true walk Q holds active = absurd (cc)
opened_walk false walk Q holds active = holds

-- the sites of an open update are apart
pub open_apart : (cpus : ℕ) (progress : Progress) (changes : List Change) (took : List Bool) → IfSome (walk_at progress changes took) (IsUnderway cpus) → is_idle progress.stage ≡ false → AreApart changes
open_apart cpus progress changes took underway active =
    (opened_walk (is_idle progress.stage) (walk_in (chunk_at progress.from changes) (later_at progress.from changes) progress.stage changes took) (IsUnderway cpus) underway active).apart

-- the form that is found in the open chunk is that of the open update
pub form_is : (progress : Progress) (changes chunk : List Change) (took : List Bool) (at : ℕ) (form : Option (Form × ℕ)) → form ≡ new_form chunk at → chunk ≡ chunk_at progress.from changes → is_idle progress.stage ≡ false → form ≡ open_form (walk_at progress changes took) at
form_is progress changes chunk took at form is chunk_is active =
    is ∙ ap (λ (cs : List Change). new_form cs at) chunk_is
    ∙ sym (ap (λ (idle : Bool). open_form (if idle then None else Some (walk_in (chunk_at progress.from changes) (later_at progress.from changes) progress.stage changes took)) at) active)

-- only an open update is open after a step
pub after_due_active : (chunk : List Change) (stage : Stage) → is_idle (after_due chunk stage) ≡ false → is_idle stage ≡ false
after_due_active chunk Idle active = active
after_due_active chunk (Trap site) active = refl
after_due_active chunk (Tail site place) active = refl
after_due_active chunk (First site) active = refl
after_due_active chunk (Sync round requested) active = refl
after_due_active chunk Return active = refl

-- a request that doesn't stand after a step didn't before
pub after_due_unasked : (chunk : List Change) (stage : Stage) → is_requested (after_due chunk stage) ≡ false → is_requested stage ≡ false
after_due_unasked chunk Idle unasked = refl
after_due_unasked chunk (Trap site) unasked = refl
after_due_unasked chunk (Tail site place) unasked = refl
after_due_unasked chunk (First site) unasked = refl
after_due_unasked chunk (Sync round requested) unasked = absurd (cc)
after_due_unasked chunk Return unasked = refl

-- the update after a step
pub step_is : (from : ℕ) (stage next : Stage) (patches : List Patch) (took : List Bool) → IsInside (chunk_at from (map change_of patches)) stage → All IsSpelt patches → next ≡ after_due (chunk_at from (map change_of patches)) stage
    → IfSome (walk_at (record { from = from; stage = stage }) (map change_of patches) took) (λ walk. walk_at (record { from = from; stage = next }) (map change_of patches) took ≡ moved walk)
step_is from stage next patches took inside spelt is =
    subst (λ (s : Stage). IfSome (walk_at (record { from = from; stage = stage }) (map change_of patches) took) (λ walk. walk_at (record { from = from; stage = s }) (map change_of patches) took ≡ moved walk)) (sym is)
    (progress_moves from stage (map change_of patches) took inside (chunk_whole from patches spelt))

-- what holds of it
pub step_underway_of : (cpus from : ℕ) (stage next : Stage) (changes : List Change) (took : List Bool) → next ≡ after_due (chunk_at from changes) stage
    → IfSome (walk_at (record { from = from; stage = stage }) changes took) (λ walk. walk_at (record { from = from; stage = next }) changes took ≡ moved walk)
    → IfSome (walk_at (record { from = from; stage = stage }) changes took) (IsUnderway cpus) → IfSome (walk_at (record { from = from; stage = next }) changes took) (IsUnderway cpus)
step_underway_of cpus from stage next changes took is step underway =
    step_underway cpus (walk_at (record { from = from; stage = stage }) changes took) (walk_at (record { from = from; stage = next }) changes took) step underway
    (λ closed. ap (λ (s : Stage). walk_at (record { from = from; stage = s }) changes took) is ∙ closed_after_due from stage changes took closed)

-- the update after the last acknowledgement, and after another
pub last_is : (from n : ℕ) (stage : Stage) (next : Progress) (changes : List Change) (acks : List Bool) (cpus cpu : ℕ) → cpus ≤ 16 → length acks ≡ 16 → cpu < cpus → due_of (walk_at (record { from = from; stage = stage }) changes (take cpus acks)) ≡ Wait → list_all (λ flag. flag) (take cpus (set acks cpu true)) ≡ true → next ≡ after_sync n from stage → n ≡ length changes
    → IfSome (walk_at (record { from = from; stage = stage }) changes (take cpus acks)) (λ walk. walk_at next changes (take cpus (replicate 16 false)) ≡ Some (taken cpu walk))
last_is from n stage next changes acks cpus cpu most long lt waits all is n_is =
    subst (λ (p : Progress). IfSome (walk_at (record { from = from; stage = stage }) changes (take cpus acks)) (λ walk. walk_at p changes (take cpus (replicate 16 false)) ≡ Some (taken cpu walk))) (sym (is ∙ ap (λ sites. after_sync sites from stage) n_is))
    (progress_takes_last from stage changes acks cpus cpu most long lt waits all)

-- where it stands then
pub passed_sits : (from n : ℕ) (stage : Stage) (next : Progress) (changes : List Change) (took : List Bool) → (is_idle stage ≡ false → from < length changes) → IsInside (chunk_at from changes) stage → due_of (walk_at (record { from = from; stage = stage }) changes took) ≡ Wait → next ≡ after_sync n from stage → n ≡ length changes → Sits changes next
passed_sits from n stage next changes took within inside waits is n_is =
    subst (λ (p : Progress). Sits changes p) (sym (is ∙ ap (λ sites. after_sync sites from stage) n_is))
    (sync_sits from stage changes (within (waits_open from stage changes took waits)) inside)

-- the update that is opened
pub opened_is : (cpus : ℕ) (made changes : List Change) (took : List Bool) → made ≡ changes → took ≡ nobody cpus → 0 < length changes → walk_at (record { from = 0; stage = Trap 0 }) made took ≡ opened cpus changes
opened_is cpus made changes took is nobody_is some =
    ap (λ (cs : List Change). walk_at (record { from = 0; stage = Trap 0 }) cs took) is
    ∙ ap (λ flags. walk_at (record { from = 0; stage = Trap 0 }) changes flags) nobody_is ∙ opens changes cpus some

-- what holds of it
pub opened_sound : (cpus : ℕ) (held : ℕ → Option ℕ) (made changes : List Change) (took : List Bool) → walk_at (record { from = 0; stage = Trap 0 }) made took ≡ opened cpus changes → 1 ≤ cpus → cpus ≤ 16 → 0 < length changes → CanPoke held changes → IfSome (walk_at (record { from = 0; stage = Trap 0 }) made took) (IsUnderway cpus)
opened_sound cpus held made changes took is some_cpus most_cpus some can =
    subst (λ (update : Option Walk). IfSome update (IsUnderway cpus)) (sym is) (opened_underway cpus held changes some_cpus most_cpus some can)

-- where it stands
pub opened_within : (patches : List Patch) (changes : List Change) → map change_of patches ≡ changes → 0 < length changes → 0 < length patches
opened_within patches changes is some =
    let same : length (map change_of patches) ≡ length changes = ap length is in
    omega (arith, length-map patches change_of)

pub opened_inside : (patches : List Patch) (changes : List Change) → map change_of patches ≡ changes → 0 < length changes → IsInside (chunk_at 0 (map change_of patches)) (Trap 0)
opened_inside patches changes is some =
    chunk-some 0 (map change_of patches) (let same : length (map change_of patches) ≡ length changes = ap length is in omega arith)
