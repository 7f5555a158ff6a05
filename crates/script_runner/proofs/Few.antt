-- The changes of an update are few.
use Rattle.std.proofs.Common.{◌≡◌, ◌∙◌, ◌≤◌, ℕ, List, length, Result, Ok, ap, arith, Fits, w32}
use Rattle.insn_forms.specs.declared.forms.Change.{Change}
use Rattle.key_state.specs.declared.count.CountRefused.{CountRefused}
use Rattle.key_state.specs.After.{after}
use Rattle.key_state.specs.Changes.{changes_by, changes_to}
use Rattle.module_parts.specs.declared.command.Command.{Command}
use Rattle.module_image.specs.Module.{Module, States}
use Rattle.stale_fetch.specs.Windows.{WindowState}
use Rattle.script_runner.specs.Updating.{CanBegin}

pub changes_few : (m : Module) (text : WindowState) (sites : ℕ) (states : States) (command : Command) (list : List Change) → list ≡ changes_by m states command → (allowed : (new : States) × (after states command ≡ Ok new)) → CanBegin m text sites states command → length list ≤ sites
changes_few m text sites states command list is allowed ready =
    let few = (ready allowed.0 allowed.1).few in
    let same : length list ≡ length (changes_to m states (Ok allowed.0)) = ap length is ∙ ap (λ (r : Result States CountRefused). length (changes_to m states r)) allowed.1 in
    omega (arith, few, same)

pub changes_fit : (m : Module) (text : WindowState) (sites : ℕ) (states : States) (command : Command) (found list : List Change) → found ≡ list → list ≡ changes_by m states command → (allowed : (new : States) × (after states command ≡ Ok new)) → CanBegin m text sites states command → sites ≤ 1024 → Fits w32 (length found)
changes_fit m text sites states command found list same is allowed ready most =
    let few = changes_few m text sites states command list is allowed ready in
    let e : length found ≡ length list = ap length same in
    omega (arith, few, e, most)
