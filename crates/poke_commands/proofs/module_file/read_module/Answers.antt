use Rattle.std.proofs.Common.{◌≡◌, ◌∙◌, ◌<◌, ℕ, List, length, Result, Ok, Err, IfErr, IfOk, subst, sym}
use Rattle.std.proofs.lemmas.Result.{err_from_is_err_and}
use Rattle.poke_base.specs.Host.{Outside}
use Rattle.module_image.specs.Module.{Module}
use Rattle.poke_faults.specs.declared.fault.Fault.{Fault}
use Rattle.poke_faults.specs.declared.fault.Fault.TheVariants.{Words, Refused, Read, Write, Memory}
use Rattle.poke_faults.specs.declared.fault.Refusal.{Refusal}
use Rattle.poke_faults.specs.declared.fault.Refusal.TheVariants.{Module as ModuleRefusal}
use Rattle.poke_faults.specs.declared.module_fault.ModuleRefused.TheVariants.{TooLong}
use Rattle.poke_commands.specs.Check.{Accepts, RefusesAsModule, RefusesFile}
use Rattle.poke_commands.specs.Module.{module_limit}
use Rattle.poke_commands.specs.Runs.{InputIs, ReadsInput}
use Rattle.poke_commands.specs.Saying.{Holds}
use Rattle.poke_commands.proofs.module_file.read_module.Goals as goal

-- what wasn't read isn't a module, and what is too long is none
unread_input : {T : Type 0} (old new : Outside) (name : List ℕ) (Is : List ℕ → T → Type 0) (fault : Fault) → InputIs old new name Is (λ bytes why. (why ≡ ModuleRefusal TooLong) × (module_limit < length bytes)) (Err fault) → InputIs {T = Module} old new name Accepts RefusesAsModule (Err fault)
unread_input old new name Is (Refused why) input =
    (input.0, input.1, subst (λ (w : Refusal). RefusesAsModule input.0 w) (sym input.2.0) input.2.1)
unread_input old new name Is Read input = input
unread_input old new name Is Memory input = tt
unread_input old new name Is Words input = absurd input
unread_input old new name Is Write input = absurd input

unread : {T : Type 0} (old new : Outside) (name : List ℕ) (Is : List ℕ → T → Type 0) (fault : Fault) → ReadsInput {T = T} old new name Is (λ bytes why. (why ≡ ModuleRefusal TooLong) × (module_limit < length bytes)) (Err fault) → ReadsInput {T = Module} old new name Accepts RefusesAsModule (Err fault)
unread {T = T} old new name Is fault reads =
    record { asks = reads.asks; leaves = reads.leaves; input = unread_input {T = T} old new name Is fault reads.input }

-- what was read is the module that it is accepted as, or is refused
read_as : (old new : Outside) (name bytes : List ℕ) (result : Result Module Fault) → Holds new.files name bytes → IfOk result (Accepts bytes) → IfErr result (RefusesFile bytes) → InputIs old new name Accepts RefusesAsModule result
read_as old new name bytes (Ok m) holds accepts refuses = (bytes, holds, accepts)
read_as old new name bytes (Err (Refused why)) holds accepts refuses = (bytes, holds, refuses)
read_as old new name bytes (Err Memory) holds accepts refuses = tt
read_as old new name bytes (Err Words) holds accepts refuses = absurd refuses
read_as old new name bytes (Err Read) holds accepts refuses = absurd refuses
read_as old new name bytes (Err Write) holds accepts refuses = absurd refuses

pub returns-in_err-bytes : goal.returns-in_err-bytes
returns-in_err-bytes g c =
    let old = g.H.Host.outside c.args.host.now in
    let new = g.H.Host.outside c.read_input.new.host in
    let name = c.args.name.now in
    let fault = c.in_err-bytes.field-0.0 in
    let p = err_from_is_err_and c.from_residual.result c.from_residual.ensures.1 in
    subst (λ (r : Result Module Fault). ReadsInput old new name Accepts RefusesAsModule r) (sym p.1)
    (
    subst (λ (f : Fault). ReadsInput {T = Module} old new name Accepts RefusesAsModule (Err f)) (sym p.2)
    (unread old new name _ fault c.in_err-bytes.ensures)
    )

pub returns : goal.returns
returns g c =
    let old = g.H.Host.outside c.args.host.now in
    let new = g.H.Host.outside c.read_input.new.host in
    let input = c.in_ok-bytes.ensures.input in
    let same = c.deref.ensures.value ∙ input.2.0 in
    record {
      asks = c.in_ok-bytes.ensures.asks;
      leaves = c.in_ok-bytes.ensures.leaves;
      input =
          read_as old new c.args.name.now input.0 c.accept_file.result input.1
          (subst (λ (file : List ℕ). IfOk c.accept_file.result (Accepts file)) same c.accept_file.ensures.accepted)
          (subst (λ (file : List ℕ). IfErr c.accept_file.result (RefusesFile file)) same c.accept_file.ensures.refused);
    }
