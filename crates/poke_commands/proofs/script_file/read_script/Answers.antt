-- The file of a script, read and accepted.
use Rattle.std.proofs.Common.{◌≡◌, ◌∙◌, ◌<◌, ℕ, List, length, Result, Ok, Err, IfErr, IfOk, subst, sym}
use Rattle.std.proofs.lemmas.Result.{err_from_is_err_and}
use Rattle.poke_base.specs.Host.{Outside}
use Rattle.module_image.specs.Module.{Module}
use Rattle.script_text.specs.Script.{ScriptValue}
use Rattle.poke_faults.specs.declared.fault.Fault.{Fault}
use Rattle.poke_faults.specs.declared.fault.Fault.TheVariants.{Words, Refused, Read, Write, Memory}
use Rattle.poke_faults.specs.declared.fault.Refusal.{Refusal}
use Rattle.poke_faults.specs.declared.fault.Refusal.TheVariants.{Script as ScriptRefusal}
use Rattle.poke_faults.specs.declared.script_fault.ScriptRefused.TheVariants.{TooLong}
use Rattle.poke_commands.specs.Runs.{InputIs, ReadsInput}
use Rattle.poke_commands.specs.Saying.{Holds}
use Rattle.poke_commands.specs.Script.{AcceptsScript, RefusesAsScript, RefusesText, script_limit}
use Rattle.poke_commands.proofs.script_file.read_script.Goals as goal

-- what wasn't read isn't a script, and what is too long is none
unread_input : {T : Type 0} (m : Module) (old new : Outside) (name : List ℕ) (Is : List ℕ → T → Type 0) (fault : Fault) → InputIs old new name Is (λ bytes why. (why ≡ ScriptRefusal TooLong) × (script_limit < length bytes)) (Err fault) → InputIs {T = ScriptValue} old new name (AcceptsScript m) (RefusesAsScript m) (Err fault)
unread_input m old new name Is (Refused why) input =
    (input.0, input.1, subst (λ (w : Refusal). RefusesAsScript m input.0 w) (sym input.2.0) input.2.1)
unread_input m old new name Is Read input = input
unread_input m old new name Is Memory input = tt
unread_input m old new name Is Words input = absurd input
unread_input m old new name Is Write input = absurd input

unread : {T : Type 0} (m : Module) (old new : Outside) (name : List ℕ) (Is : List ℕ → T → Type 0) (fault : Fault) → ReadsInput {T = T} old new name Is (λ bytes why. (why ≡ ScriptRefusal TooLong) × (script_limit < length bytes)) (Err fault) → ReadsInput {T = ScriptValue} old new name (AcceptsScript m) (RefusesAsScript m) (Err fault)
unread {T = T} m old new name Is fault reads =
    record { asks = reads.asks; leaves = reads.leaves; input = unread_input {T = T} m old new name Is fault reads.input }

-- what was read is the script that it is accepted as, or is refused
read_as : (m : Module) (old new : Outside) (name bytes : List ℕ) (result : Result ScriptValue Fault) → Holds new.files name bytes → IfOk result (AcceptsScript m bytes) → IfErr result (RefusesText m bytes) → InputIs old new name (AcceptsScript m) (RefusesAsScript m) result
read_as m old new name bytes (Ok s) holds accepts refuses = (bytes, holds, accepts)
read_as m old new name bytes (Err (Refused why)) holds accepts refuses = (bytes, holds, refuses)
read_as m old new name bytes (Err Memory) holds accepts refuses = tt
read_as m old new name bytes (Err Words) holds accepts refuses = absurd refuses
read_as m old new name bytes (Err Read) holds accepts refuses = absurd refuses
read_as m old new name bytes (Err Write) holds accepts refuses = absurd refuses

pub returns-in_err-bytes-clause-reads : goal.returns-in_err-bytes-clause-reads
returns-in_err-bytes-clause-reads g c =
    let m = c.args.image.now in
    let old = g.H.Host.outside c.args.host.now in
    let new = g.H.Host.outside c.read_input.new.host in
    let name = c.args.name.now in
    let fault = c.in_err-bytes.field-0.0 in
    let p = err_from_is_err_and c.from_residual.result c.from_residual.ensures.1 in
    subst (λ (r : Result ScriptValue Fault). ReadsInput old new name (AcceptsScript m) (RefusesAsScript m) r) (sym p.1)
    (
    subst (λ (f : Fault). ReadsInput {T = ScriptValue} old new name (AcceptsScript m) (RefusesAsScript m) (Err f)) (sym p.2)
    (unread m old new name _ fault c.in_err-bytes.ensures)
    )

pub returns-clause-reads : goal.returns-clause-reads
returns-clause-reads g c =
    let m = c.args.image.now in
    let old = g.H.Host.outside c.args.host.now in
    let new = g.H.Host.outside c.read_input.new.host in
    let input = c.in_ok-bytes.ensures.input in
    let same = c.deref.ensures.value ∙ input.2.0 in
    record {
      asks = c.in_ok-bytes.ensures.asks;
      leaves = c.in_ok-bytes.ensures.leaves;
      input =
          read_as m old new c.args.name.now input.0 c.accept_text.result input.1
          (subst (λ (file : List ℕ). IfOk c.accept_text.result (AcceptsScript m file)) same c.accept_text.ensures.accepted)
          (subst (λ (file : List ℕ). IfErr c.accept_text.result (RefusesText m file)) same c.accept_text.ensures.refused);
    }
