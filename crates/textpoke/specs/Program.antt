-- What the process does for its arguments, and with which status it ends.
use Rattle.std.specs.Prelude.{◌≡◌, ◌⊎◌, ℕ, List, drop, Result, Ok, Err, String, Vec}
use Rattle.std.specs.declared.alloc.Global.{Global}
use Rattle.std.specs.declared.vec.IntoIter.{IntoIter}
use Rattle.std.specs.declared.io.Error.{Error}
use Rattle.std.specs.declared.io.ErrorKind.{ErrorKind}
use Rattle.std.specs.declared.io.ErrorKind.TheVariants.{OutOfMemory}
use Rattle.std.specs.IoError.{error_kind}
use Rattle.std.specs.Vec.Iter.{into_iter_items}
use Rattle.poke_base.specs.Host.{Outside}
use Rattle.poke_faults.specs.declared.fault.Fault.{Fault}
use Rattle.poke_faults.specs.declared.fault.Fault.TheVariants.{Words, Memory}
use Rattle.poke_tool.specs.Words.{words_of}
use Rattle.poke_commands.specs.Runs.{Ends}
use Rattle.poke_tool.specs.Runs.{Runs}

-- the arguments, the first of which is the program's name, or why they weren't read
abbrev pub Args : Type 0
Args = Result (IntoIter (String Global) Global) Error

-- the arguments but the first
abbrev pub after_name : IntoIter (String Global) Global → List (String Global)
after_name args = drop 1 (into_iter_items args)

-- the fault that comes of arguments that weren't read
abbrev pub args_fault : ErrorKind → Fault
args_fault OutOfMemory = Memory
args_fault _ = Words

-- the words of the command, or why there are none: only memory may be wanting where the arguments were read
abbrev pub Gives : Args → Result (Vec (String Global) Global) Fault → Type 0
Gives (Ok args) (Ok words) = words.items ≡ after_name args
Gives (Ok args) (Err fault) = fault ≡ Memory
Gives (Err why) (Ok words) = ⊥
Gives (Err why) (Err fault) = fault ≡ args_fault (error_kind why)

-- the command of the words is done, or there is no memory for the words or the tracers, which is reported
abbrev pub RunsWords : List (List ℕ) → Outside → Outside → ℕ → Type 0
RunsWords words old new status = Runs words old new status ⊎ Ends old new (Err Memory) status

-- what the program does for its arguments: the command of the words, or a fault before it is reported
abbrev pub RunsProgram : Args → Outside → Outside → ℕ → Type 0
RunsProgram (Ok args) old new status = RunsWords (words_of (after_name args)) old new status
RunsProgram (Err why) old new status = Ends old new (Err (args_fault (error_kind why))) status
