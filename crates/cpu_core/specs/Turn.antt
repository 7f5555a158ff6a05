-- What one turn of a processor does.
use Rattle.std.specs.Prelude.{ℕ, Bool, true, false, if◌then◌else◌, List, Option, Some, None, Result, Ok, Err}
use Rattle.insn_forms.specs.Spelling.{after}
use Rattle.int3_handler.specs.Handler.{handled}
use Rattle.module_image.specs.Layout.{site_at}
use Rattle.module_image.specs.Module.{Module, plain_at}
use Rattle.poke_batch.specs.Walk.{Walk}
use Rattle.x64_subset.specs.declared.insn.Insn.{Insn}
use Rattle.x64_subset.specs.declared.insn.Insn.TheVariants.{Int3, Serialize}
use Rattle.x64_subset.specs.declared.insn.Undecoded.{Undecoded}
use Rattle.x64_subset.specs.declared.proc.FaultKind.TheVariants.{Undefined}
use Rattle.x64_subset.specs.declared.proc.Life.{Life}
use Rattle.x64_subset.specs.declared.proc.Life.TheVariants.{Running, Done, Halted, Fault}
use Rattle.x64_subset.specs.declared.proc.Proc.{Proc}
use Rattle.x64_subset.specs.Effect.{does}
use Rattle.x64_subset.specs.Reading.{read}
use Rattle.x64_subset.specs.Proc.{start}
use Rattle.cpu_core.specs.declared.turn.TurnKind.{TurnKind}
use Rattle.cpu_core.specs.declared.turn.TurnKind.TheVariants as kind
use Rattle.cpu_core.specs.declared.turn.Stepped.{Stepped}
use Rattle.cpu_core.specs.declared.turn.Stepped.TheVariants.{Plain, Pass, Trapped, Torn}

-- a processor, and whether it hit a breakpoint whose handler hasn't run
pub record CpuState : Type 0 where
  pub proc : Proc
  pub trapped : Bool

abbrev pub new_cpu : ℕ → CpuState
new_cpu entry = record { proc = start entry; trapped = false }

-- its next turn: the end, the handler, the patched site at which it stands, or a plain instruction
abbrev pub standing : Option ℕ → TurnKind
standing None = kind.Plain
standing (Some site) = kind.At

abbrev pub kind_of_running : Module → Bool → ℕ → TurnKind
kind_of_running m trapped ip = if trapped then kind.Handle else standing (site_at m.sites ip)

abbrev pub kind_by : Module → Bool → ℕ → Life → TurnKind
kind_by m trapped ip Running = kind_of_running m trapped ip
kind_by m trapped ip Done = kind.Tick
kind_by m trapped ip Halted = kind.Tick
kind_by m trapped ip (Fault why) = kind.Tick

abbrev pub kind_of : Module → CpuState → TurnKind
kind_of m c = kind_by m c.trapped c.proc.ip c.proc.life

-- the processor ends in a fault, as there is no instruction, and is otherwise as before
abbrev pub torn : Proc → Proc
torn p = record p { life = Fault Undefined }

-- SERIALIZE makes the processor fetch anew (Intel SDM volume 3, "Serializing Instructions")
abbrev pub is_serialize : Insn → Bool
is_serialize Serialize = true
is_serialize _ = false

-- the plain instruction, with its length, at which the processor stands, if there is one
abbrev pub plain_proc : Option (Insn × ℕ) → Proc → Proc
plain_proc None p = torn p
plain_proc (Some (insn, len)) p = (does insn len p).0

abbrev pub plain_answer : Option (Insn × ℕ) → Proc → Stepped
plain_answer None p = Torn
plain_answer (Some (insn, len)) p = Plain (does insn len p).1

abbrev pub plain_serialises : Option (Insn × ℕ) → Bool
plain_serialises None = false
plain_serialises (Some (insn, len)) = is_serialize insn

abbrev pub plain_here : Module → CpuState → Option (Insn × ℕ)
plain_here m c = plain_at m c.proc.ip

abbrev pub plain_turn : Module → CpuState → CpuState
plain_turn m c = record c { proc = plain_proc (plain_here m c) c.proc }

-- what is done at a patched site by what its bytes are read as: a breakpoint, another instruction, or nothing
abbrev pub insn_turn : Insn → ℕ → CpuState → CpuState
insn_turn Int3 len c = record c { proc = record c.proc { ip = after c.proc.ip 1 }; trapped = true }
insn_turn insn len c = record c { proc = (does insn len c.proc).0 }

abbrev pub insn_answer : Insn → ℕ → Proc → Stepped
insn_answer Int3 len p = Trapped
insn_answer insn len p = Pass p.ip insn (does insn len p).1

abbrev pub read_turn : Result (Insn × ℕ) Undecoded → CpuState → CpuState
read_turn (Ok (insn, len)) c = insn_turn insn len c
read_turn (Err why) c = record c { proc = torn c.proc }

abbrev pub read_answer : Result (Insn × ℕ) Undecoded → Proc → Stepped
read_answer (Ok (insn, len)) p = insn_answer insn len p
read_answer (Err why) p = Torn

abbrev pub at_turn : List ℕ → CpuState → CpuState
at_turn bytes c = read_turn (read c.proc.ip bytes) c

abbrev pub at_answer : List ℕ → CpuState → Stepped
at_answer bytes c = read_answer (read c.proc.ip bytes) c.proc

-- the handler: after it the processor isn't trapped
abbrev pub handled_turn : Option Walk → CpuState → CpuState
handled_turn update c = record { proc = handled update c.proc; trapped = false }
