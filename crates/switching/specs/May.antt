-- Which events may come in a state of the byte machine.
use Rattle.std.specs.Prelude.{◌≡◌, ℕ, Bool, true, false, List, [], ◌∷◌, slice_get, Option, Some, None}
use Rattle.cpu_core.specs.declared.turn.TurnKind.{TurnKind}
use Rattle.cpu_core.specs.declared.turn.TurnKind.TheVariants as kind
use Rattle.cpu_core.specs.Fetch.{AreCandidates, IsFetch}
use Rattle.cpu_core.specs.Turn.{kind_of}
use Rattle.module_image.specs.Module.{Module}
use Rattle.poke_batch.specs.declared.batch.Due.TheVariants as due
use Rattle.poke_batch.specs.Walk.{Walk, due_of, has_taken}
use Rattle.run_journal.specs.declared.event.Event.{Event}
use Rattle.run_journal.specs.declared.event.Event.TheVariants.{Begin, Write, Request, Take, Return, Plain, At, Handle, Tick}
use Rattle.script_text.specs.declared.script.ScriptStep.{ScriptStep}
use Rattle.script_text.specs.declared.script.ScriptStep.TheVariants as step
use Rattle.switching.specs.State.{Cpu, State, start, text_end}

-- the next step of the script is an update or a drop
abbrev pub is_begun_next : List ScriptStep → Bool
is_begun_next [] = false
is_begun_next (step.Update command ∷ steps) = true
is_begun_next (step.Run turns ∷ steps) = false
is_begun_next (step.Drop place ∷ steps) = true

-- processors have turns while an update is open, and by a `run` line
abbrev pub has_turns : Option Walk → List ScriptStep → Bool
has_turns (Some walk) steps = true
has_turns None [] = false
has_turns None (step.Update command ∷ steps) = false
has_turns None (step.Run turns ∷ steps) = true
has_turns None (step.Drop place ∷ steps) = false

-- no update is open, and the next step is an update or a drop
pub record MayBegin (s : State) : Type 0 where
  pub closed : s.opened ≡ None
  pub next : is_begun_next s.steps ≡ true

-- a write is due
pub record MayWrite (s : State) : Type 0 where
  pub at : ℕ
  pub byte : ℕ
  pub is_due : due_of s.opened ≡ due.Write at byte

-- a request waits, and the processor hasn't taken it and isn't in the handler, which keeps requests off
pub record MayTake (s : State) (c : ℕ) : Type 0 where
  pub waits : due_of s.opened ≡ due.Wait
  pub cpu : Cpu
  pub here : slice_get s.cpus c ≡ Some cpu
  pub free : cpu.state.trapped ≡ false
  pub untaken : has_taken s.opened c ≡ false

-- a processor has a turn, which is of this kind
pub record MayTurn (m : Module) (s : State) (c : ℕ) (kind : TurnKind) : Type 0 where
  pub turn : has_turns s.opened s.steps ≡ true
  pub cpu : Cpu
  pub here : slice_get s.cpus c ≡ Some cpu
  pub is : kind_of m cpu.state ≡ kind

-- it stands at a patched site, and fetches bytes that stood there since it last serialised, each by itself
pub record MayAt (m : Module) (s : State) (c : ℕ) (bytes : List ℕ) : Type 0 where
  pub turn : MayTurn m s c kind.At
  pub fetch : IsFetch (text_end m) turn.cpu.state.proc.ip bytes
  pub stood : AreCandidates (start m) s.writes turn.cpu.mark turn.cpu.state.proc.ip bytes

-- the event may come
abbrev pub May : Module → State → Event → Type 0
May m s Begin = MayBegin s
May m s Write = MayWrite s
May m s Request = due_of s.opened ≡ due.Request
May m s (Take c) = MayTake s c
May m s Return = due_of s.opened ≡ due.Return
May m s (Plain c) = MayTurn m s c kind.Plain
May m s (At c bytes) = MayAt m s c bytes.items
May m s (Handle c) = MayTurn m s c kind.Handle
May m s (Tick c) = MayTurn m s c kind.Tick
