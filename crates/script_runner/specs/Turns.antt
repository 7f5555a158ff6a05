-- What a running machine finds when it looks whether an event may come, and what a turn uses of the script.
use Rattle.std.specs.Prelude.{◌≡◌, ℕ, true, false, List, slice_get, Option, Some, None}
use Rattle.cpu_core.specs.declared.turn.TurnKind.{TurnKind}
use Rattle.cpu_core.specs.Turn.{CpuState, kind_of}
use Rattle.poke_batch.specs.declared.batch.Due.TheVariants as due
use Rattle.poke_batch.specs.Walk.{Walk, due_of, has_taken}
use Rattle.script_text.specs.declared.script.ScriptStep.{ScriptStep}
use Rattle.switching.specs.May.{has_turns, is_begun_next}
use Rattle.script_runner.specs.declared.progress.Progress.{Progress}
use Rattle.script_runner.specs.Steps.{after_turn, to_come}
use Rattle.script_runner.specs.World.{WorldSeen, left}

-- no update is open, and an update or a drop is next
pub record Begins (w : WorldSeen) : Type 0 where
  pub closed : w.batch.update ≡ None
  pub next : is_begun_next (left w) ≡ true

-- a processor has a turn, which is of this kind
pub record HasTurn (w : WorldSeen) (c : ℕ) (kind : TurnKind) : Type 0 where
  pub turn : has_turns w.batch.update (left w) ≡ true
  pub cpu : CpuState
  pub here : slice_get w.cpus c ≡ Some cpu
  pub is : kind_of w.image cpu ≡ kind

-- a request waits, which a processor that isn't in the handler hasn't taken
pub record TakesRequest (w : WorldSeen) (c : ℕ) : Type 0 where
  pub waits : due_of w.batch.update ≡ due.Wait
  pub cpu : CpuState
  pub here : slice_get w.cpus c ≡ Some cpu
  pub free : cpu.trapped ≡ false
  pub untaken : has_taken w.batch.update c ≡ false

-- how far the script has come
abbrev pub progress_of : WorldSeen → Progress
progress_of w = record { place = w.place; turns = w.turns }

-- how far it has come after a turn: none is used while an update is open
abbrev pub IsUsed : Option Walk → Progress → List ScriptStep → Progress → Type 0
IsUsed (Some walk) old steps new = new ≡ old
IsUsed None old steps new = (to_come new steps, new.turns) ≡ after_turn old.turns (to_come old steps)
