-- What a contract sees of a running machine, and which states of the byte machine it stands for.
use Rattle.std.specs.Prelude.{◌≡◌, ◌≤◌, ℕ, min, List, [], drop, length, map, IfSome}
use Rattle.cpu_core.specs.Turn.{CpuState}
use Rattle.module_image.specs.Module.{Module, States}
use Rattle.poke_batch.specs.Walk.{BatchState}
use Rattle.run_journal.specs.declared.event.Event.{Event}
use Rattle.script_text.specs.declared.script.ScriptStep.{ScriptStep}
use Rattle.script_text.specs.Laws.{IsScriptOf}
use Rattle.script_text.specs.Script.{ScriptValue}
use Rattle.stale_fetch.specs.Past.{Past}
use Rattle.stale_fetch.specs.Windows.{WindowState, IsWindowsOf}
use Rattle.switching.specs.Choice.{idle_after, most_idle}
use Rattle.switching.specs.Laws.{IsReached}
use Rattle.switching.specs.May.{May}
use Rattle.switching.specs.Next.{next}
use Rattle.switching.specs.Said.{said}
use Rattle.switching.specs.State.{Cpu, State}
use Rattle.script_runner.specs.declared.acted.Acted.{Acted}
use Rattle.script_runner.specs.Operations.{operations, operations_of}
use Rattle.script_runner.specs.TraceText.{trace_text}

pub record WorldSeen : Type 0 where
  -- the module and the script
  pub image : Module
  pub script : ScriptValue
  -- how many steps of the script are passed, how many turns of the `run` line in front are used, and how many updates have begun
  pub place : ℕ
  pub turns : ℕ
  pub updates : ℕ
  -- what keys hold and which sites are traced
  pub states : States
  -- how many changes there is room for, and how many the last update had that was opened
  pub room : ℕ
  pub sites : ℕ
  -- the open update, the processors, and the text that they fetch from
  pub batch : BatchState
  pub cpus : List CpuState
  pub text : WindowState
  -- how many events have come since the last one of the patch, 16 for every greater number too
  pub idle : ℕ

-- the steps that are still to come
abbrev pub left : WorldSeen → List ScriptStep
left w = drop w.place w.script.steps

-- what the text has been in a state of the byte machine, and since when each processor fetches
abbrev pub past_of : Module → State → Past
past_of m s = record { base = m.base; text = m.text; writes = s.writes; marks = map (λ (p : Cpu). p.mark) s.cpus }

pub record StandsFor (w : WorldSeen) (s : State) : Type 0 where
  pub text : IsWindowsOf w.text (past_of w.image s)
  pub steps : left w ≡ s.steps
  pub turns : w.turns ≡ s.turns
  pub updates : w.updates ≡ s.updates
  pub states : w.states ≡ s.states
  pub opened : w.batch.update ≡ s.opened
  pub sites : IfSome s.opened (λ walk. w.sites ≡ length walk.changes)
  pub cpus : w.cpus ≡ map (λ (p : Cpu). p.state) s.cpus

-- it stands for a state that a legal prefix leads to, and has room for what may come
pub record IsWorld (w : WorldSeen) : Type 0 where
  pub script_of : IsScriptOf w.image w.script
  pub state : State
  pub reached : IsReached w.image state
  pub stands : StandsFor w state
  pub room : w.room ≡ length w.image.sites
  pub batch_sites : w.batch.sites ≡ length w.image.sites
  pub batch_cpus : w.batch.cpus ≡ length w.cpus
  pub few_cpus : length w.cpus ≤ 16
  pub place : w.place ≤ length w.script.steps
  pub idle : w.idle ≤ most_idle

-- an event may come
abbrev pub MayCome : WorldSeen → Event → Type 0
MayCome w e = (s : State) → StandsFor w s → May w.image s e

-- an event was done: the text that it shows, and what it does to tracers
pub record Does (old : WorldSeen) (e : Event) (new : WorldSeen) (text : List ℕ) (acted : Acted) : Type 0 where
  pub image : new.image ≡ old.image
  pub script : new.script ≡ old.script
  pub idle : new.idle ≡ min (idle_after e old.idle) most_idle
  pub stands : (s : State) → StandsFor old s → StandsFor new (next old.image s e)
  pub text_is : (s : State) → StandsFor old s → text ≡ trace_text (said old.image s e)
  pub acted_is : (s : State) → StandsFor old s → operations_of acted ≡ operations old.image (said old.image s e)

-- an event may not come, and nothing was done
pub record MayNot (old : WorldSeen) (e : Event) (new : WorldSeen) (text : List ℕ) : Type 0 where
  pub not : (s : State) → StandsFor old s → May old.image s e → ⊥
  pub same : new ≡ old
  pub none : text ≡ []

-- an event may come, and was done
pub record Acts (old : WorldSeen) (e : Event) (new : WorldSeen) (text : List ℕ) (acted : Acted) : Type 0 where
  pub may : MayCome old e
  pub does : Does old e new text acted
