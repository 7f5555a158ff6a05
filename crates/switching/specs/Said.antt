-- What the events show: the lines of the trace, as data.
use Rattle.std.specs.Prelude.{ℕ, ◌+◌, List, [], ◌∷◌, length, slice_get, Option, Some, None}
use Rattle.cpu_core.specs.declared.turn.Stepped.{Stepped}
use Rattle.cpu_core.specs.declared.turn.Stepped.TheVariants.{Plain as PlainDone, Pass, Trapped, Torn}
use Rattle.cpu_core.specs.Turn.{CpuState, at_answer, at_turn, handled_turn, plain_answer, plain_here, plain_turn}
use Rattle.int3_handler.specs.declared.handler.Handled.{Handled}
use Rattle.int3_handler.specs.declared.handler.Handled.TheVariants.{Emulated, NotOurs}
use Rattle.int3_handler.specs.Handler.{answer}
use Rattle.key_state.specs.Outcome.{Ending, Returns}
use Rattle.module_image.specs.Module.{Module}
use Rattle.poke_batch.specs.Walk.{Walk}
use Rattle.run_journal.specs.declared.event.Event.{Event}
use Rattle.run_journal.specs.declared.event.Event.TheVariants.{Begin, Write, Request, Take, Return, Plain, At, Handle, Tick}
use Rattle.script_text.specs.declared.script.ScriptStep.{ScriptStep}
use Rattle.script_text.specs.declared.script.ScriptStep.TheVariants as step
use Rattle.x64_subset.specs.declared.insn.Insn.{Insn}
use Rattle.x64_subset.specs.declared.proc.Life.{Life}
use Rattle.x64_subset.specs.declared.proc.Mark.{Mark}
use Rattle.x64_subset.specs.declared.proc.Mark.TheVariants.{None as NoMark, Out, Ended}
use Rattle.x64_subset.specs.Whole.{insn_of}
use Rattle.switching.specs.Beginning.{Beginning, Goes, Refuses}
use Rattle.switching.specs.Next.{found}
use Rattle.switching.specs.State.{Cpu, State}

-- a line of the trace
pub data TraceLine : Type 0 where
  -- an update, by its number from 1, is open with n sites to change
  Opens : ℕ → ℕ → TraceLine
  -- an update has ended so
  Ends : ℕ → Ending → TraceLine
  -- the tracer at a place is dropped
  Drops : ℕ → TraceLine
  -- a processor did this instruction at the patched site that begins at an address
  Passes : ℕ → ℕ → Insn → TraceLine
  -- a processor wrote a byte to a port
  Outs : ℕ → ℕ → ℕ → TraceLine
  -- a processor has ended so
  Stops : ℕ → Life → TraceLine

-- what the beginning of the update with a number shows
abbrev pub said_begun : ℕ → Beginning → List TraceLine
said_begun update (Refuses ending) = Ends update ending ∷ []
said_begun update (Goes new []) = Ends update (Returns 0) ∷ []
said_begun update (Goes new (c ∷ changes)) = Opens update (length (c ∷ changes)) ∷ []

-- what the beginning of the step in front shows
abbrev pub said_step : List ScriptStep → List TraceLine
said_step [] = []
said_step (step.Update command ∷ rest) = []
said_step (step.Run turns ∷ rest) = []
said_step (step.Drop place ∷ rest) = Drops place ∷ []

abbrev pub said_first : ℕ → List ScriptStep → Option Beginning → List TraceLine
said_first update steps None = said_step steps
said_first update steps (Some beginning) = said_begun update beginning

-- what the return of an update shows
abbrev pub said_return : ℕ → Option Walk → List TraceLine
said_return update None = []
said_return update (Some w) = Ends update (Returns (length w.changes)) ∷ []

-- what an instruction shows, of a processor that then is in this state
abbrev pub said_mark : ℕ → Life → Mark → List TraceLine
said_mark c life NoMark = []
said_mark c life (Out port value) = Outs c port value ∷ []
said_mark c life Ended = Stops c life ∷ []

abbrev pub said_stepped : ℕ → Life → Stepped → List TraceLine
said_stepped c life (PlainDone mark) = said_mark c life mark
said_stepped c life (Pass at insn mark) = Passes c at insn ∷ said_mark c life mark
said_stepped c life Trapped = []
said_stepped c life Torn = Stops c life ∷ []

abbrev pub said_handled : ℕ → Life → Handled → List TraceLine
said_handled c life (Emulated at form mark) = Passes c at (insn_of form) ∷ said_mark c life mark
said_handled c life NotOurs = Stops c life ∷ []

abbrev pub of_cpu : Option Cpu → (CpuState → List TraceLine) → List TraceLine
of_cpu None f = []
of_cpu (Some p) f = f p.state

abbrev pub said_plain : Module → ℕ → CpuState → List TraceLine
said_plain m c p = said_stepped c (plain_turn m p).proc.life (plain_answer (plain_here m p) p.proc)

abbrev pub said_site : ℕ → List ℕ → CpuState → List TraceLine
said_site c bytes p = said_stepped c (at_turn bytes p).proc.life (at_answer bytes p)

abbrev pub said_handler : Option Walk → ℕ → CpuState → List TraceLine
said_handler opened c p = said_handled c (handled_turn opened p).proc.life (answer opened p.proc)

-- what an event shows
abbrev pub said : Module → State → Event → List TraceLine
said m s Begin = said_first (s.updates + 1) s.steps (found m s s.steps)
said m s Write = []
said m s Request = []
said m s (Take c) = []
said m s Return = said_return s.updates s.opened
said m s (Plain c) = of_cpu (slice_get s.cpus c) (said_plain m c)
said m s (At c bytes) = of_cpu (slice_get s.cpus c) (said_site c bytes.items)
said m s (Handle c) = of_cpu (slice_get s.cpus c) (said_handler s.opened c)
said m s (Tick c) = []
