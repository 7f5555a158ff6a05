-- What the events of the byte machine do.
use Rattle.std.specs.Prelude.{◌==◌, ℕ, ◌+◌, Bool, if◌then◌else◌, List, [], ◌∷◌, ◌++◌, length, drop, slice_get, slice_set, Option, Some, None}
use Rattle.cpu_core.specs.Turn.{at_turn, handled_turn, plain_here, plain_serialises, plain_turn}
use Rattle.module_image.specs.Module.{Module}
use Rattle.poke_batch.specs.declared.batch.Due.{Due}
use Rattle.poke_batch.specs.declared.batch.Due.TheVariants as due
use Rattle.poke_batch.specs.Walk.{Walk, due_of, moved, taken}
use Rattle.poke_batch.specs.Walk as walk
use Rattle.run_journal.specs.declared.event.Event.{Event}
use Rattle.run_journal.specs.declared.event.Event.TheVariants.{Begin, Write, Request, Take, Return, Plain, At, Handle, Tick}
use Rattle.script_text.specs.declared.script.ScriptStep.{ScriptStep}
use Rattle.script_text.specs.declared.script.ScriptStep.TheVariants as step
use Rattle.switching.specs.Beginning.{Beginning, Goes, Refuses, beginning, clash_of_bytes}
use Rattle.switching.specs.State.{Cpu, State, held_after}

-- an update begins: refused, it is passed; where nothing changes in the text, the keys change and it is passed; else the
-- keys change and it is open
abbrev pub begun : State → List ScriptStep → Beginning → State
begun s rest (Refuses ending) = record s { steps = rest; updates = s.updates + 1 }
begun s rest (Goes new []) = record s { steps = rest; updates = s.updates + 1; states = new }
begun s rest (Goes new (c ∷ changes)) =
    record s { updates = s.updates + 1; states = new; opened = walk.opened (length s.cpus) (c ∷ changes) }

-- what the update in front finds, by the bytes that its sites hold
abbrev pub found : Module → State → List ScriptStep → Option Beginning
found m s [] = None
found m s (step.Update command ∷ rest) = Some (beginning m (clash_of_bytes (held_after m s.writes)) s.states command)
found m s (step.Run turns ∷ rest) = None
found m s (step.Drop place ∷ rest) = None

-- the step in front begins; a drop is passed
abbrev pub begun_by : State → Option Beginning → State
begun_by s None = record s { steps = drop 1 s.steps }
begun_by s (Some beginning) = begun s (drop 1 s.steps) beginning

-- the due byte is written
abbrev pub moved_on : Option Walk → Option Walk
moved_on None = None
moved_on (Some w) = moved w

abbrev pub wrote : State → Due → State
wrote s (due.Write at byte) =
    record s { writes = s.writes ++ record { at = at; byte = byte } ∷ []; opened = moved_on s.opened }
wrote s _ = s

-- a processor takes the request
abbrev pub taken_by : ℕ → Option Walk → Option Walk
taken_by c None = None
taken_by c (Some w) = Some (taken c w)

-- a turn is used: of the `run` line in front, where no update is open; after its last one the line is passed
abbrev pub used_of : ℕ → State → List ScriptStep → State
used_of turns s rest = if s.turns + 1 == turns then record s { steps = rest; turns = 0 } else record s { turns = s.turns + 1 }

abbrev pub used_at : State → Option Walk → List ScriptStep → State
used_at s (Some w) steps = s
used_at s None [] = s
used_at s None (step.Update command ∷ rest) = s
used_at s None (step.Run turns ∷ rest) = used_of turns s rest
used_at s None (step.Drop place ∷ rest) = s

abbrev pub used : State → State
used s = used_at s s.opened s.steps

-- a processor is another; nothing where there is no such processor
abbrev pub with_cpu : State → ℕ → Cpu → State
with_cpu s c p = record s { cpus = slice_set s.cpus c p }

abbrev pub at_cpu : Option Cpu → State → (Cpu → State) → State
at_cpu None s f = s
at_cpu (Some p) s f = f p

-- the mark after a turn: all writes, where it serialises
abbrev pub marked : Bool → State → ℕ → ℕ
marked serialises s mark = if serialises then length s.writes else mark

abbrev pub took : State → ℕ → Cpu → State
took s c p =
    with_cpu (record s { opened = taken_by c s.opened }) c (record p { mark = length s.writes })

abbrev pub ran_plain : Module → State → ℕ → Cpu → State
ran_plain m s c p =
    with_cpu (used s) c (record { state = plain_turn m p.state; mark = marked (plain_serialises (plain_here m p.state)) s p.mark })

abbrev pub ran_site : State → ℕ → List ℕ → Cpu → State
ran_site s c bytes p = with_cpu (used s) c (record p { state = at_turn bytes p.state })

abbrev pub ran_handler : State → ℕ → Cpu → State
ran_handler s c p = with_cpu (used s) c (record { state = handled_turn s.opened p.state; mark = length s.writes })

-- the state after an event
abbrev pub next : Module → State → Event → State
next m s Begin = begun_by s (found m s s.steps)
next m s Write = wrote s (due_of s.opened)
next m s Request = record s { opened = moved_on s.opened }
next m s (Take c) = at_cpu (slice_get s.cpus c) s (took s c)
next m s Return = record s { opened = moved_on s.opened; steps = drop 1 s.steps }
next m s (Plain c) = at_cpu (slice_get s.cpus c) s (ran_plain m s c)
next m s (At c bytes) = at_cpu (slice_get s.cpus c) s (ran_site s c bytes.items)
next m s (Handle c) = at_cpu (slice_get s.cpus c) s (ran_handler s c)
next m s (Tick c) = used s
