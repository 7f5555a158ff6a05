-- What is done and printed of one event.
use Rattle.std.specs.Prelude.{◌≡◌, ℕ, List, [], ◌∷◌, Option, Some, None, Result, Ok, Err}
use Rattle.std.specs.List.{flat_map}
use Rattle.poke_base.specs.declared.host.WriteFail.{WriteFail}
use Rattle.poke_base.specs.Host.{Outside, Prints}
use Rattle.run_journal.specs.declared.event.Event.{Event}
use Rattle.script_runner.specs.declared.acted.Acted.{Acted}
use Rattle.script_runner.specs.declared.acted.Acted.TheVariants as acted
use Rattle.script_runner.specs.World.{Acts, MayNot, WorldSeen}
use Rattle.switching.specs.Said.{TraceLine, Opens, Ends, Drops, Passes, Outs, Stops}

-- an event may not come, and nothing was done; or it was done, and what it shows was printed, or a prefix of it
abbrev pub Shows : WorldSeen → Event → WorldSeen → Outside → Outside → Result (Option Acted) WriteFail → Type 0
Shows w e v old new (Ok None) = MayNot w e v [] × (new ≡ old)
Shows w e v old new (Ok (Some did)) = (text : List ℕ) × Acts w e v text did × Prints {T = Unit {0}} {E = WriteFail} old new text (Ok tt)
Shows w e v old new (Err why) = (text : List ℕ) × (did : Acted) × Acts w e v text did × Prints {T = Unit {0}} {E = WriteFail} old new text (Err why)

-- the place at which an event dropped a tracer
abbrev pub dropped_by : Acted → List ℕ
dropped_by acted.Plain = []
dropped_by (acted.Hit cpu site) = []
dropped_by (acted.Drop place) = place ∷ []

-- the places at which tracers are dropped in a trace, in order
abbrev pub place_of : TraceLine → List ℕ
place_of (Opens update sites) = []
place_of (Ends update ending) = []
place_of (Drops place) = place ∷ []
place_of (Passes c at insn) = []
place_of (Outs c port value) = []
place_of (Stops c life) = []

abbrev pub places : List TraceLine → List ℕ
places ls = flat_map place_of ls
