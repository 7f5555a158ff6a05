-- How many events of a run there are of each kind, and how many instructions they did at patched sites.
use Rattle.std.specs.Prelude.{◌≡◌, ◌+◌, ◌==◌, ℕ, Bool, true, false, if◌then◌else◌, List, [], ◌∷◌, length}
use Rattle.module_image.specs.Module.{Module}
use Rattle.run_journal.specs.declared.event.Event.{Event}
use Rattle.run_journal.specs.declared.event.Event.TheVariants.{Write, Request, Take, Return, At}
use Rattle.switching.specs.Journal.{lines}
use Rattle.switching.specs.Said.{TraceLine, Passes}
use Rattle.switching.specs.State.{State}
use Rattle.bench_run.specs.declared.counts.Counts.{Counts}

-- how many of a list there are of a kind
abbrev pub how_many : {A : Type 0} → (A → Bool) → List A → ℕ
how_many is [] = 0
how_many is (x ∷ rest) = (if is x then 1 else 0) + how_many is rest

abbrev pub is_return : Event → Bool
is_return Return = true
is_return _ = false

abbrev pub is_write : Event → Bool
is_write Write = true
is_write _ = false

abbrev pub is_request : Event → Bool
is_request Request = true
is_request _ = false

abbrev pub is_take : Event → Bool
is_take (Take cpu) = true
is_take _ = false

-- INT3 was fetched
abbrev pub is_breakpoint : List ℕ → Bool
is_breakpoint [] = false
is_breakpoint (byte ∷ []) = byte == 0xcc
is_breakpoint (byte ∷ more ∷ rest) = false

abbrev pub is_trap : Event → Bool
is_trap (At cpu bytes) = is_breakpoint bytes.items
is_trap _ = false

abbrev pub is_pass : TraceLine → Bool
is_pass (Passes c at insn) = true
is_pass _ = false

-- these are the counts of a journal from a state on
pub record AreCounts (m : Module) (s : State) (journal : List Event) (n : Counts) : Type 0 where
  pub updates : n.updates ≡ how_many is_return journal
  pub writes : n.writes ≡ how_many is_write journal
  pub requests : n.requests ≡ how_many is_request journal
  pub takes : n.takes ≡ how_many is_take journal
  pub passes : n.passes ≡ how_many is_pass (lines m s journal)
  pub traps : n.traps ≡ how_many is_trap journal
  pub events : n.events ≡ length journal
