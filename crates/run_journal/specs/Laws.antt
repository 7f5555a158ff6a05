-- Lines tell their events.
use Rattle.std.specs.Prelude.{◌≡◌, ◌<◌, ◌≤◌, ℕ, List, ◌++◌, length}
use Rattle.std.specs.List.{All}
use Rattle.std.specs.Option.{ForSome}
use Rattle.run_journal.specs.declared.event.Event.{Event}
use Rattle.run_journal.specs.Spelling.{cpu_of, bytes_of, event_line}

-- one to nine bytes
pub record IsFetched (bytes : List ℕ) : Type 0 where
  pub some : 1 ≤ length bytes
  pub few : length bytes ≤ 9
  pub each : All (λ byte. byte < 256) bytes

-- an event of one of 16 processors
pub record HasLine (e : Event) : Type 0 where
  pub cpu : ForSome (cpu_of e) (λ cpu. cpu ≤ 15)
  pub bytes : ForSome (bytes_of e) IsFetched

-- texts that begin with the lines of two events and are equal begin with the same event, and go on alike
abbrev pub LinesAreApart : Type 0
LinesAreApart =
    (e f : Event) (rest more : List ℕ) → HasLine e → HasLine f → event_line e ++ rest ≡ event_line f ++ more
    → (e ≡ f) × (rest ≡ more)
