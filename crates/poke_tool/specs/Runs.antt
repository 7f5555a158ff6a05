-- What the whole program does to the outside, and with which status it ends.
use Rattle.std.specs.Prelude.{ℕ, List}
use Rattle.poke_base.specs.Host.{Outside}
use Rattle.poke_commands.specs.Runs.{RunsRow}
use Rattle.poke_tool.specs.Words.{row_of}

abbrev pub Runs : List (List ℕ) → Outside → Outside → ℕ → Type 0
Runs words old new status = RunsRow (row_of words) old new status
