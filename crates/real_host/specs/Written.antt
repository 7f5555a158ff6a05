-- What is written to a stream that tells what it holds.
use Rattle.std.specs.Prelude.{ℕ, List, Option, Result, OnOk, OnErr}
use Rattle.std.specs.Io.KnownBytes.{Appends}
use Rattle.poke_base.specs.Text.{IsPrefix}

-- a piece was written whole, or, after a failure, a prefix of it
pub record Writes {T E : Type 0} (old new : Option (List ℕ)) (piece : List ℕ) (result : Result T E) : Type 0 where
  pub whole : OnOk result (Appends old new piece)
  pub part : OnErr result ((done : List ℕ) × IsPrefix done piece × Appends old new done)
