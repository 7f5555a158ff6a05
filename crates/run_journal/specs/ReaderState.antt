-- The state of a reader.
use Rattle.std.specs.Prelude.{ℕ, List}

-- what is still to be read, with the header where it wasn't taken; and how many lines were taken, the header among them
pub record ReaderState : Type 0 where
  pub rest : List ℕ
  pub taken : ℕ
