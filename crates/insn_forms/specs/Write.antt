-- A write of one byte of the text.
use Rattle.std.specs.Prelude.{ℕ}

pub record Write : Type 0 where
  pub at : ℕ
  pub byte : ℕ
