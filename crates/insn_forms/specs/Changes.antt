-- What a contract sees of a list of changes.
use Rattle.std.specs.Prelude.{ℕ, List}
use Rattle.insn_forms.specs.declared.forms.Change.{Change}

-- the changes, in order, and how many of them there is room for
pub record ChangeList : Type 0 where
  pub list : List Change
  pub room : ℕ
