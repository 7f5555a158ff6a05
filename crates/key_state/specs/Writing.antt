-- The text with the new forms of some changes written.
use Rattle.std.specs.Prelude.{◌≤◌, ℕ, ◌+◌, ◌-◌, List, [], ◌∷◌}
use Rattle.insn_forms.specs.declared.forms.Change.{Change}
use Rattle.insn_forms.specs.Spelling.{size}
use Rattle.module_image.specs.Sites.{put_at}
use Rattle.poke_batch.specs.Poke.{spelled}

-- the sites of a change lie in a text of so many bytes, with both its forms
pub record IsInText (base bytes : ℕ) (c : Change) : Type 0 where
  pub from : base ≤ c.at
  pub old_inside : c.at + size c.old ≤ base + bytes
  pub new_inside : c.at + size c.new ≤ base + bytes

-- a text at an address with the new form of a change written, and of each of some, one after the other
abbrev pub change_written : ℕ → Change → List ℕ → List ℕ
change_written base c text = put_at text (c.at - base) (spelled c.new c.at)

abbrev pub changes_written : ℕ → List Change → List ℕ → List ℕ
changes_written base [] text = text
changes_written base (c ∷ cs) text = changes_written base cs (change_written base c text)
