-- What holds of the patch of a site.
use Rattle.std.specs.Prelude.{◌≡◌, ◌+◌, ◌^◌, ◌≤◌, length}
use Rattle.insn_forms.specs.Spelling.{size}
use Rattle.poke_batch.specs.declared.patch.Patch.{Patch}
use Rattle.poke_batch.specs.Poke.{spelled}

-- the patch has the bytes of its new form, all of them, and its site ends by 2 ^ 64
pub record IsSpelt (patch : Patch) : Type 0 where
  pub code : patch.code.items ≡ spelled patch.change.new patch.change.at
  pub whole : length patch.code.items ≡ size patch.change.new
  pub below : patch.change.at + size patch.change.new ≤ 2 ^ 64
