-- The keys so far were read, and each has all its bytes.
use Rattle.std.proofs.Common.{◌≡◌, take}
use Rattle.module_image.specs.First.{NoneBelow}
use Rattle.module_names.specs.Keys.{keys}
use Rattle.module_image.specs.Refusals.{IsKeyOutside}
use Rattle.module_image.proofs.key_starts.read_keys.Given as goal

abbrev pub invariant-loop-i : goal.invariant-loop-i
invariant-loop-i l = record {
  read : l.found.items ≡ take l.i (keys l.file);
  whole : NoneBelow (IsKeyOutside l.file) (keys l.file) l.i;
}
