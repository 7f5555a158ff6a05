use Rattle.std.proofs.Common.{◌≡◌, ◌++◌, drop}
use Rattle.elf_build.specs.File.{data_of}
use Rattle.elf_build.proofs.contents.add_data.Given as goal

abbrev pub invariant-loop-key : goal.invariant-loop-key
invariant-loop-key l = l.out.items ++ data_of (drop l.key-index l.keys) ≡ l.initial.out.items ++ data_of l.keys
