use Rattle.std.proofs.Common.{◌≡◌, ◌++◌, drop}
use Rattle.elf_build.specs.File.{names_of_keys}
use Rattle.elf_build.proofs.contents.add_key_names.Given as goal

abbrev pub invariant-loop-key : goal.invariant-loop-key
invariant-loop-key l = l.out.items ++ names_of_keys (drop l.key-index l.keys) ≡ l.initial.out.items ++ names_of_keys l.keys
