use Rattle.std.proofs.Common.{◌≡◌, ◌≤◌, ◌+◌, ◌*◌, ◌++◌, drop}
use Rattle.elf_build.specs.File.{key_symbols}
use Rattle.elf_build.proofs.contents.add_key_symbols.Given as goal

abbrev pub invariant-loop-key : goal.invariant-loop-key
invariant-loop-key l =
    (l.out.items ++ key_symbols l.name l.at (drop l.key-index l.keys) ≡ l.initial.out.items ++ key_symbols l.first l.initial.at l.keys)
    × (l.name ≤ l.first + 65 * l.key-index)
    × (l.at ≡ l.initial.at + 16 * l.key-index)
