use Rattle.std.proofs.Common.{◌≡◌, ◌≤◌, ◌+◌, ◌*◌, ◌++◌, ◌-◌}
use Rattle.elf_build.specs.Generated.{blocks, text_from, text_of}
use Rattle.elf_build.proofs.generation.text.Given as goal

abbrev pub invariant-loop-number : goal.invariant-loop-number
invariant-loop-number l =
    (l.out.items ++ text_from (l.n - l.number) l.number l.at ≡ text_of l.n) × (l.at ≤ blocks + 12 * l.number)
