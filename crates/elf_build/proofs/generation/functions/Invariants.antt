use Rattle.std.proofs.Common.{◌≡◌, ◌≤◌, ◌+◌, ◌*◌, ◌++◌, ◌-◌}
use Rattle.elf_build.specs.Generated.{blocks, functions_from, functions_of}
use Rattle.elf_build.proofs.generation.functions.Given as goal

abbrev pub invariant-loop-number : goal.invariant-loop-number
invariant-loop-number l =
    (l.out.items ++ functions_from (l.n - l.number) l.number l.at ≡ functions_of l.n) × (l.at ≤ blocks + 12 * l.number)
