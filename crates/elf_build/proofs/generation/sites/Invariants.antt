use Rattle.std.proofs.Common.{◌≡◌, ◌≤◌, ◌+◌, ◌*◌, ◌++◌, ◌-◌}
use Rattle.elf_build.specs.Generated.{blocks, sites_from, sites_of}
use Rattle.elf_build.proofs.generation.sites.Given as goal

abbrev pub invariant-loop-number : goal.invariant-loop-number
invariant-loop-number l =
    (l.out.items ++ sites_from (l.n - l.number) l.number l.at ≡ sites_of l.n) × (l.at ≤ blocks + 12 * l.number)
