use Rattle.std.proofs.Common.{◌≡◌, ◌+◌, ◌*◌, ◌++◌, drop, length}
use Rattle.elf_build.specs.File.{headers_from, laid}
use Rattle.elf_build.proofs.file.add_parts.Given as goal

abbrev pub invariant-loop-part : goal.invariant-loop-part
invariant-loop-part l =
    (laid l.plan l.out.items (drop l.part-index l.parts) ≡ laid l.plan l.initial.out.items l.parts)
    × (l.headers.items ++ headers_from l.plan l.out.items (drop l.part-index l.parts) ≡ l.initial.headers.items ++ headers_from l.plan l.initial.out.items l.parts)
    × (length l.headers.items ≡ length l.initial.headers.items + 64 * l.part-index)
