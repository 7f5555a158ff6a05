use Rattle.std.proofs.Common.{◌≡◌, map}
use Rattle.std.specs.List.{range_with_len}
use Rattle.elf_module.specs.Elf.{loaded_from, section_at}
use Rattle.elf_module.proofs.sections.Sections.load_16.Given as goal

abbrev pub invariant-loop-i : goal.invariant-loop-i
invariant-loop-i l = l.bytes ≡ loaded_from (map (section_at l.self.headers.bytes.now) (range_with_len 0 l.i)) 16 l.at
