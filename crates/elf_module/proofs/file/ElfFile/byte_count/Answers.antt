use Rattle.std.proofs.Common.{ap}
use Rattle.elf_module.specs.Elf.{Elf}
use Rattle.elf_module.proofs.Contents.{contents_short}
use Rattle.elf_module.proofs.file.ElfFile.byte_count.Goals as goal

pub returns-clause-least : goal.returns-clause-least
returns-clause-least c = contents_short c.self.inside.sections.headers.bytes.now c.args.self.now.sections (ap (λ (e : Elf). e.sections) c.self.view_is)
