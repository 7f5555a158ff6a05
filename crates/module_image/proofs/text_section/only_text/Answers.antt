use Rattle.std.proofs.Common.{◌∙◌, Option, option_map, ap, sym, arith}
use Rattle.elf_module.specs.Elf.{section_of}
use Rattle.elf_module.specs.declared.records.Section.{Section}
use Rattle.module_image.proofs.Counted.{refused_count, none_named}
use Rattle.module_image.proofs.text_section.only_text.Goals as goal
use Rattle.module_image.proofs.text_section.only_text.Goals.{in_default-via-in-Some+else-count-eq1, in_default-via-in_default}

pub returns-in_default-clause-tried : goal.returns-in_default-clause-tried
returns-in_default-clause-tried c =
    elim c.in_default.branch [
      | in_default-via-in-Some+else-count-eq1 w ↦ refused_count c.args.file.now c.text_count-count.result c.text_count-count.ensures w.if-count-eq1.false
      | in_default-via-in_default w ↦ refused_count c.args.file.now c.text_count-count.result c.text_count-count.ensures
          (λ one. absurd (omega (arith, one, c.text_count-count.ensures, none_named c.args.file.now.sections (sym c.section_named.ensures.first ∙ ap (λ (o : Option Section). option_map section_of o) w.in_default.is))))
    ]
