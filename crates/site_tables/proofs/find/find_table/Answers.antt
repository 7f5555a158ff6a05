use Rattle.site_tables.proofs.Numbered.{named_section}
use Rattle.elf_module.specs.Elf.{section_of}
use Rattle.site_tables.proofs.find.find_table.Goals as goal

pub invariant_of-result-in-Ok : goal.invariant_of-result-in-Ok
invariant_of-result-in-Ok c = record {
  whole = c.in-Ok.ensures;
  named = named_section c.args.kind c.args.file.now.sections c.table_name.result.now (section_of c.in-Some.section) c.in-Some.ensures.first c.table_name.ensures;
}
