use Rattle.std.specs.Prelude.{slice_get}
use Rattle.module_image.proofs.Counted.{text_told}
use Rattle.module_image.proofs.text_section.is_text.Goals as goal

pub returns : goal.returns
returns c = text_told (slice_get c.args.file.now.sections c.args.i) c.is_section_named.result c.is_section_named.ensures
