use Rattle.std.proofs.Common.{◌∙◌, sym, ap}
use Rattle.std.specs.Option.{option_copied}
use Rattle.site_tables.specs.declared.entries.TableKind.TheVariants.{Jump}
use Rattle.site_tables.specs.Entry.{jump_in}
use Rattle.site_tables.proofs.Numbered.{entry_there}
use Rattle.site_tables.proofs.tables.Table.jump_entry.Goals as goal

pub returns : goal.returns
returns c =
    entry_there Jump jump_in c.args.self.now c.unwrap-section.result.now c.args.i c.jump_entry.result (sym c.as_ref.ensures.value ∙ ap option_copied c.unwrap-section.ensures) c.requires.kind c.requires.there c.jump_entry.ensures
