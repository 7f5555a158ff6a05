use Rattle.std.proofs.Common.{◌∙◌, sym, ap}
use Rattle.std.specs.Option.{option_copied}
use Rattle.site_tables.specs.declared.entries.TableKind.TheVariants.{Trace}
use Rattle.site_tables.specs.Entry.{trace_in}
use Rattle.site_tables.proofs.Numbered.{entry_there}
use Rattle.site_tables.proofs.tables.Table.trace_site.Goals as goal

pub returns : goal.returns
returns c =
    entry_there Trace (λ addr. trace_in) c.args.self.now c.unwrap-section.result.now c.args.i c.trace_site.result (sym c.as_ref.ensures.value ∙ ap option_copied c.unwrap-section.ensures) c.requires.kind c.requires.there c.trace_site.ensures
