use Rattle.std.proofs.Common.{◌∙◌, List, [], ap, map}
use Rattle.module_parts.specs.declared.entry.Entry.{Entry}
use Rattle.module_parts.specs.declared.key.KeyClass.TheVariants.{Jump, Call}
use Rattle.module_names.specs.Keys.{gathered}
use Rattle.module_image.specs.Sites.{ascending, site_of}
use Rattle.module_image.proofs.Sound.{is_found}
use Rattle.module_image.proofs.Joined.{listed_inside}
use Rattle.module_image.proofs.finding.Found.of.Goals as goal

pub site_list-requires-clause-inside : goal.site_list-requires-clause-inside
site_list-requires-clause-inside c =
    listed_inside c.args.file.now c.in_ok-text.text c.deref-4.result.now c.in_ok-text.ensures.found (c.deref-4.ensures.value ∙ c.in_ok-entries.ensures.list ∙ c.in_ok-tables.ensures.found) c.in_ok-sites_outside.ensures

pub returns-clause-found : goal.returns-clause-found
returns-clause-found c =
    is_found c.args.file.now (record { text = c.in_ok-text.text; addresses = c.in_ok-addresses.addresses; sites = c.in_ok-sites.sites }) c.in_ok-entries.entries.items c.in_ok-text.ensures.found (c.in_ok-entries.ensures.list ∙ c.in_ok-tables.ensures.found)
    (c.in_ok-addresses.ensures.jumps ∙ ap (λ (es : List Entry). gathered Jump es []) c.deref-3.ensures.value)
    (c.in_ok-addresses.ensures.calls ∙ ap (λ (es : List Entry). gathered Call es []) c.deref-3.ensures.value)
    (c.in_ok-sites.ensures.list ∙ ap (λ (es : List Entry). ascending (map (site_of c.in_ok-text.text.base c.in_ok-text.text.bytes.now c.in_ok-addresses.addresses.jumps.items c.in_ok-addresses.addresses.calls.items) es)) c.deref-4.ensures.value)
    c.in_ok-overlap.ensures
