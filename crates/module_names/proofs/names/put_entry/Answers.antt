-- The new name goes last.
use Rattle.std.proofs.Common.{◌∙◌, ◌∷◌, ◌++◌, [], ap}
use Rattle.module_names.specs.Names.{value_of}
use Rattle.module_names.specs.Naming.{named_in}
use Rattle.module_names.proofs.Named.{named_in-insert_entry}
use Rattle.module_names.proofs.names.put_entry.Goals as goal

pub returns : goal.returns
returns g c =
    let old = c.args.values.now.entries in
    let name = c.in_ok-name.name in
    ap named_in c.in_ok-insert.ensures.entries
    ∙ named_in-insert_entry name c.args.value old (ap (λ n. value_of n (named_in old)) c.in_ok-name.ensures.items ∙ c.requires)
    ∙ ap (λ n. named_in old ++ (n, c.args.value) ∷ []) c.in_ok-name.ensures.items
