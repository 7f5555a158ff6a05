-- What the map finds is what the name stands for.
use Rattle.std.proofs.Common.{◌∙◌, ap}
use Rattle.module_names.specs.Names.{value_of}
use Rattle.module_names.proofs.Named.{value_of-named_in}
use Rattle.module_names.proofs.names.Names.get.Goals as goal

pub returns : goal.returns
returns g c =
    c.copied.ensures ∙ c.get.ensures.value ∙ value_of-named_in c.args.name.now c.self.inside.values.entries ∙ ap (value_of c.args.name.now) c.self.view_is
