use Rattle.std.proofs.Common.{◌∙◌, ◌==◌, ◌+◌, ◌-◌, ℕ, List, ap, arith, drop, length, take}
use Rattle.std.proofs.lemmas.List.{length-drop, take_all}
use Rattle.std.specs.Str.{bytes_eq}
use Rattle.elf_module.specs.Elf.{name_in}
use Rattle.elf_module.proofs.NamesEnd.{same_name-take}
use Rattle.elf_module.proofs.names.is_name_at.Goals as goal

pub returns : goal.returns
returns c =
    let name = c.args.name.now in
    let table = c.args.table.now in
    let rest = drop c.args.at table in
    c.eq-2.ensures ∙ ap (λ (found : List ℕ). bytes_eq found name) c.name_at-2.ensures
    ∙ ap (λ (r : List ℕ). bytes_eq (name_in (take (length name + 1) r) 0) name) (take_all (length table - c.args.at) rest (omega (arith, length-drop c.args.at table)))
    ∙ same_name-take (λ byte. byte == 0) (length name + 1) rest name (omega arith)
