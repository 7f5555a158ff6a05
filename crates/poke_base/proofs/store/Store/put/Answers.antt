use Rattle.std.proofs.Common.{option_map, string_bytes}
use Rattle.poke_base.specs.Stored.{files_in}
use Rattle.poke_base.proofs.Files.{files_in-updates, stays-updates, put_stored}
use Rattle.poke_base.proofs.store.Store.put.Goals as goal

pub invariant_of-self-2 : goal.invariant_of-self-2
invariant_of-self-2 c = λ name is.
    stays-updates c.self.inside.files c.insert.new.self (string_bytes c.in_ok-key.key) c.in_ok-value.value c.in_ok-insert.ensures.updates (string_bytes name) (c.self.invariant name is)

pub returns-clause-ok : goal.returns-clause-ok
returns-clause-ok c =
    let written = files_in-updates c.self.inside.files c.insert.new.self (string_bytes c.in_ok-key.key) c.in_ok-value.value c.in_ok-insert.ensures.updates in
    put_stored c.args.self.now (files_in c.self.inside.files.entries) (files_in c.insert.new.self.entries) (option_map string_bytes c.self.inside.making) c.args.name.now c.args.bytes.now _ _ c.self.view_is written c.in_ok-key.ensures.ok c.in_ok-value.ensures.items
