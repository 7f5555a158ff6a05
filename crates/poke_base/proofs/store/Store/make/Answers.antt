use Rattle.std.proofs.Common.{◌≡◌, ◌∙◌, ap, [], string_bytes}
use Rattle.poke_base.proofs.Files.{inserted_there}
use Rattle.poke_base.proofs.store.Store.make.Goals as goal

pub invariant_of-self : goal.invariant_of-self
invariant_of-self c = λ name is.
    let same : string_bytes name ≡ c.args.name.now = cc (c.in_ok-making.ensures.ok) in
    rw same (inserted_there c.self.inside.files c.args.self.now.files c.args.name.now [] (ap (λ s. s.files) (c.self.view_is ∙ c.in_ok-put.ensures.ok)))
