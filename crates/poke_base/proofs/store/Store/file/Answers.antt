use Rattle.std.proofs.Common.{◌∙◌, ap, Some, None}
use Rattle.poke_base.proofs.Files.{file_found}
use Rattle.poke_base.proofs.store.Store.file.Goals as goal

pub returns-in-Some : goal.returns-in-Some
returns-in-Some c =
    ap Some c.as_slice.ensures.value
    ∙ file_found c.self.inside.files c.args.self.now.files c.args.name.now (Some c.in-Some.bytes.now) (ap (λ s. s.files) c.self.view_is) c.in-Some.ensures.value

pub returns-in-None : goal.returns-in-None
returns-in-None c =
    file_found c.self.inside.files c.args.self.now.files c.args.name.now None (ap (λ s. s.files) c.self.view_is) c.in-None.ensures.value
