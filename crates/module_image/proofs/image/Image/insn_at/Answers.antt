use Rattle.std.proofs.Common.{◌≡◌, ◌-◌, ◌∙◌, List, None, ap, if◌then◌else◌, nat_lt, slice_get, subst}
use Rattle.std.specs.Prelude.{IfSome}
use Rattle.module_parts.specs.declared.unit.Unit.{Unit}
use Rattle.module_image.specs.Inside.{module_of}
use Rattle.module_image.specs.Lent.{IsInsnAt}
use Rattle.module_image.specs.Module.{Module, plain_at, plain_of}
use Rattle.module_image.proofs.Lent.{insn_of}
use Rattle.module_image.proofs.image.Image.insn_at.Goals as goal

pub returns-clause-insn : goal.returns-clause-insn
returns-clause-insn c =
    let accepted = c.self.invariant.is in
    let m = module_of c.self.inside in
    let at = c.args.at in
    let told : c.plain_at.result ≡ plain_at m at = c.plain_at.ensures ∙ ap (λ (us : List Unit). if nat_lt at m.base then None else plain_of (slice_get us (at - m.base))) c.deref.ensures.value in
    subst (λ (n : Module). IfSome c.plain_at.result (IsInsnAt n at)) c.self.view_is (insn_of accepted.elf m at c.plain_at.result accepted.is told)
