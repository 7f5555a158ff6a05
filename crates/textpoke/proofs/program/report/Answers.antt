use Rattle.std.proofs.Common.{◌∙◌, List, ℕ, subst}
use Rattle.poke_base.specs.declared.host.WriteFail.{WriteFail}
use Rattle.poke_base.specs.Host.{Complains}
use Rattle.textpoke.proofs.program.report.Goals as goal

-- the complaint is the fault's, whether it went out or not
pub returns : goal.returns
returns g c = (
  c.status.ensures,
  (
    c.complain.result,
    subst
        (λ (text : List ℕ). Complains {T = Unit {0}} {E = WriteFail} (g.H.Host.outside c.args.host.now) (g.H.Host.outside c.complain.new.self) text c.complain.result)
        (c.deref.ensures.0 ∙ c.complaint.ensures)
        c.complain.ensures,
  ),
)
