use Rattle.std.proofs.Common.{◌≡◌, List, None, sym, subst}
use Rattle.insn_forms.specs.declared.forms.Change.{Change}
use Rattle.poke_batch.specs.Clash.{CanPoke, first_clash}
use Rattle.poke_plan.specs.SiteBytes.{site_byte}
use Rattle.poke_plan.proofs.Plans.{only_change, plan_no_clash, plan_ready}
use Rattle.poke_plan.proofs.poke.open_batch.Goals as goal

pub fill-requires-clause-ready : goal.fill-requires-clause-ready
fill-requires-clause-ready c =
    subst (λ (xs : List Change). CanPoke (site_byte c.args.plan.now.held) xs) (sym (only_change c.in_ok-changes.changes c.push.new.self c.args.plan.now.change c.in_ok-changes.ensures.empty c.push.ensures)) (plan_ready c.args.plan.now c.requires)

pub unreachable-requires : goal.unreachable-requires
unreachable-requires c =
    let none : first_clash (site_byte c.args.plan.now.held) c.push.new.self.list ≡ None =
    subst (λ (xs : List Change). first_clash (site_byte c.args.plan.now.held) xs ≡ None) (sym (only_change c.in_ok-changes.changes c.push.new.self c.args.plan.now.change c.in_ok-changes.ensures.empty c.push.ensures)) (plan_no_clash c.args.plan.now c.requires) in
    let found = c.in-Err.ensures.clash.first in
    absurd (cc)
