-- What the event does, and that the machine is one again.
use Rattle.std.proofs.Common.{◌∙◌, Some, sym, ap}
use Rattle.run_journal.specs.declared.event.Event.TheVariants.{Begin}
use Rattle.script_runner.specs.WorldInside.{seen}
use Rattle.script_runner.proofs.Done.{begun_done, dropped_done, front_here}
use Rattle.script_runner.proofs.WorldFacts.{command_of_world, may_here, ready_world, sites_world, states_of_world, updates_world}
use Rattle.script_runner.proofs.world.World.do_begin.Goals as goal

pub begin-begun-requires-clause-states : goal.begin-begun-requires-clause-states
begin-begun-requires-clause-states c = states_of_world (seen c.self.inside) c.self.invariant

pub begin-begun-requires-clause-command : goal.begin-begun-requires-clause-command
begin-begun-requires-clause-command c = command_of_world (seen c.self.inside) _ c.self.invariant (front_here _ _ _ _ c.steps.ensures.steps (sym c.step.ensures ∙ c.in-Some-Update.is ∙ ap Some c.in-Some-Update.field-0-is))

pub begin-begun-requires-clause-ready : goal.begin-begun-requires-clause-ready
begin-begun-requires-clause-ready c = ready_world (seen c.self.inside) _ c.self.invariant (may_here (seen c.self.inside) _ Begin c.self.view_is c.requires.may) (front_here _ _ _ _ c.steps.ensures.steps (sym c.step.ensures ∙ c.in-Some-Update.is ∙ ap Some c.in-Some-Update.field-0-is))

pub begin-begun-requires-clause-few : goal.begin-begun-requires-clause-few
begin-begun-requires-clause-few c = updates_world (seen c.self.inside) c.self.invariant

pub begin-begun-requires-clause-few_sites : goal.begin-begun-requires-clause-few_sites
begin-begun-requires-clause-few_sites c = sites_world (seen c.self.inside) c.self.invariant

pub invariant_of-self : goal.invariant_of-self
invariant_of-self c = (begun_done (seen c.self.inside) _ _ _ _ _ _ _ _ _ _ _ _ c.self.view_is c.self.invariant c.requires.may (front_here _ _ _ _ c.steps.ensures.steps (sym c.step.ensures ∙ c.in-Some-Update.is ∙ ap Some c.in-Some-Update.field-0-is)) c.steps-in-Some-Update.ensures.steps c.begin-begun.ensures.keys c.begin-begun.ensures.batch c.begin-begun.ensures.sites c.begin-begun.ensures.room c.begin-begun.ensures.updates c.begin-begun.ensures.said c.is_ended.ensures c.pass_if.ensures.passed c.pass_if.ensures.turns c.pass_if.ensures.within c.put_begun.ensures).world

pub invariant_of-self-in-Drop-1 : goal.invariant_of-self-in-Drop-1
invariant_of-self-in-Drop-1 c = (dropped_done (seen c.self.inside) _ _ _ _ _ c.self.view_is c.self.invariant c.requires.may (front_here _ _ _ _ c.steps.ensures.steps (sym c.step.ensures ∙ c.in-Some-Drop.is ∙ ap Some c.in-Some-Drop.field-0-is)) c.steps-in-Some-Drop.ensures.steps c.pass.ensures.passed c.pass.ensures.turns c.pass.ensures.within c.put_drop.ensures).world

pub returns-in-Some-Update : goal.returns-in-Some-Update
returns-in-Some-Update c = (begun_done (seen c.self.inside) _ _ _ _ _ _ _ _ _ _ _ _ c.self.view_is c.self.invariant c.requires.may (front_here _ _ _ _ c.steps.ensures.steps (sym c.step.ensures ∙ c.in-Some-Update.is ∙ ap Some c.in-Some-Update.field-0-is)) c.steps-in-Some-Update.ensures.steps c.begin-begun.ensures.keys c.begin-begun.ensures.batch c.begin-begun.ensures.sites c.begin-begun.ensures.room c.begin-begun.ensures.updates c.begin-begun.ensures.said c.is_ended.ensures c.pass_if.ensures.passed c.pass_if.ensures.turns c.pass_if.ensures.within c.put_begun.ensures).does
