use Rattle.std.proofs.Common.{◌≡◌, ◌∙◌, IfSome, ap, arith, map, take}
use Rattle.poke_batch.specs.declared.stage.Stage.TheVariants.{Trap}
use Rattle.poke_batch.specs.Inside.{change_of, state_of, walk_at}
use Rattle.poke_batch.specs.Underway.{IsUnderway}
use Rattle.poke_batch.specs.Walk.{nobody, opened, to_come}
use Rattle.poke_batch.proofs.Fields.{opened_inside, opened_is, opened_sound, opened_within}
use Rattle.poke_batch.proofs.Progresses.{idle_unasked}
use Rattle.poke_batch.proofs.Walks.{opened-to_come}
use Rattle.poke_batch.proofs.batch.Batch.fill.Given as given
use Rattle.poke_batch.proofs.batch.Batch.fill.Goals as goal

pub invariant_of-self : goal.invariant_of-self
invariant_of-self g c = record {
  some_cpus = c.self.invariant.some_cpus;
  most_cpus = c.self.invariant.most_cpus;
  room = let same = c.patch_all.ensures.capacity in let fits = c.self.invariant.room in omega arith;
  spelt = c.patch_all.ensures.spelt;
  from = omega arith;
  within = λ active. absurd (cc);
  inside = tt;
  unasked =
      λ _. c.self.invariant.unasked (idle_unasked c.self.inside.progress (map change_of c.self.inside.patches.items) (take c.self.inside.cpus c.self.inside.acks) (rw (← c.self.view_is) at c.requires.idle));
  underway = tt;
}

-- nobody has taken a request
unasked : (g : given.Over) (c : goal.After-self-3-1 g) → take c.self.inside.cpus c.self.inside.acks ≡ nobody c.self.inside.cpus
unasked g c =
    c.self.invariant.unasked (idle_unasked c.self.inside.progress (map change_of c.self.inside.patches.items) (take c.self.inside.cpus c.self.inside.acks) (rw (← c.self.view_is) at c.requires.idle))

-- the changes of the patches are those that were asked for
made : (g : given.Over) (c : goal.After-self-3-1 g) → map change_of c.patch_all.new.patches.items ≡ c.args.changes.now.list
made g c = c.in_ok-patch_all.ensures.made ∙ c.list.ensures

-- the update that is open then
update : (g : given.Over) (c : goal.After-self-3-1 g) → walk_at (record { from = 0; stage = Trap 0 }) (map change_of c.patch_all.new.patches.items) (take c.self.inside.cpus c.self.inside.acks) ≡ opened c.self.inside.cpus c.args.changes.now.list
update g c =
    opened_is c.self.inside.cpus (map change_of c.patch_all.new.patches.items) c.args.changes.now.list (take c.self.inside.cpus c.self.inside.acks) (made g c) (unasked g c) c.requires.some

-- it is sound
underway : (g : given.Over) (c : goal.After-self-3-1 g) → IfSome (walk_at (record { from = 0; stage = Trap 0 }) (map change_of c.patch_all.new.patches.items) (take c.self.inside.cpus c.self.inside.acks)) (IsUnderway c.self.inside.cpus)
underway g c =
    opened_sound c.self.inside.cpus (g.T.Held.held_byte c.args.text.now) (map change_of c.patch_all.new.patches.items) c.args.changes.now.list (take c.self.inside.cpus c.self.inside.acks) (update g c) c.self.invariant.some_cpus c.self.invariant.most_cpus c.requires.some c.requires.ready

pub invariant_of-self-2 : goal.invariant_of-self-2
invariant_of-self-2 g c = record {
  some_cpus = c.self.invariant.some_cpus;
  most_cpus = c.self.invariant.most_cpus;
  room = let same = c.patch_all.ensures.capacity in let fits = c.self.invariant.room in omega arith;
  spelt = c.patch_all.ensures.spelt;
  from = omega arith;
  within = λ _. opened_within c.patch_all.new.patches.items c.args.changes.now.list (made g c) c.requires.some;
  inside = opened_inside c.patch_all.new.patches.items c.args.changes.now.list (made g c) c.requires.some;
  unasked = λ _. unasked g c;
  underway = underway g c;
}

pub returns-clause-filled : goal.returns-clause-filled
returns-clause-filled g c =
    rw (← c.self.view_is) (ap (λ update. record (state_of c.self.inside) { update = update }) (update g c))

pub returns-clause-in_order : goal.returns-clause-in_order
returns-clause-in_order g c =
    ap (λ update. to_come update) (update g c) ∙ opened-to_come c.self.inside.cpus c.args.changes.now.list

pub returns-clause-underway : goal.returns-clause-underway
returns-clause-underway g c = underway g c
