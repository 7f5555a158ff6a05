use Rattle.std.proofs.Common.{◌≡◌, ◌≤◌, ◌<◌, ◌∙◌, IfSome, Some, arith, false, length, map, replicate, set, sym, take, true}
use Rattle.std.proofs.lemmas.List.{length-map, take-replicate}
use Rattle.poke_batch.specs.Inside.{change_of, state_of}
use Rattle.poke_batch.specs.Underway.{IsUnderway}
use Rattle.poke_batch.specs.Walk.{taken}
use Rattle.poke_batch.proofs.Fields.{last_is, passed_sits}
use Rattle.poke_batch.proofs.Progresses.{Sits, flag_each, progress_takes, state_steps}
use Rattle.poke_batch.proofs.Underways.{ack_underway}
use Rattle.poke_batch.proofs.Walks.{taken-last, taken-others, taken-passed}
use Rattle.poke_batch.proofs.batch.Batch.acked.Goals as goal

-- how many changes there are
sites : (c : goal.After-self-then-all_set-1) → c.len.result ≡ length (map change_of c.self.inside.patches.items)
sites c =
    let long : c.len.result ≡ length c.self.inside.patches.items = omega (arith, c.len.ensures, c.self.inside.patches.ok) in
    long ∙ sym (length-map c.self.inside.patches.items change_of)

-- the step after the last acknowledgement
passes : (c : goal.After-self-then-all_set-1) → IfSome (state_of c.self.inside).update (λ walk. (state_of (record c.self.inside { progress = c.after_sync-self-inside.result; acks = replicate 16 false })).update ≡ Some (taken c.args.cpu walk))
passes c =
    let waits = rw (← c.self.view_is) at c.requires.waits in
    let known = rw (← c.self.view_is) at c.requires.known in
    let all = rw (c.from.ensures, c.from-2.ensures) at (sym c.all_set.ensures ∙ c.if-all_set.true) in
    last_is c.self.inside.progress.from c.len.result c.self.inside.progress.stage c.after_sync-self-inside.result (map change_of c.self.inside.patches.items) c.self.inside.acks c.self.inside.cpus c.args.cpu c.self.invariant.most_cpus c.self.told known waits all c.after_sync-self-inside.ensures (sites c)

-- where the update stands then
sits : (c : goal.After-self-then-all_set-1) → Sits (map change_of c.self.inside.patches.items) c.after_sync-self-inside.result
sits c =
    let waits = rw (← c.self.view_is) at c.requires.waits in
    passed_sits c.self.inside.progress.from c.len.result c.self.inside.progress.stage c.after_sync-self-inside.result (map change_of c.self.inside.patches.items) (take c.self.inside.cpus c.self.inside.acks)
    (λ active. let lt = c.self.invariant.within active in omega (arith, length-map c.self.inside.patches.items change_of)) c.self.invariant.inside waits c.after_sync-self-inside.ensures (sites c)

-- it is sound
underway : (c : goal.After-self-then-all_set-1) → IfSome (state_of (record c.self.inside { progress = c.after_sync-self-inside.result; acks = replicate 16 false })).update (IsUnderway c.self.inside.cpus)
underway c =
    let waits = rw (← c.self.view_is) at c.requires.waits in
    ack_underway c.self.inside.cpus c.args.cpu (state_of c.self.inside).update _ (passes c) waits c.self.invariant.underway

pub invariant_of-self : goal.invariant_of-self
invariant_of-self c =
    let place = sits c in
    let lt = place.from in
    let within : c.after_sync-self-inside.result.from < length c.self.inside.patches.items = omega (arith, length-map c.self.inside.patches.items change_of) in
    record {
      some_cpus = c.self.invariant.some_cpus;
      most_cpus = c.self.invariant.most_cpus;
      room = c.self.invariant.room;
      spelt = c.self.invariant.spelt;
      from = omega arith;
      within = λ _. within;
      inside = place.inside;
      unasked = λ _. take-replicate c.self.inside.cpus 16 false c.self.invariant.most_cpus;
      underway = underway c;
    }

pub returns-then-all_set-clause-step : goal.returns-then-all_set-clause-step
returns-then-all_set-clause-step c =
    rw (← c.self.view_is)
    (state_steps (state_of c.self.inside) _ (λ walk. Some (taken c.args.cpu walk)) (passes c))

pub returns-then-all_set-clause-last : goal.returns-then-all_set-clause-last
returns-then-all_set-clause-last c =
    let waits = rw (← c.self.view_is) at c.requires.waits in
    let known = rw (← c.self.view_is) at c.requires.known in
    let few : c.self.inside.cpus ≤ length c.self.inside.acks = omega arith in
    rw (← c.self.view_is)
    (taken-last _ _ c.args.cpu c.self.inside.cpus (passes c) (flag_each c.self.inside.progress _ c.self.inside.acks c.self.inside.cpus few) waits known)

pub returns-then-all_set-clause-others : goal.returns-then-all_set-clause-others
returns-then-all_set-clause-others c =
    let waits = rw (← c.self.view_is) at c.requires.waits in
    let few : c.self.inside.cpus ≤ length c.self.inside.acks = omega arith in
    rw (← c.self.view_is)
    (taken-others _ _ c.args.cpu c.self.inside.cpus (passes c) (flag_each c.self.inside.progress _ c.self.inside.acks c.self.inside.cpus few) waits)

pub returns-then-all_set-clause-passed : goal.returns-then-all_set-clause-passed
returns-then-all_set-clause-passed c =
    let waits = rw (← c.self.view_is) at c.requires.waits in
    let known = rw (← c.self.view_is) at c.requires.known in
    let few : c.self.inside.cpus ≤ length c.self.inside.acks = omega arith in
    rw (← c.self.view_is)
    (taken-passed _ _ c.args.cpu c.self.inside.cpus (passes c) (flag_each c.self.inside.progress _ c.self.inside.acks c.self.inside.cpus few) waits known)

pub returns-then-all_set-clause-underway : goal.returns-then-all_set-clause-underway
returns-then-all_set-clause-underway c = underway c

-- the step after another acknowledgement
stays : (c : goal.Else-all_set) → IfSome (state_of c.self.inside).update (λ walk. (state_of (record c.self.inside { acks = set c.self.inside.acks c.from.result true })).update ≡ Some (taken c.args.cpu walk))
stays c =
    let known = rw (← c.self.view_is) at c.requires.known in
    let some = rw (c.from.ensures, c.from-2.ensures) at (sym c.all_set.ensures ∙ c.if-all_set.false) in
    rw c.from.ensures
    (progress_takes c.self.inside.progress.from c.self.inside.progress.stage (map change_of c.self.inside.patches.items) c.self.inside.acks c.self.inside.cpus c.args.cpu known some)

-- it is sound
underway_still : (c : goal.Else-all_set) → IfSome (state_of (record c.self.inside { acks = set c.self.inside.acks c.from.result true })).update (IsUnderway c.self.inside.cpus)
underway_still c =
    let waits = rw (← c.self.view_is) at c.requires.waits in
    ack_underway c.self.inside.cpus c.args.cpu (state_of c.self.inside).update _ (stays c) waits c.self.invariant.underway

pub returns-else-all_set-clause-step : goal.returns-else-all_set-clause-step
returns-else-all_set-clause-step c =
    rw (← c.self.view_is)
    (state_steps (state_of c.self.inside) _ (λ walk. Some (taken c.args.cpu walk)) (stays c))

pub returns-else-all_set-clause-last : goal.returns-else-all_set-clause-last
returns-else-all_set-clause-last c =
    let waits = rw (← c.self.view_is) at c.requires.waits in
    let known = rw (← c.self.view_is) at c.requires.known in
    let few : c.self.inside.cpus ≤ length c.self.inside.acks = omega arith in
    rw (← c.self.view_is)
    (taken-last _ _ c.args.cpu c.self.inside.cpus (stays c) (flag_each c.self.inside.progress _ c.self.inside.acks c.self.inside.cpus few) waits known)

pub returns-else-all_set-clause-others : goal.returns-else-all_set-clause-others
returns-else-all_set-clause-others c =
    let waits = rw (← c.self.view_is) at c.requires.waits in
    let few : c.self.inside.cpus ≤ length c.self.inside.acks = omega arith in
    rw (← c.self.view_is)
    (taken-others _ _ c.args.cpu c.self.inside.cpus (stays c) (flag_each c.self.inside.progress _ c.self.inside.acks c.self.inside.cpus few) waits)

pub returns-else-all_set-clause-passed : goal.returns-else-all_set-clause-passed
returns-else-all_set-clause-passed c =
    let waits = rw (← c.self.view_is) at c.requires.waits in
    let known = rw (← c.self.view_is) at c.requires.known in
    let few : c.self.inside.cpus ≤ length c.self.inside.acks = omega arith in
    rw (← c.self.view_is)
    (taken-passed _ _ c.args.cpu c.self.inside.cpus (stays c) (flag_each c.self.inside.progress _ c.self.inside.acks c.self.inside.cpus few) waits known)

pub returns-else-all_set-clause-underway : goal.returns-else-all_set-clause-underway
returns-else-all_set-clause-underway c = underway_still c
