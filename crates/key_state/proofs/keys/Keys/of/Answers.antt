use Rattle.std.proofs.Common.{◌≡◌, rules, sym, subst}
use Rattle.key_state.specs.Changes.{AreStatesOf}
use Rattle.module_image.specs.Held.{first_states}
use Rattle.module_image.specs.Module.{States}
use Rattle.key_state.proofs.First.{first_of}
use Rattle.key_state.proofs.keys.Keys.of.Goals as goal

pub returns-clause-states : goal.returns-clause-states
returns-clause-states c =
    let keys : States = record { keys = c.in_ok-states.states.items; traced = c.in_ok-traced.traced.items } in
    let same : keys ≡ first_states c.args.image.now = search rules in
    subst (AreStatesOf c.args.image.now) (sym same) (first_of c.args.image.now c.accepted.ensures)
