use Rattle.std.proofs.Common.{◌≡◌}
use Rattle.key_state.specs.Effects.{states_after}
use Rattle.key_state.proofs.Differing.{changes_from}
use Rattle.key_state.proofs.keys.Keys.list_changes.Given as goal

abbrev pub invariant-loop-site : goal.invariant-loop-site
invariant-loop-site l =
    (l.out.list ≡ changes_from l.image l.self (states_after l.self l.effect) 0 l.site) × (l.out.room ≡ l.initial.out.room)
