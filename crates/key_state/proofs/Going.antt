-- Outcomes of commands, some and then more.
use Rattle.std.proofs.Common.{◌≡◌, List, [], ◌∷◌, ◌++◌, refl, ap}
use Rattle.key_state.specs.Laws.{OutcomesGoOn}
use Rattle.key_state.specs.Outcome.{Ending, outcome, outcomes, settled, states_after}
use Rattle.module_parts.specs.declared.command.Command.{Command}
use Rattle.module_image.specs.Module.{Module, States}

go_on : (m : Module) (states : States) (first more : List Command) → outcomes m states (first ++ more) ≡ outcomes m states first ++ outcomes m (states_after m states first) more
go_on m states [] more = refl
go_on m states (command ∷ first) more =
    ap (λ (es : List Ending). outcome m states command ∷ es) (go_on m (settled m states command) first more)

leave : (m : Module) (states : States) (first more : List Command) → states_after m states (first ++ more) ≡ states_after m (states_after m states first) more
leave m states [] more = refl
leave m states (command ∷ first) more = leave m (settled m states command) first more

pub outcomes_on : OutcomesGoOn
outcomes_on m states first more = (go_on m states first more, leave m states first more)
