-- Laws of commands and of the changes that they ask for.
use Rattle.std.specs.Prelude.{◌≡◌, ℕ, List, ◌++◌, length, Ok}
use Rattle.insn_forms.specs.History.{text_byte}
use Rattle.module_parts.specs.declared.command.Command.{Command}
use Rattle.module_image.specs.Command.{IsCommandOf}
use Rattle.module_image.specs.Held.{first_states}
use Rattle.module_image.specs.Module.{Module, IsAccepted, States}
use Rattle.key_state.specs.After.{after}
use Rattle.key_state.specs.Changes.{AreStatesOf, changes, first_foreign}
use Rattle.key_state.specs.Outcome.{HoldsWanted, outcomes, settled, states_after}
use Rattle.poke_batch.specs.Clash.{CanPoke, first_clash}

-- the states as the file has them are states of the module, and its text holds what they want
abbrev pub FirstStatesAreOfTheModule : Type 0
FirstStatesAreOfTheModule =
    (m : Module) → IsAccepted m → AreStatesOf m (first_states m) × HoldsWanted m (first_states m) m.text

-- a command of the module that isn't refused gives states of the module, and so does every update
abbrev pub CommandsKeepStates : Type 0
CommandsKeepStates =
    (m : Module) (old new : States) (command : Command) → IsAccepted m → AreStatesOf m old → IsCommandOf m command
    → after old command ≡ Ok new → AreStatesOf m new

abbrev pub UpdatesKeepStates : Type 0
UpdatesKeepStates =
    (m : Module) (states : States) (command : Command) → IsAccepted m → AreStatesOf m states → IsCommandOf m command
    → AreStatesOf m (settled m states command)

-- the changes between two states ascend, don't overlap, lie in the text, and have spellings of one size
abbrev pub ChangesCanBePoked : Type 0
ChangesCanBePoked =
    (m : Module) (old new : States) (text : List ℕ) → IsAccepted m → AreStatesOf m old → AreStatesOf m new
    → length text ≡ length m.text → CanPoke (text_byte m.base text) (changes m old new)

-- where each patched site holds what it wants, a change clashes exactly where its site is foreign
abbrev pub ClashesAreForeign : Type 0
ClashesAreForeign =
    (m : Module) (old new : States) (text : List ℕ) → IsAccepted m → AreStatesOf m old → AreStatesOf m new
    → HoldsWanted m old text → first_clash (text_byte m.base text) (changes m old new) ≡ first_foreign m (changes m old new)

-- the outcomes of some commands and then of more are those of the first, and of the others from the states that they leave
abbrev pub OutcomesGoOn : Type 0
OutcomesGoOn =
    (m : Module) (states : States) (first more : List Command)
    → (outcomes m states (first ++ more) ≡ outcomes m states first ++ outcomes m (states_after m states first) more)
    × (states_after m states (first ++ more) ≡ states_after m (states_after m states first) more)
