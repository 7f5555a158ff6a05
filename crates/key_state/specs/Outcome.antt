-- How updates end, found from keys and wanted forms alone, where each earlier one has returned.
use Rattle.std.specs.Prelude.{◌≡◌, ℕ, ◌+◌, false, List, [], ◌∷◌, length, slice_get, Option, Some, None, Result, Ok, Err}
use Rattle.insn_forms.specs.declared.forms.Change.{Change}
use Rattle.insn_forms.specs.declared.forms.Form.{Form}
use Rattle.insn_forms.specs.Spelling.{size, spell}
use Rattle.key_state.specs.declared.count.CountRefused.{CountRefused}
use Rattle.key_state.specs.declared.outcome.Outcome.{Outcome}
use Rattle.key_state.specs.declared.outcome.Outcome.TheVariants.{Done, Count, Clash}
use Rattle.key_state.specs.After.{after, refused_count}
use Rattle.key_state.specs.Changes.{changes, first_foreign}
use Rattle.module_parts.specs.declared.command.Command.{Command}
use Rattle.module_parts.specs.declared.site.Site.{Site}
use Rattle.module_image.specs.Held.{IsBeside}
use Rattle.module_image.specs.Module.{Module, States, wants}
use Rattle.module_image.specs.Sites.{code_at}
use Rattle.poke_batch.specs.Poke.{spelled}

-- how an update ends: it is done, with n sites changed; it is refused at a key's count; or a changed site is foreign: its
-- address, what the text has there, and what was expected
pub data Ending : Type 0 where
  Returns : ℕ → Ending
  CountRefuses : ℕ → Ending
  Clashes : ℕ → List ℕ → List ℕ → Ending

-- the ending that the program answers
abbrev pub ending_of : Outcome → Ending
ending_of (Done sites) = Returns sites
ending_of (Count count) = CountRefuses count
ending_of (Clash clash) = Clashes clash.at clash.found.items clash.expected.items

-- the ending of an update with these changes, by the first of them that is foreign
abbrev pub ending_at : Module → List Change → Option Change → Ending
ending_at m changes None = Returns (length changes)
ending_at m changes (Some c) = Clashes c.at (code_at m.base m.text c.at (size c.old)) (spelled c.old c.at)

abbrev pub ending_to : Module → States → Result States CountRefused → Ending
ending_to m old (Err why) = CountRefuses (refused_count why)
ending_to m old (Ok new) = ending_at m (changes m old new) (first_foreign m (changes m old new))

-- how the update of a command ends
abbrev pub outcome : Module → States → Command → Ending
outcome m states command = ending_to m states (after states command)

-- the states after an update: as before where it is refused or clashes
abbrev pub kept_at : States → States → Option Change → States
kept_at old new None = new
kept_at old new (Some c) = old

abbrev pub settled_to : Module → States → Result States CountRefused → States
settled_to m old (Err why) = old
settled_to m old (Ok new) = kept_at old new (first_foreign m (changes m old new))

abbrev pub settled : Module → States → Command → States
settled m states command = settled_to m states (after states command)

-- the changes that an update has made: none where it is refused or clashes
abbrev pub made_at : List Change → Option Change → List Change
made_at changes None = changes
made_at changes (Some c) = []

abbrev pub made_to : Module → States → Result States CountRefused → List Change
made_to m old (Err why) = []
made_to m old (Ok new) = made_at (changes m old new) (first_foreign m (changes m old new))

abbrev pub made_by : Module → States → Command → List Change
made_by m states command = made_to m states (after states command)

-- how the updates of some commands end, one after the other, and the states after them
abbrev pub outcomes : Module → States → List Command → List Ending
outcomes m states [] = []
outcomes m states (command ∷ commands) = outcome m states command ∷ outcomes m (settled m states command) commands

abbrev pub states_after : Module → States → List Command → States
states_after m states [] = states
states_after m states (command ∷ commands) = states_after m (settled m states command) commands

-- a text of a module in which each patched site holds what it wants, and every other byte is as the module has it
pub record HoldsWanted (m : Module) (states : States) (text : List ℕ) : Type 0 where
  pub same_length : length text ≡ length m.text
  pub patched :
      (i : ℕ) (s : Site) (form : Form) → slice_get m.sites i ≡ Some s → s.foreign ≡ false → wants m states i ≡ Some form
      → spell form s.at ≡ Some (code_at m.base text s.at s.len)
  pub others :
      (k : ℕ) → ((i : ℕ) (s : Site) → slice_get m.sites i ≡ Some s → s.foreign ≡ false → IsBeside (m.base + k) s)
      → slice_get text k ≡ slice_get m.text k
