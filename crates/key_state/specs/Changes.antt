-- Which sites change between two states of a module's keys.
use Rattle.std.specs.Prelude.{◌≡◌, ◌≤◌, ℕ, Bool, if◌then◌else◌, List, [], ◌∷◌, length, slice_get, slice_index, find, Option, Some, None, Result, Ok, Err}
use Rattle.std.specs.List.{flat_map, range_with_len}
use Rattle.std.specs.Option.{is_none}
use Rattle.insn_forms.specs.declared.forms.Form.{Form}
use Rattle.insn_forms.specs.declared.forms.Change.{Change}
use Rattle.insn_forms.specs.Same.{same_form}
use Rattle.key_state.specs.declared.count.CountRefused.{CountRefused}
use Rattle.key_state.specs.After.{after, greatest_count}
use Rattle.module_parts.specs.declared.command.Command.{Command}
use Rattle.module_parts.specs.declared.key.Key.{Key}
use Rattle.module_parts.specs.declared.key.KeyClass.TheVariants.{Jump as JumpKey}
use Rattle.module_parts.specs.declared.site.Site.{Site}
use Rattle.module_image.specs.Flows.{LeadWell}
use Rattle.module_image.specs.Layout.{site_at}
use Rattle.module_image.specs.Module.{Module, States, wants}

-- there is a state for each key and each site of a module, counts are at most the greatest, and functions are none or starts
pub record AreStatesOf (m : Module) (states : States) : Type 0 where
  pub keys : length states.keys ≡ length m.keys
  pub traced : length states.traced ≡ length m.sites
  pub counts :
      (k : ℕ) (key : Key) → slice_get m.keys k ≡ Some key → key.class ≡ JumpKey → slice_index states.keys k ≤ greatest_count
  pub leads : LeadWell m states

-- the change of a site at an address between two forms that it wants; none where they are the same
abbrev pub change_between : ℕ → Option Form → Option Form → List Change
change_between at None new = []
change_between at (Some old) None = []
change_between at (Some old) (Some new) = if same_form old new then [] else record { at = at; old = old; new = new } ∷ []

abbrev pub change_of : Option Site → Option Form → Option Form → List Change
change_of None old new = []
change_of (Some s) old new = change_between s.at old new

-- the change of the site with a number
abbrev pub change_at : Module → States → States → ℕ → List Change
change_at m old new i = change_of (slice_get m.sites i) (wants m old i) (wants m new i)

-- the sites whose wanted forms differ, ascending, each with its old and its new form
abbrev pub changes : Module → States → States → List Change
changes m old new = flat_map (change_at m old new) (range_with_len 0 (length m.sites))

-- the changes of a command; none where it is refused
abbrev pub changes_to : Module → States → Result States CountRefused → List Change
changes_to m old (Ok new) = changes m old new
changes_to m old (Err why) = []

abbrev pub changes_by : Module → States → Command → List Change
changes_by m states command = changes_to m states (after states command)

-- a site that changes is foreign: no patched site begins at its address
abbrev pub is_foreign : Module → Change → Bool
is_foreign m change = is_none (site_at m.sites change.at)

-- the first of some changes that is of a foreign site
abbrev pub first_foreign : Module → List Change → Option Change
first_foreign m changes = find (is_foreign m) changes
