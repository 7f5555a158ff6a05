-- What the beginning of an update finds.
use Rattle.std.specs.Prelude.{ℕ, List, Option, Some, None, option_map, Result, Ok, Err}
use Rattle.insn_forms.specs.declared.forms.Change.{Change}
use Rattle.insn_forms.specs.Spelling.{size}
use Rattle.key_state.specs.declared.count.CountRefused.{CountRefused}
use Rattle.key_state.specs.After.{after, refused_count}
use Rattle.key_state.specs.Changes.{changes, first_foreign}
use Rattle.key_state.specs.Outcome.{Ending, CountRefuses, Clashes}
use Rattle.module_parts.specs.declared.command.Command.{Command}
use Rattle.module_image.specs.Module.{Module, States}
use Rattle.module_image.specs.Sites.{code_at}
use Rattle.poke_batch.specs.Clash.{first_clash, held_bytes}
use Rattle.poke_batch.specs.Poke.{spelled}

-- the update is refused at a count or by a clash, or it goes to these states by these changes
pub data Beginning : Type 0 where
  Refuses : Ending → Beginning
  Goes : States → List Change → Beginning

-- the first of some changes whose site holds other bytes than those of its old form
abbrev pub clash_of_bytes : (ℕ → Option ℕ) → List Change → Option Ending
clash_of_bytes held changes =
    option_map (λ (c : Change). Clashes c.at (held_bytes held c.at (size c.old)) (spelled c.old c.at)) (first_clash held changes)

-- the first of some changes whose site is foreign, with the bytes that the module has there
abbrev pub clash_of_foreign : Module → List Change → Option Ending
clash_of_foreign m changes =
    option_map (λ (c : Change). Clashes c.at (code_at m.base m.text c.at (size c.old)) (spelled c.old c.at)) (first_foreign m changes)

-- the beginning of an update, where `clash` tells which of some changes clashes
abbrev pub unless : Option Ending → States → List Change → Beginning
unless None new changes = Goes new changes
unless (Some ending) new changes = Refuses ending

abbrev pub beginning_to : Module → (List Change → Option Ending) → States → Result States CountRefused → Beginning
beginning_to m clash old (Err why) = Refuses (CountRefuses (refused_count why))
beginning_to m clash old (Ok new) = unless (clash (changes m old new)) new (changes m old new)

abbrev pub beginning : Module → (List Change → Option Ending) → States → Command → Beginning
beginning m clash states command = beginning_to m clash states (after states command)
