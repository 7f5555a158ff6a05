-- What is kept of a script while its lines are read.
use Rattle.std.specs.Prelude.{◌≡◌, ◌≤◌, ⊤, Bool, not, nat_le, nat_lt, if◌then◌else◌, length, Option, Some, None, option_map}
use Rattle.script_text.specs.declared.meaning.Meaning.{Meaning as Meant}
use Rattle.script_text.specs.declared.refused.ScriptWhy.{ScriptWhy}
use Rattle.script_text.specs.declared.refused.ScriptWhy.TheVariants.{NoCpu, LateCpu, Cpus, Updates, Drops, Turns}
use Rattle.script_text.specs.declared.script.draft.Draft.TheInside.{Inside}
use Rattle.script_text.specs.Meaning.{most_turns}
use Rattle.script_text.specs.Script.{ScriptValue, all_drops, all_turns, all_updates, is_empty, most_cpus, most_drops, most_updates, with_any, with_meaning}
use Rattle.script_text.specs.Shape.{meaning_in}

-- the script so far is within all limits
pub record IsWithin (s : ScriptValue) : Type 0 where
  pub few_cpus : length s.entries ≤ most_cpus
  pub few_updates : all_updates s.steps ≤ most_updates
  pub few_drops : all_drops s.steps ≤ most_drops
  pub few_turns : all_turns s.steps ≤ most_turns

abbrev pub draft_of : Inside → ScriptValue
draft_of i = record { entries = i.entries.items; steps = i.steps.items }

-- the counts are those of the steps
pub record IsCounted (i : Inside) : Type 0 where
  pub within : IsWithin (draft_of i)
  pub updates : i.updates ≡ all_updates i.steps.items
  pub drops : i.drops ≡ all_drops i.steps.items
  pub turns : i.turns ≡ all_turns i.steps.items

-- the script with what a line that was read means
abbrev pub with_line_read : ScriptValue → Option Meant → ScriptValue
with_line_read s meaning = with_any s (option_map meaning_in meaning)

-- where a line means something, the limits leave room for it
abbrev pub HasRoom : ScriptValue → Option Meant → Type 0
HasRoom s None = ⊤
HasRoom s (Some means) = IsWithin (with_meaning s (meaning_in means))

-- why a `cpu` line may not come here, and another one
abbrev pub cpu_fault : ScriptValue → Option ScriptWhy
cpu_fault s =
    if not (is_empty s.steps) then Some LateCpu else if nat_le most_cpus (length s.entries) then Some Cpus else None

abbrev pub place_fault : ScriptValue → Bool → Option ScriptWhy
place_fault s starts = if starts then cpu_fault s else if is_empty s.entries then Some NoCpu else None

-- the first limit that a script goes past
abbrev pub limit_fault : ScriptValue → Option ScriptWhy
limit_fault s =
    if nat_lt most_updates (all_updates s.steps) then Some Updates
    else if nat_lt most_drops (all_drops s.steps) then Some Drops
    else if nat_lt most_turns (all_turns s.steps) then Some Turns
    else None
