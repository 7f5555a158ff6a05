-- What a line leaves of what holds of the script before it.
use Rattle.std.proofs.Common.{◌≡◌, ◌≤◌, ◌+◌, ℕ, Bool, true, false, [], ◌∷◌, length, Option, Some, None, not, nat_le, nat_lt, refl, arith, length-append}
use Rattle.std.specs.Prelude.{if◌then◌else◌}
use Rattle.std.proofs.lemmas.Bool.{leb-false, ltb-false}
use Rattle.module_parts.specs.declared.command.Command.{Command}
use Rattle.module_image.specs.Module.{Module}
use Rattle.script_text.specs.declared.refused.ScriptWhy.TheVariants.{LateCpu, Cpus, Updates, Drops, Turns}
use Rattle.script_text.specs.Draft.{IsWithin, limit_fault, place_fault}
use Rattle.script_text.specs.Grammar.{Line, Cpu, Inc, Dec, Enable, Disable, Call, Trace, Run, Drop, is_cpu}
use Rattle.script_text.specs.Meaning.{Meaning, Starts, Does, meaning, most_turns, turns_of, place_of, updates}
use Rattle.script_text.specs.Script.{ScriptValue, all_drops, all_turns, all_updates, is_empty, most_cpus, most_drops, most_updates, with_meaning}
use Rattle.script_text.proofs.Faults.{map_some}

-- no limit is passed
record IsInside (s : ScriptValue) : Type 0 where
  updates : nat_lt most_updates (all_updates s.steps) ≡ false
  drops : nat_lt most_drops (all_drops s.steps) ≡ false
  turns : nat_lt most_turns (all_turns s.steps) ≡ false

inside : (s : ScriptValue) → limit_fault s ≡ None → IsInside s
inside s fits = by (nat_lt most_updates (all_updates s.steps)) (nat_lt most_drops (all_drops s.steps)) (nat_lt most_turns (all_turns s.steps)) refl refl refl fits
  where
    by : (a b c : Bool) → nat_lt most_updates (all_updates s.steps) ≡ a → nat_lt most_drops (all_drops s.steps) ≡ b → nat_lt most_turns (all_turns s.steps) ≡ c
        → (if a then Some Updates else if b then Some Drops else if c then Some Turns else None) ≡ None → IsInside s
    by true b c d e f fits = absurd (cc)
    by false true c d e f fits = absurd (cc)
    by false false true d e f fits = absurd (cc)
    by false false false d e f fits = record { updates = d; drops = e; turns = f }

-- an update starts no processor
update_no_start : (asked : Option Command) (at : ℕ) → updates asked ≡ Some (Starts at) → false ≡ true
update_no_start None at e = absurd (cc)
update_no_start (Some command) at e = absurd (cc)

-- only a `cpu` line starts a processor
starts_cpu : (m : Module) (line : Line) (at : ℕ) → meaning m line ≡ Some (Starts at) → is_cpu line ≡ true
starts_cpu m (Cpu name) at e = refl
starts_cpu m (Inc key) at e = update_no_start _ at e
starts_cpu m (Dec key) at e = update_no_start _ at e
starts_cpu m (Enable key) at e = update_no_start _ at e
starts_cpu m (Disable key) at e = update_no_start _ at e
starts_cpu m (Call key name) at e = update_no_start _ at e
starts_cpu m (Trace on name) at e = update_no_start _ at e
starts_cpu m (Run turns) at e = absurd (cc (map_some _ (turns_of turns) (Starts at) e).2)
starts_cpu m (Drop place) at e = absurd (cc (map_some _ (place_of place) (Starts at) e).2)

-- a place that may be taken leaves room for a processor
cpu_room : (s : ScriptValue) → place_fault s true ≡ None → length s.entries + 1 ≤ most_cpus
cpu_room s may = by (is_empty s.steps) (nat_le most_cpus (length s.entries)) refl may
  where
    by : (none full : Bool) → nat_le most_cpus (length s.entries) ≡ full
        → (if not none then Some LateCpu else if full then Some Cpus else None) ≡ None → length s.entries + 1 ≤ most_cpus
    by true true told may = absurd (cc)
    by true false told may = omega (arith, leb-false most_cpus (length s.entries) told)
    by false full told may = absurd (cc)

-- a line that is taken leaves the script within the limits
pub within_next : (m : Module) (s : ScriptValue) (line : Line) (means : Meaning) → IsWithin s → place_fault s (is_cpu line) ≡ None → meaning m line ≡ Some means
    → limit_fault (with_meaning s means) ≡ None → IsWithin (with_meaning s means)
within_next m s line means within may is fits =
    let found = inside (with_meaning s means) fits in
    record {
      few_cpus = cpus means is;
      few_updates = ltb-false most_updates _ found.updates;
      few_drops = ltb-false most_drops _ found.drops;
      few_turns = ltb-false most_turns _ found.turns;
    }
  where
    cpus : (means : Meaning) → meaning m line ≡ Some means → length (with_meaning s means).entries ≤ most_cpus
    cpus (Starts at) is =
        let may' = rw (starts_cpu m line at is) at may in
        omega (arith, cpu_room s may', length-append s.entries (at ∷ []))
    cpus (Does step) is = within.few_cpus
