-- From the first condition that holds of a line to the parts of the code that try them.
use Rattle.std.proofs.Common.{◌≡◌, ◌∙◌, Bool, true, false, not, [], ◌∷◌, length, Option, Some, None, Ok, Err, refl}
use Rattle.std.specs.Prelude.{◌&&◌, if◌then◌else◌, nat_le, find, option_map}
use Rattle.std.specs.Option.{option_or}
use Rattle.std.proofs.lemmas.List.Folds.{find-append}
use Rattle.module_image.specs.Module.{Module}
use Rattle.script_text.specs.declared.refused.ScriptWhy.{ScriptWhy}
use Rattle.script_text.specs.declared.refused.ScriptWhy.TheVariants.{NoCpu, LateCpu, Cpus, Number, Name, Updates, Drops, Turns}
use Rattle.script_text.specs.Draft.{limit_fault, place_fault}
use Rattle.script_text.specs.Grammar.{Line, Cpu, Inc, Dec, Enable, Disable, Call, Trace, Run, Drop, is_cpu}
use Rattle.script_text.specs.Meaning.{Meaning, meaning, place_of, turns_of}
use Rattle.script_text.specs.Script.{ScriptValue, holds, is_empty, most_cpus, order, taken_line, with_meaning}
use Rattle.script_text.specs.Shape.{fault_of}

-- the conditions of a line's place
places : (starts no_steps no_entries full : Bool)
    → (if starts && not no_steps then Some LateCpu else if not starts && no_entries then Some NoCpu else if starts && full then Some Cpus else None)
    ≡ (if starts then (if not no_steps then Some LateCpu else if full then Some Cpus else None) else if no_entries then Some NoCpu else None)
places true true no_entries true = refl
places true true no_entries false = refl
places true false no_entries full = refl
places false no_steps true full = refl
places false no_steps false full = refl

place-find : (m : Module) (s : ScriptValue) (line : Line) → find (holds m s line) (LateCpu ∷ NoCpu ∷ Cpus ∷ []) ≡ place_fault s (is_cpu line)
place-find m s line = places (is_cpu line) (is_empty s.steps) (is_empty s.entries) (nat_le most_cpus (length s.entries))

-- what is mapped from nothing is nothing
map_none : {A B : Type 0} (f : A → B) (o : Option A) → option_map f o ≡ None → o ≡ None
map_none f None e = refl
map_none f (Some x) e = cc

-- a line that means nothing
unknown-find : (m : Module) (s : ScriptValue) (line : Line) → meaning m line ≡ None → find (holds m s line) (Number ∷ Name ∷ []) ≡ Some (fault_of line)
unknown-find m s (Cpu name) e = rw e refl
unknown-find m s (Inc key) e = rw e refl
unknown-find m s (Dec key) e = rw e refl
unknown-find m s (Enable key) e = rw e refl
unknown-find m s (Disable key) e = rw e refl
unknown-find m s (Call key name) e = rw e refl
unknown-find m s (Trace on name) e = rw e refl
unknown-find m s (Run turns) e = rw (map_none _ (turns_of turns) e) refl
unknown-find m s (Drop place) e = rw (map_none _ (place_of place) e) refl

-- what is mapped to something is something
pub map_some : {A B : Type 0} (f : A → B) (o : Option A) (y : B) → option_map f o ≡ Some y → (x : A) × (o ≡ Some x) × (f x ≡ y)
map_some f None y e = absurd (cc)
map_some f (Some x) y e = (x, refl, cc)

-- a line that means something
known-find : (m : Module) (s : ScriptValue) (line : Line) (means : Meaning) → meaning m line ≡ Some means → find (holds m s line) (Number ∷ Name ∷ []) ≡ None
known-find m s (Cpu name) means e = rw e refl
known-find m s (Inc key) means e = rw e refl
known-find m s (Dec key) means e = rw e refl
known-find m s (Enable key) means e = rw e refl
known-find m s (Disable key) means e = rw e refl
known-find m s (Call key name) means e = rw e refl
known-find m s (Trace on name) means e = rw e refl
known-find m s (Run turns) means e = rw ((map_some _ (turns_of turns) means e).1) refl
known-find m s (Drop place) means e = rw ((map_some _ (place_of place) means e).1) refl

limits-find : (m : Module) (s : ScriptValue) (line : Line) (means : Meaning) → meaning m line ≡ Some means
    → find (holds m s line) (Updates ∷ Drops ∷ Turns ∷ []) ≡ limit_fault (with_meaning s means)
limits-find m s line means e = rw e refl

-- the conditions part by part
order-find : (m : Module) (s : ScriptValue) (line : Line)
    → find (holds m s line) order
    ≡ option_or (place_fault s (is_cpu line)) (option_or (find (holds m s line) (Number ∷ Name ∷ [])) (find (holds m s line) (Updates ∷ Drops ∷ Turns ∷ [])))
order-find m s line =
    find-append (holds m s line) (LateCpu ∷ NoCpu ∷ Cpus ∷ []) (Number ∷ Name ∷ Updates ∷ Drops ∷ Turns ∷ [])
    ∙ (λ i. option_or (place-find m s line i) (find-append (holds m s line) (Number ∷ Name ∷ []) (Updates ∷ Drops ∷ Turns ∷ []) i))

-- a line that may not come here
pub taken-misplaced : (m : Module) (s : ScriptValue) (line : Line) (why : ScriptWhy) → place_fault s (is_cpu line) ≡ Some why → taken_line m s (Some line) ≡ Err why
taken-misplaced m s line why e = rw (order-find m s line, e) refl

-- a line that means nothing
pub taken-unknown : (m : Module) (s : ScriptValue) (line : Line) → place_fault s (is_cpu line) ≡ None → meaning m line ≡ None → taken_line m s (Some line) ≡ Err (fault_of line)
taken-unknown m s line e none = rw (order-find m s line, e, unknown-find m s line none) refl

-- a line for which there is no room
pub taken-past : (m : Module) (s : ScriptValue) (line : Line) (means : Meaning) (why : ScriptWhy) → place_fault s (is_cpu line) ≡ None → meaning m line ≡ Some means
    → limit_fault (with_meaning s means) ≡ Some why → taken_line m s (Some line) ≡ Err why
taken-past m s line means why e some past = rw (order-find m s line, e, known-find m s line means some, limits-find m s line means some, past) refl

-- a line that is taken
pub taken-fits : (m : Module) (s : ScriptValue) (line : Line) (means : Meaning) → place_fault s (is_cpu line) ≡ None → meaning m line ≡ Some means
    → limit_fault (with_meaning s means) ≡ None → taken_line m s (Some line) ≡ Ok (with_meaning s means)
taken-fits m s line means e some fits = rw (order-find m s line, e, known-find m s line means some, limits-find m s line means some, fits, some) refl
