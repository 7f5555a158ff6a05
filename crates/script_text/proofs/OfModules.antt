-- Every script that is read is of its module.
use Rattle.std.proofs.Common.{◌≡◌, ◌∙◌, ◌≤◌, ◌⊎◌, inl, inr, ℕ, ◌+◌, Bool, true, false, List, [], ◌∷◌, length, nat_le, Option, Some, None, Ok, Err, Result, refl, sym, ap, subst, arith, lit≤}
use Rattle.std.specs.Prelude.{◌&&◌, if◌then◌else◌, codes, option_map}
use Rattle.std.specs.List.{All}
use Rattle.std.specs.Str.{bytes_eq}
use Rattle.std.proofs.lemmas.Bool.{and_parts, leb-true}
use Rattle.std.proofs.lemmas.Option.{none-some, same_Some}
use Rattle.std.proofs.lemmas.List.Elements.{All-nil, All-push}
use Rattle.poke_base.specs.Number.{dec_number}
use Rattle.poke_base.specs.Text.{words}
use Rattle.module_parts.specs.declared.command.Command.{Command}
use Rattle.module_parts.specs.declared.command.Command.TheVariants as command
use Rattle.module_parts.specs.declared.key.KeyClass.TheVariants.{Jump as JumpKey, Call as CallKey}
use Rattle.module_image.specs.Command.{IsCommandOf, IsFunction}
use Rattle.module_image.specs.Lent.{IsKeyOf, IsTraceSite, KeyNamesAreKnown, NamesAreKnown, TraceSitesAreFound}
use Rattle.module_image.specs.Module.{Module}
use Rattle.script_text.specs.declared.refused.ScriptWhy.{ScriptWhy}
use Rattle.script_text.specs.declared.refused.ScriptWhy.TheVariants.{NoCpu}
use Rattle.script_text.specs.declared.script.ScriptStep.TheVariants as step
use Rattle.script_text.specs.Draft.{IsWithin, limit_fault, place_fault}
use Rattle.script_text.specs.Grammar.{Line, Cpu, Inc, Dec, Enable, Disable, Call, Trace, Run, Drop, is_cpu, line_of}
use Rattle.script_text.specs.Laws.{IsScriptOf, IsStepOf, ScriptsAreOfTheirModules}
use Rattle.script_text.specs.Lines.{is_passed_over, lines}
use Rattle.script_text.specs.Meaning.{Meaning, Starts, Does, function_named, function_or_null, key_named, meaning, most_turns, number_in, place_of, site_of, target, traces, turns_of, updates}
use Rattle.script_text.specs.Script.{ScriptValue, empty_script, finished, go_on, is_empty, read_from, script, taken, taken_line, with_meaning}
use Rattle.script_text.proofs.Faults.{map_some, taken-fits, taken-misplaced, taken-past, taken-unknown}
use Rattle.script_text.proofs.Kept.{within_next}

-- a refusal is no script, and two scripts that are read are one
no_err : {E : Type 0} (why : E) (s : ScriptValue) → Err why ≡ Ok s → ⊥
no_err why s e = cc

same_Ok : {E : Type 0} (s new : ScriptValue) → ◌≡◌ {A = Result ScriptValue E} (Ok s) (Ok new) → s ≡ new
same_Ok s new e = cc

-- what is known of the names of a module
record AreNamed (m : Module) : Type 0 where
  jumps : NamesAreKnown m.keys JumpKey m.jump_keys
  calls : NamesAreKnown m.keys CallKey m.call_keys
  sites : (function n : ℕ) → site_of m (Some function) ≡ Some n → IsTraceSite m.sites n

-- what a line means is of the module
abbrev IsMeaningOf : Module → Meaning → Type 0
IsMeaningOf m (Starts at) = IsFunction m at
IsMeaningOf m (Does step) = IsStepOf m step

-- an update is of the module whose command is
update_of : (m : Module) (asked : Option Command) (means : Meaning) → updates asked ≡ Some means → ((c : Command) → asked ≡ Some c → IsCommandOf m c) → IsMeaningOf m means
update_of m None means e of = absurd (cc)
update_of m (Some c) means e of = subst (IsMeaningOf m) (same_Some (Does (step.Update c)) means e) (of c refl)

-- a number in a range
in_range : (least most : ℕ) (o : Option ℕ) (n : ℕ) → number_in least most o ≡ Some n → (least ≤ n) × (n ≤ most)
in_range least most None n e = absurd (none-some n e)
in_range least most (Some k) n e = by (nat_le least k && nat_le k most) refl e
  where
    by : (test : Bool) → (nat_le least k && nat_le k most) ≡ test → (if test then Some k else None) ≡ Some n → (least ≤ n) × (n ≤ most)
    by true told e =
        let both = and_parts (nat_le least k) (nat_le k most) told in
        let same = same_Some k n e in
        subst (λ (j : ℕ). (least ≤ j) × (j ≤ most)) same (leb-true least k both.0, leb-true k most both.1)
    by false told e = absurd (none-some n e)

-- the commands of keys and trace sites
jump_command : (m : Module) (key : List ℕ) (make : ℕ → Command) (c : Command) → AreNamed m → ((n : ℕ) → IsKeyOf m.keys JumpKey n → IsCommandOf m (make n))
    → option_map make (key_named m JumpKey key) ≡ Some c → IsCommandOf m c
jump_command m key make c named of e =
    let found = map_some make (key_named m JumpKey key) c e in
    subst (IsCommandOf m) found.2 (of found.0 (named.jumps key found.0 found.1))

function_of : (m : Module) (name : List ℕ) (func : ℕ) → function_or_null m name ≡ Some func → (func ≡ 0) ⊎ IsFunction m func
function_of m name func e = by (bytes_eq name (codes "-")) e
  where
    by : (null : Bool) → (if null then Some 0 else function_named m name) ≡ Some func → (func ≡ 0) ⊎ IsFunction m func
    by true e = inl (sym (same_Some 0 func e))
    by false e = inr (name, e)

target_command : (m : Module) (key name : List ℕ) (c : Command) → AreNamed m → target (key_named m CallKey key) (function_or_null m name) ≡ Some c → IsCommandOf m c
target_command m key name c named e = by (key_named m CallKey key) (function_or_null m name) refl refl e
  where
    by : (k f : Option ℕ) → key_named m CallKey key ≡ k → function_or_null m name ≡ f → target k f ≡ Some c → IsCommandOf m c
    by None f told known e = absurd (none-some c e)
    by (Some k) None told known e = absurd (none-some c e)
    by (Some k) (Some f) told known e = subst (IsCommandOf m) (same_Some (command.Target k f) c e) (named.calls key k told, function_of m name f known)

trace_command : (m : Module) (on : Bool) (name : List ℕ) (c : Command) → AreNamed m → traces m on name ≡ Some c → IsCommandOf m c
trace_command m on name c named e = by (bytes_eq name (codes "*")) e
  where
    site : (f : Option ℕ) → option_map (λ n. command.Trace n on) (site_of m f) ≡ Some c → IsCommandOf m c
    site None e = absurd (none-some c e)
    site (Some f) e =
        let found = map_some (λ n. command.Trace n on) (site_of m (Some f)) c e in
        subst (IsCommandOf m) found.2 (named.sites f found.0 found.1)

    by : (all : Bool) → (if all then Some (command.TraceAll on) else option_map (λ n. command.Trace n on) (site_of m (function_named m name))) ≡ Some c → IsCommandOf m c
    by true e = subst (IsCommandOf m) (same_Some (command.TraceAll on) c e) tt
    by false e = site (function_named m name) e

-- whatever a line means
meaning_of : (m : Module) (line : Line) (means : Meaning) → AreNamed m → meaning m line ≡ Some means → IsMeaningOf m means
meaning_of m (Cpu name) means named e =
    let found = map_some Starts (function_named m name) means e in
    subst (IsMeaningOf m) found.2 (name, found.1)
meaning_of m (Inc key) means named e = update_of m _ means e (λ c is. jump_command m key (λ n. command.Inc n) c named (λ n known. known) is)
meaning_of m (Dec key) means named e = update_of m _ means e (λ c is. jump_command m key (λ n. command.Dec n) c named (λ n known. known) is)
meaning_of m (Enable key) means named e = update_of m _ means e (λ c is. jump_command m key (λ n. command.Enable n) c named (λ n known. known) is)
meaning_of m (Disable key) means named e = update_of m _ means e (λ c is. jump_command m key (λ n. command.Disable n) c named (λ n known. known) is)
meaning_of m (Call key name) means named e = update_of m _ means e (λ c is. target_command m key name c named is)
meaning_of m (Trace on name) means named e = update_of m _ means e (λ c is. trace_command m on name c named is)
meaning_of m (Run turns) means named e =
    let found = map_some (λ n. Does (step.Run n)) (turns_of turns) means e in
    subst (IsMeaningOf m) found.2 (in_range 1 most_turns (dec_number turns) found.0 found.1).0
meaning_of m (Drop place) means named e =
    let found = map_some (λ n. Does (step.Drop n)) (place_of place) means e in
    subst (IsMeaningOf m) found.2 (in_range 0 255 (dec_number place) found.0 found.1).1

-- what holds of the script after each line
record IsGood (m : Module) (s : ScriptValue) : Type 0 where
  within : IsWithin s
  entries : All (IsFunction m) s.entries
  steps : All (IsStepOf m) s.steps

good_first : (m : Module) → IsGood m empty_script
good_first m =
    record {
      within = record { few_cpus = lit≤ tt; few_updates = lit≤ tt; few_drops = lit≤ tt; few_turns = lit≤ tt };
      entries = All-nil (IsFunction m);
      steps = All-nil (IsStepOf m);
    }

good_with : (m : Module) (s : ScriptValue) (means : Meaning) → IsGood m s → IsMeaningOf m means → IsWithin (with_meaning s means) → IsGood m (with_meaning s means)
good_with m s (Starts at) good of within = record { within = within; entries = All-push (IsFunction m) s.entries at good.entries of; steps = good.steps }
good_with m s (Does step) good of within = record { within = within; entries = good.entries; steps = All-push (IsStepOf m) s.steps step good.steps of }

good_next : (m : Module) (s new : ScriptValue) (line : Line) → AreNamed m → IsGood m s → taken_line m s (Some line) ≡ Ok new → IsGood m new
good_next m s new line named good e = place (place_fault s (is_cpu line)) refl
  where
    limits : (means : Meaning) → meaning m line ≡ Some means → place_fault s (is_cpu line) ≡ None → (past : Option ScriptWhy) → limit_fault (with_meaning s means) ≡ past → IsGood m new
    limits means is may (Some why) past = absurd (no_err why new (sym (taken-past m s line means why may is past) ∙ e))
    limits means is may None fits =
        subst (IsGood m) (same_Ok (with_meaning s means) new (sym (taken-fits m s line means may is fits) ∙ e))
        (good_with m s means good (meaning_of m line means named is) (within_next m s line means good.within may is fits))

    meant : (asked : Option Meaning) → meaning m line ≡ asked → place_fault s (is_cpu line) ≡ None → IsGood m new
    meant None none may = absurd (no_err _ new (sym (taken-unknown m s line may none) ∙ e))
    meant (Some means) is may = limits means is may (limit_fault (with_meaning s means)) refl

    place : (fault : Option ScriptWhy) → place_fault s (is_cpu line) ≡ fault → IsGood m new
    place (Some why) there = absurd (no_err why new (sym (taken-misplaced m s line why there) ∙ e))
    place None may = meant (meaning m line) refl may

good_taken : (m : Module) (s new : ScriptValue) (ws : List (List ℕ)) → AreNamed m → IsGood m s → taken m s ws ≡ Ok new → IsGood m new
good_taken m s new ws named good e = by (is_passed_over ws) (line_of ws) e
  where
    by : (over : Bool) (line : Option Line) → (if over then Ok s else taken_line m s line) ≡ Ok new → IsGood m new
    by true line e = subst (IsGood m) (same_Ok s new e) good
    by false None e = absurd (no_err _ new e)
    by false (Some line) e = good_next m s new line named good e

-- a script that ends has a processor
abbrev ended : ℕ → ScriptValue → List ℕ → Result ScriptValue (ℕ × ScriptWhy)
ended n s entries = if is_empty entries then Err (n, NoCpu) else Ok s

good_ends : (m : Module) (n : ℕ) (s new : ScriptValue) → IsGood m s → finished n s ≡ Ok new → IsScriptOf m new
good_ends m n s new good e = by s.entries refl e
  where
    by : (entries : List ℕ) → s.entries ≡ entries → ended n s entries ≡ Ok new → IsScriptOf m new
    by [] told e = absurd (no_err _ new e)
    by (at ∷ entries) told e =
        subst (IsScriptOf m) (same_Ok s new e)
        (record {
          limits = record {
            some_cpus = omega (arith, ap length told);
            few_cpus = good.within.few_cpus;
            few_updates = good.within.few_updates;
            few_drops = good.within.few_drops;
            few_turns = good.within.few_turns;
          };
          entries = good.entries;
          steps = good.steps;
        })

good_all : (m : Module) (n : ℕ) (s new : ScriptValue) (ls : List (List ℕ)) → AreNamed m → IsGood m s → read_from m n s ls ≡ Ok new → IsScriptOf m new
good_all m n s new [] named good e = good_ends m n s new good e
good_all m n s new (line ∷ rest) named good e =
    by (taken m s (words line)) refl e (λ next good e. good_all m (n + 1) next new rest named good e)
  where
    by : (r : Result ScriptValue ScriptWhy) → taken m s (words line) ≡ r → go_on n r (λ s. read_from m (n + 1) s rest) ≡ Ok new
        → ((next : ScriptValue) → IsGood m next → read_from m (n + 1) next rest ≡ Ok new → IsScriptOf m new) → IsScriptOf m new
    by (Err why) told e later = absurd (no_err _ new e)
    by (Ok next) told e later = later next (good_taken m s next (words line) named good told) e

pub scripts_of_modules : KeyNamesAreKnown → TraceSitesAreFound → ScriptsAreOfTheirModules
unfolding script
scripts_of_modules names sites m text s accepted e =
    good_all m 1 empty_script s (lines text)
    (record { jumps = (names m accepted).0; calls = (names m accepted).1; sites = λ function n is. sites m function n accepted is })
    (good_first m)
    e
