-- What is said of the sayings of each command: where the files are told, two of them end alike.
use Rattle.std.proofs.Common.{◌≡◌, ◌≤◌, ◌<◌, ◌⊎◌, ℕ, List, [], length, Option, Some, None, IsSome, Result, Ok, Err, refl, sym, ap, ◌∙◌, subst, inl, inr, lit<, lit≤, arith}
use Rattle.std.proofs.lemmas.Option.{same_Some}
use Rattle.poke_base.specs.Host.{Files, Tells}
use Rattle.insn_forms.specs.declared.forms.Change.{Change}
use Rattle.insn_forms.specs.declared.forms.Form.{Form}
use Rattle.insn_forms.specs.Spelling.{spell}
use Rattle.elf_module.specs.declared.refused.ElfRefused.{ElfRefused}
use Rattle.elf_module.specs.declared.refused.ElfRefused.TheVariants.{Short}
use Rattle.elf_module.specs.Refusals.{order}
use Rattle.site_tables.specs.declared.entries.TableKind.TheVariants.{Jump, Call, Trace}
use Rattle.module_parts.specs.declared.refused.Refused.{Refused}
use Rattle.module_parts.specs.declared.refused.Refused.TheVariants.{Table, NoMemory}
use Rattle.module_image.specs.Refusals.{IsRefusal as IsImageRefusal, Passes as ImagePasses}
use Rattle.module_image.specs.Module.{Module}
use Rattle.poke_faults.specs.declared.fault.Refusal.{Refusal}
use Rattle.poke_faults.specs.declared.fault.Refusal.TheVariants.{Module as ModuleRefusal, Plan as PlanRefusal, Script as ScriptRefusal, Journal as JournalRefusal}
use Rattle.poke_faults.specs.declared.journal_fault.JournalRefused.TheVariants.{TooLong as LongJournal, Line as JournalLine}
use Rattle.poke_faults.specs.declared.module_fault.ModuleRefused.{ModuleRefused}
use Rattle.poke_faults.specs.declared.module_fault.ModuleRefused.TheVariants.{TooLong as LongModule, Elf, Image}
use Rattle.poke_plan.specs.declared.plan_line.PlanRefused.{PlanRefused}
use Rattle.poke_plan.specs.declared.plan_line.PlanRefused.TheVariants.{TooLong, Line, NoReach, Old}
use Rattle.poke_plan.specs.declared.plan_line.Wish.{Wish}
use Rattle.script_text.specs.Script.{ScriptValue, script}
use Rattle.script_text.proofs.SameNames.{IsAlike, scripts_alike}
use Rattle.poke_faults.specs.declared.script_fault.ScriptRefused.{ScriptRefused}
use Rattle.poke_faults.specs.declared.script_fault.ScriptRefused.TheVariants.{TooLong as LongScript, Line as RefusedLine}
use Rattle.poke_commands.specs.Check.{Accepts, RefusesModule, elf_of}
use Rattle.poke_commands.specs.Command as command
use Rattle.poke_commands.specs.Command.{Row, file_words}
use Rattle.poke_commands.specs.Module.{ModuleShows}
use Rattle.poke_plan.specs.PlanLine.{PokeLine, IsWished}
use Rattle.poke_faults.specs.Fault.{refusal_status}
use Rattle.poke_commands.specs.Runs.{MayBeCut, SaysSomething}
use Rattle.poke_commands.specs.Script.{AcceptsScript, RefusesScript}
use Rattle.poke_commands.specs.Saying.{Begins, CheckSays, FileSays, Holds, JournalBegins, JournalSays, LiveSays, ModuleSays, PlanSays, RunSays, Saying, ScriptSays, ShowSays, Says, WantsSays, WithJournal, WithScript, plan_saying, refused_status, refuses, refuses_line, saying_status, says_both, says_file, says_text, show_saying}
use Rattle.poke_commands.proofs.SameModules.{never_both}
use Rattle.recorded_run.specs.Replaying.{IsRefusedAt, IsReplayed}
use Rattle.run_journal.specs.declared.event.Event.{Event}
use Rattle.switching.specs.State.{first}

-- no text both says a change and is refused
not_both : (text : List ℕ) (change : Change) (why : PlanRefused) → PokeLine text (Ok change) → PokeLine text (Err why) → ⊥
not_both text change TooLong says too_long = omega (arith, says.0)
not_both text change Line says (fits, none) = let some = says.2 in cc
not_both text change NoReach (fits, v, said, wished) (fits_too, w, said_too, none) =
    let same_wish : v ≡ w = cc in
    let reaches : IsSome (spell w.form w.at) = subst (λ (u : Wish). IsSome (spell u.form u.at)) same_wish (subst (λ (f : Form). IsSome (spell f v.at)) wished.new (subst (λ (a : ℕ). IsSome (spell change.new a)) wished.at wished.reaches)) in
    let none_there : IsSome {T = List ℕ} None = subst (λ (o : Option (List ℕ)). IsSome o) none reaches in
    absurd (cc)
not_both text change Old (fits, v, said, wished) (fits_too, w, said_too, reaches, not_wished) =
    not_wished change (subst (λ (u : Wish). IsWished u change) (let same_wish : v ≡ w = cc in same_wish) wished)

-- no refusal stands after the last place of the order
order_below : (why : ElfRefused) → order why < 13
order_below (Short n) = lit< tt
order_below why = lit< tt

-- no module file is both shown and refused
not_both_shown : (file text : List ℕ) (why : ModuleRefused) → ModuleShows file (Ok text) → ModuleShows file (Err why) → ⊥
not_both_shown file text LongModule shows long = let fits = shows.0 in omega arith
not_both_shown file text (Elf why) shows refused =
    shows.1.none why (order_below why) refused.1.holds
not_both_shown file text (Image (Table Jump n)) shows refused = shows.2 refused.2
not_both_shown file text (Image (Table Call n)) shows refused = shows.3 refused.2.1
not_both_shown file text (Image (Table Trace n)) shows refused = shows.4 refused.2.2
not_both_shown file text (Image why) shows refused = refused

-- a module that no condition refuses isn't refused
not_refused : (file : List ℕ) (why : Refused) → ImagePasses (elf_of file) 15 → IsImageRefusal (elf_of file) why → ⊥
not_refused file NoMemory passes refused = refused.holds
not_refused file why passes refused = passes.none why (lit< tt) refused.holds

-- no module file is both accepted and refused
not_both_accepted : (file : List ℕ) (m : Module) (why : ModuleRefused) → Accepts file m → RefusesModule file why → ⊥
not_both_accepted file m LongModule accepts long = let fits = accepts.fits in omega arith
not_both_accepted file m (Elf why) accepts refused = accepts.passes.none why (order_below why) refused.1.holds
not_both_accepted file m (Image why) accepts refused = not_refused file why accepts.is_module.passes refused.2

-- where the files are told, two texts that a file holds are one
one_text : (told : Option Files) (name a b : List ℕ) → IsSome told → Holds told name a → Holds told name b → a ≡ b
one_text None name a b some first second = absurd (cc)
one_text (Some files) name a b some first second =
    let one = first files refl in
    let other = second files refl in
    cc

-- what two sayings of a file say, they say of the same bytes
pub record SayOf (P : List ℕ → Saying → Type 0) (s t : Saying) : Type 0 where
  pub bytes : List ℕ
  pub first : P bytes s
  pub second : P bytes t

one_file : (P : List ℕ → Saying → Type 0) (told : Option Files) (name : List ℕ) (s t : Saying) → IsSome told → FileSays P told name s → FileSays P told name t → SayOf P s t
one_file P told name s t some (a, holds, says) (b, holds_too, says_too) = record {
  bytes = a;
  first = says;
  second = subst (λ (bytes : List ℕ). P bytes t) (one_text told name b a some holds_too holds) says_too;
}

-- two readings of one plan file end alike
plan_alike : (bytes : List ℕ) (r q : Result Change PlanRefused) → PokeLine bytes r → PokeLine bytes q → saying_status (plan_saying r) ≡ saying_status (plan_saying q)
plan_alike bytes (Ok change) (Ok other) h k = refl
plan_alike bytes (Ok change) (Err why) h k = absurd (not_both bytes change why h k)
plan_alike bytes (Err why) (Ok change) h k = absurd (not_both bytes change why k h)
plan_alike bytes (Err why) (Err other) h k = refl

-- two showings of one file end alike
show_alike : (bytes : List ℕ) (r q : Result (List ℕ) ModuleRefused) → ModuleShows bytes r → ModuleShows bytes q → saying_status (show_saying r) ≡ saying_status (show_saying q)
show_alike bytes (Ok text) (Ok other) h k = refl
show_alike bytes (Ok text) (Err why) h k = absurd (not_both_shown bytes text why h k)
show_alike bytes (Err why) (Ok text) h k = absurd (not_both_shown bytes text why k h)
show_alike bytes (Err why) (Err other) h k = refl

-- sayings that are equal to sayings that end alike end alike
alike : (s t a b : Saying) → s ≡ a → t ≡ b → saying_status a ≡ saying_status b → saying_status s ≡ saying_status t
alike s t a b is_a is_b same = ap (λ (x : Saying). saying_status x) is_a ∙ same ∙ sym (ap (λ (x : Saying). saying_status x) is_b)

-- two checks of one module file end alike
check_alike : (bytes : List ℕ) (s t : Saying) → ModuleSays CheckSays bytes s → ModuleSays CheckSays bytes t → saying_status s ≡ saying_status t
check_alike bytes s t (inl (why, refused, is)) (inl (other, refused_too, is_too)) = alike s t _ _ is is_too refl
check_alike bytes s t (inl (why, refused, is)) (inr (m, accepts, says)) = absurd (not_both_accepted bytes m why accepts refused)
check_alike bytes s t (inr (m, accepts, says)) (inl (why, refused, is)) = absurd (not_both_accepted bytes m why accepts refused)
check_alike bytes s t (inr (m, accepts, says)) (inr (n, accepts_too, says_too)) = alike s t _ _ says says_too refl

-- two accepted modules of one file have the same sites, and their names stand for the same
modules_alike : (bytes : List ℕ) (m n : Module) → Accepts bytes m → Accepts bytes n → IsAlike m n
modules_alike bytes m n first second = record {
  sites = first.is_module.has_sites ∙ sym second.is_module.has_sites;
  functions = λ name. first.is_module.named_functions name ∙ sym (second.is_module.named_functions name);
  jump_keys = λ name. first.is_module.named_jump_keys name ∙ sym (second.is_module.named_jump_keys name);
  call_keys = λ name. first.is_module.named_call_keys name ∙ sym (second.is_module.named_call_keys name);
}

backwards : (m n : Module) → IsAlike m n → IsAlike n m
backwards m n alike = record {
  sites = sym alike.sites;
  functions = λ name. sym (alike.functions name);
  jump_keys = λ name. sym (alike.jump_keys name);
  call_keys = λ name. sym (alike.call_keys name);
}

-- no script file is accepted for one of them and refused for the other
not_both_scripts : (m n : Module) (bytes : List ℕ) (s : ScriptValue) (why : ScriptRefused) → IsAlike m n → AcceptsScript m bytes s → RefusesScript n bytes why → ⊥
not_both_scripts m n bytes s LongScript alike accepts long = let fits = accepts.fits in omega arith
not_both_scripts m n bytes s (RefusedLine line why) alike accepts refused =
    let same = sym accepts.is ∙ scripts_alike m n alike bytes ∙ refused.1 in
    cc

-- a script file is one script for both
one_script : (m n : Module) (bytes : List ℕ) (s t : ScriptValue) → IsAlike m n → AcceptsScript m bytes s → AcceptsScript n bytes t → s ≡ t
one_script m n bytes s t alike accepts also =
    let same = sym accepts.is ∙ scripts_alike m n alike bytes ∙ also.is in
    cc

-- what is said of one script of two modules of one file ends alike
abbrev EndsAlike : (Module → ScriptValue → Saying → Type 0) → Type 0
EndsAlike P =
    (file text : List ℕ) (m n : Module) (script : ScriptValue) (s t : Saying) → Accepts file m → Accepts file n → AcceptsScript m text script
    → AcceptsScript n text script → P m script s → P n script t → saying_status s ≡ saying_status t

scripts_end_alike : (P : Module → ScriptValue → Saying → Type 0) (file : List ℕ) (m n : Module) (bytes : List ℕ) (s t : Saying) → EndsAlike P → Accepts file m → Accepts file n → ScriptSays P m bytes s → ScriptSays P n bytes t → saying_status s ≡ saying_status t
scripts_end_alike P file m n bytes s t ends first_is second_is (inl (why, refused, is)) (inl (other, refused_too, is_too)) = alike s t _ _ is is_too refl
scripts_end_alike P file m n bytes s t ends first_is second_is (inl (why, refused, is)) (inr (script, accepts, says)) =
    absurd (not_both_scripts n m bytes script why (modules_alike file n m second_is first_is) accepts refused)
scripts_end_alike P file m n bytes s t ends first_is second_is (inr (script, accepts, says)) (inl (why, refused, is)) =
    absurd (not_both_scripts m n bytes script why (modules_alike file m n first_is second_is) accepts refused)
scripts_end_alike P file m n bytes s t ends first_is second_is (inr (script, accepts, says)) (inr (other, accepts_too, says_too)) =
    let same = sym (one_script m n bytes script other (modules_alike file m n first_is second_is) accepts accepts_too) in
    ends file bytes m n script s t first_is second_is accepts (subst (λ (x : ScriptValue). AcceptsScript n bytes x) same accepts_too) says
    (subst (λ (x : ScriptValue). P n x t) same says_too)

-- what is said of a script file of an accepted module
abbrev OfScript : (Module → ScriptValue → Saying → Type 0) → Option Files → List ℕ → Module → Saying → Type 0
OfScript P told script_file m s = FileSays (ScriptSays P m) told script_file s

modules_end_alike : (P : Module → ScriptValue → Saying → Type 0) (told : Option Files) (script_file bytes : List ℕ) (s t : Saying) → EndsAlike P → IsSome told → ModuleSays (OfScript P told script_file) bytes s → ModuleSays (OfScript P told script_file) bytes t → saying_status s ≡ saying_status t
modules_end_alike P told script_file bytes s t ends some (inl (why, refused, is)) (inl (other, refused_too, is_too)) = alike s t _ _ is is_too refl
modules_end_alike P told script_file bytes s t ends some (inl (why, refused, is)) (inr (m, accepts, says)) = absurd (not_both_accepted bytes m why accepts refused)
modules_end_alike P told script_file bytes s t ends some (inr (m, accepts, says)) (inl (why, refused, is)) = absurd (not_both_accepted bytes m why accepts refused)
modules_end_alike P told script_file bytes s t ends some (inr (m, accepts, (a, holds, says))) (inr (n, accepts_too, (b, holds_too, says_too))) =
    scripts_end_alike P bytes m n a s t ends accepts accepts_too says
    (subst (λ (text : List ℕ). ScriptSays P n text t) (one_text told script_file b a some holds_too holds) says_too)

with_script_alike : (P : Module → ScriptValue → Saying → Type 0) (told : Option Files) (module_file script_file : List ℕ) (s t : Saying) → EndsAlike P → IsSome told → WithScript P told module_file script_file s → WithScript P told module_file script_file t → saying_status s ≡ saying_status t
with_script_alike P told module_file script_file s t ends some says says_too =
    let both = one_file (ModuleSays (OfScript P told script_file)) told module_file s t some says says_too in
    modules_end_alike P told script_file both.bytes s t ends some both.first both.second

-- what `wants`, `live` and `run` say is never refused
wants_alike : EndsAlike WantsSays
wants_alike file text m n script s t first_is second_is accepts also says says_too = alike s t _ _ says.2 says_too.2 refl

live_alike : (turns : ℕ) → EndsAlike (LiveSays turns)
live_alike turns file text m n script s t first_is second_is accepts also says says_too = alike s t _ _ says.2 says_too.2 refl

run_alike : (journal_file : List ℕ) (seed : ℕ) → EndsAlike (RunSays journal_file seed)
run_alike journal_file seed file text m n script s t first_is second_is accepts also says says_too = alike s t _ _ says.is says_too.is refl

-- no journal is both refused at a line for one of two modules of one file, and replayed for the other
not_both_journals : (file text bytes : List ℕ) (m n : Module) (script : ScriptValue) (events others : List Event) (line : ℕ) → Accepts file m → Accepts file n → AcceptsScript m text script → IsRefusedAt m (first m script) bytes events line → IsReplayed n (first n script) bytes others → ⊥
not_both_journals file text bytes m n script events others line first_is second_is accepts refused replayed =
    never_both (elf_of file) m n script bytes events others line first_is.is_module second_is.is_module accepts.of refused replayed

-- no text is both longer than a limit and not
not_both_long : (limit long : ℕ) → limit < long → long ≤ limit → ⊥
not_both_long limit long more fits = omega (arith, more, fits)

-- the statuses of a text, of a text and a file, and of a journal that is refused, whatever is printed
text_status : (n : ℕ) (text : List ℕ) (s : Saying) → s ≡ says_text n text → saying_status s ≡ 0
text_status n text s is = ap (λ (x : Saying). saying_status x) is

both_status : (n : ℕ) (text name bytes : List ℕ) (s : Saying) → s ≡ says_both n text name bytes → saying_status s ≡ 0
both_status n text name bytes s is = ap (λ (x : Saying). saying_status x) is

line_status : (text : List ℕ) (line : ℕ) (s : Saying) → s ≡ refuses_line text line → saying_status s ≡ 4
line_status text line s is = ap (λ (x : Saying). saying_status x) is

long_status : (s : Saying) → s ≡ refuses 3 (JournalRefusal LongJournal) → saying_status s ≡ 4
long_status s is = ap (λ (x : Saying). saying_status x) is

-- a journal is too long or refused at a line, or it is replayed
journal_ends : (m : Module) (script : ScriptValue) (bytes : List ℕ) (s : Saying) → JournalSays m script bytes s → (saying_status s ≡ 4) ⊎ (saying_status s ≡ 0)
journal_ends m script bytes s (inl long) = inl (long_status s long.1)
journal_ends m script bytes s (inr (inl stops)) = inl (line_status _ stops.line s stops.is)
journal_ends m script bytes s (inr (inr replays)) = inr (text_status 3 _ s replays.is)

-- it isn't replayed for one of two modules and refused for the other
stops_or_replays : (file text bytes : List ℕ) (m n : Module) (script : ScriptValue) (s t : Saying) → Accepts file m → Accepts file n → AcceptsScript m text script → JournalSays m script bytes s → JournalSays n script bytes t → saying_status s ≡ 4 → saying_status t ≡ 0 → ⊥
stops_or_replays file text bytes m n script s t first_is second_is accepts (inl long) (inl other) four none =
    let same = long_status t other.1 in omega (arith, same, none)
stops_or_replays file text bytes m n script s t first_is second_is accepts (inl long) (inr (inl stops)) four none =
    let same = line_status _ stops.line t stops.is in omega (arith, same, none)
stops_or_replays file text bytes m n script s t first_is second_is accepts (inl long) (inr (inr replays)) four none = not_both_long _ _ long.0 replays.fits
stops_or_replays file text bytes m n script s t first_is second_is accepts (inr (inl stops)) (inl other) four none =
    let same = long_status t other.1 in omega (arith, same, none)
stops_or_replays file text bytes m n script s t first_is second_is accepts (inr (inl stops)) (inr (inl others)) four none =
    let same = line_status _ others.line t others.is in omega (arith, same, none)
stops_or_replays file text bytes m n script s t first_is second_is accepts (inr (inl stops)) (inr (inr replays)) four none =
    not_both_journals file text bytes m n script stops.events replays.events stops.line first_is second_is accepts stops.refused replays.replayed
stops_or_replays file text bytes m n script s t first_is second_is accepts (inr (inr replays)) other four none =
    let same = text_status 3 _ s replays.is in omega (arith, same, four)

journals_end_alike : (file text bytes : List ℕ) (m n : Module) (script : ScriptValue) (s t : Saying) → Accepts file m → Accepts file n → AcceptsScript m text script → AcceptsScript n text script → JournalSays m script bytes s → JournalSays n script bytes t → saying_status s ≡ saying_status t
journals_end_alike file text bytes m n script s t first_is second_is accepts also says says_too =
    by (journal_ends m script bytes s says) (journal_ends n script bytes t says_too)
  where
    by : (saying_status s ≡ 4) ⊎ (saying_status s ≡ 0) → (saying_status t ≡ 4) ⊎ (saying_status t ≡ 0) → saying_status s ≡ saying_status t
    by (inl four) (inl same) = four ∙ sym same
    by (inl four) (inr none) = absurd (stops_or_replays file text bytes m n script s t first_is second_is accepts says says_too four none)
    by (inr none) (inl four) = absurd (stops_or_replays file text bytes n m script t s second_is first_is also says_too says four none)
    by (inr none) (inr same) = none ∙ sym same

replay_alike : (told : Option Files) (journal_file : List ℕ) → IsSome told → EndsAlike (WithJournal JournalSays told journal_file)
replay_alike told journal_file some file text m n script s t first_is second_is accepts also (a, holds, says) (b, holds_too, says_too) =
    journals_end_alike file text a m n script s t first_is second_is accepts also says
    (subst (λ (bytes : List ℕ). JournalSays n script bytes t) (one_text told journal_file b a some holds_too holds) says_too)

-- where the files are told, two sayings of a command end alike
pub says_alike : (row : Row) (told : Option Files) (s t : Saying) → IsSome told → Says row told s → Says row told t → saying_status s ≡ saying_status t
says_alike (command.Plan file) told s t some says says_too =
    let both = one_file PlanSays told file s t some says says_too in
    alike s t _ _ both.first.2 both.second.2 (plan_alike both.bytes both.first.0 both.second.0 both.first.1 both.second.1)
says_alike (command.Show file) told s t some says says_too =
    let both = one_file ShowSays told file s t some says says_too in
    alike s t _ _ both.first.2 both.second.2 (show_alike both.bytes both.first.0 both.second.0 both.first.1 both.second.1)
says_alike (command.Check file) told s t some says says_too =
    let both = one_file (ModuleSays CheckSays) told file s t some says says_too in
    check_alike both.bytes s t both.first both.second
says_alike (command.Make n file) told s t some says says_too = alike s t _ _ says.2 says_too.2 refl
says_alike (command.Wants module_file script_file) told s t some says says_too =
    with_script_alike WantsSays told module_file script_file s t wants_alike some says says_too
says_alike (command.Run module_file script_file journal_file seed) told s t some says says_too =
    with_script_alike (RunSays journal_file seed) told module_file script_file s t (run_alike journal_file seed) some says says_too
says_alike (command.Replay module_file script_file journal_file) told s t some says says_too =
    with_script_alike (WithJournal JournalSays told journal_file) told module_file script_file s t (replay_alike told journal_file some) some says says_too
says_alike (command.Bench n seed) told s t some says says_too = alike s t _ _ says.2 says_too.2 refl
says_alike (command.Live module_file script_file turns seed) told s t some says says_too =
    with_script_alike (LiveSays turns) told module_file script_file s t (live_alike turns) some says says_too

-- a saying of a text, of a file, of a refusal alone, or of a text and a file
abbrev IsPlainForm : ℕ → Saying → Type 0
IsPlainForm n s =
    ((text : List ℕ) × (s ≡ says_text n text)) ⊎ ((name : List ℕ) × (bytes : List ℕ) × (s ≡ says_file n name bytes))
    ⊎ ((why : Refusal) × (s ≡ refuses n why)) ⊎ ((text : List ℕ) × (name : List ℕ) × (bytes : List ℕ) × (s ≡ says_both n text name bytes))

-- or, of `replay` alone, of a text and a line that is refused after it
abbrev pub IsReplay : Row → Type 0
IsReplay (command.Plan file) = ⊥
IsReplay (command.Show file) = ⊥
IsReplay (command.Check file) = ⊥
IsReplay (command.Make n file) = ⊥
IsReplay (command.Wants module_file script_file) = ⊥
IsReplay (command.Run module_file script_file journal_file seed) = ⊥
IsReplay (command.Replay module_file script_file journal_file) = Unit {0}
IsReplay (command.Bench n seed) = ⊥
IsReplay (command.Live module_file script_file turns seed) = ⊥

abbrev IsLineForm : Row → Saying → Type 0
IsLineForm row s = IsReplay row × ((text : List ℕ) × (line : ℕ) × (s ≡ refuses_line text line))

record IsForm (row : Row) (s : Saying) : Type 0 where
  asks : ℕ
  some : 1 ≤ length (file_words row) → 1 ≤ asks
  is : s.asks ≡ asks
  form : IsPlainForm asks s ⊎ IsLineForm row s

asks_of : (s t : Saying) → s ≡ t → s.asks ≡ t.asks
asks_of s t is = ap (λ (x : Saying). x.asks) is

text_form : (row : Row) (n : ℕ) (s : Saying) (text : List ℕ) → 1 ≤ n → s ≡ says_text n text → IsForm row s
text_form row n s text some is = record { asks = n; some = λ _. some; is = asks_of s _ is; form = inl (inl (text, is)) }

file_form : (row : Row) (n : ℕ) (s : Saying) (name bytes : List ℕ) → 1 ≤ n → s ≡ says_file n name bytes → IsForm row s
file_form row n s name bytes some is = record { asks = n; some = λ _. some; is = asks_of s _ is; form = inl (inr (inl (name, bytes, is))) }

refused_form : (row : Row) (n : ℕ) (s : Saying) (why : Refusal) → 1 ≤ n → s ≡ refuses n why → IsForm row s
refused_form row n s why some is = record { asks = n; some = λ _. some; is = asks_of s _ is; form = inl (inr (inr (inl (why, is)))) }

both_form : (row : Row) (n : ℕ) (s : Saying) (text name bytes : List ℕ) → 1 ≤ n → s ≡ says_both n text name bytes → IsForm row s
both_form row n s text name bytes some is =
    record { asks = n; some = λ _. some; is = asks_of s _ is; form = inl (inr (inr (inr (text, name, bytes, is)))) }

plan_form : (row : Row) (s : Saying) (r : Result Change PlanRefused) → s ≡ plan_saying r → IsForm row s
plan_form row s (Ok change) is = text_form row 1 s _ (lit≤ tt) is
plan_form row s (Err why) is = refused_form row 1 s _ (lit≤ tt) is

show_form : (row : Row) (s : Saying) (r : Result (List ℕ) ModuleRefused) → s ≡ show_saying r → IsForm row s
show_form row s (Ok text) is = text_form row 1 s _ (lit≤ tt) is
show_form row s (Err why) is = refused_form row 1 s _ (lit≤ tt) is

check_form : (row : Row) (bytes : List ℕ) (s : Saying) → ModuleSays CheckSays bytes s → IsForm row s
check_form row bytes s (inl (why, refused, is)) = refused_form row 1 s _ (lit≤ tt) is
check_form row bytes s (inr (m, accepts, is)) = text_form row 1 s _ (lit≤ tt) is

-- a module file with a script file
script_form : (row : Row) (P : Module → ScriptValue → Saying → Type 0) (told : Option Files) (script_file bytes : List ℕ) (s : Saying) → ((m : Module) (script : ScriptValue) → P m script s → IsForm row s) → ModuleSays (OfScript P told script_file) bytes s → IsForm row s
script_form row P told script_file bytes s form (inl (why, refused, is)) = refused_form row 1 s _ (lit≤ tt) is
script_form row P told script_file bytes s form (inr (m, accepts, (text, holds, inl (why, refused, is)))) = refused_form row 2 s _ (lit≤ tt) is
script_form row P told script_file bytes s form (inr (m, accepts, (text, holds, inr (script, read, says)))) = form m script says

journal_form : (row : Row) (m : Module) (script : ScriptValue) (bytes : List ℕ) (s : Saying) → IsReplay row → JournalSays m script bytes s → IsForm row s
journal_form row m script bytes s replay (inl long) = refused_form row 3 s _ (lit≤ tt) long.1
journal_form row m script bytes s replay (inr (inl stops)) =
    record { asks = 3; some = λ _. lit≤ tt; is = asks_of s _ stops.is; form = inr (replay, (_, _, stops.is)) }
journal_form row m script bytes s replay (inr (inr replays)) = text_form row 3 s _ (lit≤ tt) replays.is

-- all commands are such
says_form : (row : Row) (told : Option Files) (s : Saying) → Says row told s → IsForm row s
says_form (command.Plan file) told s says = plan_form (command.Plan file) s says.2.0 says.2.2
says_form (command.Show file) told s says = show_form (command.Show file) s says.2.0 says.2.2
says_form (command.Check file) told s says = check_form (command.Check file) says.0 s says.2
says_form (command.Make n file) told s says = file_form (command.Make n file) 1 s _ says.0 (lit≤ tt) says.2
says_form (command.Wants module_file script_file) told s says =
    script_form (command.Wants module_file script_file) WantsSays told script_file says.0 s
    (λ m script said. text_form (command.Wants module_file script_file) 2 s _ (lit≤ tt) said.2) says.2
says_form (command.Run module_file script_file journal_file seed) told s says =
    script_form (command.Run module_file script_file journal_file seed) (RunSays journal_file seed) told script_file says.0 s
    (λ m script said. both_form (command.Run module_file script_file journal_file seed) 3 s _ _ _ (lit≤ tt) said.is) says.2
says_form (command.Replay module_file script_file journal_file) told s says =
    script_form (command.Replay module_file script_file journal_file) (WithJournal JournalSays told journal_file) told script_file says.0 s
    (λ m script said. journal_form (command.Replay module_file script_file journal_file) m script said.0 s tt said.2) says.2
says_form (command.Bench n seed) told s says =
    record { asks = 0; some = λ one. absurd (omega (arith, one)); is = asks_of s _ says.2; form = inl (inl (_, says.2)) }
says_form (command.Live module_file script_file turns seed) told s says =
    script_form (command.Live module_file script_file turns seed) (LiveSays turns) told script_file says.0 s
    (λ m script said. text_form (command.Live module_file script_file turns seed) 2 s _ (lit≤ tt) said.2) says.2

-- a command that is refused makes no file, and says nothing before but where a line of a journal is refused
abbrev pub IsLineOf : Row → Refusal → Type 0
IsLineOf row why = IsReplay row × ((line : ℕ) × (why ≡ JournalRefusal (JournalLine line)))

pub says_plain : (row : Row) (told : Option Files) (s : Saying) (why : Refusal) → Says row told s → s.refused ≡ Some why → ((s.text ≡ []) ⊎ IsLineOf row why) × (s.makes ≡ None)
says_plain row told s why says refused = by_form (says_form row told s says).asks (says_form row told s says).form
  where
    by_form : (n : ℕ) → IsPlainForm n s ⊎ IsLineForm row s → ((s.text ≡ []) ⊎ IsLineOf row why) × (s.makes ≡ None)
    by_form n (inl (inl (text, is))) = let none = ap (λ (x : Saying). x.refused) is in absurd (cc)
    by_form n (inl (inr (inl (name, bytes, is)))) = let none = ap (λ (x : Saying). x.refused) is in absurd (cc)
    by_form n (inl (inr (inr (inl (other, is))))) = (inl (ap (λ (x : Saying). x.text) is), ap (λ (x : Saying). x.makes) is)
    by_form n (inl (inr (inr (inr (text, name, bytes, is))))) = let none = ap (λ (x : Saying). x.refused) is in absurd (cc)
    by_form n (inr (replay, (text, line, is))) = (
      inr (replay, (line, let some = sym refused ∙ ap (λ (x : Saying). x.refused) is in cc)),
      ap (λ (x : Saying). x.makes) is,
    )

-- every command asks for its first file, where it has one
pub asks_first : (row : Row) (told : Option Files) (s : Saying) → 1 ≤ length (file_words row) → Says row told s → 1 ≤ s.asks
asks_first row told s one says =
    let form = says_form row told s says in
    let some = form.some one in
    let is = form.is in
    omega (arith, some, is)

-- a command asks for its script where its module is accepted
pub asks_script : (P : Module → ScriptValue → Saying → Type 0) (told : Option Files) (module_file script_file bytes : List ℕ) (m : Module) (s : Saying) → ((n : Module) (script : ScriptValue) → P n script s → 2 ≤ s.asks) → IsSome told → Holds told module_file bytes → Accepts bytes m → WithScript P told module_file script_file s → 2 ≤ s.asks
asks_script P told module_file script_file bytes m s more some holds accepts (other, holds_too, says) =
    by_module (subst (λ (text : List ℕ). ModuleSays (OfScript P told script_file) text s) (one_text told module_file other bytes some holds_too holds) says)
  where
    by_script : (n : Module) (text : List ℕ) → ScriptSays P n text s → 2 ≤ s.asks
    by_script n text (inl (why, refused, is)) = let asks = asks_of s _ is in omega arith
    by_script n text (inr (script, read, says)) = more n script says

    by_module : ModuleSays (OfScript P told script_file) bytes s → 2 ≤ s.asks
    by_module (inl (why, refused, is)) = absurd (not_both_accepted bytes m why accepts refused)
    by_module (inr (n, accepts_too, says)) = by_script n says.0 says.2

-- and for what comes after the script where that is accepted too
pub asks_after_script : (P : Module → ScriptValue → Saying → Type 0) (told : Option Files) (module_file script_file bytes text : List ℕ) (m : Module) (script : ScriptValue) (s : Saying) (least : ℕ) → ((n : Module) (other : ScriptValue) → P n other s → least ≤ s.asks) → IsSome told → Holds told module_file bytes → Accepts bytes m → Holds told script_file text → AcceptsScript m text script → WithScript P told module_file script_file s → least ≤ s.asks
asks_after_script P told module_file script_file bytes text m script s least more some holds accepts holds_script accepts_script (other, holds_too, says) =
    by_module (subst (λ (b : List ℕ). ModuleSays (OfScript P told script_file) b s) (one_text told module_file other bytes some holds_too holds) says)
  where
    by_script : (n : Module) → Accepts bytes n → ScriptSays P n text s → least ≤ s.asks
    by_script n accepts_n (inl (why, refused, is)) =
        absurd (not_both_scripts m n text script why (modules_alike bytes m n accepts accepts_n) accepts_script refused)
    by_script n accepts_n (inr (other_script, read, said)) = more n other_script said

    by_module : ModuleSays (OfScript P told script_file) bytes s → least ≤ s.asks
    by_module (inl (why, refused, is)) = absurd (not_both_accepted bytes m why accepts refused)
    by_module (inr (n, accepts_too, (b, holds_b, said))) =
        by_script n accepts_too (subst (λ (b : List ℕ). ScriptSays P n b s) (one_text told script_file b text some holds_b holds_script) said)

-- `wants`, `live`, `run` and `replay` ask for their scripts where their modules are accepted, and `replay` then for its journal
pub wants_asks : (m : Module) (script : ScriptValue) (s : Saying) → WantsSays m script s → 2 ≤ s.asks
wants_asks m script s says = let asks = asks_of s _ says.2 in omega arith

pub live_asks : (turns : ℕ) (m : Module) (script : ScriptValue) (s : Saying) → LiveSays turns m script s → 2 ≤ s.asks
live_asks turns m script s says = let asks = asks_of s _ says.2 in omega arith

pub run_asks : (journal_file : List ℕ) (seed : ℕ) (m : Module) (script : ScriptValue) (s : Saying) → RunSays journal_file seed m script s → 2 ≤ s.asks
run_asks journal_file seed m script s says = let asks = asks_of s _ says.is in omega arith

pub replay_asks : (told : Option Files) (journal_file : List ℕ) (m : Module) (script : ScriptValue) (s : Saying) → WithJournal JournalSays told journal_file m script s → 3 ≤ s.asks
replay_asks told journal_file m script s (bytes, holds, says) = by says
  where
    by : JournalSays m script bytes s → 3 ≤ s.asks
    by (inl long) = let asks = asks_of s _ long.1 in omega arith
    by (inr (inl stops)) = let asks = asks_of s _ stops.is in omega arith
    by (inr (inr replays)) = let asks = asks_of s _ replays.is in omega arith

-- ---- where a write fails before a refusal is reached

refused_low : (why : Refusal) → 2 ≤ refusal_status why
refused_low (ModuleRefusal why) = lit≤ tt
refused_low (PlanRefusal why) = lit≤ tt
refused_low (ScriptRefusal why) = lit≤ tt
refused_low (JournalRefusal why) = lit≤ tt

-- of a command that is refused without a word no write fails
silent : (row : Row) (told : Option Files) (s t : Saying) (why : Refusal) → (IsReplay row → ⊥) → IsSome told → Says row told t → (IsSome t.refused → SaysSomething t) → Says row told s → s.refused ≡ Some why → ⊥
silent row told s t why not_replay some says something says_too refused = by t.refused refl
  where
    nothing : (other : Refusal) → t.refused ≡ Some other → ((t.text ≡ []) ⊎ IsLineOf row other) × (t.makes ≡ None) → SaysSomething t → ⊥
    nothing other is (inl none, makes) (inl text) = text none
    nothing other is (inr line, makes) (inl text) = not_replay line.0
    nothing other is (text, none) (inr makes) = makes none

    by : (o : Option Refusal) → t.refused ≡ o → ⊥
    by None is =
        let same = says_alike row told t s some says says_too in
        let low = refused_low why in
        let none_is : saying_status t ≡ 0 = ap refused_status is in
        let why_is : saying_status s ≡ refusal_status why = ap refused_status refused in
        omega (arith, same, low, none_is, why_is)
    by (Some other) is =
        nothing other is (says_plain row told t other says is) (something (subst (λ (o : Option Refusal). IsSome o) (sym is) refl))

-- what `replay` says at least where a write failed is no refusal, and of the same files only a line is refused then
replay_cut : (told : Option Files) (module_file script_file journal_file : List ℕ) (s t : Saying) (why : Refusal) → IsSome told → WithScript (WithJournal JournalBegins told journal_file) told module_file script_file t → (IsSome t.refused → SaysSomething t) → WithScript (WithJournal JournalSays told journal_file) told module_file script_file s → s.refused ≡ Some why → MayBeCut s why
replay_cut told module_file script_file journal_file s t why some begins something says refused =
    let both = one_file_of (ModuleSays (OfScript (WithJournal JournalBegins told journal_file) told script_file)) (ModuleSays (OfScript (WithJournal JournalSays told journal_file) told script_file)) begins says in
    by_module both.0 both.1 both.2
  where
    one_file_of : (P Q : List ℕ → Saying → Type 0) → FileSays P told module_file t → FileSays Q told module_file s → (bytes : List ℕ) × P bytes t × Q bytes s
    one_file_of P Q (a, holds, first_is) (b, holds_too, second_is) =
        (a, first_is, subst (λ (bytes : List ℕ). Q bytes s) (one_text told module_file b a some holds_too holds) second_is)

    silent_refusal : (n : ℕ) (other : Refusal) → t ≡ refuses n other → ⊥
    silent_refusal n other is = nothing (something (subst (λ (x : Saying). IsSome x.refused) (sym is) refl))
      where
        nothing : SaysSomething t → ⊥
        nothing (inl text) = text (ap (λ (x : Saying). x.text) is)
        nothing (inr makes) = makes (ap (λ (x : Saying). x.makes) is)

    by_journal : (m n : Module) (script other : ScriptValue) (bytes : List ℕ) → JournalBegins m script bytes t → JournalSays n other bytes s → MayBeCut s why
    by_journal m n script other bytes begun (inl long) = absurd (not_both_long _ _ long.0 begun.fits)
    by_journal m n script other bytes begun (inr (inl stops)) =
        subst (λ (r : Refusal). MayBeCut s r) (same_Some (JournalRefusal (JournalLine stops.line)) why (sym (ap (λ (x : Saying). x.refused) stops.is) ∙ refused)) tt
    by_journal m n script other bytes begun (inr (inr replays)) = let none = ap (λ (x : Saying). x.refused) replays.is in absurd (cc)

    by_script : (file : List ℕ) (m n : Module) (bytes : List ℕ) → Accepts file m → Accepts file n → ScriptSays (WithJournal JournalBegins told journal_file) m bytes t → ScriptSays (WithJournal JournalSays told journal_file) n bytes s → MayBeCut s why
    by_script file m n bytes accepts also (inl (other, refused_too, is)) rest = absurd (silent_refusal 2 (ScriptRefusal other) is)
    by_script file m n bytes accepts also (inr (script, read, begun)) (inl (other, refused_too, is)) =
        absurd (not_both_scripts m n bytes script other (modules_alike file m n accepts also) read refused_too)
    by_script file m n bytes accepts also (inr (script, read, (a, holds, begun))) (inr (other, read_too, (b, holds_too, said))) =
        by_journal m n script other a begun (subst (λ (text : List ℕ). JournalSays n other text s) (one_text told journal_file b a some holds_too holds) said)

    by_module : (bytes : List ℕ) → ModuleSays (OfScript (WithJournal JournalBegins told journal_file) told script_file) bytes t → ModuleSays (OfScript (WithJournal JournalSays told journal_file) told script_file) bytes s → MayBeCut s why
    by_module bytes (inl (other, refused_too, is)) rest = absurd (silent_refusal 1 (ModuleRefusal other) is)
    by_module bytes (inr (m, accepts, begun)) (inl (other, refused_too, is)) = absurd (not_both_accepted bytes m other accepts refused_too)
    by_module bytes (inr (m, accepts, (a, holds, begun))) (inr (n, accepts_too, (b, holds_too, said))) =
        by_script bytes m n a accepts accepts_too begun
        (subst (λ (text : List ℕ). ScriptSays (WithJournal JournalSays told journal_file) n text s) (one_text told script_file b a some holds_too holds) said)

-- a write fails before a refusal only at a line of a journal
pub cut_refused : (row : Row) (told : Option Files) (s t : Saying) (why : Refusal) → IsSome told → Begins row told t → (IsSome t.refused → SaysSomething t) → Says row told s → s.refused ≡ Some why → MayBeCut s why
cut_refused (command.Plan file) told s t why some begins something says refused = absurd (silent (command.Plan file) told s t why (λ r. r) some begins something says refused)
cut_refused (command.Show file) told s t why some begins something says refused = absurd (silent (command.Show file) told s t why (λ r. r) some begins something says refused)
cut_refused (command.Check file) told s t why some begins something says refused = absurd (silent (command.Check file) told s t why (λ r. r) some begins something says refused)
cut_refused (command.Make n file) told s t why some begins something says refused = absurd (silent (command.Make n file) told s t why (λ r. r) some begins something says refused)
cut_refused (command.Wants module_file script_file) told s t why some begins something says refused =
    absurd (silent (command.Wants module_file script_file) told s t why (λ r. r) some begins something says refused)
cut_refused (command.Run module_file script_file journal_file seed) told s t why some begins something says refused =
    absurd (silent (command.Run module_file script_file journal_file seed) told s t why (λ r. r) some begins something says refused)
cut_refused (command.Replay module_file script_file journal_file) told s t why some begins something says refused =
    replay_cut told module_file script_file journal_file s t why some begins something says refused
cut_refused (command.Bench n seed) told s t why some begins something says refused =
    absurd (silent (command.Bench n seed) told s t why (λ r. r) some begins something says refused)
cut_refused (command.Live module_file script_file turns seed) told s t why some begins something says refused =
    absurd (silent (command.Live module_file script_file turns seed) told s t why (λ r. r) some begins something says refused)

-- ---- what is said of files is said where fewer are told

file_less : (P Q : List ℕ → Saying → Type 0) (told less : Option Files) (name : List ℕ) (s : Saying) → Tells told less → ((bytes : List ℕ) → P bytes s → Q bytes s) → FileSays P told name s → FileSays Q less name s
file_less P Q told less name s tells more (bytes, holds, says) = (bytes, λ files e. holds files (tells.told files e), more bytes says)

script_less : (P Q : Module → ScriptValue → Saying → Type 0) (told less : Option Files) (module_file script_file : List ℕ) (s : Saying) → Tells told less → ((m : Module) (script : ScriptValue) → P m script s → Q m script s) → WithScript P told module_file script_file s → WithScript Q less module_file script_file s
script_less P Q told less module_file script_file s tells more says =
    file_less (ModuleSays (OfScript P told script_file)) (ModuleSays (OfScript Q less script_file)) told less module_file s tells (λ bytes said. of_module bytes said) says
  where
    of_script : (m : Module) (bytes : List ℕ) → ScriptSays P m bytes s → ScriptSays Q m bytes s
    of_script m bytes (inl refused) = inl refused
    of_script m bytes (inr (script, read, said)) = inr (script, read, more m script said)

    of_module : (bytes : List ℕ) → ModuleSays (OfScript P told script_file) bytes s → ModuleSays (OfScript Q less script_file) bytes s
    of_module bytes (inl refused) = inl refused
    of_module bytes (inr (m, accepts, said)) =
        inr (m, accepts, file_less (ScriptSays P m) (ScriptSays Q m) told less script_file s tells (of_script m) said)

same_said : (P : List ℕ → Saying → Type 0) (s : Saying) (bytes : List ℕ) → P bytes s → P bytes s
same_said P s bytes says = says

pub says_less : (row : Row) (told less : Option Files) (s : Saying) → Tells told less → Says row told s → Says row less s
says_less (command.Plan file) told less s tells says = file_less PlanSays PlanSays told less file s tells (same_said PlanSays s) says
says_less (command.Show file) told less s tells says = file_less ShowSays ShowSays told less file s tells (same_said ShowSays s) says
says_less (command.Check file) told less s tells says =
    file_less (ModuleSays CheckSays) (ModuleSays CheckSays) told less file s tells (same_said (ModuleSays CheckSays) s) says
says_less (command.Make n file) told less s tells says = says
says_less (command.Wants module_file script_file) told less s tells says =
    script_less WantsSays WantsSays told less module_file script_file s tells (λ m script said. said) says
says_less (command.Run module_file script_file journal_file seed) told less s tells says =
    script_less (RunSays journal_file seed) (RunSays journal_file seed) told less module_file script_file s tells (λ m script said. said) says
says_less (command.Replay module_file script_file journal_file) told less s tells says =
    script_less (WithJournal JournalSays told journal_file) (WithJournal JournalSays less journal_file) told less module_file script_file s tells
    (λ m script said. file_less (JournalSays m script) (JournalSays m script) told less journal_file s tells (same_said (JournalSays m script) s) said) says
says_less (command.Bench n seed) told less s tells says = says
says_less (command.Live module_file script_file turns seed) told less s tells says =
    script_less (LiveSays turns) (LiveSays turns) told less module_file script_file s tells (λ m script said. said) says

pub begins_less : (row : Row) (told less : Option Files) (s : Saying) → Tells told less → Begins row told s → Begins row less s
begins_less (command.Plan file) told less s tells says = says_less (command.Plan file) told less s tells says
begins_less (command.Show file) told less s tells says = says_less (command.Show file) told less s tells says
begins_less (command.Check file) told less s tells says = says_less (command.Check file) told less s tells says
begins_less (command.Make n file) told less s tells says = says
begins_less (command.Wants module_file script_file) told less s tells says = says_less (command.Wants module_file script_file) told less s tells says
begins_less (command.Run module_file script_file journal_file seed) told less s tells says =
    says_less (command.Run module_file script_file journal_file seed) told less s tells says
begins_less (command.Replay module_file script_file journal_file) told less s tells says =
    script_less (WithJournal JournalBegins told journal_file) (WithJournal JournalBegins less journal_file) told less module_file script_file s tells
    (λ m script said. file_less (JournalBegins m script) (JournalBegins m script) told less journal_file s tells (same_said (JournalBegins m script) s) said) says
begins_less (command.Bench n seed) told less s tells says = says
begins_less (command.Live module_file script_file turns seed) told less s tells says =
    says_less (command.Live module_file script_file turns seed) told less s tells says
