-- The switching machine: it has no writes, no traps, no phases, no marks and no synchronisations. Each patched site has one
-- form, and while an update is open a changed site has two: its old one and its new one, each whole.
use Rattle.std.specs.Prelude.{◌≡◌, ◌==◌, ◌&&◌, ⊤, ℕ, ◌+◌, Bool, true, false, if◌then◌else◌, List, [], ◌∷◌, ◌++◌, length, drop, map, find, slice_get, slice_set, unwrap_or, Option, Some, None}
use Rattle.std.specs.List.{list_any}
use Rattle.std.specs.Str.{bytes_eq}
use Rattle.insn_forms.specs.declared.forms.Change.{Change}
use Rattle.insn_forms.specs.declared.forms.Form.{Form}
use Rattle.insn_forms.specs.declared.forms.Form.TheVariants.{Nop2}
use Rattle.key_state.specs.Outcome.{Returns}
use Rattle.module_image.specs.Held.{first_states}
use Rattle.module_image.specs.Layout.{site_at}
use Rattle.module_image.specs.Module.{Module, States, plain_at, wants}
use Rattle.run_journal.specs.declared.event.Event.{Event}
use Rattle.run_journal.specs.declared.event.Event.TheVariants.{Begin, Write, Request, Take, Return, Plain, At, Handle, Tick}
use Rattle.script_text.specs.declared.script.ScriptStep.{ScriptStep}
use Rattle.script_text.specs.declared.script.ScriptStep.TheVariants as step
use Rattle.script_text.specs.Script.{ScriptValue}
use Rattle.x64_subset.specs.declared.insn.Insn.{Insn}
use Rattle.x64_subset.specs.declared.proc.Life.TheVariants.{Running}
use Rattle.x64_subset.specs.declared.proc.Proc.{Proc}
use Rattle.x64_subset.specs.Effect.{does}
use Rattle.x64_subset.specs.Proc as proc
use Rattle.x64_subset.specs.Whole.{insn_of, name, whole}
use Rattle.switching.specs.Beginning.{Beginning, Goes, Refuses, beginning, clash_of_foreign}
use Rattle.switching.specs.Said.{TraceLine, Ends, Passes, said_first, said_mark}

pub record Switching : Type 0 where
  -- the updates and drops of the script that haven't begun
  pub steps : List ScriptStep
  -- how many updates have begun
  pub updates : ℕ
  pub states : States
  -- the form of the patched site at an address: while an update is open, the old one of a changed site
  pub forms : ℕ → Form
  -- the changes of the open update
  pub opened : Option (List Change)
  -- who has passed which changed site as new in it: processor and address
  pub passed : List (ℕ × ℕ)
  pub procs : List Proc

-- the updates and drops of a script
abbrev pub without_runs : List ScriptStep → List ScriptStep
without_runs [] = []
without_runs (step.Update command ∷ steps) = step.Update command ∷ without_runs steps
without_runs (step.Run turns ∷ steps) = without_runs steps
without_runs (step.Drop place ∷ steps) = step.Drop place ∷ without_runs steps

-- the form that the patched site at an address wants; elsewhere it says nothing
abbrev pub wanted_by : Module → States → Option ℕ → Form
wanted_by m states None = Nop2
wanted_by m states (Some site) = unwrap_or (wants m states site) Nop2

abbrev pub wanted_at : Module → States → ℕ → Form
wanted_at m states at = wanted_by m states (site_at m.sites at)

abbrev pub first : Module → ScriptValue → Switching
first m script = record {
  steps = without_runs script.steps;
  updates = 0;
  states = first_states m;
  forms = wanted_at m (first_states m);
  opened = None;
  passed = [];
  procs = map proc.start script.entries;
}

-- the change of the site at an address, among those of the open update
abbrev pub change_at : Option (List Change) → ℕ → Option Change
change_at None at = None
change_at (Some changes) at = find (λ (c : Change). c.at == at) changes

-- forms after an update has returned: each changed site has its new one
abbrev pub with_new : List Change → (ℕ → Form) → ℕ → Form
with_new [] forms at = forms at
with_new (c ∷ changes) forms at = if c.at == at then c.new else with_new changes forms at

-- a processor has passed a site as new in the open update
abbrev pub has_passed : List (ℕ × ℕ) → ℕ → ℕ → Bool
has_passed passed c at = list_any (λ (p : ℕ × ℕ). p.0 == c && p.1 == at) passed

-- bytes are a form at an address, as far as they are fetched
abbrev pub is_named : Form → ℕ → List ℕ → Bool
is_named form at bytes = bytes_eq (unwrap_or (name form at) []) bytes

-- what a pass is: of a site that doesn't change, of a changed one as new or as old
pub data PassKind : Type 0 where
  Unchanged : Form → PassKind
  AsNew : Form → PassKind
  AsOld : Form → PassKind

abbrev pub form_of : PassKind → Form
form_of (Unchanged form) = form
form_of (AsNew form) = form
form_of (AsOld form) = form

-- the pass at an address that bytes are: as new, where they are the new form
abbrev pub pass_by : Option Change → Form → ℕ → List ℕ → PassKind
pass_by None form at bytes = Unchanged form
pass_by (Some c) form at bytes = if is_named c.new at bytes then AsNew c.new else AsOld c.old

abbrev pub pass_of : Switching → ℕ → List ℕ → PassKind
pass_of t at bytes = pass_by (change_at t.opened at) (t.forms at) at bytes

-- a processor passes a changed site as old only before it has passed it as new
abbrev pub IsInOrder : PassKind → List (ℕ × ℕ) → ℕ → ℕ → Type 0
IsInOrder (Unchanged form) passed c at = ⊤
IsInOrder (AsNew form) passed c at = ⊤
IsInOrder (AsOld form) passed c at = has_passed passed c at ≡ false

-- a running processor
pub record IsRunning (t : Switching) (c : ℕ) : Type 0 where
  pub proc : Proc
  pub here : slice_get t.procs c ≡ Some proc
  pub runs : proc.life ≡ Running

-- a plain instruction begins where it stands, and no patched site does
pub record NeedsPlain (m : Module) (t : Switching) (c : ℕ) : Type 0 where
  pub running : IsRunning t c
  pub insn : Insn
  pub len : ℕ
  pub is : plain_at m running.proc.ip ≡ Some (insn, len)
  pub no_site : site_at m.sites running.proc.ip ≡ None

-- a patched site begins where it stands, and the bytes are the form of the pass
pub record NeedsPass (m : Module) (t : Switching) (c : ℕ) (bytes : List ℕ) : Type 0 where
  pub running : IsRunning t c
  pub site : ℕ
  pub is : site_at m.sites running.proc.ip ≡ Some site
  pub named : name (form_of (pass_of t running.proc.ip bytes)) running.proc.ip ≡ Some bytes
  pub in_order : IsInOrder (pass_of t running.proc.ip bytes) t.passed c running.proc.ip

-- a changed site of the open update begins where it stands
pub record NeedsHandle (t : Switching) (c : ℕ) : Type 0 where
  pub running : IsRunning t c
  pub change : Change
  pub is : change_at t.opened running.proc.ip ≡ Some change

-- a step hasn't begun, and no update is open
pub record NeedsBegin (t : Switching) : Type 0 where
  pub closed : t.opened ≡ None
  pub step : ScriptStep
  pub rest : List ScriptStep
  pub is : t.steps ≡ step ∷ rest

pub record NeedsReturn (t : Switching) : Type 0 where
  pub changes : List Change
  pub is : t.opened ≡ Some changes

-- a breakpoint that is fetched is no event of this machine
abbrev pub is_breakpoint : List ℕ → Bool
is_breakpoint bytes = bytes_eq bytes (0xcc ∷ [])

abbrev pub NeedsAt : Bool → Module → Switching → ℕ → List ℕ → Type 0
NeedsAt true m t c bytes = ⊤
NeedsAt false m t c bytes = NeedsPass m t c bytes

-- the machine is defined at an event
abbrev pub Needs : Module → Switching → Event → Type 0
Needs m t Begin = NeedsBegin t
Needs m t Write = ⊤
Needs m t Request = ⊤
Needs m t (Take c) = ⊤
Needs m t Return = NeedsReturn t
Needs m t (Plain c) = NeedsPlain m t c
Needs m t (At c bytes) = NeedsAt (is_breakpoint bytes.items) m t c bytes.items
Needs m t (Handle c) = NeedsHandle t c
Needs m t (Tick c) = ⊤

-- the beginning of the update in front, by keys and foreign sites alone
abbrev pub found : Module → Switching → List ScriptStep → Option Beginning
found m t [] = None
found m t (step.Update command ∷ rest) = Some (beginning m (clash_of_foreign m) t.states command)
found m t (step.Run turns ∷ rest) = None
found m t (step.Drop place ∷ rest) = None

abbrev pub begun : Switching → Beginning → Switching
begun t (Refuses ending) = record t { updates = t.updates + 1 }
begun t (Goes new []) = record t { updates = t.updates + 1; states = new }
begun t (Goes new (c ∷ changes)) = record t { updates = t.updates + 1; states = new; opened = Some (c ∷ changes) }

abbrev pub begun_by : Switching → Option Beginning → Switching
begun_by t None = t
begun_by t (Some beginning) = begun t beginning

abbrev pub returned : Switching → Option (List Change) → Switching
returned t None = t
returned t (Some changes) = record t { forms = with_new changes t.forms; opened = None; passed = [] }

-- a processor does a form at an address, whole
abbrev pub with_proc : Switching → ℕ → Proc → Switching
with_proc t c p = record t { procs = slice_set t.procs c p }

abbrev pub noted : PassKind → ℕ → ℕ → List (ℕ × ℕ) → List (ℕ × ℕ)
noted (Unchanged form) c at passed = passed
noted (AsNew form) c at passed = (c, at) ∷ passed
noted (AsOld form) c at passed = passed

abbrev pub passes : Switching → ℕ → PassKind → Proc → Switching
passes t c kind p =
    record t { procs = slice_set t.procs c (whole (form_of kind) p.ip p).0; passed = noted kind c p.ip t.passed }

abbrev pub new_pass : Option Change → PassKind
new_pass None = Unchanged Nop2
new_pass (Some c) = AsNew c.new

abbrev pub plain_done : Option (Insn × ℕ) → Proc → Proc
plain_done None p = p
plain_done (Some (insn, len)) p = (does insn len p).0

abbrev pub at_proc : Option Proc → Switching → (Proc → Switching) → Switching
at_proc None t f = t
at_proc (Some p) t f = f p

-- the machine after an event
abbrev pub next : Module → Switching → Event → Switching
next m t Begin = begun_by (record t { steps = drop 1 t.steps }) (found m t t.steps)
next m t Write = t
next m t Request = t
next m t (Take c) = t
next m t Return = returned t t.opened
next m t (Plain c) = at_proc (slice_get t.procs c) t (λ p. with_proc t c (plain_done (plain_at m p.ip) p))
next m t (At c bytes) =
    if is_breakpoint bytes.items then t
    else at_proc (slice_get t.procs c) t (λ p. passes t c (pass_of t p.ip bytes.items) p)
next m t (Handle c) = at_proc (slice_get t.procs c) t (λ p. passes t c (new_pass (change_at t.opened p.ip)) p)
next m t (Tick c) = t

-- what an event shows
abbrev pub said_return : ℕ → Option (List Change) → List TraceLine
said_return update None = []
said_return update (Some changes) = Ends update (Returns (length changes)) ∷ []

abbrev pub said_done : ℕ → Option (Insn × ℕ) → Proc → List TraceLine
said_done c None p = []
said_done c (Some (insn, len)) p = said_mark c (does insn len p).0.life (does insn len p).1

abbrev pub said_pass : ℕ → PassKind → Proc → List TraceLine
said_pass c kind p =
    Passes c p.ip (insn_of (form_of kind)) ∷ said_mark c (whole (form_of kind) p.ip p).0.life (whole (form_of kind) p.ip p).1

abbrev pub of_proc : Option Proc → (Proc → List TraceLine) → List TraceLine
of_proc None f = []
of_proc (Some p) f = f p

abbrev pub said : Module → Switching → Event → List TraceLine
said m t Begin = said_first (t.updates + 1) t.steps (found m t t.steps)
said m t Write = []
said m t Request = []
said m t (Take c) = []
said m t Return = said_return t.updates t.opened
said m t (Plain c) = of_proc (slice_get t.procs c) (λ p. said_done c (plain_at m p.ip) p)
said m t (At c bytes) =
    if is_breakpoint bytes.items then []
    else of_proc (slice_get t.procs c) (λ p. said_pass c (pass_of t p.ip bytes.items) p)
said m t (Handle c) = of_proc (slice_get t.procs c) (λ p. said_pass c (new_pass (change_at t.opened p.ip)) p)
said m t (Tick c) = []

-- the machine over a journal
abbrev pub after : Module → Switching → List Event → Switching
after m t [] = t
after m t (e ∷ events) = after m (next m t e) events

abbrev pub IsDefined : Module → Switching → List Event → Type 0
IsDefined m t [] = ⊤
IsDefined m t (e ∷ events) = Needs m t e × IsDefined m (next m t e) events

abbrev pub lines : Module → Switching → List Event → List TraceLine
lines m t [] = []
lines m t (e ∷ events) = said m t e ++ lines m (next m t e) events

-- all updates and drops have begun, and no update is open
pub record IsDone (t : Switching) : Type 0 where
  pub steps : t.steps ≡ []
  pub closed : t.opened ≡ None
