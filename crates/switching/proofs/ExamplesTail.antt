-- A worked example: a static call in tail position loses its function, and its jump becomes RET with a filling of INT3.
use Rattle.std.proofs.Common.{◌≡◌, false, List, [], ◌∷◌, Ok, inl, refl, arith}
use Rattle.std.specs.Prelude.{codes}
use Rattle.insn_forms.specs.Spelling.{spell}
use Rattle.key_state.specs.Outcome.{Returns}
use Rattle.module_parts.specs.declared.command.Command.TheVariants.{Target}
use Rattle.module_parts.specs.declared.key.KeyClass.TheVariants.{Call as CallKey}
use Rattle.module_parts.specs.declared.site.SiteKind.TheVariants.{Tail}
use Rattle.module_parts.specs.declared.unit.Unit.TheVariants.{Nothing, Plain as Insn, Site}
use Rattle.module_image.specs.Module.{Module}
use Rattle.module_image.specs.Sites.{code_at}
use Rattle.run_journal.specs.declared.event.Event.{Event}
use Rattle.run_journal.specs.declared.event.Event.TheVariants.{Begin, Plain, Request, Return, Take, Write}
use Rattle.script_text.specs.declared.script.ScriptStep.TheVariants.{Run, Update}
use Rattle.script_text.specs.Script.{ScriptValue, script as read_script}
use Rattle.x64_subset.specs.declared.insn.Insn.TheVariants.{Call, Hlt, MovImm, Out, Ret}
use Rattle.x64_subset.specs.declared.proc.Life.TheVariants.{Halted}
use Rattle.x64_subset.specs.Effect.{does}
use Rattle.x64_subset.specs.Reading.{read}
use Rattle.x64_subset.specs.Whole.{whole}
use Rattle.switching.specs.Journal.{IsLegal, IsLegalSoFar, after, lines}
use Rattle.switching.specs.Laws.{Switches, held_text}
use Rattle.switching.specs.Said.{TraceLine, Opens, Ends, Passes, Outs, Stops}
use Rattle.switching.specs.State.{first}
use Rattle.switching.specs.Switching as switching
use Rattle.switching.proofs.ExamplesCommon.{◌▸◌, fetches, stood_after, units_of}

-- a function that calls another, puts what it got to port 0x10 and halts; the other is a jump to the key's function
abbrev pub m : Module
m = record {
  base = 0x401000;
  text = 0xe8 ∷ 0x03 ∷ 0x00 ∷ 0x00 ∷ 0x00 ∷ 0xe6 ∷ 0x10 ∷ 0xf4 ∷ 0xe9 ∷ 0x00 ∷ 0x00 ∷ 0x00 ∷ 0x00 ∷ 0xb8 ∷ 0x01 ∷ 0x00 ∷ 0x00 ∷ 0x00 ∷ 0xc3 ∷ [];
  units = Insn (Call 0x401008) 5 ∷ Nothing ∷ Nothing ∷ Nothing ∷ Nothing ∷ Insn (Out 0x10) 2 ∷ Nothing ∷ Insn Hlt 1 ∷ Site 0 ∷ Nothing ∷ Nothing ∷ Nothing ∷ Nothing ∷ Insn (MovImm 0 1) 5 ∷ Nothing ∷ Nothing ∷ Nothing ∷ Nothing ∷ Insn Ret 1 ∷ [];
  sites = record { at = 0x401008; len = 5; kind = Tail 0; foreign = false } ∷ [];
  keys = record { class = CallKey; at = 0x404000; start = 0x40100d } ∷ [];
  functions = (codes "f", 0x401000) ∷ (codes "a", 0x40100d) ∷ [];
  jump_keys = [];
  call_keys = (codes "tk", 0) ∷ [];
}

-- its units are what stands there
pub units_are : units_of m ≡ m.units
unfolding read
units_are = refl

-- what is done
abbrev pub script : ScriptValue
script = record { entries = 0x401000 ∷ []; steps = Update (Target 0 0) ∷ Run 4 ∷ [] }

-- that is this text
pub script_is : read_script m (codes "cpu f\ncall tk -\nrun 4\n") ≡ Ok script
unfolding read_script
script_is = refl

-- the whole poke, and then the function
abbrev pub journal : List Event
journal = Begin ∷ Write ∷ Request ∷ Take 0 ∷ Write ∷ Write ∷ Write ∷ Write ∷ Request ∷ Take 0 ∷ Write ∷ Request ∷ Take 0 ∷ Return ∷ Plain 0 ∷ fetches 0 (0xc3 ∷ []) ∷ Plain 0 ∷ Plain 0 ∷ []

-- the other function returns at once, and EAX is what it was
abbrev pub trace : List TraceLine
trace = Opens 1 1 ∷ Ends 1 (Returns 1) ∷ Passes 0 0x401008 Ret ∷ Outs 0 0x10 0 ∷ Stops 0 Halted ∷ []

-- the byte machine shows it
pub shows : lines m (first m script) journal ≡ trace
unfolding spell read does
shows = refl

-- and so does the switching machine
pub shows_switched : switching.lines m (switching.first m script) journal ≡ trace
unfolding spell does whole
shows_switched = refl

-- the switching machine is defined all along
defined : switching.IsDefined m (switching.first m script) journal
unfolding spell does whole
defined =
    record { closed = refl; step = _; rest = _; is = refl }
    ▸ tt
    ▸ tt
    ▸ tt
    ▸ tt
    ▸ tt
    ▸ tt
    ▸ tt
    ▸ tt
    ▸ tt
    ▸ tt
    ▸ tt
    ▸ tt
    ▸ record { changes = _; is = refl }
    ▸ record { running = record { proc = _; here = refl; runs = refl }; insn = _; len = _; is = refl; no_site = refl }
    ▸ record { running = record { proc = _; here = refl; runs = refl }; site = _; is = refl; named = refl; in_order = tt }
    ▸ record { running = record { proc = _; here = refl; runs = refl }; insn = _; len = _; is = refl; no_site = refl }
    ▸ record { running = record { proc = _; here = refl; runs = refl }; insn = _; len = _; is = refl; no_site = refl }
    ▸ tt

-- and shows the same
pub switches : Switches m script journal
unfolding spell read does whole
switches = record { defined = defined; same = refl }

-- at the end it is done
pub done : switching.IsDone (switching.after m (switching.first m script) journal)
unfolding spell does whole
done = record { steps = refl; closed = refl }

-- each event may come
legal_so_far : IsLegalSoFar m (first m script) journal
unfolding spell read does
legal_so_far =
    record { closed = refl; next = refl }
    ▸ record { at = _; byte = _; is_due = refl }
    ▸ refl
    ▸ record { waits = refl; cpu = _; here = refl; free = refl; untaken = refl }
    ▸ record { at = _; byte = _; is_due = refl }
    ▸ record { at = _; byte = _; is_due = refl }
    ▸ record { at = _; byte = _; is_due = refl }
    ▸ record { at = _; byte = _; is_due = refl }
    ▸ refl
    ▸ record { waits = refl; cpu = _; here = refl; free = refl; untaken = refl }
    ▸ record { at = _; byte = _; is_due = refl }
    ▸ refl
    ▸ record { waits = refl; cpu = _; here = refl; free = refl; untaken = refl }
    ▸ refl
    ▸ record { turn = refl; cpu = _; here = refl; is = refl }
    ▸ record { turn = record { turn = refl; cpu = _; here = refl; is = refl }; fetch = record { inside = omega arith; told = inl (_, refl) }; stood = stood_after _ _ _ _ (0xc3 ∷ []) 6 (omega arith) (omega arith) (refl, tt) }
    ▸ record { turn = refl; cpu = _; here = refl; is = refl }
    ▸ record { turn = refl; cpu = _; here = refl; is = refl }
    ▸ tt

-- and the script is finished after the last
pub legal : IsLegal m (first m script) journal
unfolding spell read does
legal = record { so_far = legal_so_far; finished = record { steps = refl; closed = refl } }

-- the site then holds RET and its filling
pub held : code_at m.base (held_text m (after m (first m script) journal)) 0x401008 5 ≡ 0xc3 ∷ 0xcc ∷ 0xcc ∷ 0xcc ∷ 0xcc ∷ []
unfolding spell read does
held = refl
