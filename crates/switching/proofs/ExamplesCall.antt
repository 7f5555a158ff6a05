-- A worked example: the target of a static call changes. Between its rounds no mix of the old and the new displacement is fetched.
use Rattle.std.proofs.Common.{◌≡◌, ◌≢◌, ◌≤◌, ℕ, zero, suc, false, List, [], ◌∷◌, Ok, refl, arith}
use Rattle.std.specs.Prelude.{codes}
use Rattle.insn_forms.specs.History.{byte}
use Rattle.insn_forms.specs.Spelling.{spell}
use Rattle.module_parts.specs.declared.command.Command.TheVariants.{Target}
use Rattle.module_parts.specs.declared.key.KeyClass.TheVariants.{Call as CallKey}
use Rattle.module_parts.specs.declared.site.SiteKind.TheVariants.{Call}
use Rattle.module_parts.specs.declared.unit.Unit.TheVariants.{Nothing, Plain as Insn, Site}
use Rattle.module_image.specs.Module.{Module}
use Rattle.run_journal.specs.declared.event.Event.{Event}
use Rattle.run_journal.specs.declared.event.Event.TheVariants.{Begin, Request, Take, Write}
use Rattle.script_text.specs.declared.script.ScriptStep.TheVariants.{Run, Update}
use Rattle.script_text.specs.Script.{ScriptValue, script as read_script}
use Rattle.x64_subset.specs.declared.insn.Insn.TheVariants.{MovImm, Out, Ret}
use Rattle.x64_subset.specs.Reading.{read}
use Rattle.switching.specs.Journal.{IsLegalSoFar, after, lines}
use Rattle.switching.specs.May.{May}
use Rattle.switching.specs.Said.{Opens}
use Rattle.switching.specs.State.{first, start}
use Rattle.switching.specs.Switching as switching
use Rattle.switching.proofs.ExamplesCommon.{◌▸◌, fetches, not_fetched, units_of}

-- a function that calls the key's function, at first that at 0x401008, and then puts what it got to port 0x10
abbrev pub m : Module
m = record {
  base = 0x401000;
  text = 0xe8 ∷ 0x03 ∷ 0x00 ∷ 0x00 ∷ 0x00 ∷ 0xe6 ∷ 0x10 ∷ 0xc3 ∷ 0xb8 ∷ 0x01 ∷ 0x00 ∷ 0x00 ∷ 0x00 ∷ 0xc3 ∷ 0xb8 ∷ 0x02 ∷ 0x00 ∷ 0x00 ∷ 0x00 ∷ 0xc3 ∷ [];
  units = Site 0 ∷ Nothing ∷ Nothing ∷ Nothing ∷ Nothing ∷ Insn (Out 0x10) 2 ∷ Nothing ∷ Insn Ret 1 ∷ Insn (MovImm 0 1) 5 ∷ Nothing ∷ Nothing ∷ Nothing ∷ Nothing ∷ Insn Ret 1 ∷ Insn (MovImm 0 2) 5 ∷ Nothing ∷ Nothing ∷ Nothing ∷ Nothing ∷ Insn Ret 1 ∷ [];
  sites = record { at = 0x401000; len = 5; kind = Call 0; foreign = false } ∷ [];
  keys = record { class = CallKey; at = 0x404000; start = 0x401008 } ∷ [];
  functions = (codes "f", 0x401000) ∷ (codes "a", 0x401008) ∷ (codes "b", 0x40100e) ∷ [];
  jump_keys = [];
  call_keys = (codes "ck", 0) ∷ [];
}

-- its units are what stands there
pub units_are : units_of m ≡ m.units
unfolding read
units_are = refl

-- what is done
abbrev pub script : ScriptValue
script = record { entries = 0x401000 ∷ []; steps = Update (Target 0 0x40100e) ∷ Run 1 ∷ [] }

-- that is this text
pub script_is : read_script m (codes "cpu f\ncall ck b\nrun 1\n") ≡ Ok script
unfolding read_script
script_is = refl

-- the call of b, whose bytes are not all there yet
abbrev pub new_call : List ℕ
new_call = 0xe8 ∷ 0x09 ∷ 0x00 ∷ 0x00 ∷ 0x00 ∷ []

-- the breakpoint is written
abbrev pub stopped : List Event
stopped = Begin ∷ Write ∷ []

-- both events may come
pub legal_stopped : IsLegalSoFar m (first m script) stopped
unfolding spell
legal_stopped =
    record { closed = refl; next = refl }
    ▸ record { at = _; byte = _; is_due = refl }
    ▸ tt

-- the displacement's first byte was never the new one, so the new call may not come
pub not_yet : May m (after m (first m script) stopped) (fetches 0 new_call) → ⊥
unfolding spell
not_yet = not_fetched m (after m (first m script) stopped) 0 new_call _ 1 _ refl refl never
  where
    never : (n : ℕ) → 0 ≤ n → n ≤ 1 → byte (start m) (record { at = 0x401000; byte = 0xcc } ∷ []) n 0x401001 ≢ 0x09
    never zero from to is = let same : ◌≡◌ {A = ℕ} 0x03 0x09 = is in absurd (omega arith)
    never (suc zero) from to is = let same : ◌≡◌ {A = ℕ} 0x03 0x09 = is in absurd (omega arith)
    never (suc (suc n)) from to is = absurd (omega arith)

-- the displacement is being written: who has serialised finds the breakpoint before it
abbrev pub between : List Event
between = Begin ∷ Write ∷ Request ∷ Take 0 ∷ Write ∷ []

-- the five events may come
pub legal_between : IsLegalSoFar m (first m script) between
unfolding spell
legal_between =
    record { closed = refl; next = refl }
    ▸ record { at = _; byte = _; is_due = refl }
    ▸ refl
    ▸ record { waits = refl; cpu = _; here = refl; free = refl; untaken = refl }
    ▸ record { at = _; byte = _; is_due = refl }
    ▸ tt

-- so the new call may not come either
pub not_alone : May m (after m (first m script) between) (fetches 0 new_call) → ⊥
unfolding spell
not_alone = not_fetched m (after m (first m script) between) 0 new_call _ 0 _ refl refl never
  where
    never : (n : ℕ) → 1 ≤ n → n ≤ 2 → byte (start m) (record { at = 0x401000; byte = 0xcc } ∷ record { at = 0x401001; byte = 0x09 } ∷ []) n 0x401000 ≢ 0xe8
    never zero from to is = absurd (omega arith)
    never (suc zero) from to is = let same : ◌≡◌ {A = ℕ} 0xcc 0xe8 = is in absurd (omega arith)
    never (suc (suc zero)) from to is = let same : ◌≡◌ {A = ℕ} 0xcc 0xe8 = is in absurd (omega arith)
    never (suc (suc (suc n))) from to is = absurd (omega arith)

-- so far the update is open, and nobody has passed the site
pub shows : lines m (first m script) between ≡ Opens 1 1 ∷ []
unfolding spell
shows = refl

-- on the switching machine too
pub shows_switched : switching.lines m (switching.first m script) between ≡ Opens 1 1 ∷ []
shows_switched = refl
