-- A worked example: a processor in a loop hits the breakpoint of an update. Its handler does the new jump whole, and serialises as
-- it returns; so the processor can't do the old instruction any more, though the update is still open.
use Rattle.std.proofs.Common.{◌≡◌, ◌≢◌, ◌≤◌, ℕ, zero, suc, false, List, [], ◌∷◌, Ok, inl, refl, arith}
use Rattle.std.specs.Prelude.{codes}
use Rattle.insn_forms.specs.History.{byte}
use Rattle.insn_forms.specs.Spelling.{spell}
use Rattle.module_parts.specs.declared.command.Command.TheVariants.{Inc as IncKey}
use Rattle.module_parts.specs.declared.key.KeyClass.TheVariants.{Jump as JumpKey}
use Rattle.module_parts.specs.declared.site.SiteKind.TheVariants.{Jump}
use Rattle.module_parts.specs.declared.unit.Unit.TheVariants.{Nothing, Plain as Insn, Site}
use Rattle.module_image.specs.Module.{Module}
use Rattle.run_journal.specs.declared.event.Event.{Event}
use Rattle.run_journal.specs.declared.event.Event.TheVariants.{Begin, Handle, Plain, Write}
use Rattle.script_text.specs.declared.script.ScriptStep.TheVariants.{Run, Update}
use Rattle.script_text.specs.Script.{ScriptValue, script as read_script}
use Rattle.x64_subset.specs.declared.insn.Insn.TheVariants.{Dec, Inc, Jcc8, Jmp32, Jmp8, MovImm, Ret}
use Rattle.x64_subset.specs.Effect.{does}
use Rattle.x64_subset.specs.Reading.{read}
use Rattle.x64_subset.specs.Whole.{whole}
use Rattle.switching.specs.Journal.{IsLegalSoFar, after, lines}
use Rattle.switching.specs.Laws.{Switches}
use Rattle.switching.specs.May.{May}
use Rattle.switching.specs.Said.{TraceLine, Opens, Passes}
use Rattle.switching.specs.State.{first, start}
use Rattle.switching.specs.Switching as switching
use Rattle.switching.proofs.ExamplesCommon.{◌▸◌, fetches, not_fetched, stood_after, units_of}

-- a loop of three rounds: at its head a site that is a NOP or a jump to 0x40100f, where EAX is counted up
abbrev pub m : Module
m = record {
  base = 0x401000;
  text = 0xb9 ∷ 0x03 ∷ 0x00 ∷ 0x00 ∷ 0x00 ∷ 0x0f ∷ 0x1f ∷ 0x44 ∷ 0x00 ∷ 0x00 ∷ 0xff ∷ 0xc9 ∷ 0x75 ∷ 0xf7 ∷ 0xc3 ∷ 0xff ∷ 0xc0 ∷ 0xeb ∷ 0xf7 ∷ [];
  units = Insn (MovImm 1 3) 5 ∷ Nothing ∷ Nothing ∷ Nothing ∷ Nothing ∷ Site 0 ∷ Nothing ∷ Nothing ∷ Nothing ∷ Nothing ∷ Insn (Dec 1) 2 ∷ Nothing ∷ Insn (Jcc8 5 0x401005) 2 ∷ Nothing ∷ Insn Ret 1 ∷ Insn (Inc 0) 2 ∷ Nothing ∷ Insn (Jmp8 0x40100a) 2 ∷ Nothing ∷ [];
  sites = record { at = 0x401005; len = 5; kind = Jump 0x40100f 0 false; foreign = false } ∷ [];
  keys = record { class = JumpKey; at = 0x404000; start = 0 } ∷ [];
  functions = (codes "f", 0x401000) ∷ [];
  jump_keys = (codes "k", 0) ∷ [];
  call_keys = [];
}

-- its units are what stands there
pub units_are : units_of m ≡ m.units
unfolding read
units_are = refl

-- what is done
abbrev pub script : ScriptValue
script = record { entries = 0x401000 ∷ []; steps = Run 1 ∷ Update (IncKey 0) ∷ Run 1 ∷ [] }

-- that is this text
pub script_is : read_script m (codes "cpu f\nrun 1\ninc k\nrun 1\n") ≡ Ok script
unfolding read_script
script_is = refl

-- the breakpoint is hit, its handler runs, and the loop comes back to the site
abbrev pub journal : List Event
journal = Plain 0 ∷ Begin ∷ Write ∷ fetches 0 (0xcc ∷ []) ∷ Handle 0 ∷ Plain 0 ∷ Plain 0 ∷ Plain 0 ∷ Plain 0 ∷ []

-- the handler did the jump
abbrev pub trace : List TraceLine
trace = Opens 1 1 ∷ Passes 0 0x401005 (Jmp32 0x40100f) ∷ []

-- the byte machine shows it
pub shows : lines m (first m script) journal ≡ trace
unfolding spell read does whole
shows = refl

-- and so does the switching machine
pub shows_switched : switching.lines m (switching.first m script) journal ≡ trace
unfolding spell does whole
shows_switched = refl

-- the switching machine is defined all along
defined : switching.IsDefined m (switching.first m script) journal
unfolding spell does whole
defined =
    record { running = record { proc = _; here = refl; runs = refl }; insn = _; len = _; is = refl; no_site = refl }
    ▸ record { closed = refl; step = _; rest = _; is = refl }
    ▸ tt
    ▸ tt
    ▸ record { running = record { proc = _; here = refl; runs = refl }; change = _; is = refl }
    ▸ record { running = record { proc = _; here = refl; runs = refl }; insn = _; len = _; is = refl; no_site = refl }
    ▸ record { running = record { proc = _; here = refl; runs = refl }; insn = _; len = _; is = refl; no_site = refl }
    ▸ record { running = record { proc = _; here = refl; runs = refl }; insn = _; len = _; is = refl; no_site = refl }
    ▸ record { running = record { proc = _; here = refl; runs = refl }; insn = _; len = _; is = refl; no_site = refl }
    ▸ tt

-- and shows the same
pub switches : Switches m script journal
unfolding spell read does whole
switches = record { defined = defined; same = refl }

-- each event may come
pub legal_so_far : IsLegalSoFar m (first m script) journal
unfolding spell read does whole
legal_so_far =
    record { turn = refl; cpu = _; here = refl; is = refl }
    ▸ record { closed = refl; next = refl }
    ▸ record { at = _; byte = _; is_due = refl }
    ▸ record { turn = record { turn = refl; cpu = _; here = refl; is = refl }; fetch = record { inside = omega arith; told = inl (_, refl) }; stood = stood_after _ _ _ _ (0xcc ∷ []) 1 (omega arith) (omega arith) (refl, tt) }
    ▸ record { turn = refl; cpu = _; here = refl; is = refl }
    ▸ record { turn = refl; cpu = _; here = refl; is = refl }
    ▸ record { turn = refl; cpu = _; here = refl; is = refl }
    ▸ record { turn = refl; cpu = _; here = refl; is = refl }
    ▸ record { turn = refl; cpu = _; here = refl; is = refl }
    ▸ tt

-- back at the site, the NOP may not come: the handler's return serialised
pub no_longer : May m (after m (first m script) journal) (fetches 0 (0x0f ∷ 0x1f ∷ 0x44 ∷ 0x00 ∷ 0x00 ∷ [])) → ⊥
unfolding spell read does whole
no_longer =
    not_fetched m (after m (first m script) journal) 0 (0x0f ∷ 0x1f ∷ 0x44 ∷ 0x00 ∷ 0x00 ∷ []) _ 0 _ refl refl never
  where
    never : (n : ℕ) → 1 ≤ n → n ≤ 1 → byte (start m) (record { at = 0x401005; byte = 0xcc } ∷ []) n 0x401005 ≢ 0x0f
    never zero from to is = absurd (omega arith)
    never (suc zero) from to is = let same : ◌≡◌ {A = ℕ} 0xcc 0x0f = is in absurd (omega arith)
    never (suc (suc n)) from to is = absurd (omega arith)
