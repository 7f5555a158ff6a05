-- A worked example: a jump is switched on while a processor fetches a byte that is stale, and so does the old instruction whole.
-- After it has serialised it can't do so any more.
use Rattle.std.proofs.Common.{◌≡◌, ◌≢◌, ◌≤◌, ℕ, zero, suc, false, List, [], ◌∷◌, Ok, inl, refl, arith}
use Rattle.module_parts.specs.declared.command.Command.TheVariants.{Inc}
use Rattle.module_parts.specs.declared.key.KeyClass.TheVariants.{Jump as JumpKey}
use Rattle.module_parts.specs.declared.site.SiteKind.TheVariants.{Jump}
use Rattle.module_parts.specs.declared.unit.Unit.TheVariants.{Nothing, Plain as Insn, Site}
use Rattle.module_image.specs.Held.{first_states}
use Rattle.module_image.specs.Module.{Module}
use Rattle.run_journal.specs.declared.event.Event.{Event}
use Rattle.run_journal.specs.declared.event.Event.TheVariants.{Begin, Write, Request, Take, Return, Plain}
use Rattle.script_text.specs.declared.script.ScriptStep.TheVariants.{Update, Run}
use Rattle.script_text.specs.Script.{ScriptValue, script as read_script}
use Rattle.x64_subset.specs.declared.insn.Insn.TheVariants.{Int3, MovImm, Nop, Out, Ret}
use Rattle.x64_subset.specs.declared.proc.Life.TheVariants.{Done}
use Rattle.std.specs.Prelude.{codes}
use Rattle.insn_forms.specs.History.{byte}
use Rattle.insn_forms.specs.Spelling.{spell}
use Rattle.key_state.specs.Outcome.{Returns, outcomes}
use Rattle.x64_subset.specs.Effect.{does}
use Rattle.x64_subset.specs.Reading.{read}
use Rattle.x64_subset.specs.Whole.{whole}
use Rattle.switching.specs.Journal.{IsLegal, IsLegalSoFar, after, lines}
use Rattle.script_text.specs.Commands.{commands}
use Rattle.switching.specs.Laws.{Switches, ends, numbered}
use Rattle.switching.specs.May.{May}
use Rattle.switching.specs.Said.{TraceLine, Opens, Ends, Passes, Outs, Stops}
use Rattle.switching.specs.State.{first, start}
use Rattle.switching.specs.Switching as switching
use Rattle.switching.proofs.ExamplesCommon.{◌▸◌, fetches, not_fetched, stood_after, units_of}

-- a function: a site that is a NOP or a jump to 0x40100e; then 1 goes to port 0x10, and at 0x40100e 2 does
abbrev pub m : Module
m = record {
  base = 0x401000;
  text = 0x0f ∷ 0x1f ∷ 0x44 ∷ 0x00 ∷ 0x00 ∷ 0xb8 ∷ 0x01 ∷ 0x00 ∷ 0x00 ∷ 0x00 ∷ 0xe6 ∷ 0x10 ∷ 0xc3 ∷ 0xcc ∷ 0xb8 ∷ 0x02 ∷ 0x00 ∷ 0x00 ∷ 0x00 ∷ 0xe6 ∷ 0x10 ∷ 0xc3 ∷ [];
  units = Site 0 ∷ Nothing ∷ Nothing ∷ Nothing ∷ Nothing ∷ Insn (MovImm 0 1) 5 ∷ Nothing ∷ Nothing ∷ Nothing ∷ Nothing ∷ Insn (Out 0x10) 2 ∷ Nothing ∷ Insn Ret 1 ∷ Insn Int3 1 ∷ Insn (MovImm 0 2) 5 ∷ Nothing ∷ Nothing ∷ Nothing ∷ Nothing ∷ Insn (Out 0x10) 2 ∷ Nothing ∷ Insn Ret 1 ∷ [];
  sites = record { at = 0x401000; len = 5; kind = Jump 0x40100e 0 false; foreign = false } ∷ [];
  keys = record { class = JumpKey; at = 0x404000; start = 0 } ∷ [];
  functions = (codes "f", 0x401000) ∷ [];
  jump_keys = (codes "k", 0) ∷ [];
  call_keys = [];
}

-- its units are what stands there
pub units_are : units_of m ≡ m.units
unfolding read
units_are = refl

-- what is done
abbrev pub script : ScriptValue
script = record { entries = 0x401000 ∷ []; steps = Update (Inc 0) ∷ Run 3 ∷ [] }

-- that is this text
pub script_is : read_script m (codes "cpu f\ninc k\nrun 3\n") ≡ Ok script
unfolding read_script
script_is = refl

-- the NOP that stood there
abbrev pub old_nop : List ℕ
old_nop = 0x0f ∷ 0x1f ∷ 0x44 ∷ 0x00 ∷ 0x00 ∷ []

-- the breakpoint has been written, but the processor still fetches the byte that was there before
abbrev pub journal : List Event
journal = Begin ∷ Write ∷ fetches 0 old_nop ∷ Request ∷ Take 0 ∷ Write ∷ Write ∷ Write ∷ Write ∷ Request ∷ Take 0 ∷ Write ∷ Request ∷ Take 0 ∷ Return ∷ Plain 0 ∷ Plain 0 ∷ Plain 0 ∷ []

-- so the NOP is done whole, and the jump afterwards isn't reached
abbrev pub trace : List TraceLine
trace = Opens 1 1 ∷ Passes 0 0x401000 (Nop 5) ∷ Ends 1 (Returns 1) ∷ Outs 0 0x10 1 ∷ Stops 0 Done ∷ []

-- the byte machine shows it
pub shows : lines m (first m script) journal ≡ trace
unfolding spell read does
shows = refl

-- and so does the switching machine
pub shows_switched : switching.lines m (switching.first m script) journal ≡ trace
unfolding spell does whole
shows_switched = refl

-- the switching machine is defined all along
defined : switching.IsDefined m (switching.first m script) journal
unfolding spell does whole
defined =
    record { closed = refl; step = _; rest = _; is = refl }
    ▸ tt
    ▸ record { running = record { proc = _; here = refl; runs = refl }; site = _; is = refl; named = refl; in_order = refl }
    ▸ tt
    ▸ tt
    ▸ tt
    ▸ tt
    ▸ tt
    ▸ tt
    ▸ tt
    ▸ tt
    ▸ tt
    ▸ tt
    ▸ tt
    ▸ record { changes = _; is = refl }
    ▸ record { running = record { proc = _; here = refl; runs = refl }; insn = _; len = _; is = refl; no_site = refl }
    ▸ record { running = record { proc = _; here = refl; runs = refl }; insn = _; len = _; is = refl; no_site = refl }
    ▸ record { running = record { proc = _; here = refl; runs = refl }; insn = _; len = _; is = refl; no_site = refl }
    ▸ tt

-- and shows the same
pub switches : Switches m script journal
unfolding spell read does whole
switches = record { defined = defined; same = refl }

-- at the end it is done
pub done : switching.IsDone (switching.after m (switching.first m script) journal)
unfolding spell does whole
done = record { steps = refl; closed = refl }

-- its ending is the outcome of the command
pub ending_is_outcome : ends trace ≡ numbered 1 (outcomes m (first_states m) (commands script.steps))
unfolding spell
ending_is_outcome = refl

-- each event may come
pub legal_so_far : IsLegalSoFar m (first m script) journal
unfolding spell read does
legal_so_far =
    record { closed = refl; next = refl }
    ▸ record { at = _; byte = _; is_due = refl }
    ▸ record { turn = record { turn = refl; cpu = _; here = refl; is = refl }; fetch = record { inside = omega arith; told = inl (_, refl) }; stood = stood_after _ _ _ _ old_nop 0 (omega arith) (omega arith) (refl, (refl, (refl, (refl, (refl, tt))))) }
    ▸ refl
    ▸ record { waits = refl; cpu = _; here = refl; free = refl; untaken = refl }
    ▸ record { at = _; byte = _; is_due = refl }
    ▸ record { at = _; byte = _; is_due = refl }
    ▸ record { at = _; byte = _; is_due = refl }
    ▸ record { at = _; byte = _; is_due = refl }
    ▸ refl
    ▸ record { waits = refl; cpu = _; here = refl; free = refl; untaken = refl }
    ▸ record { at = _; byte = _; is_due = refl }
    ▸ refl
    ▸ record { waits = refl; cpu = _; here = refl; free = refl; untaken = refl }
    ▸ refl
    ▸ record { turn = refl; cpu = _; here = refl; is = refl }
    ▸ record { turn = refl; cpu = _; here = refl; is = refl }
    ▸ record { turn = refl; cpu = _; here = refl; is = refl }
    ▸ tt

-- and the script is finished after the last
pub legal : IsLegal m (first m script) journal
unfolding spell read does
legal = record { so_far = legal_so_far; finished = record { steps = refl; closed = refl } }

-- where the processor serialises before, the NOP's first byte may not come any more
abbrev pub serialised : List Event
serialised = Begin ∷ Write ∷ Request ∷ Take 0 ∷ []

-- the four events may come
pub legal_serialised : IsLegalSoFar m (first m script) serialised
unfolding spell
legal_serialised =
    record { closed = refl; next = refl }
    ▸ record { at = _; byte = _; is_due = refl }
    ▸ refl
    ▸ record { waits = refl; cpu = _; here = refl; free = refl; untaken = refl }
    ▸ tt

-- and the fetch may not
pub no_longer : May m (after m (first m script) serialised) (fetches 0 old_nop) → ⊥
unfolding spell
no_longer = not_fetched m (after m (first m script) serialised) 0 old_nop _ 0 _ refl refl never
  where
    never : (n : ℕ) → 1 ≤ n → n ≤ 1 → byte (start m) (record { at = 0x401000; byte = 0xcc } ∷ []) n 0x401000 ≢ 0x0f
    never zero from to is = absurd (omega arith)
    never (suc zero) from to is = let same : ◌≡◌ {A = ℕ} 0xcc 0x0f = is in absurd (omega arith)
    never (suc (suc n)) from to is = absurd (omega arith)

-- they show that the update is open
pub shows_serialised : lines m (first m script) serialised ≡ Opens 1 1 ∷ []
unfolding spell
shows_serialised = refl
