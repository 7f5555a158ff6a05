-- Every event that may come in a state that a legal prefix leads to has a line in a journal.
use Rattle.std.proofs.Common.{◌≡◌, ◌∙◌, ◌<◌, ◌≤◌, ℕ, Bool, true, false, List, [], ◌∷◌, length, All, Option, Some, None, slice_get, refl, sym, ap, subst, arith}
use Rattle.std.proofs.lemmas.List.{length-map}
use Rattle.std.specs.Option.{ForSome}
use Rattle.std.proofs.lemmas.List.Elements.{All-cons}
use Rattle.std.proofs.lemmas.Option.{none-some, same_Some, slice_get_within}
use Rattle.std.proofs.lemmas.Slice.Eq.{bytes_eq-Decides}
use Rattle.insn_forms.specs.declared.forms.Form.{Form}
use Rattle.insn_forms.specs.declared.forms.Form.TheVariants.{Nop2, Nop5, Jmp8, Jmp32, Call, Ret}
use Rattle.insn_forms.proofs.Spellings.{spell-bytes}
use Rattle.x64_subset.specs.Whole.{insn_of, name}
use Rattle.x64_subset.proofs.Lawful.{forms_are_instructions}
use Rattle.x64_subset.proofs.Listed.{length-spells}
use Rattle.module_image.specs.Module.{Module}
use Rattle.poke_batch.specs.Walk.{Walk, due_of}
use Rattle.run_journal.specs.declared.event.Event.{Event}
use Rattle.run_journal.specs.declared.event.Event.TheVariants.{Begin, Write, Request, Take, Return, Plain, At, Handle, Tick}
use Rattle.run_journal.specs.Laws.{HasLine, IsFetched}
use Rattle.script_text.specs.declared.script.ScriptStep.{ScriptStep}
use Rattle.switching.specs.Journal.{IsFinished, after}
use Rattle.switching.specs.Laws.{IsReached}
use Rattle.switching.specs.May.{May, has_turns, is_begun_next}
use Rattle.switching.specs.State.{Cpu, State, first, starting}
use Rattle.switching.specs.Switching.{NeedsAt, Switching, form_of, is_breakpoint, pass_of}
use Rattle.switching.proofs.ChoiceMarks.{cpus_after}
use Rattle.switching.proofs.Reached.{reached}
use Rattle.switching.proofs.Theorem.{follows}

-- ---- the bytes of a fetch

abbrev IsByte : ℕ → Type 0
IsByte byte = byte < 256

one_byte : (a : ℕ) → a < 256 → All IsByte (a ∷ [])
one_byte a fits = All-cons IsByte a [] fits (λ k d below. absurd (omega arith))

named_bytes : (form : Form) (at : ℕ) (bytes : List ℕ) → name form at ≡ Some bytes → All IsByte bytes
named_bytes Nop2 at bytes named = spell-bytes Nop2 at bytes named
named_bytes Nop5 at bytes named = spell-bytes Nop5 at bytes named
named_bytes (Jmp8 target) at bytes named = spell-bytes (Jmp8 target) at bytes named
named_bytes (Jmp32 target) at bytes named = spell-bytes (Jmp32 target) at bytes named
named_bytes (Call target) at bytes named = spell-bytes (Call target) at bytes named
named_bytes Ret at bytes named = subst (All IsByte) (same_Some _ _ named) (one_byte 0xc3 (omega arith))

named_fetched : (form : Form) (at : ℕ) (bytes : List ℕ) → name form at ≡ Some bytes → IsFetched bytes
named_fetched form at bytes named =
    let long = length-spells (insn_of form) at bytes (forms_are_instructions at form bytes named).0 in
    record { some = long.0; few = long.1; each = named_bytes form at bytes named }

trap_fetched : (bytes : List ℕ) → 0xcc ∷ [] ≡ bytes → IsFetched bytes
trap_fetched bytes is =
    subst IsFetched is (record { some = omega arith; few = omega arith; each = one_byte 0xcc (omega arith) })

-- a breakpoint, or the name of a form
needed_fetched : (trap : Bool) (m : Module) (t : Switching) (c : ℕ) (bytes : List ℕ) → is_breakpoint bytes ≡ trap → NeedsAt trap m t c bytes → IsFetched bytes
needed_fetched true m t c bytes is needs = trap_fetched bytes (sym ((bytes_eq-Decides bytes (0xcc ∷ [])).0 is))
needed_fetched false m t c bytes is needs =
    named_fetched (form_of (pass_of t needs.running.proc.ip bytes)) needs.running.proc.ip bytes needs.named

may_fetched : (m : Module) (s : State) (c : ℕ) (bytes : _) → IsReached m s → May m s (At c bytes) → IsFetched bytes.items
may_fetched m s c bytes r may =
    let t = reached m s r in
    needed_fetched (is_breakpoint bytes.items) m t.0 c bytes.items refl (follows m s t.0 (At c bytes) r.accepted t.1 may).needs

-- ---- the number of a processor

cpu_few : (m : Module) (s : State) (c : ℕ) (p : Cpu) → IsReached m s → slice_get s.cpus c ≡ Some p → c ≤ 15
cpu_few m s c p r here =
    let few : length r.script.entries ≤ 16 = r.is_script.limits.few_cpus in
    let started : length (first m r.script).cpus ≡ length r.script.entries = length-map r.script.entries starting in
    let same : length (after m (first m r.script) r.events).cpus ≡ length (first m r.script).cpus = cpus_after m (first m r.script) r.events in
    let now : length s.cpus ≡ length (after m (first m r.script) r.events).cpus = ap (λ (t : State). length t.cpus) r.is in
    let within : c < length s.cpus = slice_get_within s.cpus c p here in
    omega (arith, few, started, same, now, within)

-- ---- events

nothing : {T : Type 0} (P : T → Type 0) → ForSome {T = T} None P
nothing P x is = absurd (none-some x is)

only : {T : Type 0} (P : T → Type 0) (value : T) → P value → ForSome (Some value) P
only P value holds x is = subst P (same_Some value x is) holds

abbrev IsFew : ℕ → Type 0
IsFew cpu = cpu ≤ 15

-- the line of an event that may come
pub may_has_line : (m : Module) (s : State) (e : Event) → IsReached m s → May m s e → HasLine e
may_has_line m s Begin r may = record { cpu = nothing IsFew; bytes = nothing IsFetched }
may_has_line m s Write r may = record { cpu = nothing IsFew; bytes = nothing IsFetched }
may_has_line m s Request r may = record { cpu = nothing IsFew; bytes = nothing IsFetched }
may_has_line m s (Take c) r may =
    record { cpu = only IsFew c (cpu_few m s c may.cpu r may.here); bytes = nothing IsFetched }
may_has_line m s Return r may = record { cpu = nothing IsFew; bytes = nothing IsFetched }
may_has_line m s (Plain c) r may =
    record { cpu = only IsFew c (cpu_few m s c may.cpu r may.here); bytes = nothing IsFetched }
may_has_line m s (At c bytes) r may =
    record {
      cpu = only IsFew c (cpu_few m s c may.turn.cpu r may.turn.here);
      bytes = only IsFetched bytes.items (may_fetched m s c bytes r may);
    }
may_has_line m s (Handle c) r may =
    record { cpu = only IsFew c (cpu_few m s c may.cpu r may.here); bytes = nothing IsFetched }
may_has_line m s (Tick c) r may =
    record { cpu = only IsFew c (cpu_few m s c may.cpu r may.here); bytes = nothing IsFetched }

-- ---- no event may come once the script is finished

no_turns : (s : State) → IsFinished s → has_turns s.opened s.steps ≡ true → ⊥
no_turns s done turns =
    let none : has_turns None [] ≡ true =
    ap (λ (steps : List ScriptStep). has_turns None steps) (sym done.steps)
    ∙ ap (λ (opened : Option Walk). has_turns opened s.steps) (sym done.closed)
    ∙ turns in
    absurd (cc)

no_due : (s : State) (d : _) → IsFinished s → due_of s.opened ≡ d → due_of None ≡ d
no_due s d done is = ap due_of (sym done.closed) ∙ is

pub finished_none : (m : Module) (s : State) (e : Event) → IsFinished s → May m s e → ⊥
finished_none m s Begin done may =
    let none : is_begun_next [] ≡ true = ap is_begun_next (sym done.steps) ∙ may.next in
    absurd (cc)
finished_none m s Write done may = (let none = no_due s _ done may.is_due in absurd (cc))
finished_none m s Request done may = (let none = no_due s _ done may in absurd (cc))
finished_none m s (Take c) done may = (let none = no_due s _ done may.waits in absurd (cc))
finished_none m s Return done may = (let none = no_due s _ done may in absurd (cc))
finished_none m s (Plain c) done may = no_turns s done may.turn
finished_none m s (At c bytes) done may = no_turns s done may.turn.turn
finished_none m s (Handle c) done may = no_turns s done may.turn
finished_none m s (Tick c) done may = no_turns s done may.turn
