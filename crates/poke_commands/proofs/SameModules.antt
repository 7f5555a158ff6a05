-- Two modules that are accepted of one file run alike: they are the same but for how their names are kept.
use Rattle.std.proofs.Common.{◌≡◌, ◌∙◌, ◌<◌, ◌≤◌, ◌+◌, ◌-◌, ◌⊎◌, inl, inr, ℕ, false, List, [], ◌∷◌, length, get_or, Option, Some, option_map, Result, Ok, Err, refl, sym, ap, subst, arith, slice_get, slice_index_or}
use Rattle.std.specs.List.{flat_map, range_with_len}
use Rattle.std.specs.Option.{unwrap_or}
use Rattle.std.proofs.lemmas.Bool.{cases_lt}
use Rattle.std.proofs.lemmas.List.{ext_get_or}
use Rattle.std.proofs.lemmas.Option.{same_Some, slice_get-get_or}
use Rattle.elf_module.specs.Elf.{Elf}
use Rattle.insn_forms.specs.declared.forms.Change.{Change}
use Rattle.insn_forms.specs.declared.forms.Form.{Form}
use Rattle.key_state.specs.After.{after as keys_after}
use Rattle.key_state.specs.declared.count.CountRefused.{CountRefused}
use Rattle.key_state.specs.Changes.{change_at, change_of, changes}
use Rattle.key_state.specs.Outcome.{Ending}
use Rattle.module_parts.specs.declared.site.Site.{Site}
use Rattle.module_parts.specs.declared.unit.Unit.{Unit as TextUnit}
use Rattle.module_parts.specs.declared.unit.Unit.TheVariants.{Nothing}
use Rattle.module_image.specs.Layout.{IsSwept, Layout, layout, unit_len}
use Rattle.module_image.specs.Module.{IsModule, Module, States, wants}
use Rattle.module_names.specs.Names.{Named, tracer_name, value_of}
use Rattle.module_image.specs.Wants.{state_of, wanted}
use Rattle.run_journal.specs.declared.event.Event.{Event}
use Rattle.run_journal.specs.declared.event.Event.TheVariants.{Begin, Write, Request, Take, Return, Plain, At, Handle, Tick}
use Rattle.script_text.specs.declared.script.ScriptStep.{ScriptStep}
use Rattle.script_text.specs.declared.script.ScriptStep.TheVariants.{Update, Run, Drop}
use Rattle.script_text.specs.Script.{ScriptValue}
use Rattle.switching.specs.Beginning.{Beginning, beginning_to, clash_of_bytes, unless}
use Rattle.switching.specs.Journal.{IsFinished, IsLegalSoFar, after}
use Rattle.switching.specs.May.{May}
use Rattle.switching.specs.Next.{begun_by, found, next}
use Rattle.switching.specs.State.{State, first, held_after}
use Rattle.switching.proofs.Holding.{same_function}
use Rattle.recorded_run.specs.Replaying.{IsRefusedAt, IsReplayed}
use Rattle.recorded_run.proofs.Replays.{legal_journals_are_replayed, replays_are_one}
use Rattle.run_journal.specs.Spelling.{journal}
use Rattle.script_text.specs.Laws.{IsScriptOf}
use Rattle.module_image.specs.Module.{IsAccepted}

-- ---- how the text of a file is made up is told by the file

none_there : (t : Layout) (units others : List TextUnit) (k : ℕ) (unit other : TextUnit) → IsSwept t units → IsSwept t others → slice_get units k ≡ Some unit → slice_get others k ≡ Some other → 0 < unit_len t unit → unit ≡ other
none_there t units others k unit other swept too here there some =
    let start = swept.sound k unit here some in
    let noted = (too.complete (t.base + k) start.0).2 in
    let back : t.base + k - t.base ≡ k = omega arith in
    let same : noted.unit ≡ other = same_Some _ _ (sym noted.get ∙ ap (λ (i : ℕ). slice_get others i) back ∙ there) in
    let found = too.sound k noted.unit (ap (λ (i : ℕ). slice_get others i) (sym back) ∙ noted.get) noted.some in
    sym start.1 ∙ found.1 ∙ same

unit_one : (t : Layout) (units others : List TextUnit) (k : ℕ) (unit other : TextUnit) → IsSwept t units → IsSwept t others → slice_get units k ≡ Some unit → slice_get others k ≡ Some other → unit ≡ other
unit_one t units others k unit other swept too here there = by (cases_lt 0 (unit_len t unit)) (cases_lt 0 (unit_len t other))
  where
    by : (0 < unit_len t unit) ⊎ (unit_len t unit ≤ 0) → (0 < unit_len t other) ⊎ (unit_len t other ≤ 0) → unit ≡ other
    by (inl some) rest = none_there t units others k unit other swept too here there some
    by (inr none) (inl some) = sym (none_there t others units k other unit too swept there here some)
    by (inr none) (inr no_more) =
        swept.blank k unit here (omega (arith, none)) ∙ sym (too.blank k other there (omega (arith, no_more)))

units_one : (t : Layout) (units others : List TextUnit) → IsSwept t units → IsSwept t others → units ≡ others
units_one t units others swept too =
    let long = swept.same_length in
    let other_long = too.same_length in
    ext_get_or Nothing units others (long ∙ sym other_long)
    (λ i below.
    unit_one t units others i (get_or units i Nothing) (get_or others i Nothing) swept too
    (slice_get-get_or units i Nothing below) (slice_get-get_or others i Nothing (omega (arith, below, long, other_long))))

-- ---- names that are kept otherwise change nothing of a run

abbrev named : Module → List Named → List Named → List Named → Module
named m f j c = record m { functions = f; jump_keys = j; call_keys = c }

abbrev SameTracer : Module → List Named → Type 0
SameTracer m f = value_of tracer_name f ≡ value_of tracer_name m.functions

wants_same : (m : Module) (f j c : List Named) (states : States) (i : ℕ) → SameTracer m f → wants (named m f j c) states i ≡ wants m states i
wants_same m f j c states i same =
    ap
    (λ (tracer : Option ℕ). option_map (λ (s : Site). wanted (unwrap_or tracer 0) (state_of states.keys s.kind) (slice_index_or states.traced i false) s.len s.kind) (slice_get m.sites i))
    same

changes_same : (m : Module) (f j c : List Named) (old new : States) → SameTracer m f → changes (named m f j c) old new ≡ changes m old new
changes_same m f j c old new same =
    ap (λ (at : ℕ → List Change). flat_map at (range_with_len 0 (length m.sites)))
    (same_function (change_at (named m f j c) old new) (change_at m old new)
    (λ i.
    ap (λ (form : Option Form). change_of (slice_get m.sites i) form (wants (named m f j c) new i)) (wants_same m f j c old i same)
    ∙ ap (λ (form : Option Form). change_of (slice_get m.sites i) (wants m old i) form) (wants_same m f j c new i same)))

beginning_same : (m : Module) (f j c : List Named) (clash : List Change → Option Ending) (old : States) (result : Result States CountRefused) → SameTracer m f → beginning_to (named m f j c) clash old result ≡ beginning_to m clash old result
beginning_same m f j c clash old (Err why) same = refl
beginning_same m f j c clash old (Ok new) same =
    ap (λ (cs : List Change). unless (clash cs) new cs) (changes_same m f j c old new same)

found_same : (m : Module) (f j c : List Named) (s : State) (steps : List ScriptStep) → SameTracer m f → found (named m f j c) s steps ≡ found m s steps
found_same m f j c s [] same = refl
found_same m f j c s (Update command ∷ rest) same =
    ap (λ (b : Beginning). Some b) (beginning_same m f j c (clash_of_bytes (held_after m s.writes)) s.states (keys_after s.states command) same)
found_same m f j c s (Run turns ∷ rest) same = refl
found_same m f j c s (Drop place ∷ rest) same = refl

begin_same : (m : Module) (f j c : List Named) (s : State) (a b : Option Beginning) → found (named m f j c) s s.steps ≡ a → found m s s.steps ≡ b → a ≡ b → begun_by s (found (named m f j c) s s.steps) ≡ begun_by s (found m s s.steps)
begin_same m f j c s a b is also same = ap (begun_by s) is ∙ ap (begun_by s) same ∙ sym (ap (begun_by s) also)

next_same : (m : Module) (f j c : List Named) (s : State) (e : Event) → SameTracer m f → next (named m f j c) s e ≡ next m s e
next_same m f j c s Begin same = begin_same m f j c s (found (named m f j c) s s.steps) (found m s s.steps) refl refl (found_same m f j c s s.steps same)
next_same m f j c s Write same = refl
next_same m f j c s Request same = refl
next_same m f j c s (Take cpu) same = refl
next_same m f j c s Return same = refl
next_same m f j c s (Plain cpu) same = refl
next_same m f j c s (At cpu bytes) same = refl
next_same m f j c s (Handle cpu) same = refl
next_same m f j c s (Tick cpu) same = refl

may_same : (m : Module) (f j c : List Named) (s : State) (e : Event) → May m s e → May (named m f j c) s e
may_same m f j c s Begin may = may
may_same m f j c s Write may = may
may_same m f j c s Request may = may
may_same m f j c s (Take cpu) may = may
may_same m f j c s Return may = may
may_same m f j c s (Plain cpu) may = record { turn = may.turn; cpu = may.cpu; here = may.here; is = may.is }
may_same m f j c s (At cpu bytes) may = record {
  turn = record { turn = may.turn.turn; cpu = may.turn.cpu; here = may.turn.here; is = may.turn.is };
  fetch = may.fetch;
  stood = may.stood;
}
may_same m f j c s (Handle cpu) may = record { turn = may.turn; cpu = may.cpu; here = may.here; is = may.is }
may_same m f j c s (Tick cpu) may = record { turn = may.turn; cpu = may.cpu; here = may.here; is = may.is }

legal_same : (m : Module) (f j c : List Named) (s : State) (events : List Event) → SameTracer m f → IsLegalSoFar m s events → IsLegalSoFar (named m f j c) s events
legal_same m f j c s [] same legal = tt
legal_same m f j c s (e ∷ events) same legal = (
  may_same m f j c s e legal.0,
  subst (λ (t : State). IsLegalSoFar (named m f j c) t events) (sym (next_same m f j c s e same)) (legal_same m f j c (next m s e) events same legal.1),
)

after_same : (m : Module) (f j c : List Named) (s : State) (events : List Event) → SameTracer m f → after (named m f j c) s events ≡ after m s events
after_same m f j c s [] same = refl
after_same m f j c s (e ∷ events) same =
    ap (λ (t : State). after (named m f j c) t events) (next_same m f j c s e same) ∙ after_same m f j c (next m s e) events same

named_replayed : (m : Module) (f j c : List Named) (script : ScriptValue) (text : List ℕ) (events : List Event) → SameTracer m f → IsReplayed m (first m script) text events → IsReplayed (named m f j c) (first (named m f j c) script) text events
named_replayed m f j c script text events same is = record {
  reads = is.reads;
  legal = record {
    so_far = legal_same m f j c (first m script) events same is.legal.so_far;
    finished = subst (λ (t : State). IsFinished t) (sym (after_same m f j c (first m script) events same)) is.legal.finished;
  };
}

-- ---- so two modules of one file run alike

same_both : {A : Type 0} {x y z : A} → x ≡ z → y ≡ z → x ≡ y
same_both p q = p ∙ sym q

one_plain : (m n : Module) → n.base ≡ m.base → n.text ≡ m.text → n.units ≡ m.units → n.sites ≡ m.sites → n.keys ≡ m.keys → n ≡ named m n.functions n.jump_keys n.call_keys
one_plain m n base text units sites keys =
    λ i. record {
      base = base i;
      text = text i;
      units = units i;
      sites = sites i;
      keys = keys i;
      functions = n.functions;
      jump_keys = n.jump_keys;
      call_keys = n.call_keys;
    }

one_module : (elf : Elf) (m n : Module) → IsModule elf m → IsModule elf n → n ≡ named m n.functions n.jump_keys n.call_keys
one_module elf m n is also =
    one_plain m n (same_both also.has_base is.has_base) (same_both also.has_text is.has_text)
    (units_one (layout elf) n.units m.units also.swept is.swept) (same_both also.has_sites is.has_sites) (same_both also.has_keys is.has_keys)

pub replayed_alike : (elf : Elf) (m n : Module) (script : ScriptValue) (text : List ℕ) (events : List Event) → IsModule elf m → IsModule elf n → IsReplayed m (first m script) text events → IsReplayed n (first n script) text events
replayed_alike elf m n script text events is also replayed =
    subst (λ (x : Module). IsReplayed x (first x script) text events) (sym (one_module elf m n is also))
    (named_replayed m n.functions n.jump_keys n.call_keys script text events (also.named_functions tracer_name ∙ sym (is.named_functions tracer_name)) replayed)

stops_not : (m : Module) (script : ScriptValue) (bytes : List ℕ) (events others : List Event) (line : ℕ) → IsAccepted m → IsScriptOf m script → IsReplayed m (first m script) bytes others → IsRefusedAt m (first m script) bytes events line → ⊥
stops_not m script bytes events others line accepted of replayed refused =
    let is_journal : bytes ≡ journal others = (replays_are_one m script bytes others others replayed replayed).0 in
    (legal_journals_are_replayed m script others accepted of replayed.legal).1 events line
    (subst (λ (b : List ℕ). IsRefusedAt m (first m script) b events line) is_journal refused)

pub never_both : (elf : Elf) (m n : Module) (script : ScriptValue) (bytes : List ℕ) (events others : List Event) (line : ℕ) → IsModule elf m → IsModule elf n → IsScriptOf m script → IsRefusedAt m (first m script) bytes events line → IsReplayed n (first n script) bytes others → ⊥
never_both elf m n script bytes events others line is also of refused replayed =
    stops_not m script bytes events others line (record { elf = elf; is = is }) of (replayed_alike elf n m script bytes others also is replayed) refused
