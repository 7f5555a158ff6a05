-- One journal is chosen.
use Rattle.std.proofs.Common.{◌≡◌, ◌⊎◌, inl, inr, ℕ, zero, suc, ◌+◌, Bool, true, false, if◌then◌else◌, List, [], ◌∷◌, ◌++◌, length, slice_get, Option, Some, None, refl, ap, sym, subst, ◌∙◌, append-nil}
use Rattle.std.specs.Prelude.{nat_le}
use Rattle.std.specs.List.{flat_map, range_with_len}
use Rattle.std.proofs.lemmas.Option.{same_Some}
use Rattle.rand_xoshiro.specs.SplitMix64.{mix_u64}
use Rattle.insn_forms.specs.History.{since}
use Rattle.cpu_core.specs.Fetch.{IsFetch, picked}
use Rattle.module_image.specs.Module.{Module}
use Rattle.poke_batch.specs.Walk.{Walk}
use Rattle.run_journal.specs.declared.event.Event.{Event}
use Rattle.run_journal.specs.declared.event.Event.TheVariants.{At}
use Rattle.script_text.specs.declared.script.ScriptStep.{ScriptStep}
use Rattle.switching.specs.Choice.{Choice, Chooser, Comes, Fetches, IsChosen, IsEventOf, IsPicked, by_cpu, chooser_after, choices, chosen, drawn, forced, forced_or_drawn, most_idle, of_cpu}
use Rattle.switching.specs.ChoiceLaws.{ChosenIsOne}
use Rattle.switching.specs.Journal.{IsFinished}
use Rattle.switching.specs.State.{Cpu, State, start, text_end}
use Rattle.switching.proofs.ChoiceReads.{fetches_are_apart}

-- of two lists that agree as far as both go, one is how the other begins
record Begins (xs ys : List ℕ) : Type 0 where
  rest : List ℕ
  is : ys ≡ xs ++ rest

begin_with : (xs ys : List ℕ) → ((j x y : ℕ) → slice_get xs j ≡ Some x → slice_get ys j ≡ Some y → x ≡ y) → Begins xs ys ⊎ Begins ys xs
begin_with [] ys same = inl (record { rest = ys; is = refl })
begin_with (x ∷ xs) [] same = inr (record { rest = x ∷ xs; is = refl })
begin_with (x ∷ xs) (y ∷ ys) same = by (begin_with xs ys (λ j a b e f. same (suc j) a b e f)) (same 0 x y refl refl)
  where
    by : Begins xs ys ⊎ Begins ys xs → x ≡ y → Begins (x ∷ xs) (y ∷ ys) ⊎ Begins (y ∷ ys) (x ∷ xs)
    by (inl begins) first =
        inl (record { rest = begins.rest; is = ap (λ (z : ℕ). z ∷ ys) (sym first) ∙ ap (λ (zs : List ℕ). x ∷ zs) begins.is })
    by (inr begins) first =
        inr (record { rest = begins.rest; is = ap (λ (z : ℕ). z ∷ xs) first ∙ ap (λ (zs : List ℕ). y ∷ zs) begins.is })

append_none : (xs rest : List ℕ) → rest ≡ [] → xs ++ rest ≡ xs
append_none xs rest none = ap (λ (zs : List ℕ). xs ++ zs) none ∙ append-nil xs

-- so two fetches of which each byte is determined are the same
one_fetch : (end at : ℕ) (value : ℕ → ℕ) (bytes others : List ℕ) → IsFetch end at bytes → IsFetch end at others → ((j byte : ℕ) → slice_get bytes j ≡ Some byte → byte ≡ value j) → ((j byte : ℕ) → slice_get others j ≡ Some byte → byte ≡ value j) → bytes ≡ others
one_fetch end at value bytes others one other each also =
    by (begin_with bytes others (λ j x y e f. each j x e ∙ sym (also j y f)))
  where
    by : Begins bytes others ⊎ Begins others bytes → bytes ≡ others
    by (inl begins) =
        let none = fetches_are_apart end at bytes begins.rest one (subst (λ (l : List ℕ). IsFetch end at l) begins.is other) in
        sym (begins.is ∙ append_none bytes begins.rest none)
    by (inr begins) =
        let none = fetches_are_apart end at others begins.rest other (subst (λ (l : List ℕ). IsFetch end at l) begins.is one) in
        begins.is ∙ append_none others begins.rest none

picked_one : (m : Module) (s : State) (c word : ℕ) (bytes others : List ℕ) → IsPicked m s c word bytes → IsPicked m s c word others → bytes ≡ others
picked_one m s c word bytes others one other =
    let same : other.cpu ≡ one.cpu = same_Some other.cpu one.cpu (sym other.here ∙ one.here) in
    one_fetch (text_end m) one.cpu.state.proc.ip
    (λ j. picked word j (since (start m) s.writes one.cpu.mark (one.cpu.state.proc.ip + j))) bytes others one.fetch
    (subst (λ (p : Cpu). IsFetch (text_end m) p.state.proc.ip others) same other.fetch)
    one.each
    (subst (λ (p : Cpu). (j byte : ℕ) → slice_get others j ≡ Some byte → byte ≡ picked word j (since (start m) s.writes p.mark (p.state.proc.ip + j))) same other.each)

-- an event that a choice is
pub event_one : (m : Module) (s : State) (choice : Choice) (words : ℕ) (e other : Event) → IsEventOf m s choice words e → IsEventOf m s choice words other → e ≡ other
event_one m s (Comes event) words e other is also = is ∙ sym also
event_one m s (Fetches c) words e other (bytes, is, picked) (others, also, too) =
    is
    ∙ ap (λ (l : List ℕ). At c (record { items = l })) (picked_one m s c (mix_u64 words).0 bytes others picked too)
    ∙ sym also

-- ---- nothing is chosen after the end

none_each : (f : ℕ → List Choice) (a n : ℕ) → ((c : ℕ) → f c ≡ []) → flat_map f (range_with_len a n) ≡ []
none_each f a zero none = refl
none_each f a (suc n) none = ap (λ (l : List Choice). l ++ flat_map f (range_with_len (a + 1) n)) (none a) ∙ none_each f (a + 1) n none

of_no_cpu : (here : Option Cpu) → of_cpu here (λ p. []) ≡ []
of_no_cpu None = refl
of_no_cpu (Some p) = refl

by_no_cpu : (s : State) → by_cpu s (λ c p. []) ≡ []
by_no_cpu s = none_each (λ c. of_cpu (slice_get s.cpus c) (λ p. [])) 0 (length s.cpus) (λ c. of_no_cpu (slice_get s.cpus c))

-- the choices of a state, by its steps and its open update
abbrev with_parts : State → List ScriptStep → Option Walk → State
with_parts s steps opened = record s { steps = steps; opened = opened }

none_chosen : (m : Module) (s : State) (idle words : ℕ) → chosen m (record { state = with_parts s [] None; idle = idle; words = words }) ≡ None
none_chosen m s idle words = by (nat_le most_idle idle)
  where
    all : choices m (with_parts s [] None) ≡ []
    all = by_no_cpu s

    some : forced m (with_parts s [] None) ≡ []
    some = ap (λ (l : List Choice). l ++ by_cpu (with_parts s [] None) (λ c p. [])) (by_no_cpu s) ∙ by_no_cpu s

    by : (b : Bool) → (if b then forced_or_drawn words (forced m (with_parts s [] None)) (choices m (with_parts s [] None)) else drawn words (choices m (with_parts s [] None))) ≡ None
    by true =
        ap (λ (l : List Choice). forced_or_drawn words l (choices m (with_parts s [] None))) some
        ∙ ap (λ (l : List Choice). drawn words l) all
    by false = ap (λ (l : List Choice). drawn words l) all

finished_none : (m : Module) (ch : Chooser) → IsFinished ch.state → chosen m ch ≡ None
finished_none m ch done =
    subst (λ (steps : List ScriptStep). chosen m (record { state = with_parts ch.state steps ch.state.opened; idle = ch.idle; words = ch.words }) ≡ None) (sym done.steps)
    (subst (λ (opened : Option Walk). chosen m (record { state = with_parts ch.state [] opened; idle = ch.idle; words = ch.words }) ≡ None) (sym done.closed) (none_chosen m ch.state ch.idle ch.words))

pub chosen_is_one : ChosenIsOne
chosen_is_one m ch [] [] one other = refl
chosen_is_one m ch [] (e ∷ others) one (choice, words, takes, more) =
    let none = finished_none m ch one in let some = takes.is in absurd (cc)
chosen_is_one m ch (e ∷ events) [] (choice, words, takes, more) other =
    let none = finished_none m ch other in let some = takes.is in absurd (cc)
chosen_is_one m ch (e ∷ events) (f ∷ others) (choice, words, takes, more) (choice2, words2, takes2, more2) =
    let pair : (choice2, words2) ≡ (choice, words) = same_Some _ _ (sym takes2.is ∙ takes.is) in
    let also : IsEventOf m ch.state choice words f = subst (λ (p : Choice × ℕ). IsEventOf m ch.state p.0 p.1 f) pair takes2.event in
    let same : e ≡ f = event_one m ch.state choice words e f takes.event also in
    let too : IsChosen m (chooser_after m ch choice words e) others = subst (λ (p : Choice × ℕ). IsChosen m (chooser_after m ch p.0 p.1 e) others) pair
    (subst (λ (x : Event). IsChosen m (chooser_after m ch choice2 words2 x) others) (sym same) more2) in
    ap (λ (x : Event). x ∷ events) same
    ∙ ap (λ (l : List Event). f ∷ l) (chosen_is_one m (chooser_after m ch choice words e) events others more too)
