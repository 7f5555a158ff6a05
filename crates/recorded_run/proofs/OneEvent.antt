-- The rule takes one event.
use Rattle.std.proofs.Common.{◌≡◌, ◌⊎◌, inl, inr, ℕ, suc, ◌+◌, List, [], ◌∷◌, ◌++◌, slice_get, Some, refl, ap, sym, subst, ◌∙◌, append-nil}
use Rattle.std.proofs.lemmas.Option.{same_Some}
use Rattle.rand_xoshiro.specs.SplitMix64.{mix_u64}
use Rattle.insn_forms.specs.History.{since}
use Rattle.cpu_core.specs.Fetch.{IsFetch, picked}
use Rattle.module_image.specs.Module.{Module}
use Rattle.run_journal.specs.declared.event.Event.{Event}
use Rattle.run_journal.specs.declared.event.Event.TheVariants.{At}
use Rattle.switching.specs.Choice.{Choice, Chooser, Comes, Fetches, IsEventOf, IsPicked, Takes}
use Rattle.switching.specs.State.{Cpu, State, start, text_end}
use Rattle.switching.proofs.ChoiceReads.{fetches_are_apart}

-- of two lists that agree as far as both go, one is how the other begins
record Begins (xs ys : List ℕ) : Type 0 where
  rest : List ℕ
  is : ys ≡ xs ++ rest

begin_with : (xs ys : List ℕ) → ((j x y : ℕ) → slice_get xs j ≡ Some x → slice_get ys j ≡ Some y → x ≡ y) → Begins xs ys ⊎ Begins ys xs
begin_with [] ys same = inl (record { rest = ys; is = refl })
begin_with (x ∷ xs) [] same = inr (record { rest = x ∷ xs; is = refl })
begin_with (x ∷ xs) (y ∷ ys) same = by (begin_with xs ys (λ j a b e f. same (suc j) a b e f)) (same 0 x y refl refl)
  where
    by : Begins xs ys ⊎ Begins ys xs → x ≡ y → Begins (x ∷ xs) (y ∷ ys) ⊎ Begins (y ∷ ys) (x ∷ xs)
    by (inl begins) first =
        inl (record { rest = begins.rest; is = ap (λ (z : ℕ). z ∷ ys) (sym first) ∙ ap (λ (zs : List ℕ). x ∷ zs) begins.is })
    by (inr begins) first =
        inr (record { rest = begins.rest; is = ap (λ (z : ℕ). z ∷ xs) first ∙ ap (λ (zs : List ℕ). y ∷ zs) begins.is })

append_none : (xs rest : List ℕ) → rest ≡ [] → xs ++ rest ≡ xs
append_none xs rest none = ap (λ (zs : List ℕ). xs ++ zs) none ∙ append-nil xs

-- so two fetches of which each byte is determined are the same
one_fetch : (end at : ℕ) (value : ℕ → ℕ) (bytes others : List ℕ) → IsFetch end at bytes → IsFetch end at others → ((j byte : ℕ) → slice_get bytes j ≡ Some byte → byte ≡ value j) → ((j byte : ℕ) → slice_get others j ≡ Some byte → byte ≡ value j) → bytes ≡ others
one_fetch end at value bytes others one other each also =
    by (begin_with bytes others (λ j x y e f. each j x e ∙ sym (also j y f)))
  where
    by : Begins bytes others ⊎ Begins others bytes → bytes ≡ others
    by (inl begins) =
        let none = fetches_are_apart end at bytes begins.rest one (subst (λ (l : List ℕ). IsFetch end at l) begins.is other) in
        sym (begins.is ∙ append_none bytes begins.rest none)
    by (inr begins) =
        let none = fetches_are_apart end at others begins.rest other (subst (λ (l : List ℕ). IsFetch end at l) begins.is one) in
        begins.is ∙ append_none others begins.rest none

picked_one : (m : Module) (s : State) (c word : ℕ) (bytes others : List ℕ) → IsPicked m s c word bytes → IsPicked m s c word others → bytes ≡ others
picked_one m s c word bytes others one other =
    let same : other.cpu ≡ one.cpu = same_Some other.cpu one.cpu (sym other.here ∙ one.here) in
    one_fetch (text_end m) one.cpu.state.proc.ip
    (λ j. picked word j (since (start m) s.writes one.cpu.mark (one.cpu.state.proc.ip + j))) bytes others one.fetch
    (subst (λ (p : Cpu). IsFetch (text_end m) p.state.proc.ip others) same other.fetch)
    one.each
    (subst (λ (p : Cpu). (j byte : ℕ) → slice_get others j ≡ Some byte → byte ≡ picked word j (since (start m) s.writes p.mark (p.state.proc.ip + j))) same other.each)

-- an event that a choice is
event_one : (m : Module) (s : State) (choice : Choice) (words : ℕ) (e other : Event) → IsEventOf m s choice words e → IsEventOf m s choice words other → e ≡ other
event_one m s (Comes event) words e other is also = is ∙ sym also
event_one m s (Fetches c) words e other (bytes, is, picked) (others, also, too) =
    is
    ∙ ap (λ (l : List ℕ). At c (record { items = l })) (picked_one m s c (mix_u64 words).0 bytes others picked too)
    ∙ sym also

-- what is chosen, the words after it, and the event
pub record AreOne (e other : Event) (choice others : Choice) (words rest : ℕ) : Type 0 where
  pub choice_is : others ≡ choice
  pub words_are : rest ≡ words
  pub event_is : other ≡ e

pub taken_one : (m : Module) (ch : Chooser) (e other : Event) (choice others : Choice) (words rest : ℕ) → Takes m ch e choice words → Takes m ch other others rest → AreOne e other choice others words rest
taken_one m ch e other choice others words rest one also =
    let pair : (others, rest) ≡ (choice, words) = same_Some _ _ (sym also.is ∙ one.is) in
    record {
      choice_is = ap (λ (p : Choice × ℕ). p.0) pair;
      words_are = ap (λ (p : Choice × ℕ). p.1) pair;
      event_is = event_one m ch.state choice words other e (subst (λ (p : Choice × ℕ). IsEventOf m ch.state p.0 p.1 other) pair also.event) one.event;
    }
