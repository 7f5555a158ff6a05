-- Chosen journals are legal.
use Rattle.std.proofs.Common.{◌≡◌, ℕ, ◌+◌, List, [], ◌∷◌, sym, subst, ◌∙◌}
use Rattle.std.proofs.lemmas.Option.{same_Some}
use Rattle.rand_xoshiro.specs.SplitMix64.{mix_u64}
use Rattle.insn_forms.specs.History.{IsCandidate}
use Rattle.cpu_core.specs.declared.turn.TurnKind.TheVariants as kind
use Rattle.cpu_core.specs.Fetch.{IsFetch}
use Rattle.module_image.specs.Module.{Module}
use Rattle.run_journal.specs.declared.event.Event.{Event}
use Rattle.switching.specs.Choice.{Choice, Chooser, Comes, Fetches, IsChosen, IsEventOf, IsPicked, Takes, chooser_after, first_chooser}
use Rattle.switching.specs.ChoiceLaws.{ChosenAreLegal}
use Rattle.switching.specs.Journal.{IsFinished, IsLegalSoFar, after}
use Rattle.switching.specs.May.{May, MayAt, MayTurn}
use Rattle.switching.specs.State.{Cpu, State, start, text_end}
use Rattle.switching.proofs.ChoiceAllowed.{MayChoose, chosen_may}
use Rattle.switching.proofs.ChoiceMarks.{Fit, marks_first, marks_next, picked_stood}

-- a fetch whose bytes are picked may come
picked_may : (m : Module) (s : State) (c word : ℕ) (bytes : List ℕ) → Fit s → MayTurn m s c kind.At → IsPicked m s c word bytes → MayAt m s c bytes
picked_may m s c word bytes fit turn is =
    let same : is.cpu ≡ turn.cpu = same_Some is.cpu turn.cpu (sym is.here ∙ turn.here) in
    record {
      turn = turn;
      fetch = subst (λ (p : Cpu). IsFetch (text_end m) p.state.proc.ip bytes) same is.fetch;
      stood = λ j byte e.
          subst (λ (p : Cpu). IsCandidate (start m) s.writes p.mark (p.state.proc.ip + j) byte) same
          (subst (λ (v : ℕ). IsCandidate (start m) s.writes is.cpu.mark (is.cpu.state.proc.ip + j) v) (sym (is.each j byte e))
          (picked_stood (start m) s.writes is.cpu.mark (is.cpu.state.proc.ip + j) word j (fit c is.cpu is.here)));
    }

-- so may the event that any choice is
event_may : (m : Module) (s : State) (choice : Choice) (words : ℕ) (e : Event) → Fit s → MayChoose m s choice → IsEventOf m s choice words e → May m s e
event_may m s (Comes event) words e fit may is = subst (λ (x : Event). May m s x) (sym is) may
event_may m s (Fetches c) words e fit may is =
    subst (λ (x : Event). May m s x) (sym is.1) (picked_may m s c (mix_u64 words).0 is.0 fit may is.2)

-- an event that the rule takes may come
pub taken_may : (m : Module) (ch : Chooser) (e : Event) (choice : Choice) (words : ℕ) → Fit ch.state → Takes m ch e choice words → May m ch.state e
taken_may m ch e choice words fit takes =
    event_may m ch.state choice words e fit (chosen_may m ch choice words takes.is) takes.event

legal_from : (m : Module) (ch : Chooser) (events : List Event) → Fit ch.state → IsChosen m ch events → IsLegalSoFar m ch.state events × IsFinished (after m ch.state events)
legal_from m ch [] fit finished = (tt, finished)
legal_from m ch (e ∷ events) fit (choice, words, takes, more) =
    let rest = legal_from m (chooser_after m ch choice words e) events (marks_next m ch.state e fit) more in
    ((taken_may m ch e choice words fit takes, rest.0), rest.1)

pub chosen_are_legal : ChosenAreLegal
chosen_are_legal m script seed events chosen =
    let legal = legal_from m (first_chooser m script seed) events (marks_first m script) chosen in
    record { so_far = legal.0; finished = legal.1 }
