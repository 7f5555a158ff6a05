-- The rule chooses a journal: each choice is some event, and the script is finished at some time.
use Rattle.std.proofs.Common.{◌≡◌, ◌⊎◌, inl, inr, ℕ, zero, suc, ◌+◌, ◌-◌, ◌<◌, ◌≤◌, Bool, true, false, List, [], ◌∷◌, length, map, take, slice_get, Option, Some, None, Ok, Err, refl, ap, sym, subst, ◌∙◌, arith}
use Rattle.std.specs.Prelude.{IsSome}
use Rattle.std.specs.List.{range_with_len}
use Rattle.std.proofs.lemmas.Bool.{cases_order}
use Rattle.std.proofs.lemmas.List.FromFn.{length-map-range_with_len}
use Rattle.std.proofs.lemmas.Option.{same_Some, slice_get_within}
use Rattle.rand_xoshiro.specs.SplitMix64.{mix_u64}
use Rattle.elf_module.proofs.Finding.{get_within}
use Rattle.insn_forms.specs.History.{since}
use Rattle.x64_subset.specs.declared.insn.Undecoded.TheVariants.{Short, Unknown}
use Rattle.x64_subset.specs.declared.proc.Life.{Life}
use Rattle.x64_subset.specs.declared.proc.Life.TheVariants.{Running, Done, Halted, Fault}
use Rattle.x64_subset.specs.Reading.{Answer, read}
use Rattle.cpu_core.specs.declared.turn.TurnKind.TheVariants as kind
use Rattle.cpu_core.specs.Fetch.{IsFetch, picked}
use Rattle.cpu_core.specs.Turn.{kind_by, standing}
use Rattle.module_image.specs.Layout.{site_at}
use Rattle.module_image.specs.Module.{IsAccepted, Module}
use Rattle.module_image.proofs.Lent.{sites_laid_out}
use Rattle.run_journal.specs.declared.event.Event.{Event}
use Rattle.run_journal.specs.declared.event.Event.TheVariants.{At}
use Rattle.switching.specs.Choice.{Choice, Chooser, Comes, Fetches, IsChosen, IsEventOf, Takes, chooser_after, chosen, first_chooser, idle_after}
use Rattle.switching.specs.ChoiceLaws.{RunsAreThere}
use Rattle.switching.specs.Journal.{IsFinished}
use Rattle.switching.specs.Next.{next}
use Rattle.switching.specs.State.{Cpu, State, start, text_end}
use Rattle.switching.proofs.ChoiceAllowed.{MayChoose, chosen_may}
use Rattle.switching.proofs.ChoiceBound.{bound}
use Rattle.switching.proofs.ChoiceEnd.{event_lowers, late_event}
use Rattle.switching.proofs.ChoiceLegal.{taken_may}
use Rattle.switching.proofs.ChoiceMarks.{Fit, marks_first, marks_next}
use Rattle.switching.proofs.ChoiceReads.{read_tells}
use Rattle.switching.proofs.ChoiceSteady.{IsSteady, LowersTo, steady_first}
use Rattle.switching.proofs.ChoiceThere.{choices_there, chosen_there}
use Rattle.switching.proofs.Patched.{site_of}

-- ---- wherever bytes are found, some of them are a fetch

-- the first bytes that a function gives
abbrev firsts : (ℕ → ℕ) → ℕ → List ℕ
firsts f n = map f (range_with_len 0 n)

take_range : (f : ℕ → ℕ) (a n k : ℕ) → k ≤ n → take k (map f (range_with_len a n)) ≡ map f (range_with_len a k)
take_range f a n zero below = refl
take_range f a zero (suc k) below = absurd (omega (arith, below))
take_range f a (suc n) (suc k) below = ap (λ (l : List ℕ). f a ∷ l) (take_range f (a + 1) n k (omega (arith, below)))

record Fetched (end at : ℕ) (f : ℕ → ℕ) : Type 0 where
  bytes : List ℕ
  is : IsFetch end at bytes
  each : (j byte : ℕ) → slice_get bytes j ≡ Some byte → byte ≡ f j

each_first : (f : ℕ → ℕ) (n j byte : ℕ) → slice_get (firsts f n) j ≡ Some byte → byte ≡ f j
each_first f n j byte is =
    let within = slice_get_within (firsts f n) j byte is in
    let long : length (firsts f n) ≡ n = length-map-range_with_len f 0 n in
    same_Some byte (f j) (sym is ∙ get_within f n j (omega (arith, within, long)))

-- no less than n bytes tell
abbrev AreShort : ℕ → (ℕ → ℕ) → ℕ → Type 0
AreShort at f n = (k : ℕ) → k < n → read at (firsts f k) ≡ Err Short

-- an instruction that n bytes tell has n bytes
told_len : (at : ℕ) (f : ℕ → ℕ) (n : ℕ) (insn : _) (len : ℕ) → AreShort at f n → read at (firsts f n) ≡ Ok (insn, len) → len ≡ n
told_len at f n insn len short is = by (cases_order len n)
  where
    by : (len ≡ n) ⊎ ((len < n) ⊎ (n < len)) → len ≡ n
    by (inl same) = same
    by (inr (inl less)) =
        let told : read at (firsts f len) ≡ Ok (insn, len) = sym (ap (read at) (take_range f 0 n len (omega (arith, less)))) ∙ (read_tells at (firsts f n) insn len is).1 in
        let none = short len less in
        absurd (cc)
    by (inr (inr more)) =
        let within = (read_tells at (firsts f n) insn len is).0 in
        let long : length (firsts f n) ≡ n = length-map-range_with_len f 0 n in
        absurd (omega (arith, within, long, more))

-- n bytes are a fetch, or are too few to tell
step : (end at : ℕ) (f : ℕ → ℕ) (n : ℕ) → at + n ≤ end → AreShort at f n → Fetched end at f ⊎ (read at (firsts f n) ≡ Err Short)
step end at f n inside short = by (read at (firsts f n)) refl
  where
    by : (a : Answer) → read at (firsts f n) ≡ a → Fetched end at f ⊎ (read at (firsts f n) ≡ Err Short)
    by (Ok (insn, len)) e =
        let long : length (firsts f n) ≡ n = length-map-range_with_len f 0 n in
        let same : len ≡ length (firsts f n) = told_len at f n insn len short e ∙ sym long in
        inl (record {
          bytes = firsts f n;
          is = record {
            inside = omega (arith, inside, long);
            told = inl (insn, subst (λ (k : ℕ). read at (firsts f n) ≡ Ok (insn, k)) same e);
          };
          each = each_first f n;
        })
    by (Err Unknown) e =
        let long : length (firsts f n) ≡ n = length-map-range_with_len f 0 n in
        inl (record {
          bytes = firsts f n;
          is = record {
            inside = omega (arith, inside, long);
            told = inr (inl (e, λ k below. ap (read at) (take_range f 0 n k (omega (arith, below, long))) ∙ short k (omega (arith, below, long))));
          };
          each = each_first f n;
        })
    by (Err Short) e = inr e

short_more : (at : ℕ) (f : ℕ → ℕ) (n : ℕ) → AreShort at f n → read at (firsts f n) ≡ Err Short → AreShort at f (n + 1)
short_more at f n short here k below = by (cases_order k n)
  where
    by : (k ≡ n) ⊎ ((k < n) ⊎ (n < k)) → read at (firsts f k) ≡ Err Short
    by (inl same) = subst (λ (i : ℕ). read at (firsts f i) ≡ Err Short) (sym same) here
    by (inr (inl less)) = short k less
    by (inr (inr more)) = absurd (omega (arith, below, more))

grow : (end at : ℕ) (f : ℕ → ℕ) (left n : ℕ) → at + n + left ≡ end → AreShort at f n → Fetched end at f
grow end at f zero n sum short =
    elim (step end at f n (omega (arith, sum)) short) [
      | inl fetched ↦ fetched
      | inr few ↦ (let long : length (firsts f n) ≡ n = length-map-range_with_len f 0 n in record {
        bytes = firsts f n;
        is = record { inside = omega (arith, sum, long); told = inr (inr (few, omega (arith, sum, long))) };
        each = each_first f n;
      })
    ]
grow end at f (suc left) n sum short =
    elim (step end at f n (omega (arith, sum)) short) [
      | inl fetched ↦ fetched
      | inr few ↦ grow end at f left (n + 1) (omega (arith, sum)) (short_more at f n short few)
    ]

-- ---- each choice is some event

stands_at : (m : Module) (trapped : Bool) (ip : ℕ) (life : Life) → kind_by m trapped ip life ≡ kind.At → (site : ℕ) × (site_at m.sites ip ≡ Some site)
stands_at m false ip Running is = by (site_at m.sites ip) refl is
  where
    by : (o : Option ℕ) → site_at m.sites ip ≡ o → standing o ≡ kind.At → (site : ℕ) × (site_at m.sites ip ≡ Some site)
    by None e f = absurd (cc)
    by (Some site) e f = (site, e)
stands_at m true ip Running is = absurd (cc)
stands_at m trapped ip Done is = absurd (cc)
stands_at m trapped ip Halted is = absurd (cc)
stands_at m trapped ip (Fault why) is = absurd (cc)

event_there : (m : Module) (s : State) (choice : Choice) (words : ℕ) → IsAccepted m → MayChoose m s choice → (e : Event) × IsEventOf m s choice words e
event_there m s (Comes e) words accepted may = (e, refl)
event_there m s (Fetches c) words accepted may =
    let p : Cpu = may.cpu in
    let ip : ℕ = p.state.proc.ip in
    let stands = stands_at m p.state.trapped ip p.state.proc.life may.is in
    let inside = (site_of m ip stands.0 accepted stands.1).to in
    let fetched : Fetched (text_end m) ip (λ j. picked (mix_u64 words).0 j (since (start m) s.writes p.mark (ip + j))) = grow (text_end m) ip _ (text_end m - ip) 0 (omega (arith, inside)) (λ k below. absurd (omega (arith, below))) in
    (At c (record { items = fetched.bytes }), (fetched.bytes, refl, record { cpu = p; here = may.here; fetch = fetched.is; each = fetched.each }))

-- ---- a run

-- the rule takes an event, and fewer may come after it
record Stepped (n : ℕ) (m : Module) (ch : Chooser) : Type 0 where
  event : Event
  choice : Choice
  words : ℕ
  takes : Takes m ch event choice words
  lower : LowersTo n ch.state ch.idle (next m ch.state event) (idle_after event ch.idle)

goes_on : (n : ℕ) (m : Module) (ch : Chooser) → IsAccepted m → IsSteady n ch.state → Fit ch.state → IsFinished ch.state ⊎ Stepped n m ch
goes_on n m ch accepted steady fit =
    let long : length ch.state.cpus ≡ n = steady.long in
    let some : 1 ≤ n = steady.some in
    elim (choices_there m ch.state (omega (arith, long, some))) [
      | inl done ↦ inl done
      | inr there ↦ inr (by (chosen m ch) refl (chosen_there m ch there))
    ]
  where
    by : (o : Option (Choice × ℕ)) → chosen m ch ≡ o → IsSome o → Stepped n m ch
    by None e some = absurd (cc)
    by (Some (choice, words)) e some =
        let made = event_there m ch.state choice words accepted (chosen_may m ch choice words e) in
        let takes : Takes m ch made.0 choice words = record { is = e; event = made.1 } in
        record {
          event = made.0;
          choice = choice;
          words = words;
          takes = takes;
          lower = event_lowers n m ch.state ch.idle made.0 (sites_laid_out m accepted).few steady (taken_may m ch made.0 choice words fit takes) (late_event n m ch made.0 choice words steady takes);
        }

run_from : (n : ℕ) (m : Module) (most : ℕ) (ch : Chooser) → IsAccepted m → IsSteady n ch.state → Fit ch.state → bound n ch.state ch.idle ≤ most → (events : List Event) × IsChosen m ch events
run_from n m zero ch accepted steady fit few =
    elim (goes_on n m ch accepted steady fit) [
      | inl done ↦ ([], done)
      | inr stepped ↦ (let fewer = stepped.lower.fewer in absurd (omega (arith, fewer, few)))
    ]
run_from n m (suc most) ch accepted steady fit few =
    elim (goes_on n m ch accepted steady fit) [
      | inl done ↦ ([], done)
      | inr stepped ↦ (let fewer = stepped.lower.fewer in
          let rest = run_from n m most (chooser_after m ch stepped.choice stepped.words stepped.event) accepted stepped.lower.steady (marks_next m ch.state stepped.event fit) (omega (arith, fewer, few)) in
          (stepped.event ∷ rest.0, (stepped.choice, stepped.words, stepped.takes, rest.1)))
    ]

pub runs_are_there : RunsAreThere
runs_are_there m script seed accepted of =
    run_from (length script.entries) m (bound (length script.entries) (first_chooser m script seed).state 0) (first_chooser m script seed) accepted (steady_first m script of) (marks_first m script) (omega arith)
