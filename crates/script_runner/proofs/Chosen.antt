-- What a running machine chooses is what the rule takes.
use Rattle.std.proofs.Common.{◌≡◌, ◌∙◌, ◌&&◌, ◌⊎◌, inl, inr, ◌+◌, ◌<◌, ◌≤◌, ◌%◌, ◌==◌, ℕ, zero, suc, min, Bool, true, false, not, if◌then◌else◌, List, [], ◌∷◌, ◌++◌, length, map, get_or, Option, Some, None, IsSome, option_map, slice_get, refl, sym, ap, subst, arith, append_assoc}
use Rattle.std.specs.Prelude.{nat_le}
use Rattle.std.specs.List.{flat_map, range_with_len}
use Rattle.std.proofs.lemmas.Grind.{common_steps}
use Rattle.std.proofs.lemmas.List.{length-map}
use Rattle.std.proofs.lemmas.Option.{same_Some, slice_get-map, slice_get-get_or}
use Rattle.std.proofs.Math.Nat.{mod-lt}
use Rattle.rand_xoshiro.specs.SplitMix64.{mix_u64}
use Rattle.cpu_core.specs.declared.turn.TurnKind.TheVariants as kind
use Rattle.cpu_core.specs.Fetch.{IsFetch, picked}
use Rattle.cpu_core.specs.Standing.{ArePicked, end_of}
use Rattle.cpu_core.specs.Turn.{CpuState, kind_of}
use Rattle.insn_forms.specs.History.{since}
use Rattle.poke_batch.specs.Walk.{Walk, due_of, has_taken}
use Rattle.run_journal.specs.declared.event.Event.{Event}
use Rattle.run_journal.specs.declared.event.Event.TheVariants.{Take}
use Rattle.script_text.specs.declared.script.ScriptStep.{ScriptStep}
use Rattle.stale_fetch.specs.Past.{Past}
use Rattle.stale_fetch.specs.Windows.{IsWindowsOf}
use Rattle.switching.specs.Choice.{Choice, Chooser, Comes, IsPicked, by_cpu, choices, chosen, drawn, forced, forced_or_drawn, handler_choices, is_wait, most_idle, of_cpu, patch_by as patch_rule, patch_choices, take_choices, turn_choices, turn_of}
use Rattle.switching.specs.Journal.{IsFinished}
use Rattle.switching.specs.May.{MayTurn, has_turns}
use Rattle.switching.specs.State.{Cpu, State, first, start, starting, text_end}
use Rattle.switching.proofs.ChoiceAllowed.{MayChoose, chosen_may}
use Rattle.switching.proofs.ChoiceMarks.{cpus_after}
use Rattle.switching.proofs.ChoiceThere.{choices_there, chosen_there}
use Rattle.script_runner.specs.declared.pick.Pick.{Pick}
use Rattle.script_runner.specs.Choosing.{CanFetch, Chooses, IsOver, MakesEvent, TakesNext, by_number, by_processor, choice_of, choices_found, chosen_found, forced_found, handler_at, handler_found, of_found, patch_by, patch_found, picked_of, taking_found, turn_found}
use Rattle.script_runner.specs.Turns.{HasTurn}
use Rattle.script_runner.specs.World.{IsWorld, StandsFor, WorldSeen, left, past_of}
use Rattle.script_runner.proofs.Looks.{found_is, turn_iff}
use Rattle.script_runner.proofs.Pasts.{mark_there}
use Rattle.script_runner.proofs.WorldFacts.{cpu_known}

-- ---- of each processor the same is found as the rule has

flat_same : (f g : ℕ → List Choice) (a n : ℕ) → ((c : ℕ) → f c ≡ g c) → flat_map f (range_with_len a n) ≡ flat_map g (range_with_len a n)
flat_same f g a zero each = refl
flat_same f g a (suc n) each =
    ap (λ (cs : List Choice). cs ++ flat_map f (range_with_len (a + 1) n)) (each a) ∙ ap (λ (cs : List Choice). g a ++ cs) (flat_same f g (a + 1) n each)

of_same : (o : Option Cpu) (f : CpuState → List Choice) (g : Cpu → List Choice) → ((p : Cpu) → f p.state ≡ g p) → of_found (option_map (λ (p : Cpu). p.state) o) f ≡ of_cpu o g
of_same None f g each = refl
of_same (Some p) f g each = each p

by_same : (w : WorldSeen) (s : State) (f : ℕ → CpuState → List Choice) (g : ℕ → Cpu → List Choice) → StandsFor w s → ((c : ℕ) (p : Cpu) → f c p.state ≡ g c p) → by_processor w f ≡ by_cpu s g
by_same w s f g h each =
    let long : length w.cpus ≡ length s.cpus = ap length h.cpus ∙ length-map s.cpus (λ (p : Cpu). p.state) in
    flat_same (by_number w f) (λ c. of_cpu (slice_get s.cpus c) (g c)) 0 (length w.cpus)
    (λ c. ap (λ (xs : List CpuState). of_found (slice_get xs c) (f c)) h.cpus ∙ ap (λ (o : Option CpuState). of_found o (f c)) (slice_get-map (λ (p : Cpu). p.state) s.cpus c) ∙ of_same (slice_get s.cpus c) (f c) (g c) (each c))
    ∙ ap (λ (n : ℕ). flat_map (λ c. of_cpu (slice_get s.cpus c) (g c)) (range_with_len 0 n)) long

patch_same : (w : WorldSeen) (s : State) → StandsFor w s → patch_found w ≡ patch_choices s
patch_same w s h = ap (λ (o : Option Walk). patch_by o (left w)) h.opened ∙ ap (patch_by s.opened) h.steps ∙ by s.opened
  where
    by : (o : Option Walk) → patch_by o s.steps ≡ patch_rule o s
    by None = refl
    by (Some walk) = refl

taking_same : (w : WorldSeen) (s : State) (c : ℕ) (p : Cpu) → StandsFor w s → taking_found w c p.state ≡ take_choices s c p
taking_same w s c p h = ap (λ (o : Option Walk). if is_wait (due_of o) && (not p.state.trapped && not (has_taken o c)) then Comes (Take c) ∷ [] else []) h.opened

turn_same : (w : WorldSeen) (s : State) (c : ℕ) (p : Cpu) → StandsFor w s → turn_found w c p.state ≡ turn_choices w.image s c p
turn_same w s c p h =
    ap (λ (o : Option Walk). if has_turns o (left w) then turn_of c (kind_of w.image p.state) ∷ [] else []) h.opened
    ∙ ap (λ (steps : List ScriptStep). if has_turns s.opened steps then turn_of c (kind_of w.image p.state) ∷ [] else []) h.steps

handler_same : (w : WorldSeen) (s : State) (c : ℕ) (p : Cpu) → StandsFor w s → handler_found w c p.state ≡ handler_choices w.image s.opened c p
handler_same w s c p h = ap (λ (o : Option Walk). handler_at o w.image c p.state) h.opened ∙ by s.opened
  where
    by : (o : Option Walk) → handler_at o w.image c p.state ≡ handler_choices w.image o c p
    by None = refl
    by (Some walk) = refl

choices_same : (w : WorldSeen) (s : State) → StandsFor w s → choices_found w ≡ choices w.image s
choices_same w s h =
    ap (λ (cs : List Choice). cs ++ by_processor w (λ c x. taking_found w c x ++ turn_found w c x)) (patch_same w s h)
    ∙ ap (λ (cs : List Choice). patch_choices s ++ cs) (by_same w s (λ c x. taking_found w c x ++ turn_found w c x) (λ c p. take_choices s c p ++ turn_choices w.image s c p) h
    (λ c p. ap (λ (cs : List Choice). cs ++ turn_found w c p.state) (taking_same w s c p h) ∙ ap (λ (cs : List Choice). take_choices s c p ++ cs) (turn_same w s c p h)))

forced_same : (w : WorldSeen) (s : State) → StandsFor w s → forced_found w ≡ forced w.image s
forced_same w s h =
    append_assoc (patch_found w) (by_processor w (taking_found w)) (by_processor w (handler_found w))
    ∙ ap (λ (cs : List Choice). cs ++ (by_processor w (taking_found w) ++ by_processor w (handler_found w))) (patch_same w s h)
    ∙ ap (λ (cs : List Choice). patch_choices s ++ (cs ++ by_processor w (handler_found w))) (by_same w s (taking_found w) (take_choices s) h (λ c p. taking_same w s c p h))
    ∙ ap (λ (cs : List Choice). patch_choices s ++ (by_cpu s (take_choices s) ++ cs)) (by_same w s (handler_found w) (handler_choices w.image s.opened) h (λ c p. handler_same w s c p h))

late_same : (idle : ℕ) → nat_le most_idle (min idle most_idle) ≡ nat_le most_idle idle
late_same idle = grind (arith, common_steps)

pub chosen_same : (w : WorldSeen) (words : ℕ) (ch : Chooser) → Chooses w words ch → chosen_found w words ≡ chosen w.image ch
chosen_same w words ch h =
    ap (λ (n : ℕ). if nat_le most_idle n then forced_or_drawn words (forced_found w) (choices_found w) else drawn words (choices_found w)) h.idle
    ∙ ap (λ (b : Bool). if b then forced_or_drawn words (forced_found w) (choices_found w) else drawn words (choices_found w)) (late_same ch.idle)
    ∙ ap (λ (n : ℕ). if nat_le most_idle ch.idle then forced_or_drawn n (forced_found w) (choices_found w) else drawn n (choices_found w)) h.words_are
    ∙ ap (λ (cs : List Choice). if nat_le most_idle ch.idle then forced_or_drawn ch.words cs (choices_found w) else drawn ch.words (choices_found w)) (forced_same w ch.state h.state)
    ∙ ap (λ (cs : List Choice). if nat_le most_idle ch.idle then forced_or_drawn ch.words (forced w.image ch.state) cs else drawn ch.words cs) (choices_same w ch.state h.state)

-- ---- what is chosen

pub takes_next : (w : WorldSeen) (ch : Chooser) (p : Pick) (e : Event) (old between new : ℕ) → Chooses w old ch → picked_of (Some p) between ≡ chosen_found w old → MakesEvent w p e between new → TakesNext w.image ch e new
takes_next w ch p e old between new h is makes = record {
  choice = choice_of p;
  drawn = between;
  takes = record { is = sym (chosen_same w old ch h) ∙ sym is; event = makes.event ch.state h.state };
  words_are = makes.words_are;
}

-- there are processors
some_cpus : (w : WorldSeen) → IsWorld w → 0 < length w.cpus
some_cpus w h =
    let r = h.reached in
    let long : length w.cpus ≡ length h.state.cpus = ap length h.stands.cpus ∙ length-map h.state.cpus (λ (p : Cpu). p.state) in
    let same : length h.state.cpus ≡ length (first w.image r.script).cpus = ap (λ (s : State). length s.cpus) r.is ∙ cpus_after w.image (first w.image r.script) r.events in
    let entries = first_long r.script.entries in
    let some = r.is_script.limits.some_cpus in
    omega (arith, long, same, entries, some)
  where
    first_long : (entries : List ℕ) → length (map starting entries) ≡ length entries
    first_long entries = length-map entries starting

none_some : (o : Option (Choice × ℕ)) → o ≡ None → IsSome o → ⊥
none_some None is some = cc
none_some (Some x) is some = cc

pub is_over : (w : WorldSeen) (ch : Chooser) (old new : ℕ) → IsWorld w → Chooses w old ch → picked_of None new ≡ chosen_found w old → new ≡ old → IsOver ch new
is_over w ch old new world h is kept = record { finished = by (choices_there w.image ch.state some); words_are = kept ∙ h.words_are }
  where
    some : 0 < length ch.state.cpus
    some =
        let few = some_cpus w world in
        let long : length w.cpus ≡ length ch.state.cpus = ap length h.state.cpus ∙ length-map ch.state.cpus (λ (p : Cpu). p.state) in
        omega (arith, few, long)

    by : IsFinished ch.state ⊎ (0 < length (choices w.image ch.state)) → IsFinished ch.state
    by (inl done) = done
    by (inr more) = absurd (none_some (chosen w.image ch) (sym (chosen_same w old ch h) ∙ sym is) (chosen_there w.image ch more))

-- a fetch is picked of a processor at a patched site
pub can_fetch : (w : WorldSeen) (old between : ℕ) (p : Pick) → IsWorld w → picked_of (Some p) between ≡ chosen_found w old → CanFetch w p
can_fetch w old between p h is c same =
    let ch : Chooser = record { state = h.state; idle = w.idle; words = old } in
    let low = h.idle in
    let chooses : Chooses w old ch = record { state = h.stands; idle = least w.idle low; words_are = refl } in
    let found : chosen w.image ch ≡ Some (choice_of p, between) = sym (chosen_same w old ch chooses) ∙ sym is in
    let may : MayChoose w.image h.state (choice_of p) = chosen_may w.image ch (choice_of p) between found in
    let turn : MayTurn w.image h.state c kind.At = subst (λ (q : Pick). MayChoose w.image h.state (choice_of q)) same may in
    record {
      turn = ap (has_turns w.batch.update) h.stands.steps ∙ ap (λ (o : Option Walk). has_turns o h.state.steps) h.stands.opened ∙ turn.turn;
      cpu = turn.cpu.state;
      here = cpu_known w h.state c turn.cpu h.stands turn.here;
      is = turn.is;
    }
  where
    least : (n : ℕ) → n ≤ most_idle → n ≡ min n most_idle
    least n low = omega (arith, low)

-- ---- one of some, by a word

get_there : (picks : List Pick) (i : ℕ) (d : Pick) → i < length picks → slice_get (map choice_of picks) i ≡ Some (choice_of (get_or picks i d))
get_there picks i d below = slice_get-map choice_of picks i ∙ ap (option_map choice_of) (slice_get-get_or picks i d below)

pub draw_is : (picks : List Pick) (place words : ℕ) (p d : Pick) → (picks ≡ [] → ⊥) → p ≡ get_or picks place d → place ≡ (mix_u64 words).0 % length picks → picked_of (Some p) (mix_u64 words).1 ≡ drawn words (map choice_of picks)
draw_is [] place words p d some is at = absurd (some refl)
draw_is (q ∷ picks) place words p d some is at =
    let long : length (map choice_of (q ∷ picks)) ≡ length (q ∷ picks) = length-map (q ∷ picks) choice_of in
    let below : (mix_u64 words).0 % length (q ∷ picks) < length (q ∷ picks) = mod-lt _ (omega arith) in
    ap (λ (x : Pick). Some (choice_of x, (mix_u64 words).1)) (is ∙ ap (λ (n : ℕ). get_or (q ∷ picks) n d) at)
    ∙ sym (ap (option_map (λ (c : Choice). (c, (mix_u64 words).1))) (ap (λ (n : ℕ). slice_get (map choice_of (q ∷ picks)) ((mix_u64 words).0 % n)) long ∙ get_there (q ∷ picks) ((mix_u64 words).0 % length (q ∷ picks)) d below))

-- ---- the bytes of a fetch

pub fetched_is : (w : WorldSeen) (s : State) (c i word : ℕ) (x d : CpuState) (bytes : List ℕ) → HasTurn w c kind.At → i ≡ c → x ≡ get_or w.cpus i d → ((p : Past) → IsWindowsOf w.text p → IsFetch (end_of p) x.proc.ip bytes) → ((p : Past) → IsWindowsOf w.text p → ArePicked word p c x.proc.ip bytes) → StandsFor w s → IsPicked w.image s c word bytes
fetched_is w s c i word x d bytes turn place is fetch picks h = record {
  cpu = may.cpu;
  here = may.here;
  fetch = subst (λ (y : CpuState). IsFetch (text_end w.image) y.proc.ip bytes) one (fetch (past_of w.image s) h.text);
  each = λ j byte at. subst (λ (y : CpuState). byte ≡ picked word j (since (start w.image) s.writes may.cpu.mark (y.proc.ip + j))) one
      (subst (λ (mark : ℕ). byte ≡ picked word j (since (start w.image) s.writes mark (x.proc.ip + j))) (mark_there s.cpus c may.cpu may.here) (picks (past_of w.image s) h.text j byte at));
}
  where
    may : MayTurn w.image s c kind.At
    may = (turn_iff w s c kind.At true ((λ sure. turn), (λ sure. refl)) h).0 refl

    one : x ≡ may.cpu.state
    one = found_is w c i kind.At x d turn place is ∙ same_Some turn.cpu may.cpu.state (sym turn.here ∙ cpu_known w s c may.cpu h may.here)

-- picks that aren't empty
pub some_picks : (picks : List Pick) → false ≡ (length picks == 0) → picks ≡ [] → ⊥
some_picks [] is none = cc
some_picks (p ∷ picks) is none = cc
