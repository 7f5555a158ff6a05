-- Whatever the choice rule may choose may come.
--
-- For the laws:
--   has_get                    slice_get xs i ≡ Some x → Has xs x
--   chosen_may                 chosen m ch ≡ Some (choice, words) → MayChoose m ch.state choice
use Rattle.std.proofs.Common.{◌≡◌, ◌⊎◌, inl, inr, ℕ, zero, suc, ◌+◌, ◌%◌, ◌&&◌, Bool, true, false, not, if◌then◌else◌, List, [], ◌∷◌, ◌++◌, length, slice_get, Option, Some, None, option_map, refl, ap, subst, ◌∙◌}
use Rattle.std.specs.Prelude.{nat_le}
use Rattle.std.specs.List.{flat_map, range_with_len}
use Rattle.std.proofs.lemmas.Bool.{and_parts}
use Rattle.std.proofs.lemmas.Option.{same_Some}
use Rattle.rand_xoshiro.specs.SplitMix64.{mix_u64}
use Rattle.cpu_core.specs.declared.turn.TurnKind.{TurnKind}
use Rattle.cpu_core.specs.declared.turn.TurnKind.TheVariants as kind
use Rattle.cpu_core.specs.Turn.{kind_of}
use Rattle.module_image.specs.Module.{Module}
use Rattle.poke_batch.specs.declared.batch.Due.{Due}
use Rattle.poke_batch.specs.declared.batch.Due.TheVariants as due
use Rattle.poke_batch.specs.Walk.{Walk, due_of, has_taken}
use Rattle.run_journal.specs.declared.event.Event.TheVariants.{Begin, Write, Request, Take, Return, Handle}
use Rattle.switching.specs.Choice.{Choice, Chooser, Comes, Fetches, by_cpu, choices, chosen, drawn, due_choices, forced, forced_or_drawn, handler_by, handler_choices, is_wait, most_idle, of_cpu, patch_by, patch_choices, take_choices, turn_choices, turn_of}
use Rattle.switching.specs.May.{May, MayTurn, has_turns, is_begun_next}
use Rattle.switching.specs.State.{Cpu, State}
use Rattle.switching.proofs.Writes.{Has, has_cases}

-- an event that may come, or a fetch of a processor that has its turn at a patched site
abbrev pub MayChoose : Module → State → Choice → Type 0
MayChoose m s (Comes e) = May m s e
MayChoose m s (Fetches c) = MayTurn m s c kind.At

-- what holds of each choice of a list
abbrev pub Each : (Choice → Type 0) → List Choice → Type 0
Each P list = (choice : Choice) → Has list choice → P choice

pub no_choice : (P : Choice → Type 0) → Each P []
no_choice P choice none = elim none [ ]

pub one_choice : (P : Choice → Type 0) (one : Choice) → P one → Each P (one ∷ [])
one_choice P one may choice (inl is) = subst P is may
one_choice P one may choice (inr none) = elim none [ ]

pub both_each : (P : Choice → Type 0) (xs ys : List Choice) → Each P xs → Each P ys → Each P (xs ++ ys)
both_each P xs ys first second choice has = elim (has_cases xs ys choice has) [ inl h ↦ first choice h | inr h ↦ second choice h ]

-- of a choice that is there where a test passes
pub where_true : (P : Choice → Type 0) (test : Bool) (one : Choice) → (test ≡ true → P one) → Each P (if test then one ∷ [] else [])
where_true P true one may = one_choice P one (may refl)
where_true P false one may = no_choice P

-- of the choices of each processor
each_number : (P : Choice → Type 0) (f : ℕ → List Choice) (a n : ℕ) → ((c : ℕ) → Each P (f c)) → Each P (flat_map f (range_with_len a n))
each_number P f a zero each = no_choice P
each_number P f a (suc n) each = both_each P (f a) (flat_map f (range_with_len (a + 1) n)) (each a) (each_number P f (a + 1) n each)

each_of_cpu : (P : Choice → Type 0) (f : Cpu → List Choice) (here : Option Cpu) → ((p : Cpu) → here ≡ Some p → Each P (f p)) → Each P (of_cpu here f)
each_of_cpu P f None each = no_choice P
each_of_cpu P f (Some p) each = each p refl

pub each_by_cpu : (P : Choice → Type 0) (s : State) (f : ℕ → Cpu → List Choice) → ((c : ℕ) (p : Cpu) → slice_get s.cpus c ≡ Some p → Each P (f c p)) → Each P (by_cpu s f)
each_by_cpu P s f each =
    each_number P (λ c. of_cpu (slice_get s.cpus c) (f c)) 0 (length s.cpus)
    (λ c. each_of_cpu P (f c) (slice_get s.cpus c) (each c))

-- the event of the patch
due_may : (m : Module) (s : State) (d : Due) → due_of s.opened ≡ d → Each (MayChoose m s) (due_choices d)
due_may m s due.Idle is = no_choice (MayChoose m s)
due_may m s (due.Write at byte) is = one_choice (MayChoose m s) (Comes Write) (record { at = at; byte = byte; is_due = is })
due_may m s due.Request is = one_choice (MayChoose m s) (Comes Request) is
due_may m s due.Wait is = no_choice (MayChoose m s)
due_may m s due.Return is = one_choice (MayChoose m s) (Comes Return) is

patch_by_may : (m : Module) (s : State) (opened : Option Walk) → s.opened ≡ opened → Each (MayChoose m s) (patch_by opened s)
patch_by_may m s None is =
    where_true (MayChoose m s) (is_begun_next s.steps) (Comes Begin) (λ next. record { closed = is; next = next })
patch_by_may m s (Some walk) is = due_may m s (due_of (Some walk)) (ap due_of is)

-- a taking
waits : (d : Due) → is_wait d ≡ true → d ≡ due.Wait
waits due.Idle is = absurd (cc)
waits (due.Write at byte) is = absurd (cc)
waits due.Request is = absurd (cc)
waits due.Wait is = refl
waits due.Return is = absurd (cc)

is_false : (b : Bool) → not b ≡ true → b ≡ false
is_false true e = absurd (cc)
is_false false e = refl

take_may : (m : Module) (s : State) (c : ℕ) (p : Cpu) → slice_get s.cpus c ≡ Some p → Each (MayChoose m s) (take_choices s c p)
take_may m s c p here =
    where_true (MayChoose m s) (is_wait (due_of s.opened) && (not p.state.trapped && not (has_taken s.opened c))) (Comes (Take c))
    (λ is.
    let parts = and_parts (is_wait (due_of s.opened)) (not p.state.trapped && not (has_taken s.opened c)) is in
    let more = and_parts (not p.state.trapped) (not (has_taken s.opened c)) parts.1 in
    record {
      waits = waits (due_of s.opened) parts.0;
      cpu = p;
      here = here;
      free = is_false p.state.trapped more.0;
      untaken = is_false (has_taken s.opened c) more.1;
    })

-- a turn, and a handler
turn_of_may : (m : Module) (s : State) (c : ℕ) (k : TurnKind) → MayTurn m s c k → MayChoose m s (turn_of c k)
turn_of_may m s c kind.Plain may = may
turn_of_may m s c kind.At may = may
turn_of_may m s c kind.Handle may = may
turn_of_may m s c kind.Tick may = may

turn_may : (m : Module) (s : State) (c : ℕ) (p : Cpu) → slice_get s.cpus c ≡ Some p → Each (MayChoose m s) (turn_choices m s c p)
turn_may m s c p here =
    where_true (MayChoose m s) (has_turns s.opened s.steps) (turn_of c (kind_of m p.state))
    (λ turn. turn_of_may m s c (kind_of m p.state) (record { turn = turn; cpu = p; here = here; is = refl }))

handler_by_may : (m : Module) (s : State) (c : ℕ) (k : TurnKind) → MayTurn m s c k → Each (MayChoose m s) (handler_by c k)
handler_by_may m s c kind.Plain may = no_choice (MayChoose m s)
handler_by_may m s c kind.At may = no_choice (MayChoose m s)
handler_by_may m s c kind.Handle may = one_choice (MayChoose m s) (Comes (Handle c)) may
handler_by_may m s c kind.Tick may = no_choice (MayChoose m s)

handler_may : (m : Module) (s : State) (opened : Option Walk) → s.opened ≡ opened → (c : ℕ) (p : Cpu) → slice_get s.cpus c ≡ Some p → Each (MayChoose m s) (handler_choices m opened c p)
handler_may m s None is c p here = no_choice (MayChoose m s)
handler_may m s (Some walk) is c p here =
    handler_by_may m s c (kind_of m p.state)
    (record { turn = ap (λ (o : Option Walk). has_turns o s.steps) is; cpu = p; here = here; is = refl })

-- all of them
pub choices_may : (m : Module) (s : State) → Each (MayChoose m s) (choices m s)
choices_may m s =
    both_each (MayChoose m s) (patch_choices s) (by_cpu s (λ c p. take_choices s c p ++ turn_choices m s c p))
    (patch_by_may m s s.opened refl)
    (each_by_cpu (MayChoose m s) s (λ c p. take_choices s c p ++ turn_choices m s c p)
    (λ c p here. both_each (MayChoose m s) (take_choices s c p) (turn_choices m s c p) (take_may m s c p here) (turn_may m s c p here)))

pub forced_may : (m : Module) (s : State) → Each (MayChoose m s) (forced m s)
forced_may m s =
    both_each (MayChoose m s) (patch_choices s) (by_cpu s (take_choices s) ++ by_cpu s (handler_choices m s.opened))
    (patch_by_may m s s.opened refl)
    (both_each (MayChoose m s) (by_cpu s (take_choices s)) (by_cpu s (handler_choices m s.opened))
    (each_by_cpu (MayChoose m s) s (take_choices s) (take_may m s))
    (each_by_cpu (MayChoose m s) s (handler_choices m s.opened) (handler_may m s s.opened refl)))

-- an element that is looked up is one
pub has_get : {A : Type 0} (xs : List A) (i : ℕ) (x : A) → slice_get xs i ≡ Some x → Has xs x
has_get [] i x is = absurd (cc)
has_get (y ∷ xs) zero x is = inl (same_Some y x is)
has_get (y ∷ xs) (suc i) x is = inr (has_get xs i x is)

-- what is drawn is one of all
pub drawn_has : (words : ℕ) (all : List Choice) (choice : Choice) (after : ℕ) → drawn words all ≡ Some (choice, after) → Has all choice
drawn_has words [] choice after is = absurd (cc)
drawn_has words (first ∷ more) choice after is =
    by (slice_get (first ∷ more) ((mix_u64 words).0 % length (first ∷ more))) refl is
  where
    by : (o : Option Choice) → slice_get (first ∷ more) ((mix_u64 words).0 % length (first ∷ more)) ≡ o → option_map {U = Choice × ℕ} (λ c. (c, (mix_u64 words).1)) o ≡ Some (choice, after) → Has (first ∷ more) choice
    by None e f = absurd (cc)
    by (Some c) e f =
        let same : c ≡ choice = ap (λ (pair : Choice × ℕ). pair.0) (same_Some (c, (mix_u64 words).1) (choice, after) f) in
        has_get (first ∷ more) _ choice (e ∙ ap (λ (x : Choice). Some x) same)

-- what is chosen is one of the forced, or of all
pub forced_or_drawn_has : (words : ℕ) (some all : List Choice) (choice : Choice) (after : ℕ) → forced_or_drawn words some all ≡ Some (choice, after) → Has some choice ⊎ Has all choice
forced_or_drawn_has words [] all choice after is = inr (drawn_has words all choice after is)
forced_or_drawn_has words (first ∷ more) all choice after is =
    inl (inl (ap (λ (pair : Choice × ℕ). pair.0) (same_Some (first, words) (choice, after) is)))

pub chosen_may : (m : Module) (ch : Chooser) (choice : Choice) (after : ℕ) → chosen m ch ≡ Some (choice, after) → MayChoose m ch.state choice
chosen_may m ch choice after is = by (nat_le most_idle ch.idle) is
  where
    by : (b : Bool) → (if b then forced_or_drawn ch.words (forced m ch.state) (choices m ch.state) else drawn ch.words (choices m ch.state)) ≡ Some (choice, after) → MayChoose m ch.state choice
    by true e =
        elim (forced_or_drawn_has ch.words (forced m ch.state) (choices m ch.state) choice after e) [
          | inl has ↦ forced_may m ch.state choice has
          | inr has ↦ choices_may m ch.state choice has
        ]
    by false e = choices_may m ch.state choice (drawn_has ch.words (choices m ch.state) choice after e)
