-- Once 16 events have come without one of the patch, what comes is its event, a taking, or a handler while a taking is waited for.
--
-- For the laws:
--   someone                    where a request waits there is a taking or a handler
--   chosen_late                16 ≤ ch.idle → an update is open → chosen m ch ≡ Some (choice, words) → IsNoTurn ch.state choice
use Rattle.std.proofs.Common.{◌≡◌, ◌⊎◌, inl, inr, ℕ, zero, suc, ◌+◌, ◌<◌, ◌≤◌, ◌&&◌, Bool, true, false, not, if◌then◌else◌, List, [], ◌∷◌, ◌++◌, length, slice_get, Option, Some, None, refl, ap, sym, subst, ◌∙◌, arith, length-append}
use Rattle.std.specs.Prelude.{⊤}
use Rattle.std.specs.List.{flat_map, range_with_len}
use Rattle.std.proofs.lemmas.Bool.{and_from, cases_order, le-leb}
use Rattle.std.proofs.lemmas.Option.{same_Some, slice_get_within}
use Rattle.cpu_core.specs.declared.turn.TurnKind.{TurnKind}
use Rattle.cpu_core.specs.declared.turn.TurnKind.TheVariants as kind
use Rattle.cpu_core.specs.Turn.{kind_by, kind_of}
use Rattle.module_image.specs.Module.{Module}
use Rattle.poke_batch.specs.declared.batch.Due.{Due}
use Rattle.poke_batch.specs.declared.batch.Due.TheVariants as due
use Rattle.poke_batch.specs.Poke.{Item}
use Rattle.poke_batch.specs.Poke.Item.{Puts, Syncs}
use Rattle.poke_batch.specs.Walk.{Walk, due_at, due_of, has_taken}
use Rattle.run_journal.specs.declared.event.Event.TheVariants.{Begin, Write, Request, Take, Return, Plain, At, Handle, Tick}
use Rattle.x64_subset.specs.declared.proc.Life.{Life}
use Rattle.x64_subset.specs.declared.proc.Life.TheVariants.{Running}
use Rattle.switching.specs.Choice.{Choice, Chooser, Comes, Fetches, by_cpu, choices, chosen, drawn, due_choices, forced, forced_or_drawn, handler_by, handler_choices, is_wait, most_idle, of_cpu, patch_by, take_choices}
use Rattle.switching.specs.State.{Cpu, State}
use Rattle.switching.proofs.ChoiceAllowed.{Each, both_each, each_by_cpu, no_choice, one_choice, where_true}
use Rattle.switching.proofs.Writes.{Has}

-- a choice that is no turn of a processor, but for a handler where a request waits
abbrev pub IsNoTurn : State → Choice → Type 0
IsNoTurn s (Comes Begin) = ⊤
IsNoTurn s (Comes Write) = ⊤
IsNoTurn s (Comes Request) = ⊤
IsNoTurn s (Comes (Take c)) = ⊤
IsNoTurn s (Comes Return) = ⊤
IsNoTurn s (Comes (Plain c)) = ⊥
IsNoTurn s (Comes (At c bytes)) = ⊥
IsNoTurn s (Comes (Handle c)) = due_of s.opened ≡ due.Wait
IsNoTurn s (Comes (Tick c)) = ⊥
IsNoTurn s (Fetches c) = ⊥

-- takings and, where a request waits, handlers
takes_no_turn : (s : State) → Each (IsNoTurn s) (by_cpu s (take_choices s))
takes_no_turn s =
    each_by_cpu (IsNoTurn s) s (take_choices s)
    (λ c p here. where_true (IsNoTurn s) (is_wait (due_of s.opened) && (not p.state.trapped && not (has_taken s.opened c))) (Comes (Take c)) (λ is. tt))

handler_no_turn : (s : State) (c : ℕ) (k : TurnKind) → due_of s.opened ≡ due.Wait → Each (IsNoTurn s) (handler_by c k)
handler_no_turn s c kind.Plain waits = no_choice (IsNoTurn s)
handler_no_turn s c kind.At waits = no_choice (IsNoTurn s)
handler_no_turn s c kind.Handle waits = one_choice (IsNoTurn s) (Comes (Handle c)) waits
handler_no_turn s c kind.Tick waits = no_choice (IsNoTurn s)

handlers_no_turn : (m : Module) (s : State) (opened : Option Walk) → due_of s.opened ≡ due.Wait → Each (IsNoTurn s) (by_cpu s (handler_choices m opened))
handlers_no_turn m s opened waits = each_by_cpu (IsNoTurn s) s (handler_choices m opened) (by opened)
  where
    by : (o : Option Walk) (c : ℕ) (p : Cpu) → slice_get s.cpus c ≡ Some p → Each (IsNoTurn s) (handler_choices m o c p)
    by None c p here = no_choice (IsNoTurn s)
    by (Some walk) c p here = handler_no_turn s c (kind_of m p.state) waits

-- ---- where a request waits there is one of them

-- joined lists of which one has an element
some_of_range : (f : ℕ → List Choice) (a n c : ℕ) → a ≤ c → c < a + n → 0 < length (f c) → 0 < length (flat_map f (range_with_len a n))
some_of_range f a zero c from to some = absurd (omega (arith, from, to))
some_of_range f a (suc n) c from to some = by (cases_order a c) (some_of_range f (a + 1) n c)
  where
    by : (a ≡ c) ⊎ ((a < c) ⊎ (c < a)) → (a + 1 ≤ c → c < a + 1 + n → 0 < length (f c) → 0 < length (flat_map f (range_with_len (a + 1) n))) → 0 < length (f a ++ flat_map f (range_with_len (a + 1) n))
    by (inl same) more =
        let long = length-append (f a) (flat_map f (range_with_len (a + 1) n)) in
        let here : 0 < length (f a) = subst (λ (k : ℕ). 0 < length (f k)) (sym same) some in
        omega (arith, long, here)
    by (inr (inl less)) more =
        let long = length-append (f a) (flat_map f (range_with_len (a + 1) n)) in
        let later = more (omega (arith, less)) (omega (arith, to)) some in
        omega (arith, long, later)
    by (inr (inr other)) more = absurd (omega (arith, other, from))

some_by_cpu : (s : State) (f : ℕ → Cpu → List Choice) (c : ℕ) (p : Cpu) → slice_get s.cpus c ≡ Some p → 0 < length (f c p) → 0 < length (by_cpu s f)
some_by_cpu s f c p here some =
    some_of_range (λ d. of_cpu (slice_get s.cpus d) (f d)) 0 (length s.cpus) c (omega arith) (omega (arith, slice_get_within s.cpus c p here))
    (subst (λ (o : Option Cpu). 0 < length (of_cpu o (f c))) (sym here) some)

-- one that hasn't taken the request takes it, or is in the handler and leaves it
pub someone : (m : Module) (s : State) (walk : Walk) (c : ℕ) (p : Cpu) → s.opened ≡ Some walk → due_of s.opened ≡ due.Wait → slice_get s.cpus c ≡ Some p → has_taken s.opened c ≡ false → (p.state.trapped ≡ true → p.state.proc.life ≡ Running) → 0 < length (by_cpu s (take_choices s) ++ by_cpu s (handler_choices m s.opened))
someone m s walk c p opened waits here untaken steady = by p.state.trapped refl
  where
    by : (b : Bool) → p.state.trapped ≡ b → 0 < length (by_cpu s (take_choices s) ++ by_cpu s (handler_choices m s.opened))
    by false free =
        let test : (is_wait (due_of s.opened) && (not p.state.trapped && not (has_taken s.opened c))) ≡ true = and_from _ _ (ap is_wait waits) (and_from _ _ (ap not free) (ap not untaken)) in
        let one : 0 < length (take_choices s c p) = subst (λ (t : Bool). 0 < length (if t then Comes (Take c) ∷ [] else [])) (sym test) (omega arith) in
        let some = some_by_cpu s (take_choices s) c p here one in
        let long = length-append (by_cpu s (take_choices s)) (by_cpu s (handler_choices m s.opened)) in
        omega (arith, some, long)
    by true caught =
        let kind : kind_of m p.state ≡ kind.Handle = ap (λ (b : Bool). kind_by m b p.state.proc.ip p.state.proc.life) caught ∙ ap (λ (l : Life). kind_by m true p.state.proc.ip l) (steady caught) in
        let one : 0 < length (handler_choices m s.opened c p) = subst (λ (o : Option Walk). 0 < length (handler_choices m o c p)) (sym opened)
        (subst (λ (k : TurnKind). 0 < length (handler_by c k)) (sym kind) (omega arith)) in
        let some = some_by_cpu s (handler_choices m s.opened) c p here one in
        let long = length-append (by_cpu s (take_choices s)) (by_cpu s (handler_choices m s.opened)) in
        omega (arith, some, long)

-- ---- what comes late

-- what is forced comes
first_comes : (words : ℕ) (some all : List Choice) (choice : Choice) (after : ℕ) → 0 < length some → forced_or_drawn words some all ≡ Some (choice, after) → Has some choice
first_comes words [] all choice after none is = absurd (omega arith)
first_comes words (first ∷ more) all choice after some is =
    inl (ap (λ (pair : Choice × ℕ). pair.0) (same_Some (first, words) (choice, after) is))

the_first : (s : State) (words : ℕ) (one choice : Choice) (after : ℕ) → IsNoTurn s one → ◌≡◌ {A = Option (Choice × ℕ)} (Some (one, words)) (Some (choice, after)) → IsNoTurn s choice
the_first s words one choice after no_turn is =
    subst (IsNoTurn s) (ap (λ (pair : Choice × ℕ). pair.0) (same_Some (one, words) (choice, after) is)) no_turn

-- while an update is open something is due
never_idle : (left : List Item) (requested : Bool) → due_at left requested ≡ due.Idle → ⊥
never_idle [] requested is = absurd (cc)
never_idle (Puts w ∷ left) requested is = absurd (cc)
never_idle (Syncs ∷ left) true is = absurd (cc)
never_idle (Syncs ∷ left) false is = absurd (cc)

-- what may be forced when no event of the patch may come
abbrev others : Module → State → List Choice
others m s = by_cpu s (take_choices s) ++ by_cpu s (handler_choices m s.opened)

-- the first of what is forced is the event that is due; where a taking is waited for all that is forced is no turn
due_comes : (s : State) (words : ℕ) (rest all : List Choice) (choice : Choice) (after : ℕ) (d : Due) → (d ≡ due.Idle → ⊥) → (d ≡ due.Wait → (0 < length rest) × Each (IsNoTurn s) rest) → forced_or_drawn words (due_choices d ++ rest) all ≡ Some (choice, after) → IsNoTurn s choice
due_comes s words rest all choice after due.Idle busy waits is = absurd (busy refl)
due_comes s words rest all choice after (due.Write at byte) busy waits is = the_first s words (Comes Write) choice after tt is
due_comes s words rest all choice after due.Request busy waits is = the_first s words (Comes Request) choice after tt is
due_comes s words rest all choice after due.Wait busy waits is =
    (waits refl).1 choice (first_comes words rest all choice after (waits refl).0 is)
due_comes s words rest all choice after due.Return busy waits is = the_first s words (Comes Return) choice after tt is

patch_is : (s : State) (walk : Walk) (o : Option Walk) → o ≡ Some walk → patch_by o s ≡ due_choices (due_of o)
patch_is s walk None is = absurd (cc)
patch_is s walk (Some other) is = refl

pub chosen_late : (m : Module) (ch : Chooser) (walk : Walk) (choice : Choice) (after : ℕ) → ch.state.opened ≡ Some walk → 16 ≤ ch.idle → (due_of ch.state.opened ≡ due.Wait → 0 < length (by_cpu ch.state (take_choices ch.state) ++ by_cpu ch.state (handler_choices m ch.state.opened))) → chosen m ch ≡ Some (choice, after) → IsNoTurn ch.state choice
chosen_late m ch walk choice after opened late some is =
    due_comes ch.state ch.words (others m ch.state) (choices m ch.state) choice after (due_of ch.state.opened)
    (λ idle. never_idle walk.left walk.requested (sym (ap due_of opened) ∙ idle))
    (λ waits. (some waits, both_each (IsNoTurn ch.state) (by_cpu ch.state (take_choices ch.state)) (by_cpu ch.state (handler_choices m ch.state.opened)) (takes_no_turn ch.state) (handlers_no_turn m ch.state ch.state.opened waits)))
    (sym (ap (λ (l : List Choice). forced_or_drawn ch.words (l ++ others m ch.state) (choices m ch.state)) (patch_is ch.state walk ch.state.opened opened))
    ∙ (sym (ap (λ (b : Bool). if b then forced_or_drawn ch.words (forced m ch.state) (choices m ch.state) else drawn ch.words (choices m ch.state)) (le-leb most_idle ch.idle late)) ∙ is))
