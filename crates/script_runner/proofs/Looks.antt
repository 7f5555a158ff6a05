-- What a running machine finds is what may come in the states that it stands for.
use Rattle.std.proofs.Common.{◌≡◌, ◌∙◌, ◌↔◌, ◌⊎◌, ◌<◌, inl, inr, ℕ, Bool, true, false, List, [], ◌∷◌, get_or, Option, Some, None, IsTrue, slice_get, refl, sym, ap, subst, arith}
use Rattle.std.proofs.lemmas.Option.{get_or_from_slice_get, same_Some}
use Rattle.cpu_core.specs.declared.turn.TurnKind.TheVariants as kind
use Rattle.cpu_core.specs.Fetch.{AreCandidates, IsFetch}
use Rattle.cpu_core.specs.Standing.{AreIts, end_of}
use Rattle.stale_fetch.specs.Past.{Past}
use Rattle.stale_fetch.specs.Text.{Covers}
use Rattle.stale_fetch.specs.Windows.{IsWindowsOf, window_shape}
use Rattle.stale_fetch.specs.WindowLaws.{windows_agree}
use Rattle.switching.proofs.Patched.{site_of}
use Rattle.switching.proofs.Turns.{is_at}
use Rattle.script_runner.proofs.Pasts.{mark_there}
use Rattle.cpu_core.specs.declared.turn.TurnKind.{TurnKind}
use Rattle.cpu_core.specs.Turn.{CpuState, kind_of}
use Rattle.poke_batch.specs.declared.batch.Due.{Due}
use Rattle.poke_batch.specs.declared.batch.Due.TheVariants as due
use Rattle.poke_batch.specs.Poke.{Item}
use Rattle.poke_batch.specs.Poke.Item.{Puts, Syncs}
use Rattle.poke_batch.specs.Walk.{Walk, due_at, due_of, has_taken}
use Rattle.script_text.specs.declared.script.ScriptStep.{ScriptStep}
use Rattle.switching.specs.Journal.{IsFinished}
use Rattle.switching.specs.May.{MayAt, MayBegin, MayTake, MayTurn, MayWrite, has_turns, is_begun_next}
use Rattle.switching.specs.State.{Cpu, State, start, text_end}
use Rattle.script_runner.specs.Steps.{front}
use Rattle.script_runner.specs.Turns.{Begins, HasTurn, TakesRequest}
use Rattle.script_runner.specs.World.{IsWorld, StandsFor, WorldSeen, left, past_of}
use Rattle.script_runner.proofs.Turning.{IsThere, there}
use Rattle.script_runner.proofs.WorldFacts.{cpu_known, due_idle}

-- ---- what is due

pub closed_iff : (o : Option Walk) → ((due_of o ≡ due.Idle) ↔ (o ≡ None))
closed_iff o = (due_idle o, (λ none. ap due_of none))

-- turns, by what is due
abbrev pub turns_by : Due → List ScriptStep → Bool
turns_by due.Idle steps = has_turns None steps
turns_by (due.Write at byte) steps = true
turns_by due.Request steps = true
turns_by due.Wait steps = true
turns_by due.Return steps = true

turns_open : (walk : Walk) (left : List Item) (requested : Bool) (steps : List ScriptStep) → true ≡ turns_by (due_at left requested) steps
turns_open walk [] requested steps = refl
turns_open walk (Puts w ∷ left) requested steps = refl
turns_open walk (Syncs ∷ left) true steps = refl
turns_open walk (Syncs ∷ left) false steps = refl

pub turns_by_due : (o : Option Walk) (steps : List ScriptStep) → has_turns o steps ≡ turns_by (due_of o) steps
turns_by_due None steps = refl
turns_by_due (Some walk) steps = turns_open walk walk.left walk.requested steps

-- ---- each event

pub begin_iff : (w : WorldSeen) (s : State) (b : Bool) → (IsTrue b ↔ Begins w) → StandsFor w s → (IsTrue b ↔ MayBegin s)
begin_iff w s b is h = (
  (λ yes. let begins = is.0 yes in record { closed = sym h.opened ∙ begins.closed; next = ap is_begun_next (sym h.steps) ∙ begins.next }),
  (λ may. is.1 (record { closed = h.opened ∙ may.closed; next = ap is_begun_next h.steps ∙ may.next })),
)

pub turn_iff : (w : WorldSeen) (s : State) (c : ℕ) (kind : TurnKind) (b : Bool) → (IsTrue b ↔ HasTurn w c kind) → StandsFor w s → (IsTrue b ↔ MayTurn w.image s c kind)
turn_iff w s c kind b is h = (
  (λ yes. let turn = is.0 yes in
      let t = there w s c turn.cpu h turn.here in
      record {
        turn = ap (λ (o : Option Walk). has_turns o s.steps) (sym h.opened) ∙ ap (has_turns w.batch.update) (sym h.steps) ∙ turn.turn;
        cpu = t.cpu;
        here = t.here;
        is = ap (kind_of w.image) t.is ∙ turn.is;
      }),
  (λ may. is.1 (record {
    turn = ap (has_turns w.batch.update) h.steps ∙ ap (λ (o : Option Walk). has_turns o s.steps) h.opened ∙ may.turn;
    cpu = may.cpu.state;
    here = cpu_known w s c may.cpu h may.here;
    is = may.is;
  })),
)

pub take_iff : (w : WorldSeen) (s : State) (c : ℕ) (b : Bool) → (IsTrue b ↔ TakesRequest w c) → StandsFor w s → (IsTrue b ↔ MayTake s c)
take_iff w s c b is h = (
  (λ yes. let takes = is.0 yes in
      let t = there w s c takes.cpu h takes.here in
      record {
        waits = ap due_of (sym h.opened) ∙ takes.waits;
        cpu = t.cpu;
        here = t.here;
        free = ap (λ (x : CpuState). x.trapped) t.is ∙ takes.free;
        untaken = ap (λ (o : Option Walk). has_taken o c) (sym h.opened) ∙ takes.untaken;
      }),
  (λ may. is.1 (record {
    waits = ap due_of h.opened ∙ may.waits;
    cpu = may.cpu.state;
    here = cpu_known w s c may.cpu h may.here;
    free = may.free;
    untaken = ap (λ (o : Option Walk). has_taken o c) h.opened ∙ may.untaken;
  })),
)

pub due_iff : (w : WorldSeen) (s : State) (d : Due) (b : Bool) → (IsTrue b ↔ (due_of w.batch.update ≡ d)) → StandsFor w s → (IsTrue b ↔ (due_of s.opened ≡ d))
due_iff w s d b is h =
    ((λ yes. ap due_of (sym h.opened) ∙ is.0 yes), (λ may. is.1 (ap due_of h.opened ∙ may)))

abbrev pub is_write : Due → Bool
is_write due.Idle = false
is_write (due.Write at byte) = true
is_write due.Request = false
is_write due.Wait = false
is_write due.Return = false

written : (d : Due) → is_write d ≡ true → (at : ℕ) × (byte : ℕ) × (d ≡ due.Write at byte)
written due.Idle is = absurd (cc)
written (due.Write at byte) is = (at, byte, refl)
written due.Request is = absurd (cc)
written due.Wait is = absurd (cc)
written due.Return is = absurd (cc)

pub write_iff : (w : WorldSeen) (s : State) (b : Bool) → b ≡ is_write (due_of w.batch.update) → StandsFor w s → (IsTrue b ↔ MayWrite s)
write_iff w s b is h = (
  (λ yes. let told = written (due_of w.batch.update) (sym is ∙ yes) in record { at = told.0; byte = told.1; is_due = ap due_of (sym h.opened) ∙ told.2 }),
  (λ may. is ∙ ap is_write (ap due_of h.opened ∙ may.is_due)),
)

none_left : (steps : List ScriptStep) → front steps ≡ None → steps ≡ []
none_left [] is = refl
none_left (step ∷ steps) is = absurd (cc)

pub finished_iff : (w : WorldSeen) (s : State) (b : Bool) → (IsTrue b ↔ ((due_of w.batch.update ≡ due.Idle) × (front (left w) ≡ None))) → StandsFor w s → (IsTrue b ↔ IsFinished s)
finished_iff w s b is h = (
  (λ yes. let told = is.0 yes in record { steps = sym h.steps ∙ none_left (left w) told.1; closed = sym h.opened ∙ due_idle w.batch.update told.0 }),
  (λ done. is.1 (ap due_of (h.opened ∙ done.closed), ap front (h.steps ∙ done.steps))),
)

-- ---- a fetch

-- a processor found by its number
pub found_is : (w : WorldSeen) (c i : ℕ) (kind : TurnKind) (x d : CpuState) → (turn : HasTurn w c kind) → i ≡ c → x ≡ get_or w.cpus i d → x ≡ turn.cpu
found_is w c i kind x d turn place is = is ∙ ap (λ (n : ℕ). get_or w.cpus n d) place ∙ get_or_from_slice_get w.cpus c turn.cpu d turn.here

pub at_inside : (w : WorldSeen) (c i : ℕ) (x d : CpuState) → IsWorld w → HasTurn w c kind.At → i ≡ c → x ≡ get_or w.cpus i d → Covers (window_shape w.text) x.proc.ip
at_inside w c i x d h turn place is =
    subst (λ (y : CpuState). Covers (window_shape w.text) y.proc.ip) (sym (found_is w c i kind.At x d turn place is)) covers
  where
    covers : Covers (window_shape w.text) turn.cpu.proc.ip
    covers =
        let told = is_at w.image turn.cpu.trapped turn.cpu.proc.ip turn.cpu.proc.life turn.is in
        let site = site_of w.image turn.cpu.proc.ip told.2 h.reached.accepted told.3 in
        let agree = windows_agree w.text (past_of w.image h.state) h.stands.text in
        let base = agree.base in
        let size = agree.size in
        let from = site.from in
        let to = site.to in
        let long : 0 < site.site.len = some_bytes site.site.len site.two_or_five in
        record { from = omega (arith, base, from); below = omega (arith, base, size, to, long) }
      where
        some_bytes : (n : ℕ) → (n ≡ 2) ⊎ (n ≡ 5) → 0 < n
        some_bytes n (inl two) = omega (arith, two)
        some_bytes n (inr five) = omega (arith, five)

pub fetch_iff : (w : WorldSeen) (s : State) (c i : ℕ) (bytes : List ℕ) (x d : CpuState) (b : Bool) → HasTurn w c kind.At → i ≡ c → x ≡ get_or w.cpus i d → ((p : Past) → IsWindowsOf w.text p → (IsTrue b ↔ (IsFetch (end_of p) x.proc.ip bytes × AreIts p c x.proc.ip bytes))) → StandsFor w s → (IsTrue b ↔ MayAt w.image s c bytes)
fetch_iff w s c i bytes x d b turn place is clause h = (forward, back)
  where
    same : x ≡ turn.cpu
    same = found_is w c i kind.At x d turn place is

    t : IsThere s c turn.cpu
    t = there w s c turn.cpu h turn.here

    may : MayTurn w.image s c kind.At
    may = (turn_iff w s c kind.At true ((λ yes. turn), (λ yes. refl)) h).0 refl

    one : (p : Cpu) → slice_get s.cpus c ≡ Some p → x ≡ p.state
    one p here = same ∙ same_Some turn.cpu p.state (sym turn.here ∙ cpu_known w s c p h here)

    forward : IsTrue b → MayAt w.image s c bytes
    forward sure =
        let told = (clause (past_of w.image s) h.text).0 sure in
        record {
          turn = may;
          fetch = subst (λ (y : CpuState). IsFetch (text_end w.image) y.proc.ip bytes) (one may.cpu may.here) told.0;
          stood = subst (λ (mark : ℕ). AreCandidates (start w.image) s.writes mark may.cpu.state.proc.ip bytes) (mark_there s.cpus c may.cpu may.here) (subst (λ (y : CpuState). AreIts (past_of w.image s) c y.proc.ip bytes) (one may.cpu may.here) told.1);
        }

    back : MayAt w.image s c bytes → IsTrue b
    back at =
        (clause (past_of w.image s) h.text).1 (
          subst (λ (y : CpuState). IsFetch (text_end w.image) y.proc.ip bytes) (sym (one at.turn.cpu at.turn.here)) at.fetch,
          subst (λ (y : CpuState). AreIts (past_of w.image s) c y.proc.ip bytes) (sym (one at.turn.cpu at.turn.here)) (subst (λ (mark : ℕ). AreCandidates (start w.image) s.writes mark at.turn.cpu.state.proc.ip bytes) (sym (mark_there s.cpus c at.turn.cpu at.turn.here)) at.stood),
        )

-- where it has no such turn it may not
pub no_fetch : (w : WorldSeen) (s : State) (c : ℕ) (bytes : List ℕ) (b : Bool) → (IsTrue b ↔ HasTurn w c kind.At) → b ≡ false → StandsFor w s → (IsTrue false ↔ MayAt w.image s c bytes)
no_fetch w s c bytes b is not_so h = (
  (λ yes. absurd (cc)),
  (λ at. let yes : b ≡ true = is.1 (record {
    turn = ap (has_turns w.batch.update) h.steps ∙ ap (λ (o : Option Walk). has_turns o s.steps) h.opened ∙ at.turn.turn;
    cpu = at.turn.cpu.state;
    here = cpu_known w s c at.turn.cpu h at.turn.here;
    is = at.turn.is;
  }) in absurd (cc)),
)
