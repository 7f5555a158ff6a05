-- Within one update no processor does a site's old instruction after the new one.
use Rattle.std.proofs.Common.{◌≡◌, ◌≢◌, ◌∙◌, ◌≤◌, ◌==◌, ◌&&◌, ◌||◌, ℕ, Bool, true, false, if◌then◌else◌, List, [], ◌∷◌, ◌++◌, drop, Contains, IsSome, Option, Some, None, slice_get, refl, sym, ap, subst, arith}
use Rattle.std.proofs.lemmas.Bool.Decides.{Decides-eqb}
use Rattle.std.proofs.lemmas.Option.{none-some, same_Some}
use Rattle.insn_forms.specs.declared.forms.Change.{Change}
use Rattle.x64_subset.specs.declared.insn.Insn.{Insn}
use Rattle.x64_subset.specs.declared.proc.Proc.{Proc}
use Rattle.x64_subset.specs.Whole.{insn_of}
use Rattle.poke_batch.specs.Walk.{Walk}
use Rattle.module_image.specs.Module.{Module, plain_at}
use Rattle.run_journal.specs.declared.event.Event.{Event}
use Rattle.run_journal.specs.declared.event.Event.TheVariants.{Begin, Write, Request, Take, Return, Plain, At, Handle, Tick}
use Rattle.switching.specs.Beginning.{Beginning, Goes, Refuses}
use Rattle.switching.specs.Journal.{IsLegalSoFar, after}
use Rattle.switching.specs.Laws.{NeverOldAfterNew}
use Rattle.switching.specs.May.{May}
use Rattle.switching.specs.Next.{next}
use Rattle.switching.specs.Said.{Passes, TraceLine}
use Rattle.switching.specs.State.{State}
use Rattle.switching.specs.Switching.{AsNew, AsOld, IsInOrder, Needs, PassKind, Switching, Unchanged, at_proc, begun, begun_by, change_at, form_of, has_passed, is_breakpoint, is_named, new_pass, noted, pass_by, pass_of, passes, plain_done, returned, with_proc}
use Rattle.switching.specs.Switching as switching
use Rattle.switching.proofs.Invariant.{Related, open_changes}
use Rattle.switching.proofs.Names.{insns_differ}
use Rattle.switching.proofs.Passing.{IsMade, emulated, fetched, PassShown, changed_site, changing_is, pass_shown}
use Rattle.switching.proofs.Reached.{reached}
use Rattle.switching.proofs.Theorem.{follows, switched}

-- from n updates on, and while that update is open, a processor has passed the site of this change as new
pub record Keeps (n c at : ℕ) (k : Change) (t : Switching) : Type 0 where
  pub least : n ≤ t.updates
  pub same : t.updates ≡ n → (cs : List Change) → t.opened ≡ Some cs → (change_at (Some cs) at ≡ Some k) × (has_passed t.passed c at ≡ true)

-- a pass that was noted stays noted
noted_stays : (kind : PassKind) (d there : ℕ) (passed : List (ℕ × ℕ)) (c at : ℕ) → has_passed passed c at ≡ true → has_passed (noted kind d there passed) c at ≡ true
noted_stays (Unchanged form) d there passed c at has = has
noted_stays (AsOld form) d there passed c at has = has
noted_stays (AsNew form) d there passed c at has = by (d == c && there == at) has
  where
    by : (b : Bool) → has_passed passed c at ≡ true → (b || has_passed passed c at) ≡ true
    by true has = refl
    by false has = has

noted_one : (passed : List (ℕ × ℕ)) (c at : ℕ) → has_passed ((c, at) ∷ passed) c at ≡ true
noted_one passed c at =
    ap (λ (b : Bool). (b && at == at) || has_passed passed c at) ((Decides-eqb c c).1 refl)
    ∙ ap (λ (b : Bool). b || has_passed passed c at) ((Decides-eqb at at).1 refl)

module _ (m : Module) (n c at : ℕ) (k : Change) (t : Switching) (keeps : Keeps n c at k t) where
  keeps_passes : (d : ℕ) (kind : PassKind) (p : Proc) → Keeps n c at k (passes t d kind p)
  keeps_passes d kind p = record {
    least = keeps.least;
    same = λ now cs is. (let old = keeps.same now cs is in (old.0, noted_stays kind d p.ip t.passed c at old.1));
  }

  keeps_proc : (o : Option Proc) (f : Proc → Switching) → ((p : Proc) → Keeps n c at k (f p)) → Keeps n c at k (at_proc o t f)
  keeps_proc None f each = keeps
  keeps_proc (Some p) f each = each p

  keeps_begun : (b : Beginning) → Keeps n c at k (begun (record t { steps = drop 1 t.steps }) b)
  keeps_begun (Refuses ending) = (let least = keeps.least in record { least = omega (arith, least); same = λ now. absurd (omega (arith, now, least)) })
  keeps_begun (Goes new []) = (let least = keeps.least in record { least = omega (arith, least); same = λ now. absurd (omega (arith, now, least)) })
  keeps_begun (Goes new (x ∷ xs)) = (let least = keeps.least in record { least = omega (arith, least); same = λ now. absurd (omega (arith, now, least)) })

  keeps_begun_by : (o : Option Beginning) → Keeps n c at k (begun_by (record t { steps = drop 1 t.steps }) o)
  keeps_begun_by None = record { least = keeps.least; same = keeps.same }
  keeps_begun_by (Some b) = keeps_begun b

  keeps_returned : (o : Option (List Change)) → t.opened ≡ o → Keeps n c at k (returned t o)
  keeps_returned None is = keeps
  keeps_returned (Some cs) is = record { least = keeps.least; same = λ now xs is_open. absurd (none-some xs is_open) }

  keeps_fetch : (stop : Bool) (d : ℕ) (bytes : List ℕ) → Keeps n c at k (if stop then t else at_proc (slice_get t.procs d) t (λ p. passes t d (pass_of t p.ip bytes) p))
  keeps_fetch true d bytes = keeps
  keeps_fetch false d bytes = keeps_proc (slice_get t.procs d) (λ p. passes t d (pass_of t p.ip bytes) p) (λ p. keeps_passes d (pass_of t p.ip bytes) p)

  keeps_next : (e : Event) → Keeps n c at k (switching.next m t e)
  keeps_next Begin = keeps_begun_by (switching.found m t t.steps)
  keeps_next Write = keeps
  keeps_next Request = keeps
  keeps_next (Take d) = keeps
  keeps_next Return = keeps_returned t.opened refl
  keeps_next (Plain d) = keeps_proc (slice_get t.procs d) (λ p. with_proc t d (plain_done (plain_at m p.ip) p)) (λ p. record { least = keeps.least; same = keeps.same })
  keeps_next (At d bytes) = keeps_fetch (is_breakpoint bytes.items) d bytes.items
  keeps_next (Handle d) = keeps_proc (slice_get t.procs d) (λ p. passes t d (new_pass (change_at t.opened p.ip)) p) (λ p. keeps_passes d (new_pass (change_at t.opened p.ip)) p)
  keeps_next (Tick d) = keeps

keeps_after : (m : Module) (n c at : ℕ) (k : Change) (t : Switching) (events : List Event) → Keeps n c at k t → Keeps n c at k (switching.after m t events)
keeps_after m n c at k t [] keeps = keeps
keeps_after m n c at k t (e ∷ events) keeps = keeps_after m n c at k (switching.next m t e) events (keeps_next m n c at k t keeps e)

-- a legal prefix, and the event after it
legal_split : (m : Module) (s : State) (between : List Event) (later : Event) → IsLegalSoFar m s (between ++ later ∷ []) → IsLegalSoFar m s between × May m (after m s between) later
legal_split m s [] later legal = (tt, legal.0)
legal_split m s (e ∷ between) later legal =
    let rest = legal_split m (next m s e) between later legal.1 in
    ((legal.0, rest.0), rest.1)

-- a pass of a changed site as new is noted
first_noted : (m : Module) (t : Switching) (e : Event) (c at : ℕ) (k : Change) (shown : PassShown m t e c at (insn_of k.new)) → k.old ≢ k.new → change_at t.opened at ≡ Some k → has_passed (switching.next m t e).passed c at ≡ true
first_noted m t e c at k shown differ is = ap (λ (xs : List (ℕ × ℕ)). has_passed xs c at) shown.passed ∙ by shown.kind shown.insn_is shown.made
  where
    as_new : (kind : PassKind) → kind ≡ AsNew k.new → has_passed (noted kind c at t.passed) c at ≡ true
    as_new kind kind_is = ap (λ (x : PassKind). has_passed (noted x c at t.passed) c at) kind_is ∙ noted_one t.passed c at

    named : (kind : PassKind) (b : Bool) → kind ≡ (if b then AsNew k.new else AsOld k.old) → insn_of k.new ≡ insn_of (form_of kind) → has_passed (noted kind c at t.passed) c at ≡ true
    named kind true kind_is same = as_new kind kind_is
    named kind false kind_is same = absurd (insns_differ k.old k.new differ (sym (same ∙ ap (λ (x : PassKind). insn_of (form_of x)) kind_is)))

    by : (kind : PassKind) → insn_of k.new ≡ insn_of (form_of kind) → IsMade m t c at kind → has_passed (noted kind c at t.passed) c at ≡ true
    by kind same (fetched n bytes site kind_is in_order) =
        named kind (is_named k.new at bytes) (kind_is ∙ ap (λ (o : Option Change). pass_by o (t.forms at) at bytes) is) same
    by kind same (emulated l found_it kind_is) =
        as_new kind (kind_is ∙ ap (λ (x : Change). AsNew x.new) (same_Some l k (sym found_it ∙ is)))

-- after one that was noted the next is as new
later_new : (m : Module) (t : Switching) (e : Event) (c at : ℕ) (k : Change) (insn : Insn) (shown : PassShown m t e c at insn) → change_at t.opened at ≡ Some k → has_passed t.passed c at ≡ true → insn ≡ insn_of k.new
later_new m t e c at k insn shown is has = by shown.kind shown.insn_is shown.made
  where
    named : (kind : PassKind) (b : Bool) → kind ≡ (if b then AsNew k.new else AsOld k.old) → IsInOrder kind t.passed c at → insn ≡ insn_of (form_of kind) → insn ≡ insn_of k.new
    named kind true kind_is in_order same = same ∙ ap (λ (x : PassKind). insn_of (form_of x)) kind_is
    named kind false kind_is in_order same =
        let not_passed : has_passed t.passed c at ≡ false = subst (λ (x : PassKind). IsInOrder x t.passed c at) kind_is in_order in
        let clash : true ≡ false = sym has ∙ not_passed in
        absurd (cc)

    by : (kind : PassKind) → insn ≡ insn_of (form_of kind) → IsMade m t c at kind → insn ≡ insn_of k.new
    by kind same (fetched n bytes site kind_is in_order) =
        named kind (is_named k.new at bytes) (kind_is ∙ ap (λ (o : Option Change). pass_by o (t.forms at) at bytes) is) in_order same
    by kind same (emulated l found_it kind_is) =
        same ∙ ap (λ (x : PassKind). insn_of (form_of x)) kind_is ∙ ap (λ (x : Change). insn_of x.new) (same_Some l k (sym found_it ∙ is))

still_open : (m : Module) (s : State) (t : Switching) (o : Option Walk) → s.opened ≡ o → Related m s t → IsSome o → (cs : List Change) × (t.opened ≡ Some cs)
still_open m s t None is h some = absurd (cc)
still_open m s t (Some u) is h some = (u.changes, h.opened ∙ ap open_changes is)

pub never_old : NeverOldAfterNew
never_old m s e between later c at k insn r legal same_updates changes_it is_open first second =
    let t = (reached m s r).0 in
    let h = (reached m s r).1 in
    let f = follows m s t e r.accepted h legal.0 in
    let is : change_at t.opened at ≡ Some k = sym (changing_is m s t at h) ∙ changes_it in
    let shown = pass_shown m t e f.needs c at (insn_of k.new) (subst (λ (ls : List TraceLine). Contains ls (Passes c at (insn_of k.new))) f.lines first) in
    let differ = (changed_site m s t at k r.accepted h is).2 in
    let noted_first = first_noted m t e c at k shown differ is in
    let s1 = next m s e in
    let t1 = switching.next m t e in
    let updates = shown.updates in
    let keeps : Keeps t.updates c at k t1 = record {
      least = omega (arith, updates);
      same = λ now cs opened. (ap (λ (o : Option (List Change)). change_at o at) (sym opened ∙ shown.opened) ∙ is, noted_first);
    } in
    let split = legal_split m s1 between later legal.1 in
    let rest = switched m s1 t1 between r.accepted f.kept split.0 in
    let s2 = after m s1 between in
    let t2 = switching.after m t1 between in
    let kept = keeps_after m t.updates c at k t1 between keeps in
    let opened = still_open m s2 t2 s2.opened refl rest.related is_open in
    let now : t2.updates ≡ t.updates = rest.related.updates ∙ same_updates ∙ sym h.updates in
    let told = kept.same now opened.0 opened.1 in
    let last = follows m s2 t2 later r.accepted rest.related split.1 in
    let shown_last = pass_shown m t2 later last.needs c at insn (subst (λ (ls : List TraceLine). Contains ls (Passes c at insn)) last.lines second) in
    later_new m t2 later c at k insn shown_last (ap (λ (o : Option (List Change)). change_at o at) opened.1 ∙ told.0) told.1
