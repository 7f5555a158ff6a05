-- No turn is torn, and each pass that is shown is a whole instruction.
use Rattle.std.proofs.Common.{◌≡◌, ◌≢◌, ◌∙◌, ◌+◌, ◌⊎◌, inl, inr, ℕ, Bool, true, false, if◌then◌else◌, List, [], ◌∷◌, Contains, Option, Some, None, slice_get, refl, sym, ap, subst}
use Rattle.std.proofs.lemmas.Option.{none-some, same_Some, slice_get_within}
use Rattle.insn_forms.specs.declared.forms.Change.{Change}
use Rattle.x64_subset.specs.declared.insn.Insn.{Insn}
use Rattle.x64_subset.specs.declared.proc.Life.{Life}
use Rattle.x64_subset.specs.declared.proc.Life.TheVariants.{Running}
use Rattle.x64_subset.specs.declared.proc.Mark.{Mark}
use Rattle.x64_subset.specs.declared.proc.Mark.TheVariants.{None as NoMark, Out, Ended}
use Rattle.x64_subset.specs.declared.proc.Proc.{Proc}
use Rattle.x64_subset.specs.Effect.{does}
use Rattle.x64_subset.specs.Whole.{insn_of, whole}
use Rattle.cpu_core.specs.declared.turn.Stepped.TheVariants.{Plain as PlainDone, Trapped, Torn}
use Rattle.cpu_core.specs.Turn.{at_answer, plain_answer, plain_here}
use Rattle.int3_handler.specs.Handler.{answer}
use Rattle.poke_batch.specs.Walk.{Walk}
use Rattle.module_image.specs.Flows.{Flows}
use Rattle.module_image.specs.Layout.{site_at}
use Rattle.module_image.specs.Lent.{IsPatchedSite}
use Rattle.module_image.specs.Module.{IsAccepted, Module, layout_of, plain_at}
use Rattle.run_journal.specs.declared.event.Event.{Event}
use Rattle.run_journal.specs.declared.event.Event.TheVariants.{Begin, Write, Request, Take, Return, Plain, At, Handle, Tick}
use Rattle.script_text.specs.declared.script.ScriptStep.{ScriptStep}
use Rattle.script_text.specs.declared.script.ScriptStep.TheVariants as step
use Rattle.switching.specs.Beginning.{Beginning, Goes, Refuses}
use Rattle.switching.specs.Laws.{IsPass, IsPassOf, IsWhole, NothingIsTorn, OnlyTheNewAfterReturn, PassesAreWhole, changing}
use Rattle.switching.specs.May.{May, MayAt}
use Rattle.switching.specs.Said.{Drops, Ends, Opens, Outs, Passes, Stops, TraceLine, said_begun, said_first, said_mark, said_step}
use Rattle.switching.specs.State.{Cpu, State}
use Rattle.switching.specs.Switching.{AsNew, AsOld, Needs, NeedsAt, NeedsPass, PassKind, Switching, Unchanged, IsInOrder, at_proc, change_at, form_of, is_breakpoint, is_named, new_pass, noted, of_proc, pass_by, pass_of, passes, said_done, said_pass, wanted_at}
use Rattle.switching.specs.Switching as switching
use Rattle.switching.proofs.Changed.{unchanged}
use Rattle.switching.proofs.Fetching.{AtIs, does_form, hits, at_site, is_changed}
use Rattle.switching.proofs.Handling.{handle_ours}
use Rattle.switching.proofs.Invariant.{Opened, Related, open_changes}
use Rattle.switching.proofs.Lookups.{Found, found, missed, look, in_cases, none_in}
use Rattle.switching.proofs.Patched.{site_of, plain_there}
use Rattle.switching.proofs.Reached.{closed_at, opened_at, reached}
use Rattle.switching.proofs.Theorem.{follows}
use Rattle.switching.proofs.Turns.{is_at, is_plain, pass_answer, same_proc, trap_answer}

-- ---- nothing is torn

plain_whole : (m : Module) (s : State) (t : Switching) (c : ℕ) → IsAccepted m → Related m s t → May m s (Plain c) → IsWhole m s (Plain c)
plain_whole m s t c accepted h may p here torn =
    let same : may.cpu ≡ p = same_Some may.cpu p (sym may.here ∙ here) in
    let q = may.cpu in
    let told = is_plain m q.state.trapped q.state.proc.ip q.state.proc.life may.is in
    let pair = h.pair c q may.here in
    let flows : Flows (layout_of m) q.state.proc = subst (λ (r : Proc). Flows (layout_of m) r) (sym (same_proc m t c q pair told.1 told.0)) pair.flows in
    let insn = plain_there m q.state.proc accepted flows told.0 told.2 in
    let answered : plain_answer (plain_here m q.state) q.state.proc ≡ PlainDone (does insn.insn insn.len q.state.proc).1 = ap (λ (o : Option (Insn × ℕ)). plain_answer o q.state.proc) insn.is in
    let clash : PlainDone (does insn.insn insn.len q.state.proc).1 ≡ Torn = sym answered ∙ ap (λ (x : Cpu). plain_answer (plain_here m x.state) x.state.proc) same ∙ torn in
    absurd (cc)

at_whole : (m : Module) (s : State) (t : Switching) (c : ℕ) (bytes : List ℕ) → IsAccepted m → Related m s t → MayAt m s c bytes → (p : Cpu) → slice_get s.cpus c ≡ Some p → at_answer bytes p.state ≢ Torn
at_whole m s t c bytes accepted h may p here torn =
    by (at_site m s.writes s.cpus s.states t.forms t.passed s.opened accepted h.states_of h.stands c q may.turn.here q.state.proc.ip told.2 bytes told.3 may.fetch may.stood)
  where
    q : Cpu
    q = may.turn.cpu

    told : (q.state.proc.life ≡ Running) × (q.state.trapped ≡ false) × (n : ℕ) × (site_at m.sites q.state.proc.ip ≡ Some n)
    told = is_at m q.state.trapped q.state.proc.ip q.state.proc.life may.turn.is

    same : q ≡ p
    same = same_Some q p (sym may.turn.here ∙ here)

    torn_there : at_answer bytes q.state ≡ Torn
    torn_there = ap (λ (x : Cpu). at_answer bytes x.state) same ∙ torn

    by : AtIs m s.writes s.cpus s.states t.forms t.passed s.opened h.stands c q q.state.proc.ip bytes → ⊥
    by (hits trap ok) = (let clash : Trapped ≡ Torn = sym (trap_answer q.state bytes trap) ∙ torn_there in absurd (cc))
    by (does_form passing kind_is named in_order of of_states wanted ok) =
        let clash = sym (pass_answer (form_of passing) q.state bytes named) ∙ torn_there in
        absurd (cc)

handle_whole : (m : Module) (s : State) (t : Switching) (c : ℕ) → IsAccepted m → Related m s t → May m s (Handle c) → IsWhole m s (Handle c)
handle_whole m s t c accepted h may p here not_ours =
    let same : may.cpu ≡ p = same_Some may.cpu p (sym may.here ∙ here) in
    handle_ours m s t c accepted h may (ap (λ (x : Cpu). answer s.opened x.state.proc) same ∙ not_ours)

pub nothing_torn : NothingIsTorn
nothing_torn m s (Plain c) r may = plain_whole m s (reached m s r).0 c r.accepted (reached m s r).1 may
nothing_torn m s (At c bytes) r may = at_whole m s (reached m s r).0 c bytes.items r.accepted (reached m s r).1 may
nothing_torn m s (Handle c) r may = handle_whole m s (reached m s r).0 c r.accepted (reached m s r).1 may
nothing_torn m s Begin r may = tt
nothing_torn m s Write r may = tt
nothing_torn m s Request r may = tt
nothing_torn m s (Take c) r may = tt
nothing_torn m s Return r may = tt
nothing_torn m s (Tick c) r may = tt

-- ---- what a line is

-- only passes are
abbrev pub is_pass : TraceLine → Bool
is_pass (Opens update sites) = false
is_pass (Ends update ending) = false
is_pass (Drops place) = false
is_pass (Passes c at insn) = true
is_pass (Outs c port value) = false
is_pass (Stops c life) = false

-- no line of some is a pass
abbrev pub NoPass : List TraceLine → Type 0
NoPass ls = (c at : ℕ) (insn : Insn) → Contains ls (Passes c at insn) → ⊥

no_line : NoPass []
no_line c at insn has = none_in (Passes c at insn) has

pub one_line : (l : TraceLine) → is_pass l ≡ false → NoPass (l ∷ [])
one_line l other c at insn has =
    elim (in_cases l (Passes c at insn) [] has) [
      | inl same ↦ (let clash : true ≡ false = ap is_pass same ∙ other in cc)
      | inr none ↦ none_in (Passes c at insn) none
    ]

pub mark_passes : (c : ℕ) (life : Life) (mark : Mark) → NoPass (said_mark c life mark)
mark_passes c life NoMark = no_line
mark_passes c life (Out port value) = one_line (Outs c port value) refl
mark_passes c life Ended = one_line (Stops c life) refl

done_passes : (c : ℕ) (o : Option (Insn × ℕ)) (p : Proc) → NoPass (said_done c o p)
done_passes c None p = no_line
done_passes c (Some (insn, len)) p = mark_passes c (does insn len p).0.life (does insn len p).1

begun_passes : (update : ℕ) (b : Beginning) → NoPass (said_begun update b)
begun_passes update (Refuses ending) = one_line (Ends update ending) refl
begun_passes update (Goes new []) = one_line (Ends update _) refl
begun_passes update (Goes new (c ∷ cs)) = one_line (Opens update _) refl

step_passes : (steps : List ScriptStep) → NoPass (said_step steps)
step_passes [] = no_line
step_passes (step.Update command ∷ rest) = no_line
step_passes (step.Run turns ∷ rest) = no_line
step_passes (step.Drop place ∷ rest) = one_line (Drops place) refl

first_passes : (update : ℕ) (steps : List ScriptStep) (o : Option Beginning) → NoPass (said_first update steps o)
first_passes update steps None = step_passes steps
first_passes update steps (Some b) = begun_passes update b

return_passes : (update : ℕ) (o : Option (List Change)) → NoPass (switching.said_return update o)
return_passes update None = no_line
return_passes update (Some cs) = one_line (Ends update _) refl

-- ---- what a pass that is shown is

-- a pass by a fetch at a patched site, in order, or one by the handler, as new
pub data IsMade (m : Module) (t : Switching) (c at : ℕ) (kind : PassKind) : Type 0 where
  fetched : (n : ℕ) (bytes : List ℕ) → site_at m.sites at ≡ Some n → kind ≡ pass_by (change_at t.opened at) (t.forms at) at bytes → IsInOrder kind t.passed c at → IsMade m t c at kind
  emulated : (k : Change) → change_at t.opened at ≡ Some k → kind ≡ AsNew k.new → IsMade m t c at kind

pub record PassShown (m : Module) (t : Switching) (e : Event) (c at : ℕ) (insn : Insn) : Type 0 where
  pub kind : PassKind
  pub insn_is : insn ≡ insn_of (form_of kind)
  pub made : IsMade m t c at kind
  pub passed : (switching.next m t e).passed ≡ noted kind c at t.passed
  pub opened : (switching.next m t e).opened ≡ t.opened
  pub updates : (switching.next m t e).updates ≡ t.updates

-- a pass and the lines after it
first_pass : (c at d there : ℕ) (insn other : Insn) (life : Life) (mark : Mark) → Contains (Passes d there other ∷ said_mark d life mark) (Passes c at insn) → (c ≡ d) × (at ≡ there) × (insn ≡ other)
first_pass c at d there insn other life mark has = by (in_cases (Passes d there other) (Passes c at insn) (said_mark d life mark) has)
  where
    by : (Passes c at insn ≡ Passes d there other) ⊎ Contains (said_mark d life mark) (Passes c at insn) → (c ≡ d) × (at ≡ there) × (insn ≡ other)
    by (inl same) = (cc, cc, cc)
    by (inr later) = absurd (mark_passes d life mark c at insn later)

-- by a fetch
fetch_shown : (m : Module) (t : Switching) (d : ℕ) (bytes : List ℕ) (stop : Bool) → is_breakpoint bytes ≡ stop → NeedsAt stop m t d bytes → (c at : ℕ) (insn : Insn) → Contains (if stop then [] else of_proc (slice_get t.procs d) (λ p. said_pass d (pass_of t p.ip bytes) p)) (Passes c at insn) → (kind : PassKind) × (insn ≡ insn_of (form_of kind)) × IsMade m t c at kind × ((if stop then t else at_proc (slice_get t.procs d) t (λ p. passes t d (pass_of t p.ip bytes) p)).passed ≡ noted kind c at t.passed) × ((if stop then t else at_proc (slice_get t.procs d) t (λ p. passes t d (pass_of t p.ip bytes) p)).opened ≡ t.opened) × ((if stop then t else at_proc (slice_get t.procs d) t (λ p. passes t d (pass_of t p.ip bytes) p)).updates ≡ t.updates)
fetch_shown m t d bytes true e needs c at insn has = absurd (none_in (Passes c at insn) has)
fetch_shown m t d bytes false e needs c at insn has =
    let p = needs.running.proc in
    let here = needs.running.here in
    let kind : PassKind = pass_of t p.ip bytes in
    let told = first_pass c at d p.ip insn (insn_of (form_of kind)) (whole (form_of kind) p.ip p).0.life (whole (form_of kind) p.ip p).1
    (subst (λ (o : Option Proc). Contains (of_proc o (λ r. said_pass d (pass_of t r.ip bytes) r)) (Passes c at insn)) here has) in (
      kind,
      told.2,
      subst (λ (a : ℕ). IsMade m t c a kind) (sym told.1)
          (subst (λ (i : ℕ). IsMade m t i p.ip kind) (sym told.0) (fetched needs.site bytes needs.is refl needs.in_order)),
      ap (λ (o : Option Proc). (at_proc o t (λ r. passes t d (pass_of t r.ip bytes) r)).passed) here
          ∙ ap (λ (i : ℕ). noted kind i p.ip t.passed) (sym told.0) ∙ ap (λ (a : ℕ). noted kind c a t.passed) (sym told.1),
      ap (λ (o : Option Proc). (at_proc o t (λ r. passes t d (pass_of t r.ip bytes) r)).opened) here,
      ap (λ (o : Option Proc). (at_proc o t (λ r. passes t d (pass_of t r.ip bytes) r)).updates) here,
    )

-- by the handler
handle_shown : (m : Module) (t : Switching) (d : ℕ) → Needs m t (Handle d) → (c at : ℕ) (insn : Insn) → Contains (switching.said m t (Handle d)) (Passes c at insn) → PassShown m t (Handle d) c at insn
handle_shown m t d needs c at insn has =
    let p = needs.running.proc in
    let here = needs.running.here in
    let k = needs.change in
    let as_new : new_pass (change_at t.opened p.ip) ≡ AsNew k.new = ap new_pass needs.is in
    let told = first_pass c at d p.ip insn (insn_of k.new) (whole k.new p.ip p).0.life (whole k.new p.ip p).1
    (subst (λ (passing : PassKind). Contains (said_pass d passing p) (Passes c at insn)) as_new
    (subst (λ (o : Option Proc). Contains (of_proc o (λ r. said_pass d (new_pass (change_at t.opened r.ip)) r)) (Passes c at insn)) here has)) in
    record {
      kind = AsNew k.new;
      insn_is = told.2;
      made = emulated k (ap (λ (a : ℕ). change_at t.opened a) told.1 ∙ needs.is) refl;
      passed =
          ap (λ (o : Option Proc). (at_proc o t (λ r. passes t d (new_pass (change_at t.opened r.ip)) r)).passed) here
          ∙ ap (λ (passing : PassKind). noted passing d p.ip t.passed) as_new
          ∙ ap (λ (i : ℕ). (i, p.ip) ∷ t.passed) (sym told.0) ∙ ap (λ (a : ℕ). (c, a) ∷ t.passed) (sym told.1);
      opened = ap (λ (o : Option Proc). (at_proc o t (λ r. passes t d (new_pass (change_at t.opened r.ip)) r)).opened) here;
      updates = ap (λ (o : Option Proc). (at_proc o t (λ r. passes t d (new_pass (change_at t.opened r.ip)) r)).updates) here;
    }

pub pass_shown : (m : Module) (t : Switching) (e : Event) → Needs m t e → (c at : ℕ) (insn : Insn) → Contains (switching.said m t e) (Passes c at insn) → PassShown m t e c at insn
pass_shown m t Begin needs c at insn has = absurd (first_passes (t.updates + 1) t.steps (switching.found m t t.steps) c at insn has)
pass_shown m t Write needs c at insn has = absurd (none_in (Passes c at insn) has)
pass_shown m t Request needs c at insn has = absurd (none_in (Passes c at insn) has)
pass_shown m t (Take d) needs c at insn has = absurd (none_in (Passes c at insn) has)
pass_shown m t Return needs c at insn has = absurd (return_passes t.updates t.opened c at insn has)
pass_shown m t (Plain d) needs c at insn has =
    absurd (done_passes d (plain_at m needs.running.proc.ip) needs.running.proc c at insn
    (subst (λ (o : Option Proc). Contains (of_proc o (λ r. said_done d (plain_at m r.ip) r)) (Passes c at insn)) needs.running.here has))
pass_shown m t (At d bytes) needs c at insn has =
    let shown = fetch_shown m t d bytes.items (is_breakpoint bytes.items) refl needs c at insn has in
    record { kind = shown.0; insn_is = shown.1; made = shown.2; passed = shown.3; opened = shown.4; updates = shown.5 }
pass_shown m t (Handle d) needs c at insn has = handle_shown m t d needs c at insn has
pass_shown m t (Tick d) needs c at insn has = absurd (none_in (Passes c at insn) has)

-- ---- each is whole

pub changing_is : (m : Module) (s : State) (t : Switching) (at : ℕ) → Related m s t → changing s.opened at ≡ change_at t.opened at
changing_is m s t at h = by s.opened ∙ ap (λ (o : Option (List Change)). change_at o at) (sym h.opened)
  where
    by : (o : Option Walk) → changing o at ≡ change_at (open_changes o) at
    by None = refl
    by (Some walk) = refl

-- a change of the open update is of a patched site
changed_there : (m : Module) (s : State) (t : Switching) (at : ℕ) (k : Change) (o : Option Walk) → s.opened ≡ o → IsAccepted m → Related m s t → change_at (open_changes o) at ≡ Some k → (n : ℕ) × (site_at m.sites at ≡ Some n) × (k.old ≢ k.new)
changed_there m s t at k None is accepted h found_it = absurd (none-some k found_it)
changed_there m s t at k (Some u) is accepted h found_it = by (look u.changes at)
  where
    by : Found u.changes at → (n : ℕ) × (site_at m.sites at ≡ Some n) × (k.old ≢ k.new)
    by (missed none none_found new form) = absurd (none-some k (sym none_found ∙ found_it))
    by (found c has begins found_c new form) =
        let same : c ≡ k = same_Some c k (sym found_c ∙ found_it) in
        let change = is_changed m s.writes s.cpus s.states t.forms t.passed u accepted h.states_of (opened_at m s t u h is) c has in
        (change.number, ap (λ (a : ℕ). site_at m.sites a) (sym begins) ∙ change.found, subst (λ (x : Change). x.old ≢ x.new) same change.differ)

pub changed_site : (m : Module) (s : State) (t : Switching) (at : ℕ) (k : Change) → IsAccepted m → Related m s t → change_at t.opened at ≡ Some k → (n : ℕ) × (site_at m.sites at ≡ Some n) × (k.old ≢ k.new)
changed_site m s t at k accepted h found_it =
    changed_there m s t at k s.opened refl accepted h (ap (λ (o : Option (List Change)). change_at o at) (sym h.opened) ∙ found_it)

-- a site that doesn't change has the form that it wants
unchanged_there : (m : Module) (s : State) (t : Switching) (at n : ℕ) (o : Option Walk) → s.opened ≡ o → IsAccepted m → Related m s t → site_at m.sites at ≡ Some n → change_at (open_changes o) at ≡ None → t.forms at ≡ wanted_at m s.states at
unchanged_there m s t at n None is accepted h found_site none_found = (closed_at m s t h is).forms_are at n found_site
unchanged_there m s t at n (Some u) is accepted h found_site none_found = by (look u.changes at)
  where
    o : Opened m s.writes s.cpus s.states t.forms t.passed u
    o = opened_at m s t u h is

    by : Found u.changes at → t.forms at ≡ wanted_at m s.states at
    by (found c has begins found_c new form) = absurd (none-some c (sym none_found ∙ found_c))
    by (missed none none_there new form) =
        o.forms_are at n found_site
        ∙ unchanged m o.parts.before s.states at n accepted found_site (λ c has. none c (subst (λ (cs : List Change). Contains cs c) (sym o.parts.is) has))

unchanged_site : (m : Module) (s : State) (t : Switching) (at n : ℕ) → IsAccepted m → Related m s t → site_at m.sites at ≡ Some n → change_at t.opened at ≡ None → t.forms at ≡ wanted_at m s.states at
unchanged_site m s t at n accepted h found_site none_found =
    unchanged_there m s t at n s.opened refl accepted h found_site (ap (λ (o : Option (List Change)). change_at o at) (sym h.opened) ∙ none_found)

patched_is : (m : Module) (at n : ℕ) → IsAccepted m → site_at m.sites at ≡ Some n → IsPatchedSite m.sites at n
patched_is m at n accepted is =
    let there = site_of m at n accepted is in
    record { below = slice_get_within m.sites n there.site there.here; site = there.site; here = there.here; begins = there.begins; ours = there.ours }

named_whole : (m : Module) (s : State) (k : Change) (at : ℕ) (insn : Insn) (named : Bool) → insn ≡ insn_of (form_of (if named then AsNew k.new else AsOld k.old)) → IsPassOf m s (Some k) at insn
named_whole m s k at insn true is = inr is
named_whole m s k at insn false is = inl is

fetch_whole : (m : Module) (s : State) (t : Switching) (at n : ℕ) (bytes : List ℕ) (insn : Insn) (o : Option Change) → change_at t.opened at ≡ o → IsAccepted m → Related m s t → site_at m.sites at ≡ Some n → insn ≡ insn_of (form_of (pass_by o (t.forms at) at bytes)) → IsPassOf m s o at insn
fetch_whole m s t at n bytes insn None e accepted h found_site is = is ∙ ap insn_of (unchanged_site m s t at n accepted h found_site e)
fetch_whole m s t at n bytes insn (Some k) e accepted h found_site is = named_whole m s k at insn (is_named k.new at bytes) is

pub pass_whole : (m : Module) (s : State) (t : Switching) (c at : ℕ) (insn : Insn) (kind : PassKind) → IsAccepted m → Related m s t → insn ≡ insn_of (form_of kind) → IsMade m t c at kind → IsPass m s at insn
pass_whole m s t c at insn kind accepted h insn_is (fetched n bytes found_site kind_is in_order) = record {
  site = n;
  is = patched_is m at n accepted found_site;
  whole =
      subst (λ (o : Option Change). IsPassOf m s o at insn) (sym (changing_is m s t at h))
      (fetch_whole m s t at n bytes insn (change_at t.opened at) refl accepted h found_site (insn_is ∙ ap (λ (k : PassKind). insn_of (form_of k)) kind_is));
}
pass_whole m s t c at insn kind accepted h insn_is (emulated k found_it kind_is) =
    let there = changed_site m s t at k accepted h found_it in
    record {
      site = there.0;
      is = patched_is m at there.0 accepted there.1;
      whole =
          subst (λ (o : Option Change). IsPassOf m s o at insn) (sym (changing_is m s t at h ∙ found_it))
          (inr (insn_is ∙ ap (λ (k : PassKind). insn_of (form_of k)) kind_is));
    }

pub passes_whole : PassesAreWhole
passes_whole m s e c at insn r may has =
    let t = (reached m s r).0 in
    let h = (reached m s r).1 in
    let f = follows m s t e r.accepted h may in
    let shown = pass_shown m t e f.needs c at insn (subst (λ (ls : List TraceLine). Contains ls (Passes c at insn)) f.lines has) in
    pass_whole m s t c at insn shown.kind r.accepted h shown.insn_is shown.made

-- once an update has returned the new form is the only one
pub only_new : OnlyTheNewAfterReturn
only_new m s e c at insn r may closed has =
    subst (λ (o : Option Walk). IsPassOf m s (changing o at) at insn) closed (passes_whole m s e c at insn r may has).whole
