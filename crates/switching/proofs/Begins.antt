-- An update or a drop of the script begins.
use Rattle.std.proofs.Common.{◌≡◌, ◌∙◌, ◌+◌, ◌≤◌, ℕ, zero, suc, Bool, true, false, List, [], ◌∷◌, ◌++◌, length, take, drop, All, Contains, Option, Some, None, Result, Ok, Err, option_map, slice_get, refl, sym, ap, subst, arith, append-nil, take-append-drop, length-drop, true≢false}
use Rattle.std.proofs.lemmas.List.{length-replicate}
use Rattle.std.proofs.lemmas.List.Elements.{All-head, All-tail, Contains-append_left}
use Rattle.poke_batch.specs.Underway.{AreApart}
use Rattle.insn_forms.specs.declared.forms.Change.{Change}
use Rattle.insn_forms.specs.declared.forms.Form.{Form}
use Rattle.insn_forms.specs.History.{written}
use Rattle.insn_forms.specs.Write.{Write}
use Rattle.key_state.specs.declared.count.CountRefused.{CountRefused}
use Rattle.poke_batch.specs.Poke.{cut, spelled}
use Rattle.insn_forms.specs.Spelling.{size}
use Rattle.module_image.specs.Sites.{code_at}
use Rattle.poke_batch.specs.Walk.{Walk, opened}
use Rattle.key_state.specs.After as key
use Rattle.key_state.specs.Changes.{AreStatesOf, changes, first_foreign}
use Rattle.key_state.specs.Outcome.{Clashes, Ending}
use Rattle.key_state.proofs.Keeping.{commands_keep}
use Rattle.key_state.proofs.Poking.{can_poke}
use Rattle.module_parts.specs.declared.command.Command.{Command}
use Rattle.module_image.specs.Command.{IsCommandOf}
use Rattle.module_image.specs.Layout.{site_at}
use Rattle.module_image.specs.Module.{IsAccepted, Module, States}
use Rattle.run_journal.specs.declared.event.Event.TheVariants.{Begin}
use Rattle.script_text.specs.declared.script.ScriptStep.{ScriptStep}
use Rattle.script_text.specs.declared.script.ScriptStep.TheVariants as step
use Rattle.script_text.specs.Laws.{IsStepOf}
use Rattle.switching.specs.Beginning.{Beginning, Goes, Refuses, beginning, beginning_to, clash_of_bytes, clash_of_foreign, unless}
use Rattle.switching.specs.May.{MayBegin, is_begun_next}
use Rattle.switching.specs.Next.{begun, begun_by, found}
use Rattle.switching.specs.Said.{said_begun, said_first, said_step}
use Rattle.switching.specs.State.{Cpu, State, held_after, start}
use Rattle.switching.specs.Switching.{NeedsBegin, Switching, has_passed, wanted_at, with_new, without_runs}
use Rattle.switching.specs.Switching as switching
use Rattle.switching.proofs.Changed.{IsChanged, changed, unchanged}
use Rattle.switching.proofs.Holding.{clash_is}
use Rattle.switching.proofs.Invariant.{Closed, CpuFacts, IsText, Related, Stands, count, joined, open_changes, steps_left}
use Rattle.switching.proofs.Lookups.{none_in}
use Rattle.switching.proofs.Rounds.{round}
use Rattle.switching.proofs.Taking.{nobody_took}
use Rattle.switching.proofs.Texts.{text_any, text_bytes, text_forms}
use Rattle.switching.proofs.Turns.{Follows}

-- the chunks of changes, joined, are the changes
cut-none : (n : ℕ) → cut n [] ≡ []
cut-none zero = refl
cut-none (suc n) = refl

cut_joined : (n : ℕ) (cs : List Change) → length cs ≤ n → joined (cut n cs) ≡ cs
cut_joined n [] few = ap joined (cut-none n)
cut_joined zero (c ∷ cs) few = absurd (omega (arith, few))
cut_joined (suc n) (c ∷ cs) few =
    let less = length-drop 256 (c ∷ cs) in
    ap (λ (rest : List Change). take 256 (c ∷ cs) ++ rest) (cut_joined n (drop 256 (c ∷ cs)) (omega (arith, less, few)))
    ∙ take-append-drop 256 (c ∷ cs)

-- an update that is open, at its first item
pub opened_closed : (m : Module) (ws : List Write) (cpus : List Cpu) (before states : States) (forms : ℕ → Form) (passed : List (ℕ × ℕ)) (c : Change) (cs : List Change) → IsAccepted m → AreStatesOf m before → AreStatesOf m states → changes m before states ≡ c ∷ cs → first_foreign m (c ∷ cs) ≡ None → Closed m ws cpus before forms passed → Stands m ws cpus states forms passed (opened (length cpus) (c ∷ cs))
opened_closed m ws cpus before states forms passed c cs accepted before_of now is ours st = record {
  finished = [];
  parts = record {
    before = before;
    before_of = before_of;
    is = sym is;
    ours = ours;
    apart = subst (λ (xs : List Change). AreApart xs) is (can_poke m before states m.text accepted before_of now refl).apart;
    parts = sym (take_chunk);
  };
  forms_are = st.forms_are;
  place = record {
    r = 0;
    past = ws;
    done = [];
    todo = round 0 chunk;
    most = omega arith;
    split = refl;
    over = λ third. absurd (cc);
    left_is = refl;
    writes = sym (append-nil ws);
    asked = λ requested. absurd (cc);
  };
  bytes = text_bytes m before states (wanted_at m before) (written ws (start m)) chunk old_form st.text;
  text = text_any m (wanted_at m before) chunk (written ws (start m)) st.text;
  cpus_are = record {
    long = length-replicate (length cpus) false;
    asked = λ i has. (let none = nobody_took (length cpus) i in absurd (cc));
    each = λ i p here.
        subst (λ (b : Bool). CpuFacts (start m) ws ws chunk (joined later) passed i b (count b 0) p) (sym (nobody_took (length cpus) i)) (cpu i p here);
  };
}
  where
    chunk : List Change
    chunk = take 256 (c ∷ cs)

    later : List (List Change)
    later = cut (length cs) (drop 256 (c ∷ cs))

    take_chunk : chunk ++ joined later ≡ c ∷ cs
    take_chunk = cut_joined (length (c ∷ cs)) (c ∷ cs) (omega arith)

    old_form : (k : Change) → Contains chunk k → IsChanged m before states k × (wanted_at m before k.at ≡ k.old)
    old_form k has =
        let in_all : Contains (c ∷ cs) k = subst (λ (xs : List Change). Contains xs k) take_chunk (Contains-append_left chunk (joined later) k has) in
        let change : IsChanged m before states k =
        changed m before states k accepted before_of now (subst (λ (xs : List Change). first_foreign m xs ≡ None) (sym is) ours) (subst (λ (xs : List Change). Contains xs k) (sym is) in_all) in
        (change, sym change.old)

    cpu : (i : ℕ) (p : Cpu) → slice_get cpus i ≡ Some p → CpuFacts (start m) ws ws chunk (joined later) passed i false 0 p
    cpu i p here =
        let mark = (st.cpus_are i p here).mark in
        record {
          from = omega (arith, mark);
          to = omega (arith, mark);
          current = λ has. absurd (cc);
          trap = λ trapped. (let free = (st.cpus_are i p here).free in let clash : true ≡ false = sym trapped ∙ free in absurd (cc));
          as_new = λ k has new none. absurd (not_passed k.at new);
          not_yet = λ k has new. absurd (not_passed k.at new);
        }
      where
        not_passed : (at : ℕ) → has_passed passed i at ≡ true → ⊥
        not_passed at new =
            let none : has_passed passed i at ≡ false = ap (λ (xs : List (ℕ × ℕ)). has_passed xs i at) st.nobody in
            true≢false (sym new ∙ none)

-- ---- the beginning

-- both machines find the same
same_beginning : (m : Module) (old : States) (ws : List Write) (command : Command) (after : Result States CountRefused) → IsAccepted m → AreStatesOf m old → ((new : States) → after ≡ Ok new → AreStatesOf m new) → IsText m (wanted_at m old) [] (written ws (start m)) → beginning_to m (clash_of_bytes (held_after m ws)) old after ≡ beginning_to m (clash_of_foreign m) old after
same_beginning m old ws command (Err why) accepted old_of new_of text = refl
same_beginning m old ws command (Ok new) accepted old_of new_of text =
    ap (λ (o : Option Ending). unless o new (changes m old new)) (clash_is m old new ws accepted old_of (new_of new refl) text)

-- what it is: a refusal, or changes of patched sites that lead to the new states
pub data BeginsAs (m : Module) (old : States) : Beginning → Type 0 where
  refused : (ending : Ending) → BeginsAs m old (Refuses ending)
  goes : (new : States) → AreStatesOf m new → first_foreign m (changes m old new) ≡ None → BeginsAs m old (Goes new (changes m old new))

begins_unless : (m : Module) (old new : States) (o : Option Change) → AreStatesOf m new → first_foreign m (changes m old new) ≡ o → BeginsAs m old (unless (option_map (λ (c : Change). Clashes c.at (code_at m.base m.text c.at (size c.old)) (spelled c.old c.at)) o) new (changes m old new))
begins_unless m old new None new_of is = goes new new_of is
begins_unless m old new (Some c) new_of is = refused _

begins_to : (m : Module) (old : States) (after : Result States CountRefused) → ((new : States) → after ≡ Ok new → AreStatesOf m new) → BeginsAs m old (beginning_to m (clash_of_foreign m) old after)
begins_to m old (Err why) new_of = refused _
begins_to m old (Ok new) new_of =
    subst (λ (o : Option Change). BeginsAs m old (unless (option_map (λ (c : Change). Clashes c.at (code_at m.base m.text c.at (size c.old)) (spelled c.old c.at)) o) new (changes m old new))) refl
    (begins_unless m old new (first_foreign m (changes m old new)) (new_of new refl) refl)

pub begins_as : (m : Module) (old : States) (command : Command) → IsAccepted m → AreStatesOf m old → IsCommandOf m command → BeginsAs m old (beginning m (clash_of_foreign m) old command)
begins_as m old command accepted old_of command_of =
    begins_to m old (key.after old command) (λ new is. commands_keep m old new command accepted old_of command_of is)

module _ (m : Module) (s : State) (t : Switching) (accepted : IsAccepted m) (h : Related m s t) (closed : s.opened ≡ None) where
  closed_is : Closed m s.writes s.cpus s.states t.forms t.passed
  closed_is = subst (λ (o : Option Walk). Stands m s.writes s.cpus s.states t.forms t.passed o) closed h.stands

  t_closed : t.opened ≡ None
  t_closed = h.opened ∙ ap open_changes closed

  -- where nothing changes
  closed_same : (new : States) → changes m s.states new ≡ [] → Closed m s.writes s.cpus new t.forms t.passed
  closed_same new none =
      let st = closed_is in
      let same : (at n : ℕ) → site_at m.sites at ≡ Some n → wanted_at m s.states at ≡ wanted_at m new at =
      λ at n is. unchanged m s.states new at n accepted is (λ c has. absurd (none_in c (subst (λ (xs : List Change). Contains xs c) none has))) in
      record {
        forms_are = λ at n is. st.forms_are at n is ∙ same at n is;
        text = text_forms m (wanted_at m s.states) (wanted_at m new) [] (written s.writes (start m)) accepted same st.text;
        cpus_are = st.cpus_are;
        nobody = st.nobody;
      }

  -- the states after the beginning of an update, in front of these steps
  module _ (command : Command) (rest : List ScriptStep) (steps_are : s.steps ≡ step.Update command ∷ rest) where
    t_steps : t.steps ≡ step.Update command ∷ without_runs rest
    t_steps =
        h.steps ∙ ap (λ (o : Option Walk). without_runs (steps_left o s.steps)) closed ∙ ap (λ (steps : List ScriptStep). without_runs steps) steps_are

    s_dropped : drop 1 s.steps ≡ rest
    s_dropped = ap (λ (steps : List ScriptStep). drop 1 steps) steps_are

    t_dropped : drop 1 t.steps ≡ without_runs rest
    t_dropped = ap (λ (steps : List ScriptStep). drop 1 steps) t_steps

    rest_of : All (IsStepOf m) rest
    rest_of = All-tail (IsStepOf m) (step.Update command) rest (subst (λ (steps : List ScriptStep). All (IsStepOf m) steps) steps_are h.steps_of)

    kept_refused : (ending : Ending) → Related m (begun s (drop 1 s.steps) (Refuses ending)) (switching.begun (record t { steps = drop 1 t.steps }) (Refuses ending))
    kept_refused ending = record {
      steps =
          t_dropped ∙ ap (λ (steps : List ScriptStep). without_runs steps) (sym s_dropped)
          ∙ ap (λ (o : Option Walk). without_runs (steps_left o (drop 1 s.steps))) (sym closed);
      steps_of = subst (λ (steps : List ScriptStep). All (IsStepOf m) steps) (sym s_dropped) rest_of;
      updates = ap (λ (n : ℕ). n + 1) h.updates;
      states = h.states;
      states_of = h.states_of;
      opened = h.opened;
      pair = h.pair;
      stands = h.stands;
    }

    kept_goes : (new : States) (cs : List Change) → changes m s.states new ≡ cs → AreStatesOf m new → first_foreign m cs ≡ None → Related m (begun s (drop 1 s.steps) (Goes new cs)) (switching.begun (record t { steps = drop 1 t.steps }) (Goes new cs))
    kept_goes new [] is new_of ours = record {
      steps =
          t_dropped ∙ ap (λ (steps : List ScriptStep). without_runs steps) (sym s_dropped)
          ∙ ap (λ (o : Option Walk). without_runs (steps_left o (drop 1 s.steps))) (sym closed);
      steps_of = subst (λ (steps : List ScriptStep). All (IsStepOf m) steps) (sym s_dropped) rest_of;
      updates = ap (λ (n : ℕ). n + 1) h.updates;
      states = refl;
      states_of = new_of;
      opened = h.opened;
      pair = h.pair;
      stands = subst (λ (o : Option Walk). Stands m s.writes s.cpus new t.forms t.passed o) (sym closed) (closed_same new is);
    }
    kept_goes new (c ∷ cs) is new_of ours = record {
      steps = t_dropped ∙ ap (λ (steps : List ScriptStep). without_runs steps) (sym s_dropped);
      steps_of = h.steps_of;
      updates = ap (λ (n : ℕ). n + 1) h.updates;
      states = refl;
      states_of = new_of;
      opened = refl;
      pair = h.pair;
      stands = opened_closed m s.writes s.cpus s.states new t.forms t.passed c cs accepted h.states_of new_of is ours closed_is;
    }

    kept_begun : (b : Beginning) → BeginsAs m s.states b → Related m (begun s (drop 1 s.steps) b) (switching.begun (record t { steps = drop 1 t.steps }) b)
    kept_begun b (refused ending) = kept_refused ending
    kept_begun b (goes new new_of ours) = kept_goes new (changes m s.states new) refl new_of ours

    abbrev begins : Beginning
    begins = beginning m (clash_of_foreign m) s.states command

    command_of : IsCommandOf m command
    command_of = All-head (IsStepOf m) (step.Update command) rest (subst (λ (steps : List ScriptStep). All (IsStepOf m) steps) steps_are h.steps_of)

    s_found : found m s s.steps ≡ Some begins
    s_found =
        ap (λ (steps : List ScriptStep). found m s steps) steps_are
        ∙ ap (λ (b : Beginning). Some b) (same_beginning m s.states s.writes command (key.after s.states command) accepted h.states_of
        (λ new is. commands_keep m s.states new command accepted h.states_of command_of is) closed_is.text)

    t_found : switching.found m t t.steps ≡ Some begins
    t_found =
        ap (λ (steps : List ScriptStep). switching.found m t steps) t_steps
        ∙ ap (λ (states : States). Some (beginning m (clash_of_foreign m) states command)) h.states

    follows_update : Follows m s t Begin
    follows_update = record {
      needs = record { closed = t_closed; step = step.Update command; rest = without_runs rest; is = t_steps };
      lines =
          ap (λ (o : Option Beginning). said_first (s.updates + 1) s.steps o) s_found
          ∙ ap (λ (n : ℕ). said_begun (n + 1) begins) (sym h.updates)
          ∙ ap (λ (o : Option Beginning). said_first (t.updates + 1) t.steps o) (sym t_found);
      kept =
          subst (λ (o : Option Beginning). Related m (begun_by s o) (switching.next m t Begin)) (sym s_found)
          (subst (λ (o : Option Beginning). Related m (begun s (drop 1 s.steps) begins) (switching.begun_by (record t { steps = drop 1 t.steps }) o)) (sym t_found)
          (kept_begun begins (begins_as m s.states command accepted h.states_of command_of)));
    }

  -- a drop begins
  module _ (place : ℕ) (rest : List ScriptStep) (steps_are : s.steps ≡ step.Drop place ∷ rest) where
    drop_steps : t.steps ≡ step.Drop place ∷ without_runs rest
    drop_steps =
        h.steps ∙ ap (λ (o : Option Walk). without_runs (steps_left o s.steps)) closed ∙ ap (λ (steps : List ScriptStep). without_runs steps) steps_are

    s_none : found m s s.steps ≡ None
    s_none = ap (λ (steps : List ScriptStep). found m s steps) steps_are

    t_none : switching.found m t t.steps ≡ None
    t_none = ap (λ (steps : List ScriptStep). switching.found m t steps) drop_steps

    kept_drop : Related m (record s { steps = drop 1 s.steps }) (record t { steps = drop 1 t.steps })
    kept_drop =
        let s_rest : drop 1 s.steps ≡ rest = ap (λ (steps : List ScriptStep). drop 1 steps) steps_are in
        record {
          steps =
              ap (λ (steps : List ScriptStep). drop 1 steps) drop_steps ∙ ap (λ (steps : List ScriptStep). without_runs steps) (sym s_rest)
              ∙ ap (λ (o : Option Walk). without_runs (steps_left o (drop 1 s.steps))) (sym closed);
          steps_of =
              subst (λ (steps : List ScriptStep). All (IsStepOf m) steps) (sym s_rest)
              (All-tail (IsStepOf m) (step.Drop place) rest (subst (λ (steps : List ScriptStep). All (IsStepOf m) steps) steps_are h.steps_of));
          updates = h.updates;
          states = h.states;
          states_of = h.states_of;
          opened = h.opened;
          pair = h.pair;
          stands = h.stands;
        }

    follows_drop : Follows m s t Begin
    follows_drop = record {
      needs = record { closed = t_closed; step = step.Drop place; rest = without_runs rest; is = drop_steps };
      lines =
          ap (λ (o : Option Beginning). said_first (s.updates + 1) s.steps o) s_none
          ∙ ap (λ (steps : List ScriptStep). said_step steps) steps_are
          ∙ ap (λ (steps : List ScriptStep). said_step steps) (sym drop_steps)
          ∙ ap (λ (o : Option Beginning). said_first (t.updates + 1) t.steps o) (sym t_none);
      kept =
          subst (λ (o : Option Beginning). Related m (begun_by s o) (switching.next m t Begin)) (sym s_none)
          (subst (λ (o : Option Beginning). Related m (record s { steps = drop 1 s.steps }) (switching.begun_by (record t { steps = drop 1 t.steps }) o)) (sym t_none) kept_drop);
    }

  by_steps : (steps : List ScriptStep) → s.steps ≡ steps → is_begun_next steps ≡ true → Follows m s t Begin
  by_steps [] is next_is = absurd (cc)
  by_steps (step.Update command ∷ rest) is next_is = follows_update command rest is
  by_steps (step.Run turns ∷ rest) is next_is = absurd (cc)
  by_steps (step.Drop place ∷ rest) is next_is = follows_drop place rest is

pub follows_begin : (m : Module) (s : State) (t : Switching) → IsAccepted m → Related m s t → MayBegin s → Follows m s t Begin
follows_begin m s t accepted h may = by_steps m s t accepted h may.closed s.steps refl may.next
