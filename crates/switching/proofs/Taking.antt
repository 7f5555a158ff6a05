-- A processor takes the request, after the last one the next phase is due, and after the last chunk the update returns.
use Rattle.std.proofs.Common.{◌≡◌, ◌≢◌, ◌∙◌, ◌<◌, ◌≤◌, ◌==◌, ℕ, zero, suc, Bool, true, false, if◌then◌else◌, List, [], ◌∷◌, ◌++◌, length, map, drop, set, Contains, Some, None, slice_get, slice_set, slice_index_or, refl, sym, ap, subst, arith, append_assoc, append-nil, get_or-set_other, get_or-set_same}
use Rattle.std.specs.List.{list_all}
use Rattle.std.proofs.lemmas.List.{length-append, length-replicate, length-set}
use Rattle.std.proofs.lemmas.List.Elements.{Contains-append_left, Contains-append_right}
use Rattle.std.proofs.lemmas.Option.{slice_get_within}
use Rattle.insn_forms.specs.declared.forms.Change.{Change}
use Rattle.insn_forms.specs.declared.forms.Form.{Form}
use Rattle.insn_forms.specs.History.{written}
use Rattle.insn_forms.specs.Write.{Write}
use Rattle.poke_batch.specs.declared.batch.Due.TheVariants as due
use Rattle.poke_batch.specs.Poke.{Item, from_firsts, from_tails, poke}
use Rattle.poke_batch.specs.Poke.Item.{Puts, Syncs}
use Rattle.poke_batch.specs.Walk.{Walk, due_at, due_of, moved, moved_at, next_phase, nobody, passed, taken}
use Rattle.key_state.specs.Changes.{AreStatesOf}
use Rattle.module_image.specs.Module.{IsAccepted, Module, States}
use Rattle.switching.specs.State.{Cpu, start}
use Rattle.switching.specs.Switching.{wanted_at, with_new}
use Rattle.switching.proofs.Changed.{IsChanged}
use Rattle.switching.proofs.Chunk.{chunk_after}
use Rattle.switching.proofs.Invariant.{AreParts, Closed, CpuFacts, IsCurrent, IsText, Opened, count, joined, left_of}
use Rattle.switching.proofs.Lookups.{AtSet, at_it, beside_it, at_set}
use Rattle.switching.proofs.Parts.{all_changed, in_chunk, now_chunk, poked}
use Rattle.switching.proofs.Patching.{return_due, wait_due}
use Rattle.switching.proofs.Rounds.{BytesAre, IsPoked, round}
use Rattle.switching.proofs.Texts.{new_is_wanted, text_any, text_bytes, text_chunk, text_forms, text_round}

-- ---- one processor takes the request

-- after it has, whether a processor has
took_it : (took : List Bool) (c : ℕ) → c < length took → slice_index_or (set took c true) c false ≡ true
took_it took c below = get_or-set_same took c true false below

took_other : (took : List Bool) (c i : ℕ) → i ≢ c → slice_index_or (set took c true) i false ≡ slice_index_or took i false
took_other took c i other = get_or-set_other took c i true false other

module _ (m : Module) (ws : List Write) (cpus : List Cpu) (states : States) (forms : ℕ → Form) (passed_as : List (ℕ × ℕ)) (u : Walk) (o : Opened m ws cpus states forms passed_as u) where
  pub is_asked : due_of (Some u) ≡ due.Wait → u.requested ≡ true
  is_asked waits =
      wait_due o.place.r u.chunk o.place.todo u.requested (ap (λ (left : List Item). due_at left u.requested) (sym o.place.left_is) ∙ waits)

  pub after_one : (c : ℕ) (p : Cpu) → due_of (Some u) ≡ due.Wait → slice_get cpus c ≡ Some p → p.state.trapped ≡ false → Opened m ws (slice_set cpus c (record p { mark = length ws })) states forms passed_as (record u { took = set u.took c true })
  after_one c p waits here free = record {
    finished = o.finished;
    parts = o.parts;
    forms_are = o.forms_are;
    place = o.place;
    bytes = o.bytes;
    text = o.text;
    cpus_are = record {
      long = length-set u.took c true ∙ o.cpus_are.long ∙ sym (length-set cpus c p');
      asked = λ i has. is_asked waits;
      each = λ i q there. by i q (at_set cpus c p' i q there);
    };
  }
    where
      p' : Cpu
      p' = record p { mark = length ws }

      facts : List Bool → ℕ → Cpu → Type 0
      facts took i q = CpuFacts (start m) ws o.place.past u.chunk (joined u.later) passed_as i (slice_index_or took i false) (count (slice_index_or took i false) o.place.r) q

      old : CpuFacts (start m) ws o.place.past u.chunk (joined u.later) passed_as c (slice_index_or u.took c false) (count (slice_index_or u.took c false) o.place.r) p
      old = o.cpus_are.each c p here

      new : CpuFacts (start m) ws o.place.past u.chunk (joined u.later) passed_as c true (suc o.place.r) p'
      new =
          let long = ap length o.place.writes ∙ length-append o.place.past o.place.done in
          record {
            from = omega (arith, long);
            to = omega arith;
            current = λ _. omega arith;
            trap = λ trapped. (let clash : true ≡ false = sym trapped ∙ free in absurd (cc));
            as_new = λ k has passed none. absurd (cc);
            not_yet = old.not_yet;
          }

      below : c < length u.took
      below = (let long = o.cpus_are.long in let inside = slice_get_within cpus c p here in omega (arith, long, inside))

      by : (i : ℕ) (q : Cpu) → AtSet cpus c p' i q → facts (set u.took c true) i q
      by i q (at_it same is) =
          subst (λ (x : Cpu). facts (set u.took c true) i x) (sym is)
          (subst (λ (k : ℕ). facts (set u.took c true) k p') (sym same)
          (subst (λ (b : Bool). CpuFacts (start m) ws o.place.past u.chunk (joined u.later) passed_as c b (count b o.place.r) p') (sym (took_it u.took c below)) new))
      by i q (beside_it other there) =
          subst (λ (b : Bool). CpuFacts (start m) ws o.place.past u.chunk (joined u.later) passed_as i b (count b o.place.r) q)
          (sym (took_other u.took c i other)) (o.cpus_are.each i q there)

-- ---- after the last one

-- where all have taken it each has
each_took : (took : List Bool) (i : ℕ) → list_all (λ t. t) took ≡ true → i < length took → slice_index_or took i false ≡ true
each_took [] i all below = absurd (omega (arith, below))
each_took (false ∷ took) i all below = absurd (cc)
each_took (true ∷ took) zero all below = refl
each_took (true ∷ took) (suc i) all below = each_took took i all (omega (arith, below))

pub nobody_took : (n i : ℕ) → slice_index_or (nobody n) i false ≡ false
nobody_took zero i = refl
nobody_took (suc n) zero = refl
nobody_took (suc n) (suc i) = nobody_took n i

-- the phases of a chunk
left_next : (r : ℕ) (chunk : List Change) → r < 3 → drop 1 (left_of r chunk []) ≡ left_of (suc r) chunk (round (suc r) chunk)
left_next zero chunk less = refl
left_next (suc zero) chunk less = refl
left_next (suc (suc zero)) chunk less = refl
left_next (suc (suc (suc r))) chunk less = absurd (omega (arith, less))

append_some : {X : Type 0} (xs ys : List X) (y : X) → xs ++ y ∷ ys ≡ [] → ⊥
append_some [] ys y none = cc
append_some (x ∷ xs) ys y none = cc

left_some : (r : ℕ) (chunk : List Change) (todo : List Write) → r < 3 → left_of r chunk todo ≡ [] → ⊥
left_some zero chunk todo less none = append_some (map Puts todo) (from_tails chunk) Syncs none
left_some (suc zero) chunk todo less none = append_some (map Puts todo) (from_firsts chunk) Syncs none
left_some (suc (suc zero)) chunk todo less none = append_some (map Puts todo) [] Syncs none
left_some (suc (suc (suc r))) chunk todo less none = absurd (omega (arith, less))

phase_same : (left : List Item) (later : List (List Change)) (walk : Walk) → (left ≡ [] → later ≡ []) → next_phase left later walk ≡ record walk { left = left }
phase_same (item ∷ left) later walk last = refl
phase_same [] [] walk last = refl
phase_same [] (chunk ∷ later) walk last = (let none = last refl in absurd (cc))

-- nobody has taken a request after it
abbrev pub reset : Walk → Walk
reset u = record u { requested = false; took = nobody (length u.took) }

module _ (m : Module) (ws : List Write) (cpus : List Cpu) (states : States) (forms : ℕ → Form) (passed_as : List (ℕ × ℕ)) (u : Walk) (accepted : IsAccepted m) (now : AreStatesOf m states) (o : Opened m ws cpus states forms passed_as u) (asked : u.requested ≡ true) (all : list_all (λ t. t) u.took ≡ true) where
  over : o.place.todo ≡ []
  over = (o.place.asked asked).0

  less : o.place.r < 3
  less = (o.place.asked asked).1

  split_is : round o.place.r u.chunk ≡ o.place.done
  split_is = o.place.split ∙ ap (λ (xs : List Write). o.place.done ++ xs) over ∙ append-nil o.place.done

  chunk_is : IsPoked u.chunk
  chunk_is = poked m states u.changes o.finished u.chunk (joined u.later) accepted now o.parts

  -- the round has been written
  bytes_next : BytesAre (written ws (start m)) (suc o.place.r) u.chunk
  bytes_next =
      subst (λ (xs : List Write). BytesAre (written xs (start m)) (suc o.place.r) u.chunk) (sym o.place.writes)
      (chunk_after (start m) o.place.past o.place.done o.place.r u.chunk chunk_is split_is o.bytes)

  text_next : IsText m (with_new o.finished (wanted_at m o.parts.before)) u.chunk (written ws (start m))
  text_next =
      subst (λ (xs : List Write). IsText m (with_new o.finished (wanted_at m o.parts.before)) u.chunk (written xs (start m))) (sym o.place.writes)
      (text_round m states u.changes o.finished u.chunk (joined u.later) accepted now o.parts (with_new o.finished (wanted_at m o.parts.before)) o.place.past o.place.done o.place.todo o.place.r o.place.split o.text)

  left_is : drop 1 u.left ≡ left_of (suc o.place.r) u.chunk (round (suc o.place.r) u.chunk)
  left_is =
      ap (λ (items : List Item). drop 1 items) (o.place.left_is ∙ ap (λ (todo : List Write). left_of o.place.r u.chunk todo) over)
      ∙ left_next o.place.r u.chunk less

  -- each processor has taken it
  each_has : (c : ℕ) (p : Cpu) → slice_get cpus c ≡ Some p → CpuFacts (start m) ws o.place.past u.chunk (joined u.later) passed_as c true (suc o.place.r) p
  each_has c p here =
      let inside = slice_get_within cpus c p here in
      let long = o.cpus_are.long in
      subst (λ (b : Bool). CpuFacts (start m) ws o.place.past u.chunk (joined u.later) passed_as c b (count b o.place.r) p)
      (each_took u.took c all (omega (arith, inside, long))) (o.cpus_are.each c p here)

  -- the next round of the chunk, or its end
  cpu_next : (c : ℕ) (p : Cpu) → slice_get cpus c ≡ Some p → CpuFacts (start m) ws ws u.chunk (joined u.later) passed_as c false (suc o.place.r) p
  cpu_next c p here =
      let f = each_has c p here in
      record {
        from = f.current refl;
        to = f.to;
        current = λ has. absurd (cc);
        trap = f.trap;
        as_new = λ k has new none. absurd (cc);
        not_yet = f.not_yet;
      }

  pub after_round : (suc o.place.r ≡ 3 → u.later ≡ []) → Opened m ws cpus states forms passed_as (record (reset u) { left = drop 1 u.left })
  after_round last = record {
    finished = o.finished;
    parts = o.parts;
    forms_are = o.forms_are;
    place = record {
      r = suc o.place.r;
      past = ws;
      done = [];
      todo = round (suc o.place.r) u.chunk;
      most = (let l = less in omega (arith, l));
      split = refl;
      over = last;
      left_is = left_is;
      writes = sym (append-nil ws);
      asked = λ requested. absurd (cc);
    };
    bytes = bytes_next;
    text = text_next;
    cpus_are = record {
      long = length-replicate (length u.took) false ∙ o.cpus_are.long;
      asked = λ c has. (let none = nobody_took (length u.took) c in absurd (cc));
      each = λ c p here.
          subst (λ (b : Bool). CpuFacts (start m) ws ws u.chunk (joined u.later) passed_as c b (count b (suc o.place.r)) p)
          (sym (nobody_took (length u.took) c)) (cpu_next c p here);
    };
  }

  -- the next chunk
  module _ (chunk : List Change) (later : List (List Change)) (third : suc o.place.r ≡ 3) (later_is : u.later ≡ chunk ∷ later) where
    abbrev next_parts : AreParts m states u.changes (o.finished ++ u.chunk) chunk (joined later)
    next_parts =
        let p = o.parts in
        record {
          before = p.before;
          before_of = p.before_of;
          is = p.is;
          ours = p.ours;
          apart = p.apart;
          parts =
              p.parts ∙ ap (λ (cs : List (List Change)). o.finished ++ (u.chunk ++ joined cs)) later_is
              ∙ sym (append_assoc o.finished u.chunk (chunk ++ joined later));
        }

    text_after : IsText m (with_new (o.finished ++ u.chunk) (wanted_at m o.parts.before)) [] (written ws (start m))
    text_after =
        text_chunk m states u.changes o.finished u.chunk (joined u.later) accepted now o.parts (wanted_at m o.parts.before) (written ws (start m))
        (subst (λ (r : ℕ). BytesAre (written ws (start m)) r u.chunk) third bytes_next) text_next

    old_form : (k : Change) → Contains chunk k → IsChanged m o.parts.before states k × (with_new (o.finished ++ u.chunk) (wanted_at m o.parts.before) k.at ≡ k.old)
    old_form k has =
        let change = all_changed m states u.changes (o.finished ++ u.chunk) chunk (joined later) accepted now next_parts k (in_chunk m states u.changes (o.finished ++ u.chunk) chunk (joined later) accepted now next_parts k has) in
        (change, now_chunk m states u.changes (o.finished ++ u.chunk) chunk (joined later) accepted now next_parts (wanted_at m o.parts.before) k has ∙ sym change.old)

    in_old : (k : Change) → Contains (chunk ++ joined later) k → Contains (joined u.later) k
    in_old k has = subst (λ (cs : List (List Change)). Contains (joined cs) k) (sym later_is) has

    cpu_after : (c : ℕ) (p : Cpu) → slice_get cpus c ≡ Some p → CpuFacts (start m) ws ws chunk (joined later) passed_as c false 0 p
    cpu_after c p here =
        let f = each_has c p here in
        record {
          from = f.current refl;
          to = f.to;
          current = λ has. absurd (cc);
          trap = λ trapped. (let few = (f.trap trapped).few in let e = third in absurd (omega (arith, few, e)));
          as_new = λ k has new none. absurd (f.not_yet k (in_old k (Contains-append_left chunk (joined later) k has)) new);
          not_yet = λ k has. f.not_yet k (in_old k (Contains-append_right chunk (joined later) k has));
        }

    pub after_chunk : Opened m ws cpus states forms passed_as (record (reset u) { chunk = chunk; left = poke chunk; later = later })
    after_chunk = record {
      finished = o.finished ++ u.chunk;
      parts = next_parts;
      forms_are = o.forms_are;
      place = record {
        r = 0;
        past = ws;
        done = [];
        todo = round 0 chunk;
        most = omega arith;
        split = refl;
        over = λ is. absurd (cc);
        left_is = refl;
        writes = sym (append-nil ws);
        asked = λ requested. absurd (cc);
      };
      bytes = text_bytes m o.parts.before states (with_new (o.finished ++ u.chunk) (wanted_at m o.parts.before)) (written ws (start m)) chunk old_form text_after;
      text = text_any m (with_new (o.finished ++ u.chunk) (wanted_at m o.parts.before)) chunk (written ws (start m)) text_after;
      cpus_are = record {
        long = length-replicate (length u.took) false ∙ o.cpus_are.long;
        asked = λ c has. (let none = nobody_took (length u.took) c in absurd (cc));
        each = λ c p here.
            subst (λ (b : Bool). CpuFacts (start m) ws ws chunk (joined later) passed_as c b (count b 0) p)
            (sym (nobody_took (length u.took) c)) (cpu_after c p here);
      };
    }

  -- the phase after the synchronisation
  by_later : (left : List Item) (later : List (List Change)) → drop 1 u.left ≡ left → u.later ≡ later → Opened m ws cpus states forms passed_as (next_phase left later (reset u))
  by_later (item ∷ left) later is later_is =
      subst (λ (items : List Item). Opened m ws cpus states forms passed_as (record (reset u) { left = items })) is
      (after_round (λ third.
      let none : drop 1 u.left ≡ [] = left_is ∙ ap (λ (r : ℕ). left_of r u.chunk (round r u.chunk)) third in
      absurd (cc)))
  by_later [] [] is later_is =
      subst (λ (items : List Item). Opened m ws cpus states forms passed_as (record (reset u) { left = items })) is (after_round (λ third. later_is))
  by_later [] (chunk ∷ later) is later_is = after_chunk chunk later (last o.place.r less (sym left_is ∙ is)) later_is
    where
      last : (r : ℕ) → r < 3 → left_of (suc r) u.chunk (round (suc r) u.chunk) ≡ [] → suc r ≡ 3
      last zero below none = absurd (left_some 1 u.chunk (round 1 u.chunk) (omega arith) none)
      last (suc zero) below none = absurd (left_some 2 u.chunk (round 2 u.chunk) (omega arith) none)
      last (suc (suc zero)) below none = refl
      last (suc (suc (suc r))) below none = absurd (omega (arith, below))

  pub after_all : Opened m ws cpus states forms passed_as (passed u)
  after_all = by_later (drop 1 u.left) u.later refl refl

-- ---- the request taken

next_phase-changes : (left : List Item) (later : List (List Change)) (walk : Walk) → (next_phase left later walk).changes ≡ walk.changes
next_phase-changes (item ∷ left) later walk = refl
next_phase-changes [] (chunk ∷ later) walk = refl
next_phase-changes [] [] walk = refl

pub taken-changes : (c : ℕ) (u : Walk) → (taken c u).changes ≡ u.changes
taken-changes c u = by (list_all (λ t. t) (set u.took c true))
  where
    by : (all : Bool) → (if all then passed u else record u { took = set u.took c true }).changes ≡ u.changes
    by true = next_phase-changes (drop 1 u.left) u.later (reset u)
    by false = refl

pub after_take : (m : Module) (ws : List Write) (cpus : List Cpu) (states : States) (forms : ℕ → Form) (passed_as : List (ℕ × ℕ)) (u : Walk) (c : ℕ) (p : Cpu) → IsAccepted m → AreStatesOf m states → due_of (Some u) ≡ due.Wait → slice_get cpus c ≡ Some p → p.state.trapped ≡ false → Opened m ws cpus states forms passed_as u → Opened m ws (slice_set cpus c (record p { mark = length ws })) states forms passed_as (taken c u)
after_take m ws cpus states forms passed_as u c p accepted now waits here free o = by (list_all (λ t. t) (set u.took c true)) refl
  where
    cpus' : List Cpu
    cpus' = slice_set cpus c (record p { mark = length ws })

    u' : Walk
    u' = record u { took = set u.took c true }

    one : Opened m ws cpus' states forms passed_as u'
    one = after_one m ws cpus states forms passed_as u o c p waits here free

    by : (all : Bool) → list_all (λ t. t) (set u.took c true) ≡ all → Opened m ws cpus' states forms passed_as (if all then passed u else u')
    by true all =
        subst (λ (n : ℕ). Opened m ws cpus' states forms passed_as (next_phase (drop 1 u.left) u.later (record u { requested = false; took = nobody n })))
        (length-set u.took c true)
        (after_all m ws cpus' states forms passed_as u' accepted now one (is_asked m ws cpus states forms passed_as u o waits) all)
    by false some = one

-- ---- the return

pub after_return : (m : Module) (ws : List Write) (cpus : List Cpu) (states : States) (forms : ℕ → Form) (passed_as : List (ℕ × ℕ)) (u : Walk) → IsAccepted m → AreStatesOf m states → due_of (Some u) ≡ due.Return → Opened m ws cpus states forms passed_as u → (moved u ≡ None) × Closed m ws cpus states (with_new u.changes forms) []
after_return m ws cpus states forms passed_as u accepted now is_due o =
    let place = o.place in
    let p = o.parts in
    let d = return_due place.r u.chunk place.todo u.requested place.most (ap (λ (left : List Item). due_at left u.requested) (sym place.left_is) ∙ is_due) in
    let nothing : [] ≡ place.done ++ place.todo = sym (ap (λ (r : ℕ). round r u.chunk) d.0) ∙ place.split in
    let done : place.done ≡ [] = first_empty place.done place.todo (sym nothing) in
    let ws_is : ws ≡ place.past = place.writes ∙ ap (λ (xs : List Write). place.past ++ xs) done ∙ append-nil place.past in
    let later : joined u.later ≡ [] = ap joined (place.over d.0) in
    let all_is : u.changes ≡ o.finished ++ u.chunk = p.parts ∙ ap (λ (cs : List Change). o.finished ++ (u.chunk ++ cs)) later ∙ ap (λ (cs : List Change). o.finished ++ cs) (append-nil u.chunk) in
    let bytes : BytesAre (written place.past (start m)) 3 u.chunk = subst (λ (r : ℕ). BytesAre (written place.past (start m)) r u.chunk) d.0 o.bytes in
    let text : IsText m (with_new (o.finished ++ u.chunk) (wanted_at m p.before)) [] (written place.past (start m)) =
    text_chunk m states u.changes o.finished u.chunk (joined u.later) accepted now p (wanted_at m p.before) (written place.past (start m)) bytes o.text in
    let whole : IsText m (with_new u.changes (wanted_at m p.before)) [] (written ws (start m)) =
    subst (λ (cs : List Change). IsText m (with_new cs (wanted_at m p.before)) [] (written ws (start m))) (sym all_is)
    (subst (λ (xs : List Write). IsText m (with_new (o.finished ++ u.chunk) (wanted_at m p.before)) [] (written xs (start m))) (sym ws_is) text) in
    let wanted = new_is_wanted m states u.changes o.finished u.chunk (joined u.later) accepted now p in (
      ap (λ (items : List Item). moved_at items u) (place.left_is ∙ d.1),
      record {
        forms_are = λ at n is. with_new-forms u.changes forms (wanted_at m p.before) at (o.forms_are at n is) ∙ wanted at n is;
        text = text_forms m (with_new u.changes (wanted_at m p.before)) (wanted_at m states) [] (written ws (start m)) accepted wanted whole;
        cpus_are = λ c q here. current c q here d.0 ws_is;
        nobody = refl;
      },
    )
  where
    first_empty : (xs ys : List Write) → xs ++ ys ≡ [] → xs ≡ []
    first_empty [] ys none = refl
    first_empty (x ∷ xs) ys none = absurd (cc)

    with_new-forms : (cs : List Change) (f g : ℕ → Form) (at : ℕ) → f at ≡ g at → with_new cs f at ≡ with_new cs g at
    with_new-forms [] f g at same = same
    with_new-forms (c ∷ cs) f g at same = ap (λ (x : Form). if c.at == at then c.new else x) (with_new-forms cs f g at same)

    many : (b : Bool) (r : ℕ) → r ≡ 3 → count b r ≤ 2 → ⊥
    many true r third few = omega (arith, third, few)
    many false r third few = omega (arith, third, few)

    current : (c : ℕ) (q : Cpu) → slice_get cpus c ≡ Some q → o.place.r ≡ 3 → ws ≡ o.place.past → IsCurrent ws q
    current c q here third ws_is =
        let f = o.cpus_are.each c q here in
        let from = f.from in
        let to = f.to in
        let long = ap length ws_is in
        record { free = untrapped q.state.trapped refl f; mark = omega (arith, from, to, long) }
      where
        untrapped : (b : Bool) → q.state.trapped ≡ b → CpuFacts (start m) ws o.place.past u.chunk (joined u.later) passed_as c (slice_index_or u.took c false) (count (slice_index_or u.took c false) o.place.r) q → q.state.trapped ≡ false
        untrapped true e f = absurd (many (slice_index_or u.took c false) o.place.r third (f.trap e).few)
        untrapped false e f = e
