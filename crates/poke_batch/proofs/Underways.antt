-- What holds of an open update holds after each of its steps.
use Rattle.std.proofs.Common.{◌≡◌, ◌≤◌, ◌<◌, ℕ, zero, suc, Bool, true, false, if◌then◌else◌, List, [], ◌∷◌, ◌++◌, length, map, set, drop, Option, Some, None, IfSome, All, refl, ap, sym, subst, ◌∙◌, arith, append_assoc}
use Rattle.std.specs.List.{list_all}
use Rattle.std.proofs.lemmas.List.{length-replicate, length-set}
use Rattle.insn_forms.specs.declared.forms.Change.{Change}
use Rattle.insn_forms.specs.Write.{Write}
use Rattle.poke_batch.specs.declared.batch.Due.TheVariants.{Request, Wait}
use Rattle.poke_batch.specs.Clash.{CanPoke, IsPatchable}
use Rattle.poke_batch.specs.Poke.{Item, chunks, firsts, poke, tails, traps}
use Rattle.poke_batch.specs.Poke.Item.{Puts, Syncs}
use Rattle.poke_batch.specs.Underway.{AreApart, IsSpellable, IsUnderway}
use Rattle.poke_batch.specs.Walk.{Walk, at_first, due_at, due_of, moved, moved_at, next_phase, nobody, opened, passed, taken}

abbrev is_sync : Item → Bool
is_sync (Puts w) = false
is_sync Syncs = true

-- whether the last item is a synchronisation
abbrev ends_synced : List Item → Bool
ends_synced [] = false
ends_synced (item ∷ []) = is_sync item
ends_synced (item ∷ next ∷ items) = ends_synced (next ∷ items)

-- the last item is that of the items at the end
ends_synced-append : (before items : List Item) (item : Item) → ends_synced (before ++ item ∷ items) ≡ ends_synced (item ∷ items)
ends_synced-append [] items item = refl
ends_synced-append (first ∷ []) items item = refl
ends_synced-append (first ∷ second ∷ before) items item = ends_synced-append (second ∷ before) items item

-- a poke ends with a synchronisation
poke-ends_synced : (chunk : List Change) → ends_synced (poke chunk) ≡ true
poke-ends_synced chunk =
    ends_synced-append (map Puts (traps chunk)) (map Puts (tails chunk) ++ Syncs ∷ (map Puts (firsts chunk) ++ Syncs ∷ [])) Syncs
    ∙ ends_synced-append (Syncs ∷ map Puts (tails chunk)) (map Puts (firsts chunk) ++ Syncs ∷ []) Syncs
    ∙ ends_synced-append (Syncs ∷ map Puts (firsts chunk)) [] Syncs

-- so it isn't empty
poke-some : (chunk : List Change) → poke chunk ≡ [] → ⊥
poke-some chunk none =
    let clash : false ≡ true = sym (ap ends_synced none) ∙ poke-ends_synced chunk in
    absurd (cc)

-- and its last item is no write
write-not_last : (chunk : List Change) (gone : List Item) (w : Write) → gone ++ Puts w ∷ [] ≡ poke chunk → ⊥
write-not_last chunk gone w whole =
    let clash : false ≡ true = sym (ends_synced-append gone [] (Puts w)) ∙ ap ends_synced whole ∙ poke-ends_synced chunk in
    absurd (cc)

-- the suffix after one item more
shorter_suffix : (chunk : List Change) (gone left : List Item) (item : Item) → gone ++ item ∷ left ≡ poke chunk → (gone ++ item ∷ []) ++ left ≡ poke chunk
shorter_suffix chunk gone left item whole = append_assoc gone (item ∷ []) left ∙ whole

-- where there are processors, not all of them are nobody
pub nobody-unfinished : (n : ℕ) → 1 ≤ n → list_all (λ flag. flag) (nobody n) ≡ false
nobody-unfinished zero some = absurd (omega arith)
nobody-unfinished (suc n) some = refl

-- a wait is due where a request for the next synchronisation stands
pub waits_at : (left : List Item) (requested : Bool) → due_at left requested ≡ Wait → (requested ≡ true) × (rest : List Item) × (left ≡ Syncs ∷ rest)
waits_at [] requested waits = absurd (cc)
waits_at (Puts w ∷ left) requested waits = absurd (cc)
waits_at (Syncs ∷ left) true waits = (refl, left, refl)
waits_at (Syncs ∷ left) false waits = absurd (cc)

-- a request is due where it wasn't made
pub unrequested_at : (left : List Item) (requested : Bool) → due_at left requested ≡ Request → (requested ≡ false) × (rest : List Item) × (left ≡ Syncs ∷ rest)
unrequested_at [] requested due = absurd (cc)
unrequested_at (Puts w ∷ left) requested due = absurd (cc)
unrequested_at (Syncs ∷ left) true due = absurd (cc)
unrequested_at (Syncs ∷ left) false due = (refl, left, refl)

-- after a due write, request or return
moved_by : (cpus : ℕ) (left : List Item) (walk : Walk) → walk.left ≡ left → IsUnderway cpus walk → IfSome (moved_at left walk) (IsUnderway cpus)
moved_by cpus [] walk is u = tt
moved_by cpus (Puts w ∷ left) walk is u =
    let whole : u.gone ++ Puts w ∷ left ≡ poke walk.chunk = ap (λ items. u.gone ++ items) (sym is) ∙ u.suffix in
    record {
      some_cpus = u.some_cpus;
      most_cpus = u.most_cpus;
      some = u.some;
      spelt = u.spelt;
      apart = u.apart;
      earlier = u.earlier;
      split = u.split;
      gone = u.gone ++ Puts w ∷ [];
      suffix = shorter_suffix walk.chunk u.gone left (Puts w) whole;
      last = λ none. absurd (write-not_last walk.chunk u.gone w (ap (λ items. u.gone ++ Puts w ∷ items) (sym none) ∙ whole));
      flags = u.flags;
      unfinished = u.unfinished;
      unasked = u.unasked;
      asked = λ requested. let stands = u.asked requested in let clash : Puts w ∷ left ≡ Syncs ∷ stands.0 = sym is ∙ stands.1 in absurd (cc);
    }
moved_by cpus (Syncs ∷ left) walk is u = record {
  some_cpus = u.some_cpus;
  most_cpus = u.most_cpus;
  some = u.some;
  spelt = u.spelt;
  apart = u.apart;
  earlier = u.earlier;
  split = u.split;
  gone = u.gone;
  suffix = u.suffix;
  last = u.last;
  flags = u.flags;
  unfinished = u.unfinished;
  unasked = λ requested. absurd (cc);
  asked = λ requested. (left, is);
}

pub moved_underway : (cpus : ℕ) (walk : Walk) → IsUnderway cpus walk → IfSome (moved walk) (IsUnderway cpus)
moved_underway cpus walk u = moved_by cpus walk.left walk refl u

-- after a synchronisation
passed_by : (cpus : ℕ) (left : List Item) (later : List (List Change)) (walk : Walk) → walk.left ≡ Syncs ∷ left → walk.later ≡ later → IsUnderway cpus walk → IsUnderway cpus (next_phase left later (record walk { requested = false; took = nobody (length walk.took) }))
passed_by cpus (item ∷ left) later walk is rest u =
    let whole : u.gone ++ Syncs ∷ item ∷ left ≡ poke walk.chunk = ap (λ items. u.gone ++ items) (sym is) ∙ u.suffix in
    record {
      some_cpus = u.some_cpus;
      most_cpus = u.most_cpus;
      some = u.some;
      spelt = u.spelt;
      apart = u.apart;
      earlier = u.earlier;
      split = u.split;
      gone = u.gone ++ Syncs ∷ [];
      suffix = shorter_suffix walk.chunk u.gone (item ∷ left) Syncs whole;
      last = λ none. absurd (cc);
      flags = length-replicate (length walk.took) false ∙ u.flags;
      unfinished = nobody-unfinished (length walk.took) (let each = u.flags in let some = u.some_cpus in omega arith);
      unasked = λ _. ap nobody u.flags;
      asked = λ requested. absurd (cc);
    }
passed_by cpus [] (chunk ∷ later) walk is rest u = record {
  some_cpus = u.some_cpus;
  most_cpus = u.most_cpus;
  some = u.some;
  spelt = u.spelt;
  apart = u.apart;
  earlier = u.earlier ++ walk.chunk ∷ [];
  split =
      append_assoc u.earlier (walk.chunk ∷ []) (chunk ∷ later)
      ∙ ap (λ (after : List (List Change)). u.earlier ++ walk.chunk ∷ after) (sym rest) ∙ u.split;
  gone = [];
  suffix = refl;
  last = λ none. absurd (poke-some chunk none);
  flags = length-replicate (length walk.took) false ∙ u.flags;
  unfinished = nobody-unfinished (length walk.took) (let each = u.flags in let some = u.some_cpus in omega arith);
  unasked = λ _. ap nobody u.flags;
  asked = λ requested. absurd (cc);
}
passed_by cpus [] [] walk is rest u =
    let whole : u.gone ++ Syncs ∷ [] ≡ poke walk.chunk = ap (λ items. u.gone ++ items) (sym is) ∙ u.suffix in
    record {
      some_cpus = u.some_cpus;
      most_cpus = u.most_cpus;
      some = u.some;
      spelt = u.spelt;
      apart = u.apart;
      earlier = u.earlier;
      split = u.split;
      gone = u.gone ++ Syncs ∷ [];
      suffix = shorter_suffix walk.chunk u.gone [] Syncs whole;
      last = λ _. rest;
      flags = length-replicate (length walk.took) false ∙ u.flags;
      unfinished = nobody-unfinished (length walk.took) (let each = u.flags in let some = u.some_cpus in omega arith);
      unasked = λ _. ap nobody u.flags;
      asked = λ requested. absurd (cc);
    }

passed_underway : (cpus : ℕ) (walk : Walk) (rest : List Item) → walk.left ≡ Syncs ∷ rest → IsUnderway cpus walk → IsUnderway cpus (passed walk)
passed_underway cpus walk rest is u =
    subst (λ (left : List Item). IsUnderway cpus (next_phase left walk.later (record walk { requested = false; took = nobody (length walk.took) }))) (sym (ap (drop 1) is)) (passed_by cpus rest walk.later walk is refl u)

-- after an acknowledgement
taken_by : (cpus cpu : ℕ) (walk : Walk) (all : Bool) → list_all (λ t. t) (set walk.took cpu true) ≡ all → due_of (Some walk) ≡ Wait → IsUnderway cpus walk → IsUnderway cpus (if all then passed walk else record walk { took = set walk.took cpu true })
taken_by cpus cpu walk true is waits u =
    let due = waits_at walk.left walk.requested waits in
    passed_underway cpus walk due.1 due.2 u
taken_by cpus cpu walk false is waits u =
    let due = waits_at walk.left walk.requested waits in
    record {
      some_cpus = u.some_cpus;
      most_cpus = u.most_cpus;
      some = u.some;
      spelt = u.spelt;
      apart = u.apart;
      earlier = u.earlier;
      split = u.split;
      gone = u.gone;
      suffix = u.suffix;
      last = u.last;
      flags = length-set walk.took cpu true ∙ u.flags;
      unfinished = is;
      unasked = λ requested. let clash : false ≡ true = sym requested ∙ due.0 in absurd (cc);
      asked = u.asked;
    }

pub taken_underway : (cpus cpu : ℕ) (walk : Walk) → due_of (Some walk) ≡ Wait → IsUnderway cpus walk → IsUnderway cpus (taken cpu walk)
taken_underway cpus cpu walk waits u = taken_by cpus cpu walk _ refl waits u

-- at its first item
first_underway : (cpus : ℕ) (changes : List Change) (cut : List (List Change)) → chunks changes ≡ cut → 1 ≤ cpus → cpus ≤ 16 → 1 ≤ length changes → All IsSpellable changes → AreApart changes → IfSome (at_first cpus changes cut) (IsUnderway cpus)
first_underway cpus changes [] is some_cpus most_cpus some spelt apart = tt
first_underway cpus changes (chunk ∷ later) is some_cpus most_cpus some spelt apart = record {
  some_cpus = some_cpus;
  most_cpus = most_cpus;
  some = some;
  spelt = spelt;
  apart = apart;
  earlier = [];
  split = sym is;
  gone = [];
  suffix = refl;
  last = λ none. absurd (poke-some chunk none);
  flags = length-replicate cpus false;
  unfinished = nobody-unfinished cpus some_cpus;
  unasked = λ _. refl;
  asked = λ requested. absurd (cc);
}

-- a change that can be poked has its spellings
spellable_of : (held : ℕ → Option ℕ) (c : Change) → IsPatchable held c → IsSpellable c
spellable_of held c can = record {
  one_size = can.one_size;
  old_spelt = can.old_spelt;
  new_spelt = can.new_spelt;
  below = can.below;
}

pub opened_underway : (cpus : ℕ) (held : ℕ → Option ℕ) (changes : List Change) → 1 ≤ cpus → cpus ≤ 16 → 0 < length changes → CanPoke held changes → IfSome (opened cpus changes) (IsUnderway cpus)
opened_underway cpus held changes some_cpus most_cpus some can =
    first_underway cpus changes (chunks changes) refl some_cpus most_cpus (omega arith) (λ k d lt. spellable_of held _ (can.each k d lt)) can.apart

-- so it is after a step, whatever was open before
pub step_underway : (cpus : ℕ) (old new : Option Walk) → IfSome old (λ walk. new ≡ moved walk) → IfSome old (IsUnderway cpus) → (old ≡ None → new ≡ None) → IfSome new (IsUnderway cpus)
step_underway cpus None new step u closed = subst (λ (walk : Option Walk). IfSome walk (IsUnderway cpus)) (sym (closed refl)) tt
step_underway cpus (Some walk) new step u closed =
    subst (λ (after : Option Walk). IfSome after (IsUnderway cpus)) (sym step) (moved_underway cpus walk u)

pub ack_underway : (cpus cpu : ℕ) (old new : Option Walk) → IfSome old (λ walk. new ≡ Some (taken cpu walk)) → due_of old ≡ Wait → IfSome old (IsUnderway cpus) → IfSome new (IsUnderway cpus)
ack_underway cpus cpu None new step waits u = absurd (cc)
ack_underway cpus cpu (Some walk) new step waits u =
    subst (λ (after : Option Walk). IfSome after (IsUnderway cpus)) (sym step) (taken_underway cpus cpu walk waits u)

-- nobody has taken a request that was just made
pub nobody_at_request : (cpus : ℕ) (old new : Option Walk) → IfSome old (λ walk. new ≡ moved walk) → IfSome old (IsUnderway cpus) → due_of old ≡ Request → IfSome new (λ walk. walk.took ≡ nobody cpus)
nobody_at_request cpus None new step u due = absurd (cc)
nobody_at_request cpus (Some walk) new step u due =
    let at = unrequested_at walk.left walk.requested due in
    let requested : moved walk ≡ Some (record walk { requested = true }) = ap (λ (left : List Item). moved_at left walk) at.2 in
    subst (λ (after : Option Walk). IfSome after (λ (w : Walk). w.took ≡ nobody cpus)) (sym (step ∙ requested)) (u.unasked at.0)

-- nothing is left only of the last chunk
pub last_of : (cpus : ℕ) (update : Option Walk) → IfSome update (IsUnderway cpus) → IfSome update (λ walk. walk.left ≡ [] → walk.later ≡ [])
last_of cpus None u = tt
last_of cpus (Some walk) u = u.last
