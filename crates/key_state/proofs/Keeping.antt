-- What commands make of the states of a module are states of it.
use Rattle.std.proofs.Common.{◌≡◌, ◌≢◌, ◌⊎◌, inl, inr, ◌∙◌, ◌<◌, ◌≤◌, ℕ, Bool, List, length, get_or, set, replicate, Option, Some, None, Result, Ok, Err, slice_get, slice_index, refl, sym, ap, subst, arith, get_or-set_same}
use Rattle.std.proofs.lemmas.Bool.{cases_eq}
use Rattle.std.proofs.lemmas.List.{get_or-set_other, length-replicate, length-set}
use Rattle.std.proofs.lemmas.Option.{same_Some}
use Rattle.key_state.specs.declared.count.CountRefused.{CountRefused}
use Rattle.insn_forms.specs.declared.forms.Change.{Change}
use Rattle.key_state.specs.After.{after, dec_after, disable_after, enable_after, greatest_count, inc_after, with_all_traced, with_count, with_key, with_trace}
use Rattle.key_state.specs.Changes.{AreStatesOf, changes, first_foreign}
use Rattle.key_state.specs.Laws.{CommandsKeepStates, UpdatesKeepStates}
use Rattle.key_state.specs.Outcome.{kept_at, settled_to}
use Rattle.module_parts.specs.declared.command.Command.TheVariants.{Inc, Dec, Enable, Disable, Target, Trace, TraceAll}
use Rattle.module_parts.specs.declared.key.Key.{Key}
use Rattle.module_parts.specs.declared.key.KeyClass.TheVariants.{Jump as JumpKey, Call as CallKey}
use Rattle.module_image.specs.Layout.{IsStart}
use Rattle.module_image.specs.Lent.{IsKeyOf}
use Rattle.module_image.specs.Module.{Module, States, layout_of}
use Rattle.module_image.proofs.StartLaws.{commands_lead}
use Rattle.key_state.proofs.Counting.{Fits, dec_fits, disable_fits, enable_fits, inc_fits}

-- what is read of a list in which one item was written
written_at : (P : ℕ → Type 0) (xs : List ℕ) (i j value : ℕ) → i < length xs → (j ≡ i → P value) → (j ≢ i → P (get_or xs j 0)) → P (get_or (set xs i value) j 0)
written_at P xs i j value below here elsewhere = elim (cases_eq j i) [
  | inl same ↦ subst P (sym (ap (λ (k : ℕ). get_or (set xs i value) k 0) same ∙ get_or-set_same xs i value 0 below)) (here same)
  | inr other ↦ subst P (sym (get_or-set_other xs i j value 0 other)) (elsewhere other)
]

-- two keys with one number are one key
same_key : (m : Module) (i j : ℕ) (k u : Key) → slice_get m.keys i ≡ Some k → slice_get m.keys j ≡ Some u → j ≡ i → k ≡ u
same_key m i j k u here there same =
    same_Some k u (sym here ∙ ap (λ (n : ℕ). slice_get m.keys n) (sym same) ∙ there)

-- what a key may be given: a count, or no function, or a start
record IsStateOf (m : Module) (k : Key) (value : ℕ) : Type 0 where
  count : k.class ≡ JumpKey → value ≤ greatest_count
  leads : k.class ≡ CallKey → (value ≡ 0) ⊎ IsStart (layout_of m) value

key_kept : (m : Module) (states : States) (key value : ℕ) (k : Key) → AreStatesOf m states → slice_get m.keys key ≡ Some k → key < length m.keys → IsStateOf m k value → AreStatesOf m (with_key states key value)
key_kept m states key value k of here below is =
    let long = of.keys in
    let inside : key < length states.keys = omega arith in
    record {
      keys = length-set states.keys key value ∙ of.keys;
      traced = of.traced;
      counts = λ j u there class.
          written_at (λ (n : ℕ). n ≤ greatest_count) states.keys key j value inside
          (λ same. is.count (ap (λ (x : Key). x.class) (same_key m key j k u here there same) ∙ class)) (λ other. of.counts j u there class);
      leads = λ j u there class.
          written_at (λ (n : ℕ). (n ≡ 0) ⊎ IsStart (layout_of m) n) states.keys key j value inside
          (λ same. is.leads (ap (λ (x : Key). x.class) (same_key m key j k u here there same) ∙ class)) (λ other. of.leads j u there class);
    }

-- a static key keeps a count
counted_kept : (m : Module) (old new : States) (key : ℕ) (r : Result ℕ CountRefused) → AreStatesOf m old → IsKeyOf m.keys JumpKey key → Fits r → with_count old key r ≡ Ok new → AreStatesOf m new
counted_kept m old new key (Err why) of is fits done = cc
counted_kept m old new key (Ok count) of is fits done =
    let same : with_key old key count ≡ new = cc in
    let small = fits count refl in
    subst (AreStatesOf m) same
    (key_kept m old key count is.key of is.here is.below (record { count = λ class. small; leads = λ class. absurd (let is_jump = is.is in cc) }))

-- a static call's key keeps a function
target_kept : (m : Module) (old new : States) (key func : ℕ) → AreStatesOf m old → IsKeyOf m.keys CallKey key → (func ≡ 0) ⊎ IsStart (layout_of m) func → with_key old key func ≡ new → AreStatesOf m new
target_kept m old new key func of is leads same =
    subst (AreStatesOf m) same
    (key_kept m old key func is.key of is.here is.below (record { count = λ class. absurd (let is_call = is.is in cc); leads = λ class. leads }))

trace_kept : (m : Module) (old : States) (traced : List Bool) → AreStatesOf m old → length traced ≡ length m.sites → AreStatesOf m (record old { traced = traced })
trace_kept m old traced of long =
    record { keys = of.keys; traced = long; counts = of.counts; leads = of.leads }

-- the count that a static key holds is at most the greatest
small_count : (m : Module) (states : States) (key : ℕ) → AreStatesOf m states → IsKeyOf m.keys JumpKey key → slice_index states.keys key ≤ greatest_count
small_count m states key of is = of.counts key is.key is.here is.is

pub commands_keep : CommandsKeepStates
commands_keep m old new (Inc key) accepted of is done =
    counted_kept m old new key (inc_after (slice_index old.keys key)) of is (inc_fits (slice_index old.keys key) (small_count m old key of is)) done
commands_keep m old new (Dec key) accepted of is done =
    counted_kept m old new key (dec_after (slice_index old.keys key)) of is (dec_fits (slice_index old.keys key) (small_count m old key of is)) done
commands_keep m old new (Enable key) accepted of is done =
    counted_kept m old new key (enable_after (slice_index old.keys key)) of is (enable_fits (slice_index old.keys key)) done
commands_keep m old new (Disable key) accepted of is done =
    counted_kept m old new key (disable_after (slice_index old.keys key)) of is (disable_fits (slice_index old.keys key)) done
commands_keep m old new (Target key func) accepted of is done =
    let same : with_key old key func ≡ new = cc in
    target_kept m old new key func of is.0 (commands_lead m key func accepted is) same
commands_keep m old new (Trace site on) accepted of is done =
    let same : with_trace old site on ≡ new = cc in
    subst (AreStatesOf m) same (trace_kept m old (set old.traced site on) of (length-set old.traced site on ∙ of.traced))
commands_keep m old new (TraceAll on) accepted of is done =
    let same : with_all_traced old on ≡ new = cc in
    subst (AreStatesOf m) same
    (trace_kept m old (replicate (length old.traced) on) of (length-replicate (length old.traced) on ∙ of.traced))

-- updates that are done keep them, and others change nothing
kept_of : (m : Module) (old new : States) (o : Option Change) → AreStatesOf m old → AreStatesOf m new → AreStatesOf m (kept_at old new o)
kept_of m old new None of still = still
kept_of m old new (Some c) of still = of

settled_kept : (m : Module) (old : States) (r : Result States CountRefused) → AreStatesOf m old → ((new : States) → r ≡ Ok new → AreStatesOf m new) → AreStatesOf m (settled_to m old r)
settled_kept m old (Err why) of keep = of
settled_kept m old (Ok new) of keep = kept_of m old new (first_foreign m (changes m old new)) of (keep new refl)

pub updates_keep : UpdatesKeepStates
updates_keep m states command accepted of is =
    settled_kept m states (after states command) of (λ new done. commands_keep m states new command accepted of is done)
