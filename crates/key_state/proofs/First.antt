-- The states as the file has them.
use Rattle.std.proofs.Common.{◌≡◌, ◌∙◌, ℕ, false, length, get_or, Some, option_map, slice_get, refl, ap, arith}
use Rattle.std.proofs.lemmas.List.{length-map, length-replicate}
use Rattle.std.proofs.lemmas.Option.{get_or_from_slice_get, slice_get-map}
use Rattle.key_state.specs.Changes.{AreStatesOf}
use Rattle.key_state.specs.Laws.{FirstStatesAreOfTheModule}
use Rattle.key_state.specs.Outcome.{HoldsWanted}
use Rattle.module_parts.specs.declared.key.Key.{Key}
use Rattle.module_image.specs.Held.{first_states}
use Rattle.module_image.specs.Module.{IsAccepted, Module}
use Rattle.module_image.specs.Sites.{starts_of}
use Rattle.module_laws.proofs.HeldWanted.{wanted_held}
use Rattle.module_image.proofs.Lent.{counts_fit}
use Rattle.module_image.proofs.StartLaws.{first_states as first_lead}

-- a key holds what the file has there
pub start_is : (m : Module) (k : ℕ) (key : Key) → slice_get m.keys k ≡ Some key → get_or (starts_of m.keys) k 0 ≡ key.start
start_is m k key here =
    get_or_from_slice_get (starts_of m.keys) k key.start 0
    (slice_get-map (λ (x : Key). x.start) m.keys k ∙ ap (option_map (λ (x : Key). x.start)) here)

pub first_of : (m : Module) → IsAccepted m → AreStatesOf m (first_states m)
first_of m accepted = record {
  keys = length-map m.keys (λ (x : Key). x.start);
  traced = length-replicate (length m.sites) false;
  counts = λ k key here class.
      let fits = counts_fit m k key accepted here class in
      let is = start_is m k key here in
      omega (arith, fits, is);
  leads = first_lead m accepted;
}

pub first_holds : (m : Module) → IsAccepted m → HoldsWanted m (first_states m) m.text
first_holds m accepted = record {
  same_length = refl;
  patched = λ i s form here own want. wanted_held m i s form accepted here own want;
  others = λ k beside. refl;
}

pub first_are : FirstStatesAreOfTheModule
first_are m accepted = (first_of m accepted, first_holds m accepted)
