-- Which processors have not taken a request.
use Rattle.std.proofs.Common.{◌≡◌, ◌<◌, ℕ, suc, Bool, true, false, List, [], ◌∷◌, length, Option, Some, None, IfSome, refl, arith}
use Rattle.std.specs.Prelude.{slice_index_or}
use Rattle.std.specs.List.{list_all}
use Rattle.poke_batch.specs.declared.batch.Due.TheVariants.{Wait}
use Rattle.poke_batch.specs.Underway.{IsUnderway}
use Rattle.poke_batch.specs.Walk.{Walk, due_of, has_taken}

-- a flag that isn't set
pub record Unset (flags : List Bool) : Type 0 where
  pub index : ℕ
  pub within : index < length flags
  pub unset : slice_index_or flags index false ≡ false

-- where not all flags are set, one isn't
pub unset_of : (flags : List Bool) → list_all (λ flag. flag) flags ≡ false → Unset flags
unset_of [] some = absurd (cc)
unset_of (false ∷ flags) some = record { index = 0; within = omega arith; unset = refl }
unset_of (true ∷ flags) some =
    let rest = unset_of flags some in
    record { index = suc rest.index; within = let after = rest.within in omega arith; unset = rest.unset }

-- where a synchronisation is waited for, some processor hasn't taken it
pub lacking : (cpus : ℕ) (update : Option Walk) → IfSome update (IsUnderway cpus) → due_of update ≡ Wait → (cpu : ℕ) × (cpu < cpus) × (has_taken update cpu ≡ false)
lacking cpus None u waits = absurd (cc)
lacking cpus (Some walk) u waits =
    let lack = unset_of walk.took u.unfinished in
    let within = lack.within in
    let each = u.flags in
    (lack.index, omega arith, lack.unset)
