-- What a command needs of the states that it is done on, and that counts stay counts.
use Rattle.std.proofs.Common.{◌≡◌, ◌==◌, ◌+◌, ◌-◌, ◌≤◌, ℕ, Bool, true, false, cond, Result, Ok, Err, refl, arith, if◌then◌else◌}
use Rattle.std.proofs.lemmas.Bool.{eq-eqb}
use Rattle.key_state.specs.declared.count.CountRefused.{CountRefused}
use Rattle.key_state.specs.declared.count.CountRefused.TheVariants.{Zero, Greatest, Above}
use Rattle.key_state.specs.After.{by_count, dec_after, disable_after, enable_after, greatest_count, inc_after}
use Rattle.key_state.specs.Changes.{AreStatesOf}
use Rattle.key_state.specs.Effects.{CanDo, HoldsCount}
use Rattle.module_parts.specs.declared.command.Command.{Command}
use Rattle.module_parts.specs.declared.command.Command.TheVariants.{Inc, Dec, Enable, Disable, Target, Trace, TraceAll}
use Rattle.module_parts.specs.declared.key.KeyClass.TheVariants.{Jump as JumpKey}
use Rattle.module_image.specs.Command.{IsCommandOf}
use Rattle.module_image.specs.Lent.{IsKeyOf}
use Rattle.module_image.specs.Module.{Module, States}

-- a static key of a module holds a count
holds_count : (m : Module) (states : States) (key : ℕ) → AreStatesOf m states → IsKeyOf m.keys JumpKey key → HoldsCount states key
holds_count m states key of is =
    let below = is.below in
    let long = of.keys in
    record { below = omega arith; fits = of.counts key is.key is.here is.is }

-- what a command of a module names is there
pub can_do : (m : Module) (states : States) (command : Command) → AreStatesOf m states → IsCommandOf m command → CanDo states command
can_do m states (Inc key) of is = holds_count m states key of is
can_do m states (Dec key) of is = holds_count m states key of is
can_do m states (Enable key) of is = holds_count m states key of is
can_do m states (Disable key) of is = holds_count m states key of is
can_do m states (Target key func) of is = (let below = is.0.below in let long = of.keys in omega arith)
can_do m states (Trace site on) of is = (let below = is.below in let long = of.traced in omega arith)
can_do m states (TraceAll on) of is = tt

-- a count that isn't refused is at most the greatest
abbrev pub Fits : Result ℕ CountRefused → Type 0
Fits r = (n : ℕ) → r ≡ Ok n → n ≤ greatest_count

fits_ok : (k : ℕ) → k ≤ greatest_count → Fits (Ok k)
fits_ok k small n is = (let same : k ≡ n = cc in omega arith)

fits_err : (why : CountRefused) → Fits (Err why)
fits_err why n is = cc

fits_by : (none one : Result ℕ CountRefused) (more : ℕ → Result ℕ CountRefused) (count : ℕ) → Fits none → Fits one → Fits (more count) → Fits (by_count none one more count)
fits_by none one more count at_none at_one above = by (count == 0) (count == 1)
  where
    by : (zero one_more : Bool) → Fits (cond zero none (cond one_more one (more count)))
    by true first = at_none
    by false true = at_one
    by false false = above

fits_more : (count : ℕ) → count ≤ greatest_count → (last : Bool) → (count == greatest_count) ≡ last → Fits (cond last (Err Greatest) (Ok (count + 1)))
fits_more count small true is = fits_err Greatest
fits_more count small false is = fits_ok (count + 1) (grind (arith, is, eq-eqb))

pub inc_fits : (count : ℕ) → count ≤ greatest_count → Fits (inc_after count)
inc_fits count small =
    fits_by (Ok 1) (Ok 2) (λ n. if n == greatest_count then Err Greatest else Ok (n + 1)) count (fits_ok 1 (omega arith)) (fits_ok 2 (omega arith)) (fits_more count small (count == greatest_count) refl)

pub dec_fits : (count : ℕ) → count ≤ greatest_count → Fits (dec_after count)
dec_fits count small =
    fits_by (Err Zero) (Ok 0) (λ n. Ok (n - 1)) count (fits_err Zero) (fits_ok 0 (omega arith)) (fits_ok (count - 1) (omega arith))

pub enable_fits : (count : ℕ) → Fits (enable_after count)
enable_fits count =
    fits_by (Ok 1) (Ok 1) (λ n. Err (Above n)) count (fits_ok 1 (omega arith)) (fits_ok 1 (omega arith)) (fits_err (Above count))

pub disable_fits : (count : ℕ) → Fits (disable_after count)
disable_fits count =
    fits_by (Ok 0) (Ok 0) (λ n. Err (Above n)) count (fits_ok 0 (omega arith)) (fits_ok 0 (omega arith)) (fits_err (Above count))
