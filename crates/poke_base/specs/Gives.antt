-- How much of a file is given to a caller that allows a number of bytes.
use Rattle.std.specs.Prelude.{◌≡◌, ◌+◌, ◌<◌, ◌≤◌, ℕ, List, [], length, take, Result, Ok, Err}
use Rattle.poke_base.specs.declared.host.ReadFail.{ReadFail}
use Rattle.poke_base.specs.declared.host.ReadFail.TheVariants.{Failed, TooLong, NoMemory}

-- all of the bytes where the caller allows n, or the first of them, one more than it allows
abbrev pub Gives : {T : Type 0} → List ℕ → ℕ → List ℕ → Result T ReadFail → Type 0
Gives bytes limit out (Ok done) = (length bytes ≤ limit) × (out ≡ bytes)
Gives bytes limit out (Err Failed) = ⊥
Gives bytes limit out (Err TooLong) = (limit < length bytes) × (out ≡ take (limit + 1) bytes)
Gives bytes limit out (Err NoMemory) = out ≡ []
