-- What a writer that tells its bytes gains by several writes.
use Rattle.std.proofs.Common.{◌≡◌, ◌∙◌, ap, ℕ, ◌-◌, ◌≤◌, List, ◌++◌, length, take, drop, Option, Some, None, append_assoc, length-drop, arith}
use Rattle.std.proofs.lemmas.List.{take_all, take-append-drop}
use Rattle.std.specs.Io.KnownBytes.{Appends}

-- some bytes were written and then the next
pub Appends-more : (old middle new : Option (List ℕ)) (first next : List ℕ) → Appends old middle first → Appends middle new next → Appends old new (first ++ next)
Appends-more None middle new first next h k = tt
Appends-more (Some bytes) None new first next h k = absurd h
Appends-more (Some bytes) (Some more) None first next h k = absurd k
Appends-more (Some bytes) (Some more) (Some last) first next h k =
    k ∙ ap (λ now. now ++ next) h ∙ append_assoc bytes first next

-- a slice is its first bytes and those from there on
pub parted : (n : ℕ) (bytes : List ℕ) → n ≤ length bytes → take n bytes ++ take (length bytes - n) (drop n bytes) ≡ bytes
parted n bytes h =
    let fits : length (drop n bytes) ≤ length bytes - n = omega (arith, length-drop n bytes) in
    ap (λ more. take n bytes ++ more) (take_all (length bytes - n) (drop n bytes) fits) ∙ take-append-drop n bytes
