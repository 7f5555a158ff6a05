-- What `since` means in other words.
use Rattle.std.specs.Prelude.{◌↔◌, ◌≤◌, ◌==◌, ℕ, List, length}
use Rattle.std.specs.List.{Contains, IsDistinct}
use Rattle.insn_forms.specs.Write.{Write}
use Rattle.insn_forms.specs.History.{Memory, IsCandidate, since}

-- the values that are listed are the candidates
abbrev pub CandidatesAreValues : Type 0
CandidatesAreValues =
    (start : Memory) (writes : List Write) (mark at value : ℕ) → mark ≤ length writes
    → (Contains (since start writes mark at) value ↔ IsCandidate start writes mark at value)

-- no value is listed twice
abbrev pub EachOnce : Type 0
EachOnce =
    (start : Memory) (writes : List Write) (mark at : ℕ) → IsDistinct (λ x y. x == y) (since start writes mark at)
