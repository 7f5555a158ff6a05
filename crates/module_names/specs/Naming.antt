-- What the program holds of names.
use Rattle.std.specs.Prelude.{ℕ, List, [], ◌∷◌, Option, Some, None}
use Rattle.std.specs.Global.{Vec}

-- the entries of a map as names with what they stand for
abbrev pub named_in : {T : Type 0} → List (Vec ℕ × T) → List (List ℕ × T)
named_in [] = []
named_in (e ∷ es) = (e.0.items, e.1) ∷ named_in es

-- a name with a value, where there is one
abbrev pub named_by : {T : Type 0} → List ℕ → Option T → List (List ℕ × T)
named_by name None = []
named_by name (Some value) = (name, value) ∷ []
