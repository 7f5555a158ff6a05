-- What the events of a run make of a list of tracers.
use Rattle.std.specs.Prelude.{⊤, ℕ, List, [], ◌∷◌, ◌++◌, map, take, drop, ◌+◌}
use Rattle.tracer_ops.specs.Meaning.{IsAs, Meaning, hit}

-- as many tracers, each as expected
abbrev pub AreAs : List Meaning → List Meaning → Type 0
AreAs [] [] = ⊤
AreAs (t ∷ ts) (expected ∷ more) = IsAs t expected × AreAs ts more
AreAs [] (expected ∷ more) = ⊥
AreAs (t ∷ ts) [] = ⊥

-- each tracer was hit once
abbrev pub all_hit : ℕ → List Meaning → List Meaning
all_hit site ts = map (hit site) ts

-- the one at a place is taken out, and those after it close up; where there is none, all stay
abbrev pub without : ℕ → List Meaning → List Meaning
without place ts = take place ts ++ drop (place + 1) ts
