-- What `bench` prints.
use Rattle.std.specs.Prelude.{ℕ, List, [], ◌∷◌, ◌++◌, codes}
use Rattle.std.specs.List.{flat_map}
use Rattle.bench_run.specs.declared.counts.Counts.{Counts}
use Rattle.poke_base.specs.Number.{decimal}

-- the numbers that were given
abbrev pub bench_line : ℕ → ℕ → List ℕ
bench_line n seed = codes "bench " ++ decimal n ++ codes " " ++ decimal seed ++ 10 ∷ []

-- the counts of the run, each with its word
abbrev pub worded : Counts → List (List ℕ × ℕ)
worded counts =
    (codes "updates", counts.updates) ∷ (codes "writes", counts.writes) ∷ (codes "requests", counts.requests)
    ∷ (codes "takes", counts.takes) ∷ (codes "passes", counts.passes) ∷ (codes "traps", counts.traps) ∷ (codes "events", counts.events) ∷ []

abbrev pub count_line : List ℕ × ℕ → List ℕ
count_line count = count.0 ++ codes " " ++ decimal count.1 ++ 10 ∷ []

abbrev pub bench_text : ℕ → ℕ → Counts → List ℕ
bench_text n seed counts = bench_line n seed ++ flat_map count_line (worded counts)
