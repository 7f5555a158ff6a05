-- What a tracer is, and what a hit makes of it.
use Rattle.std.specs.Prelude.{◌≡◌, ◌≢◌, ℕ, ◌+◌, ◌-◌, ◌^◌, min, List, [], ◌∷◌, ◌++◌, drop, length}
use Rattle.tracer_ops.specs.declared.tracer.TracerRule.{TracerRule}
use Rattle.tracer_ops.specs.declared.tracer.TracerRule.TheVariants.{Count, LastSites, Untold}

-- a rule, which no call changes, and a list of numbers
pub record Meaning : Type 0 where
  pub rule : TracerRule
  pub numbers : List ℕ

-- a total goes up by one, and stands still at the greatest u64
abbrev pub one_more : ℕ → ℕ
one_more total = min (total + 1) (2 ^ 64 - 1)

-- the last 16 of a list
abbrev pub last_16 : List ℕ → List ℕ
last_16 sites = drop (length sites - 16) sites

-- what a hit at a site makes of the numbers, by the rule: a total; a total and the sites that were hit last, oldest first
abbrev pub counted : List ℕ → List ℕ
counted [] = []
counted (total ∷ rest) = one_more total ∷ rest

abbrev pub listed : ℕ → List ℕ → List ℕ
listed site [] = []
listed site (total ∷ sites) = one_more total ∷ last_16 (sites ++ site ∷ [])

abbrev pub numbers_hit : TracerRule → ℕ → List ℕ → List ℕ
numbers_hit Count site numbers = counted numbers
numbers_hit LastSites site numbers = listed site numbers
numbers_hit Untold site numbers = numbers

abbrev pub hit : ℕ → Meaning → Meaning
hit site t = record t { numbers = numbers_hit t.rule site t.numbers }

-- the total is the first number; 0 where there is none
abbrev pub total : List ℕ → ℕ
total [] = 0
total (n ∷ rest) = n

-- of a tracer whose rule isn't told nothing is claimed but the rule
pub record IsAs (t expected : Meaning) : Type 0 where
  pub rule : t.rule ≡ expected.rule
  pub numbers : t.rule ≢ Untold → t.numbers ≡ expected.numbers

-- a total that a tracer answers
abbrev pub IsTotal : Meaning → ℕ → Type 0
IsTotal t n = t.rule ≢ Untold → n ≡ total t.numbers
