-- The line of how an update ended.
use Rattle.std.specs.Prelude.{ℕ, List, [], ◌∷◌, ◌++◌, codes}
use Rattle.hex.specs.Hex.{encode_lower}
use Rattle.poke_base.specs.Number.{decimal, hexadecimal}
use Rattle.key_state.specs.Outcome.{Ending, Returns, CountRefuses, Clashes}

-- where a clash is, what was found there, and what was expected
abbrev pub clash_words : ℕ → List ℕ → List ℕ → List ℕ
clash_words at found expected = hexadecimal at ++ codes " " ++ encode_lower found ++ codes " " ++ encode_lower expected

-- how it ended: with how many sites changed, or refused at a count, or by a clash
abbrev pub ending_words : Ending → List ℕ
ending_words (Returns sites) = codes "done " ++ decimal sites
ending_words (CountRefuses count) = codes "refused count " ++ decimal count
ending_words (Clashes at found expected) = codes "refused clash " ++ clash_words at found expected

-- `update U` and how it ended; updates are counted from 1
abbrev pub outcome_line : ℕ → Ending → List ℕ
outcome_line update ending = codes "update " ++ decimal update ++ codes " " ++ ending_words ending ++ 10 ∷ []
