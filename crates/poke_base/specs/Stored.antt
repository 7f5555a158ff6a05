-- What a host in memory keeps: its files, and the name of the file that is being made.
use Rattle.std.specs.Prelude.{ℕ, List, [], ◌++◌, map, unwrap_or, Option, String, Vec, refl, string_bytes}
use Rattle.std.specs.Coded.{Coded, code_by, coded×, coded_ℕ, coded_list, coded_option}
use Rattle.std.specs.FinMap as fin
use Rattle.std.specs.declared.alloc.Global.{Global}
use Rattle.std.specs.FinMap.{from_entries, get, insert}
use Rattle.poke_base.specs.Host.{Files}

-- the files, and the name of the one that is being made
pub record Stored : Type 0 where
  pub files : Files
  pub making : Option (List ℕ)

-- what is stored as a pair of its parts
abbrev pub stored_code : Coded Stored
stored_code =
    code_by (Files × Option (List ℕ)) (coded× (fin.code (coded_list coded_ℕ) (coded_list coded_ℕ)) (coded_option (coded_list coded_ℕ))) (λ s. (s.files, s.making)) (λ p. record { files = p.0; making = p.1 }) (λ _. refl)

-- an entry of the map, by the bytes of its name
abbrev pub file_of : String Global × Vec ℕ Global → List ℕ × List ℕ
file_of entry = (string_bytes entry.0, entry.1.items)

-- the files that the entries of the map are
abbrev pub files_in : List (String Global × Vec ℕ Global) → Files
files_in entries = from_entries (map file_of entries)

-- the files with a piece at the end of one of them
abbrev pub added : Files → List ℕ → List ℕ → Files
added files name piece = insert files name (unwrap_or (get files name) [] ++ piece)
