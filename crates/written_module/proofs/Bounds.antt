-- How large a plan and its file are.
use Rattle.std.proofs.Common.{◌≡◌, ◌≤◌, ◌+◌, ◌-◌, ◌*◌, ◌/◌, ◌%◌, ◌^◌, ◌&&◌, ℕ, Bool, true, List, [], ◌∷◌, ◌++◌, length, replicate, refl, arith}
use Rattle.std.specs.Prelude.{not, nat_lt, nat_le, nat_eq}
use Rattle.std.specs.List.{list_all}
use Rattle.std.proofs.lemmas.Bool.{and_parts, leb-true, eqb-true}
use Rattle.std.proofs.lemmas.List.{length-append, length-replicate}
use Rattle.elf_build.specs.declared.tables.PlanTable.{PlanTable}
use Rattle.elf_build.specs.declared.tables.PlanTable.TheVariants.{Jumps, Calls, Traces}
use Rattle.elf_build.specs.declared.sections.Part.{Part}
use Rattle.elf_build.specs.declared.sections.Part.TheVariants.{Text, Entries, Data, Symbols, Names, SectionNames}
use Rattle.elf_build.specs.declared.plan.Plan.{Plan}
use Rattle.elf_build.specs.declared.plan.PlanSite.{PlanSite}
use Rattle.elf_build.specs.declared.plan.PlanSite.TheVariants.{Jump, Call, Trace}
use Rattle.elf_build.specs.declared.plan.PlanKey.{PlanKey}
use Rattle.elf_build.specs.declared.plan.KeyStart.{KeyStart}
use Rattle.elf_build.specs.declared.plan.KeyStart.TheVariants.{Count, Func}
use Rattle.elf_build.specs.declared.plan.PlanFunction.{PlanFunction}
use Rattle.elf_build.specs.Fits.{fits, has_place, is_small, site_fits, key_fits, function_fits, is_name, is_in_text, start_fits}
use Rattle.elf_build.specs.File.{body, part_bytes, data_of, entry_bytes, filled, function_symbols, key_symbols, laid, names_of, names_of_functions, names_of_keys, symbol_table, data_at, table_at, parts, start_bytes, symbol, table_from}

-- what a plan that fits has
pub record Bounds (plan : Plan) : Type 0 where
  pub page : plan.base % 4096 ≡ 0
  pub low : plan.base + 1048576 ≤ 2 ^ 64
  pub text : length plan.text.items ≤ 65536
  pub sites : length plan.sites.items ≤ 1024
  pub keys : length plan.keys.items ≤ 1024
  pub functions : length plan.functions.items ≤ 2048
  pub all_sites : list_all (site_fits plan) plan.sites.items ≡ true
  pub all_keys : list_all key_fits plan.keys.items ≡ true
  pub all_functions : list_all (function_fits plan) plan.functions.items ≡ true

-- five tests in a row
five : (a b c d e : Bool) → (a && b && c && d && e) ≡ true → (a ≡ true) × (b ≡ true) × (c ≡ true) × (d ≡ true) × (e ≡ true)
five true true true true e all = (refl, refl, refl, refl, all)
five _ _ _ _ _ all = absurd (cc)

-- the bounds of a plan that fits
pub bounds : (plan : Plan) → fits plan ≡ true → Bounds plan
bounds plan all =
    let f = five (has_place plan) (is_small plan) (list_all (site_fits plan) plan.sites.items) (list_all key_fits plan.keys.items) (list_all (function_fits plan) plan.functions.items) all in
    let place = and_parts (nat_eq (plan.base % 4096) 0) (nat_le plan.base (2 ^ 64 - 1048576)) f.0 in
    let small = five (nat_lt 0 (length plan.text.items)) (nat_le (length plan.text.items) 65536) (nat_le (length plan.sites.items) 1024) (nat_le (length plan.keys.items) 1024) (nat_le (length plan.functions.items) 2048) f.1 in
    let low = leb-true plan.base (2 ^ 64 - 1048576) place.1 in
    record {
      page = eqb-true (plan.base % 4096) 0 place.0;
      low = omega arith;
      text = leb-true (length plan.text.items) 65536 small.1;
      sites = leb-true (length plan.sites.items) 1024 small.2;
      keys = leb-true (length plan.keys.items) 1024 small.3;
      functions = leb-true (length plan.functions.items) 2048 small.4;
      all_sites = f.2;
      all_keys = f.3;
      all_functions = f.4;
    }

-- a table of entries of at most 16 bytes
pub length-table : (entry : ℕ → PlanSite → List ℕ) → ((field : ℕ) (site : PlanSite) → length (entry field site) ≤ 16)
    → (sites : List PlanSite) (field : ℕ) → length (table_from entry field sites) ≤ 16 * length sites
length-table entry each [] field = omega arith
length-table entry each (site ∷ sites) field =
    let sum : length (table_from entry field (site ∷ sites)) ≡ length (entry field site) + length (table_from entry (field + length (entry field site)) sites) =
    length-append (entry field site) (table_from entry (field + length (entry field site)) sites) in
    let here = each field site in
    let rest = length-table entry each sites (field + length (entry field site)) in
    omega arith

-- an entry of each table has at most 16 bytes
pub length-entry : (table : PlanTable) (plan : Plan) (field : ℕ) (site : PlanSite) → length (entry_bytes table plan field site) ≤ 16
length-entry Jumps plan field (Jump at target key likely) = omega arith
length-entry Jumps plan field (Call at key tail) = omega arith
length-entry Jumps plan field (Trace at) = omega arith
length-entry Calls plan field (Jump at target key likely) = omega arith
length-entry Calls plan field (Call at key tail) = omega arith
length-entry Calls plan field (Trace at) = omega arith
length-entry Traces plan field (Jump at target key likely) = omega arith
length-entry Traces plan field (Call at key tail) = omega arith
length-entry Traces plan field (Trace at) = omega arith

-- what a key starts with has 16 bytes
pub length-start : (start : KeyStart) → length (start_bytes start) ≡ 16
length-start (Count count) = refl
length-start (Func at) = refl

-- the keys have 16 bytes each
pub length-data : (keys : List PlanKey) → length (data_of keys) ≡ 16 * length keys
length-data [] = refl
length-data (key ∷ keys) =
    let sum : length (data_of (key ∷ keys)) ≡ length (start_bytes key.start) + length (data_of keys) = length-append (start_bytes key.start) (data_of keys) in
    let here = length-start key.start in
    let rest = length-data keys in
    omega arith

-- the symbols of functions have 24 bytes each
pub length-function_symbols : (functions : List PlanFunction) (name : ℕ) → length (function_symbols name functions) ≡ 24 * length functions
length-function_symbols [] name = refl
length-function_symbols (function ∷ functions) name =
    let next = name + length function.name.items + 1 in
    let sum : length (function_symbols name (function ∷ functions)) ≡ 24 + length (function_symbols next functions) =
    length-append (symbol name 0x12 1 function.at 0) (function_symbols next functions) in
    let rest : length (function_symbols next functions) ≡ 24 * length functions = length-function_symbols functions next in
    omega arith

-- the symbols of keys have 24 bytes each
pub length-key_symbols : (keys : List PlanKey) (name at : ℕ) → length (key_symbols name at keys) ≡ 24 * length keys
length-key_symbols [] name at = refl
length-key_symbols (key ∷ keys) name at =
    let next = name + length key.name.items + 1 in
    let sum : length (key_symbols name at (key ∷ keys)) ≡ 24 + length (key_symbols next (at + 16) keys) =
    length-append (symbol name 0x11 5 at 16) (key_symbols next (at + 16) keys) in
    let rest : length (key_symbols next (at + 16) keys) ≡ 24 * length keys = length-key_symbols keys next (at + 16) in
    omega arith

-- a name is no longer than 64 bytes
pub name-short : (name : List ℕ) → is_name name ≡ true → length name ≤ 64
name-short name is =
    let parts = and_parts (nat_lt 0 (length name) && nat_le (length name) 64) (list_all (λ byte. not (nat_eq byte 0)) name) is in
    leb-true (length name) 64 (and_parts (nat_lt 0 (length name)) (nat_le (length name) 64) parts.0).1

-- no byte of a name is zero
pub name-full : (name : List ℕ) → is_name name ≡ true → list_all (λ byte. not (nat_eq byte 0)) name ≡ true
name-full name is = (and_parts (nat_lt 0 (length name) && nat_le (length name) 64) (list_all (λ byte. not (nat_eq byte 0)) name) is).1

-- the names of functions, with their zeros, have at most 65 bytes each
pub length-names_of_functions : (plan : Plan) (functions : List PlanFunction) → list_all (function_fits plan) functions ≡ true
    → length (names_of_functions functions) ≤ 65 * length functions
length-names_of_functions plan [] all = omega arith
length-names_of_functions plan (function ∷ functions) all =
    let parts = and_parts (function_fits plan function) (list_all (function_fits plan) functions) all in
    let short = name-short function.name.items (and_parts (is_name function.name.items) (is_in_text plan function.at) parts.0).0 in
    let sum : length (names_of_functions (function ∷ functions)) ≡ length (function.name.items ++ 0 ∷ []) + length (names_of_functions functions) =
    length-append (function.name.items ++ 0 ∷ []) (names_of_functions functions) in
    let here : length (function.name.items ++ 0 ∷ []) ≡ length function.name.items + 1 = length-append function.name.items (0 ∷ []) in
    let rest = length-names_of_functions plan functions parts.1 in
    omega arith

-- the names of keys, with their zeros, have at most 65 bytes each
pub length-names_of_keys : (keys : List PlanKey) → list_all key_fits keys ≡ true → length (names_of_keys keys) ≤ 65 * length keys
length-names_of_keys [] all = omega arith
length-names_of_keys (key ∷ keys) all =
    let parts = and_parts (key_fits key) (list_all key_fits keys) all in
    let short = name-short key.name.items (and_parts (is_name key.name.items) (start_fits key.start) parts.0).0 in
    let sum : length (names_of_keys (key ∷ keys)) ≡ length (key.name.items ++ 0 ∷ []) + length (names_of_keys keys) =
    length-append (key.name.items ++ 0 ∷ []) (names_of_keys keys) in
    let here : length (key.name.items ++ 0 ∷ []) ≡ length key.name.items + 1 = length-append key.name.items (0 ∷ []) in
    let rest = length-names_of_keys keys parts.1 in
    omega arith

-- how many bytes the sections take at most, each filled up
abbrev pub room : Plan → List Part → ℕ
room plan [] = 16
room plan (part ∷ parts) = length (part_bytes plan part) + 16 + room plan parts

-- at most 16 zeros make a list at most 16 bytes longer
zeros-short : (out : List ℕ) (n z : ℕ) → n ≤ 16 → length (out ++ replicate n z) ≤ length out + 16
zeros-short out n z short =
    let sum : length (out ++ replicate n z) ≡ length out + length (replicate n z) = length-append out (replicate n z) in
    let zeros : length (replicate n z) ≡ n = length-replicate n z in
    omega arith

-- filling up makes a file at most 16 bytes longer
filled-short : (out : List ℕ) → length (filled out) ≤ length out + 16
filled-short out = zeros-short out ((length out + 15) / 16 * 16 - length out) 0 (omega arith)

-- how long a file is at most when the sections are laid after it
pub laid-short : (plan : Plan) (parts : List Part) (out : List ℕ) → length (laid plan out parts) ≤ length out + room plan parts
laid-short plan [] out = filled-short out
laid-short plan (part ∷ parts) out =
    let rest = laid-short plan parts (filled out ++ part_bytes plan part) in
    let prefix = filled-short out in
    let joined : length (filled out ++ part_bytes plan part) ≡ length (filled out) + length (part_bytes plan part) = length-append (filled out) (part_bytes plan part) in
    three (length (laid plan (filled out ++ part_bytes plan part) parts)) (length (filled out ++ part_bytes plan part)) (length (filled out)) (length out) (length (part_bytes plan part)) (room plan parts) rest prefix joined
  where
    three : (whole next full before content rest : ℕ) → whole ≤ next + rest → full ≤ before + 16 → next ≡ full + content → whole ≤ before + (content + 16 + rest)
    three whole next full before content rest a b c = omega arith

-- all symbols have 24 bytes each, the empty one too
pub length-symbols : (plan : Plan) → Bounds plan → length (symbol_table plan) ≡ 24 * (1 + length plan.functions.items + length plan.keys.items)
length-symbols plan ok =
    let functions = function_symbols 1 plan.functions.items in
    let keys = key_symbols (1 + length (names_of_functions plan.functions.items)) (data_at plan) plan.keys.items in
    let all : length (symbol_table plan) ≡ 24 + length (functions ++ keys) = length-append (symbol 0 0 0 0 0) (functions ++ keys) in
    let sum : length (functions ++ keys) ≡ length functions + length keys = length-append functions keys in
    let f : length functions ≡ 24 * length plan.functions.items = length-function_symbols plan.functions.items 1 in
    let k : length keys ≡ 24 * length plan.keys.items = length-key_symbols plan.keys.items (1 + length (names_of_functions plan.functions.items)) (data_at plan) in
    omega arith

-- the names of all functions and keys
pub length-names : (plan : Plan) → Bounds plan → length (names_of plan) ≤ 199681
length-names plan ok =
    let functions = names_of_functions plan.functions.items in
    let keys = names_of_keys plan.keys.items in
    let all : length (names_of plan) ≡ length (0 ∷ functions) + length keys = length-append (0 ∷ functions) keys in
    let f : length functions ≤ 65 * length plan.functions.items = length-names_of_functions plan plan.functions.items ok.all_functions in
    let k : length keys ≤ 65 * length plan.keys.items = length-names_of_keys plan.keys.items ok.all_keys in
    let small = ok.functions in
    let few = ok.keys in
    omega arith

-- the bytes of a section
pub content-short : (plan : Plan) → Bounds plan → (part : Part) → length (part_bytes plan part) ≤ 262144
content-short plan ok Text = let t = ok.text in omega arith
content-short plan ok (Entries table) = let t = ok.sites in let l = length-table (entry_bytes table plan) (length-entry table plan) plan.sites.items (table_at table plan) in omega arith
content-short plan ok Data = let k = ok.keys in let l = length-data plan.keys.items in omega arith
content-short plan ok Symbols = let k = length-symbols plan ok in omega arith
content-short plan ok Names = let n = length-names plan ok in omega arith
content-short plan ok SectionNames = omega arith

-- the contents of all sections
pub body-short : (plan : Plan) → Bounds plan → length (body plan) ≤ 2097152
unfolding parts
body-short plan ok =
    let all = laid-short plan parts (replicate 64 0) in
    let one = content-short plan ok in
    omega (arith, one Text, one (Entries Jumps), one (Entries Calls), one (Entries Traces), one Data, one Symbols, one Names, one SectionNames)
