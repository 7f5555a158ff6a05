-- The names of functions and keys, as the program finds them among the symbols.
use Rattle.std.specs.Prelude.{◌≡◌, ℕ, ◌+◌, if◌then◌else◌, List, [], ◌++◌, length, map, Option, Some, None}
use Rattle.elf_module.specs.Elf.{SymbolRecord}
use Rattle.elf_module.specs.declared.records.SymbolEntry.{SymbolEntry}
use Rattle.module_names.specs.declared.naming.SymbolNames.{SymbolNames}
use Rattle.module_names.specs.Keys.{place_in}
use Rattle.module_names.specs.Names.{Named, value_of, is_function, functions_from, is_key, keys_from}
use Rattle.module_names.specs.Naming.{named_by}

-- a symbol whose name isn't known
abbrev pub nameless : SymbolEntry → SymbolRecord
nameless e = record { name = []; info = e.info; shndx = e.shndx; value = e.value }

-- the address of the function that a symbol names, and the number of the key
abbrev pub function_of : ℕ → SymbolRecord → Option ℕ
function_of index s = if is_function index s then Some s.value else None

abbrev pub key_number : ℕ → List ℕ → SymbolRecord → Option ℕ
key_number first keys s = if is_key keys s then Some (first + place_in s.value keys) else None

-- a function's address, a jump key's number and a call key's number were given a name, each where there is one
pub record IsGiven (name : List ℕ) (function jump_key call_key : Option ℕ) (old new : SymbolNames) : Type 0 where
  pub functions : (q : List ℕ) → value_of q new.functions ≡ value_of q (old.functions ++ named_by name function)
  pub addresses : new.addresses.items ≡ old.addresses.items ++ map (λ (n : Named). n.1) (named_by name function)
  pub jump_keys : (q : List ℕ) → value_of q new.jump_keys ≡ value_of q (old.jump_keys ++ named_by name jump_key)
  pub call_keys : (q : List ℕ) → value_of q new.call_keys ≡ value_of q (old.call_keys ++ named_by name call_key)

-- what a symbol names was given its name
abbrev pub IsNamed : ℕ → List ℕ → List ℕ → SymbolNames → SymbolNames → SymbolRecord → Type 0
IsNamed index jumps calls old new s =
    IsGiven s.name (function_of index s) (key_number 0 jumps s) (key_number (length jumps) calls s) old new

-- the names of all functions and keys
pub record AreNames (index : ℕ) (jumps calls : List ℕ) (symbols : List SymbolRecord) (found : SymbolNames) : Type 0 where
  pub functions : (q : List ℕ) → value_of q found.functions ≡ value_of q (functions_from index symbols)
  pub addresses : found.addresses.items ≡ map (λ (n : Named). n.1) (functions_from index symbols)
  pub jump_keys : (q : List ℕ) → value_of q found.jump_keys ≡ value_of q (keys_from 0 jumps symbols)
  pub call_keys : (q : List ℕ) → value_of q found.call_keys ≡ value_of q (keys_from (length jumps) calls symbols)
