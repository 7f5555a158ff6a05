-- What the names of a module's symbols stand for: functions and keys.
use Rattle.std.specs.Prelude.{◌==◌, ◌&&◌, ℕ, ◌+◌, ◌%◌, Bool, not, nat_lt, if◌then◌else◌, List, [], ◌∷◌, length, codes, Option, Some, None}
use Rattle.std.specs.Str.{bytes_eq}
use Rattle.elf_module.specs.Elf.{Elf, SymbolRecord}
use Rattle.module_parts.specs.declared.key.KeyClass.{KeyClass}
use Rattle.module_names.specs.Entries.{text_index}
use Rattle.module_names.specs.Keys.{key_addresses, place_in}
use Rattle.module_parts.specs.declared.key.KeyClass.TheVariants.{Jump, Call}

-- a name, and what it stands for: a function's address, or a key's number
abbrev pub Named : Type 0
Named = List ℕ × ℕ

-- what the first of these names stands for that are the one looked for
abbrev pub value_of : {T : Type 0} → List ℕ → List (List ℕ × T) → Option T
value_of name [] = None
value_of name (n ∷ ns) = if bytes_eq name n.0 then Some n.1 else value_of name ns

-- the type of a symbol (gABI: `ELF64_ST_TYPE`) is FUNC
abbrev pub stt_func : ℕ
stt_func = 2

-- a symbol is a function of the text
abbrev pub is_function : ℕ → SymbolRecord → Bool
is_function index s = s.info % 16 == stt_func && s.shndx == index

-- the functions, in symbol order
abbrev pub functions_from : ℕ → List SymbolRecord → List Named
functions_from index [] = []
functions_from index (s ∷ ss) =
    if is_function index s then (s.name, s.value) ∷ functions_from index ss else functions_from index ss

abbrev pub functions : Elf → List Named
functions elf = functions_from (text_index elf) elf.symbols

-- a defined symbol names the key at its value
abbrev pub is_key : List ℕ → SymbolRecord → Bool
is_key keys s = not (s.shndx == 0) && nat_lt (place_in s.value keys) (length keys)

-- the names of the keys at these addresses, in symbol order, each with its key's number, which begin at `first`
abbrev pub keys_from : ℕ → List ℕ → List SymbolRecord → List Named
keys_from first keys [] = []
keys_from first keys (s ∷ ss) =
    if is_key keys s then (s.name, first + place_in s.value keys) ∷ keys_from first keys ss else keys_from first keys ss

abbrev pub first_number : Elf → KeyClass → ℕ
first_number elf Jump = 0
first_number elf Call = length (key_addresses elf Jump)

abbrev pub key_names : Elf → KeyClass → List Named
key_names elf class = keys_from (first_number elf class) (key_addresses elf class) elf.symbols

-- the function that is called at traced sites
abbrev pub tracer_name : List ℕ
tracer_name = codes "ftrace_caller"

abbrev pub tracer : Elf → Option ℕ
tracer elf = value_of tracer_name (functions elf)
