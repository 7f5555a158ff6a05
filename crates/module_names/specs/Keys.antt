-- The keys of a module: the addresses that its entries name, by class, and what the file has there.
use Rattle.std.specs.Prelude.{◌≡◌, ◌==◌, ◌≤◌, ℕ, ◌+◌, ◌%◌, ◌^◌, nat_lt, if◌then◌else◌, List, [], ◌∷◌, ◌++◌, length, map, Option, Some, None}
use Rattle.std.specs.List.{range_with_len}
use Rattle.std.specs.Option.{unwrap_or}
use Rattle.byteorder.specs.Endian.{little_number}
use Rattle.elf_module.specs.Elf.{Elf, SectionRecord, loaded}
use Rattle.module_parts.specs.declared.entry.Entry.{Entry}
use Rattle.module_parts.specs.declared.entry.EntryKind.{EntryKind}
use Rattle.module_parts.specs.declared.entry.EntryKind.TheVariants.{Jump as JumpEntry, Call as CallEntry, Tail as TailEntry, Trace as TraceEntry}
use Rattle.module_parts.specs.declared.key.KeyClass.{KeyClass}
use Rattle.module_parts.specs.declared.key.KeyClass.TheVariants.{Jump, Call}
use Rattle.module_parts.specs.declared.key.Key.{Key}
use Rattle.module_names.specs.Entries.{entries}

-- the key of a class that an entry names
abbrev pub key_in : KeyClass → EntryKind → Option ℕ
key_in Jump (JumpEntry target key likely) = Some key
key_in Jump (CallEntry key) = None
key_in Jump (TailEntry key) = None
key_in Jump TraceEntry = None
key_in Call (JumpEntry target key likely) = None
key_in Call (CallEntry key) = Some key
key_in Call (TailEntry key) = Some key
key_in Call TraceEntry = None

-- an ascending list, with one more address where it isn't there
abbrev pub with_key : ℕ → List ℕ → List ℕ
with_key key [] = key ∷ []
with_key key (k ∷ ks) = if key == k then k ∷ ks else if nat_lt key k then key ∷ k ∷ ks else k ∷ with_key key ks

abbrev pub with_named : Option ℕ → List ℕ → List ℕ
with_named None keys = keys
with_named (Some key) keys = with_key key keys

-- the keys of a class that entries name, beside those that are there
abbrev pub gathered : KeyClass → List Entry → List ℕ → List ℕ
gathered class [] keys = keys
gathered class (e ∷ es) keys = gathered class es (with_named (key_in class e.kind) keys)

-- the addresses of the keys of a class: ascending, each once
abbrev pub key_addresses : Elf → KeyClass → List ℕ
key_addresses elf class = gathered class (entries elf) []

-- the place of an address in a list; the length where it isn't there
abbrev pub place_in : ℕ → List ℕ → ℕ
place_in key [] = 0
place_in key (k ∷ ks) = if k == key then 0 else 1 + place_in key ks

-- the number of a key, among all keys: those of jumps stand first
abbrev pub number_of : List ℕ → List ℕ → KeyClass → ℕ → ℕ
number_of jumps calls Jump key = place_in key jumps
number_of jumps calls Call key = length jumps + place_in key calls

-- the byte that is loaded so far after an address; addresses wrap modulo 2 ^ 64
abbrev pub loaded_after : List SectionRecord → ℕ → ℕ → Option ℕ
loaded_after sections at i = loaded sections ((at + i) % 2 ^ 64)

-- the number that is loaded in n bytes at an address, the lowest first
abbrev pub loaded_number : List SectionRecord → ℕ → ℕ → ℕ
loaded_number sections bytes at =
    little_number bytes (map (λ i. unwrap_or (loaded_after sections at i) 0) (range_with_len 0 bytes))

-- one of a key's 16 bytes isn't loaded
pub record IsUnloaded (sections : List SectionRecord) (at : ℕ) : Type 0 where
  pub place : ℕ
  pub inside : place ≤ 15
  pub missing : loaded_after sections at place ≡ None

-- what a key holds in the file: the count of `struct static_key`, the function of `struct static_call_key`
abbrev pub start_of : List SectionRecord → KeyClass → ℕ → ℕ
start_of sections Jump at = loaded_number sections 4 at
start_of sections Call at = loaded_number sections 8 at

abbrev pub key_of : List SectionRecord → KeyClass → ℕ → Key
key_of sections class at = record { class = class; at = at; start = start_of sections class at }

-- the keys: those of jumps, then those of calls, each ascending
abbrev pub keys : Elf → List Key
keys elf =
    map (key_of elf.sections Jump) (key_addresses elf Jump) ++ map (key_of elf.sections Call) (key_addresses elf Call)
