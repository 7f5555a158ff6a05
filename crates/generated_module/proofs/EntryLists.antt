-- The entries of a generated module: table by table as the file has them, and block by block.
use Rattle.std.proofs.Common.{◌+◌, ◌*◌, ◌/◌, ◌%◌, ◌==◌, ◌≤◌, ◌++◌, ℕ, zero, suc, List, [], ◌∷◌, arith}
use Rattle.std.specs.List.{AllByRecursion as Each}
use Rattle.elf_build.specs.declared.generation.Block.{Block}
use Rattle.elf_build.specs.declared.generation.Block.TheVariants.{FarSwitch, NearSwitch, Call as CallBlock, Trace as TraceBlock, TailCall}
use Rattle.elf_build.specs.Generated.{block_len, block_of}
use Rattle.module_parts.specs.declared.entry.Entry.{Entry}
use Rattle.module_parts.specs.declared.entry.EntryKind.TheVariants.{Jump, Call, Tail, Trace}
use Rattle.generated_module.proofs.Each.{each-append}
use Rattle.generated_module.proofs.Blocks.{Stands, stands-next}

-- the entry of a block
abbrev pub block_entry : Block → ℕ → ℕ → Entry
block_entry FarSwitch i at = record { at = at; kind = Jump (at + 7) (0x451000 + 16 * (i / 5 % 2)) (i / 10 % 2 == 1) }
block_entry NearSwitch i at = record { at = at; kind = Jump (at + 4) (0x451000 + 16 * (i / 5 % 2)) (i / 10 % 2 == 1) }
block_entry CallBlock i at = record { at = at; kind = Call 0x451020 }
block_entry TraceBlock i at = record { at = at; kind = Trace }
block_entry TailCall i at = record { at = at + 7; kind = Tail 0x451030 }

-- the tables in which it stands
abbrev pub block_jumps : Block → ℕ → ℕ → List Entry
block_jumps FarSwitch i at = block_entry FarSwitch i at ∷ []
block_jumps NearSwitch i at = block_entry NearSwitch i at ∷ []
block_jumps CallBlock i at = []
block_jumps TraceBlock i at = []
block_jumps TailCall i at = []

abbrev pub block_calls : Block → ℕ → ℕ → List Entry
block_calls FarSwitch i at = []
block_calls NearSwitch i at = []
block_calls CallBlock i at = block_entry CallBlock i at ∷ []
block_calls TraceBlock i at = []
block_calls TailCall i at = block_entry TailCall i at ∷ []

abbrev pub block_traces : Block → ℕ → ℕ → List Entry
block_traces FarSwitch i at = []
block_traces NearSwitch i at = []
block_traces CallBlock i at = []
block_traces TraceBlock i at = block_entry TraceBlock i at ∷ []
block_traces TailCall i at = []

-- those of the blocks that are left
abbrev pub listed_from : (Block → ℕ → ℕ → List Entry) → ℕ → ℕ → ℕ → List Entry
listed_from listed zero i at = []
listed_from listed (suc left) i at =
    listed (block_of i) i at ++ listed_from listed left (i + 1) (at + block_len (block_of i))

abbrev pub jumps_from : ℕ → ℕ → ℕ → List Entry
jumps_from left i at = listed_from block_jumps left i at

abbrev pub calls_from : ℕ → ℕ → ℕ → List Entry
calls_from left i at = listed_from block_calls left i at

abbrev pub traces_from : ℕ → ℕ → ℕ → List Entry
traces_from left i at = listed_from block_traces left i at

-- block by block
abbrev pub entries_from : ℕ → ℕ → ℕ → List Entry
entries_from zero i at = []
entries_from (suc left) i at = block_entry (block_of i) i at ∷ entries_from left (i + 1) (at + block_len (block_of i))

-- ---- what holds of each block's entry holds of each entry of a table

abbrev pub IsTable : (Block → ℕ → ℕ → List Entry) → Type 1
IsTable listed = (P : Entry → Type 0) (b : Block) (i at : ℕ) → P (block_entry b i at) → Each P (listed b i at)

pub jump-table : IsTable block_jumps
jump-table P FarSwitch i at has = (has, tt)
jump-table P NearSwitch i at has = (has, tt)
jump-table P CallBlock i at has = tt
jump-table P TraceBlock i at has = tt
jump-table P TailCall i at has = tt

pub call-table : IsTable block_calls
call-table P FarSwitch i at has = tt
call-table P NearSwitch i at has = tt
call-table P CallBlock i at has = (has, tt)
call-table P TraceBlock i at has = tt
call-table P TailCall i at has = (has, tt)

pub trace-table : IsTable block_traces
trace-table P FarSwitch i at has = tt
trace-table P NearSwitch i at has = tt
trace-table P CallBlock i at has = tt
trace-table P TraceBlock i at has = (has, tt)
trace-table P TailCall i at has = tt

-- of any block
pub each-any : (listed : Block → ℕ → ℕ → List Entry) → IsTable listed → (P : Entry → Type 0) → ((b : Block) (i at : ℕ) → P (block_entry b i at)) → (left i at : ℕ) → Each P (listed_from listed left i at)
each-any listed table P has zero i at = tt
each-any listed table P has (suc left) i at =
    let later = at + block_len (block_of i) in
    each-append P (listed (block_of i) i at) (listed_from listed left (i + 1) later) (table P (block_of i) i at (has (block_of i) i at)) (each-any listed table P has left (i + 1) later)

-- of the blocks of a text
pub each-standing : (listed : Block → ℕ → ℕ → List Entry) → IsTable listed → (P : Entry → Type 0) (base : ℕ) (file : List ℕ) → ((left i at : ℕ) → Stands base file (suc left) i at → P (block_entry (block_of i) i at)) → (left i at : ℕ) → Stands base file left i at → Each P (listed_from listed left i at)
each-standing listed table P base file has zero i at st = tt
each-standing listed table P base file has (suc left) i at st =
    let later = at + block_len (block_of i) in
    each-append P (listed (block_of i) i at) (listed_from listed left (i + 1) later) (table P (block_of i) i at (has left i at st)) (each-standing listed table P base file has left (i + 1) later (stands-next base file left i at st))

-- none begins before the first block
pub entry-after : (b : Block) (i at : ℕ) → at ≤ (block_entry b i at).at
entry-after FarSwitch i at = omega arith
entry-after NearSwitch i at = omega arith
entry-after CallBlock i at = omega arith
entry-after TraceBlock i at = omega arith
entry-after TailCall i at = omega arith

pub each-after : (listed : Block → ℕ → ℕ → List Entry) → IsTable listed → (left i at low : ℕ) → low ≤ at → Each (λ (e : Entry). low ≤ e.at) (listed_from listed left i at)
each-after listed table zero i at low le = tt
each-after listed table (suc left) i at low le =
    let later = at + block_len (block_of i) in
    let P : Entry → Type 0 = λ (e : Entry). low ≤ e.at in
    let here = entry-after (block_of i) i at in
    each-append P (listed (block_of i) i at) (listed_from listed left (i + 1) later) (table P (block_of i) i at (omega (arith, here, le))) (each-after listed table left (i + 1) later low (omega (arith, le)))
