-- The entries of a module's tables, by field sums alone (Linux: `jump_label.h`, `static_call_types.h`, ftrace's `__mcount_loc`).
use Rattle.std.specs.Prelude.{◌==◌, ℕ, ◌+◌, ◌-◌, ◌/◌, ◌%◌, ◌^◌, nat_lt, if◌then◌else◌, List}
use Rattle.elf_module.specs.declared.records.Section.{Section}
use Rattle.elf_module.specs.Elf.{field}
use Rattle.site_tables.specs.declared.entries.TableKind.{TableKind}
use Rattle.site_tables.specs.declared.entries.TableKind.TheVariants.{Jump, Call, Trace}
use Rattle.site_tables.specs.declared.entries.JumpEntry.{JumpEntry}
use Rattle.site_tables.specs.declared.entries.CallSite.{CallSite}

-- how many bytes an entry of a table takes
abbrev pub entry_size : TableKind → ℕ
entry_size Jump = 16
entry_size Call = 8
entry_size Trace = 8

-- a signed number of 32 bits, in 64 bits
abbrev pub extended : ℕ → ℕ
extended n = if nat_lt n (2 ^ 31) then n else n + (2 ^ 64 - 2 ^ 32)

-- a field that is relative to its own address leads there; addresses wrap modulo 2 ^ 64
abbrev pub relative : ℕ → ℕ → ℕ
relative at value = (at + value) % 2 ^ 64

-- a number without its low two bits
abbrev pub cleared : ℕ → ℕ
cleared n = n - n % 4

-- the signed field of 4 bytes at an offset of a section at an address leads to this address
abbrev pub near_in : ℕ → List ℕ → ℕ → ℕ
near_in addr content at = relative (addr + at) (extended (field 4 at content))

-- an entry of the jump table: the low bits of the key's field are cleared before the sum
abbrev pub jump_in : ℕ → List ℕ → ℕ → JumpEntry
jump_in addr content at =
    let key = field 8 (at + 8) content in
    record {
      code = near_in addr content at;
      target = near_in addr content (at + 4);
      key = relative (addr + at + 8) (cleared key);
      likely = key % 2 == 1;
      bit1 = key / 2 % 2 == 1;
    }

-- an entry of the static call sites: the low bits of the key are cleared after the sum
abbrev pub call_in : ℕ → List ℕ → ℕ → CallSite
call_in addr content at =
    let key = near_in addr content (at + 4) in
    record {
      addr = near_in addr content at;
      key = cleared key;
      tail = key % 2 == 1;
      init = key / 2 % 2 == 1;
    }

-- an entry of the trace table is an address
abbrev pub trace_in : List ℕ → ℕ → ℕ
trace_in content at = field 8 at content

-- the same of a section that the program holds
abbrev pub near : Section → ℕ → ℕ
near s at = near_in s.addr s.content.now at

abbrev pub jump_at : Section → ℕ → JumpEntry
jump_at s at = jump_in s.addr s.content.now at

abbrev pub call_at : Section → ℕ → CallSite
call_at s at = call_in s.addr s.content.now at

abbrev pub trace_at : Section → ℕ → ℕ
trace_at s at = trace_in s.content.now at
