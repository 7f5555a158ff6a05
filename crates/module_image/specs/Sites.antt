-- The sites of a module, and the text once their early forms are written.
use Rattle.std.specs.Prelude.{◌==◌, ◌||◌, ℕ, ◌+◌, ◌-◌, Bool, not, false, nat_lt, nat_le, if◌then◌else◌, List, [], ◌∷◌, ◌++◌, length, map, take, drop, Option, Some, None}
use Rattle.std.specs.Option.{unwrap_or}
use Rattle.std.specs.Str.{bytes_eq}
use Rattle.elf_module.specs.Elf.{Elf}
use Rattle.insn_forms.specs.declared.forms.Form.{Form}
use Rattle.insn_forms.specs.declared.forms.Form.TheVariants.{Nop5, Ret}
use Rattle.insn_forms.specs.Spelling.{spell}
use Rattle.module_parts.specs.declared.entry.Entry.{Entry}
use Rattle.module_parts.specs.declared.entry.EntryKind.{EntryKind}
use Rattle.module_parts.specs.declared.entry.EntryKind.TheVariants.{Jump as JumpEntry, Call as CallEntry, Tail as TailEntry, Trace as TraceEntry}
use Rattle.module_parts.specs.declared.key.Key.{Key}
use Rattle.module_parts.specs.declared.key.KeyClass.TheVariants.{Jump as JumpKey, Call as CallKey}
use Rattle.module_parts.specs.declared.site.Site.{Site}
use Rattle.module_parts.specs.declared.site.SiteKind.{SiteKind}
use Rattle.module_parts.specs.declared.site.SiteKind.TheVariants.{Jump, Call, Tail, Trace}
use Rattle.module_names.specs.Entries.{entries, base, file_text, length_at}
use Rattle.module_names.specs.Keys.{key_addresses, number_of, keys}
use Rattle.module_image.specs.Wants.{nop_of, jump_of, state_of, wanted}

-- how many bytes a site has: a jump those of the instruction that stands there, which is 0 where none does
abbrev pub entry_len : ℕ → List ℕ → ℕ → EntryKind → ℕ
entry_len base text at (JumpEntry target key likely) = length_at base text at
entry_len base text at (CallEntry key) = 5
entry_len base text at (TailEntry key) = 5
entry_len base text at TraceEntry = 5

-- what a site is patched to, with its key's number among the keys of jumps and of calls
abbrev pub kind_of : List ℕ → List ℕ → EntryKind → SiteKind
kind_of jumps calls (JumpEntry target key likely) = Jump target (number_of jumps calls JumpKey key) likely
kind_of jumps calls (CallEntry key) = Call (number_of jumps calls CallKey key)
kind_of jumps calls (TailEntry key) = Tail (number_of jumps calls CallKey key)
kind_of jumps calls TraceEntry = Trace

-- bytes are those of a form
abbrev pub is_code : Option (List ℕ) → List ℕ → Bool
is_code None code = false
is_code (Some bytes) code = bytes_eq code bytes

abbrev pub holds : Form → ℕ → List ℕ → Bool
holds form at code = is_code (spell form at) code

-- bytes begin with an opcode
abbrev pub opens : ℕ → List ℕ → Bool
opens opcode [] = false
opens opcode (byte ∷ code) = byte == opcode

-- the opcodes of CALL and JMP with a displacement of four bytes, which lead to any target (Intel SDM volume 2)
abbrev pub call_opcode : ℕ
call_opcode = 0xe8

abbrev pub jump_opcode : ℕ
jump_opcode = 0xe9

-- the bytes of a site are one of its early forms
abbrev pub is_early : ℕ → ℕ → SiteKind → List ℕ → Bool
is_early at len (Jump target key likely) code = holds (nop_of len) at code || holds (jump_of len target) at code
is_early at len (Call key) code = holds Nop5 at code || opens call_opcode code
is_early at len (Tail key) code = holds Ret at code || opens jump_opcode code
is_early at len Trace code = holds Nop5 at code || opens call_opcode code

-- n bytes at an address of a text
abbrev pub code_at : ℕ → List ℕ → ℕ → ℕ → List ℕ
code_at base text at len = take len (drop (at - base) text)

-- what the file holds at a site isn't an early form
abbrev pub is_foreign : ℕ → List ℕ → ℕ → ℕ → SiteKind → Bool
is_foreign base text at len kind = not (is_early at len kind (code_at base text at len))

-- the site of an entry
abbrev pub made : ℕ → List ℕ → ℕ → ℕ → SiteKind → Site
made base text at len kind = record { at = at; len = len; kind = kind; foreign = is_foreign base text at len kind }

abbrev pub site_of : ℕ → List ℕ → List ℕ → List ℕ → Entry → Site
site_of base text jumps calls e = made base text e.at (entry_len base text e.at e.kind) (kind_of jumps calls e.kind)

-- sites by their addresses; those with one address stay in their order
abbrev pub insert_site : Site → List Site → List Site
insert_site s [] = s ∷ []
insert_site s (x ∷ xs) = if nat_le s.at x.at then s ∷ x ∷ xs else x ∷ insert_site s xs

abbrev pub ascending : List Site → List Site
ascending [] = []
ascending (s ∷ ss) = insert_site s (ascending ss)

abbrev pub sites : Elf → List Site
sites elf =
    ascending (map (site_of (base elf) (file_text elf) (key_addresses elf JumpKey) (key_addresses elf CallKey)) (entries elf))

-- the first site that begins before the one before it ends, where `end` is the end of what stands before them
abbrev pub overlap_after : ℕ → List Site → Option ℕ
overlap_after end [] = None
overlap_after end (s ∷ ss) = if nat_lt s.at end then Some s.at else overlap_after (s.at + s.len) ss

-- what the keys hold at the start, by their numbers
abbrev pub starts_of : List Key → List ℕ
starts_of ks = map (λ (k : Key). k.start) ks

-- the form that a site wants at the start: no site is traced, so no tracer is asked for
abbrev pub early_form : List ℕ → Site → Form
early_form states s = wanted 0 (state_of states s.kind) false s.len s.kind

-- the text with other bytes from an offset on
abbrev pub put_at : List ℕ → ℕ → List ℕ → List ℕ
put_at text at code = take at text ++ (code ++ drop (at + length code) text)

-- the bytes of a form; none where it doesn't reach its target
abbrev pub form_code : Form → ℕ → List ℕ
form_code form at = unwrap_or (spell form at) []

-- a site is written to what it wants, where it isn't foreign
abbrev pub site_written : ℕ → List ℕ → Site → List ℕ → List ℕ
site_written base states s text =
    if s.foreign then text else put_at text (s.at - base) (form_code (early_form states s) s.at)

-- all sites, one after the other
abbrev pub written : ℕ → List ℕ → List Site → List ℕ → List ℕ
written base states [] text = text
written base states (s ∷ ss) text = written base states ss (site_written base states s text)

-- the text after early writing
abbrev pub text : Elf → List ℕ
text elf = written (base elf) (starts_of (keys elf)) (sites elf) (file_text elf)
