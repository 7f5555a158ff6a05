-- Why a module isn't accepted: conditions in order, of which the first that holds is the answer.
use Rattle.std.specs.Prelude.{◌≡◌, ◌≢◌, ◌<◌, ◌≤◌, ◌⊎◌, ℕ, ◌+◌, ◌^◌, List, length, map, Option, Some, None, Result, MatchResult}
use Rattle.elf_module.specs.Elf.{Elf, SectionRecord}
use Rattle.insn_forms.specs.declared.forms.Form.TheVariants.{Jmp8}
use Rattle.insn_forms.specs.Spelling.{spell}
use Rattle.site_tables.specs.Found.{IsFirstBadTable, table_len}
use Rattle.module_parts.specs.declared.entry.Entry.{Entry}
use Rattle.module_parts.specs.declared.entry.EntryKind.{EntryKind}
use Rattle.module_parts.specs.declared.entry.EntryKind.TheVariants.{Jump as JumpEntry, Call as CallEntry, Tail as TailEntry, Trace as TraceEntry}
use Rattle.module_parts.specs.declared.key.Key.{Key}
use Rattle.module_parts.specs.declared.key.KeyClass.{KeyClass}
use Rattle.module_parts.specs.declared.key.KeyClass.TheVariants.{Jump as JumpKey, Call as CallKey}
use Rattle.module_parts.specs.declared.site.Site.{Site}
use Rattle.module_parts.specs.declared.site.SiteKind.{SiteKind}
use Rattle.module_parts.specs.declared.site.SiteKind.TheVariants.{Jump, Call, Tail, Trace}
use Rattle.module_parts.specs.declared.unit.Aim.{Aim}
use Rattle.module_parts.specs.declared.refused.Refused.{Refused}
use Rattle.module_parts.specs.declared.refused.Refused.TheVariants.{TextCount, TextSize, Table, SiteCount, SiteOutside, SiteLength, SiteOverlap, KeyOutside, KeyState, NoReach, TracerMissing, Undecoded, BadTarget, EndFalls, NoMemory}
use Rattle.module_image.specs.First.{IsFirst}
use Rattle.module_names.specs.Entries.{text_sections, text_section, base, file_text, entries, length_at}
use Rattle.module_names.specs.Keys.{keys, IsUnloaded}
use Rattle.module_names.specs.Names.{Named, functions, tracer}
use Rattle.module_image.specs.Sites.{sites, overlap_after}
use Rattle.module_image.specs.Layout.{layout, IsUndecoded, IsFalling}
use Rattle.module_image.specs.Aims.{IsFirstBadOf, jump_aims, key_aims, function_aim}

-- the text is empty, too long, or reaches past the last address; sums don't wrap
abbrev pub HasBadSize : SectionRecord → Type 0
HasBadSize s = (length s.content ≡ 0) ⊎ (65536 < length s.content) ⊎ (2 ^ 64 ≤ s.addr + s.size)

abbrev pub IsBadText : Option SectionRecord → ℕ → Type 0
IsBadText None n = ⊥
IsBadText (Some s) n = HasBadSize s × (n ≡ s.size)

-- a jump's address, or one of the five bytes of another site, isn't in the text; sums don't wrap
abbrev pub room_of : EntryKind → ℕ
room_of (JumpEntry target key likely) = 1
room_of (CallEntry key) = 5
room_of (TailEntry key) = 5
room_of TraceEntry = 5

abbrev pub IsOutsideOf : ℕ → ℕ → Entry → Type 0
IsOutsideOf base size e = (e.at < base) ⊎ (base + size < e.at + room_of e.kind)

abbrev pub IsOutside : Elf → Entry → Type 0
IsOutside elf e = IsOutsideOf (base elf) (length (file_text elf)) e

-- no instruction of 2 or 5 bytes stands at a jump site
abbrev pub IsBadLength : ℕ → EntryKind → Type 0
IsBadLength len (JumpEntry target key likely) = (len ≢ 2) × (len ≢ 5)
IsBadLength len (CallEntry key) = ⊥
IsBadLength len (TailEntry key) = ⊥
IsBadLength len TraceEntry = ⊥

abbrev pub HasBadLength : Elf → Entry → Type 0
HasBadLength elf e = IsBadLength (length_at (base elf) (file_text elf) e.at) e.kind

-- one of a key's bytes isn't loaded
abbrev pub IsKeyOutside : Elf → Key → Type 0
IsKeyOutside elf k = IsUnloaded elf.sections k.at

-- the count of a static key is negative, as a signed number of 32 bits
abbrev pub IsBadState : KeyClass → ℕ → Type 0
IsBadState JumpKey start = 2 ^ 31 ≤ start
IsBadState CallKey start = ⊥

abbrev pub HasBadState : Key → Type 0
HasBadState k = IsBadState k.class k.start

-- a jump of two bytes doesn't reach its target
abbrev pub IsTooFar : ℕ → ℕ → SiteKind → Type 0
IsTooFar at len (Jump target key likely) = (len ≡ 2) × (spell (Jmp8 target) at ≡ None)
IsTooFar at len (Call key) = ⊥
IsTooFar at len (Tail key) = ⊥
IsTooFar at len Trace = ⊥

abbrev pub IsOutOfReach : Site → Type 0
IsOutOfReach s = IsTooFar s.at s.len s.kind

abbrev pub IsTrace : Site → Type 0
IsTrace s = s.kind ≡ Trace

-- where the keys and functions of a module lead
abbrev pub function_aims : List Named → List Aim
function_aims ns = map (λ (n : Named). function_aim n.1) ns

-- the condition of each refusal, with its numbers
abbrev pub Holds : Elf → Refused → Type 0
Holds elf (TextCount n) = (length (text_sections elf) ≢ 1) × (n ≡ length (text_sections elf))
Holds elf (TextSize n) = IsBadText (text_section elf) n
Holds elf (Table kind n) = IsFirstBadTable elf.sections kind × (n ≡ table_len elf.sections kind)
Holds elf (SiteCount n) = (1024 < length (entries elf)) × (n ≡ length (entries elf))
Holds elf (SiteOutside at) = (e : Entry) × IsFirst (IsOutside elf) (entries elf) e × (at ≡ e.at)
Holds elf (SiteLength at) = (e : Entry) × IsFirst (HasBadLength elf) (entries elf) e × (at ≡ e.at)
Holds elf (SiteOverlap at) = overlap_after 0 (sites elf) ≡ Some at
Holds elf (KeyOutside at) = (k : Key) × IsFirst (IsKeyOutside elf) (keys elf) k × (at ≡ k.at)
Holds elf (KeyState at) = (k : Key) × IsFirst HasBadState (keys elf) k × (at ≡ k.at)
Holds elf (NoReach at) = (s : Site) × IsFirst IsOutOfReach (sites elf) s × (at ≡ s.at)
Holds elf (TracerMissing at) = (tracer elf ≡ None) × (s : Site) × IsFirst IsTrace (sites elf) s × (at ≡ s.at)
Holds elf (Undecoded at) = IsUndecoded (layout elf) at
Holds elf (BadTarget from to) =
    IsFirstBadOf (layout elf) (jump_aims (sites elf)) (key_aims (keys elf)) (function_aims (functions elf)) (record { from = from; to = to })
Holds elf (EndFalls at) = IsFalling (layout elf) at
Holds elf NoMemory = ⊥

-- the places in the order: each stands after the one that its name says, and the last after all of them
abbrev pub past_text_count : ℕ
past_text_count = 2

abbrev pub past_text_size : ℕ
past_text_size = past_text_count + 1

abbrev pub past_table : ℕ
past_table = past_text_size + 1

abbrev pub past_site_count : ℕ
past_site_count = past_table + 1

abbrev pub past_site_outside : ℕ
past_site_outside = past_site_count + 1

abbrev pub past_site_length : ℕ
past_site_length = past_site_outside + 1

abbrev pub past_site_overlap : ℕ
past_site_overlap = past_site_length + 1

abbrev pub past_key_outside : ℕ
past_key_outside = past_site_overlap + 1

abbrev pub past_key_state : ℕ
past_key_state = past_key_outside + 1

abbrev pub past_no_reach : ℕ
past_no_reach = past_key_state + 1

abbrev pub past_tracer_missing : ℕ
past_tracer_missing = past_no_reach + 1

abbrev pub past_undecoded : ℕ
past_undecoded = past_tracer_missing + 1

abbrev pub past_bad_target : ℕ
past_bad_target = past_undecoded + 1

abbrev pub past_all : ℕ
past_all = past_bad_target + 1

-- the place of each refusal; out of memory may come at any place
abbrev pub order : Refused → ℕ
order (TextCount n) = 1
order (TextSize n) = past_text_count
order (Table kind n) = past_text_size
order (SiteCount n) = past_table
order (SiteOutside at) = past_site_count
order (SiteLength at) = past_site_outside
order (SiteOverlap at) = past_site_length
order (KeyOutside at) = past_site_overlap
order (KeyState at) = past_key_outside
order (NoReach at) = past_key_state
order (TracerMissing at) = past_no_reach
order (Undecoded at) = past_tracer_missing
order (BadTarget from to) = past_undecoded
order (EndFalls at) = past_bad_target
order NoMemory = past_all

-- no condition before a place holds
pub record Passes (elf : Elf) (place : ℕ) : Type 0 where
  pub none : (why : Refused) → order why < place → Holds elf why → ⊥

-- the first condition that holds
pub record IsRefusal (elf : Elf) (why : Refused) : Type 0 where
  pub holds : Holds elf why
  pub first : Passes elf (order why)

-- out of memory, or the refusal
abbrev pub IsRefusedFor : Elf → Refused → Type 0
IsRefusedFor elf why = (why ≡ NoMemory) ⊎ IsRefusal elf why

-- a function that tries the condition before a place: none holds up to there, or it is the refusal
abbrev pub Tries : {T : Type 0} → Elf → ℕ → Result T Refused → Type 0
Tries elf next result = MatchResult result (λ done. Passes elf next) (λ why. IsRefusedFor elf why)
