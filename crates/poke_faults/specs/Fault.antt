-- How a command that failed ends: its status and its complaint.
use Rattle.std.specs.Prelude.{ℕ, List, [], ◌∷◌, ◌++◌, codes}
use Rattle.poke_base.specs.Number.{decimal, hexadecimal}
use Rattle.elf_module.specs.declared.refused.ElfRefused.{ElfRefused}
use Rattle.elf_module.specs.declared.refused.ElfRefused.TheVariants.{Short, Magic, Class, Data, Version, Machine, Kind, Relocatable, Headers, Section, Names, Symbols}
use Rattle.site_tables.specs.declared.entries.TableKind.{TableKind}
use Rattle.site_tables.specs.declared.entries.TableKind.TheVariants.{Jump, Call, Trace}
use Rattle.poke_plan.specs.declared.plan_line.PlanRefused.{PlanRefused}
use Rattle.poke_plan.specs.declared.plan_line.PlanRefused.TheVariants.{TooLong, Line, NoReach, Old}
use Rattle.script_text.specs.declared.refused.ScriptWhy.{ScriptWhy}
use Rattle.script_text.specs.declared.refused.ScriptWhy.TheVariants.{Word, NoCpu, LateCpu, Cpus, Number, Name, Updates, Drops, Turns}
use Rattle.poke_faults.specs.declared.script_fault.ScriptRefused.{ScriptRefused}
use Rattle.poke_faults.specs.declared.script_fault.ScriptRefused.TheVariants.{TooLong as LongScript, Line as RefusedLine}
use Rattle.poke_faults.specs.declared.journal_fault.JournalRefused.{JournalRefused}
use Rattle.poke_faults.specs.declared.journal_fault.JournalRefused.TheVariants.{TooLong as LongJournal, Line as JournalLine}
use Rattle.poke_faults.specs.declared.module_fault.ModuleRefused.{ModuleRefused}
use Rattle.poke_faults.specs.declared.module_fault.ModuleRefused.TheVariants.{TooLong as LongModule, Elf, Image}
use Rattle.module_parts.specs.declared.refused.Refused.{Refused}
use Rattle.module_parts.specs.declared.refused.Refused.TheVariants.{TextCount, TextSize, Table, SiteCount, SiteOutside, SiteLength, SiteOverlap, KeyOutside, KeyState, NoReach as OutOfReach, TracerMissing, Undecoded, BadTarget, EndFalls, NoMemory}
use Rattle.poke_faults.specs.declared.fault.Fault.{Fault}
use Rattle.poke_faults.specs.declared.fault.Fault.TheVariants.{Words, Refused as RefusedFault, Read, Write, Memory}
use Rattle.poke_faults.specs.declared.fault.Refusal.{Refusal}
use Rattle.poke_faults.specs.declared.fault.Refusal.TheVariants.{Module, Plan, Script, Journal}

-- the status of a refused file, by its kind
abbrev pub refusal_status : Refusal → ℕ
refusal_status (Module why) = 2
refusal_status (Plan why) = 3
refusal_status (Script why) = 3
refusal_status (Journal why) = 4

abbrev pub status_of : Fault → ℕ
status_of Words = 1
status_of (RefusedFault why) = refusal_status why
status_of Read = 5
status_of Write = 6
status_of Memory = 7

-- the name of what is wrong with a file, and the number that says where
abbrev pub elf_name : ElfRefused → List ℕ
elf_name (Short n) = codes "Short"
elf_name (Magic n) = codes "Magic"
elf_name (Class n) = codes "Class"
elf_name (Data n) = codes "Data"
elf_name (Version n) = codes "Version"
elf_name (Machine n) = codes "Machine"
elf_name (Kind n) = codes "Kind"
elf_name (Relocatable n) = codes "Relocatable"
elf_name (Headers n) = codes "Headers"
elf_name (Section n) = codes "Section"
elf_name (Names n) = codes "Names"
elf_name (Symbols n) = codes "Symbols"

abbrev pub elf_number : ElfRefused → ℕ
elf_number (Short n) = n
elf_number (Magic n) = n
elf_number (Class n) = n
elf_number (Data n) = n
elf_number (Version n) = n
elf_number (Machine n) = n
elf_number (Kind n) = n
elf_number (Relocatable n) = n
elf_number (Headers n) = n
elf_number (Section n) = n
elf_number (Names n) = n
elf_number (Symbols n) = n

abbrev pub kind_name : TableKind → List ℕ
kind_name Jump = codes "jump"
kind_name Call = codes "call"
kind_name Trace = codes "trace"

-- the name of why a module isn't accepted, and what says where
abbrev pub image_name : Refused → List ℕ
image_name (TextCount n) = codes "TextCount"
image_name (TextSize n) = codes "TextSize"
image_name (Table kind n) = codes "Table"
image_name (SiteCount n) = codes "SiteCount"
image_name (SiteOutside at) = codes "SiteOutside"
image_name (SiteLength at) = codes "SiteLength"
image_name (SiteOverlap at) = codes "SiteOverlap"
image_name (KeyOutside at) = codes "KeyOutside"
image_name (KeyState at) = codes "KeyState"
image_name (OutOfReach at) = codes "NoReach"
image_name (TracerMissing at) = codes "TracerMissing"
image_name (Undecoded at) = codes "Undecoded"
image_name (BadTarget from to) = codes "BadTarget"
image_name (EndFalls at) = codes "EndFalls"
image_name NoMemory = codes "NoMemory"

-- the word of a table, or from where something leads, stands before the last number
abbrev pub image_place : Refused → List ℕ
image_place (TextCount n) = hexadecimal n
image_place (TextSize n) = hexadecimal n
image_place (Table kind n) = kind_name kind ++ codes " " ++ hexadecimal n
image_place (SiteCount n) = hexadecimal n
image_place (SiteOutside at) = hexadecimal at
image_place (SiteLength at) = hexadecimal at
image_place (SiteOverlap at) = hexadecimal at
image_place (KeyOutside at) = hexadecimal at
image_place (KeyState at) = hexadecimal at
image_place (OutOfReach at) = hexadecimal at
image_place (TracerMissing at) = hexadecimal at
image_place (Undecoded at) = hexadecimal at
image_place (BadTarget from to) = hexadecimal from ++ codes " " ++ hexadecimal to
image_place (EndFalls at) = hexadecimal at
image_place NoMemory = []

-- what is wrong with a module: a name and its numbers
abbrev pub module_reason : ModuleRefused → List ℕ
module_reason LongModule = codes "TooLong"
module_reason (Elf why) = elf_name why ++ codes " " ++ hexadecimal (elf_number why)
module_reason (Image why) = image_name why ++ codes " " ++ image_place why

abbrev pub name_of : PlanRefused → List ℕ
name_of TooLong = codes "TooLong"
name_of Line = codes "Line"
name_of NoReach = codes "NoReach"
name_of Old = codes "Old"

-- what is wrong with a script: the name of why a line is refused, after the line's number
abbrev pub script_name : ScriptWhy → List ℕ
script_name Word = codes "Word"
script_name NoCpu = codes "NoCpu"
script_name LateCpu = codes "LateCpu"
script_name Cpus = codes "Cpus"
script_name Number = codes "Number"
script_name Name = codes "Name"
script_name Updates = codes "Updates"
script_name Drops = codes "Drops"
script_name Turns = codes "Turns"

abbrev pub script_reason : ScriptRefused → List ℕ
script_reason LongScript = codes "TooLong"
script_reason (RefusedLine line why) = codes "line " ++ decimal line ++ codes ": " ++ script_name why

-- what is wrong with a journal: its first line that is refused
abbrev pub journal_reason : JournalRefused → List ℕ
journal_reason LongJournal = codes "TooLong"
journal_reason (JournalLine line) = codes "line " ++ decimal line

-- which file is refused, and why
abbrev pub refusal_reason : Refusal → List ℕ
refusal_reason (Module why) = codes "module: " ++ module_reason why
refusal_reason (Plan why) = codes "plan: " ++ name_of why
refusal_reason (Script why) = codes "script: " ++ script_reason why
refusal_reason (Journal why) = codes "journal: " ++ journal_reason why

abbrev pub reason_of : Fault → List ℕ
reason_of Words = codes "bad words"
reason_of (RefusedFault why) = refusal_reason why
reason_of Read = codes "read failed"
reason_of Write = codes "write failed"
reason_of Memory = codes "no memory"

-- the line that is reported
abbrev pub complaint_of : Fault → List ℕ
complaint_of fault = codes "textpoke: " ++ reason_of fault ++ 10 ∷ []
