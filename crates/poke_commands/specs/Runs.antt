-- What a command does to the outside, and with which status the program then ends.
use Rattle.std.specs.Prelude.{◌≡◌, ◌≢◌, ◌≤◌, ◌⊎◌, ⊤, ℕ, ◌+◌, List, [], ◌∷◌, ◌++◌, length, take, Option, Some, None, IsSome, Result, Ok, Err, OnOk}
use Rattle.poke_base.specs.declared.host.AskedBy.{AskedBy}
use Rattle.poke_base.specs.declared.host.AskedBy.TheVariants.{Read as AskedRead, Make as AskedMake}
use Rattle.poke_base.specs.declared.host.WriteFail.{WriteFail}
use Rattle.poke_base.specs.Host.{Outside, Rose, Tells, with_more, with_file, Complains}
use Rattle.poke_base.specs.Text.{IsPrefix}
use Rattle.poke_faults.specs.declared.fault.Fault.{Fault}
use Rattle.poke_faults.specs.declared.fault.Fault.TheVariants.{Words, Refused, Read, Write, Memory}
use Rattle.poke_faults.specs.declared.fault.Refusal.{Refusal}
use Rattle.poke_faults.specs.declared.fault.Refusal.TheVariants.{Journal}
use Rattle.poke_faults.specs.declared.journal_fault.JournalRefused.TheVariants.{Line as JournalLine}
use Rattle.poke_commands.specs.Command as command
use Rattle.poke_commands.specs.Command.{Row, file_words}
use Rattle.poke_faults.specs.Fault.{status_of, complaint_of}
use Rattle.poke_commands.specs.RunCuts.{CutsRun}
use Rattle.poke_commands.specs.Saying.{Begins, Holds, Saying, Says, told_before}

-- a text was printed
abbrev pub PrintsText : Outside → Outside → List ℕ → Type 0
PrintsText old new text = Tells (with_more old.printed text) new.printed

-- a prefix of a text was printed
pub record PrintsPrefix (old new : Outside) (text : List ℕ) : Type 0 where
  pub part : List ℕ
  pub prefix : IsPrefix part text
  pub printed : PrintsText old new part

-- no file was made or changed
pub record MakesNothing (old new : Outside) : Type 0 where
  pub files : Tells old.files new.files
  pub making : new.making ≡ old.making

-- nothing was printed, and no file was made or changed
pub record LeavesAll (old new : Outside) : Type 0 where
  pub printed : Tells old.printed new.printed
  pub nothing : MakesNothing old new

-- the file is as before, or was made and holds a prefix of these bytes
pub record MakesPrefix (old new : Outside) (name bytes : List ℕ) : Type 0 where
  pub part : List ℕ
  pub prefix : IsPrefix part bytes
  pub files : Tells old.files new.files ⊎ Tells (with_file old.files name part) new.files

-- the file that is to be made was made and holds its bytes; where none is, nothing was made
abbrev pub MadeWhole : Option (List ℕ × List ℕ) → Outside → Outside → Type 0
MadeWhole None old new = MakesNothing old new
MadeWhole (Some file) old new = Tells (with_file old.files file.0 file.1) new.files

-- what a failed write leaves of the file that is to be made
abbrev pub MadePart : Option (List ℕ × List ℕ) → Outside → Outside → Type 0
MadePart None old new = MakesNothing old new
MadePart (Some file) old new = MakesPrefix old new file.0 file.1

-- what the files say was done
pub record DoesSaying (s : Saying) (old new : Outside) : Type 0 where
  pub printed : PrintsText old new s.text
  pub made : MadeWhole s.makes old new

-- a part of what the files say was done
pub record DoesPart (s : Saying) (old new : Outside) : Type 0 where
  pub printed : PrintsPrefix old new s.text
  pub made : MadePart s.makes old new

-- what a failed write leaves of a run: how far its journal and its trace went together
abbrev pub Coupled : Row → Saying → Outside → Outside → Type 0
Coupled (command.Plan file) s old new = ⊤
Coupled (command.Show file) s old new = ⊤
Coupled (command.Check file) s old new = ⊤
Coupled (command.Make n file) s old new = ⊤
Coupled (command.Wants module_file script_file) s old new = ⊤
Coupled (command.Run module_file script_file journal_file seed) s old new = CutsRun journal_file s old new
Coupled (command.Replay module_file script_file journal_file) s old new = ⊤
Coupled (command.Bench n seed) s old new = ⊤
Coupled (command.Live module_file script_file turns seed) s old new = ⊤

-- what a failed write leaves of what a command's files say
pub record Cuts (row : Row) (s : Saying) (old new : Outside) : Type 0 where
  pub part : DoesPart s old new
  pub coupled : Coupled row s old new

-- something is printed or made
abbrev pub SaysSomething : Saying → Type 0
SaysSomething s = (s.text ≢ []) ⊎ (s.makes ≢ None)

-- a write may fail before a refusal is reached: at a line of a journal, or where something is to be printed or made before it
abbrev pub MayBeCut : Saying → Refusal → Type 0
MayBeCut s (Journal (JournalLine line)) = Unit {0}
MayBeCut s _ = SaysSomething s

-- this many names were asked for by a command that has done what its files say, and was refused after that or wasn't
pub record Concludes (row : Row) (names : ℕ) (old new : Outside) (refused : Option Refusal) : Type 0 where
  pub saying : Saying
  pub says : Says row (told_before old new) saying
  pub refused_is : saying.refused ≡ refused
  pub asks : names ≡ saying.asks
  pub does : DoesSaying saying old new

-- a write failed; before a refusal only where something is to be printed or made before it
pub record FailsWriting (row : Row) (names : ℕ) (old new : Outside) : Type 0 where
  pub rose : Rose old.write_faults new.write_faults
  pub saying : Saying
  pub says : Begins row (told_before old new) saying
  pub begins : IsSome saying.refused → SaysSomething saying
  pub asks : names ≡ saying.asks
  pub cuts : Cuts row saying old new

-- the last of the first n of these names is of a file that is read
pub record IsRead (words : List (List ℕ × AskedBy)) (n : ℕ) : Type 0 where
  pub before : List (List ℕ × AskedBy)
  pub name : List ℕ
  pub after : List (List ℕ × AskedBy)
  pub words_are : words ≡ before ++ (name, AskedRead) ∷ after
  pub is_last : n ≡ length before + 1

-- the read of the file with the last name that was asked for failed, and no file before it is refused
pub record FailsReading (row : Row) (names : ℕ) (old new : Outside) : Type 0 where
  pub rose : Rose old.read_faults new.read_faults
  pub leaves : LeavesAll old new
  pub is_read : IsRead (file_words row) names
  pub not_refused : (s : Saying) → IsSome (told_before old new) → Says row (told_before old new) s → names ≤ s.asks

-- the first name was asked for, where it is of a file that is read
abbrev pub AsksFirst : List (List ℕ × AskedBy) → ℕ → Type 0
AsksFirst [] n = ⊤
AsksFirst ((name, AskedRead) ∷ rest) n = 1 ≤ n
AsksFirst ((name, AskedMake) ∷ rest) n = ⊤

-- there was no memory
pub record LacksMemory (row : Row) (names : ℕ) (old new : Outside) : Type 0 where
  pub leaves : LeavesAll old new
  pub asks : AsksFirst (file_words row) names

-- what a command did that asked for this many of its names, by its answer
abbrev pub DoesNamed : Row → ℕ → Outside → Outside → Result (Unit {0}) Fault → Type 0
DoesNamed row names old new (Ok done) = Concludes row names old new None
DoesNamed row names old new (Err (Refused why)) = Concludes row names old new (Some why)
DoesNamed row names old new (Err Write) = FailsWriting row names old new
DoesNamed row names old new (Err Read) = FailsReading row names old new
DoesNamed row names old new (Err Memory) = LacksMemory row names old new
DoesNamed row names old new (Err Words) = ⊥

-- these names were asked for; nothing was reported, and no count fell
pub record Asks (words : List (List ℕ × AskedBy)) (old new : Outside) : Type 0 where
  pub asked : Tells (with_more old.asked words) new.asked
  pub complained : Tells old.complained new.complained
  pub complain_faults : new.complain_faults ≡ old.complain_faults
  pub read_faults : old.read_faults ≤ new.read_faults
  pub write_faults : old.write_faults ≤ new.write_faults

-- none of these names is of a file that is read
abbrev pub ReadsNone : List (List ℕ × AskedBy) → Type 0
ReadsNone [] = ⊤
ReadsNone ((name, AskedRead) ∷ rest) = ⊥
ReadsNone ((name, AskedMake) ∷ rest) = ReadsNone rest

-- what a command does before its fault is reported
pub record Does (row : Row) (old new : Outside) (result : Result (Unit {0}) Fault) : Type 0 where
  -- its first names were asked for, from left to right; all of them where it is done
  pub names : ℕ
  pub asks : Asks (take names (file_words row)) old new
  pub all : OnOk result (names ≡ length (file_words row))
  pub reads : ReadsNone (file_words row) → new.read_faults ≡ old.read_faults
  pub does : DoesNamed row names old new result

-- what reading a file as a value answers: what its bytes are, or what they are refused for
abbrev pub InputIs : {T : Type 0} → Outside → Outside → List ℕ → (List ℕ → T → Type 0) → (List ℕ → Refusal → Type 0) → Result T Fault → Type 0
InputIs old new name Is Refuses (Ok value) = (bytes : List ℕ) × Holds new.files name bytes × Is bytes value
InputIs old new name Is Refuses (Err (Refused why)) = (bytes : List ℕ) × Holds new.files name bytes × Refuses bytes why
InputIs old new name Is Refuses (Err Read) = Rose old.read_faults new.read_faults
InputIs old new name Is Refuses (Err Memory) = ⊤
InputIs old new name Is Refuses (Err _) = ⊥

-- what reading a file as a value does
pub record ReadsInput {T : Type 0} (old new : Outside) (name : List ℕ) (Is : List ℕ → T → Type 0) (Refuses : List ℕ → Refusal → Type 0) (result : Result T Fault) : Type 0 where
  pub asks : Asks ((name, AskedRead) ∷ []) old new
  pub leaves : LeavesAll old new
  pub input : InputIs old new name Is Refuses result

-- how the program ends: a fault is reported, and gives the status whether the complaint went out or not
abbrev pub Ends : Outside → Outside → Result (Unit {0}) Fault → ℕ → Type 0
Ends middle new (Ok done) status = (status ≡ 0) × (new ≡ middle)
Ends middle new (Err fault) status =
    (status ≡ status_of fault) × ((sent : Result (Unit {0}) WriteFail) × Complains middle new (complaint_of fault) sent)

-- what is done for the words, which may be no command
abbrev pub DoesRow : Option Row → Outside → Outside → Result (Unit {0}) Fault → Type 0
DoesRow None old middle result = (middle ≡ old) × (result ≡ Err Words)
DoesRow (Some row) old middle result = Does row old middle result

-- what the program does for its words
pub record RunsRow (row : Option Row) (old new : Outside) (status : ℕ) : Type 0 where
  pub middle : Outside
  pub result : Result (Unit {0}) Fault
  pub does : DoesRow row old middle result
  pub ends : Ends middle new result status
