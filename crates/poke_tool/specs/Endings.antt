-- How the program ends, sentence by sentence; each of them follows from `Runs`.
use Rattle.std.specs.Prelude.{◌≡◌, ◌⊎◌, ℕ, List, [], length, take, Option, Some, None, Result, OnErr, IsSome}
use Rattle.poke_base.specs.declared.host.AskedBy.{AskedBy}
use Rattle.poke_base.specs.declared.host.WriteFail.{WriteFail}
use Rattle.poke_base.specs.Host.{Outside, Rose, Tells, Adds, with_file, with_more}
use Rattle.poke_faults.specs.declared.fault.Fault.{Fault}
use Rattle.poke_faults.specs.declared.fault.Fault.TheVariants.{Refused}
use Rattle.poke_faults.specs.declared.fault.Refusal.{Refusal}
use Rattle.poke_commands.specs.Command.{Row, file_words}
use Rattle.poke_faults.specs.Fault.{complaint_of, refusal_status, status_of}
use Rattle.poke_commands.specs.Runs.{Cuts, DoesSaying, MakesNothing, MakesPrefix, MayBeCut}
use Rattle.poke_commands.specs.Saying.{Begins, IsModuleOf, Saying, Says, saying_status, told_before}

-- the file words of the command, none where the words are no command
abbrev pub names_of : Option Row → List (List ℕ × AskedBy)
names_of None = []
names_of (Some row) = file_words row

-- the first n of the file words were asked for, from left to right, and no other file; at status 0 all of them
pub record AsksInOrder (row : Option Row) (old new : Outside) (status : ℕ) : Type 0 where
  pub names : ℕ
  pub asked : Tells (with_more old.asked (take names (names_of row))) new.asked
  pub all : status ≡ 0 → names ≡ length (names_of row)

-- a fault gave the status and was reported; where the report failed, a prefix of it went out
pub record Reported (old new : Outside) (status : ℕ) (fault : Fault) : Type 0 where
  pub status_is : status ≡ status_of fault
  pub sent : Result (Unit {0}) WriteFail
  pub added : Adds old.complained new.complained (complaint_of fault) sent
  pub lost : OnErr sent (Rose old.complain_faults new.complain_faults)

-- nothing is reported at status 0, and one fault at every other
abbrev pub EndsAloud : Outside → Outside → ℕ → Type 0
EndsAloud old new status =
    ((status ≡ 0) × Tells old.complained new.complained) ⊎ ((fault : Fault) × Reported old new status fault)

-- what the files say was done, and the command was refused after that, which was reported
pub record EndsRefused (row : Row) (old new : Outside) (status : ℕ) : Type 0 where
  pub saying : Saying
  pub why : Refusal
  pub says : Says row (told_before old new) saying
  pub refused : saying.refused ≡ Some why
  pub does : DoesSaying saying old new
  pub reported : Reported old new status (Refused why)

-- when each status comes of a command, by what its files said before it
pub record EndsSaying (row : Row) (old new : Outside) (status : ℕ) : Type 0 where
  -- what the files say was done
  pub done : status ≡ 0 → (s : Saying) × Says row (told_before old new) s × (s.refused ≡ None) × DoesSaying s old new
  -- what they say was done, and the command was refused after that for the reason that was reported
  pub refused : (status ≡ 2) ⊎ (status ≡ 3) ⊎ (status ≡ 4) → EndsRefused row old new status
  -- a part of what they say was done
  pub cut : status ≡ 6 → (s : Saying) × Begins row (told_before old new) s × Cuts row s old new
  -- what is to be refused is refused, but for a failed read, out of memory, and a failed write of what is done before that
  pub refuses : (s : Saying) (why : Refusal) → IsSome (told_before old new) → Says row (told_before old new) s → s.refused ≡ Some why → (status ≡ refusal_status why) ⊎ (status ≡ 5) ⊎ (status ≡ 7) ⊎ ((status ≡ 6) × MayBeCut s why)
  -- where no read and no write failed, the status is what the files say, but for out of memory
  pub complete : (s : Saying) → IsSome (told_before old new) → Says row (told_before old new) s → ¬ Rose old.read_faults new.read_faults → ¬ Rose old.write_faults new.write_faults → (status ≡ saying_status s) ⊎ (status ≡ 7)
  -- files that aren't to be refused are done, where no read and no write failed, but for out of memory
  pub accepts : IsSome (told_before old new) → ((s : Saying) → Says row (told_before old new) s → s.refused ≡ None) → ¬ Rose old.read_faults new.read_faults → ¬ Rose old.write_faults new.write_faults → (status ≡ 0) ⊎ (status ≡ 7)

-- when each status comes of `make`, and what it leaves of its file
pub record EndsMaking (n : ℕ) (name : List ℕ) (old new : Outside) (status : ℕ) : Type 0 where
  -- the file was made, and holds the module
  pub done : status ≡ 0 → (bytes : List ℕ) × IsModuleOf n bytes × Tells (with_file old.files name bytes) new.files
  -- a write failed: the file is as before, or was made and holds a prefix of the module
  pub cut : status ≡ 6 → (bytes : List ℕ) × IsModuleOf n bytes × MakesPrefix old new name bytes
  -- there was no memory, and no file was made
  pub memory : status ≡ 7 → MakesNothing old new
  pub only : (status ≡ 0) ⊎ ((status ≡ 6) ⊎ (status ≡ 7))
  pub prints_nothing : Tells old.printed new.printed
