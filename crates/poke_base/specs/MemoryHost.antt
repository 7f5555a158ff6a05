-- What a host in memory holds, and which of its calls fail.
use Rattle.std.specs.Prelude.{◌≡◌, ◌==◌, ◌+◌, ◌-◌, ◌/◌, ◌^◌, ◌⊎◌, ℕ, min, if◌then◌else◌, List, [], length, take, map, Contains, Option, Some, None, Result, Ok, Err, is_err, OnErr, String, string_bytes}
use Rattle.std.specs.declared.alloc.Global.{Global}
use Rattle.std.specs.FinMap.{empty, get}
use Rattle.poke_base.specs.declared.memory.MemoryHost.{MemoryHost}
use Rattle.poke_base.specs.declared.host.AskedBy.{AskedBy}
use Rattle.poke_base.specs.declared.host.ReadFail.{ReadFail}
use Rattle.poke_base.specs.declared.host.ReadFail.TheVariants.{Failed, TooLong, NoMemory}
use Rattle.poke_base.specs.Host.{Files, Outside, Rose}

-- the names asked, each with the call that was handed it
abbrev pub names_of : List (String Global × AskedBy) → List (List ℕ × AskedBy)
names_of asked = map (λ a. (string_bytes a.0, a.1)) asked

-- all that a host in memory tells; the names asked are untold once it has wanted memory of its own
abbrev pub outside_of : MemoryHost → Outside
outside_of host = record {
  files = Some host.store.files;
  making = host.store.making;
  printed = Some host.printed.items;
  complained = Some host.complained.items;
  asked = if host.starved == 0 then Some (names_of host.asked.items) else None;
  read_faults = host.read_faults;
  write_faults = host.write_faults;
  complain_faults = host.complain_faults;
}

-- the numbers of the calls that fail
abbrev pub failing_calls : MemoryHost → List ℕ
failing_calls host = host.failing.items

-- how many calls of `Host` were made
abbrev pub calls_made : MemoryHost → ℕ
calls_made host = host.calls

-- how often the host wanted memory of its own
abbrev pub wants_of : MemoryHost → ℕ
wants_of host = host.starved

-- one more; a count stands still at the greatest u64
abbrev pub one_more : ℕ → ℕ
one_more count = min (count + 1) (2 ^ 64 - 1)

-- the number of the call that is made next stands on the list
abbrev pub IsListed : MemoryHost → Type 0
IsListed host = Contains (failing_calls host) (one_more (calls_made host))

-- the host wanted memory of its own in a call
abbrev pub Starves : MemoryHost → MemoryHost → Type 0
Starves old new = Rose (wants_of old) (wants_of new)

-- the count of a call's kind goes up by one where it fails, and stays where it doesn't
abbrev pub counted : {T E : Type 0} → ℕ → Result T E → ℕ
counted count result = if is_err result then one_more count else count

-- the count of read faults goes up by one where a file isn't there or reading it failed, and stays where it doesn't
abbrev pub counted_failed : {T : Type 0} → ℕ → Result T ReadFail → ℕ
counted_failed count (Ok done) = count
counted_failed count (Err Failed) = one_more count
counted_failed count (Err TooLong) = count
counted_failed count (Err NoMemory) = count

-- the bytes of a file, where the files are told
abbrev pub file_in : Option Files → List ℕ → Option (List ℕ)
file_in None name = None
file_in (Some files) name = get files name

-- there is no such file
abbrev pub IsMissing : MemoryHost → List ℕ → Type 0
IsMissing host name = file_in (outside_of host).files name ≡ None

-- what every call of `Host` does to the host's own numbers
pub record IsCall (old new : MemoryHost) : Type 0 where
  pub number : calls_made new ≡ one_more (calls_made old)
  pub same_list : failing_calls new ≡ failing_calls old
  pub wants : (wants_of new ≡ wants_of old) ⊎ (wants_of new ≡ one_more (wants_of old))

-- what is added where a call fails: the first half of the piece where its number is on the list, nothing
-- where the host wanted memory of its own. `after more` is the text or the files with `more` added.
pub record AddsHalf {T E X : Type 0} (old new : MemoryHost) (before : X) (with_piece : List ℕ → X) (after : X) (piece : List ℕ) (result : Result T E) : Type 0 where
  pub starved : Starves old new → after ≡ before
  pub listed : OnErr result (¬ Starves old new → after ≡ with_piece (take (length piece / 2) piece))

-- a new host: no file, empty texts, nothing asked, no failures
abbrev pub nothing_outside : Outside
nothing_outside = record {
  files = Some empty;
  making = None;
  printed = Some [];
  complained = Some [];
  asked = Some [];
  read_faults = 0;
  write_faults = 0;
  complain_faults = 0;
}

-- the host's own numbers are as before
pub record SameNumbers (old new : MemoryHost) : Type 0 where
  pub number : calls_made new ≡ calls_made old
  pub wants : wants_of new ≡ wants_of old
