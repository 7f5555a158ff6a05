-- What lies outside of a program, and what each call of a host does to it.
use Rattle.std.specs.Prelude.{◌≡◌, ◌≤◌, ◌+◌, ◌-◌, ◌^◌, ◌⊎◌, ℕ, min, List, [], ◌∷◌, ◌++◌, length, Option, Some, None, Result, OnOk, OnErr, IsErrOf, unwrap_or, option_map}
use Rattle.std.specs.Ordering.{nat_cmp}
use Rattle.std.specs.Cmp.Lexicographic.{slice_cmp}
use Rattle.std.specs.FinMap.{FinMap, get, insert}
use Rattle.poke_base.specs.declared.host.AskedBy.{AskedBy}
use Rattle.poke_base.specs.declared.host.AskedBy.TheVariants.{Read, Make}
use Rattle.poke_base.specs.declared.host.ReadFail.{ReadFail}
use Rattle.poke_base.specs.declared.host.ReadFail.TheVariants.{Failed, TooLong}
use Rattle.poke_base.specs.Text.{IsPrefix}

-- the bytes of each file, by the bytes of its name
abbrev pub Files : Type 0
Files = FinMap (slice_cmp nat_cmp) (List ℕ)

-- what lies outside; a part that is `None` isn't told, but for `making`, where it says that no file is being made
pub record Outside : Type 0 where
  pub files : Option Files
  pub making : Option (List ℕ)
  pub printed : Option (List ℕ)
  pub complained : Option (List ℕ)
  pub asked : Option (List (List ℕ × AskedBy))
  pub read_faults : ℕ
  pub write_faults : ℕ
  pub complain_faults : ℕ

-- a count went up; it stands still at the greatest u64
abbrev pub Rose : ℕ → ℕ → Type 0
Rose before now = min (before + 1) (2 ^ 64 - 1) ≤ now

-- what is told now was told before too, and is what was expected
pub record Tells {A : Type 0} (expected now : Option A) : Type 0 where
  pub told : (x : A) → now ≡ Some x → expected ≡ Some x

-- a list, where it is told, with more at its end
abbrev pub with_more : {A : Type 0} → Option (List A) → List A → Option (List A)
with_more old more = option_map (λ items. items ++ more) old

-- the files, where they are told, with this one as it is given
abbrev pub with_file : Option Files → List ℕ → List ℕ → Option Files
with_file files name bytes = option_map (λ told. insert told name bytes) files

-- the files with a piece at the end of one of them; to add nothing changes nothing
abbrev pub appended : Files → List ℕ → List ℕ → Files
appended files name [] = files
appended files name (byte ∷ piece) =
    insert files name (unwrap_or (get files name) [] ++ byte ∷ piece)

-- the piece was added to a text, or, after a failure, a prefix of it
pub record Adds {T E : Type 0} (old new : Option (List ℕ)) (piece : List ℕ) (result : Result T E) : Type 0 where
  pub whole : OnOk result (Tells (with_more old piece) new)
  pub part : OnErr result ((done : List ℕ) × IsPrefix done piece × Tells (with_more old done) new)

-- what `read_file` read of a file, or of no such file
pub record ReadsFrom {T : Type 0} (file : Option (List ℕ)) (out : List ℕ) (result : Result T ReadFail) : Type 0 where
  pub whole : OnOk result (file ≡ Some out)
  pub prefix : OnErr result (IsPrefix out (unwrap_or file []))

-- what `read_file` does
pub record ReadsFile {T : Type 0} (old new : Outside) (name : List ℕ) (limit : ℕ) (out : List ℕ) (result : Result T ReadFail) : Type 0 where
  pub contents : (files : Files) → new.files ≡ Some files → ReadsFrom (get files name) out result
  pub fits : OnOk result (length out ≤ limit)
  pub too_long : IsErrOf result TooLong → length out ≡ limit + 1
  pub failed : IsErrOf result Failed → Rose old.read_faults new.read_faults
  pub asked : Tells (with_more old.asked ((name, Read) ∷ [])) new.asked
  pub files : Tells old.files new.files
  pub making : new.making ≡ old.making
  pub printed : Tells old.printed new.printed
  pub complained : Tells old.complained new.complained
  pub read_faults : old.read_faults ≤ new.read_faults
  pub write_faults : new.write_faults ≡ old.write_faults
  pub complain_faults : new.complain_faults ≡ old.complain_faults

-- what `make_file` does: after a failure the file is as before or empty, and no file is being made
pub record MakesFile {T E : Type 0} (old new : Outside) (name : List ℕ) (result : Result T E) : Type 0 where
  pub made : OnOk result (Tells (with_file old.files name []) new.files)
  pub not_made : OnErr result (Tells old.files new.files ⊎ Tells (with_file old.files name []) new.files)
  pub making : OnOk result (new.making ≡ Some name)
  pub not_making : OnErr result (new.making ≡ None)
  pub failed : OnErr result (Rose old.write_faults new.write_faults)
  pub asked : Tells (with_more old.asked ((name, Make) ∷ [])) new.asked
  pub printed : Tells old.printed new.printed
  pub complained : Tells old.complained new.complained
  pub read_faults : new.read_faults ≡ old.read_faults
  pub write_faults : old.write_faults ≤ new.write_faults
  pub complain_faults : new.complain_faults ≡ old.complain_faults

-- the files with a piece at the end of the file that is being made
abbrev pub with_appended : Outside → List ℕ → Option Files
with_appended old piece = option_map (λ files. appended files (unwrap_or old.making []) piece) old.files

-- what `append` does to the file that is being made
pub record Appends {T E : Type 0} (old new : Outside) (piece : List ℕ) (result : Result T E) : Type 0 where
  pub whole : OnOk result (Tells (with_appended old piece) new.files)
  pub part : OnErr result ((done : List ℕ) × IsPrefix done piece × Tells (with_appended old done) new.files)
  pub failed : OnErr result (Rose old.write_faults new.write_faults)
  pub making : new.making ≡ old.making
  pub printed : Tells old.printed new.printed
  pub complained : Tells old.complained new.complained
  pub asked : Tells old.asked new.asked
  pub read_faults : new.read_faults ≡ old.read_faults
  pub write_faults : old.write_faults ≤ new.write_faults
  pub complain_faults : new.complain_faults ≡ old.complain_faults

-- what `print` does
pub record Prints {T E : Type 0} (old new : Outside) (piece : List ℕ) (result : Result T E) : Type 0 where
  pub printed : Adds old.printed new.printed piece result
  pub failed : OnErr result (Rose old.write_faults new.write_faults)
  pub files : Tells old.files new.files
  pub making : new.making ≡ old.making
  pub complained : Tells old.complained new.complained
  pub asked : Tells old.asked new.asked
  pub read_faults : new.read_faults ≡ old.read_faults
  pub write_faults : old.write_faults ≤ new.write_faults
  pub complain_faults : new.complain_faults ≡ old.complain_faults

-- what `complain` does
pub record Complains {T E : Type 0} (old new : Outside) (piece : List ℕ) (result : Result T E) : Type 0 where
  pub complained : Adds old.complained new.complained piece result
  pub failed : OnErr result (Rose old.complain_faults new.complain_faults)
  pub files : Tells old.files new.files
  pub making : new.making ≡ old.making
  pub printed : Tells old.printed new.printed
  pub asked : Tells old.asked new.asked
  pub read_faults : new.read_faults ≡ old.read_faults
  pub write_faults : new.write_faults ≡ old.write_faults
  pub complain_faults : old.complain_faults ≤ new.complain_faults
