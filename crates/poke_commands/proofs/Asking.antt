-- What a command has asked for and left, composed step by step: reads, prints, and a file that is made.
use Rattle.std.proofs.Common.{◌≡◌, ◌≤◌, ℕ, List, [], ◌∷◌, ◌++◌, take, Option, Some, None, option_map, unwrap_or, IsSome, Result, refl, sym, ap, ◌∙◌, subst, arith, append-nil}
use Rattle.std.specs.FinMap.{insert}
use Rattle.poke_base.specs.declared.host.AskedBy.{AskedBy}
use Rattle.poke_base.specs.declared.host.AskedBy.TheVariants.{Read as AskedRead, Make as AskedMake}
use Rattle.poke_base.specs.Host.{Files, Outside, Tells, Prints, MakesFile, Appends, appended, with_appended, with_file, with_more}
use Rattle.poke_base.proofs.Files.{get-inserted, insert-inserted}
use Rattle.poke_base.proofs.Outsides.{Tells-more, Tells-no_more, Tells-same, Tells-trans}
use Rattle.poke_commands.specs.Command.{Row, file_words}
use Rattle.poke_commands.specs.Runs.{Asks, IsRead, LeavesAll, MakesNothing, ReadsInput, ReadsNone}
use Rattle.poke_faults.specs.declared.fault.Fault.{Fault}
use Rattle.poke_faults.specs.declared.fault.Refusal.{Refusal}
use Rattle.poke_commands.specs.Saying.{Holds, told_before, where_told}

-- what is told of a part is told of what is made of it
pub Tells-map : {A : Type 0} (f : A → A) (a b : Option A) → Tells a b → Tells (option_map f a) (option_map f b)
Tells-map f a None tells = record { told = λ x e. absurd (cc) }
Tells-map f a (Some y) tells = record { told = λ x e. ap (option_map f) (tells.told y refl) ∙ e }

-- a piece was added to a text that was told between
pub added_later : {A : Type 0} (a b c : Option (List A)) (more : List A) → Tells a b → Tells (with_more b more) c → Tells (with_more a more) c
added_later a b c more ab bc =
    Tells-trans _ _ c (Tells-map (λ items. items ++ more) a b ab) bc

-- a file was made of files that were told between
pub made_later : (a b c : Option Files) (name bytes : List ℕ) → Tells a b → Tells (with_file b name bytes) c → Tells (with_file a name bytes) c
made_later a b c name bytes ab bc =
    Tells-trans _ _ c (Tells-map (λ files. insert files name bytes) a b ab) bc

-- names were asked for, and then more
pub Asks-more : (p q : List (List ℕ × AskedBy)) (old middle new : Outside) → Asks p old middle → Asks q middle new → Asks (p ++ q) old new
Asks-more p q old middle new h k = record {
  asked = Tells-more old.asked middle.asked new.asked p q h.asked k.asked;
  complained = Tells-trans old.complained middle.complained new.complained h.complained k.complained;
  complain_faults = k.complain_faults ∙ h.complain_faults;
  read_faults = omega (arith, h.read_faults, k.read_faults);
  write_faults = omega (arith, h.write_faults, k.write_faults);
}

-- names were asked for, and then none
pub Asks-same : (p : List (List ℕ × AskedBy)) (old middle new : Outside) → Asks p old middle → Asks [] middle new → Asks p old new
Asks-same p old middle new h k =
    subst (λ (words : List (List ℕ × AskedBy)). Asks words old new) (append-nil p) (Asks-more p [] old middle new h k)

-- nothing was asked for by a call that asks for nothing
pub Asks-none : (old new : Outside) → Tells old.asked new.asked → Tells old.complained new.complained → new.complain_faults ≡ old.complain_faults → new.read_faults ≡ old.read_faults → old.write_faults ≤ new.write_faults → Asks [] old new
Asks-none old new asked complained complain_faults read_faults write_faults = record {
  asked = Tells-trans _ old.asked new.asked (Tells-no_more old.asked) asked;
  complained = complained;
  complain_faults = complain_faults;
  read_faults = omega arith;
  write_faults = write_faults;
}

-- a print and an append ask for nothing
pub Asks-prints : {T E : Type 0} (old new : Outside) (text : List ℕ) (result : Result T E) → Prints old new text result → Asks [] old new
Asks-prints old new text result h = Asks-none old new h.asked h.complained h.complain_faults h.read_faults h.write_faults

pub Asks-appends : {T E : Type 0} (old new : Outside) (piece : List ℕ) (result : Result T E) → Appends old new piece result → Asks [] old new
Asks-appends old new piece result h = Asks-none old new h.asked h.complained h.complain_faults h.read_faults h.write_faults

-- the name of a file that is made was asked for
pub Asks-makes : {T E : Type 0} (old new : Outside) (name : List ℕ) (result : Result T E) → MakesFile old new name result → Asks ((name, AskedMake) ∷ []) old new
Asks-makes old new name result h = record {
  asked = h.asked;
  complained = h.complained;
  complain_faults = h.complain_faults;
  read_faults = let same = h.read_faults in omega arith;
  write_faults = h.write_faults;
}

-- nothing was made, and then nothing
pub MakesNothing-trans : (old middle new : Outside) → MakesNothing old middle → MakesNothing middle new → MakesNothing old new
MakesNothing-trans old middle new h k = record {
  files = Tells-trans old.files middle.files new.files h.files k.files;
  making = k.making ∙ h.making;
}

-- all was left, and then all
pub LeavesAll-trans : (old middle new : Outside) → LeavesAll old middle → LeavesAll middle new → LeavesAll old new
LeavesAll-trans old middle new h k = record {
  printed = Tells-trans old.printed middle.printed new.printed h.printed k.printed;
  nothing = MakesNothing-trans old middle new h.nothing k.nothing;
}

-- what is added to an empty file is all that it holds
appended_to_empty : (files : Files) (name piece : List ℕ) → appended (insert files name []) name piece ≡ insert files name piece
appended_to_empty files name [] = refl
appended_to_empty files name (byte ∷ piece) =
    insert-inserted files name [] _
    ∙ ap (λ now. insert files name (unwrap_or now [] ++ byte ∷ piece)) (get-inserted files name [])

-- what the files are where a piece was added to one that was made empty
holds_piece : (old middle : Option Files) (making : Option (List ℕ)) (name piece : List ℕ) (files : Files) → making ≡ Some name → ((made : Files) → middle ≡ Some made → with_file old name [] ≡ Some made) → option_map (λ files. appended files (unwrap_or making []) piece) middle ≡ Some files → with_file old name piece ≡ Some files
holds_piece old None making name piece files is made added = absurd (cc added)
holds_piece None (Some between) making name piece files is made added = absurd (cc (made between refl))
holds_piece (Some before) (Some between) making name piece files is made added =
    ap Some (sym (appended_to_empty before name piece))
    ∙ ap (λ (name_made : Option (List ℕ)). Some (appended (insert before name []) (unwrap_or name_made []) piece)) (sym is)
    ∙ ap (option_map (λ files. appended files (unwrap_or making []) piece)) (made between refl)
    ∙ added

-- a file that was made empty holds the piece that was added then
pub made_with : (old : Option Files) (middle new : Outside) (name piece : List ℕ) → middle.making ≡ Some name → Tells (with_file old name []) middle.files → Tells (with_appended middle piece) new.files → Tells (with_file old name piece) new.files
made_with old middle new name piece is made added = record {
  told = λ files e. holds_piece old middle.files middle.making name piece files is made.told (added.told files e);
}

-- what a command has done that has only read so far: it asked for the first of its names
pub record HasRead (row : Row) (names : ℕ) (old now : Outside) : Type 0 where
  pub asks : Asks (take names (file_words row)) old now
  pub leaves : LeavesAll old now
  pub reads : ReadsNone (file_words row) → now.read_faults ≡ old.read_faults

-- it has read nothing
pub has_read-none : (row : Row) (old : Outside) → HasRead row 0 old old
has_read-none row old = record {
  asks = Asks-none old old (Tells-same old.asked) (Tells-same old.complained) refl refl (omega arith);
  leaves = record { printed = Tells-same old.printed; nothing = record { files = Tells-same old.files; making = refl } };
  reads = λ none. refl;
}

-- where one of the names is of a file that is read, not none is
not_none : (before : List (List ℕ × AskedBy)) (name : List ℕ) (after : List (List ℕ × AskedBy)) → ReadsNone (before ++ (name, AskedRead) ∷ after) → ⊥
not_none [] name after none = none
not_none ((other, AskedRead) ∷ before) name after none = none
not_none ((other, AskedMake) ∷ before) name after none = not_none before name after none

-- it has read the next of its files too
pub has_read-more : {T : Type 0} (row : Row) (names next : ℕ) (name : List ℕ) (old middle new : Outside) (Is : List ℕ → T → Type 0) (Refuses : List ℕ → Refusal → Type 0) (result : Result T Fault) → take next (file_words row) ≡ take names (file_words row) ++ (name, AskedRead) ∷ [] → IsRead (file_words row) next → HasRead row names old middle → ReadsInput middle new name Is Refuses result → HasRead row next old new
has_read-more row names next name old middle new Is Refuses result taken is_read has reads = record {
  asks =
      subst (λ (words : List (List ℕ × AskedBy)). Asks words old new) (sym taken) (Asks-more (take names (file_words row)) ((name, AskedRead) ∷ []) old middle new has.asks reads.asks);
  leaves = LeavesAll-trans old middle new has.leaves reads.leaves;
  reads =
      λ none. absurd (not_none is_read.before is_read.name is_read.after (subst (λ (words : List (List ℕ × AskedBy)). ReadsNone words) is_read.words_are none));
}

-- files that were told between are those that were told before, where they still are
told_between : (before middle now : Option Files) (files : Files) → Tells before middle → ((x : Files) → now ≡ Some x → IsSome middle) → where_told before now ≡ Some files → middle ≡ Some files
told_between before middle None files tells still e = absurd (cc)
told_between before None (Some now) files tells still e = let some = still now refl in absurd (cc)
told_between before (Some middle) (Some now) files tells still e = sym (tells.told middle refl) ∙ e

-- what a file held when it was read it held before, where none was made between
pub held_before : (old middle new : Outside) (name bytes : List ℕ) → Tells old.files middle.files → ((x : Files) → new.files ≡ Some x → IsSome middle.files) → Holds middle.files name bytes → Holds (told_before old new) name bytes
held_before old middle new name bytes tells still holds files e =
    holds files (told_between old.files middle.files new.files files tells still e)

-- what is told after a step that makes nothing was told before it
pub still_told : (middle new : Option Files) → Tells middle new → (x : Files) → new ≡ Some x → IsSome middle
still_told None new tells x e = let none = tells.told x e in absurd (cc)
still_told (Some files) new tells x e = refl
