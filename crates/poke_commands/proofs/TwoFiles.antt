-- The ways through a command of two files, which are read one after the other.
use Rattle.std.proofs.Common.{◌≡◌, ◌≤◌, ℕ, List, [], ◌∷◌, ◌++◌, length, take, Option, Some, None, IsSome, Result, Ok, Err, refl, sym, ap, ◌∙◌, subst, lit≤, arith}
use Rattle.poke_base.specs.declared.host.AskedBy.{AskedBy}
use Rattle.poke_base.specs.declared.host.AskedBy.TheVariants.{Read as AskedRead}
use Rattle.poke_base.specs.declared.host.WriteFail.{WriteFail}
use Rattle.poke_base.specs.Host.{Files, Outside, Tells, Prints}
use Rattle.poke_base.proofs.Outsides.{Tells-trans}
use Rattle.poke_faults.specs.declared.fault.Fault.{Fault}
use Rattle.poke_faults.specs.declared.fault.Fault.TheVariants.{Memory, Read, Refused, Words, Write}
use Rattle.poke_faults.specs.declared.fault.Refusal.{Refusal}
use Rattle.poke_commands.specs.Command.{Row, file_words}
use Rattle.poke_commands.specs.Runs.{AsksFirst, Does, IsRead, ReadsInput}
use Rattle.poke_commands.specs.Scripted.{PrintsAs, PrintsSome}
use Rattle.poke_commands.specs.Saying.{Holds, Saying, Says, says_text, refuses, told_before}
use Rattle.poke_commands.proofs.Asking.{HasRead, has_read-more, has_read-none, held_before, still_told}
use Rattle.poke_commands.proofs.Sayings.{asks_first}
use Rattle.poke_commands.proofs.Ways.{IsPlainRow, after_write, input_fails, lacks_memory, prints_said}

-- the first two files of a row are read
abbrev pub ReadsTwo : Row → List ℕ → List ℕ → Type 0
ReadsTwo row first second =
    (rest : List (List ℕ × AskedBy)) × (file_words row ≡ (first, AskedRead) ∷ (second, AskedRead) ∷ rest)

first_is_read : (row : Row) (first second : List ℕ) → ReadsTwo row first second → IsRead (file_words row) 1
first_is_read row first second two =
    record { before = []; name = first; after = (second, AskedRead) ∷ two.0; words_are = two.1; is_last = refl }

second_is_read : (row : Row) (first second : List ℕ) → ReadsTwo row first second → IsRead (file_words row) 2
second_is_read row first second two =
    record { before = (first, AskedRead) ∷ []; name = second; after = two.0; words_are = two.1; is_last = refl }

-- the names that are asked for
one_taken : (row : Row) (first second : List ℕ) → ReadsTwo row first second → take 1 (file_words row) ≡ take 0 (file_words row) ++ (first, AskedRead) ∷ []
one_taken row first second two = ap (λ (words : List (List ℕ × AskedBy)). take 1 words) two.1

two_taken : (row : Row) (first second : List ℕ) → ReadsTwo row first second → take 2 (file_words row) ≡ take 1 (file_words row) ++ (second, AskedRead) ∷ []
two_taken row first second two =
    ap (λ (words : List (List ℕ × AskedBy)). take 2 words) two.1
    ∙ sym (ap (λ (words : List (List ℕ × AskedBy)). take 1 words ++ (second, AskedRead) ∷ []) two.1)

pub asks_some : (row : Row) (first second : List ℕ) (n : ℕ) → ReadsTwo row first second → 1 ≤ n → AsksFirst (file_words row) n
asks_some row first second n two some =
    subst (λ (words : List (List ℕ × AskedBy)). AsksFirst words n) (sym two.1) some

-- the first was read
one_read : {T : Type 0} (row : Row) (first second : List ℕ) (old new : Outside) (Is : List ℕ → T → Type 0) (Refuses : List ℕ → Refusal → Type 0) (result : Result T Fault) → ReadsTwo row first second → ReadsInput old new first Is Refuses result → HasRead row 1 old new
one_read row first second old new Is Refuses result two reads =
    has_read-more row 0 1 first old old new Is Refuses result (one_taken row first second two) (first_is_read row first second two) (has_read-none row old) reads

one_or_more : {A : Type 0} (x : A) (xs : List A) → 1 ≤ length (x ∷ xs)
one_or_more x xs = omega arith

-- or it failed
pub first_fails : {T : Type 0} (row : Row) (first second : List ℕ) (old new : Outside) (Is : List ℕ → T → Type 0) (Refuses : List ℕ → Refusal → Type 0) (fault : Fault) → ReadsTwo row first second → ReadsInput {T = T} old new first Is Refuses (Err fault) → ((bytes : List ℕ) (why : Refusal) → Holds (told_before old new) first bytes → Refuses bytes why → Says row (told_before old new) (refuses 1 why)) → Does row old new (Err fault)
first_fails row first second old new Is Refuses fault two reads says =
    input_fails row 0 1 first old old new Is Refuses fault (one_taken row first second two) (first_is_read row first second two)
    (asks_some row first second 1 two (lit≤ tt))
    (has_read-none row old) reads says (λ s some said. asks_first row (told_before old new) s (subst (λ (words : List (List ℕ × AskedBy)). 1 ≤ length words) (sym two.1) (one_or_more (first, AskedRead) ((second, AskedRead) ∷ two.0))) said)

-- both were read, the first as this value
pub record ReadsFirst {T : Type 0} (row : Row) (first second : List ℕ) (old middle : Outside) (Is : List ℕ → T → Type 0) (Refuses : List ℕ → Refusal → Type 0) (value : T) : Type 0 where
  pub two : ReadsTwo row first second
  pub reads : ReadsInput old middle first Is Refuses (Ok value)

-- what the first holds, where it is still told
first_held : {T : Type 0} (row : Row) (first second : List ℕ) (old middle new : Outside) (Is : List ℕ → T → Type 0) (Refuses : List ℕ → Refusal → Type 0) (value : T) → ReadsFirst row first second old middle Is Refuses value → Tells middle.files new.files → (bytes : List ℕ) × Holds (told_before old new) first bytes × Is bytes value
first_held row first second old middle new Is Refuses value is tells =
    (is.reads.input.0, held_before old middle new first is.reads.input.0 is.reads.leaves.nothing.files (still_told middle.files new.files tells) is.reads.input.1, is.reads.input.2)

-- the second failed
pub second_fails : {T U : Type 0} (row : Row) (first second : List ℕ) (old middle new : Outside) (Is : List ℕ → T → Type 0) (Refuses : List ℕ → Refusal → Type 0) (value : T) (IsToo : List ℕ → U → Type 0) (RefusesToo : List ℕ → Refusal → Type 0) (fault : Fault) → ReadsFirst row first second old middle Is Refuses value → ReadsInput {T = U} middle new second IsToo RefusesToo (Err fault) → ((bytes : List ℕ) → Holds (told_before old new) first bytes → Is bytes value → (text : List ℕ) (why : Refusal) → Holds (told_before old new) second text → RefusesToo text why → Says row (told_before old new) (refuses 2 why)) → ((bytes : List ℕ) → Holds (told_before old new) first bytes → Is bytes value → (s : Saying) → IsSome (told_before old new) → Says row (told_before old new) s → 2 ≤ s.asks) → Does row old new (Err fault)
second_fails row first second old middle new Is Refuses value IsToo RefusesToo fault is reads says asks =
    let held = first_held row first second old middle new Is Refuses value is reads.leaves.nothing.files in
    input_fails row 1 2 second old middle new IsToo RefusesToo fault (two_taken row first second is.two) (second_is_read row first second is.two)
    (asks_some row first second 2 is.two (lit≤ tt))
    (one_read row first second old middle Is Refuses (Ok value) is.two is.reads)
    reads (says held.0 held.1 held.2) (asks held.0 held.1 held.2)

-- both were read
pub both_read : {T U : Type 0} (row : Row) (first second : List ℕ) (old middle new : Outside) (Is : List ℕ → T → Type 0) (Refuses : List ℕ → Refusal → Type 0) (value : T) (IsToo : List ℕ → U → Type 0) (RefusesToo : List ℕ → Refusal → Type 0) (other : U) → ReadsFirst row first second old middle Is Refuses value → ReadsInput middle new second IsToo RefusesToo (Ok other) → HasRead row 2 old new
both_read row first second old middle new Is Refuses value IsToo RefusesToo other is reads =
    has_read-more row 1 2 second old middle new IsToo RefusesToo (Ok other) (two_taken row first second is.two) (second_is_read row first second is.two)
    (one_read row first second old middle Is Refuses (Ok value) is.two is.reads)
    reads

-- there was no memory after both were read
pub both_lack : {T U : Type 0} (row : Row) (first second : List ℕ) (old middle new : Outside) (Is : List ℕ → T → Type 0) (Refuses : List ℕ → Refusal → Type 0) (value : T) (IsToo : List ℕ → U → Type 0) (RefusesToo : List ℕ → Refusal → Type 0) (other : U) → ReadsFirst row first second old middle Is Refuses value → ReadsInput middle new second IsToo RefusesToo (Ok other) → Does row old new (Err Memory)
both_lack row first second old middle new Is Refuses value IsToo RefusesToo other is reads =
    lacks_memory row 2 old new (both_read row first second old middle new Is Refuses value IsToo RefusesToo other is reads)
    (asks_some row first second 2 is.two (lit≤ tt))

-- what they say was printed, or a prefix of that
pub both_print : {T U : Type 0} (row : Row) (first second : List ℕ) (old middle between new : Outside) (Is : List ℕ → T → Type 0) (Refuses : List ℕ → Refusal → Type 0) (value : T) (IsToo : List ℕ → U → Type 0) (RefusesToo : List ℕ → Refusal → Type 0) (other : U) (text : List ℕ) (result : Result (Unit {0}) WriteFail) → ReadsFirst row first second old middle Is Refuses value → ReadsInput middle between second IsToo RefusesToo (Ok other) → Prints between new text result → ((bytes : List ℕ) → Holds (told_before old new) first bytes → Is bytes value → (more : List ℕ) → Holds (told_before old new) second more → IsToo more other → Says row (told_before old new) (says_text 2 text)) → length (file_words row) ≡ 2 → IsPlainRow row old new → Does row old new (after_write result)
both_print row first second old middle between new Is Refuses value IsToo RefusesToo other text result is reads prints says whole plain =
    let has = both_read row first second old middle between Is Refuses value IsToo RefusesToo other is reads in
    let before = first_held row first second old middle new Is Refuses value is (Tells-trans middle.files between.files new.files reads.leaves.nothing.files prints.files) in
    prints_said row 2 old between new text result (sym whole) has prints
    (says before.0 before.1 before.2 reads.input.0 (held_before old between new second reads.input.0 has.leaves.nothing.files (still_told between.files new.files prints.files) reads.input.1) reads.input.2)
    plain

-- what they say was printed as a text of theirs, or a prefix of it, or there was no memory
pub both_tell : {T U : Type 0} (row : Row) (first second : List ℕ) (old middle between new : Outside) (Is : List ℕ → T → Type 0) (Refuses : List ℕ → Refusal → Type 0) (value : T) (IsToo : List ℕ → U → Type 0) (RefusesToo : List ℕ → Refusal → Type 0) (other : U) (IsText : List ℕ → Type 0) (result : Result (Unit {0}) Fault) → ReadsFirst row first second old middle Is Refuses value → ReadsInput middle between second IsToo RefusesToo (Ok other) → PrintsAs IsText between new result → ((text : List ℕ) → IsText text → (bytes : List ℕ) → Holds (told_before old new) first bytes → Is bytes value → (more : List ℕ) → Holds (told_before old new) second more → IsToo more other → Says row (told_before old new) (says_text 2 text)) → length (file_words row) ≡ 2 → IsPlainRow row old new → Does row old new result
both_tell row first second old middle between new Is Refuses value IsToo RefusesToo other IsText result is reads prints says whole plain = by result prints
  where
    printed : (answer : Result (Unit {0}) WriteFail) → PrintsSome IsText between new answer → Does row old new (after_write answer)
    printed answer some = both_print row first second old middle between new Is Refuses value IsToo RefusesToo other some.text answer is reads some.prints (says some.text some.is) whole plain

    by : (result : Result (Unit {0}) Fault) → PrintsAs IsText between new result → Does row old new result
    by (Ok done) some = printed (Ok tt) some
    by (Err Write) (why, some) = printed (Err why) some
    by (Err Memory) same =
        subst (λ (o : Outside). Does row old o (Err Memory)) (sym same)
        (both_lack row first second old middle between Is Refuses value IsToo RefusesToo other is reads)
    by (Err Words) none = absurd none
    by (Err (Refused why)) none = absurd none
    by (Err Read) none = absurd none

-- what both hold, where they are still told
pub record BothHold {T U : Type 0} (told : Option Files) (first second : List ℕ) (Is : List ℕ → T → Type 0) (value : T) (IsToo : List ℕ → U → Type 0) (other : U) : Type 0 where
  pub bytes : List ℕ
  pub holds : Holds told first bytes
  pub is : Is bytes value
  pub text : List ℕ
  pub holds_too : Holds told second text
  pub is_too : IsToo text other

pub both_hold : {T U : Type 0} (row : Row) (first second : List ℕ) (old middle between new : Outside) (Is : List ℕ → T → Type 0) (Refuses : List ℕ → Refusal → Type 0) (value : T) (IsToo : List ℕ → U → Type 0) (RefusesToo : List ℕ → Refusal → Type 0) (other : U) → ReadsFirst row first second old middle Is Refuses value → ReadsInput middle between second IsToo RefusesToo (Ok other) → ((x : Files) → new.files ≡ Some x → IsSome between.files) → BothHold (told_before old new) first second Is value IsToo other
both_hold row first second old middle between new Is Refuses value IsToo RefusesToo other is reads still =
    let has = both_read row first second old middle between Is Refuses value IsToo RefusesToo other is reads in
    record {
      bytes = is.reads.input.0;
      holds = held_before old middle new first is.reads.input.0 is.reads.leaves.nothing.files (λ x e. still_some middle.files between.files reads.leaves.nothing.files (still x e)) is.reads.input.1;
      is = is.reads.input.2;
      text = reads.input.0;
      holds_too = held_before old between new second reads.input.0 has.leaves.nothing.files still reads.input.1;
      is_too = reads.input.2;
    }
  where
    still_some : (a b : Option Files) → Tells a b → IsSome b → IsSome a
    still_some a None tells some = absurd (cc)
    still_some a (Some files) tells some = still_told a (Some files) tells files refl
