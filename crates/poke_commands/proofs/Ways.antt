-- The ways through a command, of any row: a prefix of its file words was read, and then it is refused, prints what its
-- files say, or makes the file that they say.
use Rattle.std.proofs.Common.{◌≡◌, ◌≤◌, ◌⊎◌, ℕ, List, [], ◌∷◌, ◌++◌, length, take, IsSome, Result, Ok, Err, IsErrAnd, refl, sym, ap, ◌∙◌, subst, inl, inr, lit≤, arith}
use Rattle.std.proofs.lemmas.Result.{err_from_is_err_and}
use Rattle.poke_base.specs.declared.host.AskedBy.{AskedBy}
use Rattle.poke_base.specs.declared.host.AskedBy.TheVariants.{Read as AskedRead, Make as AskedMake}
use Rattle.poke_base.specs.declared.host.WriteFail.{WriteFail}
use Rattle.poke_base.specs.Host.{Outside, Tells, Prints, MakesFile, Appends, Rose, with_file}
use Rattle.poke_base.proofs.Outsides.{Rose-later, Tells-no_more, Tells-same, Tells-trans}
use Rattle.poke_faults.specs.declared.fault.Fault.{Fault}
use Rattle.poke_faults.specs.declared.fault.Fault.TheVariants.{Words, Refused, Read, Write, Memory}
use Rattle.poke_faults.specs.declared.fault.Refusal.{Refusal}
use Rattle.poke_faults.specs.declared.fault.Refusal.TheVariants.{Module as ModuleRefusal, Script as ScriptRefusal}
use Rattle.module_image.specs.Module.{Module}
use Rattle.poke_commands.specs.Check.{RefusesAsModule}
use Rattle.poke_commands.specs.Command.{Row, file_words}
use Rattle.poke_commands.specs.Runs.{AsksFirst, Asks, Coupled, Does, IsRead, MakesPrefix, ReadsInput, ReadsNone}
use Rattle.poke_commands.specs.Script.{RefusesAsScript}
use Rattle.script_text.specs.Script.{ScriptValue}
use Rattle.poke_commands.specs.Saying.{Begins, Holds, ModuleSays, Saying, ScriptSays, Says, says_file, says_text, refuses, told_before}
use Rattle.poke_commands.proofs.Asking.{Asks-appends, Asks-makes, Asks-more, Asks-prints, Asks-same, HasRead, MakesNothing-trans, added_later, has_read-more, has_read-none, held_before, made_later, made_with, still_told}
use Rattle.poke_commands.proofs.Sayings.{asks_first}

-- what a command answers after a write
abbrev pub after_write : Result (Unit {0}) WriteFail → Result (Unit {0}) Fault
after_write (Ok done) = Ok tt
after_write (Err why) = Err Write

-- a row of which a failed write leaves a part, and no more is said of it
pub record IsPlainRow (row : Row) (old new : Outside) : Type 0 where
  pub begins : (s : Saying) → Says row (told_before old new) s → Begins row (told_before old new) s
  pub coupled : (s : Saying) → Coupled row s old new

-- it is refused for what it has read
pub refuses_here : (row : Row) (names : ℕ) (old new : Outside) (why : Refusal) → HasRead row names old new → Says row (told_before old new) (refuses names why) → Does row old new (Err (Refused why))
refuses_here row names old new why has says = record {
  names = names;
  asks = has.asks;
  all = tt;
  reads = has.reads;
  does = record {
    saying = refuses names why;
    says = says;
    refused_is = refl;
    asks = refl;
    does = record {
      printed = Tells-trans _ old.printed new.printed (Tells-no_more old.printed) has.leaves.printed;
      made = has.leaves.nothing;
    };
  };
}

-- there was no memory for more
pub lacks_memory : (row : Row) (names : ℕ) (old new : Outside) → HasRead row names old new → AsksFirst (file_words row) names → Does row old new (Err Memory)
lacks_memory row names old new has asks = record {
  names = names;
  asks = has.asks;
  all = tt;
  reads = has.reads;
  does = record { leaves = has.leaves; asks = asks };
}

-- the next of its files wasn't read, or is refused as what it is read as
pub input_fails : {T : Type 0} (row : Row) (names next : ℕ) (name : List ℕ) (old middle new : Outside) (Is : List ℕ → T → Type 0) (Refuses : List ℕ → Refusal → Type 0) (fault : Fault) → take next (file_words row) ≡ take names (file_words row) ++ (name, AskedRead) ∷ [] → IsRead (file_words row) next → AsksFirst (file_words row) next → HasRead row names old middle → ReadsInput {T = T} middle new name Is Refuses (Err fault) → ((bytes : List ℕ) (why : Refusal) → Holds (told_before old new) name bytes → Refuses bytes why → Says row (told_before old new) (refuses next why)) → ((s : Saying) → IsSome (told_before old new) → Says row (told_before old new) s → next ≤ s.asks) → Does row old new (Err fault)
input_fails {T = T} row names next name old middle new Is Refuses (Refused why) taken is_read asks_first has reads says asks =
    let now : HasRead row next old new = has_read-more row names next name old middle new Is Refuses (Err (Refused why)) taken is_read has reads in
    refuses_here row next old new why now
    (says reads.input.0 why (held_before old new new name reads.input.0 now.leaves.nothing.files (still_told new.files new.files (Tells-same new.files)) reads.input.1) reads.input.2)
input_fails row names next name old middle new Is Refuses Read taken is_read asks_first has reads says asks =
    let now : HasRead row next old new = has_read-more row names next name old middle new Is Refuses (Err Read) taken is_read has reads in
    record {
      names = next;
      asks = now.asks;
      all = tt;
      reads = now.reads;
      does = record {
        rose = Rose-later old.read_faults middle.read_faults new.read_faults has.asks.read_faults reads.input;
        leaves = now.leaves;
        is_read = is_read;
        not_refused = asks;
      };
    }
input_fails row names next name old middle new Is Refuses Memory taken is_read asks_first has reads says asks =
    lacks_memory row next old new (has_read-more row names next name old middle new Is Refuses (Err Memory) taken is_read has reads) asks_first
input_fails row names next name old middle new Is Refuses Words taken is_read asks_first has reads says asks = absurd reads.input
input_fails row names next name old middle new Is Refuses Write taken is_read asks_first has reads says asks = absurd reads.input

-- what its files say was printed, or a prefix of it
pub prints_said : (row : Row) (names : ℕ) (old middle new : Outside) (text : List ℕ) (result : Result (Unit {0}) WriteFail) → names ≡ length (file_words row) → HasRead row names old middle → Prints middle new text result → Says row (told_before old new) (says_text names text) → IsPlainRow row old new → Does row old new (after_write result)
prints_said row names old middle new text (Ok done) all has prints says plain = record {
  names = names;
  asks = Asks-same _ old middle new has.asks (Asks-prints middle new text (Ok done) prints);
  all = all;
  reads = λ none. prints.read_faults ∙ has.reads none;
  does = record {
    saying = says_text names text;
    says = says;
    refused_is = refl;
    asks = refl;
    does = record {
      printed = added_later old.printed middle.printed new.printed text has.leaves.printed prints.printed.whole;
      made = MakesNothing-trans old middle new has.leaves.nothing (record { files = prints.files; making = prints.making });
    };
  };
}
prints_said row names old middle new text (Err why) all has prints says plain = record {
  names = names;
  asks = Asks-same _ old middle new has.asks (Asks-prints middle new text (Err why) prints);
  all = tt;
  reads = λ none. prints.read_faults ∙ has.reads none;
  does = record {
    rose = Rose-later old.write_faults middle.write_faults new.write_faults has.asks.write_faults prints.failed;
    saying = says_text names text;
    says = plain.begins (says_text names text) says;
    begins = λ some. absurd (cc);
    asks = refl;
    cuts = record {
      part = record {
        printed = record {
          part = prints.printed.part.0;
          prefix = prints.printed.part.1;
          printed = added_later old.printed middle.printed new.printed prints.printed.part.0 has.leaves.printed prints.printed.part.2;
        };
        made = MakesNothing-trans old middle new has.leaves.nothing (record { files = prints.files; making = prints.making });
      };
      coupled = plain.coupled (says_text names text);
    };
  };
}

-- a write of the file that its files say failed: it is as before, or a prefix of it was written
makes_part : (row : Row) (names next : ℕ) (old new : Outside) (name bytes : List ℕ) → Asks (take next (file_words row)) old new → (ReadsNone (file_words row) → new.read_faults ≡ old.read_faults) → Tells old.printed new.printed → MakesPrefix old new name bytes → Rose old.write_faults new.write_faults → Says row (told_before old new) (says_file next name bytes) → IsPlainRow row old new → Does row old new (Err Write)
makes_part row names next old new name bytes asks reads printed makes rose says plain = record {
  names = next;
  asks = asks;
  all = tt;
  reads = reads;
  does = record {
    rose = rose;
    saying = says_file next name bytes;
    says = plain.begins (says_file next name bytes) says;
    begins = λ some. absurd (cc);
    asks = refl;
    cuts = record {
      part = record {
        printed = record { part = []; prefix = refl; printed = Tells-trans _ old.printed new.printed (Tells-no_more old.printed) printed };
        made = makes;
      };
      coupled = plain.coupled (says_file next name bytes);
    };
  };
}

-- the names that were asked for where the next one's file was made
made_asks : (row : Row) (names next : ℕ) (old middle made : Outside) (name : List ℕ) (result : Result (Unit {0}) WriteFail) → take next (file_words row) ≡ take names (file_words row) ++ (name, AskedMake) ∷ [] → HasRead row names old middle → MakesFile middle made name result → Asks (take next (file_words row)) old made
made_asks row names next old middle made name result taken has makes =
    subst (λ (words : List (List ℕ × AskedBy)). Asks words old made) (sym taken)
    (Asks-more (take names (file_words row)) ((name, AskedMake) ∷ []) old middle made has.asks (Asks-makes middle made name result makes))

-- the file that its files say wasn't made
pub makes_nothing : (row : Row) (names next : ℕ) (old middle new : Outside) (name bytes : List ℕ) (why : WriteFail) → take next (file_words row) ≡ take names (file_words row) ++ (name, AskedMake) ∷ [] → HasRead row names old middle → MakesFile {T = Unit {0}} {E = WriteFail} middle new name (Err why) → Says row (told_before old new) (says_file next name bytes) → IsPlainRow row old new → Does row old new (Err Write)
makes_nothing row names next old middle new name bytes why taken has makes says plain =
    makes_part row names next old new name bytes (made_asks row names next old middle new name (Err why) taken has makes) (λ none. makes.read_faults ∙ has.reads none)
    (Tells-trans old.printed middle.printed new.printed has.leaves.printed makes.printed)
    (record { part = []; prefix = refl; files = left makes.not_made })
    (Rose-later old.write_faults middle.write_faults new.write_faults has.asks.write_faults makes.failed) says plain
  where
    left : Tells middle.files new.files ⊎ Tells (with_file middle.files name []) new.files → Tells old.files new.files ⊎ Tells (with_file old.files name []) new.files
    left (inl same) = inl (Tells-trans old.files middle.files new.files has.leaves.nothing.files same)
    left (inr made) = inr (made_later old.files middle.files new.files name [] has.leaves.nothing.files made)

-- it was made and written, or a prefix of it was written
pub makes_said : (row : Row) (names next : ℕ) (old middle made new : Outside) (name bytes : List ℕ) (result : Result (Unit {0}) WriteFail) → take next (file_words row) ≡ take names (file_words row) ++ (name, AskedMake) ∷ [] → next ≡ length (file_words row) → HasRead row names old middle → MakesFile {T = Unit {0}} {E = WriteFail} middle made name (Ok tt) → Appends made new bytes result → Says row (told_before old new) (says_file next name bytes) → IsPlainRow row old new → Does row old new (after_write result)
makes_said row names next old middle made new name bytes (Ok done) taken all has makes appends says plain = record {
  names = next;
  asks = Asks-same _ old made new (made_asks row names next old middle made name (Ok tt) taken has makes) (Asks-appends made new bytes (Ok done) appends);
  all = all;
  reads = λ none. appends.read_faults ∙ makes.read_faults ∙ has.reads none;
  does = record {
    saying = says_file next name bytes;
    says = says;
    refused_is = refl;
    asks = refl;
    does = record {
      printed =
          Tells-trans _ made.printed new.printed
          (Tells-trans _ middle.printed made.printed (Tells-trans _ old.printed middle.printed (Tells-no_more old.printed) has.leaves.printed) makes.printed)
          appends.printed;
      made = made_with old.files made new name bytes makes.making (made_later old.files middle.files made.files name [] has.leaves.nothing.files makes.made) appends.whole;
    };
  };
}
makes_said row names next old middle made new name bytes (Err why) taken all has makes appends says plain =
    makes_part row names next old new name bytes
    (Asks-same _ old made new (made_asks row names next old middle made name (Ok tt) taken has makes) (Asks-appends made new bytes (Err why) appends))
    (λ none. appends.read_faults ∙ makes.read_faults ∙ has.reads none)
    (Tells-trans old.printed made.printed new.printed (Tells-trans old.printed middle.printed made.printed has.leaves.printed makes.printed) appends.printed)
    (record {
      part = appends.part.0;
      prefix = appends.part.1;
      files = inr (made_with old.files made new name appends.part.0 makes.making (made_later old.files middle.files made.files name [] has.leaves.nothing.files makes.made) appends.part.2);
    })
    (Rose-later old.write_faults made.write_faults new.write_faults (let before = has.asks.write_faults in let after = makes.write_faults in omega arith) appends.failed)
    says plain

-- a fault that is handed on
pub fault_as : (P : Result (Unit {0}) Fault → Type 0) (fault : Fault) (result : Result (Unit {0}) Fault) → IsErrAnd result (λ e. e ≡ fault) → P (Err fault) → P result
fault_as P fault result is holds =
    let p = err_from_is_err_and result is in
    subst P (sym p.1) (subst (λ (f : Fault). P (Err f)) (sym p.2) holds)

-- the exit of a `?` whose error becomes the fault
pub at_exit : (row : Row) (old new : Outside) (fault : Fault) (result : Result (Unit {0}) Fault) → IsErrAnd result (λ e. e ≡ fault) → Does row old new (Err fault) → Does row old new result
at_exit row old new fault result is does = fault_as (Does row old new) fault result is does

-- a row has one file, which is read
abbrev pub ReadsOnly : Row → List ℕ → Type 0
ReadsOnly row name = file_words row ≡ (name, AskedRead) ∷ []

-- so its first name is that of a file that is read
is_only : (row : Row) (name : List ℕ) → ReadsOnly row name → IsRead (file_words row) 1
is_only row name only = record { before = []; name = name; after = []; words_are = only; is_last = refl }

-- its one file was read
one_read : {T : Type 0} (row : Row) (name : List ℕ) (old new : Outside) (Is : List ℕ → T → Type 0) (Refuses : List ℕ → Refusal → Type 0) (result : Result T Fault) → ReadsOnly row name → ReadsInput old new name Is Refuses result → HasRead row 1 old new
one_read row name old new Is Refuses result only reads =
    has_read-more row 0 1 name old old new Is Refuses result (ap (λ (words : List (List ℕ × AskedBy)). take 1 words) only) (is_only row name only) (has_read-none row old) reads

sized_one : (row : Row) (name : List ℕ) → ReadsOnly row name → 1 ≤ length (file_words row)
sized_one row name only = subst (λ (words : List (List ℕ × AskedBy)). 1 ≤ length words) (sym only) (lit≤ tt)

-- or it failed
pub one_fails : {T : Type 0} (row : Row) (name : List ℕ) (old new : Outside) (Is : List ℕ → T → Type 0) (Refuses : List ℕ → Refusal → Type 0) (fault : Fault) → ReadsOnly row name → ReadsInput {T = T} old new name Is Refuses (Err fault) → ((bytes : List ℕ) (why : Refusal) → Holds (told_before old new) name bytes → Refuses bytes why → Says row (told_before old new) (refuses 1 why)) → Does row old new (Err fault)
one_fails row name old new Is Refuses fault only reads says =
    input_fails row 0 1 name old old new Is Refuses fault (ap (λ (words : List (List ℕ × AskedBy)). take 1 words) only) (is_only row name only)
    (subst (λ (words : List (List ℕ × AskedBy)). AsksFirst words 1) (sym only) (lit≤ tt))
    (has_read-none row old) reads says (λ s some said. asks_first row (told_before old new) s (sized_one row name only) said)

-- what it is read as is refused
pub one_refused : {T : Type 0} (row : Row) (name : List ℕ) (old new : Outside) (Is : List ℕ → T → Type 0) (Refuses : List ℕ → Refusal → Type 0) (value : T) (why : Refusal) → ReadsOnly row name → ReadsInput old new name Is Refuses (Ok value) → ((bytes : List ℕ) → Holds (told_before old new) name bytes → Is bytes value → Says row (told_before old new) (refuses 1 why)) → Does row old new (Err (Refused why))
one_refused row name old new Is Refuses value why only reads says =
    refuses_here row 1 old new why (one_read row name old new Is Refuses (Ok value) only reads)
    (says reads.input.0 (held_before old new new name reads.input.0 reads.leaves.nothing.files (still_told new.files new.files (Tells-same new.files)) reads.input.1) reads.input.2)

-- there was no memory after it was read
pub one_lacks : {T : Type 0} (row : Row) (name : List ℕ) (old new : Outside) (Is : List ℕ → T → Type 0) (Refuses : List ℕ → Refusal → Type 0) (value : T) → ReadsOnly row name → ReadsInput old new name Is Refuses (Ok value) → Does row old new (Err Memory)
one_lacks row name old new Is Refuses value only reads =
    lacks_memory row 1 old new (one_read row name old new Is Refuses (Ok value) only reads)
    (subst (λ (words : List (List ℕ × AskedBy)). AsksFirst words 1) (sym only) (lit≤ tt))

-- what it says was printed, or a prefix of that
pub one_prints : {T : Type 0} (row : Row) (name : List ℕ) (old middle new : Outside) (Is : List ℕ → T → Type 0) (Refuses : List ℕ → Refusal → Type 0) (value : T) (text : List ℕ) (result : Result (Unit {0}) WriteFail) → ReadsOnly row name → ReadsInput old middle name Is Refuses (Ok value) → Prints middle new text result → ((bytes : List ℕ) → Holds (told_before old new) name bytes → Is bytes value → Says row (told_before old new) (says_text 1 text)) → IsPlainRow row old new → Does row old new (after_write result)
one_prints row name old middle new Is Refuses value text result only reads prints says plain =
    prints_said row 1 old middle new text result (sym (ap (λ (words : List (List ℕ × AskedBy)). length words) only))
    (one_read row name old middle Is Refuses (Ok value) only reads)
    prints
    (says reads.input.0 (held_before old middle new name reads.input.0 reads.leaves.nothing.files (still_told middle.files new.files prints.files) reads.input.1) reads.input.2)
    plain

-- what is refused as a module is said to be
pub module_refused : (P : Module → Saying → Type 0) (bytes : List ℕ) (why : Refusal) → RefusesAsModule bytes why → ModuleSays P bytes (refuses 1 why)
module_refused P bytes (ModuleRefusal why) refused = inl (why, refused, refl)
module_refused P bytes why refused = absurd refused

-- what is refused as a script of an accepted module is said to be
pub script_refused : (P : Module → ScriptValue → Saying → Type 0) (m : Module) (bytes : List ℕ) (why : Refusal) → RefusesAsScript m bytes why → ScriptSays P m bytes (refuses 2 why)
script_refused P m bytes (ScriptRefusal why) refused = inl (why, refused, refl)
script_refused P m bytes why refused = absurd refused
