-- The sentences on how the program ends follow from `Runs`, once for all commands, by what the command answered.
use Rattle.std.proofs.Common.{◌≡◌, ◌≢◌, ◌↔◌, ◌≤◌, ℕ, List, [], ◌∷◌, ◌++◌, take, length, IsSome, Option, Some, None, Result, Ok, Err, OnErr, OnOk, refl, sym, ap, ◌∙◌, subst, inl, inr, lit≤, arith, append-nil, ◌⊎◌}
use Rattle.poke_base.specs.declared.host.AskedBy.{AskedBy}
use Rattle.poke_base.specs.declared.host.AskedBy.TheVariants.{Read as AskedRead, Make as AskedMake}
use Rattle.poke_base.specs.Host.{Files, Outside, Rose, Tells, Adds, with_file, with_more}
use Rattle.poke_base.specs.Text.{IsPrefix}
use Rattle.poke_base.proofs.Outsides.{Tells-no_more, Tells-same, Tells-trans}
use Rattle.poke_faults.specs.declared.fault.Fault.{Fault}
use Rattle.poke_faults.specs.declared.fault.Fault.TheVariants.{Words, Refused, Read, Write, Memory}
use Rattle.poke_faults.specs.declared.fault.Refusal.{Refusal}
use Rattle.poke_faults.specs.declared.fault.Refusal.TheVariants.{Module, Plan, Script, Journal}
use Rattle.poke_commands.specs.Command as command
use Rattle.poke_commands.specs.Command.{Row, file_words}
use Rattle.poke_faults.specs.Fault.{status_of, complaint_of, refusal_status}
use Rattle.poke_commands.specs.RunCuts.{CutsRun, StopsBetween, StopsEarly}
use Rattle.poke_commands.specs.Runs.{Concludes, Coupled, Cuts, DoesNamed, DoesSaying, Ends, FailsReading, FailsWriting, IsRead, LeavesAll, MadePart, MadeWhole, MakesNothing, MakesPrefix, MayBeCut, RunsRow}
use Rattle.poke_commands.specs.Saying.{IsModuleOf, MakeSays, Saying, Says, refused_status, saying_status, told_before, where_told}
use Rattle.poke_tool.specs.Endings.{AsksInOrder, EndsAloud, EndsMaking, EndsRefused, EndsSaying, Reported}
use Rattle.poke_commands.proofs.Asking.{LeavesAll-trans, MakesNothing-trans, added_later}
use Rattle.poke_commands.proofs.Sayings.{IsLineOf, begins_less, cut_refused, says_alike, says_less, says_plain}

-- what a report leaves, or nothing
record Settles (middle new : Outside) : Type 0 where
  leaves : LeavesAll middle new
  asked : Tells middle.asked new.asked
  read_faults : new.read_faults ≡ middle.read_faults
  write_faults : new.write_faults ≡ middle.write_faults

settles : (middle new : Outside) (result : Result (Unit {0}) Fault) (status : ℕ) → Ends middle new result status → Settles middle new
settles middle new (Ok done) status ends =
    subst (λ (o : Outside). Settles middle o) (sym ends.1)
    (record {
      leaves = record { printed = Tells-same middle.printed; nothing = record { files = Tells-same middle.files; making = refl } };
      asked = Tells-same middle.asked;
      read_faults = refl;
      write_faults = refl;
    })
settles middle new (Err fault) status (is, (sent, reports)) = record {
  leaves = record { printed = reports.printed; nothing = record { files = reports.files; making = reports.making } };
  asked = reports.asked;
  read_faults = reports.read_faults;
  write_faults = reports.write_faults;
}

-- less is told after a report
told_less : (before middle now : Option Files) → Tells middle now → Tells (where_told before middle) (where_told before now)
told_less before middle None tells = record { told = λ x e. absurd (cc) }
told_less before None (Some now) tells = record { told = λ x e. absurd (let none = tells.told now refl in cc) }
told_less before (Some middle) (Some now) tells = record { told = λ x e. e }

-- but where it is told it is the same
told_same : (told less : Option Files) → IsSome less → Tells told less → told ≡ less
told_same told None some tells = absurd (cc)
told_same told (Some files) some tells = tells.told files refl

-- what was made and printed before a report is made and printed after it
whole_settled : (makes : Option (List ℕ × List ℕ)) (old middle new : Outside) → MakesNothing middle new → MadeWhole makes old middle → MadeWhole makes old new
whole_settled None old middle new nothing made = MakesNothing-trans old middle new made nothing
whole_settled (Some file) old middle new nothing made = Tells-trans _ middle.files new.files made nothing.files

part_settled : (makes : Option (List ℕ × List ℕ)) (old middle new : Outside) → MakesNothing middle new → MadePart makes old middle → MadePart makes old new
part_settled None old middle new nothing made = MakesNothing-trans old middle new made nothing
part_settled (Some file) old middle new nothing made = record { part = made.part; prefix = made.prefix; files = files made.files }
  where
    files : Tells old.files middle.files ⊎ Tells (with_file old.files file.0 made.part) middle.files → Tells old.files new.files ⊎ Tells (with_file old.files file.0 made.part) new.files
    files (inl same) = inl (Tells-trans old.files middle.files new.files same nothing.files)
    files (inr made) = inr (Tells-trans _ middle.files new.files made nothing.files)

-- what was cut before a report
run_settled : (name : List ℕ) (s : Saying) (old middle new : Outside) → LeavesAll middle new → CutsRun name s old middle → CutsRun name s old new
run_settled name s old middle new leaves cuts = record {
  m = cuts.m;
  start = cuts.start;
  events = cuts.events;
  tracers = cuts.tracers;
  tally = cuts.tally;
  is_tally = cuts.is_tally;
  text_is = cuts.text_is;
  makes_is = cuts.makes_is;
  stops = later cuts.stops;
}
  where
    files_later : (part : List ℕ) → Tells old.files middle.files ⊎ Tells (with_file old.files name part) middle.files → Tells old.files new.files ⊎ Tells (with_file old.files name part) new.files
    files_later part (inl same) = inl (Tells-trans old.files middle.files new.files same leaves.nothing.files)
    files_later part (inr made) = inr (Tells-trans _ middle.files new.files made leaves.nothing.files)

    later : StopsEarly name old middle ⊎ StopsBetween cuts.m cuts.start cuts.events cuts.tracers name old middle → StopsEarly name old new ⊎ StopsBetween cuts.m cuts.start cuts.events cuts.tracers name old new
    later (inl early) = inl (record {
      part = early.part;
      prefix = early.prefix;
      files = files_later early.part early.files;
      printed = Tells-trans old.printed middle.printed new.printed early.printed leaves.printed;
    })
    later (inr between) = inr (record {
      done = between.done;
      rest = between.rest;
      whole = between.whole;
      filed = between.filed;
      next = between.next;
      text = between.text;
      filed_prefix = between.filed_prefix;
      is_next = between.is_next;
      text_prefix = between.text_prefix;
      in_order = between.in_order;
      files = Tells-trans _ middle.files new.files between.files leaves.nothing.files;
      printed = Tells-trans _ middle.printed new.printed between.printed leaves.printed;
    })

coupled_settled : (row : Row) (s : Saying) (old middle new : Outside) → LeavesAll middle new → Coupled row s old middle → Coupled row s old new
coupled_settled (command.Plan file) s old middle new leaves coupled = tt
coupled_settled (command.Show file) s old middle new leaves coupled = tt
coupled_settled (command.Check file) s old middle new leaves coupled = tt
coupled_settled (command.Make n file) s old middle new leaves coupled = tt
coupled_settled (command.Wants module_file script_file) s old middle new leaves coupled = tt
coupled_settled (command.Run module_file script_file journal_file seed) s old middle new leaves coupled =
    run_settled journal_file s old middle new leaves coupled
coupled_settled (command.Replay module_file script_file journal_file) s old middle new leaves coupled = tt
coupled_settled (command.Bench n seed) s old middle new leaves coupled = tt
coupled_settled (command.Live module_file script_file turns seed) s old middle new leaves coupled = tt

cuts_settled : (row : Row) (s : Saying) (old middle new : Outside) → LeavesAll middle new → Cuts row s old middle → Cuts row s old new
cuts_settled row s old middle new leaves cuts = record {
  part = record {
    printed = record {
      part = cuts.part.printed.part;
      prefix = cuts.part.printed.prefix;
      printed = Tells-trans _ middle.printed new.printed cuts.part.printed.printed leaves.printed;
    };
    made = part_settled s.makes old middle new leaves.nothing cuts.part.made;
  };
  coupled = coupled_settled row s old middle new leaves cuts.coupled;
}

-- a command that was done or refused before a report
concludes_settled : (row : Row) (names : ℕ) (old middle new : Outside) (refused : Option Refusal) → Settles middle new → Concludes row names old middle refused → Concludes row names old new refused
concludes_settled row names old middle new refused h did = record {
  saying = did.saying;
  says = says_less row (told_before old middle) (told_before old new) did.saying (told_less old.files middle.files new.files h.leaves.nothing.files) did.says;
  refused_is = did.refused_is;
  asks = did.asks;
  does = record {
    printed = Tells-trans _ middle.printed new.printed did.does.printed h.leaves.printed;
    made = whole_settled did.saying.makes old middle new h.leaves.nothing did.does.made;
  };
}

-- what a command did before a report it did after it
does_settled : (row : Row) (names : ℕ) (old middle new : Outside) (result : Result (Unit {0}) Fault) → Settles middle new → DoesNamed row names old middle result → DoesNamed row names old new result
does_settled row names old middle new (Ok done) h does = concludes_settled row names old middle new None h does
does_settled row names old middle new (Err (Refused why)) h does = concludes_settled row names old middle new (Some why) h does
does_settled row names old middle new (Err Write) h does = record {
  rose = subst (λ (n : ℕ). Rose old.write_faults n) (sym h.write_faults) does.rose;
  saying = does.saying;
  says = begins_less row (told_before old middle) (told_before old new) does.saying (told_less old.files middle.files new.files h.leaves.nothing.files) does.says;
  begins = does.begins;
  asks = does.asks;
  cuts = cuts_settled row does.saying old middle new h.leaves does.cuts;
}
does_settled row names old middle new (Err Read) h does = record {
  rose = subst (λ (n : ℕ). Rose old.read_faults n) (sym h.read_faults) does.rose;
  leaves = LeavesAll-trans old middle new does.leaves h.leaves;
  is_read = does.is_read;
  not_refused = λ s some says.
      let same : told_before old middle ≡ told_before old new = told_same (told_before old middle) (told_before old new) some (told_less old.files middle.files new.files h.leaves.nothing.files) in
      does.not_refused s (subst (λ (o : Option Files). IsSome o) (sym same) some) (subst (λ (o : Option Files). Says row o s) (sym same) says);
}
does_settled row names old middle new (Err Memory) h does = record { leaves = LeavesAll-trans old middle new does.leaves h.leaves; asks = does.asks }
does_settled row names old middle new (Err Words) h does = does

-- the status by the answer
abbrev answer_status : Result (Unit {0}) Fault → ℕ
answer_status (Ok done) = 0
answer_status (Err fault) = status_of fault

-- what is reported, by the answer
abbrev Reports : Outside → Outside → ℕ → Result (Unit {0}) Fault → Type 0
Reports old new status (Ok done) = Tells old.complained new.complained
Reports old new status (Err fault) = Reported old new status fault

-- what the program has done for a command when it ends
record Ended (row : Row) (old new : Outside) (status : ℕ) : Type 0 where
  result : Result (Unit {0}) Fault
  is : status ≡ answer_status result
  names : ℕ
  asked : Tells (with_more old.asked (take names (file_words row))) new.asked
  all : OnOk result (names ≡ length (file_words row))
  does : DoesNamed row names old new result
  reports : Reports old new status result

-- a text with nothing added is the text
more_none : (told : Option (List ℕ)) → with_more told [] ≡ told
more_none None = refl
more_none (Some text) = ap Some (append-nil text)

-- what is added to what was told between
added_between : {T E : Type 0} (a b c : Option (List ℕ)) (piece : List ℕ) (sent : Result T E) → Tells a b → Adds b c piece sent → Adds a c piece sent
added_between a b c piece (Ok done) ab added = record { whole = added_later a b c piece ab added.whole; part = tt }
added_between a b c piece (Err why) ab added = record {
  whole = tt;
  part = (added.part.0, added.part.1, added_later a b c added.part.0 ab added.part.2);
}

ended : (row : Row) (old new : Outside) (status : ℕ) → RunsRow (Some row) old new status → Ended row old new status
ended row old new status runs =
    let h = settles runs.middle new runs.result status runs.ends in
    record {
      result = runs.result;
      is = is_by runs.result runs.ends;
      names = runs.does.names;
      asked = Tells-trans _ runs.middle.asked new.asked runs.does.asks.asked h.asked;
      all = runs.does.all;
      does = does_settled row runs.does.names old runs.middle new runs.result h runs.does.does;
      reports = reports_by runs.result runs.ends;
    }
  where
    is_by : (result : Result (Unit {0}) Fault) → Ends runs.middle new result status → status ≡ answer_status result
    is_by (Ok done) ends = ends.0
    is_by (Err fault) ends = ends.0

    reports_by : (result : Result (Unit {0}) Fault) → Ends runs.middle new result status → Reports old new status result
    reports_by (Ok done) ends = subst (λ (o : Outside). Tells old.complained o.complained) (sym ends.1) runs.does.asks.complained
    reports_by (Err fault) (is, (sent, reports)) = record {
      status_is = is;
      sent = sent;
      added = added_between old.complained runs.middle.complained new.complained (complaint_of fault) sent runs.does.asks.complained reports.complained;
      lost = subst (λ (n : ℕ). OnErr sent (Rose n new.complain_faults)) runs.does.asks.complain_faults reports.failed;
    }

-- the statuses of refused files stand between those of other ends
refusal_low : (why : Refusal) → 2 ≤ refusal_status why
refusal_low (Module why) = lit≤ tt
refusal_low (Plan why) = lit≤ tt
refusal_low (Script why) = lit≤ tt
refusal_low (Journal why) = lit≤ tt

refusal_high : (why : Refusal) → refusal_status why ≤ 4
refusal_high (Module why) = lit≤ tt
refusal_high (Plan why) = lit≤ tt
refusal_high (Script why) = lit≤ tt
refusal_high (Journal why) = lit≤ tt

-- what a command did, by the status
at_0 : (row : Row) (names : ℕ) (old new : Outside) (result : Result (Unit {0}) Fault) → answer_status result ≡ 0 → DoesNamed row names old new result → Concludes row names old new None
at_0 row names old new (Ok done) is does = does
at_0 row names old new (Err (Refused why)) is does = absurd (let low = refusal_low why in omega arith)
at_0 row names old new result is does = absurd (omega arith)

at_refused : (row : Row) (names : ℕ) (old new : Outside) (status : ℕ) (result : Result (Unit {0}) Fault) → answer_status result ≡ status → 2 ≤ status → status ≤ 4 → DoesNamed row names old new result → Reports old new status result → EndsRefused row old new status
at_refused row names old new status (Err (Refused why)) is low high does reports = record {
  saying = does.saying;
  why = why;
  says = does.says;
  refused = does.refused_is;
  does = does.does;
  reported = reports;
}
at_refused row names old new status (Err Words) is low high does reports = absurd does
at_refused row names old new status result is low high does reports = absurd (omega arith)

at_5 : (row : Row) (names : ℕ) (old new : Outside) (result : Result (Unit {0}) Fault) → answer_status result ≡ 5 → DoesNamed row names old new result → FailsReading row names old new
at_5 row names old new (Err Read) is does = does
at_5 row names old new result is does = absurd (omega (arith, refusal_low, refusal_high))

at_6 : (row : Row) (names : ℕ) (old new : Outside) (result : Result (Unit {0}) Fault) → answer_status result ≡ 6 → DoesNamed row names old new result → FailsWriting row names old new
at_6 row names old new (Err Write) is does = does
at_6 row names old new result is does = absurd (omega (arith, refusal_low, refusal_high))

-- a command has another status than bad words
not_1 : (row : Row) (names : ℕ) (old new : Outside) (result : Result (Unit {0}) Fault) → answer_status result ≡ 1 → DoesNamed row names old new result → ⊥
not_1 row names old new (Err Words) is does = does
not_1 row names old new result is does = omega (arith, refusal_low)

-- status 1 comes exactly for words that are no command
pub bad_words : (row : Option Row) (old new : Outside) (status : ℕ) → RunsRow row old new status → (status ≡ 1) ↔ (row ≡ None)
bad_words None old new status runs = let ends = rw runs.does.1 at runs.ends in (λ one. refl, λ none. ends.0)
bad_words (Some row) old new status runs =
    let e = ended row old new status runs in
    (λ one. absurd (not_1 row e.names old new e.result (sym e.is ∙ one) e.does), λ none. absurd (cc))

-- status 5 comes only where a read failed
pub read_fault : (row : Option Row) (old new : Outside) (status : ℕ) → RunsRow row old new status → status ≡ 5 → Rose old.read_faults new.read_faults
read_fault None old new status runs five =
    let is = (rw runs.does.1 at runs.ends).0 in absurd (omega arith)
read_fault (Some row) old new status runs five =
    let e = ended row old new status runs in
    (at_5 row e.names old new e.result (sym e.is ∙ five) e.does).rose

-- status 6 comes only where a write failed
pub write_fault : (row : Option Row) (old new : Outside) (status : ℕ) → RunsRow row old new status → status ≡ 6 → Rose old.write_faults new.write_faults
write_fault None old new status runs six =
    let is = (rw runs.does.1 at runs.ends).0 in absurd (omega arith)
write_fault (Some row) old new status runs six =
    let e = ended row old new status runs in
    (at_6 row e.names old new e.result (sym e.is ∙ six) e.does).rose

-- to print nothing leaves what was printed
prints_none : (old new : Outside) (text : List ℕ) → text ≡ [] → Tells (with_more old.printed text) new.printed → Tells old.printed new.printed
prints_none old new text none printed =
    subst (λ (o : Option (List ℕ)). Tells o new.printed) (more_none old.printed)
    (subst (λ (t : List ℕ). Tells (with_more old.printed t) new.printed) none printed)

-- to make nothing is to leave the files
unmade : (s : Saying) (old new : Outside) → s.makes ≡ None → DoesSaying s old new → MakesNothing old new
unmade s old new none does = subst (λ (m : Option (List ℕ × List ℕ)). MadeWhole m old new) none does.made

-- to print nothing and to make nothing is to leave all
silent_leaves : (s : Saying) (old new : Outside) → s.text ≡ [] → s.makes ≡ None → DoesSaying s old new → LeavesAll old new
silent_leaves s old new silent none does = record {
  printed = prints_none old new s.text silent does.printed;
  nothing = unmade s old new none does;
}

-- but at the statuses 0, 4 and 6 a command leaves all as it was
command_leaves : (row : Row) (names : ℕ) (old new : Outside) (result : Result (Unit {0}) Fault) → answer_status result ≢ 0 → answer_status result ≢ 4 → answer_status result ≢ 6 → DoesNamed row names old new result → LeavesAll old new
command_leaves row names old new (Ok done) not_0 not_4 not_6 does = absurd (not_0 refl)
command_leaves row names old new (Err Words) not_0 not_4 not_6 does = absurd does
command_leaves row names old new (Err (Refused why)) not_0 not_4 not_6 does =
    let plain = says_plain row (told_before old new) does.saying why does.says does.refused_is in
    by plain.0 plain.1
  where
    by : (does.saying.text ≡ []) ⊎ IsLineOf row why → does.saying.makes ≡ None → LeavesAll old new
    by (inl silent) none = silent_leaves does.saying old new silent none does.does
    by (inr (replay, (line, is))) none = absurd (not_4 (ap refusal_status is))
command_leaves row names old new (Err Read) not_0 not_4 not_6 does = does.leaves
command_leaves row names old new (Err Write) not_0 not_4 not_6 does = absurd (not_6 refl)
command_leaves row names old new (Err Memory) not_0 not_4 not_6 does = does.leaves

-- and but at 0 and 6 it makes no file
command_makes : (row : Row) (names : ℕ) (old new : Outside) (result : Result (Unit {0}) Fault) → answer_status result ≢ 0 → answer_status result ≢ 6 → DoesNamed row names old new result → MakesNothing old new
command_makes row names old new (Ok done) not_0 not_6 does = absurd (not_0 refl)
command_makes row names old new (Err Words) not_0 not_6 does = absurd does
command_makes row names old new (Err (Refused why)) not_0 not_6 does =
    unmade does.saying old new (says_plain row (told_before old new) does.saying why does.says does.refused_is).1 does.does
command_makes row names old new (Err Read) not_0 not_6 does = does.leaves.nothing
command_makes row names old new (Err Write) not_0 not_6 does = absurd (not_6 refl)
command_makes row names old new (Err Memory) not_0 not_6 does = does.leaves.nothing

-- words that are no command leave all
no_row_leaves : (old new : Outside) (status : ℕ) → RunsRow None old new status → LeavesAll old new
no_row_leaves old new status runs =
    let reports = (rw (runs.does.1, runs.does.0) at runs.ends).1.1 in
    record { printed = reports.printed; nothing = record { files = reports.files; making = reports.making } }

-- but at the statuses 0, 4 and 6 all is left as it was
pub leaves_all : (row : Option Row) (old new : Outside) (status : ℕ) → RunsRow row old new status → status ≢ 0 → status ≢ 4 → status ≢ 6 → LeavesAll old new
leaves_all None old new status runs not_0 not_4 not_6 = no_row_leaves old new status runs
leaves_all (Some row) old new status runs not_0 not_4 not_6 =
    let e = ended row old new status runs in
    command_leaves row e.names old new e.result (λ z. not_0 (e.is ∙ z)) (λ z. not_4 (e.is ∙ z)) (λ z. not_6 (e.is ∙ z)) e.does

-- and but at 0 and 6 no file was made
pub makes_nothing : (row : Option Row) (old new : Outside) (status : ℕ) → RunsRow row old new status → status ≢ 0 → status ≢ 6 → MakesNothing old new
makes_nothing None old new status runs not_0 not_6 = (no_row_leaves old new status runs).nothing
makes_nothing (Some row) old new status runs not_0 not_6 =
    let e = ended row old new status runs in
    command_makes row e.names old new e.result (λ z. not_0 (e.is ∙ z)) (λ z. not_6 (e.is ∙ z)) e.does

-- the file words are asked for from left to right, and no other file is
pub asks_in_order : (row : Option Row) (old new : Outside) (status : ℕ) → RunsRow row old new status → AsksInOrder row old new status
asks_in_order None old new status runs =
    let ends = rw (runs.does.1, runs.does.0) at runs.ends in
    let is = ends.0 in
    record {
      names = 0;
      asked = Tells-trans _ old.asked new.asked (Tells-no_more old.asked) ends.1.1.asked;
      all = λ zero_is. absurd (omega arith);
    }
asks_in_order (Some row) old new status runs =
    let e = ended row old new status runs in
    record {
      names = e.names;
      asked = e.asked;
      all = λ zero_is. all_at_0 e.names e.result (sym e.is ∙ zero_is) e.all e.does;
    }
  where
    all_at_0 : (names : ℕ) (result : Result (Unit {0}) Fault) → answer_status result ≡ 0 → OnOk result (names ≡ length (file_words row)) → DoesNamed row names old new result → names ≡ length (file_words row)
    all_at_0 names (Ok done) is all does = all
    all_at_0 names (Err (Refused why)) is all does = absurd (let low = refusal_low why in omega arith)
    all_at_0 names result is all does = absurd (omega arith)

-- every fault is reported, and nothing where the command is done
pub ends_aloud : (row : Option Row) (old new : Outside) (status : ℕ) → RunsRow row old new status → EndsAloud old new status
ends_aloud None old new status runs =
    let ends = rw (runs.does.1, runs.does.0) at runs.ends in
    let reports = ends.1.1 in
    inr (Words, record { status_is = ends.0; sent = ends.1.0; added = reports.complained; lost = reports.failed })
ends_aloud (Some row) old new status runs =
    let e = ended row old new status runs in
    aloud e.result e.is e.reports
  where
    aloud : (result : Result (Unit {0}) Fault) → status ≡ answer_status result → Reports old new status result → EndsAloud old new status
    aloud (Ok done) is reports = inl (is, reports)
    aloud (Err fault) is reports = inr (fault, reports)

-- what is to be refused is refused
refuses_said : (row : Row) (names : ℕ) (old new : Outside) (s : Saying) (why : Refusal) (result : Result (Unit {0}) Fault) → IsSome (told_before old new) → Says row (told_before old new) s → s.refused ≡ Some why → DoesNamed row names old new result → (answer_status result ≡ refusal_status why) ⊎ (answer_status result ≡ 5) ⊎ (answer_status result ≡ 7) ⊎ ((answer_status result ≡ 6) × MayBeCut s why)
refuses_said row names old new s why (Ok done) some says refused does =
    let same = says_alike row (told_before old new) does.saying s some does.says says in
    absurd (let low = refusal_low why in let done_is = ap refused_status does.refused_is in let why_is = ap refused_status refused in omega arith)
refuses_said row names old new s why (Err Words) some says refused does = absurd does
refuses_said row names old new s why (Err (Refused other)) some says refused does =
    inl (sym (ap refused_status does.refused_is) ∙ says_alike row (told_before old new) does.saying s some does.says says ∙ ap refused_status refused)
refuses_said row names old new s why (Err Read) some says refused does = inr (inl refl)
refuses_said row names old new s why (Err Write) some says refused does =
    inr (inr (inr (refl, cut_refused row (told_before old new) s does.saying why some does.says does.begins says refused)))
refuses_said row names old new s why (Err Memory) some says refused does = inr (inr (inl refl))

-- where nothing fails, the status is what the files say
complete_said : (row : Row) (names : ℕ) (old new : Outside) (s : Saying) (result : Result (Unit {0}) Fault) → IsSome (told_before old new) → Says row (told_before old new) s → ¬ Rose old.read_faults new.read_faults → ¬ Rose old.write_faults new.write_faults → DoesNamed row names old new result → (answer_status result ≡ saying_status s) ⊎ (answer_status result ≡ 7)
complete_said row names old new s (Ok done) some says no_read no_write does =
    inl (sym (ap refused_status does.refused_is) ∙ says_alike row (told_before old new) does.saying s some does.says says)
complete_said row names old new s (Err Words) some says no_read no_write does = absurd does
complete_said row names old new s (Err (Refused why)) some says no_read no_write does =
    inl (sym (ap refused_status does.refused_is) ∙ says_alike row (told_before old new) does.saying s some does.says says)
complete_said row names old new s (Err Read) some says no_read no_write does = absurd (no_read does.rose)
complete_said row names old new s (Err Write) some says no_read no_write does = absurd (no_write does.rose)
complete_said row names old new s (Err Memory) some says no_read no_write does = inr refl

-- and 0 where they refuse nothing
accepts_said : (row : Row) (names : ℕ) (old new : Outside) (result : Result (Unit {0}) Fault) → ((s : Saying) → Says row (told_before old new) s → s.refused ≡ None) → ¬ Rose old.read_faults new.read_faults → ¬ Rose old.write_faults new.write_faults → DoesNamed row names old new result → (answer_status result ≡ 0) ⊎ (answer_status result ≡ 7)
accepts_said row names old new (Ok done) none no_read no_write does = inl refl
accepts_said row names old new (Err Words) none no_read no_write does = absurd does
accepts_said row names old new (Err (Refused why)) none no_read no_write does =
    let some = does.refused_is in
    let not = none does.saying does.says in
    absurd (cc)
accepts_said row names old new (Err Read) none no_read no_write does = absurd (no_read does.rose)
accepts_said row names old new (Err Write) none no_read no_write does = absurd (no_write does.rose)
accepts_said row names old new (Err Memory) none no_read no_write does = inr refl

-- the statuses of a command
pub ends_saying : (row : Row) (old new : Outside) (status : ℕ) → RunsRow (Some row) old new status → EndsSaying row old new status
ends_saying row old new status runs =
    let e = ended row old new status runs in
    record {
      done = λ zero_is. let did = at_0 row e.names old new e.result (sym e.is ∙ zero_is) e.does in (did.saying, did.says, did.refused_is, did.does);
      refused = λ which.
          let range = in_range which in
          at_refused row e.names old new status e.result (sym e.is) range.0 range.1 e.does e.reports;
      cut = λ six. let did = at_6 row e.names old new e.result (sym e.is ∙ six) e.does in (did.saying, did.says, did.cuts);
      refuses = λ s why some says refused.
          subst (λ (n : ℕ). (n ≡ refusal_status why) ⊎ (n ≡ 5) ⊎ (n ≡ 7) ⊎ ((n ≡ 6) × MayBeCut s why)) (sym e.is) (refuses_said row e.names old new s why e.result some says refused e.does);
      complete = λ s some says no_read no_write.
          subst (λ (n : ℕ). (n ≡ saying_status s) ⊎ (n ≡ 7)) (sym e.is) (complete_said row e.names old new s e.result some says no_read no_write e.does);
      accepts = λ some none no_read no_write.
          subst (λ (n : ℕ). (n ≡ 0) ⊎ (n ≡ 7)) (sym e.is) (accepts_said row e.names old new e.result none no_read no_write e.does);
    }
  where
    in_range : (status ≡ 2) ⊎ (status ≡ 3) ⊎ (status ≡ 4) → (2 ≤ status) × (status ≤ 4)
    in_range (inl two) = (omega arith, omega arith)
    in_range (inr (inl three)) = (omega arith, omega arith)
    in_range (inr (inr four)) = (omega arith, omega arith)

-- the call that the first of these names is handed to
abbrev first_by : List (List ℕ × AskedBy) → AskedBy
first_by [] = AskedMake
first_by ((name, by) ∷ rest) = by

-- `make` reads no file
make_reads_none : (n : ℕ) (name : List ℕ) (names : ℕ) → IsRead (file_words (command.Make n name)) names → ⊥
make_reads_none n name names is = other is.before is.words_are
  where
    other : (before : List (List ℕ × AskedBy)) → (name, AskedMake) ∷ [] ≡ before ++ (is.name, AskedRead) ∷ is.after → ⊥
    other [] same = let by : ◌≡◌ {A = AskedBy} AskedMake AskedRead = ap first_by same in cc
    other (word ∷ []) same = cc
    other (word ∷ more ∷ before) same = cc

-- what `make` says
made_of : (n : ℕ) (name : List ℕ) (old new : Outside) (s : Saying) → MakeSays n name s → MadeWhole s.makes old new → (bytes : List ℕ) × IsModuleOf n bytes × Tells (with_file old.files name bytes) new.files
made_of n name old new s (bytes, is_module, is) made =
    (bytes, is_module, subst (λ (x : Saying). MadeWhole x.makes old new) is made)

part_of : (n : ℕ) (name : List ℕ) (old new : Outside) (s : Saying) → MakeSays n name s → MadePart s.makes old new → (bytes : List ℕ) × IsModuleOf n bytes × MakesPrefix old new name bytes
part_of n name old new s (bytes, is_module, is) made =
    (bytes, is_module, subst (λ (x : Saying). MadePart x.makes old new) is made)

-- what a prefix of nothing leaves
part_none : (old new : Outside) (text part : List ℕ) → text ≡ [] → IsPrefix part text → Tells (with_more old.printed part) new.printed → Tells old.printed new.printed
part_none old new text [] none prefix printed = prints_none old new [] refl printed
part_none old new text (byte ∷ part) none prefix printed =
    absurd (let whole = subst (λ (t : List ℕ). IsPrefix (byte ∷ part) t) none prefix in cc)

-- the statuses of `make`, by what it answered
make_ends : (n : ℕ) (name : List ℕ) (names : ℕ) (old new : Outside) (result : Result (Unit {0}) Fault) (status : ℕ) → status ≡ answer_status result → DoesNamed (command.Make n name) names old new result → EndsMaking n name old new status
make_ends n name names old new (Ok done) status is does = record {
  done = λ zero_is. made_of n name old new does.saying does.says does.does.made;
  cut = λ six. absurd (omega arith);
  memory = λ seven. absurd (omega arith);
  only = inl is;
  prints_nothing = prints_none old new does.saying.text (ap (λ (x : Saying). x.text) does.says.2) does.does.printed;
}
make_ends n name names old new (Err Words) status is does = absurd does
make_ends n name names old new (Err (Refused why)) status is does =
    let some = does.refused_is in
    let none = ap (λ (x : Saying). x.refused) does.says.2 in
    absurd (cc)
make_ends n name names old new (Err Read) status is does = absurd (make_reads_none n name names does.is_read)
make_ends n name names old new (Err Write) status is does = record {
  done = λ zero_is. absurd (omega arith);
  cut = λ six. part_of n name old new does.saying does.says does.cuts.part.made;
  memory = λ seven. absurd (omega arith);
  only = inr (inl is);
  prints_nothing = part_none old new does.saying.text does.cuts.part.printed.part (ap (λ (x : Saying). x.text) does.says.2) does.cuts.part.printed.prefix does.cuts.part.printed.printed;
}
make_ends n name names old new (Err Memory) status is does = record {
  done = λ zero_is. absurd (omega arith);
  cut = λ six. absurd (omega arith);
  memory = λ seven. does.leaves.nothing;
  only = inr (inr is);
  prints_nothing = does.leaves.printed;
}

-- the statuses of `make`
pub ends_making : (n : ℕ) (name : List ℕ) (old new : Outside) (status : ℕ) → RunsRow (Some (command.Make n name)) old new status → EndsMaking n name old new status
ends_making n name old new status runs =
    let e = ended (command.Make n name) old new status runs in
    make_ends n name e.names old new e.result status e.is e.does
