-- What calls of a host that come after one another add to the file that is being made and print.
use Rattle.std.proofs.Common.{◌∙◌, refl, ap, ℕ, List, [], ◌++◌, Option, Some, Ok, Err, arith, append-nil}
use Rattle.poke_base.specs.Text.{IsPrefix}
use Rattle.poke_base.specs.Host.{Outside, Rose, Tells, with_more, with_appended, Prints, Appends}
use Rattle.poke_base.proofs.Outsides.{Tells-same, Tells-trans, Tells-more, Tells-no_more, Tells-appended, Tells-none_appended}
use Rattle.recorded_run.specs.Puts.{Puts}

-- nothing was done
pub puts_none : (o : Outside) → Puts o o [] []
puts_none o = record {
  files = Tells-none_appended o;
  making = refl;
  printed = Tells-no_more o.printed;
  complained = Tells-same o.complained;
  asked = Tells-same o.asked;
  read_faults = refl;
  complain_faults = refl;
  write_faults = omega arith;
}

-- pieces were appended and printed, and then further ones
pub puts_more : (old middle new : Outside) (p s q t : List ℕ) → Puts old middle p s → Puts middle new q t → Puts old new (p ++ q) (s ++ t)
puts_more old middle new p s q t h k = record {
  files = Tells-appended old middle new p q h.making h.files k.files;
  making = k.making ∙ h.making;
  printed = Tells-more old.printed middle.printed new.printed s t h.printed k.printed;
  complained = Tells-trans old.complained middle.complained new.complained h.complained k.complained;
  asked = Tells-trans old.asked middle.asked new.asked h.asked k.asked;
  read_faults = k.read_faults ∙ h.read_faults;
  complain_faults = k.complain_faults ∙ h.complain_faults;
  write_faults = omega (arith, h.write_faults, k.write_faults);
}

-- what is told of a text to which nothing is added
told_no_more : {A : Type 0} (old new : Option (List A)) → Tells old new → Tells (with_more old []) new
told_no_more old new h =
    record { told = λ x e. ap (λ text. with_more text []) (h.told x e) ∙ ap Some (append-nil x) }

-- and of files to which nothing is added
told_none_appended : (old new : Outside) → Tells old.files new.files → Tells (with_appended old []) new.files
told_none_appended old new h =
    record { told = λ x e. ap (λ files. with_appended (record old { files = files }) []) (h.told x e) }

-- a piece was appended
pub puts_appended : {T E : Type 0} (old new : Outside) (piece : List ℕ) (done : T) → Appends {T = T} {E = E} old new piece (Ok done) → Puts old new piece []
puts_appended old new piece done h = record {
  files = h.whole;
  making = h.making;
  printed = told_no_more old.printed new.printed h.printed;
  complained = h.complained;
  asked = h.asked;
  read_faults = h.read_faults;
  complain_faults = h.complain_faults;
  write_faults = h.write_faults;
}

-- a piece was printed
pub puts_printed : {T E : Type 0} (old new : Outside) (piece : List ℕ) (done : T) → Prints {T = T} {E = E} old new piece (Ok done) → Puts old new [] piece
puts_printed old new piece done h = record {
  files = told_none_appended old new h.files;
  making = h.making;
  printed = h.printed.whole;
  complained = h.complained;
  asked = h.asked;
  read_faults = h.read_faults;
  complain_faults = h.complain_faults;
  write_faults = h.write_faults;
}

-- a piece wasn't appended whole: a prefix of it was
pub record AppendsPart (old new : Outside) (piece : List ℕ) : Type 0 where
  pub done : List ℕ
  pub prefix : IsPrefix done piece
  pub puts : Puts old new done []
  pub failed : Rose old.write_faults new.write_faults

pub appends_part : {T E : Type 0} (old new : Outside) (piece : List ℕ) (why : E) → Appends {T = T} {E = E} old new piece (Err why) → AppendsPart old new piece
appends_part old new piece why h = record {
  done = h.part.0;
  prefix = h.part.1;
  puts = record {
    files = h.part.2;
    making = h.making;
    printed = told_no_more old.printed new.printed h.printed;
    complained = h.complained;
    asked = h.asked;
    read_faults = h.read_faults;
    complain_faults = h.complain_faults;
    write_faults = h.write_faults;
  };
  failed = h.failed;
}

-- a piece wasn't printed whole: a prefix of it was
pub record PrintsPart (old new : Outside) (piece : List ℕ) : Type 0 where
  pub done : List ℕ
  pub prefix : IsPrefix done piece
  pub puts : Puts old new [] done
  pub failed : Rose old.write_faults new.write_faults

pub prints_part : {T E : Type 0} (old new : Outside) (piece : List ℕ) (why : E) → Prints {T = T} {E = E} old new piece (Err why) → PrintsPart old new piece
prints_part old new piece why h = record {
  done = h.printed.part.0;
  prefix = h.printed.part.1;
  puts = record {
    files = told_none_appended old new h.files;
    making = h.making;
    printed = h.printed.part.2;
    complained = h.complained;
    asked = h.asked;
    read_faults = h.read_faults;
    complain_faults = h.complain_faults;
    write_faults = h.write_faults;
  };
  failed = h.failed;
}
