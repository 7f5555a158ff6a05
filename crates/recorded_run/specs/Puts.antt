-- What a run does to the outside.
use Rattle.std.specs.Prelude.{◌≡◌, ◌≤◌, ℕ, List}
use Rattle.poke_base.specs.Host.{Outside, Tells, with_appended, with_more}

-- so much was appended to the file that is being made, and so much was printed
pub record Puts (old new : Outside) (filed text : List ℕ) : Type 0 where
  pub files : Tells (with_appended old filed) new.files
  pub making : new.making ≡ old.making
  pub printed : Tells (with_more old.printed text) new.printed
  pub complained : Tells old.complained new.complained
  pub asked : Tells old.asked new.asked
  pub read_faults : new.read_faults ≡ old.read_faults
  pub complain_faults : new.complain_faults ≡ old.complain_faults
  pub write_faults : old.write_faults ≤ new.write_faults
