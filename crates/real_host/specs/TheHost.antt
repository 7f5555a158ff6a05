-- What the host of a running program tells.
use Rattle.std.specs.Prelude.{ℕ, List, Option, None, Result, IsSomeAnd, IfSome, option_map, string_bytes}
use Rattle.real_host.specs.declared.real.RealHost.{RealHost}
use Rattle.poke_base.specs.Host.{Outside}
use Rattle.real_host.specs.Written.{Writes}

-- no contents; the name of the file being made and the counts of failures
abbrev pub real_outside : {R O E File Dir : Type 0} → RealHost R O E File Dir → Outside
real_outside host = record {
  files = None;
  making = option_map string_bytes host.making;
  printed = None;
  complained = None;
  asked = None;
  read_faults = host.read_faults;
  write_faults = host.write_faults;
  complain_faults = host.complain_faults;
}

-- nothing told, no file being made, no failures
abbrev pub untold_outside : Outside
untold_outside = record {
  files = None;
  making = None;
  printed = None;
  complained = None;
  asked = None;
  read_faults = 0;
  write_faults = 0;
  complain_faults = 0;
}

-- what stands for standard output
abbrev pub output_of : {R O E File Dir : Type 0} → RealHost R O E File Dir → O
output_of host = host.output

-- what stands for standard error
abbrev pub errors_of : {R O E File Dir : Type 0} → RealHost R O E File Dir → E
errors_of host = host.errors

-- the file that is being made, where it is open
abbrev pub file_of : {R O E File Dir : Type 0} → RealHost R O E File Dir → Option File
file_of host = host.file

-- a piece was written whole to the open file, or, after a failure, a prefix of it
abbrev pub WritesFile : {File T E : Type 0} → (File → Option (List ℕ)) → Option File → Option File → List ℕ → Result T E → Type 0
WritesFile contents old new piece result =
    IfSome old (λ before. IsSomeAnd new (λ after. Writes (contents before) (contents after) piece result))
