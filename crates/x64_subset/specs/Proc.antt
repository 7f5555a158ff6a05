-- A processor before its first instruction.
use Rattle.std.specs.Prelude.{ℕ, false, replicate}
use Rattle.x64_subset.specs.declared.proc.Proc.{Proc}
use Rattle.x64_subset.specs.declared.proc.Life.TheVariants.{Running}

abbrev pub start : ℕ → Proc
start entry =
    record {
      regs = replicate 8 0;
      carry = false;
      zero = false;
      sign = false;
      overflow = false;
      ip = entry;
      stack = replicate 64 0;
      depth = 0;
      life = Running;
    }
