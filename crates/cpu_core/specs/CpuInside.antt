-- What the fields of a processor stand for.
use Rattle.std.specs.Prelude.{◌≡◌, ◌≤◌, true}
use Rattle.x64_subset.specs.declared.proc.Life.TheVariants.{Running}
use Rattle.cpu_core.specs.declared.cpu.Cpu.TheInside.{Inside}
use Rattle.cpu_core.specs.Turn.{CpuState}

abbrev pub state_of : Inside → CpuState
state_of i = record { proc = i.proc; trapped = i.trapped }

pub record IsSound (i : Inside) : Type 0 where
  pub depth : i.proc.depth ≤ 64
  -- a processor that has hit a breakpoint runs
  pub running : i.trapped ≡ true → i.proc.life ≡ Running
