-- What the fields of a processor stand for.
use Rattle.live_engine.specs.declared.cpu.LiveCpu.TheInside.{Inside}
use Rattle.live_engine.specs.LiveCpu.{CpuState}

abbrev pub state_of : Inside → CpuState
state_of i = record { proc = i.proc; trapped = i.trapped }
