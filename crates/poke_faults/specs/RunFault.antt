-- Why a run or a replay stopped, as the fault of a command.
use Rattle.recorded_run.specs.declared.fault.RunFault.{RunFault}
use Rattle.recorded_run.specs.declared.fault.RunFault.TheVariants.{Write as WriteStop, Line as LineStop}
use Rattle.poke_faults.specs.declared.fault.Fault.{Fault}
use Rattle.poke_faults.specs.declared.fault.Fault.TheVariants.{Refused, Write}
use Rattle.poke_faults.specs.declared.fault.Refusal.TheVariants.{Journal}
use Rattle.poke_faults.specs.declared.journal_fault.JournalRefused.TheVariants.{Line}

abbrev pub run_fault : RunFault → Fault
run_fault WriteStop = Write
run_fault (LineStop line) = Refused (Journal (Line line))
