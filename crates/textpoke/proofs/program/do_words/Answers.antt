use Rattle.std.proofs.Common.{Err, inr, subst}
use Rattle.poke_base.specs.Host.{Outside}
use Rattle.poke_faults.specs.declared.fault.Fault.TheVariants.{Memory}
use Rattle.poke_commands.specs.Runs.{Ends}
use Rattle.textpoke.proofs.program.do_words.Goals as goal

pub returns-in-Err : goal.returns-in-Err
returns-in-Err g c =
    inr
    (subst (λ (before : Outside). Ends before (g.H.Host.outside c.report.new.host) (Err Memory) c.report.result)
    c.in-Err.ensures.nothing c.report.ensures)
