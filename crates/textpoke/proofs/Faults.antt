-- The program ends with the fault that came in place of its words.
use Rattle.std.proofs.Common.{◌≡◌, ℕ, Ok, Err, subst, sym, inr}
use Rattle.poke_base.specs.Host.{Outside}
use Rattle.poke_faults.specs.declared.fault.Fault.{Fault}
use Rattle.poke_commands.specs.Runs.{Ends}
use Rattle.textpoke.specs.Program.{Args, Gives, RunsProgram}

-- the status of the fault is the exit code
pub fault_ends : (args : Args) (fault : Fault) (old new : Outside) (status code : ℕ) → Gives args (Err fault) → Ends old new (Err fault) status → code ≡ status → RunsProgram args old new code
fault_ends (Ok args) fault old new status code is ends same =
    inr (subst (λ (f : Fault). Ends old new (Err f) code) is (subst (λ (n : ℕ). Ends old new (Err fault) n) (sym same) ends))
fault_ends (Err why) fault old new status code is ends same =
    subst (λ (f : Fault). Ends old new (Err f) code) is (subst (λ (n : ℕ). Ends old new (Err fault) n) (sym same) ends)
