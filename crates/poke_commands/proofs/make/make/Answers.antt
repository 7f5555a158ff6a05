use Rattle.std.proofs.Common.{ℕ, List, Ok, Err, refl, subst}
use Rattle.poke_base.specs.declared.host.WriteFail.{WriteFail}
use Rattle.poke_base.specs.Host.{Appends}
use Rattle.poke_faults.specs.declared.fault.Fault.TheVariants.{Write}
use Rattle.poke_commands.specs.Command.{Make}
use Rattle.poke_commands.proofs.Asking.{has_read-none}
use Rattle.poke_commands.proofs.Ways.{at_exit, makes_nothing, makes_said}
use Rattle.poke_commands.proofs.make.make.Goals as goal

pub returns-in_err-make_file : goal.returns-in_err-make_file
returns-in_err-make_file g c =
    at_exit (Make c.args.blocks c.args.name.now) _ _ Write c.from_residual-in_err-make_file.result c.from_residual-in_err-make_file.ensures.1
    (makes_nothing (Make c.args.blocks c.args.name.now) 0 1 _ _ _ c.args.name.now c.in_ok-bytes.bytes.items c.in_err-make_file.field-0.0 refl (has_read-none (Make c.args.blocks c.args.name.now) _) c.in_err-make_file.ensures (c.in_ok-bytes.bytes.items, c.in_ok-bytes.ensures, refl) (record { begins = λ s says. says; coupled = λ s. tt }))

pub returns-in_err-append : goal.returns-in_err-append
returns-in_err-append g c =
    at_exit (Make c.args.blocks c.args.name.now) _ _ Write c.from_residual-in_err-append.result c.from_residual-in_err-append.ensures.1
    (makes_said (Make c.args.blocks c.args.name.now) 0 1 _ _ _ _ c.args.name.now c.in_ok-bytes.bytes.items (Err c.in_err-append.field-0.0) refl refl (has_read-none (Make c.args.blocks c.args.name.now) _) c.in_ok-make_file.ensures
    (subst (λ (piece : List ℕ). Appends {T = Unit {0}} {E = WriteFail} (g.H.Host.outside c.make_file.new.self) (g.H.Host.outside c.append.new.self) piece (Err c.in_err-append.field-0.0)) c.deref.ensures.value c.in_err-append.ensures)
    (c.in_ok-bytes.bytes.items, c.in_ok-bytes.ensures, refl) (record { begins = λ s says. says; coupled = λ s. tt }))

pub returns : goal.returns
returns g c =
    makes_said (Make c.args.blocks c.args.name.now) 0 1 _ _ _ _ c.args.name.now c.in_ok-bytes.bytes.items (Ok tt) refl refl (has_read-none (Make c.args.blocks c.args.name.now) _) c.in_ok-make_file.ensures
    (subst (λ (piece : List ℕ). Appends {T = Unit {0}} {E = WriteFail} (g.H.Host.outside c.make_file.new.self) (g.H.Host.outside c.append.new.self) piece (Ok tt)) c.deref.ensures.value c.in_ok-append.ensures)
    (c.in_ok-bytes.bytes.items, c.in_ok-bytes.ensures, refl) (record { begins = λ s says. says; coupled = λ s. tt })
