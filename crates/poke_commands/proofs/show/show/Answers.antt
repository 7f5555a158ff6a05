use Rattle.std.proofs.Common.{◌∙◌, ℕ, List, Err, Ok, ap, refl, subst}
use Rattle.poke_faults.specs.declared.fault.Fault.TheVariants.{Refused, Write}
use Rattle.poke_faults.specs.declared.fault.Refusal.{Refusal}
use Rattle.poke_faults.specs.declared.fault.Refusal.TheVariants.{Module}
use Rattle.poke_faults.specs.declared.module_fault.ModuleRefused.TheVariants.{TooLong}
use Rattle.poke_commands.specs.Command.{Show}
use Rattle.poke_commands.specs.Module.{ModuleShows}
use Rattle.poke_commands.specs.Saying.{refuses}
use Rattle.poke_commands.specs.Tables.{tables_text}
use Rattle.poke_commands.proofs.Ways.{at_exit, one_fails, one_prints, one_refused}
use Rattle.poke_commands.proofs.show.show.Goals as goal

pub returns-in_err-bytes : goal.returns-in_err-bytes
returns-in_err-bytes g c =
    at_exit (Show c.args.name.now) _ _ c.in_err-bytes.field-0.0 c.from_residual.result c.from_residual.ensures.1
    (one_fails (Show c.args.name.now) c.args.name.now _ _ _ _ c.in_err-bytes.field-0.0 refl c.in_err-bytes.ensures (λ bytes why holds refused. (bytes, holds, (Err TooLong, refused.1, ap (λ (w : Refusal). refuses 1 w) refused.0))))

pub returns-in_err-tables : goal.returns-in_err-tables
returns-in_err-tables g c =
    let why = c.in_err-tables.field-0.0 in
    at_exit (Show c.args.name.now) _ _ (Refused (Module why)) c.from_residual-in_err-tables.result c.from_residual-in_err-tables.ensures.1
    (one_refused (Show c.args.name.now) c.args.name.now _ _ _ _ c.in_ok-bytes.bytes (Module why) refl c.in_ok-bytes.ensures (λ bytes holds is. (bytes, holds, (Err why, subst (λ (file : List ℕ). ModuleShows file (Err why)) (c.deref.ensures.value ∙ is.0) c.in_err-tables.ensures.says, refl))))

pub returns-in_err-print_tables : goal.returns-in_err-print_tables
returns-in_err-print_tables g c =
    let text = tables_text c.in_ok-tables.tables in
    at_exit (Show c.args.name.now) _ _ Write c.from_residual-in_err-print_tables.result c.from_residual-in_err-print_tables.ensures.1
    (one_prints (Show c.args.name.now) c.args.name.now _ _ _ _ _ c.in_ok-bytes.bytes text (Err c.in_err-print_tables.field-0.0) refl c.in_ok-bytes.ensures c.in_err-print_tables.ensures (λ bytes holds is. (bytes, holds, (Ok text, subst (λ (file : List ℕ). ModuleShows file (Ok text)) (c.deref.ensures.value ∙ is.0) c.in_ok-tables.ensures.says, refl))) (record { begins = λ s says. says; coupled = λ s. tt }))

pub returns : goal.returns
returns g c =
    let text = tables_text c.in_ok-tables.tables in
    one_prints (Show c.args.name.now) c.args.name.now _ _ _ _ _ c.in_ok-bytes.bytes text (Ok tt) refl c.in_ok-bytes.ensures c.in_ok-print_tables.ensures (λ bytes holds is. (bytes, holds, (Ok text, subst (λ (file : List ℕ). ModuleShows file (Ok text)) (c.deref.ensures.value ∙ is.0) c.in_ok-tables.ensures.says, refl))) (record { begins = λ s says. says; coupled = λ s. tt })
