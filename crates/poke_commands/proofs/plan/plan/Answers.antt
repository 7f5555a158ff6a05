use Rattle.std.proofs.Common.{◌∙◌, ℕ, List, Err, Ok, ap, refl, subst}
use Rattle.std.specs.List.{flat_map}
use Rattle.poke_batch.specs.Poke.{Item}
use Rattle.poke_faults.specs.declared.fault.Fault.TheVariants.{Memory, Refused, Write}
use Rattle.poke_faults.specs.declared.fault.Refusal.{Refusal}
use Rattle.poke_faults.specs.declared.fault.Refusal.TheVariants.{Plan as PlanRefusal}
use Rattle.poke_plan.specs.declared.plan_line.PlanRefused.TheVariants.{TooLong}
use Rattle.poke_commands.specs.Command.{Plan}
use Rattle.poke_plan.specs.PlanLine.{PokeLine}
use Rattle.poke_plan.specs.Plan.{item_line, to_print}
use Rattle.poke_commands.specs.Saying.{refuses, says_text}
use Rattle.poke_commands.proofs.Ways.{at_exit, one_fails, one_lacks, one_prints, one_refused}
use Rattle.poke_commands.proofs.plan.plan.Goals as goal

pub returns-in_err-text : goal.returns-in_err-text
returns-in_err-text g c =
    at_exit (Plan c.args.file.now) _ _ c.in_err-text.field-0.0 c.from_residual.result c.from_residual.ensures.1
    (one_fails (Plan c.args.file.now) c.args.file.now _ _ _ _ c.in_err-text.field-0.0 refl c.in_err-text.ensures (λ bytes why holds refused. (bytes, holds, (Err TooLong, refused.1, ap (λ (w : Refusal). refuses 1 w) refused.0))))

pub returns-in_err-plan : goal.returns-in_err-plan
returns-in_err-plan g c =
    let why = c.in_err-plan.field-0.0 in
    at_exit (Plan c.args.file.now) _ _ (Refused (PlanRefusal why)) c.from_residual-in_err-plan.result c.from_residual-in_err-plan.ensures.1
    (one_refused (Plan c.args.file.now) c.args.file.now _ _ _ _ c.in_ok-text.text (PlanRefusal why) refl c.in_ok-text.ensures (λ bytes holds is. (bytes, holds, (Err why, subst (λ (text : List ℕ). PokeLine text (Err why)) (c.deref.ensures.value ∙ is.0) c.in_err-plan.ensures.says, refl))))

pub returns-in_err-batch : goal.returns-in_err-batch
returns-in_err-batch g c =
    at_exit (Plan c.args.file.now) _ _ Memory c.from_residual-in_err-batch.result c.from_residual-in_err-batch.ensures.1
    (one_lacks (Plan c.args.file.now) c.args.file.now _ _ _ _ c.in_ok-text.text refl c.in_ok-text.ensures)

pub returns-in_err-print_poke : goal.returns-in_err-print_poke
returns-in_err-print_poke g c =
    let change = c.in_ok-plan.plan.change in
    at_exit (Plan c.args.file.now) _ _ Write c.from_residual-in_err-print_poke.result c.from_residual-in_err-print_poke.ensures.1
    (one_prints (Plan c.args.file.now) c.args.file.now _ _ _ _ _ c.in_ok-text.text (flat_map item_line (to_print c.in_ok-batch.batch.update)) (Err c.in_err-print_poke.field-0.0) refl c.in_ok-text.ensures c.in_err-print_poke.ensures (λ bytes holds is. (bytes, holds, (Ok change, subst (λ (text : List ℕ). PokeLine text (Ok change)) (c.deref.ensures.value ∙ is.0) c.in_ok-plan.ensures.says, ap (λ (items : List Item). says_text 1 (flat_map item_line items)) c.in_ok-batch.ensures.in_order))) (record { begins = λ s says. says; coupled = λ s. tt }))

pub returns : goal.returns
returns g c =
    let change = c.in_ok-plan.plan.change in
    one_prints (Plan c.args.file.now) c.args.file.now _ _ _ _ _ c.in_ok-text.text (flat_map item_line (to_print c.in_ok-batch.batch.update)) (Ok tt) refl c.in_ok-text.ensures c.in_ok-print_poke.ensures (λ bytes holds is. (bytes, holds, (Ok change, subst (λ (text : List ℕ). PokeLine text (Ok change)) (c.deref.ensures.value ∙ is.0) c.in_ok-plan.ensures.says, ap (λ (items : List Item). says_text 1 (flat_map item_line items)) c.in_ok-batch.ensures.in_order))) (record { begins = λ s says. says; coupled = λ s. tt })
