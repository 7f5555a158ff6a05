use Rattle.std.proofs.Common.{◌∙◌, drop, sym}
use Rattle.poke_batch.specs.Poke.Item.{Puts, Syncs}
use Rattle.poke_plan.specs.Plan.{to_print}
use Rattle.poke_base.proofs.ItemLines.{as_failed}
use Rattle.poke_plan.proofs.Plans.{printed-more, printed-part, request_next, request_printed, write_first, write_next}
use Rattle.poke_plan.proofs.poke.print_poke.Goals as goal

pub returns-in_err-print_write-in-Write : goal.returns-in_err-print_write-in-Write
returns-in_err-print_write-in-Write g c =
    as_failed _ _ _ c.in_err-print_write-in-Write.field-0.0 c.from_residual.result c.from_residual.ensures.0
    (printed-part _ _ _ _ (to_print c.items.batch.update) (drop 1 (to_print c.items.batch.update)) (Puts (record { at = c.in-Write.at; byte = c.in-Write.byte })) c.in_err-print_write-in-Write.field-0.0 c.items.invariant.printed
    (write_first c.items.batch.update c.in-Write.at c.in-Write.byte (sym c.in-Write.ensures.due))
    c.in_err-print_write-in-Write.ensures)

pub items-preserved-in-Write : goal.items-preserved-in-Write
items-preserved-in-Write g c = record {
  one_cpu = c.took.ensures.same_cpus ∙ c.items.invariant.one_cpu;
  printed =
      printed-more _ _ _ _ (to_print c.items.batch.update) (to_print c.took.new.self.update) (Puts (record { at = c.in-Write.at; byte = c.in-Write.byte })) c.items.invariant.printed
      (write_next c.items.batch.update c.took.new.self.update c.in-Write.at c.in-Write.byte (sym c.in-Write.ensures.due) c.took.ensures.wrote c.took.ensures.unasked)
      c.in_ok-print_write-in-Write.ensures;
}

pub returns-in_err-print-in-Request : goal.returns-in_err-print-in-Request
returns-in_err-print-in-Request g c =
    as_failed _ _ _ c.in_err-print-in-Request.field-0.0 c.from_residual-in_err-print-in-Request.result c.from_residual-in_err-print-in-Request.ensures.0
    (printed-part _ _ _ _ (to_print c.items.batch.update) (drop 1 (to_print c.items.batch.update)) Syncs c.in_err-print-in-Request.field-0.0 c.items.invariant.printed
    (request_printed c.items.batch.update (sym c.in-Request.ensures.due))
    c.in_err-print-in-Request.ensures)

pub items-preserved-in-Request : goal.items-preserved-in-Request
items-preserved-in-Request g c = record {
  one_cpu = c.took-in-Request.ensures.same_cpus ∙ c.items.invariant.one_cpu;
  printed =
      let asked = c.took-in-Request.ensures.requested (sym c.in-Request.ensures.due) in
      printed-more _ _ _ _ (to_print c.items.batch.update) (to_print c.took-in-Request.new.self.update) Syncs c.items.invariant.printed
      (request_next c.items.batch.update c.took-in-Request.new.self.update (sym c.in-Request.ensures.due) asked.0 asked.1)
      c.in_ok-print-in-Request.ensures;
}
