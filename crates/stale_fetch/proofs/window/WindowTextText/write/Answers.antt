use Rattle.std.proofs.Common.{◌≡◌, ◌-◌, ◌∙◌, ap, map, length-set, arith}
use Rattle.std.proofs.lemmas.List.{with_items_is}
use Rattle.std.specs.Vec.{with_items}
use Rattle.stale_fetch.specs.Windows.{widened_at}
use Rattle.stale_fetch.proofs.WindowPasts.{windows_written, write_whole}
use Rattle.stale_fetch.proofs.window.WindowTextText.write.Goals as goal

-- all rows are widened
rows_are : (c : goal.After-self-2-1) → (with_items c.self.inside.rows c.widen_all.new.rows).items ≡ map (widened_at (c.args.at - c.self.inside.base) c.index.result.now c.args.byte) c.self.inside.rows.items
rows_are c =
    with_items_is c.self.inside.rows c.widen_all.new.rows (c.widen_all.auto.rows ∙ c.deref_mut.ensures.len)
    ∙ c.widen_all.ensures
    ∙ ap (map (widened_at (c.args.at - c.self.inside.base) c.index.result.now c.args.byte)) c.deref_mut.ensures.value

pub invariant_of-self : goal.invariant_of-self
invariant_of-self c =
    let size = length-set c.self.inside.held.items (c.args.at - c.self.inside.base) c.args.byte in
    let ends = c.self.invariant.ends in
    record {
      ends = omega arith;
      rows = write_whole c.self.inside.held.items (c.args.at - c.self.inside.base) c.index.result.now c.args.byte c.self.inside.rows.items _ c.self.invariant.rows (rows_are c);
    }

pub returns-clause-stands : goal.returns-clause-stands
returns-clause-stands c = λ p.
    windows_written c.self.inside.base c.self.inside.held.items c.self.inside.rows.items _ c.args.self.now p c.args.at c.args.byte c.index.result.now c.self.view_is c.self.invariant.rows c.requires.inside c.requires.room c.index.ensures (rows_are c)
