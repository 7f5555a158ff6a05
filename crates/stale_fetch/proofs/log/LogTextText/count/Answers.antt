use Rattle.std.proofs.Common.{length, arith, ap}
use Rattle.insn_forms.specs.History.{text_memory}
use Rattle.std.specs.Prelude.{slice_index}
use Rattle.stale_fetch.specs.Since.{since-some}
use Rattle.stale_fetch.proofs.log.LogTextText.count.Goals as goal

pub returns-clause-some : goal.returns-clause-some
returns-clause-some c =
    let some = since-some (text_memory c.args.self.now.past.base c.args.self.now.past.text) c.args.self.now.past.writes (slice_index c.args.self.now.past.marks c.args.cpu) c.args.at (c.values.ensures.stands.marks c.args.cpu) in
    let values = ap length c.values.ensures.values in
    let count = c.count_values.ensures.counted in
    omega arith
