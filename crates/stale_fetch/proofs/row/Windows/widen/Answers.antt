use Rattle.std.proofs.Common.{◌<◌, length, ap, arith}
use Rattle.std.proofs.lemmas.List.{length-map}
use Rattle.stale_fetch.specs.WindowInside.{window_in}
use Rattle.stale_fetch.proofs.Rows.{widen_open}
use Rattle.stale_fetch.proofs.row.Windows.widen.Goals as goal

pub returns-then-held-byte : goal.returns-then-held-byte
returns-then-held-byte c =
    let size = ap length c.self.view_is in
    let mapped = length-map c.self.inside.windows.items (window_in c.self.inside.epoch) in
    let inside : c.args.place < length c.self.inside.windows.items = omega arith in
    widen_open c.self.inside.epoch c.args.place c.args.held c.args.byte c.index.result.now c.self.inside.windows.items _ inside c.index.ensures c.if-index-self.true c.if-held-byte.true c.self.view_is
