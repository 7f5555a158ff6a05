use Rattle.std.proofs.Common.{◌-◌, length}
use Rattle.cpu_core.proofs.Begun.{IsBegun}
use Rattle.cpu_core.proofs.fetch.fetch_each.Given as goal

abbrev pub invariant-bytes : goal.invariant-bytes
invariant-bytes g l =
    IsBegun l.word (g.T.Text.shape l.text) (g.T.Text.stands l.text) l.cpu l.at l.bytes.items l.choices

abbrev pub decreases-bytes : goal.decreases-bytes
decreases-bytes g l = 9 - length l.bytes.items
