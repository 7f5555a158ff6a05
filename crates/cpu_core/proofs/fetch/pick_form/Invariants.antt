use Rattle.std.proofs.Common.{◌-◌, length}
use Rattle.cpu_core.proofs.Begun.{IsPicked}
use Rattle.cpu_core.proofs.fetch.pick_form.Given as goal

abbrev pub invariant-bytes : goal.invariant-bytes
invariant-bytes g l =
    IsPicked l.word (g.T.Text.shape l.text) (g.T.Text.stands l.text) l.cpu l.at l.bytes.items l.choices

abbrev pub decreases-bytes : goal.decreases-bytes
decreases-bytes g l = 5 - length l.bytes.items
