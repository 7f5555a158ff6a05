use Rattle.cpu_core.proofs.SoFar.{AreSoFar}
use Rattle.cpu_core.proofs.fetch.are_candidates.Given as goal

abbrev pub invariant-loop-byte : goal.invariant-loop-byte
invariant-loop-byte g l =
    AreSoFar (g.T.Text.shape l.text) (g.T.Text.stands l.text) l.cpu l.at l.bytes l.byte-index l.place
