use Rattle.std.proofs.Common.{◌≤◌, take, All}
use Rattle.live_text.proofs.patch.PatchSeat.knows_all.Given as goal

-- the bounds so far reach the request
abbrev pub invariant-loop-bound : goal.invariant-loop-bound
invariant-loop-bound l = All (λ b. l.self-inside.stored ≤ b) (take l.bound-index l.bound-items)
