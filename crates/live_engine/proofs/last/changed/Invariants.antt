-- The form that the changes which are left would give is the form after all of them.
use Rattle.std.proofs.Common.{◌≡◌, drop}
use Rattle.live_text.specs.Plan.{changed}
use Rattle.live_engine.proofs.last.changed.Given as goal

abbrev pub invariant-loop-change : goal.invariant-loop-change
invariant-loop-change l = changed (drop l.change-index l.chunk) l.at l.form ≡ changed l.chunk l.at l.form
