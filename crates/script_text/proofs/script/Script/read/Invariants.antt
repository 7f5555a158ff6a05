use Rattle.std.proofs.Common.{length}
use Rattle.script_text.proofs.Reading.{IsReading}
use Rattle.script_text.proofs.script.Script.read.Given as goal

abbrev pub invariant-loop-line : goal.invariant-loop-line
invariant-loop-line l = IsReading l.image l.text l.rest l.number l.draft

abbrev pub decreases-loop-line : goal.decreases-loop-line
decreases-loop-line l = length l.rest
