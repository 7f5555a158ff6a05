use Rattle.std.proofs.Common.{◌≡◌, drop, length}
use Rattle.key_state.specs.Writing.{changes_written}
use Rattle.key_state.proofs.writing.write_changes.Given as goal

abbrev pub invariant-loop-change : goal.invariant-loop-change
invariant-loop-change l =
    (changes_written l.base l.changes l.initial.text ≡ changes_written l.base (drop l.change-index l.changes) l.text)
    × (length l.text ≡ length l.initial.text)
