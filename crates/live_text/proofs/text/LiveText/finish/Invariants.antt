use Rattle.std.proofs.Common.{◌≡◌, ◌≤◌, ◌<◌, ℕ, get_or, length, vec_capacity}
use Rattle.std.specs.Mem.Slots.{slots_items}
use Rattle.live_text.proofs.text.LiveText.finish.Given as goal

-- the bytes so far
abbrev pub invariant-loop-number : goal.invariant-loop-number
invariant-loop-number l =
    (length l.room.items ≡ l.number)
    × ((b : ℕ) → b < l.number → get_or l.room.items b 0 ≡ get_or (slots_items l.closed.words) b 0)
    × (length l.laid.starts.items ≤ vec_capacity l.room)
