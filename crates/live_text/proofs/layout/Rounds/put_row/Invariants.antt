use Rattle.std.proofs.Common.{◌≡◌, ◌+◌, ◌++◌, take}
use Rattle.live_text.specs.Layout.{row_from}
use Rattle.live_text.proofs.layout.Rounds.put_row.Given as goal

-- the bytes so far
abbrev pub invariant-loop-byte : goal.invariant-loop-byte
invariant-loop-byte l =
    (l.self.writes.items ≡ l.initial.self.writes.items ++ row_from l.place (take l.byte-index l.bytes))
    × (l.self.cuts.items ≡ l.initial.self.cuts.items)
    × (l.next ≡ l.place + l.byte-index)
