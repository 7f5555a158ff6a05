-- What the fields of a text that keeps all writes stand for.
use Rattle.std.specs.Prelude.{◌≡◌, ◌+◌, ◌≤◌, ◌<◌, ◌^◌, ℕ, length, map, slice_index, vec_capacity}
use Rattle.insn_forms.specs.Write.{Write}
use Rattle.insn_forms.specs.History.{text_memory, written}
use Rattle.stale_fetch.specs.declared.log.ByteWrite.{ByteWrite}
use Rattle.stale_fetch.specs.declared.log.LogText.TheInside.{Inside}
use Rattle.stale_fetch.specs.Log.{LogState}

abbrev pub write_of : ByteWrite → Write
write_of w = record { at = w.at; byte = w.byte }

abbrev pub state_of : Inside → LogState
state_of i = record {
  past = record { base = i.base; text = i.start.items; writes = map write_of i.writes.items; marks = i.marks.items };
  room = i.room;
}

pub record IsSound (i : Inside) : Type 0 where
  -- the text ends within the addresses
  pub ends : i.base + length i.start.items < 2 ^ 64
  -- as many bytes are held as there were
  pub whole : length i.held.items ≡ length i.start.items
  -- each byte is held as it is after all writes
  pub held : (k : ℕ) → k < length i.start.items → slice_index i.held.items k ≡ written (map write_of i.writes.items) (text_memory i.base i.start.items) (i.base + k)
  -- no mark is a write to come
  pub marks : (cpu : ℕ) → slice_index i.marks.items cpu ≤ length i.writes.items
  -- there is memory for all writes
  pub writes : length i.writes.items ≤ i.room
  pub room : i.room ≤ vec_capacity i.writes
