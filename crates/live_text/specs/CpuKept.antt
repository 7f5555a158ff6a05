-- What the fields of a processor's seat stand for.
use Rattle.std.specs.Prelude.{◌≡◌, false, []}
use Rattle.live_text.specs.declared.cpu.CpuSeat.TheInside.{Inside}
use Rattle.live_text.specs.Seats.{Placed, Sits}

abbrev pub cpu_placed : Inside → Placed
cpu_placed s = record { table = s.seat.table_id; view = s.seat.me.0 }

pub record KeepsCpu (s : Inside) : Type 0 where
  -- it holds no slot
  pub bare : s.seat.me.1 ≡ []
  pub sits : s.seat.me.0.cpu.left ≡ false → Sits s.seat.me.0
  -- the fields are those of the view
  pub number_is : s.seat.me.0.cpu.number ≡ s.number
  pub ack_is : s.seat.me.0.cpu.ack ≡ s.ack
  pub cache_is : s.seat.me.0.cpu.cache ≡ s.cache.items
