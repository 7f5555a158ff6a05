-- What the fields of the patch seat stand for.
use Rattle.std.specs.Prelude.{◌≡◌, []}
use Rattle.live_text.specs.declared.patch.PatchSeat.TheInside.{Inside}
use Rattle.live_text.specs.Seats.{Placed, Patches}

abbrev pub patch_placed : Inside → Placed
patch_placed s = record { table = s.seat.table_id; view = s.seat.me.0 }

pub record KeepsPatch (s : Inside) : Type 0 where
  -- it holds no slot
  pub bare : s.seat.me.1 ≡ []
  pub patches : Patches s.seat.me.0
  -- the fields are those of the view
  pub done_is : s.seat.me.0.patch.done ≡ s.done
  pub stored_is : s.seat.me.0.patch.stored ≡ s.stored
  pub bounds_is : s.seat.me.0.patch.bounds ≡ s.bounds.items
