-- What the fields of the shared words stand for.
use Rattle.std.specs.Prelude.{◌≡◌, ◌≤◌, ◌+◌, [], length, vec_capacity}
use Rattle.live_text.specs.declared.text.LiveText.TheInside.{Inside}
use Rattle.live_text.specs.Plan.{Stands}
use Rattle.live_text.specs.Past.{IsShape}
use Rattle.live_text.specs.Laid.{laid_shape, IsLaid}
use Rattle.live_text.specs.Own.{TextState}

abbrev pub text_state : Inside → TextState
text_state t = record { table = t.table.shared.table_id; plan = t.laid.plan; cpus = t.laid.cpus }

pub record KeepsText (t : Inside) : Type 0 where
  -- the table was told this plan, which stands
  pub keyed : t.table.shared.key ≡ t.laid
  pub laid : IsLaid t.laid
  pub stands : Stands t.laid.plan
  pub shape : IsShape (laid_shape t.laid)
  -- it has a word for each byte, one for the generation, and one for each acknowledgement
  pub slots : t.table.shared.table_id.slots ≡ 0
  pub words : t.table.shared.table_id.words ≡ length t.laid.starts.items + (t.laid.cpus + 1)
  -- there is room for the bytes at the end
  pub empty : t.room.items ≡ []
  pub room : length t.laid.starts.items ≤ vec_capacity t.room
