-- What the patch worker does in one turn.
use Rattle.std.specs.Prelude.{◌≡◌, ◌≤◌, ◌<◌, ◌⊎◌, ℕ, slice_index}
use Rattle.live_text.specs.declared.text.Put.TheVariants.{Stored, Finished as AllStored}
use Rattle.live_text.specs.declared.view.View.{View}
use Rattle.live_text.specs.Calls.{Puts}
use Rattle.live_text.specs.Steps.{loaded_ack}
use Rattle.live_engine.specs.declared.patch.Advance.{Advance}
use Rattle.live_engine.specs.declared.patch.Advance.TheVariants.{Moved, Waiting, Finished}

-- the acknowledgement is loaded of a processor that isn't known to have acknowledged the last request
pub record Asks (cpu ack : ℕ) (v w : View) : Type 0 where
  pub listed : cpu < v.shape.cpus
  pub lacking : slice_index v.patch.bounds cpu < v.patch.stored
  pub loaded : w ≡ loaded_ack cpu ack v

-- it has acknowledged that request, or has left
abbrev pub Hears : View → View → Type 0
Hears v w = (cpu : ℕ) × (ack : ℕ) × Asks cpu ack v w × (v.patch.stored ≤ ack)

-- it hasn't
abbrev pub Waits : ℕ → ℕ → View → View → Type 0
Waits cpu ack v w = Asks cpu ack v w × (ack < v.patch.stored)

-- a turn stores the due item, or hears of a processor; else it waits for one, or all items are stored
abbrev pub Advances : View → View → Advance → Type 0
Advances v w Moved = Puts v w Stored ⊎ Hears v w
Advances v w (Waiting cpu ack) = Waits cpu ack v w
Advances v w Finished = Puts v w AllStored
