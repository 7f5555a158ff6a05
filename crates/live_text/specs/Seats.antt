-- What holds of the seats' views between steps, and what contracts see of a seat.
use Rattle.std.specs.Prelude.{◌≡◌, ◌≤◌, ◌<◌, ◌+◌, ℕ, Some, length, All}
use Rattle.atomic_table.specs.Seated.{TableId}
use Rattle.live_text.specs.declared.view.PatchView.{PatchView}
use Rattle.live_text.specs.declared.view.View.{View}
use Rattle.live_text.specs.declared.view.Role.TheVariants.{Patch, Cpu}
use Rattle.live_text.specs.Past.{cut, Found}
use Rattle.live_text.specs.Rule.{cached}

-- a seat: at which table it is, and what it knows
pub record Placed : Type 0 where
  pub table : TableId
  pub view : View

-- the view of a processor's seat that hasn't left
pub record Sits (v : View) : Type 0 where
  pub role : v.role ≡ Cpu
  pub number : v.cpu.number < v.shape.cpus
  -- it has acknowledged no generation that it hasn't loaded, and loaded no number of requests that the plan doesn't have
  pub acked : v.cpu.ack ≤ v.cpu.greatest
  pub stored : v.cpu.greatest < length v.shape.cuts
  -- its mark isn't before the writes before the request that it has acknowledged
  pub mark_above : cut v.shape v.cpu.ack ≤ v.cpu.mark
  pub mark_below : v.cpu.mark ≤ v.cpu.known
  -- it knows the writes before the request that it has loaded, and none after the next one
  pub knows : cut v.shape v.cpu.greatest ≤ v.cpu.known
  pub near : v.cpu.known ≤ cut v.shape (v.cpu.ack + 1)
  pub within : v.cpu.known ≤ length v.shape.writes
  -- each cached byte is one that stood there from the mark on
  pub cache_size : length v.cpu.cache ≡ length v.shape.starts
  pub cache_is : (b value : ℕ) → cached v.cpu b ≡ Some value → Found v.shape v.cpu.mark v.cpu.known b value

-- the view of the patch seat
pub record Patches (v : View) : Type 0 where
  pub role : v.role ≡ Patch
  -- it doesn't stand after the next request, and there is a place for the request that it stored last
  pub to : v.patch.done ≤ cut v.shape (v.patch.stored + 1)
  pub requests : v.patch.stored < length v.shape.cuts
  pub bounds : length v.patch.bounds ≡ v.shape.cpus

-- the patch seat knows that every processor has acknowledged the request that it stored last, or has left
abbrev pub KnowsAll : PatchView → Type 0
KnowsAll x = All (λ ack. x.stored ≤ ack) x.bounds

-- what is due after that: a write, a request, or nothing
abbrev pub WriteDue : View → Type 0
WriteDue v = v.patch.done < cut v.shape (v.patch.stored + 1)

abbrev pub RequestDue : View → Type 0
RequestDue v = (v.patch.done ≡ cut v.shape (v.patch.stored + 1)) × (v.patch.stored + 1 < length v.shape.cuts)

abbrev pub NoneDue : View → Type 0
NoneDue v = (v.patch.done ≡ length v.shape.writes) × (v.patch.stored + 1 ≡ length v.shape.cuts)
