-- What a contract sees of the shared words, and which seats are theirs.
use Rattle.std.specs.Prelude.{◌≡◌, ◌<◌, ◌+◌, ℕ, List, length, take, slice_get, slice_index, slice_index_or, Some}
use Rattle.atomic_table.specs.Seated.{TableId}
use Rattle.insn_forms.specs.declared.forms.Form.TheVariants.{Nop2}
use Rattle.insn_forms.specs.Spelling.{size}
use Rattle.live_text.specs.declared.plan.LivePlan.{LivePlan}
use Rattle.live_text.specs.declared.plan.LiveSite.{LiveSite}
use Rattle.live_text.specs.declared.view.Shape.{Shape}
use Rattle.live_text.specs.Flat.{starts, shape_of}
use Rattle.live_text.specs.Past.{value}
use Rattle.live_text.specs.Steps.{first_cpu}
use Rattle.live_text.specs.Seats.{Placed}

-- which table it is, the plan, and how many processors there are
pub record TextState : Type 0 where
  pub table : TableId
  pub plan : LivePlan
  pub cpus : ℕ

-- a seat is of this table and knows this plan
pub record IsOwn (text : TextState) (seat : Placed) : Type 0 where
  pub table : seat.table ≡ text.table
  pub shape : seat.view.shape ≡ shape_of text.plan text.cpus

-- a site of the plan, by its number
abbrev pub site_of : LivePlan → ℕ → LiveSite
site_of plan site = slice_index_or plan.sites.items site (record { at = 0; start = Nop2 })

-- there is such a site, and it has such a byte
pub record HasByte (plan : LivePlan) (site j : ℕ) : Type 0 where
  pub listed : site < length plan.sites.items
  pub byte : j < size (site_of plan site).start

-- the number of byte j of a site: the bytes of the sites before it have the numbers below
abbrev pub byte_number : LivePlan → ℕ → ℕ → ℕ
byte_number plan site j = length (starts (take site plan.sites.items)) + j

-- a processor's seat as it is made
pub record IsSeated (text : TextState) (number : ℕ) (seat : Placed) : Type 0 where
  pub own : IsOwn text seat
  pub view : seat.view ≡ first_cpu (shape_of text.plan text.cpus) number

-- the seats of the processors, by number
pub record AreSeated (text : TextState) (count : ℕ) (seats : List Placed) : Type 0 where
  pub count_is : length seats ≡ count
  pub each : (number : ℕ) (seat : Placed) → slice_get seats number ≡ Some seat → IsSeated text number seat

-- the bytes of the sites after so many writes, by their numbers
pub record AreBytes (p : Shape) (k : ℕ) (bytes : List ℕ) : Type 0 where
  pub size : length bytes ≡ length p.starts
  pub values : (b : ℕ) → b < length p.starts → slice_index bytes b ≡ value p k b
