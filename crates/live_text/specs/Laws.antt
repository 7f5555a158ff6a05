-- What a plan as numbers means: the items of its pokes, and the history of its sites' bytes.
use Rattle.std.specs.Prelude.{◌≡◌, ◌↔◌, ◌≤◌, ◌<◌, ◌+◌, ◌*◌, ◌/◌, ◌%◌, ℕ, List, length, slice_get, slice_index, Some, IsSome, IsNone, MatchOption}
use Rattle.std.specs.List.{flat_map}
use Rattle.insn_forms.specs.Write.{Write}
use Rattle.insn_forms.specs.History.{Memory, byte}
use Rattle.poke_batch.specs.Poke.{Item, poke, spelled}
use Rattle.poke_batch.specs.Poke.Item.{Puts, Syncs}
use Rattle.live_text.specs.declared.plan.LivePlan.{LivePlan}
use Rattle.live_text.specs.declared.view.Shape.{Shape}
use Rattle.live_text.specs.declared.view.View.{View}
use Rattle.live_text.specs.Plan.{chunks_of, Stands}
use Rattle.live_text.specs.Flat.{placed, rounds, joined, shape_of}
use Rattle.live_text.specs.Past.{cut, value}
use Rattle.live_text.specs.Own.{HasByte, site_of, byte_number}
use Rattle.live_text.specs.Rule.{cached}
use Rattle.live_text.specs.Seats.{Sits}
use Rattle.live_text.specs.Table.{IsInTable}
use Rattle.live_text.specs.Versions.{version, version_change, chunk_of, place_in, breakpoint_write}

-- the byte writes of a plan, in order, by address
abbrev pub writes_of : LivePlan → List Write
writes_of plan = joined (rounds (chunks_of plan))

-- the items of a plan: the pokes of its chunks, one after the other
abbrev pub plan_items : LivePlan → List Item
plan_items plan = flat_map poke (chunks_of plan)

-- after k writes and r requests, where k lies between request r and the next, write k is the next item
abbrev pub WritesAreDue : Type 0
WritesAreDue =
    (plan : LivePlan) (cpus k r : ℕ) → cut (shape_of plan cpus) r ≤ k → k < cut (shape_of plan cpus) (r + 1)
    → (w : Write) → slice_get (writes_of plan) k ≡ Some w → slice_get (plan_items plan) (k + r) ≡ Some (Puts w)

-- write k by its number is that write by its address
abbrev pub WritesArePlaced : Type 0
WritesArePlaced =
    (plan : LivePlan) (cpus k : ℕ) (w : Write) → slice_get (writes_of plan) k ≡ Some w
    → slice_get (shape_of plan cpus).writes k ≡ Some (placed plan.sites.items w)

-- after all writes before the next request, that request is the next item
abbrev pub RequestsAreDue : Type 0
RequestsAreDue =
    (plan : LivePlan) (cpus r : ℕ) → r + 1 < length (shape_of plan cpus).cuts
    → slice_get (plan_items plan) (cut (shape_of plan cpus) (r + 1) + r) ≡ Some Syncs

-- a text holds the forms with which the sites of a plan start
abbrev pub HoldsStarts : Memory → LivePlan → Type 0
HoldsStarts start plan =
    (site j : ℕ) → HasByte plan site j
    → start ((site_of plan site).at + j) ≡ slice_index (spelled (site_of plan site).start (site_of plan site).at) j

-- the value of a byte by its number is the byte at its address, after as many writes
abbrev pub ValuesAreBytes : Type 0
ValuesAreBytes =
    (plan : LivePlan) (cpus : ℕ) (start : Memory) → Stands plan → HoldsStarts start plan
    → (k site j : ℕ) → HasByte plan site j
    → value (shape_of plan cpus) k (byte_number plan site j) ≡ byte start (writes_of plan) k ((site_of plan site).at + j)

-- each chunk has three requests
abbrev pub ChunksHaveThreeRequests : Type 0
ChunksHaveThreeRequests =
    (plan : LivePlan) (cpus : ℕ) → length (shape_of plan cpus).cuts ≡ 3 * length (chunks_of plan) + 1

-- chunk j makes of a site's version j the next one, where it changes the site; a site that it doesn't change stays as it is
abbrev pub ChunksMakeVersions : Type 0
ChunksMakeVersions =
    (plan : LivePlan) (j site : ℕ) → Stands plan → site < length plan.sites.items
    → MatchOption (place_in plan j site)
    (version plan site (j + 1) ≡ version plan site j)
    (λ place. slice_get (chunk_of plan j) place ≡ Some (version_change plan site j))

-- the breakpoint of a site in chunk j: this write is of CC to the site's first byte, and stands before the chunk's requests and
-- all later ones
pub record IsBreakpoint (plan : LivePlan) (p : Shape) (j site place : ℕ) : Type 0 where
  pub write : slice_get p.writes (breakpoint_write p j place) ≡ Some (record { place = byte_number plan site 0; byte = 0xcc })
  pub before : (g : ℕ) → 3 * j < g → breakpoint_write p j place < cut p g

abbrev pub BreakpointsAreWritten : Type 0
BreakpointsAreWritten =
    (plan : LivePlan) (cpus j site place : ℕ) → Stands plan → site < length plan.sites.items
    → place_in plan j site ≡ Some place → IsBreakpoint plan (shape_of plan cpus) j site place

-- k lies between request g and the next: phase g % 3 of the poke of chunk g / 3
pub record IsBetween (p : Shape) (g k : ℕ) : Type 0 where
  pub from : cut p g ≤ k
  pub to : k ≤ cut p (g + 1)

-- a byte of a site that the chunk changes is then one of the table
abbrev pub ChangedBytesAreInTheTable : Type 0
ChangedBytesAreInTheTable =
    (plan : LivePlan) (cpus g k site j : ℕ) → Stands plan → HasByte plan site j → IsBetween (shape_of plan cpus) g k
    → IsSome (place_in plan (g / 3) site)
    → IsInTable (g % 3) (version_change plan site (g / 3)) j (value (shape_of plan cpus) k (byte_number plan site j))

-- and a byte of any other site is the one of the form that the site has after the chunks before
abbrev pub OtherBytesAreOfTheForm : Type 0
OtherBytesAreOfTheForm =
    (plan : LivePlan) (cpus g k site j : ℕ) → Stands plan → HasByte plan site j → IsBetween (shape_of plan cpus) g k
    → IsNone (place_in plan (g / 3) site)
    → value (shape_of plan cpus) k (byte_number plan site j) ≡ slice_index (spelled (version plan site (g / 3)) (site_of plan site).at) j

-- in the first phase of a chunk the first byte of a site that it changes is CC exactly where that write is one of the first k
abbrev pub FirstBytesAreBreakpoints : Type 0
FirstBytesAreBreakpoints =
    (plan : LivePlan) (cpus g k site place : ℕ) → Stands plan → site < length plan.sites.items
    → IsBetween (shape_of plan cpus) g k → g % 3 ≡ 0 → place_in plan (g / 3) site ≡ Some place
    → (value (shape_of plan cpus) k (byte_number plan site 0) ≡ 0xcc) ↔ (breakpoint_write (shape_of plan cpus) (g / 3) place < k)

-- a value that a byte had from a seat's mark to what it knows of the writes, between the request that it has acknowledged and
-- the next
pub record WasThere (v : View) (b n : ℕ) : Type 0 where
  pub after : ℕ
  pub from : v.cpu.mark ≤ after
  pub to : after ≤ v.cpu.known
  pub between : IsBetween v.shape v.cpu.ack after
  pub is : value v.shape after b ≡ n

-- what a processor has cached of a byte is such a value
abbrev pub CachedBytesWereThere : Type 0
CachedBytesWereThere = (v : View) (b n : ℕ) → Sits v → cached v.cpu b ≡ Some n → WasThere v b n
