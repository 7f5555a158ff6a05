-- A plan as numbers: the bytes of all sites side by side, the writes to them in order, and where the requests stand.
use Rattle.std.specs.Prelude.{ℕ, ◌+◌, ◌-◌, nat_lt, if◌then◌else◌, List, [], ◌∷◌, ◌++◌, length, map}
use Rattle.std.specs.List.{flat_map}
use Rattle.insn_forms.specs.declared.forms.Change.{Change}
use Rattle.insn_forms.specs.Spelling.{size}
use Rattle.insn_forms.specs.Write.{Write}
use Rattle.poke_batch.specs.Poke.{spelled, traps, tails, firsts}
use Rattle.live_text.specs.declared.plan.LivePlan.{LivePlan}
use Rattle.live_text.specs.declared.plan.LiveSite.{LiveSite}
use Rattle.live_text.specs.declared.view.Shape.{Shape}
use Rattle.live_text.specs.declared.view.PlacedWrite.{PlacedWrite}
use Rattle.live_text.specs.Plan.{chunks_of}

-- the bytes of the sites at the start, site by site
abbrev pub starts : List LiveSite → List ℕ
starts sites = flat_map (λ (s : LiveSite). spelled s.start s.at) sites

-- the number of the byte at an address, among the bytes of the sites, which ascend
abbrev pub place : List LiveSite → ℕ → ℕ
place [] at = 0
place (s ∷ sites) at = if nat_lt (at - s.at) (size s.start) then at - s.at else size s.start + place sites at

-- the writes before each request, three lists a chunk: the breakpoints, the tails, the first bytes
abbrev pub rounds : List (List Change) → List (List Write)
rounds [] = []
rounds (chunk ∷ chunks) = traps chunk ∷ tails chunk ∷ firsts chunk ∷ rounds chunks

-- lists one after the other
abbrev pub joined : List (List Write) → List Write
joined [] = []
joined (writes ∷ later) = writes ++ joined later

-- how many writes there are before the first of these lists, the second and so on, and after the last,
-- where n are before them all
abbrev pub ends : ℕ → List (List Write) → List ℕ
ends n [] = n ∷ []
ends n (writes ∷ later) = n ∷ ends (n + length writes) later

-- a write by the number of its byte
abbrev pub placed : List LiveSite → Write → PlacedWrite
placed sites w = record { place = place sites w.at; byte = w.byte }

-- a plan as numbers, for so many processors
abbrev pub shape_of : LivePlan → ℕ → Shape
shape_of plan cpus = record {
  cpus = cpus;
  starts = starts plan.sites.items;
  writes = map (placed plan.sites.items) (joined (rounds (chunks_of plan)));
  cuts = ends 0 (rounds (chunks_of plan));
}
