-- How a turn begins: with a look at the generation, if the word asks for one.
use Rattle.std.specs.Prelude.{◌≡◌, ◌≤◌, ◌==◌, ◌&&◌, ℕ, ◌+◌, ◌%◌, Bool, true, false, not, nat_lt, if◌then◌else◌}
use Rattle.live_text.specs.declared.view.CpuView.{CpuView}
use Rattle.live_text.specs.declared.view.View.{View}
use Rattle.live_text.specs.Steps.{acked, looked}
use Rattle.live_engine.specs.LiveCpu.{CpuState}

-- bit 0 of the word asks a processor that isn't trapped to load the generation
abbrev pub is_looking : CpuState → ℕ → Bool
is_looking c word = not c.trapped && word % 2 == 1

-- what was loaded is acknowledged where it is more than was acknowledged before
abbrev pub caught_up : ℕ → View → View
caught_up g v = if nat_lt v.cpu.ack g then acked g (looked g v) else looked g v

-- what a look makes of the view, where there is one; the generation never falls
abbrev pub Begins : Bool → View → View → Type 0
Begins false v w = w ≡ v
Begins true v w = (g : ℕ) × (v.cpu.greatest ≤ g) × (w ≡ caught_up g v)

-- a look loads the generation once, and what was acknowledged is then the greatest that was loaded; without one it isn't
-- loaded
abbrev pub LoadsOnce : Bool → CpuView → CpuView → Type 0
LoadsOnce true x y = (y.looks ≡ x.looks + 1) × (y.ack ≡ y.greatest)
LoadsOnce false x y = y.looks ≡ x.looks
