-- What a fetch at a site makes of a seat's view.
use Rattle.std.specs.Prelude.{◌≡◌, ◌≤◌, ◌<◌, ◌⊎◌, ◌==◌, ◌||◌, ℕ, zero, suc, ◌+◌, ◌/◌, ◌%◌, ◌^◌, Bool, if◌then◌else◌, List, length, slice_index, Some, is_none}
use Rattle.live_text.specs.declared.view.CpuView.{CpuView}
use Rattle.live_text.specs.declared.view.View.{View}
use Rattle.live_text.specs.Rule.{cached}

-- bit 8 + j of the word asks for a fresh byte j
abbrev pub is_fresh : ℕ → ℕ → Bool
is_fresh word j = (word / 2 ^ (8 + j)) % 2 == 1

-- byte j has to be loaded: the word asks for it, or nothing is cached; the site's first byte has this number
abbrev pub has_to_load : CpuView → ℕ → ℕ → ℕ → Bool
has_to_load x first word j = is_fresh word j || is_none (cached x (first + j))

-- how many of the first n bytes have to be loaded
abbrev pub loads : CpuView → ℕ → ℕ → ℕ → ℕ
loads x first word zero = 0
loads x first word (suc n) = loads x first word n + (if has_to_load x first word n then 1 else 0)

-- the bytes with these numbers are fetched: each that has to be is loaded, all of them are cached then, and else only what
-- the seat knows of the plan's writes has grown
pub record Fetches (first word : ℕ) (bytes : List ℕ) (v w : View) : Type 0 where
  pub others :
      w ≡ record v { cpu = record v.cpu { known = w.cpu.known; cache = w.cpu.cache; fetches = w.cpu.fetches } }
  pub known : v.cpu.known ≤ w.cpu.known
  pub counted : w.cpu.fetches ≡ v.cpu.fetches + loads v.cpu first word (length bytes)
  pub bytes_are : (j : ℕ) → j < length bytes → cached w.cpu (first + j) ≡ Some (slice_index bytes j)
  pub kept : (b : ℕ) → (b < first) ⊎ (first + length bytes ≤ b) → cached w.cpu b ≡ cached v.cpu b
