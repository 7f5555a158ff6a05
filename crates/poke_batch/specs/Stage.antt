-- The stages of an update: which write is due in the open chunk, and what is due after it.
use Rattle.std.specs.Prelude.{ℕ, zero, suc, ◌+◌, ◌<◌, nat_lt, Bool, true, false, if◌then◌else◌, List, [], ◌∷◌, length, ⊤}
use Rattle.insn_forms.specs.declared.forms.Change.{Change}
use Rattle.insn_forms.specs.Spelling.{size}
use Rattle.poke_batch.specs.declared.stage.Progress.{Progress}
use Rattle.poke_batch.specs.declared.stage.Round.TheVariants.{Traps, Tails, Firsts}
use Rattle.poke_batch.specs.declared.stage.Stage.{Stage}
use Rattle.poke_batch.specs.declared.stage.Stage.TheVariants.{Idle, Trap, Tail, First, Sync, Return}

-- how many bytes a site of a chunk takes
abbrev pub site_size : List Change → ℕ → ℕ
site_size [] site = 0
site_size (c ∷ chunk) zero = size c.new
site_size (c ∷ chunk) (suc site) = site_size chunk site

-- the site of the due write is one of the chunk, and its byte one of the site
abbrev pub IsInside : List Change → Stage → Type 0
IsInside chunk (Trap site) = site < length chunk
IsInside chunk (Tail site place) = (site < length chunk) × (place < site_size chunk site)
IsInside chunk (First site) = site < length chunk
IsInside chunk _ = ⊤

-- the tail of the site after this one, or the synchronisation after that of the last of n sites
abbrev pub tail_after : ℕ → ℕ → Stage
tail_after site sites = if nat_lt (site + 1) sites then Tail (site + 1) 1 else Sync Tails false

-- the stage after the due write, request or return
abbrev pub after_due : List Change → Stage → Stage
after_due chunk (Trap site) = if nat_lt (site + 1) (length chunk) then Trap (site + 1) else Sync Traps false
after_due chunk (Tail site place) =
    if nat_lt (place + 1) (site_size chunk site) then Tail site (place + 1) else tail_after site (length chunk)
after_due chunk (First site) = if nat_lt (site + 1) (length chunk) then First (site + 1) else Sync Firsts false
after_due chunk (Sync round requested) = Sync round true
after_due chunk Return = Idle
after_due chunk Idle = Idle

-- after a chunk the next one begins, where the update of n sites has one, or it is to be closed
abbrev pub after_chunk : ℕ → ℕ → Progress
after_chunk sites from =
    if nat_lt (from + 256) sites then record { from = from + 256; stage = Trap 0 }
    else record { from = from; stage = Return }

-- how far the update of n sites has come after all processors have serialised
abbrev pub after_sync : ℕ → ℕ → Stage → Progress
after_sync sites from (Sync Traps requested) = record { from = from; stage = Tail 0 1 }
after_sync sites from (Sync Tails requested) = record { from = from; stage = First 0 }
after_sync sites from (Sync Firsts requested) = after_chunk sites from
after_sync sites from stage = record { from = from; stage = stage }

-- whether the request of the due synchronisation was made
abbrev pub is_requested : Stage → Bool
is_requested (Sync round requested) = requested
is_requested _ = false

-- whether no update is open
abbrev pub is_idle : Stage → Bool
is_idle Idle = true
is_idle _ = false
