-- The items of a poke, as `text_poke_bp_batch` of Linux does them: INT3 into the first bytes, the tails,
-- the first bytes, and a synchronisation of all processors after each of the three.
use Rattle.std.specs.Prelude.{ℕ, zero, suc, ◌+◌, List, [], ◌∷◌, ◌++◌, length, take, drop, map, slice_index, unwrap_or}
use Rattle.std.specs.List.{flat_map}
use Rattle.insn_forms.specs.declared.forms.Form.{Form}
use Rattle.insn_forms.specs.declared.forms.Change.{Change}
use Rattle.insn_forms.specs.Spelling.{spell}
use Rattle.insn_forms.specs.Write.{Write}

-- one step of a poke: a byte is written, or all processors are made to serialise
pub data Item : Type 0 where
  Puts : Write → Item
  Syncs : Item

-- the bytes of a form at an address, of a form that has a spelling there
abbrev pub spelled : Form → ℕ → List ℕ
spelled form at = unwrap_or (spell form at) []

-- the writes of a row of bytes, ascending from an address
abbrev pub writes_from : ℕ → List ℕ → List Write
writes_from at [] = []
writes_from at (byte ∷ bytes) = record { at = at; byte = byte } ∷ writes_from (at + 1) bytes

-- INT3 into the first byte of each site
abbrev pub traps : List Change → List Write
traps changes = map (λ (c : Change). record { at = c.at; byte = 0xcc }) changes

-- the new bytes of each site but its first, site by site
abbrev pub tails : List Change → List Write
tails changes = flat_map (λ (c : Change). writes_from (c.at + 1) (drop 1 (spelled c.new c.at))) changes

-- the new first byte of each site
abbrev pub firsts : List Change → List Write
firsts changes = map (λ (c : Change). record { at = c.at; byte = slice_index (spelled c.new c.at) 0 }) changes

-- the items that are left of a chunk from the tails on, and from the first bytes on
abbrev pub from_firsts : List Change → List Item
from_firsts chunk = map Puts (firsts chunk) ++ Syncs ∷ []

abbrev pub from_tails : List Change → List Item
from_tails chunk = map Puts (tails chunk) ++ Syncs ∷ from_firsts chunk

-- the poke of one chunk
abbrev pub poke : List Change → List Item
poke chunk = map Puts (traps chunk) ++ Syncs ∷ from_tails chunk

-- changes cut into chunks of 256, at most n of them; the last may be smaller
abbrev pub cut : ℕ → List Change → List (List Change)
cut zero changes = []
cut (suc n) [] = []
cut (suc n) (c ∷ changes) = take 256 (c ∷ changes) ∷ cut n (drop 256 (c ∷ changes))

-- the chunks of an update
abbrev pub chunks : List Change → List (List Change)
chunks changes = cut (length changes) changes

-- the poke of an update, chunk by chunk
abbrev pub items : List Change → List Item
items changes = flat_map poke (chunks changes)
