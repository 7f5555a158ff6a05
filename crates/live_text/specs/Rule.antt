-- The rule of the table: what holds of its words and of the views of all seats between any two steps.
-- The words are the bytes of the sites, the generation (how many requests were stored), and an acknowledgement for each
-- processor.
use Rattle.std.specs.Prelude.{◌≡◌, ◌≤◌, ◌<◌, ◌+◌, ℕ, false, List, ◌∷◌, length, slice_index, slice_index_or, Option, Some, None}
use mathlib.Core.Option.{some}
use lib.ListN.{get_elem?}
use Rattle.atomic_table.specs.Table.{State}
use Rattle.live_text.specs.declared.view.Shape.{Shape}
use Rattle.live_text.specs.declared.view.PatchView.{PatchView}
use Rattle.live_text.specs.declared.view.CpuView.{CpuView}
use Rattle.live_text.specs.declared.view.View.{View}
use Rattle.live_text.specs.declared.view.Role.TheVariants.{Patch, Cpu}
use Rattle.live_text.specs.Past.{value, cut, Found, IsShape}

-- the word of the generation, and of a processor's acknowledgement; that of a byte is its number
abbrev pub generation_word : Shape → ℕ
generation_word p = length p.starts

abbrev pub ack_word : Shape → ℕ → ℕ
ack_word p cpu = length p.starts + 1 + cpu

-- what a processor has cached of a byte
abbrev pub cached : CpuView → ℕ → Option ℕ
cached x b = slice_index_or x.cache b None

-- the words are those of the patch seat's place
pub record Leads (p : Shape) (words : List ℕ) (x : PatchView) : Type 0 where
  pub generation : slice_index words (generation_word p) ≡ x.stored
  pub bytes : (b : ℕ) → b < length p.starts → slice_index words b ≡ value p x.done b
  -- it stands between the request that it stored last and the next
  pub from : cut p x.stored ≤ x.done
  pub to : x.done ≤ cut p (x.stored + 1)
  pub requests : x.stored < length p.cuts
  -- it has a lower bound for each acknowledgement, and no item after a request stands before all bounds reach that request
  pub bounds_size : length x.bounds ≡ p.cpus
  pub bound : (c : ℕ) → c < p.cpus → slice_index x.bounds c ≤ slice_index words (ack_word p c)
  pub asked : (c : ℕ) → c < p.cpus → x.stored ≤ slice_index x.bounds c + 1
  pub settled : (c : ℕ) → c < p.cpus → cut p x.stored < x.done → x.stored ≤ slice_index x.bounds c

-- processor c, where the patch seat has stored so many writes and requests and this is the processor's acknowledgement word
pub record Fits (p : Shape) (done stored word c : ℕ) (x : CpuView) : Type 0 where
  pub number : x.number ≡ c
  pub word_is : word ≡ x.ack
  -- it has loaded no generation that wasn't stored, and knows the writes before that request
  pub greatest : x.greatest ≤ stored
  pub knows : cut p x.greatest ≤ x.known
  pub place : x.known ≤ done
  -- it has acknowledged no more, and its mark isn't before the writes of that request
  pub acked : x.left ≡ false → x.ack ≤ x.greatest
  pub mark_below : x.mark ≤ x.known
  pub mark_above : x.left ≡ false → cut p x.ack ≤ x.mark
  -- each cached byte is one that stood there from the mark on
  pub cache_size : length x.cache ≡ length p.starts
  pub cache_is : (b v : ℕ) → cached x b ≡ Some v → Found p x.mark x.known b v

pub record Follows (p : Shape) (words : List ℕ) (x : PatchView) (c : ℕ) (v : View) : Type 0 where
  pub role : v.role ≡ Cpu
  pub shape : v.shape ≡ p
  pub fits : Fits p x.done x.stored (slice_index words (ack_word p c)) c v.cpu

-- the whole table
pub record Live (p : Shape) (s : State (Unit {0}) View) : Type 0 where
  pub sound : IsShape p
  pub size : length s.words ≡ length p.starts + (p.cpus + 1)
  -- the patch seat has the first view, processor c the one after c others
  pub patch : View
  pub others : List View
  pub views_are : s.views ≡ patch ∷ others
  pub patch_role : patch.role ≡ Patch
  pub patch_shape : patch.shape ≡ p
  pub leads : Leads p s.words patch.patch
  pub split : patch.patch.split ≡ length others
  pub few : length others ≤ p.cpus
  pub follows : (c : ℕ) (v : View) → get_elem? others c ≡ some v → Follows p s.words patch.patch c v
  -- the acknowledgement of a processor that has no seat yet is 0
  pub unsplit : (c : ℕ) → length others ≤ c → c < p.cpus → slice_index s.words (ack_word p c) ≡ 0
