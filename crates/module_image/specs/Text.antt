-- The text and the tables that were found in a file, as the program holds them.
use Rattle.std.specs.Prelude.{◌≡◌, ◌<◌, ◌≤◌, ℕ, ◌+◌, ◌^◌, ◌⊎◌, List, length, slice_get, Some}
use Rattle.elf_module.specs.Elf.{Elf}
use Rattle.module_image.specs.declared.text.Text.{Text}
use Rattle.module_image.specs.declared.text.Code.{Code}
use Rattle.module_parts.specs.declared.site.Site.{Site}
use Rattle.module_names.specs.Entries.{base, text_index, file_text}
use Rattle.module_image.specs.Layout.{Layout, laid}

-- the text of a file, which has 1 to 65,536 bytes and ends below the last address
pub record IsText (elf : Elf) (found : Text) : Type 0 where
  pub index : found.index ≡ text_index elf
  pub same_base : found.base ≡ base elf
  pub same_bytes : found.bytes.now ≡ file_text elf
  pub some : 0 < length found.bytes.now
  pub short : length found.bytes.now ≤ 65536
  pub below : found.base + length found.bytes.now < 2 ^ 64

-- the layout of a text with its sites
abbrev pub layout_in : Code → Layout
layout_in code = laid code.base code.bytes.now code.sites.now

-- a site has 2 or 5 bytes, which all are in the text
pub record IsInside (base size : ℕ) (s : Site) : Type 0 where
  pub from : base ≤ s.at
  pub to : s.at + s.len ≤ base + size
  pub two_or_five : (s.len ≡ 2) ⊎ (s.len ≡ 5)

abbrev pub AreInside : ℕ → ℕ → List Site → Type 0
AreInside base size sites = (i : ℕ) (s : Site) → slice_get sites i ≡ Some s → IsInside base size s

-- no two sites share a byte, and they ascend
abbrev pub AreApart : List Site → Type 0
AreApart sites = (i j : ℕ) (s u : Site) → i < j → slice_get sites i ≡ Some s → slice_get sites j ≡ Some u → s.at + s.len ≤ u.at
