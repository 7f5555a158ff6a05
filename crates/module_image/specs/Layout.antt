-- What a text is made of: sites and plain instructions.
use Rattle.std.specs.Prelude.{◌≡◌, ◌==◌, ◌||◌, ◌&&◌, ◌<◌, ◌≤◌, ℕ, ◌+◌, ◌-◌, Bool, true, false, not, nat_le, if◌then◌else◌, List, length, drop, position, slice_get, Option, Some, None, Ok, Err}
use Rattle.std.specs.List.{list_all}
use Rattle.elf_module.specs.Elf.{Elf}
use Rattle.x64_subset.specs.declared.insn.Insn.{Insn}
use Rattle.x64_subset.specs.declared.insn.Insn.TheVariants.{Jmp8, Jmp32, Ret, Hlt, Ud2, Int3}
use Rattle.x64_subset.specs.Reading.{Answer, read}
use Rattle.module_parts.specs.declared.site.Site.{Site}
use Rattle.module_parts.specs.declared.site.SiteKind.{SiteKind}
use Rattle.module_parts.specs.declared.site.SiteKind.TheVariants.{Jump, Call, Tail, Trace}
use Rattle.module_parts.specs.declared.unit.Unit.{Unit}
use Rattle.module_parts.specs.declared.unit.Unit.TheVariants.{Nothing, Plain, Site as PatchedSite}
use Rattle.module_names.specs.Entries.{base}
use Rattle.module_image.specs.Sites.{sites, text}

-- a text at an address, and its sites
pub record Layout : Type 0 where
  pub base : ℕ
  pub text : List ℕ
  pub sites : List Site

abbrev pub laid : ℕ → List ℕ → List Site → Layout
laid base text sites = record { base = base; text = text; sites = sites }

-- that of a module, after early writing
abbrev pub layout : Elf → Layout
layout elf = laid (base elf) (text elf) (sites elf)

abbrev pub text_end : Layout → ℕ
text_end t = t.base + length t.text

-- a site that isn't foreign begins there
abbrev pub is_patched_at : ℕ → Site → Bool
is_patched_at at s = not s.foreign && s.at == at

-- the number of the site that does
abbrev pub site_at : List Site → ℕ → Option ℕ
site_at sites at = position (is_patched_at at) sites

-- no such site begins between two addresses
abbrev pub is_clear : ℕ → ℕ → Site → Bool
is_clear from to s = s.foreign || (nat_le s.at from || nat_le to s.at)

abbrev pub no_site_between : List Site → ℕ → ℕ → Bool
no_site_between sites from to = list_all (is_clear from to) sites

-- what begins at an address, if a unit does: the site there, or else an instruction that ends before or at the next
-- site and inside the text
abbrev pub plain_unit : Layout → ℕ → Answer → Unit
plain_unit t at (Ok (insn, len)) =
    if nat_le (at + len) (text_end t) && no_site_between t.sites at (at + len) then Plain insn len else Nothing
plain_unit t at (Err why) = Nothing

abbrev pub unit_of : Layout → ℕ → Option ℕ → Unit
unit_of t at (Some n) = PatchedSite n
unit_of t at None = plain_unit t at (read at (drop (at - t.base) t.text))

abbrev pub unit_at : Layout → ℕ → Unit
unit_at t at = unit_of t at (site_at t.sites at)

-- how many bytes a unit has; 0 where there is none
abbrev pub len_of : Option Site → ℕ
len_of None = 0
len_of (Some s) = s.len

abbrev pub unit_len : Layout → Unit → ℕ
unit_len t Nothing = 0
unit_len t (Plain insn len) = len
unit_len t (PatchedSite n) = len_of (slice_get t.sites n)

-- the addresses where units begin: the least set that has the text's first address and, with a start, the end of its
-- unit where that lies inside the text
pub data IsStart (t : Layout) : ℕ → Type 0 where
  the_first : IsStart t t.base
  the_end : (a b : ℕ) → IsStart t a → 0 < unit_len t (unit_at t a) → a + unit_len t (unit_at t a) ≡ b → b < text_end t → IsStart t b

-- no unit begins at a start
pub record IsUndecoded (t : Layout) (at : ℕ) : Type 0 where
  pub start : IsStart t at
  pub missing : unit_len t (unit_at t at) ≡ 0

-- a list of units, by offset, is what the text is made of: it has a unit at the starts and nothing elsewhere
pub record IsNoted (t : Layout) (units : List Unit) (k : ℕ) : Type 0 where
  pub unit : Unit
  pub get : slice_get units k ≡ Some unit
  pub some : 0 < unit_len t unit

pub record IsSwept (t : Layout) (units : List Unit) : Type 0 where
  pub same_length : length units ≡ length t.text
  pub sound : (k : ℕ) (unit : Unit) → slice_get units k ≡ Some unit → 0 < unit_len t unit → IsStart t (t.base + k) × (unit_at t (t.base + k) ≡ unit)
  pub complete : (a : ℕ) → IsStart t a → (t.base ≤ a) × (a < text_end t) × IsNoted t units (a - t.base)
  pub blank : (k : ℕ) (unit : Unit) → slice_get units k ≡ Some unit → unit_len t unit ≡ 0 → unit ≡ Nothing

-- an instruction after which the processor never goes on to the next one
abbrev pub never_falls : Insn → Bool
never_falls (Jmp8 target) = true
never_falls (Jmp32 target) = true
never_falls Ret = true
never_falls Hlt = true
never_falls Ud2 = true
never_falls Int3 = true
never_falls _ = false

abbrev pub is_tail : SiteKind → Bool
is_tail (Jump target key likely) = false
is_tail (Call key) = false
is_tail (Tail key) = true
is_tail Trace = false

abbrev pub is_tail_site : Option Site → Bool
is_tail_site None = false
is_tail_site (Some s) = is_tail s.kind

-- a unit that may be the last of a text
abbrev pub may_end : Layout → Unit → Bool
may_end t Nothing = false
may_end t (Plain insn len) = never_falls insn
may_end t (PatchedSite n) = is_tail_site (slice_get t.sites n)

-- the last unit of the text may be followed by another
pub record IsFalling (t : Layout) (at : ℕ) : Type 0 where
  pub start : IsStart t at
  pub last : at + unit_len t (unit_at t at) ≡ text_end t
  pub falls : may_end t (unit_at t at) ≡ false
