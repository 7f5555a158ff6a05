-- An accepted module.
use Rattle.std.specs.Prelude.{◌<◌, length, ◌≡◌, ℕ, ◌+◌, ◌-◌, Bool, true, false, ◌==◌, ◌&&◌, ◌%◌, ◌^◌, position, List, slice_get, slice_index_or, Option, Some, None, option_map, nat_lt, if◌then◌else◌}
use Rattle.std.specs.List.{All}
use Rattle.std.specs.Option.{unwrap_or}
use Rattle.elf_module.specs.Elf.{Elf}
use Rattle.insn_forms.specs.declared.forms.Form.{Form}
use Rattle.x64_subset.specs.declared.insn.Insn.{Insn}
use Rattle.module_parts.specs.declared.key.Key.{Key}
use Rattle.module_parts.specs.declared.key.KeyClass.{KeyClass}
use Rattle.module_parts.specs.declared.key.KeyClass.TheVariants.{Jump as JumpKey, Call as CallKey}
use Rattle.module_parts.specs.declared.site.Site.{Site}
use Rattle.module_parts.specs.declared.site.SiteKind.{SiteKind}
use Rattle.module_parts.specs.declared.site.SiteKind.TheVariants.{Jump, Call, Tail, Trace}
use Rattle.module_parts.specs.declared.unit.Unit.{Unit}
use Rattle.module_parts.specs.declared.unit.Unit.TheVariants.{Nothing, Plain, Site as PatchedSite}
use Rattle.module_names.specs.Entries.{base}
use Rattle.module_names.specs.Keys.{keys}
use Rattle.module_names.specs.Names.{Named, value_of, functions, key_names, tracer_name}
use Rattle.module_image.specs.Sites.{sites, text}
use Rattle.module_image.specs.Layout.{Layout, laid, layout, IsSwept}
use Rattle.module_image.specs.Aims.{AllLead, jump_aims, key_aims}
use Rattle.module_image.specs.Refusals.{Passes, function_aims, past_all}
use Rattle.module_image.specs.Wants.{state_of, wanted}

-- the text after early writing with what begins at each of its addresses, the sites and keys, and what the names of
-- functions and keys stand for
pub record Module : Type 0 where
  pub base : ℕ
  pub text : List ℕ
  pub units : List Unit
  pub sites : List Site
  pub keys : List Key
  pub functions : List Named
  pub jump_keys : List Named
  pub call_keys : List Named

abbrev pub layout_of : Module → Layout
layout_of m = laid m.base m.text m.sites

-- the names of the keys of a class
abbrev pub names_of : Module → KeyClass → List Named
names_of m JumpKey = m.jump_keys
names_of m CallKey = m.call_keys

-- the plain instruction that begins at an address, with its length
abbrev pub plain_of : Option Unit → Option (Insn × ℕ)
plain_of None = None
plain_of (Some Nothing) = None
plain_of (Some (Plain insn len)) = Some (insn, len)
plain_of (Some (PatchedSite n)) = None

abbrev pub plain_at : Module → ℕ → Option (Insn × ℕ)
plain_at m at = if nat_lt at m.base then None else plain_of (slice_get m.units (at - m.base))

-- the address of the function that is called at traced sites
abbrev pub tracer_of : Module → Option ℕ
tracer_of m = value_of tracer_name m.functions

-- a trace site, foreign ones too, begins at an address; its number
abbrev pub is_trace : SiteKind → Bool
is_trace (Jump target key likely) = false
is_trace (Call key) = false
is_trace (Tail key) = false
is_trace Trace = true

abbrev pub is_trace_at : ℕ → Site → Bool
is_trace_at at s = is_trace s.kind && s.at == at

abbrev pub trace_at : List Site → ℕ → Option ℕ
trace_at sites at = position (is_trace_at at) sites

-- the trace site of a function: at its address, or else four bytes after it, after ENDBR64
abbrev pub first_of : Option ℕ → Option ℕ → Option ℕ
first_of None second = second
first_of (Some n) second = Some n

abbrev pub trace_site_of : Module → ℕ → Option ℕ
trace_site_of m function = first_of (trace_at m.sites function) (trace_at m.sites ((function + 4) % 2 ^ 64))

-- what keys hold and which sites are traced, by the numbers of keys and sites
pub record States : Type 0 where
  pub keys : List ℕ
  pub traced : List Bool

-- the form that the site with a number wants
abbrev pub wants : Module → States → ℕ → Option Form
wants m states i =
    option_map
    (λ (s : Site). wanted (unwrap_or (tracer_of m) 0) (state_of states.keys s.kind) (slice_index_or states.traced i false) s.len s.kind)
    (slice_get m.sites i)

-- names stand for the same
abbrev pub SameNames : List Named → List Named → Type 0
SameNames kept ns = (name : List ℕ) → value_of name kept ≡ value_of name ns

-- no condition of a refusal holds of the file, and this is its module
pub record IsModule (elf : Elf) (m : Module) : Type 0 where
  pub passes : Passes elf past_all
  pub has_base : m.base ≡ base elf
  -- no address of the text, and none after it, wraps
  pub below : m.base + length m.text < 2 ^ 64
  pub has_text : m.text ≡ text elf
  pub bytes : All (λ byte. byte < 256) m.text
  pub has_sites : m.sites ≡ sites elf
  pub has_keys : m.keys ≡ keys elf
  pub swept : IsSwept (layout elf) m.units
  pub leads : AllLead (layout elf) (jump_aims (sites elf)) (key_aims (keys elf)) (function_aims (functions elf))
  pub named_functions : SameNames m.functions (functions elf)
  pub named_jump_keys : SameNames m.jump_keys (key_names elf JumpKey)
  pub named_call_keys : SameNames m.call_keys (key_names elf CallKey)

-- a module is accepted: it is that of some file
pub record IsAccepted (m : Module) : Type 0 where
  pub elf : Elf
  pub is : IsModule elf m
