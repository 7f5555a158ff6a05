-- Where processors may stand in an accepted module: instructions and patched sites lead from starts to starts.
use Rattle.std.specs.Prelude.{◌≡◌, ◌<◌, ◌≤◌, ◌⊎◌, ℕ, false, List, length, slice_get, slice_index, Some, None}
use Rattle.insn_forms.specs.declared.forms.Form.{Form}
use Rattle.x64_subset.specs.declared.insn.Insn.{Insn}
use Rattle.x64_subset.specs.declared.proc.Proc.{Proc}
use Rattle.x64_subset.specs.declared.proc.Life.TheVariants.{Running}
use Rattle.x64_subset.specs.Effect.{does}
use Rattle.x64_subset.specs.Whole.{whole}
use Rattle.module_parts.specs.declared.key.Key.{Key}
use Rattle.module_parts.specs.declared.key.KeyClass.TheVariants.{Call as CallKey}
use Rattle.module_parts.specs.declared.site.Site.{Site}
use Rattle.module_image.specs.Layout.{Layout, IsStart, site_at}
use Rattle.module_image.specs.Lent.{IsPatchedSite}
use Rattle.module_names.specs.Names.{value_of}
use Rattle.module_image.specs.Module.{Module, IsAccepted, States, layout_of, plain_at, wants}

-- a running processor stands at a start, and each address to which it returns is one
pub record Flows (t : Layout) (p : Proc) : Type 0 where
  pub stands : p.life ≡ Running → IsStart t p.ip
  pub room : length p.stack ≡ 64
  pub few : p.depth ≤ 64
  pub returns : (i : ℕ) → i < p.depth → IsStart t (slice_index p.stack i)

-- the keys of calls hold no function, or a start
abbrev pub LeadWell : Module → States → Type 0
LeadWell m states =
    (k : ℕ) (key : Key) → slice_get m.keys k ≡ Some key → key.class ≡ CallKey
    → (slice_index states.keys k ≡ 0) ⊎ IsStart (layout_of m) (slice_index states.keys k)

-- a plain instruction of an accepted module leads to a start
abbrev pub PlainInstructionsFlow : Type 0
PlainInstructionsFlow =
    (m : Module) (p : Proc) (insn : Insn) (len : ℕ) → IsAccepted m → Flows (layout_of m) p → p.life ≡ Running
    → plain_at m p.ip ≡ Some (insn, len) → Flows (layout_of m) (does insn len p).0

-- and so does the form that a site wants that isn't foreign, done as a whole
abbrev pub PatchedSitesFlow : Type 0
PatchedSitesFlow =
    (m : Module) (states : States) (i : ℕ) (s : Site) (form : Form) (p : Proc) → IsAccepted m → LeadWell m states
    → slice_get m.sites i ≡ Some s → s.foreign ≡ false → wants m states i ≡ Some form → Flows (layout_of m) p
    → p.life ≡ Running → Flows (layout_of m) (whole form s.at p).0

-- functions are starts, so a processor may begin at them
abbrev pub FunctionsAreStarts : Type 0
FunctionsAreStarts =
    (m : Module) (name : List ℕ) (at : ℕ) → IsAccepted m
    → value_of name m.functions ≡ Some at → IsStart (layout_of m) at

-- a site that isn't foreign begins at a start, so a processor that stands there has its form, not a plain instruction
abbrev pub SitesAreStarts : Type 0
SitesAreStarts =
    (m : Module) (i : ℕ) (s : Site) → IsAccepted m → slice_get m.sites i ≡ Some s → s.foreign ≡ false
    → IsStart (layout_of m) s.at × (plain_at m s.at ≡ None)

-- what begins at a start: a patched site, or a plain instruction, and never both
pub record HasSite (m : Module) (at : ℕ) : Type 0 where
  pub number : ℕ
  pub is : IsPatchedSite m.sites at number
  pub no_insn : plain_at m at ≡ None

pub record HasInsn (m : Module) (at : ℕ) : Type 0 where
  pub insn : Insn
  pub len : ℕ
  pub is : plain_at m at ≡ Some (insn, len)
  pub no_site : site_at m.sites at ≡ None

abbrev pub StartsHaveUnits : Type 0
StartsHaveUnits = (m : Module) (at : ℕ) → IsAccepted m → IsStart (layout_of m) at → HasSite m at ⊎ HasInsn m at
