-- What the sites of an accepted module hold after early writing.
use Rattle.std.specs.Prelude.{◌≡◌, ◌≢◌, ◌<◌, ◌≤◌, ◌⊎◌, ℕ, ◌+◌, true, false, List, length, slice_get, replicate, Some}
use Rattle.elf_module.specs.Elf.{Elf}
use Rattle.insn_forms.specs.declared.forms.Form.{Form}
use Rattle.insn_forms.specs.Spelling.{spell}
use Rattle.module_parts.specs.declared.site.Site.{Site}
use Rattle.module_names.specs.Entries.{file_text}
use Rattle.module_image.specs.Sites.{code_at, starts_of}
use Rattle.module_image.specs.Module.{Module, IsAccepted, IsModule, States, wants}
use Rattle.module_image.specs.Flows.{LeadWell}

-- the keys as the file has them, and no site traced
abbrev pub first_states : Module → States
first_states m = record { keys = starts_of m.keys; traced = replicate (length m.sites) false }

-- the form that a site wants has a spelling, of as many bytes as the site has, also where the site is foreign
abbrev pub WantedFormsReach : Type 0
WantedFormsReach =
    (m : Module) (states : States) (i : ℕ) (s : Site) (form : Form) → IsAccepted m → LeadWell m states
    → slice_get m.sites i ≡ Some s → wants m states i ≡ Some form
    → (code : List ℕ) × (spell form s.at ≡ Some code) × (length code ≡ s.len)

-- a site that isn't foreign holds what it wants with the keys as the file has them
abbrev pub SitesHoldWhatTheyWant : Type 0
SitesHoldWhatTheyWant =
    (m : Module) (i : ℕ) (s : Site) (form : Form) → IsAccepted m → slice_get m.sites i ≡ Some s → s.foreign ≡ false
    → wants m (first_states m) i ≡ Some form → spell form s.at ≡ Some (code_at m.base m.text s.at s.len)

-- a foreign site holds nothing that it ever wants
abbrev pub ForeignSitesHoldNoForm : Type 0
ForeignSitesHoldNoForm =
    (m : Module) (states : States) (i : ℕ) (s : Site) (form : Form) → IsAccepted m → slice_get m.sites i ≡ Some s
    → s.foreign ≡ true → wants m states i ≡ Some form → spell form s.at ≢ Some (code_at m.base m.text s.at s.len)

-- the keys as the file has them lead well
abbrev pub FirstStatesLeadWell : Type 0
FirstStatesLeadWell = (m : Module) → IsAccepted m → LeadWell m (first_states m)

-- a site has no byte at an address
abbrev pub IsBeside : ℕ → Site → Type 0
IsBeside at s = (at < s.at) ⊎ (s.at + s.len ≤ at)

-- early writing changes the bytes of patched sites alone, and doesn't change the length
abbrev pub OtherBytesAreTheFiles : Type 0
OtherBytesAreTheFiles =
    (elf : Elf) (m : Module) (k : ℕ) → IsModule elf m
    → ((i : ℕ) (s : Site) → slice_get m.sites i ≡ Some s → s.foreign ≡ false → IsBeside (m.base + k) s)
    → slice_get m.text k ≡ slice_get (file_text elf) k

abbrev pub LengthIsTheFiles : Type 0
LengthIsTheFiles = (elf : Elf) (m : Module) → IsModule elf m → length m.text ≡ length (file_text elf)

-- so a foreign site holds what the file has there
abbrev pub ForeignSitesAreTheFiles : Type 0
ForeignSitesAreTheFiles =
    (elf : Elf) (m : Module) (i : ℕ) (s : Site) → IsModule elf m → slice_get m.sites i ≡ Some s → s.foreign ≡ true
    → code_at m.base m.text s.at s.len ≡ code_at m.base (file_text elf) s.at s.len
