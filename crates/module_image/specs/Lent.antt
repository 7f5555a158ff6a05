-- What an accepted module promises to whoever is lent it: what the numbers, addresses and instructions that it hands
-- out stand for.
use Rattle.std.specs.Prelude.{◌≡◌, ◌<◌, ◌≤◌, ℕ, ◌+◌, ◌^◌, ⊤, true, false, List, length, slice_get, Some, IsSome}
use Rattle.x64_subset.specs.declared.insn.Insn.{Insn}
use Rattle.x64_subset.specs.Subset.{is_listed}
use Rattle.module_parts.specs.declared.key.Key.{Key}
use Rattle.module_parts.specs.declared.key.KeyClass.{KeyClass}
use Rattle.module_parts.specs.declared.key.KeyClass.TheVariants.{Jump as JumpKey, Call as CallKey}
use Rattle.module_parts.specs.declared.site.Site.{Site}
use Rattle.module_parts.specs.declared.site.SiteKind.{SiteKind}
use Rattle.module_parts.specs.declared.site.SiteKind.TheVariants.{Jump, Call, Tail, Trace}
use Rattle.module_image.specs.Layout.{IsStart}
use Rattle.module_image.specs.Module.{Module, IsAccepted, layout_of, trace_site_of, tracer_of}
use Rattle.module_names.specs.Names.{Named, value_of}
use Rattle.module_image.specs.Text.{AreApart, AreInside}

-- a number is that of a key of a class
pub record IsKeyOf (keys : List Key) (class : KeyClass) (number : ℕ) : Type 0 where
  pub below : number < length keys
  pub key : Key
  pub here : slice_get keys number ≡ Some key
  pub is : key.class ≡ class

-- the key of a site, which a trace site hasn't, is of the class that its kind asks for
abbrev pub IsKeyed : List Key → SiteKind → Type 0
IsKeyed keys (Jump target key likely) = IsKeyOf keys JumpKey key
IsKeyed keys (Call key) = IsKeyOf keys CallKey key
IsKeyed keys (Tail key) = IsKeyOf keys CallKey key
IsKeyed keys Trace = ⊤

abbrev pub KeysAreKnown : List Site → List Key → Type 0
KeysAreKnown sites keys = (i : ℕ) (s : Site) → slice_get sites i ≡ Some s → IsKeyed keys s.kind

-- what names stand for are the numbers of keys of a class
abbrev pub NamesAreKnown : List Key → KeyClass → List Named → Type 0
NamesAreKnown keys class names = (name : List ℕ) (number : ℕ) → value_of name names ≡ Some number → IsKeyOf keys class number

-- a number is that of a trace site
pub record IsTraceSite (sites : List Site) (number : ℕ) : Type 0 where
  pub below : number < length sites
  pub site : Site
  pub here : slice_get sites number ≡ Some site
  pub is : site.kind ≡ Trace

-- a number is that of a site that begins at an address and isn't foreign
pub record IsPatchedSite (sites : List Site) (at number : ℕ) : Type 0 where
  pub below : number < length sites
  pub site : Site
  pub here : slice_get sites number ≡ Some site
  pub begins : site.at ≡ at
  pub ours : site.foreign ≡ false

-- an instruction of the subset of 1 to 9 bytes, which are in the text from an address on
pub record IsInsnAt (m : Module) (at : ℕ) (found : Insn × ℕ) : Type 0 where
  pub listed : is_listed found.0 ≡ true
  pub some : 1 ≤ found.1
  pub few : found.1 ≤ 9
  pub from : m.base ≤ at
  pub to : at + found.1 ≤ m.base + length m.text

-- an address of the text at which a unit begins
pub record IsPlaceOf (m : Module) (at : ℕ) : Type 0 where
  pub start : IsStart (layout_of m) at
  pub from : m.base ≤ at
  pub to : at < m.base + length m.text

-- where the sites of a module lie, that their keys are known, and that there are few of both
pub record IsLaidOut (m : Module) : Type 0 where
  pub inside : AreInside m.base (length m.text) m.sites
  pub apart : AreApart m.sites
  pub few : length m.sites ≤ 1024
  pub known : KeysAreKnown m.sites m.keys
  pub few_keys : length m.keys ≤ 1024
  pub below : m.base + length m.text < 2 ^ 64

abbrev pub SitesAreLaidOut : Type 0
SitesAreLaidOut = (m : Module) → IsAccepted m → IsLaidOut m

-- what the names of a module's keys stand for
abbrev pub KeyNamesAreKnown : Type 0
KeyNamesAreKnown = (m : Module) → IsAccepted m → NamesAreKnown m.keys JumpKey m.jump_keys × NamesAreKnown m.keys CallKey m.call_keys

-- what is found for a function is a trace site
abbrev pub TraceSitesAreFound : Type 0
TraceSitesAreFound =
    (m : Module) (function n : ℕ) → IsAccepted m → trace_site_of m function ≡ Some n → IsTraceSite m.sites n

-- a static key's count in the file isn't negative
abbrev pub CountsFit : Type 0
CountsFit =
    (m : Module) (k : ℕ) (key : Key) → IsAccepted m → slice_get m.keys k ≡ Some key → key.class ≡ JumpKey
    → key.start < 2 ^ 31

-- where there is a trace site there is a tracer
abbrev pub TraceSitesHaveATracer : Type 0
TraceSitesHaveATracer = (m : Module) (i : ℕ) → IsAccepted m → IsTraceSite m.sites i → IsSome (tracer_of m)
