-- How many bytes the sites of calls and traces have.
use Rattle.std.specs.Prelude.{◌≡◌, ℕ, ⊤, List, slice_get, Some}
use Rattle.module_parts.specs.declared.site.Site.{Site}
use Rattle.module_parts.specs.declared.site.SiteKind.{SiteKind}
use Rattle.module_parts.specs.declared.site.SiteKind.TheVariants.{Jump, Call, Tail, Trace}

-- the sites of calls and traces have five bytes
abbrev pub HasCallLen : ℕ → SiteKind → Type 0
HasCallLen len (Jump target key likely) = ⊤
HasCallLen len (Call key) = len ≡ 5
HasCallLen len (Tail key) = len ≡ 5
HasCallLen len Trace = len ≡ 5

abbrev pub HaveCallLens : List Site → Type 0
HaveCallLens sites = (i : ℕ) (s : Site) → slice_get sites i ≡ Some s → HasCallLen s.len s.kind
