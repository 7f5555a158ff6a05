-- The line of a site: where it is, what it is patched to, and what it holds.
use Rattle.std.specs.Prelude.{ℕ, if◌then◌else◌, List, [], ◌∷◌, ◌++◌, codes}
use Rattle.std.specs.List.{flat_map}
use Rattle.hex.specs.Hex.{encode_lower}
use Rattle.poke_base.specs.Number.{hexadecimal}
use Rattle.module_parts.specs.declared.site.Site.{Site}
use Rattle.module_parts.specs.declared.site.SiteKind.{SiteKind}
use Rattle.module_parts.specs.declared.site.SiteKind.TheVariants.{Jump, Call, Tail, Trace}
use Rattle.module_image.specs.Sites.{code_at}

abbrev pub kind_name : SiteKind → List ℕ
kind_name (Jump target key likely) = codes "jump"
kind_name (Call key) = codes "call"
kind_name (Tail key) = codes "tail"
kind_name Trace = codes "trace"

-- `site ADDR KIND BYTES`, with `foreign` after it where the site is
abbrev pub site_line : Site → List ℕ → List ℕ
site_line s code =
    codes "site " ++ hexadecimal s.at ++ codes " " ++ kind_name s.kind ++ codes " " ++ encode_lower code
    ++ (if s.foreign then codes " foreign" else []) ++ 10 ∷ []

-- the line of a site of a text
abbrev pub line_of : ℕ → List ℕ → Site → List ℕ
line_of base text s = site_line s (code_at base text s.at s.len)

-- the lines of all sites
abbrev pub site_lines : ℕ → List ℕ → List Site → List ℕ
site_lines base text sites = flat_map (line_of base text) sites
