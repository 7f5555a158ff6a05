-- The lines of a running machine's sites are printed site by site.
use Rattle.std.proofs.Common.{◌≡◌, ◌∙◌, ◌+◌, ◌<◌, ℕ, List, length, take, false, Option, Some, Ok, Err, ap, slice_index_or}
use Rattle.std.specs.List.{flat_map, slice_get}
use Rattle.std.proofs.lemmas.Option.{slice_get-get_or}
use Rattle.module_parts.specs.declared.site.Site.{Site}
use Rattle.module_parts.specs.declared.site.SiteKind.TheVariants.{Trace}
use Rattle.module_image.specs.Module.{Module}
use Rattle.module_image.specs.SiteLine.{line_of, site_lines}
use Rattle.poke_base.specs.declared.host.WriteFail.{WriteFail}
use Rattle.poke_base.specs.Host.{Outside, Prints}
use Rattle.script_runner.specs.TraceText.{line_of_found, numbered_line}
use Rattle.poke_base.proofs.ItemLines.{item_failed, item_printed}

-- what stands where a list has no site
blank : Site
blank = record { at = 0; len = 0; kind = Trace; foreign = false }

-- the line of a site, by its number, is that of the site
record NumberedSite (m : Module) (text : List ℕ) (number : ℕ) : Type 0 where
  site : Site
  there : slice_get m.sites number ≡ Some site
  is : numbered_line m text number ≡ line_of m.base text site

numbered_site : (m : Module) (text : List ℕ) (number : ℕ) → number < length m.sites → NumberedSite m text number
numbered_site m text number below =
    let there : slice_get m.sites number ≡ Some (slice_index_or m.sites number blank) = slice_get-get_or m.sites number blank below in
    record {
      site = slice_index_or m.sites number blank;
      there = there;
      is = ap (λ (found : Option Site). line_of_found m.base text found) there;
    }

pub site_printed : (m : Module) (text : List ℕ) (number : ℕ) (line : List ℕ) (old middle new : Outside) → number < length m.sites → Prints {T = Unit {0}} {E = WriteFail} old middle (flat_map (line_of m.base text) (take number m.sites)) (Ok tt) → line ≡ numbered_line m text number → Prints {T = Unit {0}} {E = WriteFail} middle new line (Ok tt) → Prints {T = Unit {0}} {E = WriteFail} old new (flat_map (line_of m.base text) (take (number + 1) m.sites)) (Ok tt)
site_printed m text number line old middle new below before is prints =
    let at_number : NumberedSite m text number = numbered_site m text number below in
    item_printed (line_of m.base text) m.sites number at_number.site line old middle new at_number.there before (is ∙ at_number.is) prints

pub site_failed : (m : Module) (text : List ℕ) (number : ℕ) (line : List ℕ) (why : WriteFail) (old middle new : Outside) → number < length m.sites → Prints {T = Unit {0}} {E = WriteFail} old middle (flat_map (line_of m.base text) (take number m.sites)) (Ok tt) → line ≡ numbered_line m text number → Prints {T = Unit {0}} {E = WriteFail} middle new line (Err why) → Prints {T = Unit {0}} {E = WriteFail} old new (site_lines m.base text m.sites) (Err why)
site_failed m text number line why old middle new below before is prints =
    let at_number : NumberedSite m text number = numbered_site m text number below in
    item_failed (line_of m.base text) m.sites number at_number.site line why old middle new at_number.there before (is ∙ at_number.is) prints
