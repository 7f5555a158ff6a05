-- The lines of the sites after a live run are printed site by site.
use Rattle.std.proofs.Common.{◌≡◌, ◌≤◌, ◌+◌, ◌++◌, ℕ, List, [], ◌∷◌, length, drop, Result, Ok, Err, Some, refl, sym, ap, ◌∙◌, subst, append-nil}
use Rattle.std.proofs.lemmas.List.{append_assoc}
use Rattle.std.specs.List.{slice_get}
use Rattle.module_parts.specs.declared.site.Site.{Site}
use Rattle.module_image.specs.SiteLine.{site_line}
use Rattle.poke_base.specs.declared.host.WriteFail.{WriteFail}
use Rattle.poke_base.specs.Host.{Outside, Prints}
use Rattle.poke_base.proofs.Outsides.{Prints-more, Prints-none, Prints-part}
use Rattle.live_trace.specs.SiteText.{bytes_after, code_here, live_site_lines}
use Rattle.live_trace.proofs.Dropping.{drop_all, drop_here}

-- the line of a site by the bytes that are left
abbrev pub next_line : ℕ → List ℕ → Site → List ℕ → List ℕ
next_line base text s bytes = site_line s (code_here base text s bytes)

-- the line of what a site holds here is that line
pub line_here : (base : ℕ) (text : List ℕ) (s : Site) (bytes code line : List ℕ) → line ≡ site_line s code → code ≡ code_here base text s bytes → line ≡ next_line base text s bytes
line_here base text s bytes code line is here = is ∙ ap (λ (c : List ℕ). site_line s c) here

-- the lines of the first sites were printed
pub record SitesPrinted (base : ℕ) (text : List ℕ) (sites : List Site) (bytes : List ℕ) (i : ℕ) (rest : List ℕ) (old new : Outside) : Type 0 where
  pub printed : List ℕ
  pub whole : printed ++ live_site_lines base text (drop i sites) rest ≡ live_site_lines base text sites bytes
  pub prints : Prints {T = Unit {0}} {E = WriteFail} old new printed (Ok tt)

pub no_site_printed : (base : ℕ) (text : List ℕ) (sites : List Site) (bytes : List ℕ) (old : Outside) → SitesPrinted base text sites bytes 0 bytes old old
no_site_printed base text sites bytes old = record { printed = []; whole = refl; prints = Prints-none old tt }

next_site : (base : ℕ) (text : List ℕ) (sites : List Site) (bytes : List ℕ) (i : ℕ) (s : Site) (rest : List ℕ) (old new : Outside) → (before : SitesPrinted base text sites bytes i rest old new) → slice_get sites i ≡ Some s → (before.printed ++ next_line base text s rest) ++ live_site_lines base text (drop (i + 1) sites) (bytes_after s rest) ≡ live_site_lines base text sites bytes
next_site base text sites bytes i s rest old new before there =
    append_assoc before.printed (next_line base text s rest) (live_site_lines base text (drop (i + 1) sites) (bytes_after s rest))
    ∙ ap (λ (left : List Site). before.printed ++ live_site_lines base text left rest) (sym (drop_here sites i s there))
    ∙ before.whole

pub site_printed : (base : ℕ) (text : List ℕ) (sites : List Site) (bytes : List ℕ) (i : ℕ) (s : Site) (rest later line : List ℕ) (old middle new : Outside) → SitesPrinted base text sites bytes i rest old middle → slice_get sites i ≡ Some s → line ≡ next_line base text s rest → later ≡ bytes_after s rest → Prints {T = Unit {0}} {E = WriteFail} middle new line (Ok tt) → SitesPrinted base text sites bytes (i + 1) later old new
site_printed base text sites bytes i s rest later line old middle new before there is later_is prints =
    subst (λ (left : List ℕ). SitesPrinted base text sites bytes (i + 1) left old new) (sym later_is) (record {
      printed = before.printed ++ next_line base text s rest;
      whole = next_site base text sites bytes i s rest old middle before there;
      prints =
          Prints-more old middle new before.printed (next_line base text s rest) tt (Ok tt) before.prints
          (subst (λ (t : List ℕ). Prints {T = Unit {0}} {E = WriteFail} middle new t (Ok tt)) is prints);
    })

pub site_failed : (base : ℕ) (text : List ℕ) (sites : List Site) (bytes : List ℕ) (i : ℕ) (s : Site) (rest line : List ℕ) (why : WriteFail) (old middle new : Outside) → SitesPrinted base text sites bytes i rest old middle → slice_get sites i ≡ Some s → line ≡ next_line base text s rest → Prints {T = Unit {0}} {E = WriteFail} middle new line (Err why) → Prints {T = Unit {0}} {E = WriteFail} old new (live_site_lines base text sites bytes) (Err why)
site_failed base text sites bytes i s rest line why old middle new before there is prints =
    subst (λ (t : List ℕ). Prints {T = Unit {0}} {E = WriteFail} old new t (Err why))
    (next_site base text sites bytes i s rest old middle before there)
    (Prints-part old middle new before.printed (next_line base text s rest) (live_site_lines base text (drop (i + 1) sites) (bytes_after s rest)) tt why before.prints
    (subst (λ (t : List ℕ). Prints {T = Unit {0}} {E = WriteFail} middle new t (Err why)) is prints))

pub sites_printed : (base : ℕ) (text : List ℕ) (sites : List Site) (bytes : List ℕ) (i : ℕ) (rest : List ℕ) (old new : Outside) → SitesPrinted base text sites bytes i rest old new → length sites ≤ i → Prints {T = Unit {0}} {E = WriteFail} old new (live_site_lines base text sites bytes) (Ok tt)
sites_printed base text sites bytes i rest old new before past =
    subst (λ (t : List ℕ). Prints {T = Unit {0}} {E = WriteFail} old new t (Ok tt))
    (sym (append-nil before.printed) ∙ ap (λ (left : List Site). before.printed ++ live_site_lines base text left rest) (sym (drop_all sites i past)) ∙ before.whole)
    before.prints
