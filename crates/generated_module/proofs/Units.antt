-- The units of a text whose sites were written: what begins at an address.
use Rattle.std.proofs.Common.{◌≡◌, ◌<◌, ◌≤◌, ◌+◌, ◌-◌, ◌∙◌, ◌++◌, ◌||◌, inl, inr, ℕ, Bool, true, false, List, length, take, drop, slice_get, Option, Some, None, Ok, refl, sym, ap, arith}
use Rattle.std.proofs.lemmas.Bool.{le-leb}
use Rattle.std.proofs.Math.Seq.{take-append_seam}
use Rattle.std.proofs.lemmas.List.{take-append-drop}
use Rattle.x64_subset.specs.declared.insn.Insn.{Insn}
use Rattle.x64_subset.specs.Reading.{read}
use Rattle.x64_subset.proofs.Spelt.{IsReadOf}
use Rattle.module_parts.specs.declared.site.Site.{Site}
use Rattle.module_parts.specs.declared.unit.Unit.TheVariants.{Plain, Site as PatchedSite}
use Rattle.module_image.specs.Aims.{insn_target, plain_target}
use Rattle.module_image.specs.Layout.{Layout, is_clear, is_patched_at, is_tail, len_of, is_tail_site, may_end, never_falls, no_site_between, plain_unit, site_at, text_end, unit_at, unit_len, unit_of}
use Rattle.module_image.specs.Sites.{code_at}
use Rattle.module_image.specs.Text.{AreApart, AreInside}
use Rattle.module_image.proofs.Between.{all_from}
use Rattle.module_image.proofs.Marking.{patched_parts, some_len}
use Rattle.module_image.proofs.Positions.{found_some}
use Rattle.module_image.proofs.UnitLaws.{site_unit}
use Rattle.module_laws.proofs.WrittenSites.{IsOff}
use Rattle.generated_module.proofs.Pieces.{Piece, IsPiece}

-- no site has bytes among those at an address
abbrev pub AllOff : Layout → ℕ → ℕ → Type 0
AllOff t at len = (i : ℕ) (s : Site) → slice_get t.sites i ≡ Some s → IsOff at len s

-- a text with sites, of which none is foreign, is that of a file but for the bytes of the sites
pub record IsWritten (t : Layout) (file : List ℕ) : Type 0 where
  pub same : length t.text ≡ length file
  pub kept : (at len : ℕ) → t.base ≤ at → AllOff t at len → code_at t.base t.text at len ≡ code_at t.base file at len
  pub inside : AreInside t.base (length t.text) t.sites
  pub apart : AreApart t.sites
  pub own : (i : ℕ) (s : Site) → slice_get t.sites i ≡ Some s → s.foreign ≡ false

-- no site begins there
no-site : (t : Layout) (file : List ℕ) → IsWritten t file → (at len : ℕ) → 0 < len → AllOff t at len → (o : Option ℕ) → site_at t.sites at ≡ o → o ≡ None
no-site t file is at len long off None found = refl
no-site t file is at len long off (Some i) found =
    let there = found_some (is_patched_at at) t.sites i found in
    let same = (patched_parts at there.item there.passes).1 in
    let some = some_len t.base (length t.text) there.item (is.inside i there.item there.here) in
    elim (off i there.item there.here) [
      | inl before ↦ absurd (omega (arith, before, same, long))
      | inr after ↦ absurd (omega (arith, after, same, some))
    ]

-- one of two tests passes
or-right : (a b : Bool) → b ≡ true → (a || b) ≡ true
or-right true b is = refl
or-right false b is = is

or-left : (a b : Bool) → a ≡ true → (a || b) ≡ true
or-left true b is = refl
or-left false b is = absurd (cc)

-- a site without a byte among them is clear of them
clear-off : (at len : ℕ) (s : Site) → IsOff at len s → is_clear at (at + len) s ≡ true
clear-off at len s (inl before) = or-right s.foreign _ (or-right _ _ (le-leb (at + len) s.at before))
clear-off at len s (inr after) = or-right s.foreign _ (or-left _ _ (le-leb s.at at (omega (arith, after))))

-- the plain instruction that the file's bytes spell, where no site has any of them
pub plain-unit : (t : Layout) (file : List ℕ) → IsWritten t file → (at : ℕ) (insn : Insn) (code rest : List ℕ) → t.base ≤ at → drop (at - t.base) file ≡ code ++ rest → IsReadOf insn at code → 0 < length code → at + length code ≤ text_end t → AllOff t at (length code) → unit_at t at ≡ Plain insn (length code)
plain-unit t file is at insn code rest low bytes reads long inside off =
    let len = length code in
    let here = drop (at - t.base) t.text in
    let holds : take len here ≡ code = is.kept at len low off ∙ ap (take len) bytes ∙ take-append_seam code rest in
    let whole : here ≡ code ++ drop len here = sym (take-append-drop len here) ∙ ap (λ (c : List ℕ). c ++ drop len here) holds in
    let answer : read at here ≡ Ok (insn, len) = ap (read at) whole ∙ reads (drop len here) in
    let none : site_at t.sites at ≡ None = no-site t file is at len long off (site_at t.sites at) refl in
    let clear : no_site_between t.sites at (at + len) ≡ true = all_from (is_clear at (at + len)) t.sites (λ i s get. clear-off at len s (off i s get)) in
    ap (unit_of t at) none ∙ ap (plain_unit t at) answer ∙ rw (le-leb (at + len) (text_end t) inside, clear) refl

-- a plain instruction, as a unit
abbrev pub plain : ℕ → ℕ → Insn → Piece
plain at len insn = record { at = at; len = len; target = insn_target insn; ends = never_falls insn }

pub plain-piece : (t : Layout) (file : List ℕ) → IsWritten t file → (at len : ℕ) (insn : Insn) (code rest : List ℕ) → length code ≡ len → t.base ≤ at → drop (at - t.base) file ≡ code ++ rest → IsReadOf insn at code → 0 < len → at + len ≤ text_end t → AllOff t at len → IsPiece t (plain at len insn)
plain-piece t file is at len insn code rest same low bytes reads long inside off =
    let unit : unit_at t at ≡ Plain insn len =
    plain-unit t file is at insn code rest low bytes reads (rw same long) (rw same inside) (rw same off) ∙ ap (Plain insn) same in
    record {
      len = ap (unit_len t) unit;
      long = long;
      target = ap plain_target unit;
      ends = ap (may_end t) unit;
    }

-- a site, as a unit
abbrev pub patched : Site → Piece
patched s = record { at = s.at; len = s.len; target = None; ends = is_tail s.kind }

pub site-piece : (t : Layout) (file : List ℕ) → IsWritten t file → (i : ℕ) (s : Site) → slice_get t.sites i ≡ Some s → IsPiece t (patched s)
site-piece t file is i s here =
    let unit : unit_at t s.at ≡ PatchedSite i = site_unit t i s is.inside is.apart here (is.own i s here) in
    let some = some_len t.base (length t.text) s (is.inside i s here) in
    record {
      len = ap (unit_len t) unit ∙ ap len_of here;
      long = omega (arith, some);
      target = ap plain_target unit;
      ends = ap (may_end t) unit ∙ ap is_tail_site here;
    }
