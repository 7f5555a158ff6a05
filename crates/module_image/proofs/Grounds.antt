-- What an accepted module gives of its text: where its units lead, and that none falls off its end.
use Rattle.std.proofs.Common.{◌≡◌, ◌∙◌, ◌<◌, ◌≤◌, ◌+◌, ◌^◌, inl, inr, ℕ, false, List, length, Some, slice_get, sym, ap, subst, arith}
use Rattle.std.proofs.lemmas.Bool.{cases_lt}
use Rattle.elf_module.specs.Elf.{Elf}
use Rattle.insn_forms.specs.Spelling.{after}
use Rattle.x64_subset.specs.declared.insn.Insn.{Insn}
use Rattle.module_parts.specs.declared.refused.Refused.TheVariants.{EndFalls}
use Rattle.module_parts.specs.declared.site.Site.{Site}
use Rattle.module_parts.specs.declared.unit.Unit.{Unit}
use Rattle.module_parts.specs.declared.unit.Unit.TheVariants.{Plain}
use Rattle.module_image.specs.Aims.{AllLead, jump_aims, key_aims}
use Rattle.module_names.specs.Entries.{base}
use Rattle.module_names.specs.Keys.{keys}
use Rattle.module_image.specs.Layout.{Layout, IsFalling, IsStart, IsSwept, is_tail_site, laid, layout, len_of, may_end, never_falls, text_end, unit_at, unit_len}
use Rattle.module_image.specs.Layout.IsStart.{the_end}
use Rattle.module_image.specs.Module.{Module, IsModule, layout_of}
use Rattle.module_names.specs.Names.{functions}
use Rattle.module_image.specs.Refusals.{function_aims, past_all, past_site_overlap}
use Rattle.module_image.specs.Sites.{sites, text}
use Rattle.module_image.specs.Text.{AreApart, AreInside}
use Rattle.module_image.proofs.SiteLaws.{sites_apart_passed}
use Rattle.module_image.proofs.Sound.{inside_passed, passes_before}
use Rattle.module_image.proofs.Starts.{noted_unit}
use Rattle.module_image.proofs.TextLength.{length_text}
use Rattle.module_image.proofs.UnitLaws.{site_starts_swept, site_unit, unit_plain}

-- a swept text of which no unit falls off the end, with its sites
pub record IsGround (t : Layout) (units : List Unit) : Type 0 where
  pub swept : IsSwept t units
  pub ends : (at : ℕ) → IsFalling t at → ⊥
  pub inside : AreInside t.base (length t.text) t.sites
  pub apart : AreApart t.sites

-- the layout of the file is that of its module
pub same_layout : (elf : Elf) (m : Module) → IsModule elf m → layout elf ≡ layout_of m
same_layout elf m is =
    ap (λ (b : ℕ). laid b (text elf) (sites elf)) (sym is.has_base) ∙ ap (λ (bytes : List ℕ). laid m.base bytes (sites elf)) (sym is.has_text)
    ∙ ap (λ (ss : List Site). laid m.base m.text ss) (sym is.has_sites)

file_ground : (elf : Elf) (m : Module) → IsModule elf m → IsGround (layout elf) m.units
file_ground elf m is =
    let early = passes_before elf past_site_overlap past_all (omega arith) is.passes in
    record {
      swept = is.swept;
      ends = λ at falling. is.passes.none (EndFalls at) (omega arith) falling;
      inside = subst (λ (n : ℕ). AreInside (base elf) n (sites elf)) (sym (length_text elf early)) (inside_passed elf early);
      apart = sites_apart_passed elf early;
    }

pub module_ground : (elf : Elf) (m : Module) → IsModule elf m → IsGround (layout_of m) m.units
module_ground elf m is = subst (λ (t : Layout). IsGround t m.units) (same_layout elf m is) (file_ground elf m is)

pub module_leads : (elf : Elf) (m : Module) → IsModule elf m → AllLead (layout_of m) (jump_aims (sites elf)) (key_aims (keys elf)) (function_aims (functions elf))
module_leads elf m is =
    subst (λ (t : Layout). AllLead t (jump_aims (sites elf)) (key_aims (keys elf)) (function_aims (functions elf))) (same_layout elf m is) is.leads

-- addresses inside a text that ends below the last address don't wrap
no_wrap : (at len : ℕ) → at + len < 2 ^ 64 → at + len ≡ after at len
no_wrap at len below = omega (arith, below)

-- where a unit goes on, the next one begins
next_start : (t : Layout) (units : List Unit) (at : ℕ) → IsGround t units → text_end t < 2 ^ 64 → IsStart t at → at + unit_len t (unit_at t at) ≤ text_end t → may_end t (unit_at t at) ≡ false → IsStart t (after at (unit_len t (unit_at t at)))
next_start t units at ground below start within falls =
    let there = noted_unit t units at ground.swept start in
    elim (cases_lt (at + unit_len t (unit_at t at)) (text_end t)) [
      | inl inside ↦ the_end at (after at (unit_len t (unit_at t at))) start there.3 (no_wrap at (unit_len t (unit_at t at)) (omega (arith, inside, below))) (let same = no_wrap at (unit_len t (unit_at t at)) (omega (arith, inside, below)) in omega (arith, same, inside))
      | inr outside ↦ absurd (ground.ends at (record { start = start; last = omega (arith, within, outside); falls = falls }))
    ]

pub plain_next : (t : Layout) (units : List Unit) (at : ℕ) (insn : Insn) (len : ℕ) → IsGround t units → text_end t < 2 ^ 64 → IsStart t at → unit_at t at ≡ Plain insn len → never_falls insn ≡ false → IsStart t (after at len)
plain_next t units at insn len ground below start unit falls =
    let size : unit_len t (unit_at t at) ≡ len = ap (unit_len t) unit in
    let within = (unit_plain t at insn len unit).inside in
    subst (λ (n : ℕ). IsStart t (after at n)) size
    (next_start t units at ground below start (omega (arith, size, within)) (ap (may_end t) unit ∙ falls))

pub site_next : (t : Layout) (units : List Unit) (i : ℕ) (s : Site) → IsGround t units → text_end t < 2 ^ 64 → slice_get t.sites i ≡ Some s → s.foreign ≡ false → is_tail_site (Some s) ≡ false → IsStart t (after s.at s.len)
site_next t units i s ground below here ours falls =
    let start = site_starts_swept t units i s ground.inside ground.apart ground.swept here ours in
    let unit = site_unit t i s ground.inside ground.apart here ours in
    let size : unit_len t (unit_at t s.at) ≡ s.len = ap (unit_len t) unit ∙ ap len_of here in
    let within = (ground.inside i s here).to in
    subst (λ (n : ℕ). IsStart t (after s.at n)) size
    (next_start t units s.at ground below start (omega (arith, size, within)) (ap (may_end t) unit ∙ ap is_tail_site here ∙ falls))

-- a site that isn't foreign begins at a start
pub site_start : (t : Layout) (units : List Unit) (i : ℕ) (s : Site) → IsGround t units → slice_get t.sites i ≡ Some s → s.foreign ≡ false → IsStart t s.at
site_start t units i s ground here ours = site_starts_swept t units i s ground.inside ground.apart ground.swept here ours
