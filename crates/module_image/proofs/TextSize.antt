-- The text of a module has 1 to 65,536 bytes.
use Rattle.std.proofs.Common.{◌≡◌, ◌≤◌, ◌∙◌, inl, inr, ℕ, List, length, Option, Some, None, refl, sym, ap, subst, arith}
use Rattle.std.proofs.lemmas.Bool.{cases_lt}
use Rattle.elf_module.specs.Elf.{Elf, SectionRecord}
use Rattle.module_parts.specs.declared.refused.Refused.TheVariants.{TextCount, TextSize}
use Rattle.module_names.specs.Entries.{bytes_of, file_text, text_section, text_sections}
use Rattle.module_image.specs.Module.{IsModule, Module}
use Rattle.module_image.specs.Refusals.{IsBadText, Passes, past_all, past_site_overlap, past_text_size}
use Rattle.module_image.proofs.Counted.{none_named}
use Rattle.module_image.proofs.Sound.{passes_before}
use Rattle.module_image.proofs.TextLength.{length_text}

pub short_text : (elf : Elf) → Passes elf past_text_size → length (file_text elf) ≤ 65536
short_text elf passes = by (text_section elf) refl
  where
    by : (o : Option SectionRecord) → text_section elf ≡ o → length (bytes_of o) ≤ 65536
    by None is = omega arith
    by (Some s) is = elim (cases_lt 65536 (length s.content)) [
      | inl long ↦ absurd (passes.none (TextSize s.size) (omega arith) (subst (λ (o : Option SectionRecord). IsBadText o s.size) (sym is) (inr (inl long), refl)))
      | inr short ↦ short
    ]

some_text : (elf : Elf) → Passes elf past_text_size → 1 ≤ length (file_text elf)
some_text elf passes = by (text_section elf) refl
  where
    by : (o : Option SectionRecord) → text_section elf ≡ o → 1 ≤ length (bytes_of o)
    by None is =
        let none : length (text_sections elf) ≡ 0 = none_named elf.sections is in
        absurd (passes.none (TextCount (length (text_sections elf))) (omega arith) (λ one. omega (arith, one, none), refl))
    by (Some s) is = elim (cases_lt 0 (length s.content)) [
      | inl some ↦ omega (arith, some)
      | inr none ↦ (
          let empty : length s.content ≡ 0 = omega (arith, none) in
          absurd (passes.none (TextSize s.size) (omega arith) (subst (λ (o : Option SectionRecord). IsBadText o s.size) (sym is) (inl empty, refl))))
    ]

-- early writing doesn't change the length
pub module_length : (elf : Elf) (m : Module) → IsModule elf m → length m.text ≡ length (file_text elf)
module_length elf m is = ap (λ (t : List ℕ). length t) is.has_text ∙ length_text elf (passes_before elf past_site_overlap past_all (omega arith) is.passes)

pub some_bytes : (elf : Elf) (m : Module) → IsModule elf m → 1 ≤ length m.text
some_bytes elf m is =
    let some = some_text elf (passes_before elf past_text_size past_all (omega arith) is.passes) in
    let same = module_length elf m is in
    omega (arith, some, same)

pub few_bytes : (elf : Elf) (m : Module) → IsModule elf m → length m.text ≤ 65536
few_bytes elf m is =
    let short = short_text elf (passes_before elf past_text_size past_all (omega arith) is.passes) in
    let same = module_length elf m is in
    omega (arith, short, same)
