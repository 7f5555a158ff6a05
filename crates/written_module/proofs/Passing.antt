-- The file of a plan is read: no condition of a refusal holds.
use Rattle.std.proofs.Common.{◌≡◌, ◌<◌, ◌≤◌, ◌+◌, ◌*◌, ◌∙◌, ℕ, List, [], ◌∷◌, length, take, Option, Some, refl, sym, ap, subst, arith, inl, inr}
use Rattle.std.proofs.lemmas.Bool.{cases_eq, true≢false}
use Rattle.elf_module.specs.declared.refused.ElfRefused.{ElfRefused}
use Rattle.elf_module.specs.declared.refused.ElfRefused.TheVariants.{Short, Magic, Class, Data, Version, Machine, Kind, Relocatable, Headers, Section, Names, Symbols}
use Rattle.elf_module.specs.Elf.{SectionRecord, content, e_machine, e_shentsize, e_shoff, e_type, e_version, field, is_empty_type, sh_name, sh_type}
use Rattle.elf_module.specs.Refusals.{HasName, Holds, Passes, ReachesPast, WrongHeaders, WrongSymbols, order}
use Rattle.elf_build.specs.declared.tables.PlanTable.TheVariants.{Jumps, Calls, Traces}
use Rattle.elf_build.specs.declared.sections.Part.{Part}
use Rattle.elf_build.specs.declared.sections.Part.TheVariants.{Text, Entries, Data as DataPart, Symbols as SymbolsPart, Names as NamesPart, SectionNames}
use Rattle.elf_build.specs.declared.plan.Plan.{Plan}
use Rattle.elf_build.specs.File.{header_of, names_of, parts, section_names, symbol_table}
use Rattle.written_module.specs.Written.{section_of_part}
use Rattle.written_module.proofs.Fields.{elf-magic, elf-class, elf-data, elf-ident_version, elf-type, elf-machine, elf-version, elf-shentsize}
use Rattle.written_module.proofs.Standing.{StandsAt, AreStanding}
use Rattle.written_module.proofs.Bounds.{Bounds, length-symbols}
use Rattle.written_module.proofs.Sections.{IsLaid, content-is, first-kind, first-name, header-fits, kind-is, name-is, names-stand, offset-is, section_names-stand, sections-read, shnum-is, shstrndx-is, size-is, table-is}
use Rattle.written_module.proofs.SymbolRows.{symbols-have, symtab-is}

-- each part has its header at some index
pub standing-at : (plan : Plan) (file : List ℕ) (parts : List Part) (index : ℕ) → AreStanding plan file index parts
    → (n : ℕ) → index ≤ n → n < index + length parts → (part : Part) × StandsAt plan file n part
standing-at plan file [] index are n from to = absurd (omega arith)
standing-at plan file (part ∷ parts) index are n from to = elim (cases_eq index n) [
  | inl same ↦ (part, subst (λ (i : ℕ). StandsAt plan file i part) same are.0)
  | inr other ↦ standing-at plan file parts (index + 1) are.1 n (omega arith) (omega arith)
]

-- the name of each section stands in the table of names
section_name-there : (plan : Plan) (part : Part) → HasName section_names (header_of plan part).name
section_name-there plan Text = (5, omega arith, refl)
section_name-there plan (Entries Jumps) = (12, omega arith, refl)
section_name-there plan (Entries Calls) = (18, omega arith, refl)
section_name-there plan (Entries Traces) = (12, omega arith, refl)
section_name-there plan DataPart = (5, omega arith, refl)
section_name-there plan SymbolsPart = (7, omega arith, refl)
section_name-there plan NamesPart = (7, omega arith, refl)
section_name-there plan SectionNames = (9, omega arith, refl)

module _ (plan : Plan) (ok : Bounds plan) (file : List ℕ) (laid_so : IsLaid plan file) where
  -- the sections but the first stand in the file
  eight-stand : (n : ℕ) → 1 ≤ n → n < 9 → (part : Part) × StandsAt plan file n part
  unfolding parts
  eight-stand n from to = standing-at plan file parts 1 laid_so.standing n from to

  -- the bytes of each section lie in the file
  inside-file : (n : ℕ) → n < 9 → ReachesPast file n → ⊥
  inside-file n below past = elim (cases_eq n 0) [
    | inl same ↦
        (
        let kind : sh_type file n ≡ 0 = ap (sh_type file) same ∙ first-kind file laid_so.headers laid_so.first in
        absurd (true≢false (sym (ap is_empty_type kind) ∙ past.0))
        )
    | inr other ↦
        (
        let at = eight-stand n (omega arith) below in
        let short = laid_so.short in
        let fits = header-fits plan ok at.0 in
        let offset = offset-is plan file n at.0 at.1 fits (omega arith) in
        let size = size-is plan file n at.0 at.1 fits (omega arith) in
        let within = at.1.within in
        let far = past.1 in
        absurd (omega arith)
        )
  ]

  -- the name of each section stands in the table
  name-stands-there : (n : ℕ) → n < 9 → HasName section_names (sh_name file n)
  name-stands-there n below = elim (cases_eq n 0) [
    | inl same ↦
        (
        let name : sh_name file n ≡ 0 = ap (sh_name file) same ∙ first-name file laid_so.headers laid_so.first in
        subst (HasName section_names) (sym name) (0, omega arith, refl)
        )
    | inr other ↦
        (
        let at = eight-stand n (omega arith) below in
        let short = laid_so.short in
        subst (HasName section_names) (sym (name-is plan file n at.0 at.1 (header-fits plan ok at.0) (omega arith))) (section_name-there plan at.0)
        )
  ]

  -- nothing is wrong with the table of section headers
  headers-right : (n : ℕ) → WrongHeaders file n → ⊥
  headers-right n (inl other_size) = other_size.0 (ap e_shentsize laid_so.begins ∙ elf-shentsize (e_shoff file) laid_so.rest)
  headers-right n (inr (inl empty)) = let nine = shnum-is plan file laid_so in let zero_of = empty.1 in absurd (omega arith)
  headers-right n (inr (inr (inl past))) =
      let nine = shnum-is plan file laid_so in
      let long = laid_so.long in
      let far = past.2 in
      absurd (omega arith)
  headers-right n (inr (inr (inr names))) =
      let nine = shnum-is plan file laid_so in
      let eight = shstrndx-is plan file laid_so in
      let outside = names.3 in
      absurd (omega arith)

  -- the string table has the names of the plan
  pub names-are : content file 7 ≡ names_of plan
  names-are =
      let short = laid_so.short in
      content-is plan file 7 NamesPart (names-stand plan file laid_so) (header-fits plan ok NamesPart) (omega arith)

  -- it is a string table
  names-kind : sh_type file 7 ≡ 3
  names-kind =
      let short = laid_so.short in
      kind-is plan file 7 NamesPart (names-stand plan file laid_so) (header-fits plan ok NamesPart) (omega arith)

  -- nothing is wrong with the section of symbols
  symbols-right : (n : ℕ) → WrongSymbols file (Some (section_of_part plan 6 SymbolsPart)) n → ⊥
  symbols-right n (inl (inl uneven, e)) = let count = length-symbols plan ok in uneven (omega arith)
  symbols-right n (inl (inr no_strings, e)) = let nine = shnum-is plan file laid_so in no_strings (omega arith, names-kind)
  symbols-right n (inr lacks) =
      lacks.1.holds (subst (λ (names : List ℕ). HasName names (field 4 (24 * n) (symbol_table plan))) (sym names-are) (symbols-have plan ok n lacks.1.below))

  -- no condition holds
  none-holds : (why : ElfRefused) → order why < 13 → Holds file why → ⊥
  none-holds (Short n) before h = let long = laid_so.long in let short = h.0 in absurd (omega arith)
  none-holds (Magic n) before h = h.0 (ap (take 4) laid_so.begins ∙ elf-magic (e_shoff file) laid_so.rest)
  none-holds (Class n) before h = h.0 (ap (field 1 4) laid_so.begins ∙ elf-class (e_shoff file) laid_so.rest)
  none-holds (Data n) before h = h.0 (ap (field 1 5) laid_so.begins ∙ elf-data (e_shoff file) laid_so.rest)
  none-holds (Version n) before (inl h) = h.0 (ap (field 1 6) laid_so.begins ∙ elf-ident_version (e_shoff file) laid_so.rest)
  none-holds (Version n) before (inr h) = h.1 (ap e_version laid_so.begins ∙ elf-version (e_shoff file) laid_so.rest)
  none-holds (Machine n) before h = h.0 (ap e_machine laid_so.begins ∙ elf-machine (e_shoff file) laid_so.rest)
  none-holds (Kind n) before h = h.1 (ap e_type laid_so.begins ∙ elf-type (e_shoff file) laid_so.rest)
  none-holds (Relocatable n) before h =
      let type = ap e_type laid_so.begins ∙ elf-type (e_shoff file) laid_so.rest in
      let one = h.0 in
      absurd (omega arith)
  none-holds (Headers n) before h = headers-right n h
  none-holds (Section n) before h =
      let nine = shnum-is plan file laid_so in
      let below = h.below in
      inside-file n (omega arith) h.holds
  none-holds (Names n) before (inl h) =
      let short = laid_so.short in
      h.0 (ap (sh_type file) (shstrndx-is plan file laid_so) ∙ kind-is plan file 8 SectionNames (section_names-stand plan file laid_so) (header-fits plan ok SectionNames) (omega arith))
  none-holds (Names n) before (inr h) =
      let nine = shnum-is plan file laid_so in
      let below = h.1.below in
      h.1.holds (subst (λ (names : List ℕ). HasName names (sh_name file n)) (sym (table-is plan file laid_so ok)) (name-stands-there n (omega arith)))
  none-holds (Symbols n) before h =
      symbols-right n (subst (λ (s : Option SectionRecord). WrongSymbols file s n) (symtab-is plan file (sections-read plan file laid_so ok)) h)

  -- so the file passes them all
  pub passes-all : Passes file 13
  passes-all = record { none = none-holds }
