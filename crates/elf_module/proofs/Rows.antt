-- What the tries of conditions have shown.
use Rattle.std.proofs.Common.{◌≡◌, ◌<◌, ◌≤◌, ◌+◌, ◌*◌, ◌/◌, ◌%◌, ◌↔◌, ℕ, List, length, Option, Some, subst, sym, arith, inl, inr}
use Rattle.std.proofs.lemmas.Bool.{cases_lt}
use Rattle.elf_module.specs.declared.refused.ElfRefused.{ElfRefused}
use Rattle.elf_module.specs.declared.refused.ElfRefused.TheVariants.{Names, Symbols}
use Rattle.elf_module.specs.Elf.{SectionRecord, content, field, symtab_of, e_shnum, e_shstrndx, sh_name, sh_type, sht_strtab}
use Rattle.elf_module.specs.Refusals.{HasName, Holds, IsBadTable, IsFirstBelow, IsRefusal, IsStringTable, LacksNameIn, WrongSymbols, Passes, order}

-- no condition holds before the next place either
pub passes_more : (file : List ℕ) (place : ℕ) → Passes file place → ((why : ElfRefused) → order why ≡ place → Holds file why → ⊥) → Passes file (place + 1)
passes_more file place passes here = record { none = none }
  where
    none : (why : ElfRefused) → order why < place + 1 → Holds file why → ⊥
    none why lt holds = elim (cases_lt (order why) place) [
      | inl before ↦ passes.none why before holds
      | inr past ↦ here why (omega arith) holds
    ]

-- the first section whose name doesn't begin before the end of the last zero is the refusal
pub refused-names : (file table : List ℕ) (index end i : ℕ) → Passes file 11 → index ≡ e_shstrndx file → sh_type file index ≡ sht_strtab
    → table ≡ content file (e_shstrndx file) → ((at : ℕ) → HasName table at ↔ (at < end))
    → i < e_shnum file → ((k : ℕ) → k < i → sh_name file k < end) → end ≤ sh_name file i → IsRefusal file (Names i)
refused-names file table index end i passes index_is kind table_is ends below before lacks =
    let stands : (at : ℕ) → HasName (content file (e_shstrndx file)) at ↔ (at < end) = rw (← table_is) ends in
    record {
      holds = inr (
        rw (← index_is) kind,
        record {
          below = below;
          holds = λ has. absurd (omega (arith, (stands (sh_name file i)).0 has));
          before = λ k lt no_name. no_name ((stands (sh_name file k)).1 (before k lt));
        },
      );
      first = passes;
    }

-- where each section's name begins before that end, the condition on names doesn't hold
pub passes-names : (file table : List ℕ) (index end : ℕ) → Passes file 11 → index ≡ e_shstrndx file → sh_type file index ≡ sht_strtab
    → table ≡ content file (e_shstrndx file) → ((at : ℕ) → HasName table at ↔ (at < end))
    → ((k : ℕ) → k < e_shnum file → sh_name file k < end) → Passes file 12
passes-names file table index end passes index_is kind table_is ends each = passes_more file 11 passes here
  where
    stands : (at : ℕ) → HasName (content file (e_shstrndx file)) at ↔ (at < end)
    stands = rw (← table_is) ends

    here : (why : ElfRefused) → order why ≡ 11 → Holds file why → ⊥
    here (Names n) e (inl no_table) = no_table.0 (rw (← index_is) kind)
    here (Names n) e (inr lacks) = lacks.1.holds ((stands (sh_name file n)).1 (each n lacks.1.below))
    here _ e holds = absurd (omega (arith, e))

-- the first symbol whose name doesn't stand in the string table is the refusal
pub refused-symbol : (file names : List ℕ) (symtab : SectionRecord) (i : ℕ) → Passes file 12 → Some symtab ≡ symtab_of file → symtab.size % 24 ≡ 0
    → IsStringTable file symtab.link → names ≡ content file symtab.link
    → IsFirstBelow (LacksNameIn names symtab.content) (length symtab.content / 24) i → IsRefusal file (Symbols i)
refused-symbol file names symtab i passes is_first whole strings names_is lacks = record {
  holds = subst (λ (s : Option SectionRecord). WrongSymbols file s i) is_first
      (inr (not_bad, subst (λ (t : List ℕ). IsFirstBelow (LacksNameIn t symtab.content) (length symtab.content / 24) i) names_is lacks));
  first = passes;
}
  where
    not_bad : IsBadTable file symtab → ⊥
    not_bad (inl part) = part whole
    not_bad (inr no_strings) = no_strings strings

-- where each symbol's name stands in the string table, the condition on symbols doesn't hold
pub passes-symbols : (file names : List ℕ) (symtab : SectionRecord) → Passes file 12 → Some symtab ≡ symtab_of file → symtab.size % 24 ≡ 0
    → IsStringTable file symtab.link → names ≡ content file symtab.link
    → ((k : ℕ) → k < length symtab.content / 24 → HasName names (field 4 (24 * k) symtab.content)) → Passes file 13
passes-symbols file names symtab passes is_first whole strings names_is has = passes_more file 12 passes here
  where
    stand : (k : ℕ) → k < length symtab.content / 24 → HasName (content file symtab.link) (field 4 (24 * k) symtab.content)
    stand = subst (λ (t : List ℕ). (k : ℕ) → k < length symtab.content / 24 → HasName t (field 4 (24 * k) symtab.content)) names_is has

    wrong : (n : ℕ) → WrongSymbols file (Some symtab) n → ⊥
    wrong n (inl (inl part, e)) = part whole
    wrong n (inl (inr no_strings, e)) = no_strings strings
    wrong n (inr lacks) = lacks.1.holds (stand n lacks.1.below)

    here : (why : ElfRefused) → order why ≡ 12 → Holds file why → ⊥
    here (Symbols n) e holds = wrong n (subst (λ (s : Option SectionRecord). WrongSymbols file s n) (sym is_first) holds)
    here _ e holds = absurd (omega (arith, e))
