-- How many sections have the text's name.
use Rattle.std.proofs.Common.{◌≡◌, ◌≢◌, ◌<◌, ◌≤◌, ◌+◌, ◌∙◌, ℕ, Bool, true, false, cond, if◌then◌else◌, List, [], ◌∷◌, length, take, Option, Some, None, option_map, sym, ap, refl, arith, inr}
use Rattle.std.specs.List.{filter, find, slice_get}
use Rattle.std.proofs.lemmas.List.Filters.{length-filter_more}
use Rattle.std.proofs.lemmas.Option.{slice_get-get_or, same_Some, none-some}
use Rattle.elf_module.specs.Elf.{Elf, SectionRecord}
use Rattle.module_parts.specs.declared.refused.Refused.TheVariants.{TextCount}
use Rattle.module_names.specs.Entries.{is_text, text_sections}
use Rattle.module_image.specs.Refusals.{IsRefusedFor}
use Rattle.module_image.specs.Tables.{is_text_in}
use Rattle.module_image.proofs.Passed.{passes_first}

-- what the file tells of a section's name
pub text_told : (o : Option SectionRecord) (told : Bool) → option_map is_text o ≡ Some told → told ≡ is_text_in o
text_told None told is = absurd (none-some told is)
text_told (Some s) told is = sym (same_Some (is_text s) told is)

-- n of the first sections have the text's name
pub record AreCounted (sections : List SectionRecord) (i count : ℕ) : Type 0 where
  pub is : count ≡ length (filter is_text (take i sections))
  pub few : count ≤ i

-- one section more
filter_more : (sections : List SectionRecord) (i : ℕ) → i < length sections
    → length (filter is_text (take (i + 1) sections)) ≡ length (filter is_text (take i sections)) + cond (is_text_in (slice_get sections i)) 1 0
filter_more [] i below = absurd (omega (arith, below))
filter_more (s ∷ sections) i below =
    length-filter_more is_text (s ∷ sections) i s below
    ∙ ap (λ (o : Option SectionRecord). length (filter is_text (take i (s ∷ sections))) + cond (is_text_in o) 1 0) (sym (slice_get-get_or (s ∷ sections) i s below))

pub counted_one : (sections : List SectionRecord) (i count next : ℕ) → i < length sections → AreCounted sections i count
    → is_text_in (slice_get sections i) ≡ true → next ≡ count + 1 → AreCounted sections (i + 1) next
counted_one sections i count next below counted text next_is =
    let more = filter_more sections i below ∙ ap (λ (b : Bool). length (filter is_text (take i sections)) + cond b 1 0) text in
    record { is = omega (arith, next_is, counted.is, more); few = omega (arith, next_is, counted.few) }

pub counted_none : (sections : List SectionRecord) (i count next : ℕ) → i < length sections → AreCounted sections i count
    → is_text_in (slice_get sections i) ≡ false → next ≡ count → AreCounted sections (i + 1) next
counted_none sections i count next below counted other next_is =
    let more = filter_more sections i below ∙ ap (λ (b : Bool). length (filter is_text (take i sections)) + cond b 1 0) other in
    record { is = omega (arith, next_is, counted.is, more); few = omega (arith, next_is, counted.few) }

-- where no section of the name is found there are none
pub none_named : (sections : List SectionRecord) → find is_text sections ≡ None → length (filter is_text sections) ≡ 0
none_named [] none = refl
none_named (s ∷ sections) none = at (is_text s) (none_named sections) none
  where
    at : (b : Bool) → (find is_text sections ≡ None → length (filter is_text sections) ≡ 0)
        → (if b then Some s else find is_text sections) ≡ None → length (if b then s ∷ filter is_text sections else filter is_text sections) ≡ 0
    at true others none = absurd cc
    at false others none = others none

-- another number than one is refused
pub refused_count : (elf : Elf) (n : ℕ) → n ≡ length (text_sections elf) → n ≢ 1 → IsRefusedFor elf (TextCount n)
refused_count elf n is other = inr (record { holds = (λ one. other (is ∙ one), is); first = passes_first elf })
