-- The first clash of some changes, one change after the other.
use Rattle.std.proofs.Common.{◌≡◌, ◌+◌, ◌<◌, ℕ, zero, suc, true, not, List, [], ◌∷◌, ◌++◌, length, map, take, drop, get_or, Option, None, All, refl, ap, sym, ◌∙◌, subst, add-one, arith, drop-cons, take-append-drop, take-suc}
use Rattle.std.proofs.lemmas.List.{map-append}
use Rattle.std.proofs.lemmas.List.Elements.{All-append}
use Rattle.std.proofs.lemmas.List.Folds.{find-append}
use Rattle.std.specs.Option.{option_or}
use Rattle.insn_forms.specs.declared.forms.Change.{Change}
use Rattle.poke_batch.specs.declared.batch.Clash.{Clash}
use Rattle.poke_batch.specs.declared.patch.Patch.{Patch}
use Rattle.poke_batch.specs.Clash.{ClashesAt, NamesClash, first_clash, holds_old}
use Rattle.poke_batch.specs.Inside.{change_of}
use Rattle.poke_batch.specs.Patch.{IsSpelt}

-- the changes up to the next one
next_taken : (changes : List Change) (i : ℕ) (d : Change) → i < length changes → take (i + 1) changes ≡ take i changes ++ get_or changes i d ∷ []
next_taken changes i d lt = ap (λ k. take k changes) (add-one i) ∙ take-suc changes i d lt

-- the changes before a place, the one there and those after it
split_at : (changes : List Change) (i : ℕ) (d : Change) → i < length changes → changes ≡ take i changes ++ get_or changes i d ∷ drop (suc i) changes
split_at changes i d lt =
    sym (take-append-drop i changes) ∙ ap (λ (rest : List Change). take i changes ++ rest) (drop-cons changes i d lt)

-- where none of the changes before a place clashes, the first clash is among the others
first_after : (held : ℕ → Option ℕ) (before after : List Change) → first_clash held before ≡ None → first_clash held (before ++ after) ≡ first_clash held after
first_after held before after none =
    find-append (λ c. not (holds_old held c)) before after
    ∙ ap (λ (first : Option Change). option_or first (first_clash held after)) none

-- one more site that holds its old form
pub no_clash-more : (held : ℕ → Option ℕ) (changes : List Change) (i : ℕ) (d : Change) → i < length changes → first_clash held (take i changes) ≡ None → holds_old held (get_or changes i d) ≡ true → first_clash held (take (i + 1) changes) ≡ None
no_clash-more held changes i d lt none holds =
    ap (first_clash held) (next_taken changes i d lt)
    ∙ first_after held (take i changes) (get_or changes i d ∷ []) none
    ∙ rw holds refl

-- the first site that doesn't
pub names_clash : (held : ℕ → Option ℕ) (changes : List Change) (i : ℕ) (d : Change) (clash : Clash) → i < length changes → first_clash held (take i changes) ≡ None → ClashesAt held (get_or changes i d) clash → NamesClash held changes clash
names_clash held changes i d clash lt none at =
    let differs = at.differs in
    record {
      change = get_or changes i d;
      first =
          ap (first_clash held) (split_at changes i d lt)
          ∙ first_after held (take i changes) (get_or changes i d ∷ drop (suc i) changes) none
          ∙ rw differs refl;
      at = at.at;
      found = at.found;
      expected = at.expected;
    }

-- one patch more
pub made-more : (patches new : List Patch) (changes : List Change) (i : ℕ) (d : Change) (p : Patch) → i < length changes → map change_of patches ≡ take i changes → p.change ≡ get_or changes i d → new ≡ patches ++ p ∷ [] → map change_of new ≡ take (i + 1) changes
made-more patches new changes i d p lt made is pushed =
    ap (map change_of) pushed ∙ map-append change_of patches (p ∷ [])
    ∙ (λ j. made j ++ is j ∷ []) ∙ sym (next_taken changes i d lt)

-- what holds of one patch holds of each
spelt-one : (p : Patch) → IsSpelt p → All IsSpelt (p ∷ [])
spelt-one p spelt zero d lt = spelt
spelt-one p spelt (suc k) d lt = absurd (omega arith)

pub spelt-more : (patches new : List Patch) (p : Patch) → All IsSpelt patches → IsSpelt p → new ≡ patches ++ p ∷ [] → All IsSpelt new
spelt-more patches new p all spelt pushed =
    subst (λ (qs : List Patch). All IsSpelt qs) (sym pushed) (All-append IsSpelt patches (p ∷ []) all (spelt-one p spelt))
