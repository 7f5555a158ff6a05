-- The text after early writing is as long as the file's.
use Rattle.std.proofs.Common.{◌≡◌, ◌∙◌, ◌≤◌, ℕ, suc, ◌+◌, ◌-◌, Bool, true, false, cond, List, [], ◌∷◌, ◌++◌, length, length-drop, take, drop, Option, Some, None, refl, sym, subst, arith}
use Rattle.std.specs.Option.{unwrap_or}
use Rattle.std.proofs.lemmas.List.{length-append, length-take-le}
use Rattle.elf_module.specs.Elf.{Elf}
use Rattle.insn_forms.specs.declared.forms.Form.{Form}
use Rattle.insn_forms.specs.Spelling.{size, spell}
use Rattle.insn_forms.proofs.Spellings.{length-spell}
use Rattle.module_parts.specs.declared.site.Site.{Site}
use Rattle.module_image.specs.Early.{HasCallLen, HaveCallLens}
use Rattle.module_names.specs.Entries.{base, file_text}
use Rattle.module_names.specs.Keys.{keys}
use Rattle.module_image.specs.Refusals.{Passes, past_site_overlap}
use Rattle.module_image.specs.Sites.{early_form, form_code, put_at, site_written, sites, starts_of, text, written}
use Rattle.module_image.specs.Text.{AreInside, IsInside}
use Rattle.module_image.specs.Wants.{state_of}
use Rattle.module_image.proofs.Sound.{call_lens_passed, inside_passed}
use Rattle.module_image.proofs.WantedForms.{size_wanted}

-- bytes that are put inside a text don't make it longer
length_put : (bytes code : List ℕ) (at : ℕ) → at + length code ≤ length bytes → length (put_at bytes at code) ≡ length bytes
length_put bytes code at room =
    let prefix = length-take-le at bytes (omega (arith, room)) in
    let rest = length-drop (at + length code) bytes in
    let outer = length-append (take at bytes) (code ++ drop (at + length code) bytes) in
    let inner = length-append code (drop (at + length code) bytes) in
    omega (arith, room, prefix, rest, outer, inner)

-- a form's code is no longer than the form
pub code_most : (form : Form) (at : ℕ) → length (form_code form at) ≤ size form
code_most form at = by (spell form at) refl
  where
    by : (o : Option (List ℕ)) → spell form at ≡ o → length (unwrap_or o []) ≤ size form
    by None is = omega arith
    by (Some code) is = (let same = length-spell form at code is in omega (arith, same))

-- to write a site that lies in the text
pub length_site : (base : ℕ) (states : List ℕ) (s : Site) (bytes : List ℕ) → IsInside base (length bytes) s → HasCallLen s.len s.kind → length (site_written base states s bytes) ≡ length bytes
length_site base states s bytes inside five = by s.foreign
  where
    by : (foreign : Bool) → length (cond foreign bytes (put_at bytes (s.at - base) (form_code (early_form states s) s.at))) ≡ length bytes
    by true = refl
    by false =
        let from = inside.from in
        let to = inside.to in
        let most = code_most (early_form states s) s.at in
        let same : size (early_form states s) ≡ s.len = size_wanted 0 (state_of states s.kind) false s.len s.kind inside.two_or_five five in
        length_put bytes (form_code (early_form states s) s.at) (s.at - base) (omega (arith, from, to, most, same))

-- and to write all sites
length_written : (base size : ℕ) (states : List ℕ) (ss : List Site) (bytes : List ℕ) → length bytes ≡ size → AreInside base size ss → HaveCallLens ss → length (written base states ss bytes) ≡ size
length_written base size states [] bytes same inside fives = same
length_written base size states (s ∷ ss) bytes same inside fives =
    let first : IsInside base (length bytes) s = subst (λ (n : ℕ). IsInside base n s) (sym same) (inside 0 s refl) in
    length_written base size states ss (site_written base states s bytes) (length_site base states s bytes first (fives 0 s refl) ∙ same)
    (λ i u get. inside (suc i) u get) (λ i u get. fives (suc i) u get)

pub length_text : (elf : Elf) → Passes elf past_site_overlap → length (text elf) ≡ length (file_text elf)
length_text elf passes =
    length_written (base elf) (length (file_text elf)) (starts_of (keys elf)) (sites elf) (file_text elf) refl (inside_passed elf passes) (call_lens_passed elf)
