-- What of an accepted module's text is the file's.
use Rattle.std.proofs.Common.{◌≡◌, ◌∙◌, ◌+◌, ◌-◌, inl, inr, ℕ, zero, suc, false, List, [], ◌∷◌, take, drop, length, Some, slice_get, refl, sym, ap, subst, arith}
use Rattle.elf_module.specs.Elf.{Elf}
use Rattle.module_parts.specs.declared.site.Site.{Site}
use Rattle.module_names.specs.Entries.{base, file_text}
use Rattle.module_image.specs.Held.{ForeignSitesAreTheFiles, IsBeside, LengthIsTheFiles, OtherBytesAreTheFiles}
use Rattle.module_names.specs.Keys.{keys}
use Rattle.module_image.specs.Refusals.{Passes, past_all, past_site_overlap}
use Rattle.module_image.specs.Sites.{code_at, sites, starts_of, text}
use Rattle.module_laws.proofs.HeldForms.{code_of_file, foreign_kept, site_of_file}
use Rattle.module_image.proofs.Sound.{call_lens_passed, inside_passed, passes_before}
use Rattle.module_image.proofs.TextSize.{module_length}
use Rattle.module_laws.proofs.WrittenSites.{IsOff, sites_kept}

-- the byte at an offset is the first of one byte from there
byte_of : (xs : List ℕ) (k : ℕ) → slice_get xs k ≡ slice_get (take 1 (drop k xs)) 0
byte_of [] zero = refl
byte_of [] (suc k) = refl
byte_of (x ∷ xs) zero = refl
byte_of (x ∷ xs) (suc k) = byte_of xs k

off_of : (at : ℕ) (s : Site) → IsBeside at s → IsOff at 1 s
off_of at s (inl before) = inl (omega (arith, before))
off_of at s (inr after) = inr after

file_bytes : (elf : Elf) (k : ℕ) → Passes elf past_site_overlap → ((i : ℕ) (s : Site) → slice_get (sites elf) i ≡ Some s → s.foreign ≡ false → IsOff (base elf + k) 1 s) → slice_get (text elf) k ≡ slice_get (file_text elf) k
file_bytes elf k passes off =
    let place : base elf + k - base elf ≡ k = omega arith in
    let one : (t : List ℕ) → code_at (base elf) t (base elf + k) 1 ≡ take 1 (drop k t) = λ t. ap (λ (n : ℕ). take 1 (drop n t)) place in
    let kept =
    sites_kept (base elf) (length (file_text elf)) (starts_of (keys elf)) (sites elf) (file_text elf) (base elf + k) 1 refl (inside_passed elf passes)
    (call_lens_passed elf) (omega arith) off in
    byte_of (text elf) k ∙ ap (λ (t : List ℕ). slice_get t 0) (sym (one (text elf)) ∙ kept ∙ one (file_text elf)) ∙ sym (byte_of (file_text elf) k)

pub other_bytes : OtherBytesAreTheFiles
other_bytes elf m k is beside =
    let off : (i : ℕ) (s : Site) → slice_get (sites elf) i ≡ Some s → s.foreign ≡ false → IsOff (base elf + k) 1 s =
    λ i s here ours. subst (λ (b : ℕ). IsOff (b + k) 1 s) is.has_base (off_of (m.base + k) s (beside i s (ap (λ (ss : List Site). slice_get ss i) is.has_sites ∙ here) ours)) in
    ap (λ (t : List ℕ). slice_get t k) is.has_text ∙ file_bytes elf k (passes_before elf past_site_overlap past_all (omega arith) is.passes) off

pub same_length : LengthIsTheFiles
same_length elf m is = module_length elf m is

pub foreign_sites : ForeignSitesAreTheFiles
foreign_sites elf m i s is here foreign =
    code_of_file elf m s is ∙ foreign_kept elf i s (passes_before elf past_site_overlap past_all (omega arith) is.passes) (site_of_file elf m i s is here) foreign
    ∙ ap (λ (b : ℕ). code_at b (file_text elf) s.at s.len) (sym is.has_base)
