-- The length of what a section has in the file.
use Rattle.std.proofs.Common.{◌≡◌, ◌≤◌, ℕ, Bool, true, false, if◌then◌else◌, List, [], length, drop, Some, slice_get, sym, subst, arith}
use Rattle.std.proofs.lemmas.List.{length-take, length-drop}
use Rattle.elf_module.specs.Elf.{SectionRecord, content, piece, section_at, sections_of, is_empty_type, sh_type, sh_offset, sh_size, e_shnum}
use Rattle.elf_module.proofs.Finding.{got_value}

-- no section has more bytes than the file
content_short : (file : List ℕ) (i : ℕ) → length (content file i) ≤ length file
content_short file i = by (is_empty_type (sh_type file i))
  where
    by : (empty : Bool) → length (if empty then [] else piece (sh_offset file i) (sh_size file i) file) ≤ length file
    by true = omega arith
    by false = omega (arith, length-take (sh_size file i) (drop (sh_offset file i) file), length-drop (sh_offset file i) file)

pub contents_short : (file : List ℕ) (sections : List SectionRecord) → sections_of file ≡ sections
    → (i : ℕ) (s : SectionRecord) → slice_get sections i ≡ Some s → length s.content ≤ length file
contents_short file sections are i s got =
    let P : SectionRecord → Type 0 = λ x. length x.content ≤ length file in
    let is : section_at file i ≡ s = got_value (section_at file) (e_shnum file) i s (rw are got) in
    subst P is (content_short file i)
