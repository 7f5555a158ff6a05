-- The sections that are read of the file of a plan.
use Rattle.std.proofs.Common.{◌≡◌, ◌<◌, ◌≤◌, ◌+◌, ◌*◌, ◌^◌, ◌∙◌, ℕ, Bool, false, List, [], ◌∷◌, ◌++◌, length, map, drop, replicate, refl, sym, ap, arith}
use Rattle.std.specs.Prelude.{if◌then◌else◌}
use Rattle.std.specs.List.{range_with_len}
use Rattle.std.proofs.lemmas.List.{length-append}
use Rattle.elf_module.specs.Elf.{content, e_shnum, e_shoff, e_shstrndx, field, header_at, is_empty_type, name_in, piece, section_at, sections_of, sh_addr, sh_flags, sh_link, sh_name, sh_offset, sh_size, sh_type}
use Rattle.elf_build.specs.declared.tables.PlanTable.TheVariants.{Jumps, Calls, Traces}
use Rattle.elf_build.specs.declared.sections.Part.{Part}
use Rattle.elf_build.specs.declared.sections.Part.TheVariants.{Text, Entries, Data, Symbols, Names, SectionNames}
use Rattle.elf_build.specs.declared.sections.Header.{Header}
use Rattle.elf_build.specs.declared.plan.Plan.{Plan}
use Rattle.elf_build.specs.File.{part_bytes, file_of, filled, laid, header_of, section_header, section_names, elf_header, body, headers_from, parts}
use Rattle.written_module.specs.Written.{part_name, section_of_part, sections_from, no_section}
use Rattle.written_module.proofs.Fields.{field-drop, header-name, header-kind, header-flags, header-addr, header-offset, header-size, header-link, length-elf_header, elf-shoff, elf-shnum, elf-shstrndx}
use Rattle.written_module.proofs.Standing.{StandsAt, AreStanding, standing, laid-begins, whole-ahead, whole-headers, length-whole, header-next, regroup}
use Rattle.written_module.proofs.Bounds.{Bounds, body-short}

-- a header's numbers fit their fields
pub record HeaderFits (header : Header) : Type 0 where
  pub name : header.name < 256 ^ 4
  pub kind : header.kind < 256 ^ 4
  pub flags : header.flags < 256 ^ 8
  pub addr : header.addr < 256 ^ 8
  pub link : header.link < 256 ^ 4

-- the numbers of each part's header do
pub header-fits : (plan : Plan) → Bounds plan → (part : Part) → HeaderFits (header_of plan part)
header-fits plan ok Text = let low = ok.low in record { name = omega arith; kind = omega arith; flags = omega arith; addr = omega arith; link = omega arith }
header-fits plan ok (Entries Jumps) = let low = ok.low in record { name = omega arith; kind = omega arith; flags = omega arith; addr = omega arith; link = omega arith }
header-fits plan ok (Entries Calls) = let low = ok.low in record { name = omega arith; kind = omega arith; flags = omega arith; addr = omega arith; link = omega arith }
header-fits plan ok (Entries Traces) = let low = ok.low in record { name = omega arith; kind = omega arith; flags = omega arith; addr = omega arith; link = omega arith }
header-fits plan ok Data = let low = ok.low in record { name = omega arith; kind = omega arith; flags = omega arith; addr = omega arith; link = omega arith }
header-fits plan ok Symbols = record { name = omega arith; kind = omega arith; flags = omega arith; addr = omega arith; link = omega arith }
header-fits plan ok Names = record { name = omega arith; kind = omega arith; flags = omega arith; addr = omega arith; link = omega arith }
header-fits plan ok SectionNames = record { name = omega arith; kind = omega arith; flags = omega arith; addr = omega arith; link = omega arith }

-- no section of a plan is of a type without bytes
pub has-bytes : (plan : Plan) (part : Part) → is_empty_type (header_of plan part).kind ≡ false
has-bytes plan Text = refl
has-bytes plan (Entries Jumps) = refl
has-bytes plan (Entries Calls) = refl
has-bytes plan (Entries Traces) = refl
has-bytes plan Data = refl
has-bytes plan Symbols = refl
has-bytes plan Names = refl
has-bytes plan SectionNames = refl

-- the name of each section stands at its place
pub name-stands : (plan : Plan) (part : Part) → name_in section_names (header_of plan part).name ≡ part_name part
name-stands plan Text = refl
name-stands plan (Entries Jumps) = refl
name-stands plan (Entries Calls) = refl
name-stands plan (Entries Traces) = refl
name-stands plan Data = refl
name-stands plan Symbols = refl
name-stands plan Names = refl
name-stands plan SectionNames = refl

-- a section that stands in a file is read as it was written
module _ (plan : Plan) (file : List ℕ) (index : ℕ) (part : Part) (at : StandsAt plan file index part)
    (fits : HeaderFits (header_of plan part)) (short : length file < 256 ^ 8) where
  -- the place of its name
  pub name-is : sh_name file index ≡ (header_of plan part).name
  unfolding field
  name-is = ap (λ (l : List ℕ). field 4 0 l) at.header ∙ header-name (header_of plan part) at.offset (length (part_bytes plan part)) at.rest fits.name

  -- its type
  pub kind-is : sh_type file index ≡ (header_of plan part).kind
  kind-is =
      field-drop 4 (header_at file index) 4 file ∙ ap (λ (l : List ℕ). field 4 4 l) at.header
      ∙ header-kind (header_of plan part) at.offset (length (part_bytes plan part)) at.rest fits.kind

  -- its flags
  pub flags-is : sh_flags file index ≡ (header_of plan part).flags
  flags-is =
      field-drop 8 (header_at file index) 8 file ∙ ap (λ (l : List ℕ). field 8 8 l) at.header
      ∙ header-flags (header_of plan part) at.offset (length (part_bytes plan part)) at.rest fits.flags

  -- its address
  pub addr-is : sh_addr file index ≡ (header_of plan part).addr
  addr-is =
      field-drop 8 (header_at file index) 16 file ∙ ap (λ (l : List ℕ). field 8 16 l) at.header
      ∙ header-addr (header_of plan part) at.offset (length (part_bytes plan part)) at.rest fits.addr

  -- the offset of its bytes
  pub offset-is : sh_offset file index ≡ at.offset
  offset-is =
      let within = at.within in
      field-drop 8 (header_at file index) 24 file ∙ ap (λ (l : List ℕ). field 8 24 l) at.header
      ∙ header-offset (header_of plan part) at.offset (length (part_bytes plan part)) at.rest (omega arith)

  -- how many bytes it has
  pub size-is : sh_size file index ≡ length (part_bytes plan part)
  size-is =
      let within = at.within in
      field-drop 8 (header_at file index) 32 file ∙ ap (λ (l : List ℕ). field 8 32 l) at.header
      ∙ header-size (header_of plan part) at.offset (length (part_bytes plan part)) at.rest (omega arith)

  -- its link
  pub link-is : sh_link file index ≡ (header_of plan part).link
  link-is =
      field-drop 4 (header_at file index) 40 file ∙ ap (λ (l : List ℕ). field 4 40 l) at.header
      ∙ header-link (header_of plan part) at.offset (length (part_bytes plan part)) at.rest fits.link

  -- its bytes
  pub content-is : content file index ≡ part_bytes plan part
  content-is =
      (λ i. if is_empty_type (kind-is i) then [] else piece (offset-is i) (size-is i) file)
      ∙ ap (λ (b : Bool). if b then [] else piece at.offset (length (part_bytes plan part)) file) (has-bytes plan part)
      ∙ at.bytes

  -- the whole section, once the names are known
  pub section-is : content file (e_shstrndx file) ≡ section_names → section_at file index ≡ section_of_part plan index part
  section-is names =
      let name : name_in (content file (e_shstrndx file)) (sh_name file index) ≡ part_name part =
      (λ i. name_in (names i) (name-is i)) ∙ name-stands plan part in
      λ i. record {
        index = index;
        name = name i;
        kind = kind-is i;
        flags = flags-is i;
        addr = addr-is i;
        size = size-is i;
        link = link-is i;
        content = content-is i;
      }

-- all sections that stand in a file, from an index on
pub sections-are : (plan : Plan) (file : List ℕ) → Bounds plan → length file < 256 ^ 8 → content file (e_shstrndx file) ≡ section_names
    → (parts : List Part) (index : ℕ) → AreStanding plan file index parts
    → map (section_at file) (range_with_len index (length parts)) ≡ sections_from plan index parts
sections-are plan file ok short names [] index are = refl
sections-are plan file ok short names (part ∷ parts) index are =
    let here = section-is plan file index part are.0 (header-fits plan ok part) short names in
    let rest = sections-are plan file ok short names parts (index + 1) are.1 in
    λ i. here i ∷ rest i

-- each part has a header of 64 bytes
length-headers : (plan : Plan) (parts : List Part) (out : List ℕ) → length (headers_from plan out parts) ≡ 64 * length parts
length-headers plan [] out = refl
length-headers plan (part ∷ parts) out =
    let header = section_header (header_of plan part) (length (filled out)) (length (part_bytes plan part)) in
    let next = headers_from plan (filled out ++ part_bytes plan part) parts in
    let sum : length (header ++ next) ≡ 64 + length next = length-append header next in
    let rest : length next ≡ 64 * length parts = length-headers plan parts (filled out ++ part_bytes plan part) in
    omega arith

-- what the file of a plan has: nine sections, of which the first is all zeros
pub record IsLaid (plan : Plan) (file : List ℕ) : Type 0 where
  pub rest : List ℕ
  pub begins : file ≡ elf_header (e_shoff file) ++ rest
  pub long : length file ≡ e_shoff file + 576
  pub some : 64 ≤ e_shoff file
  pub short : length file < 256 ^ 4
  pub within : length file ≤ 67108864
  pub headers : List ℕ
  pub first : drop (e_shoff file + 64 * 0) file ≡ replicate 64 0 ++ headers
  pub standing : AreStanding plan file 1 parts

-- a file of these four pieces has that
laid-file : (plan : Plan) (whole zeros headers : List ℕ) → 64 ≤ length whole → length whole ≤ 2097152 → length headers ≡ 512
    → zeros ≡ replicate 64 0 → laid plan zeros parts ≡ whole → headers ≡ headers_from plan zeros parts
    → IsLaid plan (((elf_header (length whole) ++ drop 64 whole) ++ zeros) ++ headers)
laid-file plan whole zeros headers some short count empty is are =
    let file = ((elf_header (length whole) ++ drop 64 whole) ++ zeros) ++ headers in
    let rest = drop 64 whole ++ (zeros ++ headers) in
    let head : length (elf_header (length whole)) ≡ 64 = length-elf_header (length whole) [] in
    let blank : length zeros ≡ 64 = ap length empty in
    let grouped : file ≡ elf_header (length whole) ++ rest = regroup (elf_header (length whole)) whole zeros headers head some blank in
    let shoff : e_shoff file ≡ length whole = ap e_shoff grouped ∙ elf-shoff (length whole) rest (omega arith) in
    let long : length file ≡ length whole + 64 + length headers = length-whole (elf_header (length whole)) whole zeros headers head some blank in
    let place : e_shoff file + 64 * 0 ≡ length whole = omega arith in
    let first : drop (e_shoff file + 64 * 0) file ≡ zeros ++ headers = ap (λ (n : ℕ). drop n file) place ∙ whole-headers (elf_header (length whole)) whole zeros headers head some blank in
    record {
      rest = rest;
      begins = grouped ∙ ap (λ (n : ℕ). elf_header n ++ rest) (sym shoff);
      long = omega arith;
      some = omega arith;
      short = omega arith;
      within = omega arith;
      headers = headers;
      first = first ∙ ap (λ (l : List ℕ). l ++ headers) empty;
      standing = standing plan file whole (zeros ++ headers) (whole-ahead (elf_header (length whole)) whole zeros headers head some blank)
          (omega arith) parts zeros 1 (omega arith) is
          (header-next file zeros headers (e_shoff file) 0 blank first ∙ are);
    }

-- there are eight headers after the first
eight : (plan : Plan) → length (headers_from plan (replicate 64 0) parts) ≡ 512
unfolding parts
eight plan = length-headers plan parts (replicate 64 0)

-- the contents begin with the place of the ELF header
begins-body : (plan : Plan) → 64 ≤ length (body plan)
begins-body plan =
    let begins = laid-begins plan parts (replicate 64 0) in
    let long : length (body plan) ≡ 64 + length begins.0 = ap length begins.1 ∙ length-append (replicate 64 0) begins.0 in
    omega arith

-- the file of a plan has that
pub file-laid : (plan : Plan) → Bounds plan → IsLaid plan (file_of plan)
file-laid plan ok =
    laid-file plan (body plan) (replicate 64 0) (headers_from plan (replicate 64 0) parts) (begins-body plan) (body-short plan ok) (eight plan) refl refl refl

-- the fields of a list of zeros
module _ (headers : List ℕ) where
  -- the type
  zero-kind : field 4 4 (replicate 64 0 ++ headers) ≡ 0
  unfolding field
  zero-kind = refl

  -- the place of the name
  zero-name : field 4 0 (replicate 64 0 ++ headers) ≡ 0
  unfolding field
  zero-name = refl

  -- the flags
  zero-flags : field 8 8 (replicate 64 0 ++ headers) ≡ 0
  unfolding field
  zero-flags = refl

  -- the address
  zero-addr : field 8 16 (replicate 64 0 ++ headers) ≡ 0
  unfolding field
  zero-addr = refl

  -- the size
  zero-size : field 8 32 (replicate 64 0 ++ headers) ≡ 0
  unfolding field
  zero-size = refl

  -- the link
  zero-link : field 4 40 (replicate 64 0 ++ headers) ≡ 0
  unfolding field
  zero-link = refl

-- a header of zeros is read as no section
module _ (file headers : List ℕ) (first : drop (header_at file 0) file ≡ replicate 64 0 ++ headers) where
  -- it has the empty name
  pub first-name : sh_name file 0 ≡ 0
  unfolding field
  first-name = ap (λ (l : List ℕ). field 4 0 l) first ∙ zero-name headers

  -- it has no type
  pub first-kind : sh_type file 0 ≡ 0
  first-kind = field-drop 4 (header_at file 0) 4 file ∙ ap (λ (l : List ℕ). field 4 4 l) first ∙ zero-kind headers

  -- it has no flags
  first-flags : sh_flags file 0 ≡ 0
  first-flags = field-drop 8 (header_at file 0) 8 file ∙ ap (λ (l : List ℕ). field 8 8 l) first ∙ zero-flags headers

  -- it has no address
  first-addr : sh_addr file 0 ≡ 0
  first-addr = field-drop 8 (header_at file 0) 16 file ∙ ap (λ (l : List ℕ). field 8 16 l) first ∙ zero-addr headers

  -- it has no size
  first-size : sh_size file 0 ≡ 0
  first-size = field-drop 8 (header_at file 0) 32 file ∙ ap (λ (l : List ℕ). field 8 32 l) first ∙ zero-size headers

  -- it has no link
  first-link : sh_link file 0 ≡ 0
  first-link = field-drop 4 (header_at file 0) 40 file ∙ ap (λ (l : List ℕ). field 4 40 l) first ∙ zero-link headers

  -- it has no bytes
  first-content : content file 0 ≡ []
  first-content = ap (λ (kind : ℕ). if is_empty_type kind then [] else piece (sh_offset file 0) (sh_size file 0) file) first-kind

  -- it is no section
  pub first-is : content file (e_shstrndx file) ≡ section_names → section_at file 0 ≡ no_section
  first-is names = λ i. record {
    index = 0;
    name = name_in (names i) (first-name i);
    kind = first-kind i;
    flags = first-flags i;
    addr = first-addr i;
    size = first-size i;
    link = first-link i;
    content = first-content i;
  }

-- the sections of a file that is laid, by themselves
module _ (plan : Plan) (file : List ℕ) (laid_so : IsLaid plan file) where
  -- there are nine sections
  pub shnum-is : e_shnum file ≡ 9
  shnum-is = ap e_shnum laid_so.begins ∙ elf-shnum (e_shoff file) laid_so.rest

  -- the last one has the names of sections
  pub shstrndx-is : e_shstrndx file ≡ 8
  shstrndx-is = ap e_shstrndx laid_so.begins ∙ elf-shstrndx (e_shoff file) laid_so.rest

  -- the section of names stands in the file
  pub names-stand : StandsAt plan file 7 Names
  unfolding parts
  names-stand = laid_so.standing.1.1.1.1.1.1.0

  -- the section of the names of sections does
  pub section_names-stand : StandsAt plan file 8 SectionNames
  unfolding parts
  section_names-stand = laid_so.standing.1.1.1.1.1.1.1.0

  module _ (ok : Bounds plan) where
    -- the names of sections are those that were written
    pub table-is : content file (e_shstrndx file) ≡ section_names
    table-is =
        let short = laid_so.short in
        ap (content file) shstrndx-is ∙ content-is plan file 8 SectionNames section_names-stand (header-fits plan ok SectionNames) (omega arith)

    -- all sections are read as they were written
    pub sections-read : sections_of file ≡ no_section ∷ sections_from plan 1 parts
    unfolding parts
    sections-read =
        let short = laid_so.short in
        let first = first-is file laid_so.headers laid_so.first table-is in
        let others = sections-are plan file ok (omega arith) table-is parts 1 laid_so.standing in
        ap (λ (n : ℕ). map (section_at file) (range_with_len 0 n)) shnum-is ∙ (λ i. first i ∷ others i)
