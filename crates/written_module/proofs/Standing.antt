-- Where the sections of a plan stand in its file.
use Rattle.std.proofs.Common.{◌≡◌, ◌≤◌, ◌+◌, ◌-◌, ◌*◌, ◌/◌, ◌∙◌, ℕ, List, [], ◌∷◌, ◌++◌, length, take, drop, replicate, refl, sym, ap, arith, append_assoc}
use Rattle.std.proofs.lemmas.List.{drop-drop, drop_at, take_at, drop-append-le, drop_all, length-append, length-drop}
use Rattle.elf_module.specs.Elf.{piece, e_shoff}
use Rattle.elf_build.specs.declared.sections.Part.{Part}
use Rattle.elf_build.specs.declared.plan.Plan.{Plan}
use Rattle.elf_build.specs.File.{part_bytes, filled, header_of, headers_from, laid, section_header, parts}
use Rattle.written_module.proofs.Fields.{drop-after, length-header}

-- a section stands in a file: its header at its index, its bytes at some offset
pub record StandsAt (plan : Plan) (file : List ℕ) (index : ℕ) (part : Part) : Type 0 where
  pub offset : ℕ
  pub rest : List ℕ
  pub header : drop (e_shoff file + 64 * index) file ≡ section_header (header_of plan part) offset (length (part_bytes plan part)) ++ rest
  pub bytes : piece offset (length (part_bytes plan part)) file ≡ part_bytes plan part
  pub within : offset + length (part_bytes plan part) ≤ length file

-- sections stand in a file, their headers from an index on
abbrev pub AreStanding : Plan → List ℕ → ℕ → List Part → Type 0
AreStanding plan file index [] = Unit {0}
AreStanding plan file index (part ∷ parts) = StandsAt plan file index part × AreStanding plan file (index + 1) parts

-- a list made of a prefix and a piece has the piece after the prefix
piece-in : (file whole more prefix content rest : List ℕ) (offset : ℕ) → length prefix ≡ offset
    → drop offset file ≡ drop offset whole ++ more → whole ≡ (prefix ++ content) ++ rest → piece offset (length content) file ≡ content
piece-in file whole more prefix content rest offset long ahead is =
    let after : drop offset file ≡ content ++ (rest ++ more) =
    ahead ∙ ap (λ (l : List ℕ). drop offset l ++ more) (is ∙ append_assoc prefix content rest)
    ∙ ap (λ (l : List ℕ). l ++ more) (drop_at prefix (content ++ rest) offset long)
    ∙ append_assoc content rest more in
    ap (λ (l : List ℕ). take (length content) l) after ∙ take_at content (rest ++ more) (length content) refl

-- what is laid after a file leaves it at the prefix
pub laid-begins : (plan : Plan) (parts : List Part) (out : List ℕ) → (more : List ℕ) × (laid plan out parts ≡ out ++ more)
laid-begins plan [] out = (replicate ((length out + 15) / 16 * 16 - length out) 0, refl)
laid-begins plan (part ∷ parts) out =
    let zeros = replicate ((length out + 15) / 16 * 16 - length out) 0 in
    let next = laid-begins plan parts (filled out ++ part_bytes plan part) in
    (zeros ++ (part_bytes plan part ++ next.0), next.1 ∙ append_assoc (out ++ zeros) (part_bytes plan part) next.0 ∙ append_assoc out zeros (part_bytes plan part ++ next.0))

-- more at its end makes a list no shorter
longer-by : (out more : List ℕ) → length out ≤ length (out ++ more)
longer-by out more = let sum : length (out ++ more) ≡ length out + length more = length-append out more in omega arith

-- filling up makes a file no shorter
pub filled-longer : (out : List ℕ) → length out ≤ length (filled out)
filled-longer out = longer-by out (replicate ((length out + 15) / 16 * 16 - length out) 0)

-- the header after the one at an index
pub header-next : (file header rest : List ℕ) (shoff index : ℕ) → length header ≡ 64 → drop (shoff + 64 * index) file ≡ header ++ rest
    → drop (shoff + 64 * (index + 1)) file ≡ rest
header-next file header rest shoff index long is =
    let place : shoff + 64 * (index + 1) ≡ (shoff + 64 * index) + 64 = omega arith in
    ap (λ (at : ℕ). drop at file) place ∙ sym (drop-drop 64 (shoff + 64 * index) file) ∙ ap (λ (l : List ℕ). drop 64 l) is
    ∙ drop_at header rest 64 long

-- the sections that are laid after a file stand in the whole
pub standing : (plan : Plan) (file whole more : List ℕ) → ((at : ℕ) → 64 ≤ at → at ≤ length whole → drop at file ≡ drop at whole ++ more)
    → length whole ≤ length file → (parts : List Part) (out : List ℕ) (index : ℕ) → 64 ≤ length out → laid plan out parts ≡ whole
    → drop (e_shoff file + 64 * index) file ≡ headers_from plan out parts → AreStanding plan file index parts
standing plan file whole more ahead longer [] out index some is headers = tt
standing plan file whole more ahead longer (part ∷ parts) out index some is headers =
    let content = part_bytes plan part in
    let prefix = filled out in
    let next = laid-begins plan parts (prefix ++ content) in
    let whole_is : whole ≡ (prefix ++ content) ++ next.0 = sym is ∙ next.1 in
    let grown : length out ≤ length prefix = filled-longer out in
    let joined : length (prefix ++ content) ≡ length prefix + length content = length-append prefix content in
    let reach : length whole ≡ length prefix + length content + length next.0 =
    ap length whole_is ∙ length-append (prefix ++ content) next.0 ∙ ap (λ (n : ℕ). n + length next.0) joined in (
      record {
        offset = length prefix;
        rest = headers_from plan (prefix ++ content) parts;
        header = headers;
        bytes = piece-in file whole more prefix content next.0 (length prefix) refl (ahead (length prefix) (omega arith) (omega arith)) whole_is;
        within = omega arith;
      },
      standing plan file whole more ahead longer parts (prefix ++ content) (index + 1) (omega arith) is
          (header-next file (section_header (header_of plan part) (length prefix) (length content)) (headers_from plan (prefix ++ content) parts) (e_shoff file) index (length-header (header_of plan part) (length prefix) (length content) []) headers),
    )

-- a first part over the first 64 bytes, and headers at the end: after the first part stands what stood there
module _ (first body zeros headers : List ℕ) (long : length first ≡ 64) (some : 64 ≤ length body) (empty : length zeros ≡ 64) where
  -- the four pieces, grouped from the prefix
  pub regroup : ((first ++ drop 64 body) ++ zeros) ++ headers ≡ first ++ (drop 64 body ++ (zeros ++ headers))
  regroup = append_assoc (first ++ drop 64 body) zeros headers ∙ append_assoc first (drop 64 body) (zeros ++ headers)

  -- after the first piece stands what stood there
  pub whole-ahead : (at : ℕ) → 64 ≤ at → at ≤ length body
      → drop at (((first ++ drop 64 body) ++ zeros) ++ headers) ≡ drop at body ++ (zeros ++ headers)
  whole-ahead at from to =
      let place : at ≡ 64 + (at - 64) = omega arith in
      let short : length (drop 64 body) ≡ length body - 64 = length-drop 64 body in
      ap (λ (l : List ℕ). drop at l) regroup
      ∙ ap (λ (n : ℕ). drop n (first ++ (drop 64 body ++ (zeros ++ headers)))) place
      ∙ drop-after first (drop 64 body ++ (zeros ++ headers)) 64 (at - 64) long
      ∙ drop-append-le (at - 64) (drop 64 body) (zeros ++ headers) (omega arith)
      ∙ ap (λ (l : List ℕ). l ++ (zeros ++ headers)) (drop-drop (at - 64) 64 body ∙ ap (λ (n : ℕ). drop n body) (sym place))

  -- the section headers stand after the contents
  pub whole-headers : drop (length body) (((first ++ drop 64 body) ++ zeros) ++ headers) ≡ zeros ++ headers
  whole-headers = whole-ahead (length body) some (omega arith) ∙ ap (λ (l : List ℕ). l ++ (zeros ++ headers)) (drop_all (length body) body (omega arith))

  -- how long the whole is
  pub length-whole : length (((first ++ drop 64 body) ++ zeros) ++ headers) ≡ length body + 64 + length headers
  length-whole =
      let a : length (((first ++ drop 64 body) ++ zeros) ++ headers) ≡ length ((first ++ drop 64 body) ++ zeros) + length headers = length-append ((first ++ drop 64 body) ++ zeros) headers in
      let b : length ((first ++ drop 64 body) ++ zeros) ≡ length (first ++ drop 64 body) + length zeros = length-append (first ++ drop 64 body) zeros in
      let c : length (first ++ drop 64 body) ≡ length first + length (drop 64 body) = length-append first (drop 64 body) in
      let d : length (drop 64 body) ≡ length body - 64 = length-drop 64 body in
      omega arith
