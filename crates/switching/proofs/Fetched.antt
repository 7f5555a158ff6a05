-- What a fetch at a site is: bytes that agree with an instruction, as far as both go, are that instruction.
--
-- For the machines' proofs, with IsFetch end at bytes:
--   fetch_of_form              IsSome (spell form at) → at + size form ≤ end
--                              → ((j byte : ℕ) → slice_get bytes j ≡ Some byte → j < size form → byte ≡ slice_index (spelled form at) j)
--                              → name form at ≡ Some bytes
--   fetch_of_trap              at < end → ((byte : ℕ) → slice_get bytes 0 ≡ Some byte → byte ≡ 0xcc) → bytes ≡ 0xcc ∷ []
--   fetch_in_chunk             IsSpellable k → k.at + size k.old ≤ end → AreInTable taken k bytes → FetchIs taken k bytes
use Rattle.std.proofs.Common.{◌≡◌, ◌⊎◌, inl, inr, ℕ, zero, suc, ◌+◌, ◌<◌, ◌≤◌, List, [], ◌∷◌, ◌++◌, length, get_or, slice_index, Some, IsSome, Ok, Err, refl, ap, sym, ◌∙◌, subst, arith, append-nil, length-append}
use Rattle.std.specs.Prelude.{slice_get}
use Rattle.std.proofs.lemmas.Option.{same_Some, none-some}
use Rattle.std.proofs.lemmas.List.{take_at}
use Rattle.insn_forms.specs.declared.forms.Form.{Form}
use Rattle.insn_forms.specs.declared.forms.Change.{Change}
use Rattle.insn_forms.specs.Spelling.{spell, size}
use Rattle.insn_forms.proofs.Spellings.{size_pos}
use Rattle.poke_batch.specs.Poke.{spelled}
use Rattle.poke_batch.specs.Underway.{IsSpellable}
use Rattle.x64_subset.specs.declared.insn.Insn.{Insn}
use Rattle.x64_subset.specs.declared.insn.Insn.TheVariants.{Int3}
use Rattle.x64_subset.specs.declared.insn.Undecoded.TheVariants.{Short, Unknown}
use Rattle.x64_subset.specs.Reading.{read}
use Rattle.x64_subset.specs.Spells.{Spells, IsCut}
use Rattle.x64_subset.specs.Whole.{name, insn_of}
use Rattle.x64_subset.proofs.Answered.{cut_read}
use Rattle.x64_subset.proofs.Lawful.{forms_are_instructions}
use Rattle.x64_subset.proofs.Spelt.{reads_spelt}
use Rattle.cpu_core.specs.Fetch.{IsFetch}
use Rattle.switching.specs.Table.{byte_after, IsInTable}
use Rattle.switching.proofs.Rounds.{spelt_as}
use Rattle.switching.proofs.Names.{IsNamed, name_of}

-- the bytes of two lists agree, as far as both go
abbrev pub Agree : List ℕ → List ℕ → Type 0
Agree bytes code = (j byte : ℕ) → slice_get bytes j ≡ Some byte → j < length code → byte ≡ get_or code j 0

-- so one of them is how the other begins
pub data Begins : List ℕ → List ℕ → Type 0 where
  goes_on : (code rest : List ℕ) → Begins (code ++ rest) code
  breaks_off : (bytes : List ℕ) (b : ℕ) (rest : List ℕ) → Begins bytes (bytes ++ b ∷ rest)

begins_more : (b : ℕ) (bytes code : List ℕ) → Begins bytes code → Begins (b ∷ bytes) (b ∷ code)
begins_more b _ _ (goes_on code rest) = goes_on (b ∷ code) rest
begins_more b _ _ (breaks_off bytes c rest) = breaks_off (b ∷ bytes) c rest

pub begins : (bytes code : List ℕ) → Agree bytes code → Begins bytes code
begins bytes [] agree = goes_on [] bytes
begins [] (c ∷ code) agree = breaks_off [] c code
begins (b ∷ bytes) (c ∷ code) agree =
    let same : b ≡ c = agree 0 b refl (omega arith) in
    let rest : Begins bytes code = begins bytes code (λ j byte is below. agree (suc j) byte is (omega arith)) in
    subst (λ (x : ℕ). Begins (b ∷ bytes) (x ∷ code)) same (begins_more b bytes code rest)

-- a fetch that begins with an instruction is no longer
no_rest : (code rest : List ℕ) → length (code ++ rest) ≡ length code → code ++ rest ≡ code
no_rest code [] e = append-nil code
no_rest code (b ∷ rest) e = absurd (omega (arith, length-append code (b ∷ rest)))

goes_on_is : (end at : ℕ) (insn : Insn) (code rest : List ℕ) → Spells insn at code → IsFetch end at (code ++ rest) → code ++ rest ≡ code
goes_on_is end at insn code rest spelt fetch =
    let reads : read at (code ++ rest) ≡ Ok (insn, length code) = reads_spelt insn at code spelt rest in
    elim fetch.told [
      | inl whole ↦
          let is : read at (code ++ rest) ≡ Ok (whole.0, length (code ++ rest)) = whole.1 in
          let both : (whole.0, length (code ++ rest)) ≡ (insn, length code) = cc in
          no_rest code rest (ap (λ (a : Insn × ℕ). a.1) both)
      | inr other ↦ elim other [
        | inl unknown ↦ let is : read at (code ++ rest) ≡ Err Unknown = unknown.0 in absurd (cc)
        | inr cut ↦ let is : read at (code ++ rest) ≡ Err Short = cut.0 in absurd (cc)
      ]
    ]

-- and none breaks off before its end, where the text goes on
breaks_off_not : (end at : ℕ) (insn : Insn) (bytes : List ℕ) (b : ℕ) (rest : List ℕ) → Spells insn at (bytes ++ b ∷ rest) → at + length (bytes ++ b ∷ rest) ≤ end → IsFetch end at bytes → ⊥
breaks_off_not end at insn bytes b rest spelt inside fetch =
    let long : length (bytes ++ b ∷ rest) ≡ length bytes + suc (length rest) = length-append bytes (b ∷ rest) in
    let cut : IsCut at bytes = record {
      insn = insn;
      code = bytes ++ b ∷ rest;
      spelt = spelt;
      prefix = take_at bytes (b ∷ rest) (length bytes) refl;
      shorter = omega arith;
    } in
    let reads : read at bytes ≡ Err Short = cut_read at bytes cut in
    elim fetch.told [
      | inl whole ↦ let is : read at bytes ≡ Ok (whole.0, length bytes) = whole.1 in absurd (cc)
      | inr other ↦ elim other [
        | inl unknown ↦ let is : read at bytes ≡ Err Unknown = unknown.0 in absurd (cc)
        | inr short ↦ let is : at + length bytes ≡ end = short.1 in absurd (omega arith)
      ]
    ]

-- a fetch that agrees with an instruction is that instruction
pub fetch_of_code : (end at : ℕ) (insn : Insn) (code bytes : List ℕ) → Spells insn at code → at + length code ≤ end → IsFetch end at bytes → Agree bytes code → bytes ≡ code
fetch_of_code end at insn code bytes spelt inside fetch agree = go bytes code (begins bytes code agree) spelt inside fetch
  where
    go : (bytes code : List ℕ) → Begins bytes code → Spells insn at code → at + length code ≤ end → IsFetch end at bytes → bytes ≡ code
    go _ _ (goes_on code rest) spelt inside fetch = goes_on_is end at insn code rest spelt fetch
    go _ _ (breaks_off bytes b rest) spelt inside fetch = absurd (breaks_off_not end at insn bytes b rest spelt inside fetch)

-- a fetch that agrees with the spelling of a form is its name
pub fetch_of_form : (end at : ℕ) (form : Form) (bytes : List ℕ) → IsSome (spell form at) → at + size form ≤ end → IsFetch end at bytes → ((j byte : ℕ) → slice_get bytes j ≡ Some byte → j < size form → byte ≡ slice_index (spelled form at) j) → name form at ≡ Some bytes
fetch_of_form end at form bytes some inside fetch agree =
    let named : IsNamed form at (spelled form at) = name_of form at (spelled form at) (spelt_as form at some) in
    let short : length named.bytes ≤ size form = named.no_longer in
    let spelt : Spells (insn_of form) at named.bytes = (forms_are_instructions at form named.bytes named.named).0 in
    let same : bytes ≡ named.bytes = fetch_of_code end at (insn_of form) named.bytes bytes spelt (omega arith) fetch (λ j byte is below. agree j byte is (omega arith) ∙ sym (named.begins j below)) in
    named.named ∙ ap (λ (b : List ℕ). Some b) (sym same)

-- a fetch that begins with a breakpoint is one
spells_trap : (at : ℕ) → Spells Int3 at (0xcc ∷ [])
unfolding Spells
spells_trap at = refl

pub fetch_of_trap : (end at : ℕ) (bytes : List ℕ) → at < end → IsFetch end at bytes → ((byte : ℕ) → slice_get bytes 0 ≡ Some byte → byte ≡ 0xcc) → bytes ≡ 0xcc ∷ []
fetch_of_trap end at bytes inside fetch first =
    fetch_of_code end at Int3 (0xcc ∷ []) bytes (spells_trap at) (omega arith) fetch (agree first)
  where
    agree : ((byte : ℕ) → slice_get bytes 0 ≡ Some byte → byte ≡ 0xcc) → Agree bytes (0xcc ∷ [])
    agree first zero byte is below = first byte is
    agree first (suc j) byte is below = absurd (omega arith)

-- what a fetch at a site of the open chunk is, for a processor that has taken so many of the chunk's three requests
abbrev pub FetchIs : ℕ → Change → List ℕ → Type 0
FetchIs zero k bytes = (name k.old k.at ≡ Some bytes) ⊎ (bytes ≡ 0xcc ∷ [])
FetchIs (suc zero) k bytes = bytes ≡ 0xcc ∷ []
FetchIs (suc (suc zero)) k bytes = (bytes ≡ 0xcc ∷ []) ⊎ (name k.new k.at ≡ Some bytes)
FetchIs (suc (suc (suc n))) k bytes = name k.new k.at ≡ Some bytes

-- each of its bytes has the candidates of the table
abbrev pub AreInTable : ℕ → Change → List ℕ → Type 0
AreInTable taken k bytes = (j byte : ℕ) → slice_get bytes j ≡ Some byte → j < size k.old → IsInTable taken k j byte

-- the first byte, if there is one, is one of two
first_of : (P Q : ℕ → Type 0) (bytes : List ℕ) → ((byte : ℕ) → slice_get bytes 0 ≡ Some byte → P byte ⊎ Q byte) → ((byte : ℕ) → slice_get bytes 0 ≡ Some byte → P byte) ⊎ ((byte : ℕ) → slice_get bytes 0 ≡ Some byte → Q byte)
first_of P Q [] each = inl (λ byte is. absurd (none-some _ is))
first_of P Q (b ∷ bytes) each =
    elim (each b refl) [
      | inl p ↦ inl (λ byte is. subst P (same_Some _ _ is) p)
      | inr q ↦ inr (λ byte is. subst Q (same_Some _ _ is) q)
    ]

one_of : (P : Type 0) → P ⊎ P → P
one_of P (inl p) = p
one_of P (inr p) = p

-- the old form, where the first byte is its first
old_fetch : (end : ℕ) (k : Change) (bytes : List ℕ) → IsSpellable k → k.at + size k.old ≤ end → IsFetch end k.at bytes → AreInTable 0 k bytes → ((byte : ℕ) → slice_get bytes 0 ≡ Some byte → byte ≡ byte_after 0 k 0) → name k.old k.at ≡ Some bytes
old_fetch end k bytes s inside fetch each first = fetch_of_form end k.at k.old bytes s.old_spelt inside fetch (at first each)
  where
    at : ((byte : ℕ) → slice_get bytes 0 ≡ Some byte → byte ≡ byte_after 0 k 0) → AreInTable 0 k bytes → (j byte : ℕ) → slice_get bytes j ≡ Some byte → j < size k.old → byte ≡ slice_index (spelled k.old k.at) j
    at first each zero byte is below = first byte is
    at first each (suc j) byte is below = one_of _ (each (suc j) byte is below)

-- the new form, where each byte is one of it
new_fetch : (end : ℕ) (k : Change) (bytes : List ℕ) → IsSpellable k → k.at + size k.old ≤ end → IsFetch end k.at bytes → ((j byte : ℕ) → slice_get bytes j ≡ Some byte → j < size k.old → byte ≡ slice_index (spelled k.new k.at) j) → name k.new k.at ≡ Some bytes
new_fetch end k bytes s inside fetch each =
    let same : size k.old ≡ size k.new = s.one_size in
    fetch_of_form end k.at k.new bytes s.new_spelt (omega arith) fetch (λ j byte is below. each j byte is (omega arith))

-- its bytes from the second round on
new_bytes : (k : Change) (bytes : List ℕ) → AreInTable 2 k bytes → ((byte : ℕ) → slice_get bytes 0 ≡ Some byte → byte ≡ byte_after 3 k 0) → (j byte : ℕ) → slice_get bytes j ≡ Some byte → j < size k.old → byte ≡ slice_index (spelled k.new k.at) j
new_bytes k bytes each first zero byte is below = first byte is
new_bytes k bytes each first (suc j) byte is below = one_of _ (each (suc j) byte is below)

pub fetch_in_chunk : (end : ℕ) (k : Change) (taken : ℕ) (bytes : List ℕ) → IsSpellable k → k.at + size k.old ≤ end → IsFetch end k.at bytes → AreInTable taken k bytes → FetchIs taken k bytes
fetch_in_chunk end k zero bytes s inside fetch each =
    let long : 0 < size k.old = size_pos k.old in
    elim (first_of (λ b. b ≡ byte_after 0 k 0) (λ b. b ≡ 0xcc) bytes (λ byte is. each 0 byte is long)) [
      | inl first ↦ inl (old_fetch end k bytes s inside fetch each first)
      | inr first ↦ inr (fetch_of_trap end k.at bytes (omega arith) fetch first)
    ]
fetch_in_chunk end k (suc zero) bytes s inside fetch each =
    let long : 0 < size k.old = size_pos k.old in
    fetch_of_trap end k.at bytes (omega arith) fetch (λ byte is. one_of _ (each 0 byte is long))
fetch_in_chunk end k (suc (suc zero)) bytes s inside fetch each =
    let long : 0 < size k.old = size_pos k.old in
    elim (first_of (λ b. b ≡ 0xcc) (λ b. b ≡ byte_after 3 k 0) bytes (λ byte is. each 0 byte is long)) [
      | inl first ↦ inl (fetch_of_trap end k.at bytes (omega arith) fetch first)
      | inr first ↦ inr (new_fetch end k bytes s inside fetch (new_bytes k bytes each first))
    ]
fetch_in_chunk end k (suc (suc (suc n))) bytes s inside fetch each =
    new_fetch end k bytes s inside fetch (λ j byte is below. one_of _ (each j byte is below))
