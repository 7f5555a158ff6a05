-- The names of forms: what is read of them, and that they tell forms apart.
--
-- For the machines' proofs:
--   name_read                  name form at ≡ Some bytes → read at bytes ≡ Ok (insn_of form, length bytes)
--   name_length                name form at ≡ Some bytes → length bytes ≡ name_len form
--   trap_read                  read at (0xcc ∷ []) ≡ Ok (Int3, 1)
--   name_of                    spell form at ≡ Some code → IsNamed form at code
--   first_not_trap             spell form at ≡ Some code → slice_index code 0 ≢ 0xcc
--   name_not_trap              name form at ≢ Some (0xcc ∷ [])
--   same_insn, same_name       forms of one instruction, or of one name, are one
--   names_differ               f ≢ g → name f at ≡ Some bytes → name g at ≢ Some bytes
--   insns_differ               f ≢ g → insn_of f ≢ insn_of g
use Rattle.std.proofs.Common.{◌≡◌, ◌≢◌, ℕ, zero, suc, ◌<◌, ◌≤◌, List, [], ◌∷◌, length, get_or, slice_index, Some, Ok, refl, ap, sym, ◌∙◌, arith, append-nil}
use Rattle.std.proofs.lemmas.Option.{same_Some}
use Rattle.insn_forms.specs.declared.forms.Form.{Form}
use Rattle.insn_forms.specs.declared.forms.Form.TheVariants.{Nop2, Nop5, Jmp8, Jmp32, Call, Ret}
use Rattle.insn_forms.specs.Spelling.{spell, size}
use Rattle.insn_forms.proofs.Spellings.{length-spell, relative}
use Rattle.std.specs.Int.{w8, w32}
use Rattle.x64_subset.specs.declared.insn.Insn.{Insn}
use Rattle.x64_subset.specs.declared.insn.Insn.TheVariants.{Int3}
use Rattle.x64_subset.specs.Reading.{read}
use Rattle.x64_subset.specs.Spells.{Spells}
use Rattle.x64_subset.specs.Whole.{name, name_len, insn_of}
use Rattle.x64_subset.proofs.Lawful.{forms_are_instructions}
use Rattle.x64_subset.proofs.Spelt.{reads_spelt}

-- what is read of a form's name is the form's instruction, all of it
pub name_read : (form : Form) (at : ℕ) (bytes : List ℕ) → name form at ≡ Some bytes → read at bytes ≡ Ok (insn_of form, length bytes)
name_read form at bytes e =
    let spelt : Spells (insn_of form) at bytes = (forms_are_instructions at form bytes e).0 in
    ap (read at) (sym (append-nil bytes)) ∙ reads_spelt (insn_of form) at bytes spelt []

-- so its length is that of the instruction
pub name_length : (form : Form) (at : ℕ) (bytes : List ℕ) → name form at ≡ Some bytes → length bytes ≡ name_len form
name_length form at bytes e = (forms_are_instructions at form bytes e).1

-- what is read of a breakpoint
pub trap_read : (at : ℕ) → read at (0xcc ∷ []) ≡ Ok (Int3, 1)
unfolding read
trap_read at = refl

-- a form has a name where it has a spelling, and the name is how the spelling begins
pub record IsNamed (form : Form) (at : ℕ) (code : List ℕ) : Type 0 where
  pub bytes : List ℕ
  pub named : name form at ≡ Some bytes
  pub no_longer : length bytes ≤ size form
  pub begins : (j : ℕ) → j < length bytes → get_or bytes j 0 ≡ get_or code j 0

-- the spelling is the name
whole_name : (form : Form) (at : ℕ) (code : List ℕ) → name form at ≡ spell form at → spell form at ≡ Some code → IsNamed form at code
whole_name form at code same e = record {
  bytes = code;
  named = same ∙ e;
  no_longer = let long = length-spell form at code e in omega arith;
  begins = λ j below. refl;
}

pub name_of : (form : Form) (at : ℕ) (code : List ℕ) → spell form at ≡ Some code → IsNamed form at code
unfolding spell
name_of Nop2 at code e = whole_name Nop2 at code refl e
name_of Nop5 at code e = whole_name Nop5 at code refl e
name_of (Jmp8 target) at code e = whole_name (Jmp8 target) at code refl e
name_of (Jmp32 target) at code e = whole_name (Jmp32 target) at code refl e
name_of (Call target) at code e = whole_name (Call target) at code refl e
name_of Ret at code e =
    let is : 0xc3 ∷ 0xcc ∷ 0xcc ∷ 0xcc ∷ 0xcc ∷ [] ≡ code = same_Some _ _ e in
    record {
      bytes = 0xc3 ∷ [];
      named = refl;
      no_longer = omega arith;
      begins = begins is;
    }
  where
    begins : 0xc3 ∷ 0xcc ∷ 0xcc ∷ 0xcc ∷ 0xcc ∷ [] ≡ code → (j : ℕ) → j < 1 → get_or (0xc3 ∷ []) j 0 ≡ get_or code j 0
    begins is zero below = ap (λ (c : List ℕ). get_or c 0 0) is
    begins is (suc j) below = absurd (omega arith)

-- the first byte of a spelling is no breakpoint
pub first_not_trap : (form : Form) (at : ℕ) (code : List ℕ) → spell form at ≡ Some code → slice_index code 0 ≢ 0xcc
unfolding spell
first_not_trap Nop2 at code e is =
    let first : 0x66 ≡ slice_index code 0 = ap (λ (c : List ℕ). slice_index c 0) (same_Some _ _ e) in absurd (omega arith)
first_not_trap Nop5 at code e is =
    let first : 0x0f ≡ slice_index code 0 = ap (λ (c : List ℕ). slice_index c 0) (same_Some _ _ e) in absurd (omega arith)
first_not_trap (Jmp8 target) at code e is =
    let first : slice_index code 0 ≡ 0xeb = ap (λ (c : List ℕ). slice_index c 0) (relative w8 _ _ _ _ e).bytes in absurd (omega arith)
first_not_trap (Jmp32 target) at code e is =
    let first : slice_index code 0 ≡ 0xe9 = ap (λ (c : List ℕ). slice_index c 0) (relative w32 _ _ _ _ e).bytes in absurd (omega arith)
first_not_trap (Call target) at code e is =
    let first : slice_index code 0 ≡ 0xe8 = ap (λ (c : List ℕ). slice_index c 0) (relative w32 _ _ _ _ e).bytes in absurd (omega arith)
first_not_trap Ret at code e is =
    let first : 0xc3 ≡ slice_index code 0 = ap (λ (c : List ℕ). slice_index c 0) (same_Some _ _ e) in absurd (omega arith)

-- no form's instruction is a breakpoint
insn_not_trap : (form : Form) → insn_of form ≢ Int3
insn_not_trap Nop2 e = absurd (cc)
insn_not_trap Nop5 e = absurd (cc)
insn_not_trap (Jmp8 target) e = absurd (cc)
insn_not_trap (Jmp32 target) e = absurd (cc)
insn_not_trap (Call target) e = absurd (cc)
insn_not_trap Ret e = absurd (cc)

-- so no name is
pub name_not_trap : (form : Form) (at : ℕ) → name form at ≢ Some (0xcc ∷ [])
name_not_trap form at e =
    let first : read at (0xcc ∷ []) ≡ Ok (insn_of form, 1) = name_read form at (0xcc ∷ []) e in
    let second : read at (0xcc ∷ []) ≡ Ok (Int3, 1) = trap_read at in
    let both : (insn_of form, 1) ≡ (Int3, 1) = cc in
    insn_not_trap form (ap (λ (a : Insn × ℕ). a.0) both)

-- forms of one instruction are one
pub same_insn : (f g : Form) → insn_of f ≡ insn_of g → f ≡ g
same_insn Nop2 Nop2 e = refl
same_insn Nop2 Nop5 e = let n : ◌≡◌ {A = ℕ} 2 5 = cc in absurd (omega arith)
same_insn Nop2 (Jmp8 t) e = absurd (cc)
same_insn Nop2 (Jmp32 t) e = absurd (cc)
same_insn Nop2 (Call t) e = absurd (cc)
same_insn Nop2 Ret e = absurd (cc)
same_insn Nop5 Nop2 e = let n : ◌≡◌ {A = ℕ} 5 2 = cc in absurd (omega arith)
same_insn Nop5 Nop5 e = refl
same_insn Nop5 (Jmp8 t) e = absurd (cc)
same_insn Nop5 (Jmp32 t) e = absurd (cc)
same_insn Nop5 (Call t) e = absurd (cc)
same_insn Nop5 Ret e = absurd (cc)
same_insn (Jmp8 s) Nop2 e = absurd (cc)
same_insn (Jmp8 s) Nop5 e = absurd (cc)
same_insn (Jmp8 s) (Jmp8 t) e = let same : s ≡ t = cc in ap (λ n. Jmp8 n) same
same_insn (Jmp8 s) (Jmp32 t) e = absurd (cc)
same_insn (Jmp8 s) (Call t) e = absurd (cc)
same_insn (Jmp8 s) Ret e = absurd (cc)
same_insn (Jmp32 s) Nop2 e = absurd (cc)
same_insn (Jmp32 s) Nop5 e = absurd (cc)
same_insn (Jmp32 s) (Jmp8 t) e = absurd (cc)
same_insn (Jmp32 s) (Jmp32 t) e = let same : s ≡ t = cc in ap (λ n. Jmp32 n) same
same_insn (Jmp32 s) (Call t) e = absurd (cc)
same_insn (Jmp32 s) Ret e = absurd (cc)
same_insn (Call s) Nop2 e = absurd (cc)
same_insn (Call s) Nop5 e = absurd (cc)
same_insn (Call s) (Jmp8 t) e = absurd (cc)
same_insn (Call s) (Jmp32 t) e = absurd (cc)
same_insn (Call s) (Call t) e = let same : s ≡ t = cc in ap (λ n. Call n) same
same_insn (Call s) Ret e = absurd (cc)
same_insn Ret Nop2 e = absurd (cc)
same_insn Ret Nop5 e = absurd (cc)
same_insn Ret (Jmp8 t) e = absurd (cc)
same_insn Ret (Jmp32 t) e = absurd (cc)
same_insn Ret (Call t) e = absurd (cc)
same_insn Ret Ret e = refl

-- forms of one name are one
pub same_name : (f g : Form) (at : ℕ) (bytes : List ℕ) → name f at ≡ Some bytes → name g at ≡ Some bytes → f ≡ g
same_name f g at bytes p q =
    let first : read at bytes ≡ Ok (insn_of f, length bytes) = name_read f at bytes p in
    let second : read at bytes ≡ Ok (insn_of g, length bytes) = name_read g at bytes q in
    let both : (insn_of f, length bytes) ≡ (insn_of g, length bytes) = cc in
    same_insn f g (ap (λ (a : Insn × ℕ). a.0) both)

-- so two forms that differ have other names and other instructions
pub names_differ : (f g : Form) (at : ℕ) (bytes : List ℕ) → f ≢ g → name f at ≡ Some bytes → name g at ≢ Some bytes
names_differ f g at bytes other p q = other (same_name f g at bytes p q)

pub insns_differ : (f g : Form) → f ≢ g → insn_of f ≢ insn_of g
insns_differ f g other e = other (same_insn f g e)
