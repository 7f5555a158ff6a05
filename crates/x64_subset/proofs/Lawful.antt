-- The laws of spellings.
use Rattle.std.proofs.Common.{◌≡◌, ℕ, ◌+◌, List, [], ◌∷◌, ◌++◌, length, refl, sym, ◌∙◌, ap, Some, None, Ok, arith, length-append, append-nil}
use Rattle.std.specs.Prelude.{option_map, Option}
use Rattle.std.specs.Int.{Width, w8, w32, byte_len}
use Rattle.std.proofs.lemmas.Option.{same_Some, none-some}
use Rattle.insn_forms.specs.declared.forms.Form.{Form}
use Rattle.insn_forms.specs.declared.forms.Form.TheVariants.{Nop2, Nop5, Jmp8 as JmpNear, Jmp32 as JmpFar, Call as CallTo, Ret as Return}
use Rattle.insn_forms.specs.Displacement.{displacement}
use Rattle.insn_forms.specs.Spelling.{after, spell}
use Rattle.x64_subset.specs.declared.insn.Insn.{Insn}
use Rattle.x64_subset.specs.declared.insn.Insn.TheVariants.{Nop, Int3, Jmp8, Jmp32, Call, Ret, Jcc8, Jcc32, Alu, AluImm, Inc, Dec, MovImm, Hlt, Ud2, Out, Endbr64, Serialize}
use Rattle.x64_subset.specs.Spells.{Spells, Leads, mod_rm}
use Rattle.x64_subset.specs.Reading.{read}
use Rattle.x64_subset.specs.Whole.{name, insn_of, name_len}
use Rattle.x64_subset.specs.Laws.{SpellingsAreApart, SpellingsAreUnique, FormsAreInstructions}
use Rattle.insn_forms.proofs.Spellings.{length-spell}
use Rattle.x64_subset.proofs.Spelt.{reads_spelt}

-- a list that another at its end doesn't lengthen
no_rest : (code rest : List ℕ) → length code ≡ length (code ++ rest) → rest ≡ []
no_rest code [] e = refl
no_rest code (b ∷ rest) e = absurd (omega (arith, length-append code (b ∷ rest)))

-- no spelling begins a longer one, or one of another instruction
pub spellings_are_apart : SpellingsAreApart
spellings_are_apart at insn other code rest p q =
    let first : read at (code ++ rest) ≡ Ok (insn, length code) = reads_spelt insn at code p rest in
    let second : read at (code ++ rest) ≡ Ok (other, length (code ++ rest)) = ap (read at) (sym (append-nil (code ++ rest))) ∙ reads_spelt other at (code ++ rest) q [] in
    let both : (insn, length code) ≡ (other, length (code ++ rest)) = cc in
    (no_rest code rest (ap (λ (a : Insn × ℕ). a.1) both), ap (λ (a : Insn × ℕ). a.0) both)

-- one displacement
same_leads : (w : Width) (opcode : List ℕ) (at target : ℕ) (code other : List ℕ) → Leads w opcode at target code → Leads w opcode at target other → code ≡ other
same_leads w opcode at target code other (rel, p, is) (rel', q, is') =
    is ∙ ap (λ (r : List ℕ). opcode ++ r) (same_Some _ _ (sym p ∙ q)) ∙ sym is'

-- an instruction has one spelling
pub spellings_are_unique : SpellingsAreUnique
unfolding Spells
spellings_are_unique at (Nop len) code other p q = same_Some _ _ (sym p ∙ q)
spellings_are_unique at Int3 code other p q = p ∙ sym q
spellings_are_unique at (Jmp8 target) code other p q = same_leads w8 (0xeb ∷ []) at target _ _ p q
spellings_are_unique at (Jmp32 target) code other p q = same_leads w32 (0xe9 ∷ []) at target _ _ p q
spellings_are_unique at (Call target) code other p q = same_leads w32 (0xe8 ∷ []) at target _ _ p q
spellings_are_unique at Ret code other p q = p ∙ sym q
spellings_are_unique at (Jcc8 condition target) code other (c, p) (d, q) = same_leads w8 ((0x70 + condition) ∷ []) at target _ _ p q
spellings_are_unique at (Jcc32 condition target) code other (c, p) (d, q) = same_leads w32 (0x0f ∷ (0x80 + condition) ∷ []) at target _ _ p q
spellings_are_unique at (Alu op rm reg) code other (a, b, p) (c, d, q) = p ∙ sym q
spellings_are_unique at (AluImm op rm byte) code other (digit, some, a, b, p) (digit', some', c, d, q) =
    p ∙ ap (λ (n : ℕ). 0x83 ∷ mod_rm n rm ∷ byte ∷ []) (same_Some _ _ (sym some ∙ some')) ∙ sym q
spellings_are_unique at (Inc rm) code other (a, p) (c, q) = p ∙ sym q
spellings_are_unique at (Dec rm) code other (a, p) (c, q) = p ∙ sym q
spellings_are_unique at (MovImm r number) code other (a, b, p) (c, d, q) = p ∙ sym q
spellings_are_unique at Hlt code other p q = p ∙ sym q
spellings_are_unique at Ud2 code other p q = p ∙ sym q
spellings_are_unique at (Out port) code other (a, p) (c, q) = p ∙ sym q
spellings_are_unique at Endbr64 code other p q = p ∙ sym q
spellings_are_unique at Serialize code other p q = p ∙ sym q

-- what an opcode makes of a displacement that there is
some_displacement : (w : Width) (opcode at len target : ℕ) (code : List ℕ) → 1 + byte_len w ≡ len → option_map (λ rel. opcode ∷ rel) (displacement w (after at len) target) ≡ Some code → Leads w (opcode ∷ []) at target code
some_displacement w opcode at len target code same e =
    go (displacement w (after at len) target) refl e
  where
    go : (d : Option (List ℕ)) → displacement w (after at len) target ≡ d → option_map (λ rel. opcode ∷ rel) d ≡ Some code → Leads w (opcode ∷ []) at target code
    go (Some rel) is e =
        (rel, ap (λ (n : ℕ). displacement w (after at n) target) same ∙ is, sym (same_Some _ _ e))
    go None is e = absurd (none-some _ e)

-- a form's name is its instruction's spelling
spells_name : (at : ℕ) (form : Form) (code : List ℕ) → name form at ≡ Some code → Spells (insn_of form) at code
unfolding Spells spell
spells_name at Nop2 code e = e
spells_name at Nop5 code e = e
spells_name at (JmpNear target) code e = some_displacement w8 0xeb at 2 target code refl e
spells_name at (JmpFar target) code e = some_displacement w32 0xe9 at 5 target code refl e
spells_name at (CallTo target) code e = some_displacement w32 0xe8 at 5 target code refl e
spells_name at Return code e = sym (same_Some _ _ e)

-- a form's name is as long as its instruction
length_name : (at : ℕ) (form : Form) (code : List ℕ) → name form at ≡ Some code → length code ≡ name_len form
length_name at Nop2 code e = length-spell Nop2 at code e
length_name at Nop5 code e = length-spell Nop5 at code e
length_name at (JmpNear target) code e = length-spell (JmpNear target) at code e
length_name at (JmpFar target) code e = length-spell (JmpFar target) at code e
length_name at (CallTo target) code e = length-spell (CallTo target) at code e
length_name at Return code e = ap length (sym (same_Some _ _ e))

-- forms are instructions
pub forms_are_instructions : FormsAreInstructions
forms_are_instructions at form code e = (spells_name at form code e, length_name at form code e)
