-- The reading of an instruction is exact, row by row.
use Rattle.std.proofs.Common.{◌≡◌, ℕ, ◌+◌, ◌<◌, true, List, [], ◌∷◌, ◌++◌, length, refl, sym, ◌∙◌, ap, subst, Some, arith, length-append}
use Rattle.std.specs.Int.{w8, w32, from_le_bytes}
use Rattle.insn_forms.specs.Displacement.{leads, displacement}
use Rattle.insn_forms.specs.Spelling.{after}
use Rattle.x64_subset.specs.declared.insn.AluOp.{AluOp}
use Rattle.x64_subset.specs.declared.insn.AluOp.TheVariants.{Add, Sub, Xor, Cmp, Test, Mov}
use Rattle.x64_subset.specs.declared.insn.Insn.{Insn}
use Rattle.x64_subset.specs.declared.insn.Insn.TheVariants.{Nop, Int3, Jmp8, Jmp32, Call, Ret, Jcc8, Jcc32, Alu, AluImm, Inc, Dec, MovImm, Hlt, Ud2, Out, Endbr64, Serialize}
use Rattle.x64_subset.specs.Subset.{is_register, is_condition, digit_of}
use Rattle.x64_subset.specs.Spells.{Spells, Leads, alu_opcode, mod_rm}
use Rattle.x64_subset.specs.Reading.{near, far, alu, two_registers, with_byte, by_digit, alu_imm, one_register, inc_or_dec, mov_imm, jcc8, jcc32, prefixed_nop, prefixed, long_nop, escaped, first, read}
use Rattle.insn_forms.proofs.Displacements.{displacement8, displacement32, after-below, four_bytes}
use Rattle.x64_subset.proofs.Exact.{IsExact, exact_complete, exact_unknown, exact_if, exact_on, exact_in, exact_byte, exact_expect, exact_four, exact_mod_rm, cut_by}

-- an opcode and a displacement of one byte
exact_near : (at : ℕ) (opcode : List ℕ) (len : ℕ) (insn : ℕ → Insn) → length opcode + 1 ≡ len → ((target : ℕ) (code : List ℕ) → Leads w8 opcode at target code → Spells (insn target) at code) → IsExact at opcode (near at len insn)
exact_near at opcode len insn same is =
    exact_byte at opcode _ (cut_by _ at opcode 0 [] (is _ _ (leads_8 0 (omega arith))))
    (λ rel p.
    exact_complete at (opcode ++ rel ∷ []) _ len (length-append opcode (rel ∷ []) ∙ same) (is _ _ (leads_8 rel p)))
  where
    leads_8 : (rel : ℕ) → rel < 256 → Leads w8 opcode at (leads w8 (after at len) (rel ∷ [])) (opcode ++ rel ∷ [])
    leads_8 rel p =
        (rel ∷ [], subst (λ (n : ℕ). displacement w8 (after at n) (leads w8 (after at len) (rel ∷ [])) ≡ Some (rel ∷ [])) (sym same) (displacement8 (after at len) rel (after-below at len) p), refl)

-- an opcode and a displacement of four bytes
exact_far : (at : ℕ) (opcode : List ℕ) (len : ℕ) (insn : ℕ → Insn) → length opcode + 4 ≡ len → ((target : ℕ) (code : List ℕ) → Leads w32 opcode at target code → Spells (insn target) at code) → IsExact at opcode (far at len insn)
exact_far at opcode len insn same is =
    exact_four at opcode (λ rel. insn (leads w32 (after at len) rel)) len same
    (λ a b c d p q r s.
    is _ _ (a ∷ b ∷ c ∷ d ∷ [], subst (λ (n : ℕ). displacement w32 (after at n) (leads w32 (after at len) (a ∷ b ∷ c ∷ d ∷ [])) ≡ Some (a ∷ b ∷ c ∷ d ∷ [])) (sym same) (displacement32 (after at len) a b c d (after-below at len) p q r s), refl))

-- an operation on two registers
exact_alu : (at : ℕ) (op : AluOp) → IsExact at (alu_opcode op ∷ []) (alu op)
unfolding Spells
exact_alu at op =
    exact_mod_rm at (alu_opcode op ∷ []) (two_registers op) (cut_by (Alu op 0 0) at _ (mod_rm 0 0) [] (refl, refl, refl))
    (λ reg rm small p. exact_if (is_register reg) (λ q. exact_complete at _ (Alu op rm reg) 2 refl (p, q, refl)) (exact_unknown at _))

-- an operation with a byte
exact_with_byte : (at : ℕ) (op : AluOp) (digit rm : ℕ) → digit_of op ≡ Some digit → is_register rm ≡ true → IsExact at (0x83 ∷ mod_rm digit rm ∷ []) (with_byte op rm)
unfolding Spells
exact_with_byte at op digit rm some p =
    exact_byte at _ _ (cut_by (AluImm op rm 0) at _ 0 [] (digit, some, p, omega arith, refl))
    (λ number q. exact_complete at _ (AluImm op rm number) 3 refl (digit, some, p, q, refl))

exact_alu_imm : (at : ℕ) → IsExact at (0x83 ∷ []) alu_imm
unfolding Spells
exact_alu_imm at =
    exact_mod_rm at _ by_digit (cut_by (AluImm Add 0 0) at _ (mod_rm 0 0) (0 ∷ []) (0, refl, refl, omega arith, refl))
    (λ digit rm small p.
    let prefix : ℕ → List ℕ = λ d. 0x83 ∷ mod_rm d rm ∷ [] in
    exact_on prefix digit 0 (exact_with_byte at Add 0 rm refl p)
    (exact_on prefix digit 5 (exact_with_byte at Sub 5 rm refl p)
    (exact_on prefix digit 7 (exact_with_byte at Cmp 7 rm refl p) (exact_unknown at _))))

-- one more or one less
exact_inc_or_dec : (at : ℕ) → IsExact at (0xff ∷ []) inc_or_dec
unfolding Spells
exact_inc_or_dec at =
    exact_mod_rm at _ one_register (cut_by (Inc 0) at _ (mod_rm 0 0) [] (refl, refl))
    (λ digit rm small p.
    let prefix : ℕ → List ℕ = λ d. 0xff ∷ mod_rm d rm ∷ [] in
    exact_on prefix digit 0 (exact_complete at _ (Inc rm) 2 refl (p, refl))
    (exact_on prefix digit 1 (exact_complete at _ (Dec rm) 2 refl (p, refl)) (exact_unknown at _)))

-- a number into a register
exact_mov_imm : (at r : ℕ) → IsExact at ((0xb8 + r) ∷ []) (mov_imm r)
unfolding Spells
exact_mov_imm at r =
    exact_if (is_register r)
    (λ p. exact_four at _ (λ id. MovImm r (from_le_bytes w32 id)) 5 refl
    (λ a b c d e f g h. (p, omega arith, ap (λ (l : List ℕ). (0xb8 + r) ∷ l) (sym (four_bytes (from_le_bytes w32 (a ∷ b ∷ c ∷ d ∷ [])) a b c d e f g h (omega arith))))))
    (exact_unknown at _)

-- after 66 0F 1F
exact_prefixed_nop : (at b : ℕ) → IsExact at (0x66 ∷ 0x0f ∷ 0x1f ∷ b ∷ []) (prefixed_nop b)
unfolding Spells
exact_prefixed_nop at b =
    let prefix : ℕ → List ℕ = λ b. 0x66 ∷ 0x0f ∷ 0x1f ∷ b ∷ [] in
    exact_on prefix b 0x44 (exact_expect (Nop 6) [] at _ _ _ refl (exact_complete at _ (Nop 6) 6 refl refl))
    (exact_on prefix b 0x84 (exact_expect (Nop 9) [] at _ _ _ refl (exact_complete at _ (Nop 9) 9 refl refl))
    (exact_unknown at _))

-- after 66
exact_prefixed : (at b : ℕ) → IsExact at (0x66 ∷ b ∷ []) (prefixed b)
unfolding Spells
exact_prefixed at b =
    let prefix : ℕ → List ℕ = λ b. 0x66 ∷ b ∷ [] in
    exact_on prefix b 0x90 (exact_complete at _ (Nop 2) 2 refl refl)
    (exact_on prefix b 0x0f
    (exact_expect (Nop 6) (0x44 ∷ 0x00 ∷ 0x00 ∷ []) at _ (0x1f ∷ []) _ refl
    (exact_byte at _ prefixed_nop (cut_by (Nop 6) at _ 0x44 (0x00 ∷ 0x00 ∷ []) refl) (λ b p. exact_prefixed_nop at b)))
    (exact_unknown at _))

-- after 0F 1F
exact_long_nop : (at b : ℕ) → IsExact at (0x0f ∷ 0x1f ∷ b ∷ []) (long_nop b)
unfolding Spells
exact_long_nop at b =
    let prefix : ℕ → List ℕ = λ b. 0x0f ∷ 0x1f ∷ b ∷ [] in
    exact_on prefix b 0x00 (exact_complete at _ (Nop 3) 3 refl refl)
    (exact_on prefix b 0x40 (exact_expect (Nop 4) [] at _ _ _ refl (exact_complete at _ (Nop 4) 4 refl refl))
    (exact_on prefix b 0x44 (exact_expect (Nop 5) [] at _ _ _ refl (exact_complete at _ (Nop 5) 5 refl refl))
    (exact_on prefix b 0x80 (exact_expect (Nop 7) [] at _ _ _ refl (exact_complete at _ (Nop 7) 7 refl refl))
    (exact_on prefix b 0x84 (exact_expect (Nop 8) [] at _ _ _ refl (exact_complete at _ (Nop 8) 8 refl refl))
    (exact_unknown at _)))))

-- after 0F
exact_escaped : (at b : ℕ) → IsExact at (0x0f ∷ b ∷ []) (escaped at b)
unfolding Spells
exact_escaped at b =
    let prefix : ℕ → List ℕ = λ b. 0x0f ∷ b ∷ [] in
    exact_on prefix b 0x01 (exact_expect Serialize [] at _ _ _ refl (exact_complete at _ Serialize 3 refl refl))
    (exact_on prefix b 0x0b (exact_complete at _ Ud2 2 refl refl)
    (exact_on prefix b 0x1f (exact_byte at _ long_nop (cut_by (Nop 3) at _ 0x00 [] refl) (λ b p. exact_long_nop at b))
    (exact_in prefix (jcc32 at) b 0x80 0x90
    (λ c. exact_if (is_condition c) (λ p. exact_far at _ 6 (Jcc32 c) refl (λ target code is. (p, is))) (exact_unknown at _)) (exact_unknown at _))))

-- by the first byte
exact_first : (at b : ℕ) → b < 256 → IsExact at (b ∷ []) (first at b)
unfolding Spells
exact_first at b fits =
    let prefix : ℕ → List ℕ = λ b. b ∷ [] in
    exact_on prefix b 0x01 (exact_alu at Add)
    (exact_on prefix b 0x0f (exact_byte at _ (escaped at) (cut_by Ud2 at _ 0x0b [] refl) (λ b p. exact_escaped at b))
    (exact_on prefix b 0x29 (exact_alu at Sub)
    (exact_on prefix b 0x31 (exact_alu at Xor)
    (exact_on prefix b 0x39 (exact_alu at Cmp)
    (exact_on prefix b 0x66 (exact_byte at _ prefixed (cut_by (Nop 2) at _ 0x90 [] refl) (λ b p. exact_prefixed at b))
    (exact_in prefix (jcc8 at) b 0x70 0x80
    (λ c. exact_if (is_condition c) (λ p. exact_near at _ 2 (Jcc8 c) refl (λ target code is. (p, is))) (exact_unknown at _))
    (exact_on prefix b 0x83 (exact_alu_imm at)
    (exact_on prefix b 0x85 (exact_alu at Test)
    (exact_on prefix b 0x89 (exact_alu at Mov)
    (exact_on prefix b 0x90 (exact_complete at _ (Nop 1) 1 refl refl)
    (exact_in prefix mov_imm b 0xb8 0xc0 (exact_mov_imm at)
    (exact_on prefix b 0xc3 (exact_complete at _ Ret 1 refl refl)
    (exact_on prefix b 0xcc (exact_complete at _ Int3 1 refl refl)
    (exact_on prefix b 0xe6
    (exact_byte at _ _ (cut_by (Out 0) at _ 0 [] (omega arith, refl)) (λ port p. exact_complete at _ (Out port) 2 refl (p, refl)))
    (exact_on prefix b 0xe8 (exact_far at _ 5 Call refl (λ target code is. is))
    (exact_on prefix b 0xe9 (exact_far at _ 5 Jmp32 refl (λ target code is. is))
    (exact_on prefix b 0xeb (exact_near at _ 2 Jmp8 refl (λ target code is. is))
    (exact_on prefix b 0xf3 (exact_expect Endbr64 [] at _ _ _ refl (exact_complete at _ Endbr64 4 refl refl))
    (exact_on prefix b 0xf4 (exact_complete at _ Hlt 1 refl refl)
    (exact_on prefix b 0xff (exact_inc_or_dec at) (exact_unknown at _)))))))))))))))))))))

-- the reading of an instruction
pub exact_read : (at : ℕ) → IsExact at [] (read at)
unfolding read Spells
exact_read at = exact_byte at [] (first at) (cut_by Ret at [] 0xc3 [] refl) (exact_first at)
