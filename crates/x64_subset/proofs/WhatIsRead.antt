-- What is read of any numbers is of the subset, has one to nine bytes, and is no longer than the numbers: each way
-- to put readings together keeps this.
use Rattle.std.proofs.Common.{◌≡◌, ℕ, ◌+◌, ◌-◌, ◌/◌, ◌%◌, ◌≤◌, ◌==◌, Bool, true, false, if◌then◌else◌, List, [], ◌∷◌, length, refl, sym, Ok, Err, arith, subst}
use Rattle.std.specs.Prelude.{IfOk, ◌&&◌, nat_le, nat_lt}
use Rattle.std.specs.Int.{w32, from_le_bytes}
use Rattle.std.specs.Option.{is_some}
use Rattle.std.proofs.lemmas.Bool.{and_parts, and_from}
use Rattle.insn_forms.specs.Displacement.{leads}
use Rattle.insn_forms.specs.Spelling.{after}
use Rattle.x64_subset.specs.declared.insn.AluOp.{AluOp}
use Rattle.x64_subset.specs.declared.insn.AluOp.TheVariants.{Add, Sub, Xor, Cmp, Test, Mov}
use Rattle.x64_subset.specs.declared.insn.Insn.{Insn}
use Rattle.x64_subset.specs.declared.insn.Insn.TheVariants.{Nop, Int3, Jmp8, Jmp32, Call, Ret, Jcc8, Jcc32, Alu, AluImm, Inc, Dec, MovImm, Hlt, Ud2, Out, Endbr64, Serialize}
use Rattle.x64_subset.specs.declared.insn.Undecoded.TheVariants.{Unknown}
use Rattle.x64_subset.specs.Subset.{is_listed, is_register, is_condition, digit_of}
use Rattle.x64_subset.specs.Reading.{Answer, Reading, complete, unknown, byte, expect, four, near, far, by_mod_rm, two_registers, alu, with_byte, by_digit, alu_imm, one_register, inc_or_dec, mov_imm, jcc8, jcc32, prefixed_nop, prefixed, long_nop, escaped, first, read}
use Rattle.x64_subset.specs.Laws.{WhatIsRead}

-- what is found is of the subset, and has one to nine bytes of m
abbrev pub IsFound : ℕ → Insn × ℕ → Type 0
IsFound m found = (is_listed found.0 ≡ true) × (1 ≤ found.1) × (found.1 ≤ 9) × (found.1 ≤ m)

-- so is what is read of numbers that follow n others
record IsWithin (n : ℕ) (k : Reading) : Type 0 where
  fits : (m : ℕ) (bytes : List ℕ) → n + length bytes ≡ m → IfOk (k bytes) (IsFound m)

-- a length that an instruction may have after n bytes
abbrev IsLength : ℕ → ℕ → Type 0
IsLength n len = (1 ≤ len) × (len ≤ 9) × (len ≤ n)

within_complete : {n : ℕ} (insn : Insn) (len : ℕ) → is_listed insn ≡ true → IsLength n len → IsWithin n (complete insn len)
within_complete insn len listed (least, most, le) =
    record { fits = λ m bytes e. (listed, least, most, omega arith) }

within_unknown : {n : ℕ} → IsWithin n unknown
within_unknown = record { fits = λ m bytes e. tt }

within_if : {n : ℕ} {k l : Reading} (test : Bool) → (test ≡ true → IsWithin n k) → IsWithin n l → IsWithin n (if test then k else l)
within_if true p q = p refl
within_if false p q = q

within_byte : {n : ℕ} {next : ℕ → Reading} → ((b : ℕ) → IsWithin (n + 1) (next b)) → IsWithin n (byte next)
within_byte {n} {next} each = record { fits = go }
  where
    go : (m : ℕ) (bytes : List ℕ) → n + length bytes ≡ m → IfOk (byte next bytes) (IsFound m)
    go m [] e = tt
    go m (b ∷ bytes) e = (each b).fits m bytes (omega arith)

within_expect : (n : ℕ) (code : List ℕ) (next : Reading) → IsWithin (n + length code) next → IsWithin n (expect code next)
within_expect n [] next h = record { fits = λ m bytes e. h.fits m bytes (omega arith) }
within_expect n (c ∷ code) next h =
    record { fits = go (within_expect (n + 1) code next (record { fits = λ m bytes e. h.fits m bytes (omega arith) })) }
  where
    by : (test : Bool) (m : ℕ) (bytes : List ℕ) → IfOk (expect code next bytes) (IsFound m) → IfOk {T = Insn × ℕ} (if test then expect code next bytes else Err Unknown) (IsFound m)
    by true m bytes fits = fits
    by false m bytes fits = tt

    go : IsWithin (n + 1) (expect code next) → (m : ℕ) (bytes : List ℕ) → n + length bytes ≡ m → IfOk (expect (c ∷ code) next bytes) (IsFound m)
    go rest m [] e = tt
    go rest m (b ∷ bytes) e = by (b == c) m bytes (rest.fits m bytes (omega arith))

within_four : {n : ℕ} {next : List ℕ → Reading} → ((bytes : List ℕ) → IsWithin (n + 1 + 1 + 1 + 1) (next bytes)) → IsWithin n (four next)
within_four each = within_byte (λ a. within_byte (λ b. within_byte (λ c. within_byte (λ d. each (a ∷ b ∷ c ∷ d ∷ [])))))

within_mod_rm : {n : ℕ} {next : ℕ → ℕ → Reading} → ((reg rm : ℕ) → is_register rm ≡ true → IsWithin (n + 1) (next reg rm)) → IsWithin n (by_mod_rm next)
within_mod_rm each =
    within_byte (λ b.
    within_if (nat_le 0xc0 b && is_register (b % 8))
    (λ is. each ((b - 0xc0) / 8) (b % 8) (and_parts (nat_le 0xc0 b) (is_register (b % 8)) is).1) within_unknown)

-- bytes that have to follow, and end an instruction
within_last : (n : ℕ) (code : List ℕ) (insn : Insn) (len : ℕ) → is_listed insn ≡ true → IsLength (n + length code) len → IsWithin n (expect code (complete insn len))
within_last n code insn len listed is = within_expect n code (complete insn len) (within_complete insn len listed is)

-- ---- the rows

within_near : (n at len : ℕ) (insn : ℕ → Insn) → ((to : ℕ) → is_listed (insn to) ≡ true) → IsLength (n + 1) len → IsWithin n (near at len insn)
within_near n at len insn listed is = within_byte (λ b. within_complete _ len (listed _) is)

within_far : (n at len : ℕ) (insn : ℕ → Insn) → ((to : ℕ) → is_listed (insn to) ≡ true) → IsLength (n + 1 + 1 + 1 + 1) len → IsWithin n (far at len insn)
within_far n at len insn listed is =
    within_four (λ bytes. within_complete (insn (leads w32 (after at len) bytes)) len (listed _) is)

within_two_registers : (op : AluOp) (reg rm : ℕ) → is_register rm ≡ true → IsWithin 2 (two_registers op reg rm)
within_two_registers op reg rm is =
    within_if (is_register reg)
    (λ other. within_complete (Alu op rm reg) 2 (and_from _ _ is other) (omega arith, omega arith, omega arith)) within_unknown

within_alu : (op : AluOp) → IsWithin 1 (alu op)
within_alu op = within_mod_rm (within_two_registers op)

within_with_byte : (op : AluOp) (rm : ℕ) → is_some (digit_of op) ≡ true → is_register rm ≡ true → IsWithin 2 (with_byte op rm)
within_with_byte op rm digit is =
    within_byte (λ b. within_complete (AluImm op rm b) 3 (and_from _ _ digit is) (omega arith, omega arith, omega arith))

within_by_digit : (digit rm : ℕ) → is_register rm ≡ true → IsWithin 2 (by_digit digit rm)
within_by_digit digit rm is =
    within_if (digit == 0) (λ e. within_with_byte Add rm refl is)
    (within_if (digit == 5) (λ e. within_with_byte Sub rm refl is)
    (within_if (digit == 7) (λ e. within_with_byte Cmp rm refl is) within_unknown))

within_alu_imm : IsWithin 1 alu_imm
within_alu_imm = within_mod_rm within_by_digit

within_one_register : (digit rm : ℕ) → is_register rm ≡ true → IsWithin 2 (one_register digit rm)
within_one_register digit rm is =
    within_if (digit == 0) (λ e. within_complete (Inc rm) 2 is (omega arith, omega arith, omega arith))
    (within_if (digit == 1) (λ e. within_complete (Dec rm) 2 is (omega arith, omega arith, omega arith)) within_unknown)

within_inc_or_dec : IsWithin 1 inc_or_dec
within_inc_or_dec = within_mod_rm within_one_register

within_mov_imm : (r : ℕ) → IsWithin 1 (mov_imm r)
within_mov_imm r =
    within_if (is_register r)
    (λ is. within_four (λ bytes. within_complete (MovImm r (from_le_bytes w32 bytes)) 5 is (omega arith, omega arith, omega arith)))
    within_unknown

within_prefixed_nop : (b : ℕ) → IsWithin 4 (prefixed_nop b)
within_prefixed_nop b =
    within_if (b == 0x44) (λ e. within_last 4 (0x00 ∷ 0x00 ∷ []) (Nop 6) 6 refl (omega arith, omega arith, omega arith))
    (within_if (b == 0x84)
    (λ e. within_last 4 (0x00 ∷ 0x00 ∷ 0x00 ∷ 0x00 ∷ 0x00 ∷ []) (Nop 9) 9 refl (omega arith, omega arith, omega arith))
    within_unknown)

within_prefixed : (b : ℕ) → IsWithin 2 (prefixed b)
within_prefixed b =
    within_if (b == 0x90) (λ e. within_complete (Nop 2) 2 refl (omega arith, omega arith, omega arith))
    (within_if (b == 0x0f) (λ e. within_expect 2 (0x1f ∷ []) (byte prefixed_nop) (within_byte within_prefixed_nop)) within_unknown)

within_long_nop : (b : ℕ) → IsWithin 3 (long_nop b)
within_long_nop b =
    within_if (b == 0x00) (λ e. within_complete (Nop 3) 3 refl (omega arith, omega arith, omega arith))
    (within_if (b == 0x40) (λ e. within_last 3 (0x00 ∷ []) (Nop 4) 4 refl (omega arith, omega arith, omega arith))
    (within_if (b == 0x44) (λ e. within_last 3 (0x00 ∷ 0x00 ∷ []) (Nop 5) 5 refl (omega arith, omega arith, omega arith))
    (within_if (b == 0x80)
    (λ e. within_last 3 (0x00 ∷ 0x00 ∷ 0x00 ∷ 0x00 ∷ []) (Nop 7) 7 refl (omega arith, omega arith, omega arith))
    (within_if (b == 0x84)
    (λ e. within_last 3 (0x00 ∷ 0x00 ∷ 0x00 ∷ 0x00 ∷ 0x00 ∷ []) (Nop 8) 8 refl (omega arith, omega arith, omega arith))
    within_unknown))))

within_jcc8 : (at condition : ℕ) → IsWithin 1 (jcc8 at condition)
within_jcc8 at condition =
    within_if (is_condition condition)
    (λ is. within_near 1 at 2 (Jcc8 condition) (λ to. is) (omega arith, omega arith, omega arith)) within_unknown

within_jcc32 : (at condition : ℕ) → IsWithin 2 (jcc32 at condition)
within_jcc32 at condition =
    within_if (is_condition condition)
    (λ is. within_far 2 at 6 (Jcc32 condition) (λ to. is) (omega arith, omega arith, omega arith)) within_unknown

within_escaped : (at b : ℕ) → IsWithin 2 (escaped at b)
within_escaped at b =
    within_if (b == 0x01) (λ e. within_last 2 (0xe8 ∷ []) Serialize 3 refl (omega arith, omega arith, omega arith))
    (within_if (b == 0x0b) (λ e. within_complete Ud2 2 refl (omega arith, omega arith, omega arith))
    (within_if (b == 0x1f) (λ e. within_byte within_long_nop)
    (within_if (nat_le 0x80 b && nat_lt b 0x90) (λ e. within_jcc32 at (b - 0x80)) within_unknown)))

within_first : (at b : ℕ) → IsWithin 1 (first at b)
within_first at b =
    within_if (b == 0x01) (λ e. within_alu Add)
    (within_if (b == 0x0f) (λ e. within_byte (within_escaped at))
    (within_if (b == 0x29) (λ e. within_alu Sub)
    (within_if (b == 0x31) (λ e. within_alu Xor)
    (within_if (b == 0x39) (λ e. within_alu Cmp)
    (within_if (b == 0x66) (λ e. within_byte within_prefixed)
    (within_if (nat_le 0x70 b && nat_lt b 0x80) (λ e. within_jcc8 at (b - 0x70))
    (within_if (b == 0x83) (λ e. within_alu_imm)
    (within_if (b == 0x85) (λ e. within_alu Test)
    (within_if (b == 0x89) (λ e. within_alu Mov)
    (within_if (b == 0x90) (λ e. within_complete (Nop 1) 1 refl (omega arith, omega arith, omega arith))
    (within_if (nat_le 0xb8 b && nat_lt b 0xc0) (λ e. within_mov_imm (b - 0xb8))
    (within_if (b == 0xc3) (λ e. within_complete Ret 1 refl (omega arith, omega arith, omega arith))
    (within_if (b == 0xcc) (λ e. within_complete Int3 1 refl (omega arith, omega arith, omega arith))
    (within_if (b == 0xe6)
    (λ e. within_byte (λ port. within_complete (Out port) 2 refl (omega arith, omega arith, omega arith)))
    (within_if (b == 0xe8) (λ e. within_far 1 at 5 Call (λ to. refl) (omega arith, omega arith, omega arith))
    (within_if (b == 0xe9) (λ e. within_far 1 at 5 Jmp32 (λ to. refl) (omega arith, omega arith, omega arith))
    (within_if (b == 0xeb) (λ e. within_near 1 at 2 Jmp8 (λ to. refl) (omega arith, omega arith, omega arith))
    (within_if (b == 0xf3)
    (λ e. within_last 1 (0x0f ∷ 0x1e ∷ 0xfa ∷ []) Endbr64 4 refl (omega arith, omega arith, omega arith))
    (within_if (b == 0xf4) (λ e. within_complete Hlt 1 refl (omega arith, omega arith, omega arith))
    (within_if (b == 0xff) (λ e. within_inc_or_dec) within_unknown))))))))))))))))))))

within_read : (at : ℕ) → IsWithin 0 (read at)
unfolding read
within_read at = within_byte (λ b. within_first at b)

-- an answer that is what is read
pub answer_found : (at : ℕ) (bytes : List ℕ) (a : Answer) → a ≡ read at bytes → IfOk a (IsFound (length bytes))
answer_found at bytes a same =
    subst (λ (a : Answer). IfOk a (IsFound (length bytes))) (sym same) ((within_read at).fits (length bytes) bytes (omega arith))

-- what is read
pub what_is_read : WhatIsRead
what_is_read at bytes insn len e = answer_found at bytes (Ok (insn, len)) (sym e)
