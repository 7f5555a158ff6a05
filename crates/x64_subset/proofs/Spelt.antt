-- What is spelt is read, it is of the subset, and it has at most nine bytes.
use Rattle.std.proofs.Common.{◌≡◌, ℕ, ◌+◌, ◌-◌, ◌/◌, ◌%◌, ◌^◌, ◌<◌, ◌==◌, ◌&&◌, Bool, true, false, if◌then◌else◌, List, [], ◌∷◌, ◌++◌, length, refl, sym, ◌∙◌, ap, subst, Some, Ok, arith}
use Rattle.std.specs.Prelude.{nat_le, Option}
use Rattle.std.specs.Int.{w8, w32, to_le_bytes, from_le_bytes}
use Rattle.std.proofs.lemmas.Bool.{and_from}
use Rattle.std.proofs.lemmas.Bool.Decides.{Decides-eqb, nat_tests}
use Rattle.std.proofs.lemmas.Option.{same_Some, none-some}
use Rattle.std.proofs.lemmas.Nat.{from_le_bytes-to_le_bytes_4}
use Rattle.insn_forms.specs.Displacement.{leads, distance}
use Rattle.insn_forms.specs.Spelling.{after}
use Rattle.x64_subset.specs.declared.insn.AluOp.{AluOp}
use Rattle.x64_subset.specs.declared.insn.AluOp.TheVariants.{Add, Sub, Xor, Cmp, Test, Mov}
use Rattle.x64_subset.specs.declared.insn.Insn.{Insn}
use Rattle.x64_subset.specs.declared.insn.Insn.TheVariants.{Nop, Int3, Jmp8, Jmp32, Call, Ret, Jcc8, Jcc32, Alu, AluImm, Inc, Dec, MovImm, Hlt, Ud2, Out, Endbr64, Serialize}
use Rattle.x64_subset.specs.Subset.{is_register, is_condition, digit_of}
use Rattle.x64_subset.specs.Spells.{Spells, Leads, nop_bytes, alu_opcode, mod_rm}
use Rattle.x64_subset.specs.Reading.{Answer, Reading, read, alu, two_registers, by_digit, one_register, unknown}
use Rattle.x64_subset.specs.Reading as reading
use Rattle.x64_subset.proofs.Operands.{by_register, by_condition, register_facts, mod_rm-reg, mod_rm-rm}
use Rattle.insn_forms.proofs.Displacements.{relative}

-- what holds of a value that a test chose, in either case
chosen : (P : Type 0) (n c : ℕ) (x y : Option (List ℕ)) (code : List ℕ) → (if n == c then x else y) ≡ Some code → (c ≡ n → x ≡ Some code → P) → (y ≡ Some code → P) → P
chosen P n c x y code e yes_case no_case = go (n == c) refl e
  where
    go : (b : Bool) → (n == c) ≡ b → (if b then x else y) ≡ Some code → P
    go true is e = yes_case (sym ((Decides-eqb n c).0 is)) e
    go false is e = no_case e

-- what holds of each recommended NOP
pub by_nop : (P : ℕ → List ℕ → Type 0) → P 1 (0x90 ∷ []) → P 2 (0x66 ∷ 0x90 ∷ []) → P 3 (0x0f ∷ 0x1f ∷ 0x00 ∷ []) → P 4 (0x0f ∷ 0x1f ∷ 0x40 ∷ 0x00 ∷ []) → P 5 (0x0f ∷ 0x1f ∷ 0x44 ∷ 0x00 ∷ 0x00 ∷ []) → P 6 (0x66 ∷ 0x0f ∷ 0x1f ∷ 0x44 ∷ 0x00 ∷ 0x00 ∷ []) → P 7 (0x0f ∷ 0x1f ∷ 0x80 ∷ 0x00 ∷ 0x00 ∷ 0x00 ∷ 0x00 ∷ []) → P 8 (0x0f ∷ 0x1f ∷ 0x84 ∷ 0x00 ∷ 0x00 ∷ 0x00 ∷ 0x00 ∷ 0x00 ∷ []) → P 9 (0x66 ∷ 0x0f ∷ 0x1f ∷ 0x84 ∷ 0x00 ∷ 0x00 ∷ 0x00 ∷ 0x00 ∷ 0x00 ∷ []) → (len : ℕ) (code : List ℕ) → nop_bytes len ≡ Some code → P len code
by_nop P a b c d e f g h i len code is =
    chosen (P len code) len 1 _ _ code is (take_it _ _ a)
    (λ is. chosen (P len code) len 2 _ _ code is (take_it _ _ b)
    (λ is. chosen (P len code) len 3 _ _ code is (take_it _ _ c)
    (λ is. chosen (P len code) len 4 _ _ code is (take_it _ _ d)
    (λ is. chosen (P len code) len 5 _ _ code is (take_it _ _ e)
    (λ is. chosen (P len code) len 6 _ _ code is (take_it _ _ f)
    (λ is. chosen (P len code) len 7 _ _ code is (take_it _ _ g)
    (λ is. chosen (P len code) len 8 _ _ code is (take_it _ _ h)
    (λ is. chosen (P len code) len 9 _ _ code is (take_it _ _ i) (λ is. absurd (none-some _ is))))))))))
  where
    take_it : (n : ℕ) (bytes : List ℕ) → P n bytes → n ≡ len → Some bytes ≡ Some code → P len code
    take_it n bytes p same is = subst (λ (m : ℕ). P m code) same (subst (λ (b : List ℕ). P n b) (same_Some _ _ is) p)

-- the instruction is read in front of whatever follows
abbrev pub IsReadOf : Insn → ℕ → List ℕ → Type 0
IsReadOf insn at code = (rest : List ℕ) → read at (code ++ rest) ≡ Ok (insn, length code)

-- the recommended NOPs
read_nop : (at len : ℕ) (code : List ℕ) → nop_bytes len ≡ Some code → IsReadOf (Nop len) at code
unfolding read
read_nop at len code is =
    by_nop (λ len code. IsReadOf (Nop len) at code) (λ rest. refl) (λ rest. refl) (λ rest. refl) (λ rest. refl)
    (λ rest. refl) (λ rest. refl) (λ rest. refl) (λ rest. refl) (λ rest. refl) len code is

-- an opcode and a displacement of one byte
read_near : (insn : ℕ → Insn) (opcode : List ℕ) (at target : ℕ) (code : List ℕ) → ((rel : ℕ) (rest : List ℕ) → read at ((opcode ++ rel ∷ []) ++ rest) ≡ Ok (insn (leads w8 (after at (length opcode + 1)) (rel ∷ [])), length (opcode ++ rel ∷ []))) → Leads w8 opcode at target code → IsReadOf (insn target) at code
read_near insn opcode at target code each (rel, some, is) =
    let from : ℕ = after at (length opcode + 1) in
    let facts = relative w8 from target rel some in
    let last : ℕ = distance from target % 256 in
    let same : code ≡ opcode ++ last ∷ [] = is ∙ ap (λ (r : List ℕ). opcode ++ r) facts.bytes in
    subst (λ (c : List ℕ). IsReadOf (insn target) at c) (sym same)
    (λ rest. each last rest ∙ ap (λ (t : ℕ). Ok (insn t, length (opcode ++ last ∷ []))) facts.leads_to)

-- an opcode and a displacement of four bytes
read_far : (insn : ℕ → Insn) (opcode : List ℕ) (at target : ℕ) (code : List ℕ) → ((a b c d : ℕ) (rest : List ℕ) → read at ((opcode ++ a ∷ b ∷ c ∷ d ∷ []) ++ rest) ≡ Ok (insn (leads w32 (after at (length opcode + 4)) (a ∷ b ∷ c ∷ d ∷ [])), length (opcode ++ a ∷ b ∷ c ∷ d ∷ []))) → Leads w32 opcode at target code → IsReadOf (insn target) at code
read_far insn opcode at target code each (rel, some, is) =
    let from : ℕ = after at (length opcode + 4) in
    let facts = relative w32 from target rel some in
    let n : ℕ = distance from target in
    let same : code ≡ opcode ++ to_le_bytes w32 n = is ∙ ap (λ (r : List ℕ). opcode ++ r) facts.bytes in
    subst (λ (c : List ℕ). IsReadOf (insn target) at c) (sym same)
    (λ rest.
    each _ _ _ _ rest ∙ ap (λ (t : ℕ). Ok (insn t, length (opcode ++ to_le_bytes w32 n))) facts.leads_to)

-- the conditional jumps
read_jcc8 : (at : ℕ) (c : ℕ) → is_condition c ≡ true → (rel : ℕ) (rest : List ℕ) → read at ((0x70 + c) ∷ rel ∷ rest) ≡ Ok (Jcc8 c (leads w8 (after at 2) (rel ∷ [])), 2)
unfolding read
read_jcc8 at c is rel rest =
    by_condition (λ c. read at ((0x70 + c) ∷ rel ∷ rest) ≡ Ok (Jcc8 c (leads w8 (after at 2) (rel ∷ [])), 2))
    refl refl refl refl refl refl refl refl refl refl refl refl refl refl c is

read_jcc32 : (at : ℕ) (k : ℕ) → is_condition k ≡ true → (a b c d : ℕ) (rest : List ℕ) → read at (0x0f ∷ (0x80 + k) ∷ a ∷ b ∷ c ∷ d ∷ rest) ≡ Ok (Jcc32 k (leads w32 (after at 6) (a ∷ b ∷ c ∷ d ∷ [])), 6)
unfolding read
read_jcc32 at k is a b c d rest =
    by_condition
    (λ k. read at (0x0f ∷ (0x80 + k) ∷ a ∷ b ∷ c ∷ d ∷ rest) ≡ Ok (Jcc32 k (leads w32 (after at 6) (a ∷ b ∷ c ∷ d ∷ [])), 6))
    refl refl refl refl refl refl refl refl refl refl refl refl refl refl k is

-- the byte that names a digit and a register
pub read_mod_rm : (next : ℕ → ℕ → Reading) (reg rm : ℕ) (rest : List ℕ) → is_register rm ≡ true → reading.by_mod_rm next (mod_rm reg rm ∷ rest) ≡ next reg rm rest
read_mod_rm next reg rm rest is =
    let below : rm < 8 = (register_facts rm is).0 in
    let b : ℕ = mod_rm reg rm in
    let left : (b - 0xc0) / 8 ≡ reg = mod_rm-reg reg rm below in
    let right : b % 8 ≡ rm = mod_rm-rm reg rm below in
    let from : nat_le 0xc0 b ≡ true = grind (arith, nat_tests) in
    let test : (nat_le 0xc0 b && is_register (b % 8)) ≡ true = and_from _ _ from (ap is_register right ∙ is) in
    ap (λ (t : Bool). (if t then next ((b - 0xc0) / 8) (b % 8) else unknown) rest) test
    ∙ ap (λ (r : ℕ). next r (b % 8) rest) left ∙ ap (λ (r : ℕ). next reg r rest) right

-- an operation on two registers, by its opcode
read_opcode : (at : ℕ) (op : AluOp) (rest : List ℕ) → read at (alu_opcode op ∷ rest) ≡ alu op rest
unfolding read
read_opcode at Add rest = refl
read_opcode at Sub rest = refl
read_opcode at Xor rest = refl
read_opcode at Cmp rest = refl
read_opcode at Test rest = refl
read_opcode at Mov rest = refl

-- an operation on two registers
read_alu : (at : ℕ) (op : AluOp) (rm reg : ℕ) → is_register rm ≡ true → is_register reg ≡ true → IsReadOf (Alu op rm reg) at (alu_opcode op ∷ mod_rm reg rm ∷ [])
read_alu at op rm reg p q rest =
    read_opcode at op (mod_rm reg rm ∷ rest) ∙ read_mod_rm (two_registers op) reg rm rest p
    ∙ ap (λ (t : Bool). (if t then reading.complete (Alu op rm reg) 2 else unknown) rest) q

-- an operation with a byte, by its digit
read_alu_imm : (at : ℕ) (op : AluOp) (digit rm byte : ℕ) → digit_of op ≡ Some digit → is_register rm ≡ true → IsReadOf (AluImm op rm byte) at (0x83 ∷ mod_rm digit rm ∷ byte ∷ [])
unfolding read
read_alu_imm at Add digit rm byte some p =
    subst (λ (d : ℕ). IsReadOf (AluImm Add rm byte) at (0x83 ∷ mod_rm d rm ∷ byte ∷ [])) (same_Some _ _ some)
    (λ rest. read_mod_rm by_digit 0 rm (byte ∷ rest) p)
read_alu_imm at Sub digit rm byte some p =
    subst (λ (d : ℕ). IsReadOf (AluImm Sub rm byte) at (0x83 ∷ mod_rm d rm ∷ byte ∷ [])) (same_Some _ _ some)
    (λ rest. read_mod_rm by_digit 5 rm (byte ∷ rest) p)
read_alu_imm at Cmp digit rm byte some p =
    subst (λ (d : ℕ). IsReadOf (AluImm Cmp rm byte) at (0x83 ∷ mod_rm d rm ∷ byte ∷ [])) (same_Some _ _ some)
    (λ rest. read_mod_rm by_digit 7 rm (byte ∷ rest) p)
read_alu_imm at Xor digit rm byte some p = absurd (none-some _ some)
read_alu_imm at Test digit rm byte some p = absurd (none-some _ some)
read_alu_imm at Mov digit rm byte some p = absurd (none-some _ some)

-- a number into a register
read_mov_imm : (at : ℕ) (r number : ℕ) → is_register r ≡ true → number < 2 ^ 32 → IsReadOf (MovImm r number) at ((0xb8 + r) ∷ to_le_bytes w32 number)
unfolding read
read_mov_imm at r number is fits rest =
    let read_at : (n : ℕ) → read at ((0xb8 + r) ∷ (to_le_bytes w32 n ++ rest)) ≡ Ok (MovImm r (from_le_bytes w32 (to_le_bytes w32 n)), 5) = λ n.
    by_register
    (λ r. read at ((0xb8 + r) ∷ (to_le_bytes w32 n ++ rest)) ≡ Ok (MovImm r (from_le_bytes w32 (to_le_bytes w32 n)), 5))
    refl refl refl refl refl refl refl r is in
    read_at number ∙ ap (λ (n : ℕ). Ok (MovImm r n, 5)) (from_le_bytes-to_le_bytes_4 number fits)

-- what holds of the bytes that a fact names
of_bytes : (insn : Insn) (at : ℕ) (code bytes : List ℕ) → code ≡ bytes → IsReadOf insn at bytes → IsReadOf insn at code
of_bytes insn at code bytes is each = subst (λ (c : List ℕ). IsReadOf insn at c) (sym is) each

-- an instruction that is spelt is read, whatever follows it
pub reads_spelt : (insn : Insn) (at : ℕ) (code : List ℕ) → Spells insn at code → IsReadOf insn at code
unfolding Spells read
reads_spelt (Nop len) at code is = read_nop at len code is
reads_spelt Int3 at code is = of_bytes _ at _ _ is (λ rest. refl)
reads_spelt (Jmp8 target) at code is = read_near Jmp8 (0xeb ∷ []) at target code (λ rel rest. refl) is
reads_spelt (Jmp32 target) at code is = read_far Jmp32 (0xe9 ∷ []) at target code (λ a b c d rest. refl) is
reads_spelt (Call target) at code is = read_far Call (0xe8 ∷ []) at target code (λ a b c d rest. refl) is
reads_spelt Ret at code is = of_bytes _ at _ _ is (λ rest. refl)
reads_spelt (Jcc8 condition target) at code (p, is) =
    read_near (Jcc8 condition) ((0x70 + condition) ∷ []) at target code (read_jcc8 at condition p) is
reads_spelt (Jcc32 condition target) at code (p, is) =
    read_far (Jcc32 condition) (0x0f ∷ (0x80 + condition) ∷ []) at target code (read_jcc32 at condition p) is
reads_spelt (Alu op rm reg) at code (p, q, is) = of_bytes _ at _ _ is (read_alu at op rm reg p q)
reads_spelt (AluImm op rm byte) at code (digit, some, p, fits, is) =
    of_bytes _ at _ _ is (read_alu_imm at op digit rm byte some p)
reads_spelt (Inc rm) at code (p, is) = of_bytes _ at _ _ is (λ rest. read_mod_rm one_register 0 rm rest p)
reads_spelt (Dec rm) at code (p, is) = of_bytes _ at _ _ is (λ rest. read_mod_rm one_register 1 rm rest p)
reads_spelt (MovImm r number) at code (p, fits, is) = of_bytes _ at _ _ is (read_mov_imm at r number p fits)
reads_spelt Hlt at code is = of_bytes _ at _ _ is (λ rest. refl)
reads_spelt Ud2 at code is = of_bytes _ at _ _ is (λ rest. refl)
reads_spelt (Out port) at code (fits, is) = of_bytes _ at _ _ is (λ rest. refl)
reads_spelt Endbr64 at code is = of_bytes _ at _ _ is (λ rest. refl)
reads_spelt Serialize at code is = of_bytes _ at _ _ is (λ rest. refl)
