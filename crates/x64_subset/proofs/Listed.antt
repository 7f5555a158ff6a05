-- What is spelt is of the subset, and takes one to nine bytes, each below 256.
use Rattle.std.proofs.Common.{◌≡◌, ℕ, ◌+◌, ◌<◌, ◌≤◌, true, List, [], ◌∷◌, ◌++◌, length, refl, sym, ◌∙◌, ap, subst, Some, arith, length-append}
use Rattle.std.specs.Int.{w8, w32, to_le_bytes}
use Rattle.std.specs.Option.{is_some}
use Rattle.std.proofs.lemmas.Bool.{and_from}
use Rattle.std.proofs.lemmas.Option.{same_Some, none-some}
use Rattle.x64_subset.specs.declared.insn.AluOp.{AluOp}
use Rattle.x64_subset.specs.declared.insn.AluOp.TheVariants.{Add, Sub, Xor, Cmp, Test, Mov}
use Rattle.x64_subset.specs.declared.insn.Insn.{Insn}
use Rattle.x64_subset.specs.declared.insn.Insn.TheVariants.{Nop, Int3, Jmp8, Jmp32, Call, Ret, Jcc8, Jcc32, Alu, AluImm, Inc, Dec, MovImm, Hlt, Ud2, Out, Endbr64, Serialize}
use Rattle.x64_subset.specs.Subset.{is_listed, is_register, digit_of}
use Rattle.x64_subset.specs.Spells.{Spells, Leads, alu_opcode, mod_rm}
use Rattle.insn_forms.proofs.Displacements.{relative}
use Rattle.x64_subset.proofs.Operands.{register_facts, condition_facts}
use Rattle.x64_subset.proofs.Exact.{AreBytes}
use Rattle.x64_subset.proofs.Spelt.{by_nop}

-- an instruction that is spelt is of the subset
pub spelt_listed : (insn : Insn) (at : ℕ) (code : List ℕ) → Spells insn at code → is_listed insn ≡ true
unfolding Spells
spelt_listed (Nop len) at code is =
    by_nop (λ len code. is_listed (Nop len) ≡ true) refl refl refl refl refl refl refl refl refl len code is
spelt_listed Int3 at code is = refl
spelt_listed (Jmp8 target) at code is = refl
spelt_listed (Jmp32 target) at code is = refl
spelt_listed (Call target) at code is = refl
spelt_listed Ret at code is = refl
spelt_listed (Jcc8 condition target) at code (p, is) = p
spelt_listed (Jcc32 condition target) at code (p, is) = p
spelt_listed (Alu op rm reg) at code (p, q, is) = and_from _ _ p q
spelt_listed (AluImm op rm byte) at code (digit, some, p, fits, is) = and_from _ _ (ap is_some some) p
spelt_listed (Inc rm) at code (p, is) = p
spelt_listed (Dec rm) at code (p, is) = p
spelt_listed (MovImm r number) at code (p, fits, is) = p
spelt_listed Hlt at code is = refl
spelt_listed Ud2 at code is = refl
spelt_listed (Out port) at code is = refl
spelt_listed Endbr64 at code is = refl
spelt_listed Serialize at code is = refl

-- the bytes of a list that a fact names
of_bytes : (code bytes : List ℕ) → code ≡ bytes → AreBytes bytes → AreBytes code
of_bytes code bytes is fit = subst AreBytes (sym is) fit

-- an opcode and a displacement of one byte
near_bytes : (opcode : ℕ) (at target : ℕ) (code : List ℕ) → opcode < 256 → Leads w8 (opcode ∷ []) at target code → AreBytes code
near_bytes opcode at target code below (rel, some, is) =
    of_bytes code _ (is ∙ ap (λ (r : List ℕ). opcode ∷ r) (relative w8 _ _ rel some).bytes) (below, (omega arith, tt))

-- the four low bytes of a number
four_fit : (n : ℕ) → AreBytes (to_le_bytes w32 n)
four_fit n = (omega arith, (omega arith, (omega arith, (omega arith, tt))))

-- an opcode of one byte and a displacement of four bytes
far_bytes : (opcode : ℕ) (at target : ℕ) (code : List ℕ) → opcode < 256 → Leads w32 (opcode ∷ []) at target code → AreBytes code
far_bytes opcode at target code below (rel, some, is) =
    of_bytes code _ (is ∙ ap (λ (r : List ℕ). opcode ∷ r) (relative w32 _ _ rel some).bytes) (below, four_fit _)

-- a register or a digit, and a register
mod_rm_fits : (reg rm : ℕ) → reg < 8 → is_register rm ≡ true → mod_rm reg rm < 256
mod_rm_fits reg rm small p = let below : rm < 8 = (register_facts rm p).0 in omega arith

-- the opcode of an operation
opcode_fits : (op : AluOp) → alu_opcode op < 256
opcode_fits Add = omega arith
opcode_fits Sub = omega arith
opcode_fits Xor = omega arith
opcode_fits Cmp = omega arith
opcode_fits Test = omega arith
opcode_fits Mov = omega arith

-- a digit is below eight
digit_fits : (op : AluOp) (digit : ℕ) → digit_of op ≡ Some digit → digit < 8
digit_fits Add digit some = let same : 0 ≡ digit = same_Some _ _ some in omega arith
digit_fits Sub digit some = let same : 5 ≡ digit = same_Some _ _ some in omega arith
digit_fits Cmp digit some = let same : 7 ≡ digit = same_Some _ _ some in omega arith
digit_fits Xor digit some = absurd (none-some _ some)
digit_fits Test digit some = absurd (none-some _ some)
digit_fits Mov digit some = absurd (none-some _ some)

-- each element of a spelling is a byte
pub spells-bytes : (insn : Insn) (at : ℕ) (code : List ℕ) → Spells insn at code → AreBytes code
unfolding Spells
spells-bytes (Nop len) at code is =
    by_nop (λ len code. AreBytes code) (omega arith, tt) (omega arith, (omega arith, tt)) (omega arith, (omega arith, (omega arith, tt))) (omega arith, (omega arith, (omega arith, (omega arith, tt)))) (omega arith, (omega arith, (omega arith, (omega arith, (omega arith, tt))))) (omega arith, (omega arith, (omega arith, (omega arith, (omega arith, (omega arith, tt)))))) (omega arith, (omega arith, (omega arith, (omega arith, (omega arith, (omega arith, (omega arith, tt))))))) (omega arith, (omega arith, (omega arith, (omega arith, (omega arith, (omega arith, (omega arith, (omega arith, tt)))))))) (omega arith, (omega arith, (omega arith, (omega arith, (omega arith, (omega arith, (omega arith, (omega arith, (omega arith, tt))))))))) len code is
spells-bytes Int3 at code is = of_bytes _ _ is (omega arith, tt)
spells-bytes (Jmp8 target) at code is = near_bytes 0xeb at target code (omega arith) is
spells-bytes (Jmp32 target) at code is = far_bytes 0xe9 at target code (omega arith) is
spells-bytes (Call target) at code is = far_bytes 0xe8 at target code (omega arith) is
spells-bytes Ret at code is = of_bytes _ _ is (omega arith, tt)
spells-bytes (Jcc8 condition target) at code (p, is) =
    let below : condition < 16 = (condition_facts condition p).0 in
    near_bytes (0x70 + condition) at target code (omega arith) is
spells-bytes (Jcc32 condition target) at code (p, (rel, some, is)) =
    let below : condition < 16 = (condition_facts condition p).0 in
    of_bytes code _
    (is ∙ ap (λ (r : List ℕ). 0x0f ∷ (0x80 + condition) ∷ r) (relative w32 _ _ rel some).bytes)
    (omega arith, (omega arith, four_fit _))
spells-bytes (Alu op rm reg) at code (p, q, is) =
    let small : reg < 8 = (register_facts reg q).0 in
    of_bytes _ _ is (opcode_fits op, (mod_rm_fits reg rm small p, tt))
spells-bytes (AluImm op rm byte) at code (digit, some, p, fits, is) =
    of_bytes _ _ is (omega arith, (mod_rm_fits digit rm (digit_fits op digit some) p, (fits, tt)))
spells-bytes (Inc rm) at code (p, is) = of_bytes _ _ is (omega arith, (mod_rm_fits 0 rm (omega arith) p, tt))
spells-bytes (Dec rm) at code (p, is) = of_bytes _ _ is (omega arith, (mod_rm_fits 1 rm (omega arith) p, tt))
spells-bytes (MovImm r number) at code (p, fits, is) =
    let below : r < 8 = (register_facts r p).0 in of_bytes _ _ is (omega arith, four_fit number)
spells-bytes Hlt at code is = of_bytes _ _ is (omega arith, tt)
spells-bytes Ud2 at code is = of_bytes _ _ is (omega arith, (omega arith, tt))
spells-bytes (Out port) at code (fits, is) = of_bytes _ _ is (omega arith, (fits, tt))
spells-bytes Endbr64 at code is = of_bytes _ _ is (omega arith, (omega arith, (omega arith, (omega arith, tt))))
spells-bytes Serialize at code is = of_bytes _ _ is (omega arith, (omega arith, (omega arith, tt)))

-- one to nine
abbrev IsShortEnough : ℕ → Type 0
IsShortEnough n = (1 ≤ n) × (n ≤ 9)

-- the length of a list that a fact names
of_length : (code bytes : List ℕ) → code ≡ bytes → IsShortEnough (length bytes) → IsShortEnough (length code)
of_length code bytes is p = subst (λ (l : List ℕ). IsShortEnough (length l)) (sym is) p

-- an opcode and a displacement of one byte
near_length : (opcode : ℕ) (at target : ℕ) (code : List ℕ) → Leads w8 (opcode ∷ []) at target code → IsShortEnough (length code)
near_length opcode at target code (rel, some, is) =
    of_length code _ (is ∙ ap (λ (r : List ℕ). opcode ∷ r) (relative w8 _ _ rel some).bytes) (omega arith, omega arith)

-- an opcode and a displacement of four bytes
far_length : (opcode : ℕ) (more : List ℕ) (at target : ℕ) (code : List ℕ) → length more ≤ 1 → Leads w32 (opcode ∷ more) at target code → IsShortEnough (length code)
far_length opcode more at target code below (rel, some, is) =
    of_length code _ (is ∙ ap (λ (r : List ℕ). opcode ∷ (more ++ r)) (relative w32 _ _ rel some).bytes) (omega (arith, length-append {A = ℕ}), omega (arith, length-append {A = ℕ}))

-- a spelling has one to nine bytes
pub length-spells : (insn : Insn) (at : ℕ) (code : List ℕ) → Spells insn at code → (1 ≤ length code) × (length code ≤ 9)
unfolding Spells
length-spells (Nop len) at code is =
    by_nop (λ len code. IsShortEnough (length code)) (omega arith, omega arith) (omega arith, omega arith)
    (omega arith, omega arith) (omega arith, omega arith) (omega arith, omega arith) (omega arith, omega arith)
    (omega arith, omega arith) (omega arith, omega arith) (omega arith, omega arith) len code is
length-spells Int3 at code is = of_length _ _ is (omega arith, omega arith)
length-spells (Jmp8 target) at code is = near_length 0xeb at target code is
length-spells (Jmp32 target) at code is = far_length 0xe9 [] at target code (omega arith) is
length-spells (Call target) at code is = far_length 0xe8 [] at target code (omega arith) is
length-spells Ret at code is = of_length _ _ is (omega arith, omega arith)
length-spells (Jcc8 condition target) at code (p, is) = near_length (0x70 + condition) at target code is
length-spells (Jcc32 condition target) at code (p, is) = far_length 0x0f ((0x80 + condition) ∷ []) at target code (omega arith) is
length-spells (Alu op rm reg) at code (p, q, is) = of_length _ _ is (omega arith, omega arith)
length-spells (AluImm op rm byte) at code (digit, some, p, fits, is) = of_length _ _ is (omega arith, omega arith)
length-spells (Inc rm) at code (p, is) = of_length _ _ is (omega arith, omega arith)
length-spells (Dec rm) at code (p, is) = of_length _ _ is (omega arith, omega arith)
length-spells (MovImm r number) at code (p, fits, is) = of_length _ _ is (omega arith, omega arith)
length-spells Hlt at code is = of_length _ _ is (omega arith, omega arith)
length-spells Ud2 at code is = of_length _ _ is (omega arith, omega arith)
length-spells (Out port) at code (fits, is) = of_length _ _ is (omega arith, omega arith)
length-spells Endbr64 at code is = of_length _ _ is (omega arith, omega arith)
length-spells Serialize at code is = of_length _ _ is (omega arith, omega arith)
