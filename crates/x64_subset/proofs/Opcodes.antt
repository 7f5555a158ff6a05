-- The reading by the first byte, where the code takes its arms; and bytes that have to follow.
use Rattle.std.proofs.Common.{◌≡◌, ℕ, ◌-◌, ◌<◌, ◌≤◌, ◌==◌, Bool, true, false, if◌then◌else◌, List, [], ◌∷◌, refl, sym, ◌∙◌, ap, Ok, Err, arith}
use Rattle.std.proofs.lemmas.Bool.Decides.{Decides-eqb, nat_tests}
use Rattle.poke_base.specs.Text.{IsPrefix}
use Rattle.x64_subset.specs.declared.insn.Insn.{Insn}
use Rattle.x64_subset.specs.declared.insn.Undecoded.TheVariants.{Short, Unknown}
use Rattle.x64_subset.specs.Reading.{Answer, Reading, complete, unknown, expect, mov_imm, jcc8, jcc32, escaped, first}

-- an answer that holds where a number is known
pub where_is : (k : ℕ → Reading) (n c : ℕ) (rest : List ℕ) (a : Answer) → n ≡ c → a ≡ k c rest → a ≡ k n rest
where_is k n c rest a is same = same ∙ ap (λ (m : ℕ). k m rest) (sym is)

-- an answer that holds where a test was passed
pub where_true : (k : Reading) (test : Bool) (rest : List ℕ) (a : Answer) → true ≡ test → k rest ≡ a → a ≡ (if test then k else unknown) rest
where_true k test rest a passed same =
    sym same ∙ ap (λ (t : Bool). (if t then k else unknown) rest) passed

-- the first byte of a short jump on a condition
pub first_jcc8 : (at b : ℕ) (rest : List ℕ) → 0x70 ≤ b → b < 0x80 → first at b rest ≡ jcc8 at (b - 0x70) rest
first_jcc8 at b rest from below = grind (arith, nat_tests)

-- the first byte of a move of a number
pub first_mov_imm : (at b : ℕ) (rest : List ℕ) → 0xb8 ≤ b → b < 0xc0 → first at b rest ≡ mov_imm (b - 0xb8) rest
first_mov_imm at b rest from below = grind (arith, nat_tests)

-- the second byte of a long jump on a condition
pub escaped_jcc32 : (at b : ℕ) (rest : List ℕ) → 0x80 ≤ b → b < 0x90 → escaped at b rest ≡ jcc32 at (b - 0x80) rest
escaped_jcc32 at b rest from below = grind (arith, nat_tests)

-- a prefix without its first byte
prefix_less : (c b : ℕ) (code rest : List ℕ) → IsPrefix (c ∷ code) (b ∷ rest) → (b ≡ c) × IsPrefix code rest
prefix_less c b code rest prefix = (cc, cc)

-- a prefix with one byte more
prefix_more : (c b : ℕ) (code rest : List ℕ) → b ≡ c → IsPrefix code rest → IsPrefix (c ∷ code) (b ∷ rest)
prefix_more c b code rest same prefix = cc

-- bytes that follow
pub expect_starts : (code rest : List ℕ) (insn : Insn) (len : ℕ) → IsPrefix code rest → expect code (complete insn len) rest ≡ Ok (insn, len)
expect_starts [] rest insn len prefix = refl
expect_starts (c ∷ code) [] insn len prefix = absurd (cc)
expect_starts (c ∷ code) (b ∷ rest) insn len prefix =
    let parts = prefix_less c b code rest prefix in
    ap (λ (t : Bool). if t then expect code (complete insn len) rest else Err Unknown) ((Decides-eqb b c).1 parts.0)
    ∙ expect_starts code rest insn len parts.1

-- bytes that end before those that have to follow
pub expect_short : (code rest : List ℕ) (insn : Insn) (len : ℕ) → (IsPrefix code rest → ⊥) → IsPrefix rest code → expect code (complete insn len) rest ≡ Err Short
expect_short [] rest insn len other prefix = absurd (other refl)
expect_short (c ∷ code) [] insn len other prefix = refl
expect_short (c ∷ code) (b ∷ rest) insn len other prefix =
    let parts = prefix_less b c rest code prefix in
    ap (λ (t : Bool). if t then expect code (complete insn len) rest else Err Unknown) ((Decides-eqb b c).1 (sym parts.0))
    ∙ expect_short code rest insn len (λ more. other (prefix_more c b code rest (sym parts.0) more)) parts.1

-- other bytes
pub expect_unknown : (code rest : List ℕ) (insn : Insn) (len : ℕ) → (IsPrefix code rest → ⊥) → (IsPrefix rest code → ⊥) → expect code (complete insn len) rest ≡ Err Unknown
expect_unknown [] rest insn len other longer = absurd (other refl)
expect_unknown (c ∷ code) [] insn len other longer = absurd (longer refl)
expect_unknown (c ∷ code) (b ∷ rest) insn len other longer =
    go (b == c) refl
    (λ same. expect_unknown code rest insn len (λ more. other (prefix_more c b code rest same more)) (λ more. longer (prefix_more b c rest code (sym same) more)))
  where
    go : (t : Bool) → (b == c) ≡ t → (b ≡ c → expect code (complete insn len) rest ≡ Err Unknown) → (if t then expect code (complete insn len) rest else Err Unknown) ≡ Err Unknown
    go true is after = after ((Decides-eqb b c).0 is)
    go false is after = refl
