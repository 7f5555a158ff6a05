-- Readings that are exact: what they find is spelt, what is too short for them can be completed, and an
-- answer that isn't `Short` stays what it is whatever follows. Each way to put readings together keeps this.
use Rattle.std.proofs.Common.{◌≡◌, ℕ, ◌+◌, ◌-◌, ◌/◌, ◌%◌, ◌<◌, ◌≤◌, ◌==◌, ◌&&◌, ◌⊎◌, inl, inr, Bool, true, false, if◌then◌else◌, List, [], ◌∷◌, ◌++◌, length, refl, sym, ◌∙◌, ap, subst, Ok, Err, arith, append_assoc, append-nil, length-append}
use Rattle.std.specs.Prelude.{nat_le, nat_lt}
use Rattle.std.proofs.Math.Seq.{take-append_seam}
use Rattle.std.proofs.lemmas.Bool.{and_parts, leb-true}
use Rattle.std.proofs.lemmas.Bool.Decides.{Decides-eqb}
use Rattle.x64_subset.specs.declared.insn.Insn.{Insn}
use Rattle.x64_subset.specs.declared.insn.Undecoded.TheVariants.{Short, Unknown}
use Rattle.x64_subset.specs.Subset.{is_register}
use Rattle.x64_subset.specs.Spells.{Spells, Stands, IsCut, mod_rm}
use Rattle.x64_subset.specs.Reading.{Answer, Reading, complete, unknown, byte, expect, four}
use Rattle.x64_subset.specs.Reading as reading
use Rattle.x64_subset.proofs.Operands.{mod_rm_is}

-- each element of a list is a byte
abbrev pub AreBytes : List ℕ → Type 0
AreBytes [] = Unit {0}
AreBytes (b ∷ bytes) = (b < 256) × AreBytes bytes

-- the reading of what follows these bytes is exact
pub record IsExact (at : ℕ) (prefix : List ℕ) (k : Reading) : Type 0 where
  pub stands : (insn : Insn) (len : ℕ) (bytes : List ℕ) → AreBytes bytes → k bytes ≡ Ok (insn, len) → Stands insn len at (prefix ++ bytes)
  pub cut : (bytes : List ℕ) → AreBytes bytes → k bytes ≡ Err Short → IsCut at (prefix ++ bytes)
  pub lasts : (bytes rest : List ℕ) → AreBytes bytes → (k bytes ≡ Err Short) ⊎ (k (bytes ++ rest) ≡ k bytes)

-- a spelling stands where bytes begin with it
pub stands_spelt : (insn : Insn) (at : ℕ) (code rest : List ℕ) → Spells insn at code → Stands insn (length code) at (code ++ rest)
stands_spelt insn at code rest is = record {
  spelt = subst (λ (c : List ℕ). Spells insn at c) (sym (take-append_seam code rest)) is;
  inside = omega (arith, length-append code rest);
}

-- the instruction ends here
pub exact_complete : (at : ℕ) (prefix : List ℕ) (insn : Insn) (len : ℕ) → length prefix ≡ len → Spells insn at prefix → IsExact at prefix (complete insn len)
exact_complete at prefix insn len same is = record {
  stands = λ other n bytes fit e.
      let place : Stands insn (length prefix) at (prefix ++ bytes) = stands_spelt insn at prefix bytes is in
      let both : (insn, len) ≡ (other, n) = cc in
      let first : insn ≡ other = ap (λ (p : Insn × ℕ). p.0) both in
      let second : length prefix ≡ n = same ∙ ap (λ (p : Insn × ℕ). p.1) both in
      subst (λ (i : Insn). Stands i n at (prefix ++ bytes)) first
      (subst (λ (l : ℕ). Stands insn l at (prefix ++ bytes)) second place);
  cut = λ bytes fit e. absurd (cc);
  lasts = λ bytes rest fit. inr refl;
}

-- nothing begins so
pub exact_unknown : (at : ℕ) (prefix : List ℕ) → IsExact at prefix unknown
exact_unknown at prefix = record {
  stands = λ insn len bytes fit e. absurd (cc);
  cut = λ bytes fit e. absurd (cc);
  lasts = λ bytes rest fit. inr refl;
}

-- one of two readings
pub exact_if : {at : ℕ} {prefix : List ℕ} {k l : Reading} (test : Bool) → (test ≡ true → IsExact at prefix k) → IsExact at prefix l → IsExact at prefix (if test then k else l)
exact_if true p q = p refl
exact_if false p q = q

-- one of two readings, by the value of a number in front
pub exact_on : {at : ℕ} {k l : Reading} (prefix : ℕ → List ℕ) (n c : ℕ) → IsExact at (prefix c) k → IsExact at (prefix n) l → IsExact at (prefix n) (if n == c then k else l)
exact_on {at} {k} prefix n c p q =
    exact_if (n == c) (λ is. subst (λ (m : ℕ). IsExact at (prefix m) k) (sym ((Decides-eqb n c).0 is)) p) q

-- one of two readings, by the range of a byte in front
pub exact_in : {at : ℕ} {l : Reading} (prefix : ℕ → List ℕ) (k : ℕ → Reading) (n base top : ℕ) → ((c : ℕ) → IsExact at (prefix (base + c)) (k c)) → IsExact at (prefix n) l → IsExact at (prefix n) (if nat_le base n && nat_lt n top then k (n - base) else l)
exact_in {at} prefix k n base top p q =
    exact_if _
    (λ is.
    let from : base ≤ n = leb-true base n (and_parts (nat_le base n) (nat_lt n top) is).0 in
    let same : base + (n - base) ≡ n = omega arith in
    subst (λ (m : ℕ). IsExact at (prefix m) (k (n - base))) same (p (n - base))) q

-- bytes that some spelling continues are cut
pub cut_by : (insn : Insn) (at : ℕ) (prefix : List ℕ) (b : ℕ) (rest : List ℕ) → Spells insn at (prefix ++ b ∷ rest) → IsCut at prefix
cut_by insn at prefix b rest is = record {
  insn = insn;
  code = prefix ++ b ∷ rest;
  spelt = is;
  prefix = take-append_seam prefix (b ∷ rest);
  shorter = omega (arith, length-append prefix (b ∷ rest));
}

-- one more byte in front
more : (prefix : List ℕ) (b : ℕ) (bytes : List ℕ) → (prefix ++ b ∷ []) ++ bytes ≡ prefix ++ b ∷ bytes
more prefix b bytes = append_assoc prefix (b ∷ []) bytes

-- one more byte decides
pub exact_byte : (at : ℕ) (prefix : List ℕ) (next : ℕ → Reading) → IsCut at prefix → ((b : ℕ) → b < 256 → IsExact at (prefix ++ b ∷ []) (next b)) → IsExact at prefix (byte next)
exact_byte at prefix next here each = record { stands = stands; cut = cut; lasts = lasts }
  where
    stands : (insn : Insn) (len : ℕ) (bytes : List ℕ) → AreBytes bytes → byte next bytes ≡ Ok (insn, len) → Stands insn len at (prefix ++ bytes)
    stands insn len [] fit e = absurd (cc)
    stands insn len (b ∷ bytes) (p, fit) e =
        subst (λ (l : List ℕ). Stands insn len at l) (more prefix b bytes) ((each b p).stands insn len bytes fit e)

    cut : (bytes : List ℕ) → AreBytes bytes → byte next bytes ≡ Err Short → IsCut at (prefix ++ bytes)
    cut [] fit e = subst (λ (l : List ℕ). IsCut at l) (sym (append-nil prefix)) here
    cut (b ∷ bytes) (p, fit) e = subst (λ (l : List ℕ). IsCut at l) (more prefix b bytes) ((each b p).cut bytes fit e)

    lasts : (bytes rest : List ℕ) → AreBytes bytes → (byte next bytes ≡ Err Short) ⊎ (byte next (bytes ++ rest) ≡ byte next bytes)
    lasts [] rest fit = inl refl
    lasts (b ∷ bytes) rest (p, fit) = (each b p).lasts bytes rest fit

-- readings that read the same
exact_same : {at : ℕ} {prefix : List ℕ} (k l : Reading) → ((bytes : List ℕ) → k bytes ≡ l bytes) → IsExact at prefix k → IsExact at prefix l
exact_same {at} {prefix} k l same exact = record {
  stands = λ insn len bytes fit e. exact.stands insn len bytes fit (same bytes ∙ e);
  cut = λ bytes fit e. exact.cut bytes fit (same bytes ∙ e);
  lasts = λ bytes rest fit.
      let last : (k bytes ≡ Err Short) ⊎ (k (bytes ++ rest) ≡ k bytes) = exact.lasts bytes rest fit in
      elim last as (λ s. (l bytes ≡ Err Short) ⊎ (l (bytes ++ rest) ≡ l bytes))
      [ inl e ↦ inl (sym (same bytes) ∙ e) | inr e ↦ inr (sym (same (bytes ++ rest)) ∙ e ∙ same bytes) ];
}

-- bytes that have to follow, one by one
expected : (c : ℕ) (code : List ℕ) (next : Reading) (bytes : List ℕ) → byte (λ b. if b == c then expect code next else unknown) bytes ≡ expect (c ∷ code) next bytes
expected c code next [] = refl
expected c code next (b ∷ bytes) = go (b == c)
  where
    go : (test : Bool) → (if test then expect code next else unknown) bytes ≡ (if test then expect code next bytes else Err Unknown)
    go true = refl
    go false = refl

-- these bytes have to follow
pub exact_expect : (insn : Insn) (rest : List ℕ) (at : ℕ) (prefix code : List ℕ) (next : Reading) → Spells insn at (prefix ++ (code ++ rest)) → IsExact at (prefix ++ code) next → IsExact at prefix (expect code next)
exact_expect insn rest at prefix [] next is exact = subst (λ (l : List ℕ). IsExact at l next) (append-nil prefix) exact
exact_expect insn rest at prefix (c ∷ code) next is exact =
    let inner : IsExact at (prefix ++ c ∷ []) (expect code next) = exact_expect insn rest at (prefix ++ c ∷ []) code next
    (subst (λ (l : List ℕ). Spells insn at l) (sym (more prefix c (code ++ rest))) is)
    (subst (λ (l : List ℕ). IsExact at l next) (sym (more prefix c code)) exact) in
    exact_same _ _ (expected c code next)
    (exact_byte at prefix _ (cut_by insn at prefix c (code ++ rest) is)
    (λ b p. exact_on (λ n. prefix ++ n ∷ []) b c inner (exact_unknown at _)))

-- bytes that begin some spelling
record Begins (at : ℕ) (prefix : List ℕ) : Type 0 where
  insn : Insn
  rest : List ℕ
  spelt : Spells insn at (prefix ++ rest)

-- what begins with one byte more
begins_more : (at : ℕ) (prefix : List ℕ) (b : ℕ) (begins : Begins at (prefix ++ b ∷ [])) → Spells begins.insn at (prefix ++ b ∷ begins.rest)
begins_more at prefix b begins =
    subst (λ (l : List ℕ). Spells begins.insn at l) (more prefix b begins.rest) begins.spelt

-- an exact reading of what follows bytes that begin some spelling
abbrev IsOperand : ℕ → List ℕ → Reading → Type 0
IsOperand at prefix k = IsExact at prefix k × Begins at prefix

-- a byte of an operand, which may be any
exact_operand : (at : ℕ) (prefix : List ℕ) (next : ℕ → Reading) → ((b : ℕ) → b < 256 → IsOperand at (prefix ++ b ∷ []) (next b)) → IsOperand at prefix (byte next)
exact_operand at prefix next each =
    let zero_begins : Begins at (prefix ++ 0 ∷ []) = (each 0 (omega arith)).1 in
    let longer = begins_more at prefix 0 zero_begins in (
      exact_byte at prefix next (cut_by _ at prefix 0 zero_begins.rest longer) (λ b p. (each b p).0),
      record { insn = zero_begins.insn; rest = 0 ∷ zero_begins.rest; spelt = longer },
    )

-- four bytes more
four_more : (prefix : List ℕ) (a b c d : ℕ) → (((prefix ++ a ∷ []) ++ b ∷ []) ++ c ∷ []) ++ d ∷ [] ≡ prefix ++ a ∷ b ∷ c ∷ d ∷ []
four_more prefix a b c d = simp append_assoc

-- an operand's last byte ends the instruction
exact_last : (at : ℕ) (prefix code : List ℕ) (insn : Insn) (len : ℕ) → prefix ≡ code → length code ≡ len → Spells insn at code → IsOperand at prefix (complete insn len)
exact_last at prefix code insn len same size is =
    let spelt : Spells insn at prefix = subst (λ (l : List ℕ). Spells insn at l) (sym same) is in (
      exact_complete at prefix insn len (ap length same ∙ size) spelt,
      record { insn = insn; rest = []; spelt = subst (λ (l : List ℕ). Spells insn at l) (sym (append-nil prefix)) spelt },
    )

-- four bytes end an instruction
pub exact_four : (at : ℕ) (prefix : List ℕ) (insn : List ℕ → Insn) (len : ℕ) → length prefix + 4 ≡ len → ((a b c d : ℕ) → a < 256 → b < 256 → c < 256 → d < 256 → Spells (insn (a ∷ b ∷ c ∷ d ∷ [])) at (prefix ++ a ∷ b ∷ c ∷ d ∷ [])) → IsExact at prefix (four (λ bytes. complete (insn bytes) len))
exact_four at prefix insn len same each =
    (exact_operand at prefix _
    (λ a p. exact_operand at _ _
    (λ b q. exact_operand at _ _
    (λ c r. exact_operand at _ _
    (λ d s. exact_last at _ _ _ len (four_more prefix a b c d) (length-append prefix (a ∷ b ∷ c ∷ d ∷ []) ∙ same) (each a b c d p q r s)))))).0

-- a byte that names two registers, or a digit and a register
pub exact_mod_rm : (at : ℕ) (prefix : List ℕ) (next : ℕ → ℕ → Reading) → IsCut at prefix → ((reg rm : ℕ) → reg < 8 → is_register rm ≡ true → IsExact at (prefix ++ mod_rm reg rm ∷ []) (next reg rm)) → IsExact at prefix (reading.by_mod_rm next)
exact_mod_rm at prefix next here each =
    exact_byte at prefix _ here
    (λ b p. exact_if (nat_le 0xc0 b && is_register (b % 8))
    (λ is.
    let parts = and_parts _ _ is in
    let from : 0xc0 ≤ b = leb-true 0xc0 b parts.0 in
    let facts = mod_rm_is b p from in
    subst (λ (m : ℕ). IsExact at (prefix ++ m ∷ []) (next ((b - 0xc0) / 8) (b % 8))) (sym facts.1)
    (each _ _ facts.0 parts.1))
    (exact_unknown at _))
