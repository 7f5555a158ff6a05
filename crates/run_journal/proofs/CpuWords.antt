-- The spellings of the numbers of processors.
use Rattle.std.proofs.Common.{◌≡◌, ℕ, zero, suc, ◌+◌, ◌*◌, ◌<◌, ◌≤◌, ◌^◌, ◌&&◌, inl, inr, Bool, true, false, cond, nat_lt, nat_le, if◌then◌else◌, List, [], ◌∷◌, length, Option, Some, None, refl, sym, ap, ◌∙◌, arith}
use Rattle.std.specs.Char.{digit_value, is_digit}
use Rattle.std.specs.List.{list_all}
use Rattle.std.specs.Str.{bytes_eq}
use Rattle.std.proofs.lemmas.Bool.{and_parts, cases_lt, ltb-true}
use Rattle.std.proofs.lemmas.Bool.Decides.{nat_tests}
use Rattle.std.proofs.lemmas.Option.{cond_some, same_Some}
use Rattle.std.proofs.lemmas.Slice.Eq.{bytes_eq-Decides}
use Rattle.std.proofs.lemmas.Str.{digit_value_digit}
use Rattle.std.proofs.lemmas.Str.Parse.{digit_from_value}
use Rattle.poke_base.specs.Number.{dec_number, decimal, is_numeral, value_of}
use Rattle.poke_base.proofs.Numbers.{dec_number-decimal}
use Rattle.run_journal.specs.Parts.{IsCpu}

-- one digit, or a 1 and a digit
abbrev short : ℕ → List ℕ
short cpu = if nat_lt cpu 10 then (48 + cpu) ∷ [] else 49 ∷ (38 + cpu) ∷ []

abbrev all_short : ℕ → Bool
all_short zero = true
all_short (suc n) = bytes_eq (decimal n) (short n) && all_short n

all_short-at : (n cpu : ℕ) → all_short n ≡ true → cpu < n → bytes_eq (decimal cpu) (short cpu) ≡ true
all_short-at zero cpu h lt = absurd (omega arith)
all_short-at (suc n) cpu h lt =
    let parts = and_parts (bytes_eq (decimal n) (short n)) (all_short n) h in
    elim (cases_lt cpu n) [
      | inl below ↦ all_short-at n cpu parts.1 below
      | inr top ↦
          let e : cpu ≡ n = omega arith in
          rw e parts.0
    ]

decimal-short : (cpu : ℕ) → cpu ≤ 15 → decimal cpu ≡ short cpu
decimal-short cpu few = (bytes_eq-Decides (decimal cpu) (short cpu)).0 (all_short-at 16 cpu refl (omega arith))

length-short : (cpu : ℕ) → length (short cpu) ≡ (if nat_lt cpu 10 then 1 else 2)
length-short cpu = step (nat_lt cpu 10)
  where
    step : (test : Bool) → length (cond test ((48 + cpu) ∷ []) (49 ∷ (38 + cpu) ∷ [])) ≡ cond test 1 2
    step true = refl
    step false = refl

-- the number of a processor is read
pub reads_cpu : (word : List ℕ) (cpu : ℕ) → IsCpu word cpu → dec_number word ≡ Some cpu
reads_cpu word cpu h = ap dec_number h.spelt ∙ dec_number-decimal cpu (let few = h.few in omega arith)

-- what isn't read isn't one
pub no_cpu : (word : List ℕ) (read : Option ℕ) → None ≡ read → read ≡ dec_number word → (cpu : ℕ) → IsCpu word cpu → ⊥
no_cpu word read none e cpu h =
    let some : None ≡ Some cpu = none ∙ e ∙ reads_cpu word cpu h in
    cc

-- what is read as another number isn't one
pub same_cpu : (word : List ℕ) (n cpu : ℕ) → Some n ≡ dec_number word → IsCpu word cpu → n ≡ cpu
same_cpu word n cpu e h = same_Some n cpu (e ∙ reads_cpu word cpu h)

-- a number has one digit or two
pub length_cpu : (word : List ℕ) (cpu : ℕ) → IsCpu word cpu → length word ≡ (if nat_lt cpu 10 then 1 else 2)
length_cpu word cpu h = ap length h.spelt ∙ ap length (decimal-short cpu h.few) ∙ length-short cpu

-- a digit is the byte of its value
digit : (byte : ℕ) → is_digit byte 10 ≡ true → (byte ≡ 48 + digit_value byte) × (digit_value byte < 10)
digit byte h =
    let below : digit_value byte < 10 = ltb-true (digit_value byte) 10 h in
    let value = digit_value_digit byte (digit_from_value byte below) in
    (omega arith, below)

-- one or two digits without a leading zero are the spelling of their number
spelt : (word : List ℕ) (cpu : ℕ) → list_all (λ byte. is_digit byte 10) word ≡ true → value_of 10 word ≡ cpu → cpu ≤ 15
    → length word ≡ (if nat_lt cpu 10 then 1 else 2) → word ≡ short cpu
spelt [] cpu digits value few len = grind (arith, nat_tests)
spelt (a ∷ []) cpu digits value few len =
    let first = digit a (and_parts (is_digit a 10) true digits).0 in
    let same : 0 * 10 + digit_value a ≡ cpu = value in
    grind (arith, nat_tests)
spelt (a ∷ b ∷ []) cpu digits value few len =
    let parts = and_parts (is_digit a 10) (is_digit b 10 && true) digits in
    let first = digit a parts.0 in
    let second = digit b (and_parts (is_digit b 10) true parts.1).0 in
    let same : (0 * 10 + digit_value a) * 10 + digit_value b ≡ cpu = value in
    grind (arith, nat_tests)
spelt (a ∷ b ∷ d ∷ word) cpu digits value few len = grind (arith, nat_tests)

-- what is read and has as many digits is the number of a processor
pub is_cpu : (word : List ℕ) (cpu : ℕ) → Some cpu ≡ dec_number word → cpu ≤ 15 → length word ≡ (if nat_lt cpu 10 then 1 else 2) → IsCpu word cpu
is_cpu word cpu e few len =
    let read = cond_some (is_numeral 10 20 word && nat_lt (value_of 10 word) (2 ^ 64)) (value_of 10 word) cpu (sym e) in
    let numeral = (and_parts (is_numeral 10 20 word) (nat_lt (value_of 10 word) (2 ^ 64)) read.0).0 in
    let digits = (and_parts (nat_lt 0 (length word) && nat_le (length word) 20) (list_all (λ byte. is_digit byte 10) word) numeral).1 in
    record { few = few; spelt = spelt word cpu digits read.1 few len ∙ sym (decimal-short cpu few) }
