-- How long the spellings of numbers are, that they read back, and what reading digit by digit gives.
use Rattle.std.proofs.Common.{◌≡◌, ℕ, zero, suc, ◌+◌, ◌*◌, ◌/◌, ◌%◌, ◌^◌, ◌<◌, ◌≤◌, ◌==◌, inl, inr, Bool, true, false, cond, ◌&&◌, nat_lt, nat_le, if◌then◌else◌, List, [], ◌∷◌, ◌++◌, map, length, get_or, drop, slice_index, codes, Option, Some, None, refl, sym, ap, ◌∙◌, arith, length-append, eqb-true, ne_eqb, lt-ltb, ltb-true, leb-true, le-leb, mod-eq_of_lt}
use Rattle.std.specs.Char.{digit_value, is_digit}
use Rattle.std.specs.Int.Digits.{AllBelowBase, digits_of, number_from_digits, number_from_digits_after}
use Rattle.std.specs.List.{list_all}
use Rattle.std.proofs.Math.Nat.{pow-le-pow_right}
use Rattle.std.proofs.lemmas.Bool.{and_parts, cases_lt}
use Rattle.std.proofs.lemmas.Bool.Decides.{nat_tests}
use Rattle.std.proofs.lemmas.Grind.{common_steps}
use Rattle.std.proofs.lemmas.Int.Digits.{all_below_base_digits_of, digits_of_step, length-digits_of-le, length-digits_of_step, number_after_ge, number_digits_of, number_lt}
use Rattle.std.proofs.lemmas.List.{at_drop_all, at_drop_more, length-map, map_push}
use Rattle.std.proofs.lemmas.Nat.{div_below, le-div}
use Rattle.hex.proofs.HexLemmas.{length-encode_with}
use Rattle.poke_base.specs.Number.{dec_number, decimal, digits_number, hex_number, hexadecimal, is_numeral, spelling, value_of, with_digit}

-- the byte of a digit
abbrev pub digit_byte : ℕ → ℕ
digit_byte digit = slice_index (codes "0123456789abcdef") digit

-- ---- the digits of the table

-- the bytes of the digits below n have their values
abbrev all_read_back : ℕ → Bool
all_read_back zero = true
all_read_back (suc n) = (digit_value (digit_byte n) == n) && all_read_back n

-- so the byte of each digit below n has its value
all_read_back-at : (n digit : ℕ) → all_read_back n ≡ true → digit < n → digit_value (digit_byte digit) ≡ digit
all_read_back-at zero digit h lt = absurd (omega arith)
all_read_back-at (suc n) digit h lt =
    let parts = and_parts (digit_value (digit_byte n) == n) (all_read_back n) h in
    elim (cases_lt digit n) [
      | inl below ↦ all_read_back-at n digit parts.1 below
      | inr top ↦
          let e : digit ≡ n = omega arith in
          rw e (eqb-true (digit_value (digit_byte n)) n parts.0)
    ]

-- the byte of a digit has its value
digit_value-digit_byte : (digit : ℕ) → digit < 16 → digit_value (digit_byte digit) ≡ digit
digit_value-digit_byte digit = all_read_back-at 16 digit refl

-- ---- spellings, digit by digit

-- the spelling of a number that isn't 0
spelling-positive : (base n : ℕ) → 0 < n → spelling base n ≡ map digit_byte (digits_of base n)
spelling-positive base n pos =
    ap (λ test. cond test (codes "0") (map digit_byte (digits_of base n))) (ne_eqb n 0 (λ e. omega arith))

-- the digit of a number below the base
digits_of-digit : (base n : ℕ) → 2 ≤ base → 0 < n → n < base → digits_of base n ≡ n ∷ []
digits_of-digit base n two pos small =
    let below : n / base < 1 = div_below n base 1 (omega arith) (omega arith) in
    let quotient : n / base ≡ 0 = omega arith in
    let rest : n % base ≡ n = mod-eq_of_lt small in
    digits_of_step base n two pos ∙ (λ i. digits_of base (quotient i) ++ (rest i ∷ []))

-- a number below the base is spelt by its digit
pub spelling-digit : (base n : ℕ) → 2 ≤ base → n < base → spelling base n ≡ digit_byte n ∷ []
spelling-digit base zero two small = refl
spelling-digit base (suc m) two small =
    let pos : 0 < suc m = omega arith in
    spelling-positive base (suc m) pos ∙ ap (map digit_byte) (digits_of-digit base (suc m) two pos small)

-- a longer spelling ends in the last digit
pub spelling-more : (base n : ℕ) → 2 ≤ base → base ≤ n → spelling base n ≡ spelling base (n / base) ++ (digit_byte (n % base) ∷ [])
spelling-more base n two large =
    let pos : 0 < n = omega arith in
    let some : 0 < n / base = le-div 1 n base (omega arith) (omega arith) in
    spelling-positive base n pos ∙ ap (map digit_byte) (digits_of_step base n two pos)
    ∙ map_push digit_byte (digits_of base (n / base)) (n % base)
    ∙ ap (λ prefix. prefix ++ (digit_byte (n % base) ∷ [])) (sym (spelling-positive base (n / base) some))

-- and is longer by one byte than without it
pub length-spelling-more : (base n : ℕ) → 2 ≤ base → base ≤ n → length (spelling base n) ≡ length (spelling base (n / base)) + 1
length-spelling-more base n two large =
    ap length (spelling-more base n two large) ∙ length-append (spelling base (n / base)) (digit_byte (n % base) ∷ [])

-- ---- how long spellings are

-- a number below a power of the base has at most n digits
length-spelling-le : (base most n : ℕ) → 2 ≤ base → 0 < most → n < base ^ most → length (spelling base n) ≤ most
length-spelling-le base most zero two some small = some
length-spelling-le base most (suc m) two some small =
    rw (spelling-positive base (suc m) (omega arith), length-map) (length-digits_of-le base most (suc m) two small)

-- a 64-bit number has at most 16 hexadecimal digits
pub length-hexadecimal-le : (n : ℕ) → n < 2 ^ 64 → length (hexadecimal n) ≤ 16
length-hexadecimal-le n small = length-spelling-le 16 16 n (omega arith) (omega arith) (omega arith)

-- and at most 20 decimal digits
pub length-decimal-le : (n : ℕ) → n < 2 ^ 64 → length (decimal n) ≤ 20
length-decimal-le n small = length-spelling-le 10 20 n (omega arith) (omega arith) (omega arith)

-- how long a line is after numbers and bytes, for callers to name on a function
pub ruleset line_room = (common_steps, length-encode_with, length-hexadecimal-le, length-decimal-le)

-- ---- reading back

-- the bytes of digits of a base read as these digits
digits_read_back : (base : ℕ) (digits : List ℕ) → base ≤ 16 → AllBelowBase base digits
    → (map digit_value (map digit_byte digits) ≡ digits) × (list_all (λ byte. is_digit byte base) (map digit_byte digits) ≡ true)
digits_read_back base [] few h = (refl, refl)
digits_read_back base (digit ∷ digits) few h =
    let rest = digits_read_back base digits few h.1 in
    let value = digit_value-digit_byte digit (omega (arith, h.0)) in (
      (λ i. value i ∷ rest.0 i),
      rw (value, lt-ltb digit base h.0) rest.1,
    )

-- the spelling of a number is made of digits of the base, and they make the number
spelling_reads_back : (base n : ℕ) → 2 ≤ base → base ≤ 16
    → (value_of base (spelling base n) ≡ n) × (list_all (λ byte. is_digit byte base) (spelling base n) ≡ true)
spelling_reads_back base zero two few = (omega arith, rw (lt-ltb 0 base (omega arith)) refl)
spelling_reads_back base (suc m) two few =
    let n = suc m in
    let read = digits_read_back base (digits_of base n) few (all_below_base_digits_of base n two) in
    rw (spelling-positive base n (omega arith)) (ap (number_from_digits base) read.0 ∙ number_digits_of base n two, read.1)

-- a spelling isn't empty
length-spelling-pos : (base n : ℕ) → 2 ≤ base → 0 < length (spelling base n)
length-spelling-pos base zero two = omega arith
length-spelling-pos base (suc m) two =
    rw (spelling-positive base (suc m) (omega arith), length-map) (omega (arith, length-digits_of_step base (suc m) two (omega arith)))

-- a spelling that is short enough is a numeral
is_numeral-spelling : (base most n : ℕ) → 2 ≤ base → base ≤ 16 → 0 < most → n < base ^ most → is_numeral base most (spelling base n) ≡ true
is_numeral-spelling base most n two few some small = numeral (spelling base n) base most (length-spelling-pos base n two) (length-spelling-le base most n two some small) (spelling_reads_back base n two few).1
  where
    numeral : (word : List ℕ) (base most : ℕ) → 0 < length word → length word ≤ most → list_all (λ byte. is_digit byte base) word ≡ true → is_numeral base most word ≡ true
    numeral word base most some short digits = rw (lt-ltb 0 (length word) some, le-leb (length word) most short, digits) refl

-- a 64-bit number reads back from its hexadecimal spelling
pub hex_number-hexadecimal : (n : ℕ) → n < 2 ^ 64 → hex_number (hexadecimal n) ≡ Some n
hex_number-hexadecimal n small =
    rw (is_numeral-spelling 16 16 n (omega arith) (omega arith) (omega arith) (omega arith)) (ap Some (spelling_reads_back 16 n (omega arith) (omega arith)).0)

-- and from its decimal spelling
pub dec_number-decimal : (n : ℕ) → n < 2 ^ 64 → dec_number (decimal n) ≡ Some n
dec_number-decimal n small =
    let value = (spelling_reads_back 10 n (omega arith) (omega arith)).0 in
    rw (is_numeral-spelling 10 20 n (omega arith) (omega arith) (omega arith) (omega arith), value, lt-ltb n (2 ^ 64) small) refl

-- ---- reading digit by digit

-- the number that a value and the digits of a word after it make
abbrev pub read_on : ℕ → ℕ → List ℕ → Option ℕ
read_on base value [] = Some value
read_on base value (byte ∷ word) =
    if is_digit byte base && nat_lt (value * base + digit_value byte) (2 ^ 64) then read_on base (value * base + digit_value byte) word else None

-- one digit is read, and then the others
read_on-cases : (digit inside digits fits : Bool) (number : ℕ) (others : Option ℕ)
    → (inside ≡ true → others ≡ cond (digits && fits) (Some number) None) → (inside ≡ false → fits ≡ false)
    → cond (digit && inside) others None ≡ cond ((digit && digits) && fits) (Some number) None
read_on-cases true true digits fits number others same over = same refl
read_on-cases true false digits fits number others same over = grind arith
read_on-cases false inside digits fits number others same over = refl

-- a value that is below 2 ^ 64 at the end is so on the way
read_on-is : (base value : ℕ) (word : List ℕ) → 0 < base → value < 2 ^ 64
    → read_on base value word ≡ cond (list_all (λ byte. is_digit byte base) word && nat_lt (number_from_digits_after base value (map digit_value word)) (2 ^ 64)) (Some (number_from_digits_after base value (map digit_value word))) None
read_on-is base value [] some small = rw (lt-ltb value (2 ^ 64) small) refl
read_on-is base value (byte ∷ word) some small =
    let next = value * base + digit_value byte in
    let digits = map digit_value word in
    read_on-cases (is_digit byte base) (nat_lt next (2 ^ 64)) (list_all (λ byte. is_digit byte base) word) (nat_lt (number_from_digits_after base next digits) (2 ^ 64)) (number_from_digits_after base next digits) (read_on base next word)
    (λ inside. read_on-is base next word some (ltb-true next (2 ^ 64) inside))
    (λ outside. let more = number_after_ge base next digits some in grind (arith, nat_tests))

-- a word of the right length is read digit by digit
pub digits_number-read : (base most : ℕ) (word : List ℕ) → 2 ≤ base → 0 < length word → length word ≤ most → read_on base 0 word ≡ digits_number base most word
digits_number-read base most word two some short = rw (lt-ltb 0 (length word) some, le-leb (length word) most short) (read_on-is base 0 word (omega arith) (omega arith))

-- a value that gets no digit more gets no number
with_digit-none : (test : Bool) (value : ℕ) (others : Option ℕ) → cond test (Some value) None ≡ None → cond test others None ≡ None
with_digit-none true value others h = absurd (cc)
with_digit-none false value others h = refl

-- reading stops where there is no digit more
pub read_on-stops : (base most value i : ℕ) (word : List ℕ) → 2 ≤ base → length word ≤ most → i < length word
    → with_digit base value (get_or word i 0) ≡ None → read_on base value (drop i word) ≡ read_on base 0 word → None ≡ digits_number base most word
read_on-stops base most value i word two short here none so_far =
    let byte = get_or word i 0 in
    let next = value * base + digit_value byte in
    let stopped = with_digit-none (is_digit byte base && nat_lt next (2 ^ 64)) next (read_on base next (drop (i + 1) word)) none in
    sym stopped ∙ sym (at_drop_more (read_on base value) word i 0 here) ∙ so_far ∙ digits_number-read base most word two (omega arith) short

-- at the end of the word its number is read
pub read_on-ends : (base most value i : ℕ) (word : List ℕ) → 2 ≤ base → 0 < length word → length word ≤ most → length word ≤ i
    → read_on base value (drop i word) ≡ read_on base 0 word → Some value ≡ digits_number base most word
read_on-ends base most value i word two some short past so_far =
    sym (at_drop_all (read_on base value) word i past) ∙ so_far ∙ digits_number-read base most word two some short

-- ---- hexadecimal numbers fit

-- the values of digits of a base are below it
below_base-digits : (base : ℕ) (word : List ℕ) → list_all (λ byte. is_digit byte base) word ≡ true → AllBelowBase base (map digit_value word)
below_base-digits base [] h = tt
below_base-digits base (byte ∷ word) h =
    let parts = and_parts (is_digit byte base) (list_all (λ byte. is_digit byte base) word) h in
    (ltb-true (digit_value byte) base parts.0, below_base-digits base word parts.1)

-- 16 hexadecimal digits stay below 2 ^ 64
value_of-fits : (word : List ℕ) → is_numeral 16 16 word ≡ true → nat_lt (value_of 16 word) (2 ^ 64) ≡ true
value_of-fits word h =
    let parts = and_parts (nat_lt 0 (length word) && nat_le (length word) 16) (list_all (λ byte. is_digit byte 16) word) h in
    let short = leb-true (length word) 16 (and_parts (nat_lt 0 (length word)) (nat_le (length word) 16) parts.0).1 in
    let below = number_lt 16 (map digit_value word) (below_base-digits 16 word parts.1) in
    let power : 16 ^ length word ≤ 16 ^ 16 = pow-le-pow_right (omega arith) short in
    lt-ltb (value_of 16 word) (2 ^ 64) (omega (arith, below, power, ap (λ n. 16 ^ n) (length-map word digit_value)))

-- a test that follows from another adds nothing to it
some_if-implied : (test implied : Bool) (number : ℕ) → (test ≡ true → implied ≡ true) → cond (test && implied) (Some number) None ≡ cond test (Some number) None
some_if-implied true implied number h = rw (h refl) refl
some_if-implied false implied number h = refl

-- for 16 hexadecimal digits the test of the value may be left out
pub digits_number-hex : (word : List ℕ) → digits_number 16 16 word ≡ hex_number word
digits_number-hex word = some_if-implied (is_numeral 16 16 word) (nat_lt (value_of 16 word) (2 ^ 64)) (value_of 16 word) (value_of-fits word)
