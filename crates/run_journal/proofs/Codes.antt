-- The spellings of bytes.
use Rattle.std.proofs.Common.{◌≡◌, ℕ, zero, suc, ◌+◌, ◌*◌, ◌/◌, ◌%◌, ◌<◌, ◌≤◌, ◌==◌, ◌&&◌, ◌||◌, inl, inr, Bool, true, false, not, nat_lt, List, [], ◌∷◌, length, slice_index, Some, None, Ok, Err, take, unwrap_or, refl, sym, ap, ◌∙◌, arith}
use Rattle.std.specs.Char.{is_ascii_uppercase}
use Rattle.std.specs.List.{All, AllPass, list_any}
use Rattle.std.specs.Prelude.{Result, MatchResult}
use Rattle.std.specs.Result.{result_ok}
use Rattle.std.proofs.lemmas.Grind.{common_steps}
use Rattle.std.proofs.lemmas.Bool.{and_parts, cases_lt, eqb-true, ltb-true}
use Rattle.std.proofs.lemmas.List.Elements.{All-cons, All-head, All-tail}
use Rattle.hex.specs.declared.error.FromHexError.{FromHexError}
use Rattle.hex.specs.Hex.{decode_of, decode_sized, encode_lower, encode_with, hex_digit_value, is_hex_digit, lower_digits}
use Rattle.hex.proofs.HexLemmas.{decode_of-encode_lower, decode_of-ok, decode_of-same, decode_sized-encode_lower, decode_sized-ok, decode_sized-twice, length-encode_with}
use Rattle.run_journal.specs.Parts.{IsCode}
use Rattle.run_journal.proofs.Apart.{are_bytes}

-- ---- digits in lower case

-- the value of a digit
abbrev value : ℕ → ℕ
value digit = unwrap_or (hex_digit_value digit) 0

-- a byte is no digit, or in upper case, or the digit of its value
abbrev is_back : ℕ → Bool
is_back byte = not (is_hex_digit byte) || is_ascii_uppercase byte || ((slice_index lower_digits (value byte) == byte) && nat_lt (value byte) 16)

abbrev all_back : ℕ → Bool
all_back zero = true
all_back (suc n) = is_back n && all_back n

all_back-at : (n byte : ℕ) → all_back n ≡ true → byte < n → is_back byte ≡ true
all_back-at zero byte h lt = absurd (omega arith)
all_back-at (suc n) byte h lt =
    let parts = and_parts (is_back n) (all_back n) h in
    elim (cases_lt byte n) [
      | inl below ↦ all_back-at n byte parts.1 below
      | inr top ↦
          let e : byte ≡ n = omega arith in
          rw e parts.0
    ]

digit_below : (byte : ℕ) → is_hex_digit byte ≡ true → byte < 103
digit_below byte h = grind arith

from_test : (digit upper same small : Bool) → (not digit || upper || (same && small)) ≡ true → digit ≡ true → upper ≡ false → (same ≡ true) × (small ≡ true)
from_test true false true true h p q = (refl, refl)
from_test true false true false h p q = absurd (cc)
from_test true false false small h p q = absurd (cc)
from_test true true same small h p q = absurd (cc)
from_test false upper same small h p q = absurd (cc)

-- a digit in lower case is that of its value
digit_back : (byte : ℕ) → is_hex_digit byte ≡ true → is_ascii_uppercase byte ≡ false → (slice_index lower_digits (value byte) ≡ byte) × (value byte < 16)
digit_back byte h lower =
    let test = all_back-at 103 byte refl (digit_below byte h) in
    let parts = from_test (is_hex_digit byte) (is_ascii_uppercase byte) (slice_index lower_digits (value byte) == byte) (nat_lt (value byte) 16) test h lower in
    (eqb-true (slice_index lower_digits (value byte)) byte parts.0, ltb-true (value byte) 16 parts.1)

any_parts : (a b : Bool) → (a || b) ≡ false → (a ≡ false) × (b ≡ false)
any_parts false b h = (refl, h)
any_parts true b h = absurd (cc)

-- ---- digits of bytes

-- pairs of digits in lower case are the digits of bytes
are_spelt : (word : List ℕ) → length word % 2 ≡ 0 → AllPass is_hex_digit word → list_any is_ascii_uppercase word ≡ false
    → (bytes : List ℕ) × (encode_lower bytes ≡ word) × All (λ byte. byte < 256) bytes
unfolding encode_with
are_spelt [] even digits lower = ([], refl, λ i d h. absurd (omega arith))
are_spelt (a ∷ []) even digits lower = absurd (omega arith)
are_spelt (a ∷ b ∷ word) even digits lower =
    let tail = All-tail (λ byte. is_hex_digit byte ≡ true) a (b ∷ word) digits in
    let low = any_parts (is_ascii_uppercase a) (list_any is_ascii_uppercase (b ∷ word)) lower in
    let lows = any_parts (is_ascii_uppercase b) (list_any is_ascii_uppercase word) low.1 in
    let first = digit_back a (All-head (λ byte. is_hex_digit byte ≡ true) a (b ∷ word) digits) low.0 in
    let second = digit_back b (All-head (λ byte. is_hex_digit byte ≡ true) b word tail) lows.0 in
    let more = are_spelt word (omega arith) (All-tail (λ byte. is_hex_digit byte ≡ true) b word tail) lows.1 in
    let byte = value a * 16 + value b in
    let upper : byte / 16 ≡ value a = omega arith in
    let under : byte % 16 ≡ value b = omega arith in (
      byte ∷ more.0,
      (λ i. (ap (slice_index lower_digits) upper ∙ first.0) i ∷ (ap (slice_index lower_digits) under ∙ second.0) i ∷ more.1 i),
      All-cons (λ byte. byte < 256) byte more.0 (omega arith) more.2,
    )

-- ---- what is decoded

-- bytes that are decoded from digits in lower case are spelt by them
pub is_code : (word out : List ℕ) (n : ℕ) → decode_sized word n ≡ Ok out → list_any is_ascii_uppercase word ≡ false → length word / 2 ≤ 9 → 1 ≤ length out → IsCode word out
is_code word out n e lower short some =
    let read = sym (decode_sized-twice word n (decode_sized-ok word n out e)) ∙ e in
    let ok = decode_of-ok word out read in
    let few : length out ≤ 9 = omega (arith, ok.2) in
    let back = are_spelt word ok.0 ok.1 lower in
    let again = ap decode_of (sym back.1) ∙ decode_of-encode_lower back.0 (are_bytes back.0 back.2) in
    let bytes = decode_of-same word out back.0 read again in
    record { fetched = record { some = some; few = few; each = rw bytes back.2 }; spelt = sym back.1 ∙ ap encode_lower (sym bytes) }

-- what the decoder leaves, where it decodes
abbrev Written : Result (List ℕ) FromHexError → Result (Unit {0}) FromHexError → List ℕ → Type 0
Written d r out = MatchResult d (λ bytes. (r ≡ Ok tt) × (out ≡ bytes)) (λ e. r ≡ Err e)

pub decoded : (d : Result (List ℕ) FromHexError) (r : Result (Unit {0}) FromHexError) (out : List ℕ) (u : Unit {0}) → Written d r out → result_ok r ≡ Some u → d ≡ Ok out
decoded (Ok bytes) r out u h e = ap Ok (sym h.1)
decoded (Err why) r out u h e = absurd (cc (sym e ∙ ap result_ok h))

pub not_decoded : (d : Result (List ℕ) FromHexError) (r : Result (Unit {0}) FromHexError) (out bytes : List ℕ) → Written d r out → result_ok r ≡ None → d ≡ Ok bytes → ⊥
not_decoded (Ok other) r out bytes h e same = cc (sym e ∙ ap result_ok h.0)
not_decoded (Err why) r out bytes h e same = cc

-- room for as many bytes
pub room : (n : ℕ) → n ≤ 9 → length {A = ℕ} (take n (0 ∷ 0 ∷ 0 ∷ 0 ∷ 0 ∷ 0 ∷ 0 ∷ 0 ∷ 0 ∷ [])) ≡ n
room n few = grind (arith, common_steps)

-- each byte has two digits
pub code_length : (word bytes : List ℕ) → IsCode word bytes → length word ≡ 2 * length bytes
code_length word bytes h = ap length h.spelt ∙ length-encode_with lower_digits bytes

-- spelt bytes are decoded
pub decodes : (word bytes : List ℕ) (n : ℕ) → IsCode word bytes → n ≡ length word / 2 → decode_sized word n ≡ Ok bytes
decodes word bytes n h e =
    let len = code_length word bytes h in
    ap (λ w. decode_sized w n) h.spelt ∙ decode_sized-encode_lower bytes n (omega arith) (are_bytes bytes h.fetched.each)

-- what is found in a word without letters in upper case is none, also past its end
lower-at : (word : List ℕ) (i : ℕ) → list_any is_ascii_uppercase word ≡ false → is_ascii_uppercase (slice_index word i) ≡ false
lower-at [] i h = refl
lower-at (b ∷ word) zero h = (any_parts (is_ascii_uppercase b) (list_any is_ascii_uppercase word) h).0
lower-at (b ∷ word) (suc i) h = lower-at word i (any_parts (is_ascii_uppercase b) (list_any is_ascii_uppercase word) h).1

lower-encode_lower : (bytes : List ℕ) → list_any is_ascii_uppercase (encode_lower bytes) ≡ false
unfolding encode_with
lower-encode_lower [] = refl
lower-encode_lower (b ∷ bytes) =
    rw (lower-at lower_digits (b / 16) refl, lower-at lower_digits (b % 16) refl) (lower-encode_lower bytes)

-- spelt bytes have no letter in upper case
pub no_upper : (word bytes : List ℕ) → IsCode word bytes → list_any is_ascii_uppercase word ≡ false
no_upper word bytes h = ap (list_any is_ascii_uppercase) h.spelt ∙ lower-encode_lower bytes

-- where nothing is decoded, the word is no bytes
pub no_code : (word out : List ℕ) (n : ℕ) (r : Result (Unit {0}) FromHexError) → n ≡ length word / 2 → Written (decode_sized word n) r out → result_ok r ≡ None
    → (bytes : List ℕ) → IsCode word bytes → ⊥
no_code word out n r e h none bytes code = not_decoded (decode_sized word n) r out bytes h none (decodes word bytes n code e)

-- nor where nothing is left
pub empty_code : (word out : List ℕ) (n : ℕ) → n ≡ length word / 2 → decode_sized word n ≡ Ok out → length out ≡ 0 → (bytes : List ℕ) → IsCode word bytes → ⊥
empty_code word out n e h none bytes code =
    let same : Ok out ≡ Ok bytes = sym h ∙ decodes word bytes n code e in
    let out_is : out ≡ bytes = cc in
    omega (arith, code.fetched.some, ap length out_is)
