-- How numbers are spelt in digits, and which number a word of digits is.
use Rattle.std.specs.Prelude.{ℕ, Bool, ◌+◌, ◌*◌, ◌^◌, ◌==◌, ◌&&◌, nat_lt, nat_le, if◌then◌else◌, List, length, map, slice_index, codes, Option, Some, None}
use Rattle.std.specs.List.{list_all}
use Rattle.std.specs.Char.{digit_value, is_digit}
use Rattle.std.specs.Int.Digits.{digits_of, number_from_digits}

-- the digits of a number in a base, the highest first and none in vain; letters are in lower case
abbrev pub spelling : ℕ → ℕ → List ℕ
spelling base n =
    if n == 0 then codes "0" else map (λ digit. slice_index (codes "0123456789abcdef") digit) (digits_of base n)

abbrev pub hexadecimal : ℕ → List ℕ
hexadecimal n = spelling 16 n

abbrev pub decimal : ℕ → List ℕ
decimal n = spelling 10 n

-- the word has at least one digit of the base, at most this many, and nothing else; letters are of either case
abbrev pub is_numeral : ℕ → ℕ → List ℕ → Bool
is_numeral base most word =
    nat_lt 0 (length word) && nat_le (length word) most && list_all (λ byte. is_digit byte base) word

-- the number that the digits of a word make
abbrev pub value_of : ℕ → List ℕ → ℕ
value_of base word = number_from_digits base (map digit_value word)

-- the number that 1 to 16 hexadecimal digits of either case make
abbrev pub hex_number : List ℕ → Option ℕ
hex_number word = if is_numeral 16 16 word then Some (value_of 16 word) else None

-- the number that 1 to 20 decimal digits make, where it is below 2 ^ 64
abbrev pub dec_number : List ℕ → Option ℕ
dec_number word =
    if is_numeral 10 20 word && nat_lt (value_of 10 word) (2 ^ 64) then Some (value_of 10 word) else None

-- the number below 2 ^ 64 that 1 to n digits of a base make
abbrev pub digits_number : ℕ → ℕ → List ℕ → Option ℕ
digits_number base most word =
    if is_numeral base most word && nat_lt (value_of base word) (2 ^ 64) then Some (value_of base word) else None

-- a value with one digit more at its end, where the byte is a digit of the base and the value stays below 2 ^ 64
abbrev pub with_digit : ℕ → ℕ → ℕ → Option ℕ
with_digit base value byte =
    if is_digit byte base && nat_lt (value * base + digit_value byte) (2 ^ 64) then Some (value * base + digit_value byte) else None
