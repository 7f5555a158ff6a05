-- What a key holds, by the bytes that are loaded at its address.
use Rattle.std.specs.Prelude.{ℕ, List, map, slice_index_or, Option, None}
use Rattle.std.specs.List.{range_with_len}
use Rattle.std.specs.Option.{unwrap_or}
use Rattle.byteorder.specs.Endian.{little_number}
use Rattle.module_parts.specs.declared.key.KeyClass.{KeyClass}
use Rattle.module_parts.specs.declared.key.KeyClass.TheVariants.{Jump, Call}

-- the number in the first n bytes, the lowest first; one that isn't loaded counts as 0
abbrev pub number_in : ℕ → List (Option ℕ) → ℕ
number_in n bytes = little_number n (map (λ i. unwrap_or (slice_index_or bytes i None) 0) (range_with_len 0 n))

abbrev pub start_in : KeyClass → List (Option ℕ) → ℕ
start_in Jump bytes = number_in 4 bytes
start_in Call bytes = number_in 8 bytes
