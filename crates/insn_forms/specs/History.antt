-- What the bytes of a text have been: the writes to it in order, and the values that a byte had since a number of them.
use Rattle.std.specs.Prelude.{◌≡◌, ◌≤◌, ◌+◌, ◌-◌, ◌==◌, nat_lt, if◌then◌else◌, ℕ, List, [], ◌∷◌, Option, None, length, map, take, slice_get, unwrap_or}
use Rattle.std.specs.List.{list_any, range_with_len}
use Rattle.insn_forms.specs.Write.{Write}

-- a text, as bytes by address
abbrev pub Memory : Type 0
Memory = ℕ → ℕ

-- the byte at an address of a text that begins at `base`; none outside of it
abbrev pub text_byte : ℕ → List ℕ → ℕ → Option ℕ
text_byte base text at = if nat_lt at base then None else slice_get text (at - base)

abbrev pub text_memory : ℕ → List ℕ → Memory
text_memory base text at = unwrap_or (text_byte base text at) 0

-- a text after one write, and after some, in order
abbrev pub put : Write → Memory → Memory
put w m at = if w.at == at then w.byte else m at

abbrev pub written : List Write → Memory → Memory
written [] m = m
written (w ∷ writes) m = written writes (put w m)

-- the byte at an address after the first n writes
abbrev pub byte : Memory → List Write → ℕ → ℕ → ℕ
byte start writes n at = written (take n writes) start at

-- a value that the byte at an address had after some number of writes, from `mark` of them to all
pub record IsCandidate (start : Memory) (writes : List Write) (mark at value : ℕ) : Type 0 where
  pub after : ℕ
  pub from : mark ≤ after
  pub to : after ≤ length writes
  pub had : byte start writes after at ≡ value

-- a list without the values that are in it, or in another, before
abbrev pub without : List ℕ → List ℕ → List ℕ
without seen [] = []
without seen (value ∷ values) =
    if list_any (λ other. other == value) seen then without seen values else value ∷ without (value ∷ seen) values

-- the distinct values that the byte at an address has had since `mark` writes, in the order of their first occurrence
abbrev pub since : Memory → List Write → ℕ → ℕ → List ℕ
since start writes mark at =
    without [] (map (λ n. byte start writes n at) (range_with_len mark (length writes + 1 - mark)))
