-- Names with an ending zero, one after the other.
use Rattle.std.proofs.Common.{◌≡◌, ◌<◌, ◌+◌, ◌∙◌, ℕ, Bool, true, List, [], ◌∷◌, ◌++◌, length, get_or, drop, refl, sym, ap, arith, append_assoc, one-add}
use Rattle.std.specs.Prelude.{not, nat_eq}
use Rattle.std.specs.List.{before_first, list_all}
use Rattle.std.proofs.lemmas.Bool.{and_parts, not-true}
use Rattle.std.proofs.lemmas.List.{drop_at, length-append, get_or_at}
use Rattle.elf_module.specs.Elf.{name_in}
use Rattle.elf_module.specs.Refusals.{HasName}

-- no byte of a name is zero
abbrev pub is_full : List ℕ → Bool
is_full name = list_all (λ byte. not (nat_eq byte 0)) name

-- what stands before the first zero
pub before-zero : (name rest : List ℕ) → is_full name ≡ true → before_first (λ byte. nat_eq byte 0) (name ++ 0 ∷ rest) ≡ name
before-zero [] rest full = refl
before-zero (byte ∷ name) rest full =
    let parts = and_parts (not (nat_eq byte 0)) (is_full name) full in
    rw (not-true (nat_eq byte 0) parts.0) (simp one-add (ap (λ (l : List ℕ). byte ∷ l) (before-zero name rest parts.1)))

-- a name of a table, after a prefix
module _ (names prefix name tail : List ℕ) (is : names ≡ prefix ++ ((name ++ 0 ∷ []) ++ tail)) where
  -- what stands from the name on
  after : drop (length prefix) names ≡ name ++ 0 ∷ tail
  after =
      ap (λ (l : List ℕ). drop (length prefix) l) is ∙ drop_at prefix ((name ++ 0 ∷ []) ++ tail) (length prefix) refl
      ∙ append_assoc name (0 ∷ []) tail

  -- the name is read at its place
  pub name-read : is_full name ≡ true → name_in names (length prefix) ≡ name
  name-read full = ap (before_first (λ byte. nat_eq byte 0)) after ∙ before-zero name tail full

  -- the name has an ending zero
  pub name-there : HasName names (length prefix)
  name-there =
      let long : length (drop (length prefix) names) ≡ length name + length (0 ∷ tail) = ap length after ∙ length-append name (0 ∷ tail) in
      (length name, omega arith, ap (λ (l : List ℕ). get_or l (length name) 0) after ∙ get_or_at name 0 tail 0 (length name) refl)

  -- the rest stands after the name
  pub name-next : names ≡ (prefix ++ (name ++ 0 ∷ [])) ++ tail
  name-next = is ∙ sym (append_assoc prefix (name ++ 0 ∷ []) tail)

  -- the name begins inside the table
  pub prefix-short : length prefix < length names
  prefix-short =
      let long : length names ≡ length prefix + length ((name ++ 0 ∷ []) ++ tail) = ap length is ∙ length-append prefix ((name ++ 0 ∷ []) ++ tail) in
      let more : length ((name ++ 0 ∷ []) ++ tail) ≡ length name + length (0 ∷ tail) = ap length (append_assoc name (0 ∷ []) tail) ∙ length-append name (0 ∷ tail) in
      omega arith

-- how long a prefix is with one name more
pub longer-prefix : (prefix name : List ℕ) → length (prefix ++ (name ++ 0 ∷ [])) ≡ length prefix + length name + 1
longer-prefix prefix name =
    let a = length-append prefix (name ++ 0 ∷ []) in
    let b : length (name ++ 0 ∷ []) ≡ length name + 1 = length-append name (0 ∷ []) in
    omega arith
