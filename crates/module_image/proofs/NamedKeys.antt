-- The names of an accepted module's keys stand for keys of their class.
use Rattle.std.proofs.Common.{◌≡◌, ◌∙◌, ◌==◌, ◌<◌, ◌+◌, ℕ, Bool, true, false, not, nat_lt, List, [], ◌∷◌, length, Some, if◌then◌else◌, refl, sym, subst, arith}
use Rattle.std.specs.Str.{bytes_eq}
use Rattle.std.proofs.lemmas.Bool.{and_parts, ltb-true}
use Rattle.std.proofs.lemmas.Option.{none-some, same_Some}
use Rattle.elf_module.specs.Elf.{Elf, SymbolRecord}
use Rattle.module_parts.specs.declared.key.Key.{Key}
use Rattle.module_parts.specs.declared.key.KeyClass.TheVariants.{Jump as JumpKey, Call as CallKey}
use Rattle.module_names.specs.Keys.{key_addresses, keys, place_in}
use Rattle.module_image.specs.Lent.{IsKeyOf, NamesAreKnown}
use Rattle.module_image.specs.Module.{IsModule, Module}
use Rattle.module_names.specs.Names.{is_key, keys_from, value_of}
use Rattle.module_image.proofs.KeyNumbers.{call_place, jump_place}

-- the number that a name stands for is that of one of the keys
record IsPlaced (first many n : ℕ) : Type 0 where
  place : ℕ
  below : place < many
  is : first + place ≡ n

named_place : (first : ℕ) (keys : List ℕ) (ss : List SymbolRecord) (name : List ℕ) (n : ℕ) → value_of name (keys_from first keys ss) ≡ Some n → IsPlaced first (length keys) n
named_place first keys [] name n is = absurd (none-some n is)
named_place first keys (s ∷ ss) name n is = by (is_key keys s) refl (λ later. named_place first keys ss name n later) is
  where
    named : (test : Bool) → place_in s.value keys < length keys → (value_of name (keys_from first keys ss) ≡ Some n → IsPlaced first (length keys) n)
        → (if test then Some (first + place_in s.value keys) else value_of name (keys_from first keys ss)) ≡ Some n → IsPlaced first (length keys) n
    named true below rest is = record { place = place_in s.value keys; below = below; is = same_Some (first + place_in s.value keys) n is }
    named false below rest is = rest is

    by : (test : Bool) → is_key keys s ≡ test → (value_of name (keys_from first keys ss) ≡ Some n → IsPlaced first (length keys) n)
        → value_of name (if test then (s.name, first + place_in s.value keys) ∷ keys_from first keys ss else keys_from first keys ss) ≡ Some n → IsPlaced first (length keys) n
    by true told rest is =
        named (bytes_eq name s.name) (ltb-true (place_in s.value keys) (length keys) (and_parts (not (s.shndx == 0)) (nat_lt (place_in s.value keys) (length keys)) told).1) rest is
    by false told rest is = rest is

pub jump_names_known : (elf : Elf) (m : Module) → IsModule elf m → NamesAreKnown m.keys JumpKey m.jump_keys
jump_names_known elf m is name n found =
    let placed = named_place 0 (key_addresses elf JumpKey) elf.symbols name n (sym (is.named_jump_keys name) ∙ found) in
    let here = placed.is in
    let same : placed.place ≡ n = omega (arith, here) in
    subst (λ (ks : List Key). IsKeyOf ks JumpKey n) (sym is.has_keys) (subst (λ (k : ℕ). IsKeyOf (keys elf) JumpKey k) same (jump_place elf placed.place placed.below))

pub call_names_known : (elf : Elf) (m : Module) → IsModule elf m → NamesAreKnown m.keys CallKey m.call_keys
call_names_known elf m is name n found =
    let placed = named_place (length (key_addresses elf JumpKey)) (key_addresses elf CallKey) elf.symbols name n (sym (is.named_call_keys name) ∙ found) in
    subst (λ (ks : List Key). IsKeyOf ks CallKey n) (sym is.has_keys) (subst (λ (k : ℕ). IsKeyOf (keys elf) CallKey k) placed.is (call_place elf placed.place placed.below))
