-- What a key's bytes say, and the keys that were read so far.
use Rattle.std.proofs.Common.{◌≡◌, ◌<◌, ◌+◌, ◌∙◌, ℕ, List, [], ◌∷◌, ◌++◌, length, map, take, get_or, Option, Some, None, refl, sym, ap, subst, arith, length-append, inl, inr}
use Rattle.std.specs.List.{slice_get}
use Rattle.std.proofs.lemmas.Bool.{cases_lt}
use Rattle.std.proofs.lemmas.List.{length-map, take_more}
use Rattle.std.proofs.lemmas.List.FromFn.{get_or-map-range_with_len}
use Rattle.std.proofs.lemmas.Option.{get_or_from_slice_get, same_Some, slice_get_within}
use Rattle.elf_module.specs.Elf.{Elf, SectionRecord, loaded_from}
use Rattle.module_parts.specs.declared.key.Key.{Key}
use Rattle.module_parts.specs.declared.key.KeyClass.{KeyClass}
use Rattle.module_parts.specs.declared.key.KeyClass.TheVariants.{Jump, Call}
use Rattle.module_image.specs.First.{NoneBelow}
use Rattle.module_image.specs.KeyStarts.{start_in}
use Rattle.module_names.specs.Keys.{IsUnloaded, key_addresses, key_of, keys, loaded_after, start_of}

-- a byte of those that were loaded from a key's address on
byte_after : (sections : List SectionRecord) (at k : ℕ) (bytes : List (Option ℕ)) → bytes ≡ loaded_from sections 16 at → k < 16 → get_or bytes k None ≡ loaded_after sections at k
byte_after sections at k bytes are below =
    ap (λ (bs : List (Option ℕ)). get_or bs k None) are ∙ get_or-map-range_with_len (λ i. loaded_after sections at i) 0 16 k k None below (omega arith)

-- one is missing, or none is
pub unloaded : (sections : List SectionRecord) (at : ℕ) (bytes : List (Option ℕ)) → bytes ≡ loaded_from sections 16 at
    → (k : ℕ) × (k < 16) × (get_or bytes k None ≡ None) → IsUnloaded sections at
unloaded sections at bytes are missing = record {
  place = missing.0;
  inside = omega (arith, missing.1);
  missing = sym (byte_after sections at missing.0 bytes are missing.1) ∙ missing.2;
}

pub loaded_whole : (sections : List SectionRecord) (at : ℕ) (bytes : List (Option ℕ)) → bytes ≡ loaded_from sections 16 at
    → ((k : ℕ) → k < 16 → get_or bytes k None ≡ None → ⊥) → IsUnloaded sections at → ⊥
loaded_whole sections at bytes are whole un =
    let below : un.place < 16 = omega (arith, un.inside) in
    whole un.place below (byte_after sections at un.place bytes are below ∙ un.missing)

-- what they hold
start_same : (sections : List SectionRecord) (class : KeyClass) (at : ℕ) → start_in class (loaded_from sections 16 at) ≡ start_of sections class at
start_same sections Jump at = refl
start_same sections Call at = refl

pub started : (sections : List SectionRecord) (class : KeyClass) (at start : ℕ) (bytes : List (Option ℕ)) → bytes ≡ loaded_from sections 16 at → start ≡ start_in class bytes → start ≡ start_of sections class at
started sections class at start bytes are is = is ∙ ap (start_in class) are ∙ start_same sections class at

-- the key with a number is that of the file
pub key_here : (elf : Elf) (jumps calls : List ℕ) (i : ℕ) (k : Key) → jumps ≡ key_addresses elf Jump → calls ≡ key_addresses elf Call
    → slice_get (map (key_of elf.sections Jump) jumps ++ map (key_of elf.sections Call) calls) i ≡ Some k → slice_get (keys elf) i ≡ Some k
key_here elf jumps calls i k jumps_are calls_are here =
    ap (λ ks. slice_get (map (key_of elf.sections Jump) ks ++ map (key_of elf.sections Call) (key_addresses elf Call)) i) (sym jumps_are)
    ∙ ap (λ ks. slice_get (map (key_of elf.sections Jump) jumps ++ map (key_of elf.sections Call) ks) i) (sym calls_are) ∙ here

-- how many there are
pub keys_count : (elf : Elf) → length (keys elf) ≡ length (key_addresses elf Jump) + length (key_addresses elf Call)
keys_count elf =
    length-append (map (key_of elf.sections Jump) (key_addresses elf Jump)) (map (key_of elf.sections Call) (key_addresses elf Call))
    ∙ ap (λ n. n + length (map (key_of elf.sections Call) (key_addresses elf Call))) (length-map (key_addresses elf Jump) (key_of elf.sections Jump))
    ∙ ap (λ n. length (key_addresses elf Jump) + n) (length-map (key_addresses elf Call) (key_of elf.sections Call))

-- one more key was read, and has all its bytes
pub read_more : (all found new : List Key) (i : ℕ) (k : Key) → slice_get all i ≡ Some k → found ≡ take i all → new ≡ found ++ k ∷ [] → new ≡ take (i + 1) all
read_more all found new i k here so_far added =
    added ∙ ap (λ ks. ks ++ k ∷ []) so_far
    ∙ sym (take_more all i k (slice_get_within all i k here) ∙ ap (λ x. take i all ++ x ∷ []) (get_or_from_slice_get all i k k here))

pub below_next : {A : Type 0} (P : A → Type 0) (xs : List A) (n : ℕ) (x : A) → NoneBelow P xs n → slice_get xs n ≡ Some x → (P x → ⊥) → NoneBelow P xs (n + 1)
below_next P xs n x below here hasnt k y lt get has = elim (cases_lt k n) [
  | inl before ↦ below k y before get has
  | inr past ↦
      (
      let same : k ≡ n = omega (arith, lt, past) in
      let there : slice_get xs n ≡ Some y = subst (λ (i : ℕ). slice_get xs i ≡ Some y) same get in
      hasnt (subst P (sym (same_Some x y (sym here ∙ there))) has)
      )
]
