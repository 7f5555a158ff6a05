-- The keys of the file that is written of a generated module's plan.
use Rattle.std.proofs.Common.{◌≡◌, ◌<◌, ◌≤◌, ◌+◌, ◌%◌, ◌^◌, ◌∙◌, ◌++◌, ℕ, List, [], ◌∷◌, map, codes, slice_get, slice_index, Some, sym, ap, arith}
use Rattle.std.specs.List.{AllByRecursion as Each}
use Rattle.std.specs.Option.{unwrap_or}
use Rattle.std.proofs.lemmas.Option.{none-some}
use Rattle.byteorder.specs.Endian.{little_number}
use Rattle.elf_module.specs.Elf.{Elf, SectionRecord, loaded}
use Rattle.elf_build.specs.declared.plan.Plan.{Plan}
use Rattle.elf_build.specs.declared.plan.PlanKey.{PlanKey}
use Rattle.elf_build.specs.declared.plan.KeyStart.TheVariants.{Count, Func}
use Rattle.elf_build.specs.File.{file_of, key_at, start_bytes}
use Rattle.elf_build.specs.Generated.{IsGenerated, key}
use Rattle.written_module.specs.Written.{ReadsBack}
use Rattle.module_parts.specs.declared.entry.Entry.{Entry}
use Rattle.module_parts.specs.declared.key.Key.{Key}
use Rattle.module_parts.specs.declared.key.KeyClass.TheVariants.{Jump, Call}
use Rattle.module_names.specs.Keys.{IsUnloaded, gathered, key_addresses, key_of, keys, loaded_after, loaded_number, start_of}
use Rattle.module_image.specs.Refusals.{HasBadState, IsKeyOutside}
use Rattle.generated_module.specs.Accepted.{elf_of}
use Rattle.generated_module.proofs.KeyLists.{call-keys-are, call_keys, jump-keys-are, jump_keys}
use Rattle.generated_module.proofs.FileSections.{entries-are}

-- numbers of four and of eight bytes that are loaded
number-of-four : (sections : List SectionRecord) (at : ℕ) (bytes : List ℕ) → ((j : ℕ) → j < 16 → loaded_after sections at j ≡ Some (slice_index bytes j)) → loaded_number sections 4 at ≡ little_number 4 (slice_index bytes 0 ∷ slice_index bytes 1 ∷ slice_index bytes 2 ∷ slice_index bytes 3 ∷ [])
number-of-four sections at bytes each =
    let b0 = each 0 (omega arith) in
    let b1 = each 1 (omega arith) in
    let b2 = each 2 (omega arith) in
    let b3 = each 3 (omega arith) in
    λ i. little_number 4 (unwrap_or (b0 i) 0 ∷ unwrap_or (b1 i) 0 ∷ unwrap_or (b2 i) 0 ∷ unwrap_or (b3 i) 0 ∷ [])

number-of-eight : (sections : List SectionRecord) (at : ℕ) (bytes : List ℕ) → ((j : ℕ) → j < 16 → loaded_after sections at j ≡ Some (slice_index bytes j)) → loaded_number sections 8 at ≡ little_number 8 (slice_index bytes 0 ∷ slice_index bytes 1 ∷ slice_index bytes 2 ∷ slice_index bytes 3 ∷ slice_index bytes 4 ∷ slice_index bytes 5 ∷ slice_index bytes 6 ∷ slice_index bytes 7 ∷ [])
number-of-eight sections at bytes each =
    let b0 = each 0 (omega arith) in
    let b1 = each 1 (omega arith) in
    let b2 = each 2 (omega arith) in
    let b3 = each 3 (omega arith) in
    let b4 = each 4 (omega arith) in
    let b5 = each 5 (omega arith) in
    let b6 = each 6 (omega arith) in
    let b7 = each 7 (omega arith) in
    λ i. little_number 8 (unwrap_or (b0 i) 0 ∷ unwrap_or (b1 i) 0 ∷ unwrap_or (b2 i) 0 ∷ unwrap_or (b3 i) 0 ∷ unwrap_or (b4 i) 0 ∷ unwrap_or (b5 i) 0 ∷ unwrap_or (b6 i) 0 ∷ unwrap_or (b7 i) 0 ∷ [])

-- the keys of every generated module
abbrev pub made_keys : List Key
made_keys =
    record { class = Jump; at = 0x451000; start = 0 } ∷ record { class = Jump; at = 0x451010; start = 1 }
    ∷ record { class = Call; at = 0x451020; start = 0x401000 } ∷ record { class = Call; at = 0x451030; start = 0x401004 } ∷ []

-- no count is negative
pub good-states : Each (λ (k : Key). HasBadState k → ⊥) made_keys
good-states = ((λ bad. absurd (omega (arith, bad))), ((λ bad. absurd (omega (arith, bad))), ((λ bad. bad), ((λ bad. bad), tt))))

-- a key whose bytes are loaded
loaded-inside : (sections : List SectionRecord) (at : ℕ) (bytes : List ℕ) → ((j : ℕ) → j < 16 → loaded_after sections at j ≡ Some (slice_index bytes j)) → IsUnloaded sections at → ⊥
loaded-inside sections at bytes each out =
    let le = out.inside in
    none-some (slice_index bytes out.place) (sym out.missing ∙ each out.place (omega (arith, le)))

module _ (n : ℕ) (few : 10 ≤ n) (plan : Plan) (made : IsGenerated n plan) (back : ReadsBack plan) where
  abbrev elf : Elf
  elf = elf_of (file_of plan)

  -- the addresses that the entries name
  pub jump-addresses : key_addresses elf Jump ≡ jump_keys
  jump-addresses = ap (λ (es : List Entry). gathered Jump es []) (entries-are n plan made back) ∙ jump-keys-are n few

  pub call-addresses : key_addresses elf Call ≡ call_keys
  call-addresses = ap (λ (es : List Entry). gathered Call es []) (entries-are n plan made back) ∙ call-keys-are n few

  -- a byte of a key
  key-bytes : (i at : ℕ) (k : PlanKey) → slice_get plan.keys.items i ≡ Some k → key_at plan i ≡ at → at < 2 ^ 32 → (j : ℕ) → j < 16 → loaded_after elf.sections at j ≡ Some (slice_index (start_bytes k.start) j)
  key-bytes i at k here place low j below =
      let sum : (at + j) % 2 ^ 64 ≡ key_at plan i + j = omega (arith, place, low, below) in
      ap (loaded elf.sections) sum ∙ back.keys i k j here below

  first : (j : ℕ) → j < 16 → loaded_after elf.sections 0x451000 j ≡ Some (slice_index (start_bytes (Count 0)) j)
  first =
      let base = made.base in
      key-bytes 0 0x451000 (key (codes "jk0") (Count 0)) (ap (λ (ks : List PlanKey). slice_get ks 0) made.keys_are) (omega (arith, base)) (omega arith)

  second : (j : ℕ) → j < 16 → loaded_after elf.sections 0x451010 j ≡ Some (slice_index (start_bytes (Count 1)) j)
  second =
      let base = made.base in
      key-bytes 1 0x451010 (key (codes "jk1") (Count 1)) (ap (λ (ks : List PlanKey). slice_get ks 1) made.keys_are) (omega (arith, base)) (omega arith)

  third : (j : ℕ) → j < 16 → loaded_after elf.sections 0x451020 j ≡ Some (slice_index (start_bytes (Func 0x401000)) j)
  third =
      let base = made.base in
      key-bytes 2 0x451020 (key (codes "ca") (Func 0x401000)) (ap (λ (ks : List PlanKey). slice_get ks 2) made.keys_are) (omega (arith, base)) (omega arith)

  fourth : (j : ℕ) → j < 16 → loaded_after elf.sections 0x451030 j ≡ Some (slice_index (start_bytes (Func 0x401004)) j)
  fourth =
      let base = made.base in
      key-bytes 3 0x451030 (key (codes "cb") (Func 0x401004)) (ap (λ (ks : List PlanKey). slice_get ks 3) made.keys_are) (omega (arith, base)) (omega arith)

  -- the keys
  pub keys-are : keys elf ≡ made_keys
  keys-are =
      let s = elf.sections in
      let zero_is : start_of s Jump 0x451000 ≡ 0 = number-of-four s 0x451000 (start_bytes (Count 0)) first in
      let one_is : start_of s Jump 0x451010 ≡ 1 = number-of-four s 0x451010 (start_bytes (Count 1)) second in
      let fa_is : start_of s Call 0x451020 ≡ 0x401000 = number-of-eight s 0x451020 (start_bytes (Func 0x401000)) third in
      let fb_is : start_of s Call 0x451030 ≡ 0x401004 = number-of-eight s 0x451030 (start_bytes (Func 0x401004)) fourth in
      let addresses : keys elf ≡ map (key_of s Jump) jump_keys ++ map (key_of s Call) call_keys =
      λ i. map (key_of s Jump) (jump-addresses i) ++ map (key_of s Call) (call-addresses i) in
      addresses
      ∙ (λ i.
      record { class = Jump; at = 0x451000; start = zero_is i } ∷ record { class = Jump; at = 0x451010; start = one_is i }
      ∷ record { class = Call; at = 0x451020; start = fa_is i } ∷ record { class = Call; at = 0x451030; start = fb_is i } ∷ [])

  -- all their bytes are loaded
  pub keys-inside : Each (λ (k : Key). IsKeyOutside elf k → ⊥) made_keys
  keys-inside = (
    loaded-inside elf.sections 0x451000 (start_bytes (Count 0)) first,
    (
      loaded-inside elf.sections 0x451010 (start_bytes (Count 1)) second,
      (
        loaded-inside elf.sections 0x451020 (start_bytes (Func 0x401000)) third,
        (loaded-inside elf.sections 0x451030 (start_bytes (Func 0x401004)) fourth, tt),
      ),
    ),
  )
