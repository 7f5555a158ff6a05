-- Addresses that lie near one another are reached by a displacement of four bytes.
use Rattle.std.proofs.Common.{◌≡◌, ◌∙◌, ◌<◌, ◌≤◌, inl, inr, ℕ, ◌+◌, ◌-◌, ◌%◌, ◌^◌, Bool, cond, List, ◌∷◌, Some, None, option_map, ap, arith}
use Rattle.std.specs.Int.{w32, from_le_bytes, to_le_bytes}
use Rattle.std.proofs.lemmas.Bool.{cases_lt, eq-eqb, le-ltb, lt-ltb}
use Rattle.insn_forms.specs.Displacement.{displacement, distance, leads, sign_extended}

-- the four low bytes of a number
low_bytes : (n : ℕ) → from_le_bytes w32 (to_le_bytes w32 n) ≡ n % 2 ^ 32
low_bytes n = omega arith

-- a number of four bytes in eight
small_extended : (n : ℕ) → n < 2 ^ 31 → sign_extended w32 n ≡ n
small_extended n small = ap (λ (test : Bool). cond test n (n + (2 ^ 64 - 2 ^ 32))) (lt-ltb n (2 ^ 31) small)

great_extended : (n : ℕ) → 2 ^ 31 ≤ n → sign_extended w32 n ≡ n + (2 ^ 64 - 2 ^ 32)
great_extended n great = ap (λ (test : Bool). cond test n (n + (2 ^ 64 - 2 ^ 32))) (le-ltb n (2 ^ 31) great)

-- where the low bytes of a distance lead, forward and backward
forward_leads : (from to far : ℕ) → to < 2 ^ 64 → to ≡ from + far → far < 2 ^ 31 → leads w32 from (to_le_bytes w32 far) ≡ to
forward_leads from to far below is small =
    let low : far % 2 ^ 32 ≡ far = omega (arith, small) in
    let number : from_le_bytes w32 (to_le_bytes w32 far) ≡ far = low_bytes far ∙ low in
    let sum : (from + far) % 2 ^ 64 ≡ to = omega (arith, below, is) in
    ap (λ (n : ℕ). (from + sign_extended w32 n) % 2 ^ 64) number ∙ ap (λ (n : ℕ). (from + n) % 2 ^ 64) (small_extended far small) ∙ sum

backward_leads : (from to back far : ℕ) → from < 2 ^ 64 → from ≡ to + back → 0 < back → back < 2 ^ 31 → far ≡ 2 ^ 64 - back → leads w32 from (to_le_bytes w32 far) ≡ to
backward_leads from to back far below is some small away =
    let low : far % 2 ^ 32 ≡ 2 ^ 32 - back = omega (arith, some, small, away) in
    let number : from_le_bytes w32 (to_le_bytes w32 far) ≡ 2 ^ 32 - back = low_bytes far ∙ low in
    let sum : (from + ((2 ^ 32 - back) + (2 ^ 64 - 2 ^ 32))) % 2 ^ 64 ≡ to = omega (arith, below, is, some, small) in
    ap (λ (n : ℕ). (from + sign_extended w32 n) % 2 ^ 64) number
    ∙ ap (λ (n : ℕ). (from + n) % 2 ^ 64) (great_extended (2 ^ 32 - back) (omega (arith, small))) ∙ sum

-- addresses that are less than 2 ^ 31 apart
near_leads : (from to : ℕ) → from < 2 ^ 64 → to < 2 ^ 64 → from < to + 2 ^ 31 → to < from + 2 ^ 31 → leads w32 from (to_le_bytes w32 (distance from to)) ≡ to
near_leads from to below below' near near' = elim (cases_lt to from) [
  | inl backward ↦ backward_leads from to (from - to) (distance from to) below (omega (arith, backward)) (omega (arith, backward)) (omega (arith, near)) (omega (arith, below, backward))
  | inr forward ↦ forward_leads from to (distance from to) below' (omega (arith, below, below', forward)) (omega (arith, below, below', forward, near'))
]

pub near_displaced : (opcode from to : ℕ) → from < 2 ^ 64 → to < 2 ^ 64 → from < to + 2 ^ 31 → to < from + 2 ^ 31 → option_map (λ (rel : List ℕ). opcode ∷ rel) (displacement w32 from to) ≡ Some (opcode ∷ to_le_bytes w32 (distance from to))
near_displaced opcode from to below below' near near' =
    let bytes = to_le_bytes w32 (distance from to) in
    ap (λ (test : Bool). option_map (λ (rel : List ℕ). opcode ∷ rel) (cond test (Some bytes) None))
    (eq-eqb (leads w32 from bytes) to (near_leads from to below below' near near'))
