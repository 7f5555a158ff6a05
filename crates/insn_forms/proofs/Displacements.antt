-- Displacements: the bytes that lead to a target, both ways.
use Rattle.std.proofs.Common.{◌≡◌, ◌↔◌, ℕ, ◌+◌, ◌/◌, ◌%◌, ◌^◌, ◌<◌, ◌==◌, Bool, true, false, cond, if◌then◌else◌, List, [], ◌∷◌, length, refl, sym, ◌∙◌, ap, subst, Some, None, arith}
use Rattle.std.specs.Int.{Width, w8, w32, byte_len, to_le_bytes, from_le_bytes}
use Rattle.std.specs.List.{All}
use Rattle.std.proofs.lemmas.Bool.Decides.{Decides-eqb, nat_tests}
use Rattle.std.proofs.lemmas.List.Elements.{All-head, All-tail}
use Rattle.std.proofs.lemmas.Option.{same_Some, none-some}
use Rattle.insn_forms.specs.Displacement.{leads, distance, displacement, sign_extended, LeadsTo, NoneLeads}
use Rattle.insn_forms.specs.Spelling.{after}

-- a value that is kept by a test
kept : (test : Bool) (rel other : List ℕ) → cond test (Some rel) None ≡ Some other → (test ≡ true) × (other ≡ rel)
kept true rel other e = (refl, sym (same_Some _ _ e))
kept false rel other e = absurd (none-some _ e)

-- the bytes of a displacement, where there is one, lead to the target
pub record IsRelative (w : Width) (from to : ℕ) (rel : List ℕ) : Type 0 where
  pub leads_to : leads w from (to_le_bytes w (distance from to)) ≡ to
  pub bytes : rel ≡ to_le_bytes w (distance from to)

pub relative : (w : Width) (from to : ℕ) (rel : List ℕ) → displacement w from to ≡ Some rel → IsRelative w from to rel
relative w from to rel e =
    let parts = kept _ (to_le_bytes w (distance from to)) rel e in
    record { leads_to = (Decides-eqb _ _).0 parts.0; bytes = parts.1 }

-- the way back of a sum of addresses
back : (from n : ℕ) → from < 2 ^ 64 → n < 2 ^ 64 → distance from ((from + n) % 2 ^ 64) ≡ n
back from n p q = omega arith

-- the displacement to where some bytes lead is those bytes, given that they are a number's low bytes
displaced : (w : Width) (from : ℕ) (rel : List ℕ) → from < 2 ^ 64 → sign_extended w (from_le_bytes w rel) < 2 ^ 64 → to_le_bytes w (sign_extended w (from_le_bytes w rel)) ≡ rel → displacement w from (leads w from rel) ≡ Some rel
displaced w from rel below fits bytes =
    let far : distance from (leads w from rel) ≡ sign_extended w (from_le_bytes w rel) = back from _ below fits in
    let same : to_le_bytes w (distance from (leads w from rel)) ≡ rel = ap (to_le_bytes w) far ∙ bytes in
    ap (λ (b : List ℕ). if leads w from b == leads w from rel then Some b else None) same
    ∙ ap (λ (t : Bool). if t then Some rel else None) ((Decides-eqb (leads w from rel) (leads w from rel)).1 refl)

-- a number of one byte in eight
extended8 : (n : ℕ) → n < 256 → (sign_extended w8 n < 2 ^ 64) × (sign_extended w8 n % 256 ≡ n)
extended8 n p = grind (arith, nat_tests)

-- a number of four bytes in eight
extended32 : (n : ℕ) → n < 2 ^ 32 → (sign_extended w32 n < 2 ^ 64) × (sign_extended w32 n % 2 ^ 32 ≡ n)
extended32 n p = grind (arith, nat_tests)

-- the four low bytes of a number
pub four_bytes : (n a b c d : ℕ) → a < 256 → b < 256 → c < 256 → d < 256 → n % 2 ^ 32 ≡ from_le_bytes w32 (a ∷ b ∷ c ∷ d ∷ []) → to_le_bytes w32 n ≡ a ∷ b ∷ c ∷ d ∷ []
four_bytes n a b c d p q r s e =
    let first : n % 256 ≡ a = omega arith in
    let second : n / 256 % 256 ≡ b = omega arith in
    let third : n / 65536 % 256 ≡ c = omega arith in
    let fourth : n / 16777216 % 256 ≡ d = omega arith in cc

-- the displacement to where one byte leads is that byte
pub displacement8 : (from a : ℕ) → from < 2 ^ 64 → a < 256 → displacement w8 from (leads w8 from (a ∷ [])) ≡ Some (a ∷ [])
displacement8 from a below byte =
    let facts = extended8 (from_le_bytes w8 (a ∷ [])) (omega arith) in
    displaced w8 from (a ∷ []) below facts.0 (ap (λ (x : ℕ). x ∷ []) facts.1)

-- the displacement to where four bytes lead is those bytes
pub displacement32 : (from a b c d : ℕ) → from < 2 ^ 64 → a < 256 → b < 256 → c < 256 → d < 256 → displacement w32 from (leads w32 from (a ∷ b ∷ c ∷ d ∷ [])) ≡ Some (a ∷ b ∷ c ∷ d ∷ [])
displacement32 from a b c d below p q r s =
    let facts = extended32 (from_le_bytes w32 (a ∷ b ∷ c ∷ d ∷ [])) (omega arith) in
    displaced w32 from (a ∷ b ∷ c ∷ d ∷ []) below facts.0 (four_bytes _ a b c d p q r s facts.1)

-- an address after some bytes
pub after-below : (at n : ℕ) → after at n < 2 ^ 64
after-below at n = omega arith

-- a number is a byte
abbrev IsByte : ℕ → Type 0
IsByte byte = byte < 256

-- bytes of a width are the displacement to where they lead
abbrev LeadBack : Width → ℕ → Type 0
LeadBack w from = (rel : List ℕ) → length rel ≡ byte_len w → All IsByte rel → displacement w from (leads w from rel) ≡ Some rel

back_8 : (from : ℕ) → from < 2 ^ 64 → LeadBack w8 from
back_8 from below [] size bytes = absurd (omega arith)
back_8 from below (a ∷ []) size bytes = displacement8 from a below (All-head IsByte a [] bytes)
back_8 from below (a ∷ b ∷ rel) size bytes = absurd (omega arith)

back_32 : (from : ℕ) → from < 2 ^ 64 → LeadBack w32 from
back_32 from below [] size bytes = absurd (omega arith)
back_32 from below (a ∷ []) size bytes = absurd (omega arith)
back_32 from below (a ∷ b ∷ []) size bytes = absurd (omega arith)
back_32 from below (a ∷ b ∷ c ∷ []) size bytes = absurd (omega arith)
back_32 from below (a ∷ b ∷ c ∷ d ∷ []) size bytes =
    let second = All-tail IsByte a (b ∷ c ∷ d ∷ []) bytes in
    let third = All-tail IsByte b (c ∷ d ∷ []) second in
    let fourth = All-tail IsByte c (d ∷ []) third in
    displacement32 from a b c d below (All-head IsByte a (b ∷ c ∷ d ∷ []) bytes)
    (All-head IsByte b (c ∷ d ∷ []) second) (All-head IsByte c (d ∷ []) third) (All-head IsByte d [] fourth)
back_32 from below (a ∷ b ∷ c ∷ d ∷ e ∷ rel) size bytes = absurd (omega arith)

-- where bytes of a width are the displacement to where they lead, and there is no displacement, none leads there
none_leads : (w : Width) (from to : ℕ) → LeadBack w from → displacement w from to ≡ None → NoneLeads w from to
none_leads w from to back none rel r =
    none-some _ (sym none ∙ subst (λ (t : ℕ). displacement w from t ≡ Some rel) r.target (back rel r.size r.bytes))

pub none_leads8 : (from to : ℕ) → from < 2 ^ 64 → displacement w8 from to ≡ None → NoneLeads w8 from to
none_leads8 from to below none = none_leads w8 from to (back_8 from below) none

pub none_leads32 : (from to : ℕ) → from < 2 ^ 64 → displacement w32 from to ≡ None → NoneLeads w32 from to
none_leads32 from to below none = none_leads w32 from to (back_32 from below) none

-- an answer that there is none is wrong where one leads to the target
pub some_none : (w : Width) (from to : ℕ) (rel : List ℕ) → LeadsTo w from to rel → (Some rel ≡ None) ↔ NoneLeads w from to
some_none w from to rel leads_to =
    (λ none. absurd (none-some _ (sym none)), λ none. absurd (none rel leads_to))
