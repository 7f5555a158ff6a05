-- A fetch that has begun, and bytes of which the first are candidates.
use Rattle.std.proofs.Common.{◌≡◌, ℕ, zero, suc, ◌+◌, ◌*◌, ◌/◌, ◌%◌, ◌^◌, ◌<◌, ◌≤◌, inl, inr, List, [], ◌∷◌, ◌++◌, length, take, refl, sym, ◌∙◌, ap, subst, arith, length-append, length-take, Some, Err}
use Rattle.std.specs.Prelude.{slice_get, slice_index}
use Rattle.std.proofs.lemmas.Bool.{cases_lt}
use Rattle.std.proofs.lemmas.List.{take-append-le}
use Rattle.std.proofs.lemmas.Option.{same_Some}
use Rattle.std.proofs.Math.Nat.{div-div-eq-div-mul, div-one}
use Rattle.std.proofs.Math.Seq.{take-append_seam}
use Rattle.std.proofs.lemmas.Nat.{pow-add}
use Rattle.stale_fetch.specs.Past.{Past, candidates}
use Rattle.stale_fetch.specs.Text.{Shape, Covers}
use Rattle.x64_subset.specs.declared.insn.Insn.{Insn}
use Rattle.x64_subset.specs.declared.insn.Undecoded.TheVariants.{Short}
use Rattle.x64_subset.specs.Reading.{read}
use Rattle.x64_subset.specs.Spells.{Stands}
use Rattle.cpu_core.specs.Fetch.{IsFetch, picked}
use Rattle.cpu_core.specs.Standing.{HasShortPrefixes, ArePicked}
use Rattle.x64_subset.proofs.Exact.{AreBytes}
use Rattle.cpu_core.proofs.Told.{own_stands, told}

-- bytes that were picked from an address on, and the word without the bits for them
pub record IsPicked (word : ℕ) (shape : Shape) (stands : Past → Type 0) (cpu at : ℕ) (bytes : List ℕ) (left : ℕ) : Type 0 where
  pub fit : AreBytes bytes
  pub to : at + length bytes ≤ shape.base + shape.size
  pub choices : left ≡ word / 2 ^ (8 * length bytes)
  pub each : (p : Past) → stands p → ArePicked word p cpu at bytes

-- those that were picked so far for a fetch
pub record IsBegun (word : ℕ) (shape : Shape) (stands : Past → Type 0) (cpu at : ℕ) (bytes : List ℕ) (left : ℕ) : Type 0 where
  pub picked : IsPicked word shape stands cpu at bytes left
  pub prefixes : HasShortPrefixes at bytes

-- one more byte after bytes that are too short
prefixes-more : (at : ℕ) (bytes : List ℕ) (b : ℕ) → HasShortPrefixes at bytes → read at bytes ≡ Err Short → HasShortPrefixes at (bytes ++ b ∷ [])
prefixes-more at bytes b prefixes short n less =
    let longer = length-append bytes (b ∷ []) in
    elim (cases_lt n (length bytes)) [
      | inl before ↦ ap (read at) (take-append-le n bytes (b ∷ []) (omega arith)) ∙ prefixes n before
      | inr after ↦
          let same : n ≡ length bytes = omega arith in
          ap (λ k. read at (take k (bytes ++ b ∷ []))) same ∙ ap (read at) (take-append_seam bytes (b ∷ [])) ∙ short
    ]

-- an element of a list with one more at its end
data Last (bytes : List ℕ) (b j byte : ℕ) : Type 0 where
  before : slice_get bytes j ≡ Some byte → Last bytes b j byte
  last : j ≡ length bytes → b ≡ byte → Last bytes b j byte

slice_get-last : (bytes : List ℕ) (b j byte : ℕ) → slice_get (bytes ++ b ∷ []) j ≡ Some byte → Last bytes b j byte
slice_get-last [] b zero byte e = last refl (same_Some _ _ e)
slice_get-last [] b (suc j) byte e = absurd (cc)
slice_get-last (a ∷ bytes) b zero byte e = before e
slice_get-last (a ∷ bytes) b (suc j) byte e =
    elim (slice_get-last bytes b j byte e) [ before f ↦ before f | last f g ↦ last (ap suc f) g ]

-- one more byte that the word picks
picked-more : (word : ℕ) (p : Past) (cpu at : ℕ) (bytes : List ℕ) (b : ℕ) → ArePicked word p cpu at bytes → b ≡ picked word (length bytes) (candidates p cpu (at + length bytes)) → ArePicked word p cpu at (bytes ++ b ∷ [])
picked-more word p cpu at bytes b each here j byte e =
    elim (slice_get-last bytes b j byte e) [
      | before f ↦ each j byte f
      | last f g ↦ sym g ∙ here ∙ sym (ap (λ k. picked word k (candidates p cpu (at + k))) f)
    ]

-- eight bits further on
shifted-more : (word n : ℕ) → word / 2 ^ (8 * n) / 2 ^ 8 ≡ word / 2 ^ (8 * (n + 1))
shifted-more word n =
    let e : 8 * n + 8 ≡ 8 * (n + 1) = omega arith in
    div-div-eq-div-mul word (2 ^ (8 * n)) (2 ^ 8) ∙ ap (λ m. word / m) (sym (pow-add 2 (8 * n) 8) ∙ ap (λ k. 2 ^ k) e)

-- one more byte
fit-more : (bytes : List ℕ) (b : ℕ) → AreBytes bytes → b < 256 → AreBytes (bytes ++ b ∷ [])
fit-more [] b fit below = (below, tt)
fit-more (a ∷ bytes) b (p, fit) below = (p, fit-more bytes b fit below)

-- no byte was picked yet
pub none-picked : (word : ℕ) (shape : Shape) (stands : Past → Type 0) (cpu at : ℕ) → Covers shape at → IsPicked word shape stands cpu at [] word
none-picked word shape stands cpu at inside = record {
  fit = tt;
  to = let below = inside.below in omega arith;
  choices = sym (div-one word);
  each = λ p is j byte e. absurd (cc);
}

pub begun-start : (word : ℕ) (shape : Shape) (stands : Past → Type 0) (cpu at : ℕ) → Covers shape at → IsBegun word shape stands cpu at [] word
begun-start word shape stands cpu at inside = record {
  picked = none-picked word shape stands cpu at inside;
  prefixes = λ n less. absurd (omega arith);
}

-- one more byte is picked
pub one-picked : (word : ℕ) (shape : Shape) (stands : Past → Type 0) (cpu at : ℕ) (bytes longer : List ℕ) (b left next : ℕ) → IsPicked word shape stands cpu at bytes left
    → b < 256 → longer ≡ bytes ++ b ∷ [] → Covers shape (at + length bytes) → next ≡ left / 256
    → ((p : Past) → stands p → b ≡ slice_index (candidates p cpu (at + length bytes)) (left % 256 % length (candidates p cpu (at + length bytes))))
    → IsPicked word shape stands cpu at longer next
one-picked word shape stands cpu at bytes longer b left next h small e inside shifted pick =
    subst (λ (l : List ℕ). IsPicked word shape stands cpu at l next) (sym e) (record {
      fit = fit-more bytes b h.fit small;
      to = let below = inside.below in omega (arith, one);
      choices =
          shifted ∙ ap (λ n. n / 2 ^ 8) h.choices ∙ shifted-more word (length bytes) ∙ sym (ap (λ n. word / 2 ^ (8 * n)) one);
      each = λ p is. picked-more word p cpu at bytes b (h.each p is) (pick p is ∙ ap (λ n. slice_index (candidates p cpu (at + length bytes)) (n % 256 % length (candidates p cpu (at + length bytes)))) h.choices);
    })
  where
    one : length (bytes ++ b ∷ []) ≡ length bytes + 1
    one = length-append bytes (b ∷ [])

-- and the bytes before it are too short
pub begun-more : (word : ℕ) (shape : Shape) (stands : Past → Type 0) (cpu at : ℕ) (bytes longer : List ℕ) (b left next : ℕ) → IsBegun word shape stands cpu at bytes left
    → b < 256 → longer ≡ bytes ++ b ∷ [] → read at bytes ≡ Err Short → Covers shape (at + length bytes) → next ≡ left / 256
    → ((p : Past) → stands p → b ≡ slice_index (candidates p cpu (at + length bytes)) (left % 256 % length (candidates p cpu (at + length bytes))))
    → IsBegun word shape stands cpu at longer next
begun-more word shape stands cpu at bytes longer b left next h small e short inside shifted pick = record {
  picked = one-picked word shape stands cpu at bytes longer b left next h.picked small e inside shifted pick;
  prefixes = subst (λ (l : List ℕ). HasShortPrefixes at l) (sym e) (prefixes-more at bytes b h.prefixes short);
}

-- an element of the first ones
slice_get-taken : (n : ℕ) (bytes : List ℕ) (j byte : ℕ) → slice_get (take n bytes) j ≡ Some byte → slice_get bytes j ≡ Some byte
slice_get-taken zero bytes zero byte e = absurd (cc)
slice_get-taken zero bytes (suc j) byte e = absurd (cc)
slice_get-taken (suc n) [] zero byte e = absurd (cc)
slice_get-taken (suc n) [] (suc j) byte e = absurd (cc)
slice_get-taken (suc n) (b ∷ bytes) zero byte e = e
slice_get-taken (suc n) (b ∷ bytes) (suc j) byte e = slice_get-taken n bytes j byte e

-- the first of bytes that were picked
pub picked-take : (word : ℕ) (p : Past) (cpu at n : ℕ) (bytes : List ℕ) → ArePicked word p cpu at bytes → ArePicked word p cpu at (take n bytes)
picked-take word p cpu at n bytes each j byte e = each j byte (slice_get-taken n bytes j byte e)

-- where they begin with an instruction, its bytes are a fetch
pub form-told : (end at : ℕ) (bytes : List ℕ) (insn : Insn) (len : ℕ) → at + length bytes ≤ end → Stands insn len at bytes → IsFetch end at (take len bytes)
form-told end at bytes insn len inside found = record {
  inside = let fewer = length-take len bytes in omega (arith, fewer);
  told = inl (insn, own_stands at bytes insn len found);
}

-- the bytes are a fetch once no more are wanted
pub begun-told : (word : ℕ) (shape : Shape) (stands : Past → Type 0) (cpu at end : ℕ) (bytes : List ℕ) (left : ℕ) → IsBegun word shape stands cpu at bytes left → Covers shape at
    → end ≡ shape.base + shape.size → ((read at bytes ≡ Err Short) × Covers shape (at + length bytes) → ⊥) → IsFetch end at bytes
begun-told word shape stands cpu at end bytes left h inside same enough =
    let to = h.picked.to in
    told end at bytes h.picked.fit h.prefixes (omega arith) (λ short.
    elim (cases_lt (at + length bytes) end) [
      | inl below ↦ absurd (enough (short, record { from = let from = inside.from in omega arith; below = omega arith }))
      | inr past ↦ omega arith
    ])

-- they are at least one
pub begun-some : (shape : Shape) (at : ℕ) (bytes : List ℕ) → Covers shape at → ((read at bytes ≡ Err Short) × Covers shape (at + length bytes) → ⊥) → 1 ≤ length bytes
unfolding read
begun-some shape at [] inside enough =
    let from = inside.from in
    let below = inside.below in
    absurd (enough (refl, record { from = omega arith; below = omega arith }))
begun-some shape at (b ∷ bytes) inside enough = omega arith
