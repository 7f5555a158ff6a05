-- Units that follow one another from the first address of a text to its end are all that begin at starts.
use Rattle.std.proofs.Common.{◌≡◌, ◌<◌, ◌≤◌, ◌+◌, ◌∙◌, ◌⊎◌, inl, inr, ℕ, Bool, true, List, [], ◌∷◌, Option, refl, sym, ap, subst, arith}
use Rattle.std.specs.List.{AllByRecursion as Each}
use Rattle.module_image.specs.Layout.{Layout, IsStart, text_end, unit_at, unit_len, may_end}
use Rattle.module_image.specs.Layout.IsStart.{the_first, the_end}
use Rattle.module_image.specs.Aims.{plain_target}

-- a unit: where it begins, how many bytes it has, where it leads as a plain instruction, whether it may be the last
pub record Piece : Type 0 where
  pub at : ℕ
  pub len : ℕ
  pub target : Option ℕ
  pub ends : Bool

-- it is the unit of a text at its address
pub record IsPiece (t : Layout) (p : Piece) : Type 0 where
  pub len : unit_len t (unit_at t p.at) ≡ p.len
  pub long : 0 < p.len
  pub target : plain_target (unit_at t p.at) ≡ p.target
  pub ends : may_end t (unit_at t p.at) ≡ p.ends

-- units that follow one another from an address to the end of the text
abbrev pub Chain : Layout → ℕ → List Piece → Type 0
Chain t a [] = a ≡ text_end t
Chain t a (p ∷ ps) = (p.at ≡ a) × IsPiece t p × Chain t (a + p.len) ps

-- one of them begins at an address
abbrev pub Among : ℕ → List Piece → Type 0
Among b [] = ⊥
Among b (p ∷ ps) = (p.at ≡ b) ⊎ Among b ps

-- they begin before the end
pub chain-end : (t : Layout) (a : ℕ) (ps : List Piece) → Chain t a ps → a ≤ text_end t
chain-end t a [] chain = omega (arith, chain)
chain-end t a (p ∷ ps) chain = (let rest = chain-end t (a + p.len) ps chain.2 in omega (arith, rest))

-- each of them begins at a start, where the first does
pub starts : (t : Layout) (a : ℕ) (ps : List Piece) → Chain t a ps → (a < text_end t → IsStart t a) → (b : ℕ) → Among b ps → IsStart t b
starts t a [] chain start b there = absurd there
starts t a (p ∷ ps) chain start b (inl same) =
    let rest = chain-end t (a + p.len) ps chain.2 in
    let long = chain.1.long in
    subst (IsStart t) (sym chain.0 ∙ same) (start (omega (arith, rest, long)))
starts t a (p ∷ ps) chain start b (inr later) =
    let rest = chain-end t (a + p.len) ps chain.2 in
    let long = chain.1.long in
    let here : IsStart t a = start (omega (arith, rest, long)) in
    let len : unit_len t (unit_at t a) ≡ p.len = ap (λ (x : ℕ). unit_len t (unit_at t x)) (sym chain.0) ∙ chain.1.len in
    let some : 0 < unit_len t (unit_at t a) = omega (arith, len, long) in
    starts t (a + p.len) ps chain.2 (the_end a (a + p.len) here some (ap (λ (n : ℕ). a + n) len)) b later

-- what begins where one ends is the next
first : (t : Layout) (x : ℕ) (ps : List Piece) (b : ℕ) → Chain t x ps → x ≡ b → b < text_end t → Among b ps
first t x [] b chain same below = absurd (omega (arith, chain, same, below))
first t x (p ∷ ps) b chain same below = inl (chain.0 ∙ same)

next : (t : Layout) (x : ℕ) (ps : List Piece) (a b : ℕ) → Chain t x ps → Among a ps → a + unit_len t (unit_at t a) ≡ b → b < text_end t → Among b ps
next t x [] a b chain there sum below = absurd there
next t x (p ∷ ps) a b chain (inl same) sum below =
    let len : unit_len t (unit_at t a) ≡ p.len = ap (λ (y : ℕ). unit_len t (unit_at t y)) (sym same) ∙ chain.1.len in
    let here : p.at ≡ x = chain.0 in
    inr (first t (x + p.len) ps b chain.2 (omega (arith, len, same, here, sum)) below)
next t x (p ∷ ps) a b chain (inr later) sum below = inr (next t (x + p.len) ps a b chain.2 later sum below)

-- one of them begins at each start
pub known : (t : Layout) (ps : List Piece) → Chain t t.base ps → t.base < text_end t → (b : ℕ) → IsStart t b → Among b ps
known t ps chain some b the_first = first t t.base ps t.base chain refl some
known t ps chain some b (the_end a c start long sum below) = next t t.base ps a b chain (known t ps chain some a start) sum below

-- the unit at an address where one begins, and what holds of each of them
pub record PieceAt (t : Layout) (P : Piece → Type 0) (b : ℕ) : Type 0 where
  pub piece : Piece
  pub at : piece.at ≡ b
  pub is : IsPiece t piece
  pub has : P piece

pub piece-at : (t : Layout) (x : ℕ) (ps : List Piece) (P : Piece → Type 0) (b : ℕ) → Chain t x ps → Each P ps → Among b ps → PieceAt t P b
piece-at t x [] P b chain all there = absurd there
piece-at t x (p ∷ ps) P b chain all (inl same) = record { piece = p; at = same; is = chain.1; has = all.0 }
piece-at t x (p ∷ ps) P b chain all (inr later) = piece-at t (x + p.len) ps P b chain.2 all.1 later

-- the last of them may be the last
abbrev pub EndsWell : List Piece → Type 0
EndsWell [] = ⊥
EndsWell (p ∷ []) = p.ends ≡ true
EndsWell (p ∷ q ∷ ps) = EndsWell (q ∷ ps)

pub ends-more : (p : Piece) (ps : List Piece) → EndsWell ps → EndsWell (p ∷ ps)
ends-more p [] ends = absurd ends
ends-more p (q ∷ ps) ends = ends

-- so a unit that the text ends with may be its last
pub ends : (t : Layout) (x : ℕ) (ps : List Piece) (a : ℕ) → Chain t x ps → EndsWell ps → Among a ps → a + unit_len t (unit_at t a) ≡ text_end t → may_end t (unit_at t a) ≡ true
ends t x [] a chain well there last = absurd there
ends t x (p ∷ []) a chain well (inl same) last = ap (λ (y : ℕ). may_end t (unit_at t y)) (sym same) ∙ chain.1.ends ∙ well
ends t x (p ∷ []) a chain well (inr later) last = absurd later
ends t x (p ∷ q ∷ ps) a chain well (inl same) last =
    let len : unit_len t (unit_at t a) ≡ p.len = ap (λ (y : ℕ). unit_len t (unit_at t y)) (sym same) ∙ chain.1.len in
    let here : p.at ≡ x = chain.0 in
    let long : 0 < q.len = chain.2.1.long in
    let rest = chain-end t (x + p.len + q.len) ps chain.2.2 in
    absurd (omega (arith, len, same, here, long, rest, last))
ends t x (p ∷ q ∷ ps) a chain well (inr later) last = ends t (x + p.len) (q ∷ ps) a chain.2 well later last
