-- What some writes do to the byte at an address, and which values it has had since a number of them.
--
-- For the laws:
--   Has xs x                   x is an element of xs; has_from, has_contains lead from `Contains` and back
--   written_append             written (writes ++ more) m ≡ written more (written writes m)
--   byte_pushed                n ≤ length writes → byte start (writes ++ more) n at ≡ byte start writes n at
--   byte_last                  length writes ≤ n → byte start writes n at ≡ written writes start at
--   candidate_last             IsCandidate start writes mark at value → length writes ≤ mark → value ≡ written writes start at
--   candidate_now              mark ≤ length writes → IsCandidate start writes mark at (written writes start at)
use Rattle.std.proofs.Common.{◌≡◌, ◌≢◌, ◌⊎◌, inl, inr, ℕ, zero, suc, ◌+◌, ◌-◌, ◌<◌, ◌≤◌, ◌==◌, Bool, true, false, if◌then◌else◌, List, [], ◌∷◌, ◌++◌, length, take, drop, refl, ap, sym, ◌∙◌, arith}
use Rattle.std.specs.List.{Contains}
use Rattle.std.proofs.Math.Seq.{take-append-add}
use Rattle.std.proofs.lemmas.Bool.Decides.{Decides-eqb}
use Rattle.std.proofs.lemmas.List.{take-append-le, take_all, take-take, take-append-drop}
use Rattle.insn_forms.specs.Write.{Write}
use Rattle.insn_forms.specs.History.{Memory, put, written, byte, IsCandidate}

-- a list holds an element
abbrev pub Has : {A : Type 0} → List A → A → Type 0
Has [] x = ⊥
Has (y ∷ ys) x = (y ≡ x) ⊎ Has ys x

-- the same as std says it, and back
pub has_from : {A : Type 0} (xs : List A) (x : A) → Contains xs x → Has xs x
has_from [] x (k, below, is) = absurd (omega arith)
has_from (y ∷ ys) x (zero, below, is) = inl is
has_from (y ∷ ys) x (suc k, below, is) = inr (has_from ys x (k, omega arith, is))

pub has_contains : {A : Type 0} (xs : List A) (x : A) → Has xs x → Contains xs x
has_contains [] x h = elim h [ ]
has_contains (y ∷ ys) x (inl is) = (0, omega arith, is)
has_contains (y ∷ ys) x (inr later) =
    let c : Contains ys x = has_contains ys x later in
    let below : c.0 < length ys = c.1 in
    (suc c.0, omega arith, c.2)

-- the elements of two lists, and of a part of one
pub has_left : {A : Type 0} (xs ys : List A) (x : A) → Has xs x → Has (xs ++ ys) x
has_left [] ys x h = elim h [ ]
has_left (y ∷ xs) ys x (inl is) = inl is
has_left (y ∷ xs) ys x (inr later) = inr (has_left xs ys x later)

pub has_right : {A : Type 0} (xs ys : List A) (x : A) → Has ys x → Has (xs ++ ys) x
has_right [] ys x h = h
has_right (y ∷ xs) ys x h = inr (has_right xs ys x h)

pub has_cases : {A : Type 0} (xs ys : List A) (x : A) → Has (xs ++ ys) x → Has xs x ⊎ Has ys x
has_cases [] ys x h = inr h
has_cases (y ∷ xs) ys x (inl is) = inl (inl is)
has_cases (y ∷ xs) ys x (inr later) =
    elim (has_cases xs ys x later) [ inl h ↦ inl (inr h) | inr h ↦ inr h ]

pub has_take : {A : Type 0} (n : ℕ) (xs : List A) (x : A) → Has (take n xs) x → Has xs x
has_take zero xs x h = elim h [ ]
has_take (suc n) [] x h = h
has_take (suc n) (y ∷ xs) x (inl is) = inl is
has_take (suc n) (y ∷ xs) x (inr later) = inr (has_take n xs x later)

pub has_drop : {A : Type 0} (n : ℕ) (xs : List A) (x : A) → Has (drop n xs) x → Has xs x
has_drop zero xs x h = h
has_drop (suc n) [] x h = h
has_drop (suc n) (y ∷ xs) x h = inr (has_drop n xs x h)

-- one write
pub put_there : (w : Write) (m : Memory) (at : ℕ) → w.at ≡ at → put w m at ≡ w.byte
put_there w m at is = ap (λ (b : Bool). if b then w.byte else m at) ((Decides-eqb w.at at).1 is)

-- and elsewhere
pub put_elsewhere : (w : Write) (m : Memory) (at : ℕ) → w.at ≢ at → put w m at ≡ m at
put_elsewhere w m at other = go (w.at == at) refl
  where
    go : (b : Bool) → (w.at == at) ≡ b → (if b then w.byte else m at) ≡ m at
    go true is = absurd (other ((Decides-eqb w.at at).0 is))
    go false is = refl

-- the byte is what the write puts there, or what it was
pub put_cases : (w : Write) (m : Memory) (at : ℕ) → ((w.at ≡ at) × (put w m at ≡ w.byte)) ⊎ (put w m at ≡ m at)
put_cases w m at = go (w.at == at) refl
  where
    go : (b : Bool) → (w.at == at) ≡ b → ((w.at ≡ at) × ((if b then w.byte else m at) ≡ w.byte)) ⊎ ((if b then w.byte else m at) ≡ m at)
    go true is = inl ((Decides-eqb w.at at).0 is, refl)
    go false is = inr refl

-- some writes, and then others
pub written_append : (writes more : List Write) (m : Memory) → written (writes ++ more) m ≡ written more (written writes m)
written_append [] more m = refl
written_append (w ∷ writes) more m = written_append writes more (put w m)

-- each write to an address puts this value there
abbrev pub Puts : List Write → ℕ → ℕ → Type 0
Puts writes at value = (w : Write) → Has writes w → w.at ≡ at → w.byte ≡ value

-- so the byte stays what it is, or has that value
pub written_between : (writes : List Write) (m : Memory) (at value : ℕ) → Puts writes at value → (written writes m at ≡ m at) ⊎ (written writes m at ≡ value)
written_between [] m at value puts = inl refl
written_between (w ∷ writes) m at value puts =
    elim (written_between writes (put w m) at value (λ v has is. puts v (inr has) is)) [
      | inl same ↦ elim (put_cases w m at) [
        | inl here ↦ inr (same ∙ here.1 ∙ puts w (inl refl) here.0)
        | inr kept ↦ inl (same ∙ kept)
      ]
      | inr is ↦ inr is
    ]

-- it stays what it is, where no write is to it
pub written_misses : (writes : List Write) (m : Memory) (at : ℕ) → ((w : Write) → Has writes w → w.at ≢ at) → written writes m at ≡ m at
written_misses [] m at none = refl
written_misses (w ∷ writes) m at none =
    written_misses writes (put w m) at (λ v has. none v (inr has)) ∙ put_elsewhere w m at (none w (inl refl))

-- it keeps the value, where it has it already
pub written_keeps : (writes : List Write) (m : Memory) (at value : ℕ) → Puts writes at value → m at ≡ value → written writes m at ≡ value
written_keeps writes m at value puts is =
    elim (written_between writes m at value puts) [ inl same ↦ same ∙ is | inr there ↦ there ]

-- it has the value, where one write is to it
pub written_does : (writes : List Write) (m : Memory) (at value : ℕ) → Puts writes at value → (w : Write) → Has writes w → w.at ≡ at → written writes m at ≡ value
written_does [] m at value puts w h there = elim h [ ]
written_does (v ∷ writes) m at value puts w (inl is) there =
    let first : v.at ≡ at = ap (λ (x : Write). x.at) is ∙ there in
    written_keeps writes (put v m) at value (λ x has same. puts x (inr has) same)
    (put_there v m at first ∙ puts v (inl refl) first)
written_does (v ∷ writes) m at value puts w (inr later) there =
    written_does writes (put v m) at value (λ x has same. puts x (inr has) same) w later there

-- the byte after n of some writes and others, where n are not before the others
pub byte_since : (start : Memory) (past done : List Write) (n at : ℕ) → length past ≤ n → byte start (past ++ done) n at ≡ written (take (n - length past) done) (written past start) at
byte_since start past done n at le =
    let same : length past + (n - length past) ≡ n = omega arith in
    ap (λ (k : ℕ). written (take k (past ++ done)) start at) (sym same)
    ∙ ap (λ (ws : List Write). written ws start at) (take-append-add past done (n - length past))
    ∙ ap (λ (m : Memory). m at) (written_append past (take (n - length past) done) start)

-- the byte after m of some writes, from that after n of them on
pub byte_later : (start : Memory) (writes : List Write) (n m at : ℕ) → n ≤ m → byte start writes m at ≡ written (drop n (take m writes)) (written (take n writes) start) at
byte_later start writes n m at le =
    let whole : take n writes ++ drop n (take m writes) ≡ take m writes = ap (λ (ws : List Write). ws ++ drop n (take m writes)) (sym (take-take n m writes le)) ∙ take-append-drop n (take m writes) in
    ap (λ (ws : List Write). written ws start at) (sym whole)
    ∙ ap (λ (l : Memory). l at) (written_append (take n writes) (drop n (take m writes)) start)

-- the byte after n of some writes is the same with more writes after them
pub byte_pushed : (start : Memory) (writes more : List Write) (n at : ℕ) → n ≤ length writes → byte start (writes ++ more) n at ≡ byte start writes n at
byte_pushed start writes more n at le = ap (λ (ws : List Write). written ws start at) (take-append-le n writes more le)

-- after all writes
pub byte_last : (start : Memory) (writes : List Write) (n at : ℕ) → length writes ≤ n → byte start writes n at ≡ written writes start at
byte_last start writes n at le = ap (λ (ws : List Write). written ws start at) (take_all n writes le)

-- of a mark that is all writes the one candidate is the byte that is there
pub candidate_last : (start : Memory) (writes : List Write) (mark at value : ℕ) → IsCandidate start writes mark at value → length writes ≤ mark → value ≡ written writes start at
candidate_last start writes mark at value c le =
    let from : mark ≤ c.after = c.from in
    sym c.had ∙ byte_last start writes c.after at (omega arith)

-- what is there is a candidate of each mark
pub candidate_now : (start : Memory) (writes : List Write) (mark at : ℕ) → mark ≤ length writes → IsCandidate start writes mark at (written writes start at)
candidate_now start writes mark at le = record {
  after = length writes;
  from = le;
  to = omega arith;
  had = byte_last start writes (length writes) at (omega arith);
}
