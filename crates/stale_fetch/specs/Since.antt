-- The values that a byte has had since a number of writes: which they are, and what one more write adds.
use Rattle.std.proofs.Common.{◌≡◌, ◌≤◌, ◌<◌, ◌+◌, ◌-◌, ◌==◌, ◌||◌, if◌then◌else◌, ℕ, zero, suc, Bool, true, false, List, [], ◌∷◌, ◌++◌, length, map, take, drop, refl, sym, ap, subst, ◌∙◌, arith, append-nil, append_assoc, add-one, length-append}
use Rattle.std.specs.List.{list_any, range_with_len, Contains, IsDistinct}
use Rattle.std.proofs.lemmas.Bool.{eqb-true, eq-eqb, or_left}
use Rattle.std.proofs.lemmas.Cmp.{nat_eq_equiv}
use Rattle.std.proofs.lemmas.List.{take-append-drop, take-append-le, drop-append-le}
use Rattle.std.proofs.Math.Seq.{take-length}
use Rattle.std.proofs.Math.ListN.{drop_of_length-le}
use Rattle.std.proofs.lemmas.List.Folds.{list_any_at}
use Rattle.std.proofs.lemmas.List.FromFn.{get_or-map-range_with_len, length-map-range_with_len}
use Rattle.std.proofs.lemmas.Map.Views.{Contains-from_any}
use Rattle.std.proofs.lemmas.Map.Keys.{IsDistinct-push}
use Rattle.insn_forms.specs.Write.{Write}
use Rattle.insn_forms.specs.History.{Memory, IsCandidate, put, written, byte, without, since}
use Rattle.stale_fetch.specs.Gathered.{has, added, gathered, byte_after, bytes_at}
use Rattle.stale_fetch.specs.Laws.{CandidatesAreValues}

-- ---- adding values to a list

-- a list with a value has the values of both
has-push : (xs : List ℕ) (x v : ℕ) → has (xs ++ x ∷ []) v ≡ has (x ∷ xs) v
has-push [] x v = refl
has-push (y ∷ xs) x v =
    ap (λ b. (y == v) || b) (has-push xs x v) ∙ swap (y == v) (x == v) (has xs v)
  where
    swap : (a b c : Bool) → (a || (b || c)) ≡ (b || (a || c))
    swap true true c = refl
    swap true false c = refl
    swap false b c = refl

-- a list with a value added has the value, and what it had
pub has-added : (xs : List ℕ) (x v : ℕ) → has (added xs x) v ≡ has (x ∷ xs) v
has-added xs x v = go (has xs x) refl
  where
    same : has xs x ≡ true → (b : Bool) → (x == v) ≡ b → has xs v ≡ (b || has xs v)
    same here true e = subst (λ (u : ℕ). has xs u ≡ true) (eqb-true x v e) here
    same here false e = refl

    go : (b : Bool) → has xs x ≡ b → has (if b then xs else xs ++ x ∷ []) v ≡ has (x ∷ xs) v
    go true e = same e (x == v) refl
    go false e = has-push xs x v

-- what is added to a list that has the same values and a value more is listed once
pub gathered-without : (seen found xs : List ℕ) → ((v : ℕ) → has found v ≡ has seen v) → gathered found xs ≡ found ++ without seen xs
gathered-without seen found [] same = sym (append-nil found)
gathered-without seen found (x ∷ xs) same =
    go (gathered-without seen found xs same) (gathered-without (x ∷ seen) (found ++ x ∷ []) xs (λ v. has-push found x v ∙ ap (λ b. (x == v) || b) (same v))) (has seen x) refl
  where
    go : gathered found xs ≡ found ++ without seen xs → gathered (found ++ x ∷ []) xs ≡ (found ++ x ∷ []) ++ without (x ∷ seen) xs → (b : Bool) → has seen x ≡ b → gathered (added found x) xs ≡ found ++ (if b then without seen xs else x ∷ without (x ∷ seen) xs)
    go known fresh true e = ap (λ b. gathered (if b then found else found ++ x ∷ []) xs) (same x ∙ e) ∙ known
    go known fresh false e =
        ap (λ b. gathered (if b then found else found ++ x ∷ []) xs) (same x ∙ e)
        ∙ fresh ∙ append_assoc found (x ∷ []) (without (x ∷ seen) xs)

-- one after the other
pub gathered-append : (found xs ys : List ℕ) → gathered found (xs ++ ys) ≡ gathered (gathered found xs) ys
gathered-append found [] ys = refl
gathered-append found (x ∷ xs) ys = gathered-append (added found x) xs ys

-- what was found and what is added
pub has-gathered : (found xs : List ℕ) (v : ℕ) → has (gathered found xs) v ≡ (has found v || has xs v)
has-gathered found [] v = or-false (has found v)
  where
    or-false : (b : Bool) → b ≡ (b || false)
    or-false true = refl
    or-false false = refl
has-gathered found (x ∷ xs) v =
    has-gathered (added found x) xs v
    ∙ ap (λ b. b || has xs v) (has-added found x v) ∙ swap (x == v) (has found v) (has xs v)
  where
    swap : (a b c : Bool) → ((a || b) || c) ≡ (b || (a || c))
    swap true true c = refl
    swap true false c = refl
    swap false b c = refl

-- both ways of a test of numbers
pub has-flips : (xs : List ℕ) (v : ℕ) → list_any (λ other. v == other) xs ≡ has xs v
has-flips [] v = refl
has-flips (x ∷ xs) v =
    ap (λ b. b || list_any (λ other. v == other) xs) (nat_eq_equiv.symm v x) ∙ ap (λ b. (x == v) || b) (has-flips xs v)

-- no value is added twice
pub added-distinct : (found : List ℕ) (x : ℕ) → IsDistinct (λ x y. x == y) found → IsDistinct (λ x y. x == y) (added found x)
added-distinct found x distinct = go (has found x) refl
  where
    go : (b : Bool) → has found x ≡ b → IsDistinct (λ x y. x == y) (if b then found else found ++ x ∷ [])
    go true e = distinct
    go false e = IsDistinct-push nat_eq_equiv found x distinct (has-flips found x ∙ e)

pub gathered-distinct : (found xs : List ℕ) → IsDistinct (λ x y. x == y) found → IsDistinct (λ x y. x == y) (gathered found xs)
gathered-distinct found [] distinct = distinct
gathered-distinct found (x ∷ xs) distinct = gathered-distinct (added found x) xs (added-distinct found x distinct)

-- a value that is in a list, and back
pub has-contained : (xs : List ℕ) (v : ℕ) → Contains xs v → has xs v ≡ true
has-contained xs v h = list_any_at (λ other. other == v) xs h.0 v h.1 (eq-eqb _ _ h.2)

pub contained-has : (xs : List ℕ) (v : ℕ) → has xs v ≡ true → Contains xs v
contained-has xs v h = Contains-from_any {eq = λ q other. other == q} (λ x y e. sym (eqb-true y x e)) v xs h

-- ---- the values of a byte

-- those that a byte has after each of some writes
abbrev pub later : ℕ → List Write → ℕ → List ℕ
later value [] at = []
later value (w ∷ writes) at =
    (if w.at == at then w.byte else value) ∷ later (if w.at == at then w.byte else value) writes at

-- a byte after some writes
pub written-is : (writes : List Write) (m : Memory) (at : ℕ) → written writes m at ≡ byte_after (m at) writes at
written-is [] m at = refl
written-is (w ∷ writes) m at = written-is writes (put w m) at

pub byte_after-append : (value : ℕ) (writes more : List Write) (at : ℕ) → byte_after value (writes ++ more) at ≡ byte_after (byte_after value writes at) more at
byte_after-append value [] more at = refl
byte_after-append value (w ∷ writes) more at = byte_after-append (if w.at == at then w.byte else value) writes more at

map-shift : (f : ℕ → ℕ) (a n : ℕ) → map f (range_with_len (a + 1) n) ≡ map (λ k. f (suc k)) (range_with_len a n)
map-shift f a zero = refl
map-shift f a (suc n) = ap (λ k. f k ∷ map f (range_with_len (a + 1 + 1) n)) (add-one a) ∙ ap (λ xs. f (suc a) ∷ xs) (map-shift f (a + 1) n)

values-start : (start : Memory) (writes : List Write) (at : ℕ) → map (λ n. byte start writes n at) (range_with_len 0 (length writes + 1)) ≡ start at ∷ later (start at) writes at
values-start start [] at = refl
values-start start (w ∷ writes) at =
    let e : suc (length writes) + 1 ≡ suc (length writes + 1) = omega arith in
    ap (λ k. map (λ n. byte start (w ∷ writes) n at) (range_with_len 0 k)) e
    ∙ ap (λ xs. start at ∷ xs) (map-shift (λ n. byte start (w ∷ writes) n at) 0 (length writes + 1))
    ∙ ap (λ xs. start at ∷ xs) (values-start (put w start) writes at)

-- the values since a mark are the one at the mark and those after each later write
pub values-from : (start : Memory) (writes : List Write) (mark at : ℕ) → mark ≤ length writes → map (λ n. byte start writes n at) (range_with_len mark (length writes + 1 - mark)) ≡ byte start writes mark at ∷ later (byte start writes mark at) (drop mark writes) at
values-from start writes zero at le =
    let e : length writes + 1 - 0 ≡ length writes + 1 = omega arith in
    ap (λ k. map (λ n. byte start writes n at) (range_with_len 0 k)) e ∙ values-start start writes at
values-from start [] (suc mark) at le = absurd (omega arith)
values-from start (w ∷ writes) (suc mark) at le =
    let e : suc (length writes) + 1 - suc mark ≡ length writes + 1 - mark = omega arith in
    ap (λ k. map (λ n. byte start (w ∷ writes) n at) (range_with_len (suc mark) k)) e
    ∙ ap (λ a. map (λ n. byte start (w ∷ writes) n at) (range_with_len a (length writes + 1 - mark))) (sym (add-one mark))
    ∙ map-shift (λ n. byte start (w ∷ writes) n at) mark (length writes + 1 - mark)
    ∙ values-from (put w start) writes mark at (omega arith)

-- where the value that the byte has is there, only the bytes that are written at the address are added
gathered-later : (found : List ℕ) (value : ℕ) (writes : List Write) (at : ℕ) → has found value ≡ true → gathered found (later value writes at) ≡ gathered found (bytes_at writes at)
gathered-later found value [] at here = refl
gathered-later found value (w ∷ writes) at here = go (λ f v h. gathered-later f v writes at h) (w.at == at)
  where
    go : ((f : List ℕ) (v : ℕ) → has f v ≡ true → gathered f (later v writes at) ≡ gathered f (bytes_at writes at)) → (b : Bool) → gathered (added found (if b then w.byte else value)) (later (if b then w.byte else value) writes at) ≡ gathered found (if b then w.byte ∷ bytes_at writes at else bytes_at writes at)
    go rest true =
        rest (added found w.byte) w.byte
        (has-added found w.byte w.byte ∙ or_left (w.byte == w.byte) (has found w.byte) (eq-eqb _ _ refl))
    go rest false =
        ap (λ b. gathered (if b then found else found ++ value ∷ []) (later value writes at)) here ∙ rest found value here

-- the values since a mark: the one at the mark, and the bytes that are written at the address later
pub since-is : (start : Memory) (writes : List Write) (mark at : ℕ) → mark ≤ length writes → since start writes mark at ≡ gathered (byte start writes mark at ∷ []) (bytes_at (drop mark writes) at)
since-is start writes mark at le =
    let value : ℕ = byte start writes mark at in
    sym (gathered-without [] [] (map (λ n. byte start writes n at) (range_with_len mark (length writes + 1 - mark))) (λ v. refl))
    ∙ ap (gathered []) (values-from start writes mark at le)
    ∙ gathered-later (value ∷ []) value (drop mark writes) at (or_left (value == value) false (eq-eqb _ _ refl))

-- ---- one more write

-- the byte after all writes is the one at the mark after the later ones
pub now-from : (start : Memory) (writes : List Write) (mark at : ℕ) → byte start writes (length writes) at ≡ byte_after (byte start writes mark at) (drop mark writes) at
now-from start writes mark at =
    ap (λ ws. written ws start at) (take-length writes)
    ∙ written-is writes start at
    ∙ ap (λ ws. byte_after (start at) ws at) (sym (take-append-drop mark writes))
    ∙ byte_after-append (start at) (take mark writes) (drop mark writes) at
    ∙ ap (λ v. byte_after v (drop mark writes) at) (sym (written-is (take mark writes) start at))

-- the byte after some writes is among the values that were gathered
has-after : (found : List ℕ) (value : ℕ) (writes : List Write) (at : ℕ) → has found value ≡ true → has (gathered found (bytes_at writes at)) (byte_after value writes at) ≡ true
has-after found value [] at here = here
has-after found value (w ∷ writes) at here = go (λ f v h. has-after f v writes at h) (w.at == at)
  where
    go : ((f : List ℕ) (v : ℕ) → has f v ≡ true → has (gathered f (bytes_at writes at)) (byte_after v writes at) ≡ true) → (b : Bool) → has (gathered found (if b then w.byte ∷ bytes_at writes at else bytes_at writes at)) (byte_after (if b then w.byte else value) writes at) ≡ true
    go rest true =
        rest (added found w.byte) w.byte
        (has-added found w.byte w.byte ∙ or_left (w.byte == w.byte) (has found w.byte) (eq-eqb _ _ refl))
    go rest false = rest found value here

-- the value that the byte has now is always listed
pub has-now : (start : Memory) (writes : List Write) (mark at : ℕ) → mark ≤ length writes → has (since start writes mark at) (byte start writes (length writes) at) ≡ true
has-now start writes mark at le =
    let value : ℕ = byte start writes mark at in
    ap (λ xs. has xs (byte start writes (length writes) at)) (since-is start writes mark at le)
    ∙ ap (has (gathered (value ∷ []) (bytes_at (drop mark writes) at))) (now-from start writes mark at)
    ∙ has-after (value ∷ []) value (drop mark writes) at (or_left (value == value) false (eq-eqb _ _ refl))

-- the bytes that are written at an address
bytes_at-append : (writes more : List Write) (at : ℕ) → bytes_at (writes ++ more) at ≡ bytes_at writes at ++ bytes_at more at
bytes_at-append [] more at = refl
bytes_at-append (w ∷ writes) more at = go (w.at == at) (bytes_at-append writes more at)
  where
    go : (b : Bool) → bytes_at (writes ++ more) at ≡ bytes_at writes at ++ bytes_at more at → (if b then w.byte ∷ bytes_at (writes ++ more) at else bytes_at (writes ++ more) at) ≡ (if b then w.byte ∷ bytes_at writes at else bytes_at writes at) ++ bytes_at more at
    go true rest = ap (λ xs. w.byte ∷ xs) rest
    go false rest = rest

-- the byte after a number of writes doesn't change with a further write
pub byte-before : (start : Memory) (writes : List Write) (w : Write) (n at : ℕ) → n ≤ length writes → byte start (writes ++ w ∷ []) n at ≡ byte start writes n at
byte-before start writes w n at le = ap (λ ws. written ws start at) (take-append-le n writes (w ∷ []) le)

-- after one more write the byte is what was written, or what it was
pub now-write : (start : Memory) (writes : List Write) (w : Write) (at : ℕ) → byte start (writes ++ w ∷ []) (length writes + 1) at ≡ (if w.at == at then w.byte else byte start writes (length writes) at)
now-write start writes w at =
    let e : length writes + 1 ≡ length (writes ++ w ∷ []) = sym (length-append writes (w ∷ [])) in
    ap (λ n. byte start (writes ++ w ∷ []) n at) e
    ∙ ap (λ ws. written ws start at) (take-length (writes ++ w ∷ []))
    ∙ written-is (writes ++ w ∷ []) start at
    ∙ byte_after-append (start at) writes (w ∷ []) at
    ∙ ap (λ v. if w.at == at then w.byte else v) (sym (written-is writes start at) ∙ ap (λ ws. written ws start at) (sym (take-length writes)))

-- one more write adds its byte to the values at its address, and nothing to others
pub since-write : (start : Memory) (writes : List Write) (w : Write) (mark at : ℕ) → mark ≤ length writes → since start (writes ++ w ∷ []) mark at ≡ (if w.at == at then added (since start writes mark at) w.byte else since start writes mark at)
since-write start writes w mark at le =
    let value : ℕ = byte start writes mark at in
    since-is start (writes ++ w ∷ []) mark at (let e = length-append writes (w ∷ []) in omega arith)
    ∙ ap (λ v. gathered (v ∷ []) (bytes_at (drop mark (writes ++ w ∷ [])) at)) (byte-before start writes w mark at le)
    ∙ ap (λ ws. gathered (value ∷ []) (bytes_at ws at)) (drop-append-le mark writes (w ∷ []) le)
    ∙ ap (gathered (value ∷ [])) (bytes_at-append (drop mark writes) (w ∷ []) at)
    ∙ gathered-append (value ∷ []) (bytes_at (drop mark writes) at) (bytes_at (w ∷ []) at)
    ∙ ap (λ found. gathered found (bytes_at (w ∷ []) at)) (sym (since-is start writes mark at le))
    ∙ go (w.at == at)
  where
    go : (b : Bool) → gathered (since start writes mark at) (if b then w.byte ∷ [] else []) ≡ (if b then added (since start writes mark at) w.byte else since start writes mark at)
    go true = refl
    go false = refl

-- one more write adds the value that the byte has then, unless it is there
pub since_push : (start : Memory) (writes : List Write) (w : Write) (mark at : ℕ) → mark ≤ length writes → since start (writes ++ w ∷ []) mark at ≡ added (since start writes mark at) (byte start (writes ++ w ∷ []) (length writes + 1) at)
since_push start writes w mark at le =
    since-write start writes w mark at le
    ∙ go (w.at == at)
    ∙ ap (added (since start writes mark at)) (sym (now-write start writes w at))
  where
    go : (b : Bool) → (if b then added (since start writes mark at) w.byte else since start writes mark at) ≡ added (since start writes mark at) (if b then w.byte else byte start writes (length writes) at)
    go true = refl
    go false =
        sym (ap (λ b. if b then since start writes mark at else since start writes mark at ++ byte start writes (length writes) at ∷ []) (has-now start writes mark at le))

-- since all writes there is one value, which the byte has now
pub since-last : (start : Memory) (writes : List Write) (at : ℕ) → since start writes (length writes) at ≡ byte start writes (length writes) at ∷ []
since-last start writes at =
    since-is start writes (length writes) at (omega arith)
    ∙ ap (λ ws. gathered (byte start writes (length writes) at ∷ []) (bytes_at ws at)) (drop_of_length-le writes (omega arith))

-- ---- what is listed

-- no value is listed twice
pub each_once : (start : Memory) (writes : List Write) (mark at : ℕ) → IsDistinct (λ x y. x == y) (since start writes mark at)
unfolding IsDistinct
each_once start writes mark at =
    let values : List ℕ = map (λ n. byte start writes n at) (range_with_len mark (length writes + 1 - mark)) in
    subst (IsDistinct (λ x y. x == y)) (gathered-without [] [] values (λ v. refl)) (gathered-distinct [] values tt)

-- a value is listed where the byte had it
has-since : (start : Memory) (writes : List Write) (mark at v : ℕ) → has (since start writes mark at) v ≡ has (map (λ n. byte start writes n at) (range_with_len mark (length writes + 1 - mark))) v
has-since start writes mark at v =
    let values : List ℕ = map (λ n. byte start writes n at) (range_with_len mark (length writes + 1 - mark)) in
    ap (λ xs. has xs v) (sym (gathered-without [] [] values (λ v. refl))) ∙ has-gathered [] values v

-- what is listed is a candidate
pub candidate_in : (start : Memory) (writes : List Write) (mark at value : ℕ) → Contains (since start writes mark at) value → IsCandidate start writes mark at value
candidate_in start writes mark at value h =
    let f : ℕ → ℕ = λ n. byte start writes n at in
    let k : ℕ = length writes + 1 - mark in
    let c : Contains (map f (range_with_len mark k)) value = contained-has (map f (range_with_len mark k)) value (sym (has-since start writes mark at value) ∙ has-contained _ value h) in
    let within : c.0 < k = subst (λ n. c.0 < n) (length-map-range_with_len f mark k) c.1 in
    record {
      after = mark + c.0;
      from = omega arith;
      to = omega arith;
      had = sym (get_or-map-range_with_len f mark k c.0 (mark + c.0) value within refl) ∙ c.2;
    }

-- a candidate is listed
pub since_candidate : (start : Memory) (writes : List Write) (mark at value : ℕ) → IsCandidate start writes mark at value → Contains (since start writes mark at) value
since_candidate start writes mark at value h =
    let f : ℕ → ℕ = λ n. byte start writes n at in
    let k : ℕ = length writes + 1 - mark in
    let from = h.from in
    let to = h.to in
    let within : h.after - mark < k = omega arith in
    let c : Contains (map f (range_with_len mark k)) value =
    (h.after - mark, subst (λ n. h.after - mark < n) (sym (length-map-range_with_len f mark k)) within, get_or-map-range_with_len f mark k (h.after - mark) h.after value within (omega arith) ∙ h.had) in
    contained-has (since start writes mark at) value (has-since start writes mark at value ∙ has-contained _ value c)

pub candidates_are_values : CandidatesAreValues
candidates_are_values start writes mark at value le =
    (candidate_in start writes mark at value, since_candidate start writes mark at value)

-- there is always one
has-some : (xs : List ℕ) (v : ℕ) → has xs v ≡ true → 1 ≤ length xs
has-some [] v here = absurd (cc)
has-some (x ∷ xs) v here = omega arith

pub since-some : (start : Memory) (writes : List Write) (mark at : ℕ) → mark ≤ length writes → 1 ≤ length (since start writes mark at)
since-some start writes mark at le = has-some _ _ (has-now start writes mark at le)
