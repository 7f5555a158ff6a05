-- What the fields of a text that keeps all writes stand for.
use Rattle.std.proofs.Common.{◌≡◌, ◌≢◌, ◌≤◌, ◌<◌, ◌+◌, ◌-◌, ◌==◌, if◌then◌else◌, ℕ, zero, suc, Bool, List, [], ◌∷◌, ◌++◌, length, map, take, drop, replicate, get_or, sym, ap, subst, ◌∙◌, inl, inr, arith, length-append, length-drop}
use Rattle.std.specs.Prelude.{slice_get, slice_index, slice_set, unwrap_or, None, IsTrue, ◌↔◌}
use Rattle.std.specs.List.{Contains}
use Rattle.std.proofs.lemmas.Bool.{eq-eqb, ne_eqb, cases_eq, le-ltb}
use Rattle.std.proofs.lemmas.List.{get_or-set_same, get_or-set_other, get_or_default, length-map, map-append, take_all}
use Rattle.std.specs.List.{take-map, drop-map}
use Rattle.std.proofs.lemmas.Option.{unwrap_or-slice_get}
use Rattle.insn_forms.specs.Write.{Write}
use Rattle.insn_forms.specs.History.{Memory, text_memory, written, byte, since}
use Rattle.stale_fetch.specs.declared.log.ByteWrite.{ByteWrite}
use Rattle.stale_fetch.specs.Gathered.{byte_after, gathered, bytes_at, has}
use Rattle.stale_fetch.specs.LogInside.{write_of}
use Rattle.stale_fetch.specs.Since.{written-is, byte_after-append, since-is, has-contained, contained-has}

-- a byte of a text by its place
pub memory_at : (base : ℕ) (text : List ℕ) (k : ℕ) → text_memory base text (base + k) ≡ slice_index text k
memory_at base text k =
    let e : base + k - base ≡ k = omega arith in
    ap (λ b. unwrap_or (if b then None else slice_get text (base + k - base)) 0) (le-ltb (base + k) base (omega arith))
    ∙ ap (λ n. unwrap_or (slice_get text n) 0) e
    ∙ unwrap_or-slice_get text k 0

-- a byte after one write more
pub written-push : (writes : List Write) (w : Write) (m : Memory) (at : ℕ) → written (writes ++ w ∷ []) m at ≡ (if w.at == at then w.byte else written writes m at)
written-push writes w m at =
    written-is (writes ++ w ∷ []) m at
    ∙ byte_after-append (m at) writes (w ∷ []) at
    ∙ ap (λ v. if w.at == at then w.byte else v) (sym (written-is writes m at))

-- before all writes a text holds what it began with
pub held-none : (base : ℕ) (text start held : List ℕ) (writes : List ByteWrite) → start ≡ text → held ≡ text → writes ≡ [] → (k : ℕ) → k < length start → slice_index held k ≡ written (map write_of writes) (text_memory base start) (base + k)
held-none base text start held writes s h w k below =
    ap (λ xs. slice_index xs k) (h ∙ sym s)
    ∙ sym (memory_at base start k)
    ∙ ap (λ (ws : List ByteWrite). written (map write_of ws) (text_memory base start) (base + k)) (sym w)

-- after one more write a text holds its byte, and else what it held
pub held-push : (base : ℕ) (start held : List ℕ) (writes more : List ByteWrite) (w : ByteWrite) → more ≡ writes ++ w ∷ [] → base ≤ w.at → w.at < base + length start → length held ≡ length start → ((k : ℕ) → k < length start → slice_index held k ≡ written (map write_of writes) (text_memory base start) (base + k)) → (k : ℕ) → k < length start → slice_index (slice_set held (w.at - base) w.byte) k ≡ written (map write_of more) (text_memory base start) (base + k)
held-push base start held writes more w e from below whole known k inside =
    here
    ∙ sym (written-push (map write_of writes) (write_of w) (text_memory base start) (base + k))
    ∙ ap (λ ws. written ws (text_memory base start) (base + k)) (sym (map-append write_of writes (w ∷ [])))
    ∙ ap (λ (ws : List ByteWrite). written (map write_of ws) (text_memory base start) (base + k)) (sym e)
  where
    here : slice_index (slice_set held (w.at - base) w.byte) k ≡ (if w.at == base + k then w.byte else written (map write_of writes) (text_memory base start) (base + k))
    here =
        elim (cases_eq w.at (base + k)) [
          | inl same ↦
              let place : w.at - base ≡ k = omega arith in
              ap (λ n. slice_index (slice_set held n w.byte) k) place
              ∙ get_or-set_same held k w.byte 0 (omega arith)
              ∙ ap (λ b. if b then w.byte else written (map write_of writes) (text_memory base start) (base + k)) (sym (eq-eqb _ _ same))
          | inr other ↦
              let apart : k ≢ w.at - base = λ f. other (omega arith) in
              get_or-set_other held (w.at - base) k w.byte 0 apart
              ∙ known k inside
              ∙ ap (λ b. if b then w.byte else written (map write_of writes) (text_memory base start) (base + k)) (sym (ne_eqb _ _ other))
        ]

-- a number that was read
pub was_read : (xs : List ℕ) (place k n : ℕ) → k < length xs → place ≡ k → n ≡ get_or xs place n → n ≡ slice_index xs k
was_read xs place k n inside e h = h ∙ ap (λ i. get_or xs i n) e ∙ get_or_default xs k n 0 inside

-- the candidates, from what the code reads
pub values_of : (base mark at read first : ℕ) (start : List ℕ) (writes before later : List ByteWrite) (values : List ℕ) → mark ≤ length writes → base ≤ at → read ≡ slice_index start (at - base) → before ≡ take mark writes → later ≡ drop mark writes → first ≡ byte_after read (map write_of before) at → values ≡ gathered (first ∷ []) (bytes_at (map write_of later) at) → values ≡ since (text_memory base start) (map write_of writes) mark at
values_of base mark at read first start writes before later values le from r b l f v =
    v
    ∙ ap (λ x. gathered (x ∷ []) (bytes_at (map write_of later) at)) (f ∙ byte-is)
    ∙ ap (λ ws. gathered (byte (text_memory base start) (map write_of writes) mark at ∷ []) (bytes_at ws at)) (ap (map write_of) l ∙ sym (drop-map write_of mark writes))
    ∙ sym (since-is (text_memory base start) (map write_of writes) mark at (subst (λ n. mark ≤ n) (sym (length-map writes write_of)) le))
  where
    byte-is : byte_after read (map write_of before) at ≡ byte (text_memory base start) (map write_of writes) mark at
    byte-is =
        let e : base + (at - base) ≡ at = omega arith in
        ap (λ v. byte_after v (map write_of before) at) (r ∙ sym (memory_at base start (at - base)) ∙ ap (text_memory base start) e)
        ∙ ap (λ ws. byte_after (text_memory base start at) ws at) (ap (map write_of) b ∙ sym (take-map write_of mark writes))
        ∙ sym (written-is (take mark (map write_of writes)) (text_memory base start) at)

-- a list of zeros
pub zeros : (n k : ℕ) → slice_index (replicate n 0) k ≤ 0
zeros zero k = omega arith
zeros (suc n) zero = omega arith
zeros (suc n) (suc k) = zeros n k

-- no processor has a mark yet
pub marks-none : (marks : List ℕ) (cpus : ℕ) → marks ≡ replicate cpus 0 → (cpu : ℕ) → slice_index marks cpu ≤ 0
marks-none marks cpus e cpu = subst (λ xs. slice_index xs cpu ≤ 0) (sym e) (zeros cpus cpu)

-- what a list holds, from what a search in it answers
pub allowed : (now xs ys : List ℕ) (byte : ℕ) (found : Bool) → now ≡ xs → xs ≡ ys → found ≡ has now byte → (IsTrue found ↔ Contains ys byte)
allowed now xs ys byte found e f h =
    let same : found ≡ has ys byte = h ∙ ap (λ zs. has zs byte) (e ∙ f) in
    ((λ t. contained-has ys byte (sym same ∙ t)), (λ here. same ∙ has-contained ys byte here))

-- a mark stays before what is written
pub marks-push : (marks : List ℕ) (writes more : List ByteWrite) (w : ByteWrite) → more ≡ writes ++ w ∷ [] → ((cpu : ℕ) → slice_index marks cpu ≤ length writes) → (cpu : ℕ) → slice_index marks cpu ≤ length more
marks-push marks writes more w e known cpu =
    let k = known cpu in
    let grown : length more ≡ length writes + 1 = ap (λ (ws : List ByteWrite). length ws) e ∙ length-append writes (w ∷ []) in
    omega arith

-- what is left of a list from a place on
pub take_rest : (now xs : List ByteWrite) (n k : ℕ) → now ≡ xs → n ≡ k → take (length now - n) (drop n now) ≡ drop k xs
take_rest now xs n k e f =
    take_all (length now - n) (drop n now) (let l = length-drop n now in omega arith)
    ∙ ap (drop n) e ∙ ap (λ i. drop i xs) f
