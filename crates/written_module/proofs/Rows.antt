-- A list that is read in pieces of one size, from its prefix on.
use Rattle.std.proofs.Common.{◌≡◌, ◌<◌, ◌≤◌, ◌+◌, ◌*◌, ◌/◌, ◌∙◌, ℕ, zero, suc, Bool, true, List, [], ◌∷◌, ◌++◌, length, map, drop, refl, sym, ap, subst, arith}
use Rattle.std.specs.List.{flat_map, range_with_len, list_all}
use Rattle.std.proofs.Math.Nat.{add-div_left, mul-add, mul-one, mul-zero, zero-div, add-zero}
use Rattle.std.proofs.Math.Numerals.{suc-eq-add-one}
use Rattle.std.proofs.lemmas.Bool.{and_parts}
use Rattle.std.proofs.lemmas.List.{length-append}
use Rattle.elf_build.specs.declared.plan.PlanSite.{PlanSite}
use Rattle.elf_build.specs.File.{table_from}
use Rattle.written_module.proofs.Fields.{drop-after}

-- values from an index on are those of the function that begins there
pub range-next : {A : Type 0} (f : ℕ → A) (m n : ℕ) → map f (range_with_len (n + 1) m) ≡ map (λ i. f (i + 1)) (range_with_len n m)
range-next f zero n = refl
range-next f (suc m) n = ap (λ (l : List _). f (n + 1) ∷ l) (range-next f m (n + 1))

-- one piece more in front
pub rows-more : {A : Type 0} (f : ℕ → A) (size : ℕ) (piece rest : List ℕ) (x : A) (more : List A) → 0 < size → length piece ≡ size → f 0 ≡ x
    → map (λ i. f (i + 1)) (range_with_len 0 (length rest / size)) ≡ more
    → map f (range_with_len 0 (length (piece ++ rest) / size)) ≡ x ∷ more
rows-more f size piece rest x more some long first others =
    let sum : length (piece ++ rest) ≡ size + length rest = length-append piece rest ∙ ap (λ (n : ℕ). n + length rest) long in
    let count : length (piece ++ rest) / size ≡ suc (length rest / size) = ap (λ (n : ℕ). n / size) sum ∙ add-div_left (length rest) some ∙ sym (suc-eq-add-one (length rest / size)) in
    ap (λ (n : ℕ). map f (range_with_len 0 n)) count ∙ (λ i. first i ∷ (range-next f (length rest / size) 0 ∙ others) i)

-- an entry of a table: nothing in the table and no value, or bytes that are read as one value
pub data IsEntry {A : Type 0} (size : ℕ) (read : List ℕ → A) : List ℕ → List A → Type 0 where
  none : IsEntry size read [] []
  some : {entry : List ℕ} {x : A} → length entry ≡ size → ((rest : List ℕ) → read (entry ++ rest) ≡ x) → IsEntry size read entry (x ∷ [])

-- the place of an entry, counted from the next one
next-place : (start size k i : ℕ) → start + size * (k + (i + 1)) ≡ start + size * (k + 1 + i)
next-place start size k i = let e : k + (i + 1) ≡ k + 1 + i = omega arith in ap (λ (n : ℕ). start + size * n) e

-- the place of the next entry
next-start : (start size k : ℕ) → start + size * k + size ≡ start + size * (k + 1)
next-start start size k = let e : size * (k + 1) ≡ size * k + size = mul-add size k 1 ∙ ap (λ (n : ℕ). size * k + n) (mul-one size) in omega arith

-- what stands from a later piece on
pub next-drop : (size i : ℕ) (piece rest : List ℕ) → length piece ≡ size → drop (size * (i + 1)) (piece ++ rest) ≡ drop (size * i) rest
next-drop size i piece rest long =
    let e : size * (i + 1) ≡ size + size * i = mul-add size i 1 ∙ ap (λ (n : ℕ). size * i + n) (mul-one size) ∙ swap (size * i) size in
    ap (λ (n : ℕ). drop n (piece ++ rest)) e ∙ drop-after piece rest size (size * i) long
  where
    swap : (a b : ℕ) → a + b ≡ b + a
    swap a b = omega arith

-- an entry in front of a table whose rest is read
entry-more : {A : Type 0} (read : ℕ → List ℕ → A) (size start k : ℕ) → 0 < size → (rest : List ℕ) (more : List A) {bytes : List ℕ} {values : List A}
    → IsEntry size (read (start + size * k)) bytes values
    → ((next : ℕ) (f : ℕ → A) → start + size * k + length bytes ≡ start + size * next → next ≤ k + 1
    → ((i : ℕ) → f i ≡ read (start + size * (next + i)) (drop (size * i) rest)) → map f (range_with_len 0 (length rest / size)) ≡ more)
    → (f : ℕ → A) → ((i : ℕ) → f i ≡ read (start + size * (k + i)) (drop (size * i) (bytes ++ rest)))
    → map f (range_with_len 0 (length (bytes ++ rest) / size)) ≡ values ++ more
entry-more read size start k some_size rest more none others f reads = others k f (omega arith) (omega arith) reads
entry-more read size start k some_size rest more (some {entry} {x} long value) others f reads =
    let here : start + size * (k + 0) ≡ start + size * k = ap (λ (n : ℕ). start + size * n) (add-zero k) in
    let first : f 0 ≡ x =
    reads 0 ∙ (λ i. read (here i) (drop (mul-zero size i) (entry ++ rest))) ∙ value rest in
    rows-more f size entry rest x more some_size long first
    (others (k + 1) (λ i. f (i + 1)) (ap (λ (n : ℕ). start + size * k + n) long ∙ next-start start size k) (omega arith)
    (λ i. reads (i + 1) ∙ (λ j. read (next-place start size k i j) (next-drop size i entry rest long j))))

-- a table is read as the values of its entries, in their order
pub table-reads : {A : Type 0} (entry : ℕ → PlanSite → List ℕ) (one : PlanSite → List A) (read : ℕ → List ℕ → A) (size start : ℕ) → 0 < size
    → (fits : PlanSite → Bool) → ((k : ℕ) (site : PlanSite) → k < 1024 → fits site ≡ true → (field : ℕ) → field ≡ start + size * k → IsEntry size (read field) (entry field site) (one site))
    → (sites : List PlanSite) (k field : ℕ) → field ≡ start + size * k → k + length sites ≤ 1024 → list_all fits sites ≡ true
    → (f : ℕ → A) → ((i : ℕ) → f i ≡ read (start + size * (k + i)) (drop (size * i) (table_from entry field sites)))
    → map f (range_with_len 0 (length (table_from entry field sites) / size)) ≡ flat_map one sites
table-reads entry one read size start some_size fits each [] k field place few all f reads =
    ap (λ (n : ℕ). map f (range_with_len 0 n)) (zero-div size)
table-reads {A = A} entry one read size start some_size fits each (site ∷ sites) k field place few all f reads =
    let parts = and_parts (fits site) (list_all fits sites) all in
    let next = field + length (entry field site) in
    let is : IsEntry size (read (start + size * k)) (entry field site) (one site) =
    subst (λ (at : ℕ). IsEntry size (read at) (entry field site) (one site)) place (each k site (omega arith) parts.0 field place) in
    entry-more read size start k some_size (table_from entry next sites) (flat_map one sites) is
    (λ after g at few_more reads_on. table-reads entry one read size start some_size fits each sites after next
    (ap (λ (n : ℕ). n + length (entry field site)) place ∙ at) (omega arith) parts.1 g reads_on)
    f reads
