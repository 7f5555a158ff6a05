-- A text that keeps two values of each byte agrees with what it stands for.
use Rattle.std.proofs.Common.{◌≡◌, ◌≤◌, ◌<◌, ◌+◌, ◌-◌, ◌==◌, ◌||◌, ◌↔◌, if◌then◌else◌, ℕ, zero, suc, Bool, true, false, List, [], ◌∷◌, ◌++◌, Some, None, length, refl, sym, ap, subst, ◌∙◌, inl, inr, arith, length-append}
use Rattle.std.specs.Prelude.{nat_lt, slice_get, slice_index, slice_index_or}
use Rattle.std.specs.List.{list_all}
use Rattle.std.proofs.lemmas.Bool.{eq-eqb, lt-ltb, le-ltb, cases_lt, and_parts, and_from}
use Rattle.std.proofs.lemmas.Option.{slice_get-get_or, slice_get_past}
use Rattle.insn_forms.specs.Write.{Write}
use Rattle.insn_forms.specs.History.{text_memory, byte}
use Rattle.stale_fetch.specs.declared.choice.Choice.{Choice}
use Rattle.stale_fetch.specs.declared.choice.Choice.TheVariants.{One, Two}
use Rattle.stale_fetch.specs.Choice.{listed, takes, chosen}
use Rattle.stale_fetch.specs.Gathered.{has, added}
use Rattle.stale_fetch.specs.Past.{Past, candidates, with_write, held_in}
use Rattle.stale_fetch.specs.Since.{since-write, now-write}
use Rattle.stale_fetch.specs.Text.{Covers, HasRoom, Agrees}
use Rattle.stale_fetch.specs.Windows.{Row, WindowState, choice_at, window_at, window_shape, window_held, windows_take, now, IsWindowsOf}

-- the byte that is held after a write
pub now_written : (p : Past) (at value a : ℕ) → now (with_write p at value) a ≡ (if at == a then value else now p a)
now_written p at value a =
    let w : Write = record { at = at; byte = value } in
    ap (λ n. byte (text_memory p.base p.text) (p.writes ++ w ∷ []) n a) (length-append p.writes (w ∷ []))
    ∙ now-write (text_memory p.base p.text) p.writes w a

-- the candidates after a write
pub candidates_written : (p : Past) (cpu at value a : ℕ) → slice_index p.marks cpu ≤ length p.writes → candidates (with_write p at value) cpu a ≡ (if at == a then added (candidates p cpu a) value else candidates p cpu a)
candidates_written p cpu at value a le =
    since-write (text_memory p.base p.text) p.writes (record { at = at; byte = value }) (slice_index p.marks cpu) a le

-- what a processor may fetch at an address
pub choices_at : (text : WindowState) (p : Past) (cpu at : ℕ) → IsWindowsOf text p → cpu < length text.windows → Covers (window_shape text) at → listed (choice_at text cpu (at - text.base)) ≡ candidates p cpu at
choices_at text p cpu at h known inside =
    let base = h.base in
    let size = h.size in
    let cpus = h.cpus in
    let from = inside.from in
    let below = inside.below in
    let e : p.base + (at - text.base) ≡ at = omega arith in
    h.choices cpu (at - text.base) (omega arith) (omega arith) ∙ ap (candidates p cpu) e

-- what it holds is the byte after all writes
holds : (text : WindowState) (p : Past) (at : ℕ) → IsWindowsOf text p → window_held text at ≡ held_in p at
holds text p at h =
    here
    ∙ ap (λ n. if nat_lt at text.base then None else (if nat_lt at (text.base + n) then Some (now p at) else None)) (sym h.size)
    ∙ ap (λ n. if nat_lt at n then None else (if nat_lt at (n + length p.text) then Some (now p at) else None)) (sym h.base)
  where
    here : window_held text at ≡ (if nat_lt at text.base then None else (if nat_lt at (text.base + length text.held) then Some (now p at) else None))
    here =
        elim (cases_lt at text.base) [
          | inl low ↦
              ap (λ b. if b then None else slice_get text.held (at - text.base)) (lt-ltb _ _ low)
              ∙ ap (λ b. if b then None else (if nat_lt at (text.base + length text.held) then Some (now p at) else None)) (sym (lt-ltb _ _ low))
          | inr high ↦
              ap (λ b. if b then None else slice_get text.held (at - text.base)) (le-ltb _ _ high)
              ∙ within high
              ∙ ap (λ b. if b then None else (if nat_lt at (text.base + length text.held) then Some (now p at) else None)) (sym (le-ltb _ _ high))
        ]
      where
        within : text.base ≤ at → slice_get text.held (at - text.base) ≡ (if nat_lt at (text.base + length text.held) then Some (now p at) else None)
        within high =
            elim (cases_lt at (text.base + length text.held)) [
              | inl below ↦
                  let base = h.base in
                  let size = h.size in
                  let inside : at - text.base < length text.held = omega arith in
                  let e : p.base + (at - text.base) ≡ at = omega arith in
                  slice_get-get_or text.held (at - text.base) 0 inside
                  ∙ ap Some (h.held (at - text.base) (omega arith) ∙ ap (now p) e)
                  ∙ ap (λ b. if b then Some (now p at) else None) (sym (lt-ltb _ _ below))
              | inr past ↦
                  slice_get_past text.held (at - text.base) (omega arith)
                  ∙ ap (λ b. if b then Some (now p at) else None) (sym (le-ltb _ _ past))
            ]

pub windows_agree : (text : WindowState) (p : Past) → IsWindowsOf text p → Agrees (window_shape text) (window_held text) p
windows_agree text p h = record {
  base = h.base;
  size = h.size;
  cpus = h.cpus;
  marks = h.marks;
  bytes = λ at. holds text p at h;
}

-- there is no third value where a write makes none, and only there
takes_few : (c : Choice) (value : ℕ) → takes c value ≡ true → length (added (listed c) value) ≤ 2
takes_few (One x) value t = go (has (x ∷ []) value)
  where
    go : (b : Bool) → length (if b then x ∷ [] else x ∷ value ∷ []) ≤ 2
    go true = omega arith
    go false = omega arith
takes_few (Two x y) value t = go (x == value) (y == value) t
  where
    go : (a b : Bool) → (a || b) ≡ true → length (if a || (b || false) then x ∷ y ∷ [] else x ∷ y ∷ value ∷ []) ≤ 2
    go true b t = omega arith
    go false true t = omega arith
    go false false t = absurd (cc)

few_taken : (c : Choice) (value : ℕ) → length (added (listed c) value) ≤ 2 → takes c value ≡ true
few_taken (One x) value few = refl
few_taken (Two x y) value few = go (x == value) (y == value) few
  where
    go : (a b : Bool) → length (if a || (b || false) then x ∷ y ∷ [] else x ∷ y ∷ value ∷ []) ≤ 2 → (a || b) ≡ true
    go true b few = refl
    go false true few = refl
    go false false few = absurd (omega arith)

-- a test that all rows pass
pub all_at : (test : Row → Bool) (rows : List Row) (cpu : ℕ) → list_all test rows ≡ true → cpu < length rows → test (slice_index_or rows cpu []) ≡ true
all_at test [] cpu all known = absurd (omega arith)
all_at test (row ∷ rows) zero all known = (and_parts _ _ all).0
all_at test (row ∷ rows) (suc cpu) all known = all_at test rows cpu (and_parts _ _ all).1 (omega arith)

all_from : (test : Row → Bool) (rows : List Row) → ((cpu : ℕ) → cpu < length rows → test (slice_index_or rows cpu []) ≡ true) → list_all test rows ≡ true
all_from test [] each = refl
all_from test (row ∷ rows) each =
    and_from _ _ (each 0 (omega arith)) (all_from test rows (λ cpu known. each (suc cpu) (omega arith)))

-- there is room for a write that gives no processor a third candidate
pub windows_room : (text : WindowState) (p : Past) (at byte : ℕ) → IsWindowsOf text p → Covers (window_shape text) at → (windows_take text at byte ↔ HasRoom (window_shape text).limit p at byte)
windows_room text p at value h inside = (
  (λ all cpu known.
      let cpus = h.cpus in
      let known' : cpu < length text.windows = omega arith in
      subst (λ xs. length xs ≤ 2) (sym (grown cpu known')) (takes_few (choice_at text cpu (at - text.base)) value (all_at test text.windows cpu all known'))),
  (λ few. all_from test text.windows (λ cpu known.
      let cpus = h.cpus in
      few_taken (choice_at text cpu (at - text.base)) value (subst (λ xs. length xs ≤ 2) (grown cpu known) (few cpu (omega arith))))),
)
  where
    test : Row → Bool
    test row = takes (chosen (slice_index text.held (at - text.base)) (window_at row (at - text.base))) value

    grown : (cpu : ℕ) → cpu < length text.windows → candidates (with_write p at value) cpu at ≡ added (listed (choice_at text cpu (at - text.base))) value
    grown cpu known =
        candidates_written p cpu at value at (h.marks cpu)
        ∙ ap (λ b. if b then added (candidates p cpu at) value else candidates p cpu at) (eq-eqb _ _ refl)
        ∙ ap (λ xs. added xs value) (sym (choices_at text p cpu at h known inside))
