-- What a text that keeps two values of each byte stands for, when it is made, written and serialised.
use Rattle.std.proofs.Common.{◌≡◌, ◌≢◌, ◌<◌, ◌+◌, ◌-◌, ◌==◌, ◌||◌, ◌⊎◌, if◌then◌else◌, ℕ, Bool, true, false, List, [], ◌∷◌, ◌++◌, Option, Some, None, length, map, set, replicate, get_or, refl, sym, ap, subst, ◌∙◌, inl, inr, arith, length-append, length-set}
use Rattle.std.specs.Prelude.{slice_index, slice_index_or}
use Rattle.std.specs.List.{All}
use Rattle.std.proofs.lemmas.Bool.{eq-eqb, ne_eqb, eqb-true, cases_eq}
use Rattle.std.proofs.lemmas.List.{get_or-set_same, get_or-set_other, get_or-map, get_or-replicate, length-map, length-replicate}
use Rattle.std.proofs.lemmas.List.Elements.{All-get_or, All-map, All-weaker}
use Rattle.insn_forms.specs.Write.{Write}
use Rattle.insn_forms.specs.History.{text_memory, since}
use Rattle.stale_fetch.specs.Choice.{listed, takes, chosen, widened}
use Rattle.stale_fetch.specs.Gathered.{added}
use Rattle.stale_fetch.specs.Past.{Past, candidates, with_write, new_past}
use Rattle.stale_fetch.specs.Since.{since-last}
use Rattle.stale_fetch.specs.Text.{Covers}
use Rattle.stale_fetch.specs.WindowLaws.{now_written, candidates_written, choices_at, all_at}
use Rattle.stale_fetch.specs.Windows.{Row, WindowState, window_at, widened_at, window_shape, windows_take, now, IsWindowsOf}
use Rattle.stale_fetch.proofs.LogFields.{memory_at, was_read, zeros}

-- a new text stands for a past without writes
pub windows_new : (base cpus : ℕ) (text held : List ℕ) (rows : List Row) → held ≡ text → rows ≡ replicate cpus (replicate (length text) None) → IsWindowsOf (record { base = base; held = held; windows = rows }) (new_past base text cpus)
windows_new base cpus text held rows h r =
    subst (λ (xs : List ℕ). IsWindowsOf (record { base = base; held = xs; windows = rows }) (new_past base text cpus)) (sym h)
    (subst (λ (ws : List Row). IsWindowsOf (record { base = base; held = text; windows = ws }) (new_past base text cpus)) (sym r) fresh)
  where
    fresh : IsWindowsOf (record { base = base; held = text; windows = replicate cpus (replicate (length text) None) }) (new_past base text cpus)
    fresh =
        let size : length (replicate cpus 0) ≡ cpus = length-replicate cpus 0 in
        record {
          base = refl;
          size = refl;
          cpus = size ∙ sym (length-replicate cpus (replicate (length text) None));
          marks = zeros cpus;
          held = λ place inside. sym (memory_at base text place);
          choices = λ cpu place known inside.
              let known' : cpu < cpus = subst (λ n. cpu < n) size known in
              ap (λ (row : Row). listed (chosen (slice_index text place) (window_at row place))) (get_or-replicate cpus cpu (replicate (length text) None) [] known')
              ∙ ap (λ (w : Option (ℕ × ℕ)). listed (chosen (slice_index text place) w)) (get_or-replicate (length text) place None None inside)
              ∙ ap (λ v. v ∷ []) (sym (memory_at base text place))
              ∙ sym (since-last (text_memory base text) [] (base + place))
              ∙ ap (λ m. since (text_memory base text) [] m (base + place)) (sym (get_or-replicate cpus cpu 0 0 known'));
        }

-- a write adds its byte to the values of its place, which had room for it
widened_lists : (held value : ℕ) (w : Option (ℕ × ℕ)) → takes (chosen held w) value ≡ true → listed (chosen value (widened held value w)) ≡ added (listed (chosen held w)) value
widened_lists held value None t = go (held == value) refl
  where
    go : (b : Bool) → (held == value) ≡ b → listed (chosen value (if b then None else Some (held, value))) ≡ (if b || false then held ∷ [] else held ∷ value ∷ [])
    go true e = ap (λ v. v ∷ []) (sym (eqb-true held value e))
    go false e = refl
widened_lists held value (Some w) t = go (w.0 == value) (w.1 == value) t
  where
    go : (a b : Bool) → (a || b) ≡ true → w.0 ∷ w.1 ∷ [] ≡ (if a || (b || false) then w.0 ∷ w.1 ∷ [] else w.0 ∷ w.1 ∷ value ∷ [])
    go true b t = refl
    go false true t = refl
    go false false t = absurd (cc)

-- the text after a write
pub windows_write : (text : WindowState) (p : Past) (at value : ℕ) → IsWindowsOf text p → All (λ (row : Row). length row ≡ length text.held) text.windows → Covers (window_shape text) at → windows_take text at value → IsWindowsOf (record { base = text.base; held = set text.held (at - text.base) value; windows = map (widened_at (at - text.base) (slice_index text.held (at - text.base)) value) text.windows }) (with_write p at value)
windows_write text p at value h whole inside fits =
    let w : Write = record { at = at; byte = value } in
    let base = h.base in
    let from = inside.from in
    let below = inside.below in
    record {
      base = h.base;
      size = h.size ∙ sym (length-set text.held (at - text.base) value);
      cpus = h.cpus ∙ sym (length-map text.windows (widened_at (at - text.base) (slice_index text.held (at - text.base)) value));
      marks = λ cpu.
          let k = h.marks cpu in
          let grown : length (p.writes ++ w ∷ []) ≡ length p.writes + 1 = length-append p.writes (w ∷ []) in
          omega arith;
      held = λ place within. held' place within (cases_eq at (p.base + place)) ∙ sym (now_written p at value (p.base + place));
      choices = λ cpu place known within.
          choices' cpu place known within (cases_eq at (p.base + place))
          ∙ sym (candidates_written p cpu at value (p.base + place) (h.marks cpu));
    }
  where
    held' : (place : ℕ) → place < length p.text → (at ≡ p.base + place) ⊎ (at ≡ p.base + place → ⊥) → slice_index (set text.held (at - text.base) value) place ≡ (if at == p.base + place then value else now p (p.base + place))
    held' place within (inl same) =
        let base = h.base in
        let size = h.size in
        let e : at - text.base ≡ place = omega arith in
        ap (λ n. slice_index (set text.held n value) place) e
        ∙ get_or-set_same text.held place value 0 (omega arith)
        ∙ ap (λ b. if b then value else now p (p.base + place)) (sym (eq-eqb _ _ same))
    held' place within (inr other) =
        let base = h.base in
        let from = inside.from in
        let apart : place ≢ at - text.base = λ e. other (omega arith) in
        get_or-set_other text.held (at - text.base) place value 0 apart
        ∙ h.held place within
        ∙ ap (λ b. if b then value else now p (p.base + place)) (sym (ne_eqb _ _ other))

    choices' : (cpu place : ℕ) → cpu < length p.marks → place < length p.text → (at ≡ p.base + place) ⊎ (at ≡ p.base + place → ⊥) → listed (chosen (slice_index (set text.held (at - text.base) value) place) (window_at (slice_index_or (map (widened_at (at - text.base) (slice_index text.held (at - text.base)) value) text.windows) cpu []) place)) ≡ (if at == p.base + place then added (candidates p cpu (p.base + place)) value else candidates p cpu (p.base + place))
    choices' cpu place known within (inl same) =
        let base = h.base in
        let size = h.size in
        let cpus = h.cpus in
        let known' : cpu < length text.windows = omega arith in
        let row : Row = slice_index_or text.windows cpu [] in
        let held : ℕ = slice_index text.held (at - text.base) in
        let opened : Option (ℕ × ℕ) = widened held value (window_at row (at - text.base)) in
        let e : at - text.base ≡ place = omega arith in
        let full : length row ≡ length text.held = All-get_or (λ (r : Row). length r ≡ length text.held) text.windows cpu [] known' whole in
        ap (λ (r : Row). listed (chosen (slice_index (set text.held (at - text.base) value) place) (window_at r place))) (get_or-map (widened_at (at - text.base) held value) text.windows cpu [] [] known')
        ∙ ap (λ n. listed (chosen (slice_index (set text.held n value) place) (window_at (set row n opened) place))) e
        ∙ ap (λ v. listed (chosen v (window_at (set row place opened) place))) (get_or-set_same text.held place value 0 (omega arith))
        ∙ ap (λ (o : Option (ℕ × ℕ)). listed (chosen value o)) (get_or-set_same row place opened None (omega arith))
        ∙ widened_lists held value (window_at row (at - text.base)) (all_at (λ (r : Row). takes (chosen held (window_at r (at - text.base))) value) text.windows cpu fits known')
        ∙ ap (λ xs. added xs value) (choices_at text p cpu at h known' inside ∙ ap (candidates p cpu) same)
        ∙ ap (λ b. if b then added (candidates p cpu (p.base + place)) value else candidates p cpu (p.base + place)) (sym (eq-eqb _ _ same))
    choices' cpu place known within (inr other) =
        let base = h.base in
        let cpus = h.cpus in
        let from = inside.from in
        let known' : cpu < length text.windows = omega arith in
        let row : Row = slice_index_or text.windows cpu [] in
        let held : ℕ = slice_index text.held (at - text.base) in
        let opened : Option (ℕ × ℕ) = widened held value (window_at row (at - text.base)) in
        let apart : place ≢ at - text.base = λ e. other (omega arith) in
        ap (λ (r : Row). listed (chosen (slice_index (set text.held (at - text.base) value) place) (window_at r place))) (get_or-map (widened_at (at - text.base) held value) text.windows cpu [] [] known')
        ∙ ap (λ v. listed (chosen v (window_at (set row (at - text.base) opened) place))) (get_or-set_other text.held (at - text.base) place value 0 apart)
        ∙ ap (λ (o : Option (ℕ × ℕ)). listed (chosen (slice_index text.held place) o)) (get_or-set_other row (at - text.base) place opened None apart)
        ∙ h.choices cpu place known within
        ∙ ap (λ b. if b then added (candidates p cpu (p.base + place)) value else candidates p cpu (p.base + place)) (sym (ne_eqb _ _ other))

-- each row keeps its length
pub rows_whole : (place held value size : ℕ) (rows : List Row) → All (λ (row : Row). length row ≡ size) rows → All (λ (row : Row). length row ≡ size) (map (widened_at place held value) rows)
rows_whole place held value size rows whole =
    All-map (λ (row : Row). length row ≡ size) (widened_at place held value) rows
    (All-weaker (λ (row : Row). length row ≡ size) (λ (row : Row). length (widened_at place held value row) ≡ size) (λ row e. length-set row place (widened held value (window_at row place)) ∙ e) rows whole)

pub write_whole : (held : List ℕ) (place read value : ℕ) (rows new : List Row) → All (λ (row : Row). length row ≡ length held) rows → new ≡ map (widened_at place read value) rows → All (λ (row : Row). length row ≡ length (set held place value)) new
write_whole held place read value rows new whole e =
    subst (λ (rs : List Row). All (λ (row : Row). length row ≡ length (set held place value)) rs) (sym e)
    (rows_whole place read value (length (set held place value)) rows (subst (λ n. All (λ (row : Row). length row ≡ n) rows) (sym (length-set held place value)) whole))

-- the text after a write, from what its fields hold
pub windows_written : (base : ℕ) (held : List ℕ) (rows new : List Row) (text : WindowState) (p : Past) (at value read : ℕ) → (let fields : WindowState = record { base = base; held = held; windows = rows } in fields ≡ text) → All (λ (row : Row). length row ≡ length held) rows → Covers (window_shape text) at → windows_take text at value → read ≡ get_or held (at - base) read → new ≡ map (widened_at (at - base) read value) rows → IsWindowsOf text p → IsWindowsOf (record { base = base; held = set held (at - base) value; windows = new }) (with_write p at value)
windows_written base held rows new text p at value read e whole inside fits r n h =
    let fields : WindowState = record { base = base; held = held; windows = rows } in
    let inside' : Covers (window_shape fields) at = subst (λ (t : WindowState). Covers (window_shape t) at) (sym e) inside in
    let from = inside'.from in
    let below = inside'.below in
    let known : at - base < length held = omega arith in
    let is : new ≡ map (widened_at (at - base) (slice_index held (at - base)) value) rows =
    n ∙ ap (λ v. map (widened_at (at - base) v value) rows) (was_read held (at - base) (at - base) read known refl r) in
    subst (λ (rs : List Row). IsWindowsOf (record { base = base; held = set held (at - base) value; windows = rs }) (with_write p at value)) (sym is)
    (windows_write fields p at value (subst (λ (t : WindowState). IsWindowsOf t p) (sym e) h) whole inside' (subst (λ (t : WindowState). windows_take t at value) (sym e) fits))
