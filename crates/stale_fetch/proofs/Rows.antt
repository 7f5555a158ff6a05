-- The windows of one processor.
use Rattle.std.proofs.Common.{◌≡◌, ◌≢◌, ◌≤◌, ◌<◌, ◌+◌, if◌then◌else◌, ℕ, zero, suc, List, [], ◌∷◌, Option, Some, None, length, map, replicate, get_or, set, refl, sym, ap, ◌∙◌, arith}
use Rattle.std.specs.List.{All}
use Rattle.std.proofs.lemmas.Bool.{eq-eqb, ne_eqb}
use Rattle.std.proofs.lemmas.List.{get_or-map, map-set, length-map}
use Rattle.std.proofs.lemmas.List.Elements.{All-head, All-tail, All-weaker}
use Rattle.stale_fetch.specs.declared.row.Window.{Window}
use Rattle.stale_fetch.specs.Choice.{widened}
use Rattle.stale_fetch.specs.Windows.{Row, widened_at, window_at}
use Rattle.stale_fetch.specs.WindowInside.{window_in}

-- a window of another epoch is closed
pub closed_in : (epoch : ℕ) (w : Window) → w.epoch ≢ epoch → window_in epoch w ≡ None
closed_in epoch w other = ap (λ b. if b then Some (w.first, w.second) else None) (ne_eqb _ _ other)

-- closed windows
all_closed : (epoch : ℕ) (ws : List Window) → All (λ (w : Window). window_in epoch w ≡ None) ws → map (window_in epoch) ws ≡ replicate (length ws) None
all_closed epoch [] closed = refl
all_closed epoch (w ∷ ws) closed =
    let P : Window → Type 0 = λ (w : Window). window_in epoch w ≡ None in
    ap (λ (o : Option (ℕ × ℕ)). o ∷ map (window_in epoch) ws) (All-head P w ws closed)
    ∙ ap (λ (row : Row). None ∷ row) (all_closed epoch ws (All-tail P w ws closed))

-- in the next epoch all windows are closed
pub close_next : (epoch : ℕ) (ws : List Window) (row : Row) → All (λ (w : Window). w.epoch ≤ epoch) ws → map (window_in epoch) ws ≡ row → map (window_in (epoch + 1)) ws ≡ replicate (length row) None
close_next epoch ws row timely e =
    all_closed (epoch + 1) ws (All-weaker (λ (w : Window). w.epoch ≤ epoch) (λ (w : Window). window_in (epoch + 1) w ≡ None) (λ w le. closed_in (epoch + 1) w (λ same. absurd (omega arith))) ws timely)
    ∙ ap (λ n. replicate n None) (sym (length-map ws (window_in epoch)) ∙ ap length e)

-- and so they are after the last epoch
pub close_last : (epoch : ℕ) (ws new : List Window) (row : Row) → All (λ (w : Window). w.epoch ≡ 0) new → length new ≡ length ws → map (window_in epoch) ws ≡ row → map (window_in 1) new ≡ replicate (length row) None
close_last epoch ws new row ended l e =
    all_closed 1 new (All-weaker (λ (w : Window). w.epoch ≡ 0) (λ (w : Window). window_in 1 w ≡ None) (λ w is. closed_in 1 w (λ same. absurd (omega arith))) new ended)
    ∙ ap (λ n. replicate n None) (l ∙ sym (length-map ws (window_in epoch)) ∙ ap length e)

-- new windows
pub new_closed : (ws : List Window) (size : ℕ) → ws ≡ replicate size (record { epoch = 0; first = 0; second = 0 }) → map (window_in 1) ws ≡ replicate size None
new_closed ws size e = ap (map (window_in 1)) e ∙ go size
  where
    go : (n : ℕ) → map (window_in 1) (replicate n (record { epoch = 0; first = 0; second = 0 })) ≡ replicate n None
    go zero = refl
    go (suc n) = ap (λ (row : Row). None ∷ row) (go n)

-- a window that is opened
pub widen_open : (epoch place held byte : ℕ) (w : Window) (ws : List Window) (row : Row) → place < length ws → w ≡ get_or ws place w → w.epoch ≢ epoch → held ≢ byte → map (window_in epoch) ws ≡ row → map (window_in epoch) (set ws place (record { epoch = epoch; first = held; second = byte })) ≡ widened_at place held byte row
widen_open epoch place held byte w ws row inside read other differs e =
    let opened : Window = record { epoch = epoch; first = held; second = byte } in
    let was : window_at (map (window_in epoch) ws) place ≡ None =
    get_or-map (window_in epoch) ws place w None inside ∙ ap (window_in epoch) (sym read) ∙ closed_in epoch w other in
    let is : window_in epoch opened ≡ widened held byte (window_at (map (window_in epoch) ws) place) =
    ap (λ b. if b then Some (held, byte) else None) (eq-eqb _ _ refl)
    ∙ ap (λ b. if b then None else Some (held, byte)) (sym (ne_eqb _ _ differs))
    ∙ ap (widened held byte) (sym was) in
    map-set (window_in epoch) ws place opened
    ∙ ap (set (map (window_in epoch) ws) place) is
    ∙ ap (widened_at place held byte) e
