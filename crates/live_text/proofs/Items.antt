-- The writes of a plan and its requests are the items of its pokes.
use Rattle.std.proofs.Common.{◌≡◌, ℕ, zero, suc, ◌+◌, ◌-◌, ◌<◌, ◌≤◌, List, [], ◌∷◌, ◌++◌, length, map, take, refl, ap, sym, ◌∙◌, arith, Some}
use Rattle.std.specs.Prelude.{slice_get}
use Rattle.std.specs.List.{flat_map}
use Rattle.std.proofs.lemmas.List.{append_assoc, length-append, length-map}
use Rattle.std.proofs.lemmas.Option.{same_Some}
use Rattle.insn_forms.specs.declared.forms.Change.{Change}
use Rattle.insn_forms.specs.Write.{Write}
use Rattle.poke_batch.specs.Poke.{Item, poke, traps, tails, firsts}
use Rattle.poke_batch.specs.Poke.Item.{Puts, Syncs}
use Rattle.live_text.specs.Plan.{chunks_of}
use Rattle.live_text.specs.Flat.{placed, rounds, joined, ends, shape_of}
use Rattle.live_text.specs.Past.{cut}
use Rattle.live_text.specs.Laws.{writes_of, WritesAreDue, WritesArePlaced, RequestsAreDue}
use Rattle.live_text.proofs.Shapes.{cut_is}

-- the items of some rounds
abbrev round_items : List Write → List Item
round_items ws = map Puts ws ++ Syncs ∷ []

abbrev woven : List (List Write) → List Item
woven [] = []
woven (ws ∷ lists) = round_items ws ++ woven lists

woven_is : (chunks : List (List Change)) → woven (rounds chunks) ≡ flat_map poke chunks
woven_is [] = refl
woven_is (c ∷ chunks) =
    let t : List Item = map Puts (traps c) in
    let u : List Item = map Puts (tails c) in
    let v : List Item = map Puts (firsts c) in
    let rest : List Item = woven (rounds chunks) in
    let third : (v ++ Syncs ∷ []) ++ rest ≡ (v ++ Syncs ∷ []) ++ rest = refl in
    let second : (u ++ Syncs ∷ []) ++ ((v ++ Syncs ∷ []) ++ rest) ≡ (u ++ Syncs ∷ (v ++ Syncs ∷ [])) ++ rest = sym (append_assoc (u ++ Syncs ∷ []) (v ++ Syncs ∷ []) rest) ∙ ap (λ (l : List Item). l ++ rest) (append_assoc u (Syncs ∷ []) (v ++ Syncs ∷ [])) in
    let first : (t ++ Syncs ∷ []) ++ ((u ++ Syncs ∷ (v ++ Syncs ∷ [])) ++ rest) ≡ (t ++ Syncs ∷ (u ++ Syncs ∷ (v ++ Syncs ∷ []))) ++ rest = sym (append_assoc (t ++ Syncs ∷ []) (u ++ Syncs ∷ (v ++ Syncs ∷ [])) rest) ∙ ap (λ (l : List Item). l ++ rest) (append_assoc t (Syncs ∷ []) (u ++ Syncs ∷ (v ++ Syncs ∷ []))) in
    ap (λ (l : List Item). (t ++ Syncs ∷ []) ++ l) second ∙ first ∙ ap (λ (l : List Item). poke c ++ l) (woven_is chunks)

-- look-ups in two lists
get_left : {A : Type 0} (xs ys : List A) (i : ℕ) (x : A) → slice_get xs i ≡ Some x → slice_get (xs ++ ys) i ≡ Some x
get_left [] ys i x e = absurd (cc)
get_left (y ∷ xs) ys zero x e = e
get_left (y ∷ xs) ys (suc i) x e = get_left xs ys i x e

pub get_right : {A : Type 0} (xs ys : List A) (n i : ℕ) → n ≡ length xs + i → slice_get (xs ++ ys) n ≡ slice_get ys i
get_right [] ys n i e =
    let same : n ≡ i = omega arith in
    ap (λ (k : ℕ). slice_get ys k) same
get_right (x ∷ xs) ys zero i e = absurd (omega arith)
get_right (x ∷ xs) ys (suc n) i e = get_right xs ys n i (omega arith)

pub get_map : {A B : Type 0} (f : A → B) (xs : List A) (i : ℕ) (x : A) → slice_get xs i ≡ Some x → slice_get (map f xs) i ≡ Some (f x)
get_map f [] i x e = absurd (cc)
get_map f (y ∷ xs) zero x e = ap (λ z. Some (f z)) (same_Some y x e)
get_map f (y ∷ xs) (suc i) x e = get_map f xs i x e

pub get_below : {A : Type 0} (xs ys : List A) (i : ℕ) → i < length xs → slice_get (xs ++ ys) i ≡ slice_get xs i
get_below [] ys i below = absurd (omega arith)
get_below (x ∷ xs) ys zero below = refl
get_below (x ∷ xs) ys (suc i) below = get_below xs ys i (omega arith)

items_length : (ws : List Write) → length (round_items ws) ≡ length ws + 1
items_length ws = length-append (map Puts ws) (Syncs ∷ []) ∙ ap (λ (n : ℕ). n + 1) (length-map ws Puts)

due_write : (lists : List (List Write)) (r k : ℕ) (w : Write) → length (joined (take r lists)) ≤ k → k < length (joined (take (suc r) lists)) → slice_get (joined lists) k ≡ Some w → slice_get (woven lists) (k + r) ≡ Some (Puts w)
due_write [] r k w from to is = absurd (omega arith)
due_write (ws ∷ lists) zero k w from to is =
    let long : length (ws ++ joined (take zero lists)) ≡ length ws + 0 = length-append ws (joined (take zero lists)) in
    let below : k < length ws = omega arith in
    let here : slice_get ws k ≡ Some w = sym (get_below ws (joined lists) k below) ∙ is in
    let same : k + 0 ≡ k = omega arith in
    ap (λ (n : ℕ). slice_get (woven (ws ∷ lists)) n) same
    ∙ get_left (round_items ws) (woven lists) k (Puts w) (get_left (map Puts ws) (Syncs ∷ []) k (Puts w) (get_map Puts ws k w here))
due_write (ws ∷ lists) (suc r) k w from to is =
    let low : length (ws ++ joined (take r lists)) ≡ length ws + length (joined (take r lists)) = length-append ws (joined (take r lists)) in
    let high : length (ws ++ joined (take (suc r) lists)) ≡ length ws + length (joined (take (suc r) lists)) = length-append ws (joined (take (suc r) lists)) in
    let rest : slice_get (joined lists) (k - length ws) ≡ Some w = sym (get_right ws (joined lists) k (k - length ws) (omega arith)) ∙ is in
    let long : length (round_items ws) ≡ length ws + 1 = items_length ws in
    get_right (round_items ws) (woven lists) (k + suc r) ((k - length ws) + r) (omega arith)
    ∙ due_write lists r (k - length ws) w (omega arith) (omega arith) rest

due_request : (lists : List (List Write)) (r : ℕ) → r < length lists → slice_get (woven lists) (length (joined (take (suc r) lists)) + r) ≡ Some Syncs
due_request [] r below = absurd (omega arith)
due_request (ws ∷ lists) zero below =
    let long : length (ws ++ joined (take zero lists)) ≡ length ws + 0 = length-append ws (joined (take zero lists)) in
    let count : length (map Puts ws) ≡ length ws = length-map ws Puts in
    get_left_at (map Puts ws) (omega arith)
  where
    get_left_at : (xs : List Item) → length (ws ++ joined (take zero lists)) + 0 ≡ length xs → slice_get ((map Puts ws ++ Syncs ∷ []) ++ woven lists) (length (ws ++ joined (take zero lists)) + 0) ≡ Some Syncs
    get_left_at xs e =
        let count : length (map Puts ws) ≡ length ws = length-map ws Puts in
        let long : length (ws ++ joined (take zero lists)) ≡ length ws + 0 = length-append ws (joined (take zero lists)) in
        get_left (map Puts ws ++ Syncs ∷ []) (woven lists) (length (ws ++ joined (take zero lists)) + 0) Syncs (get_right (map Puts ws) (Syncs ∷ []) (length (ws ++ joined (take zero lists)) + 0) 0 (omega arith))
due_request (ws ∷ lists) (suc r) below =
    let high : length (ws ++ joined (take (suc r) lists)) ≡ length ws + length (joined (take (suc r) lists)) = length-append ws (joined (take (suc r) lists)) in
    let long : length (round_items ws) ≡ length ws + 1 = items_length ws in
    get_right (round_items ws) (woven lists) (length (ws ++ joined (take (suc r) lists)) + suc r) (length (joined (take (suc r) lists)) + r) (omega arith)
    ∙ due_request lists r (omega arith)

pub ends_length : (n : ℕ) (lists : List (List Write)) → length (ends n lists) ≡ length lists + 1
ends_length n [] = refl
ends_length n (ws ∷ lists) =
    let rest : length (ends (n + length ws) lists) ≡ length lists + 1 = ends_length (n + length ws) lists in
    omega arith

next : (r : ℕ) → r + 1 ≡ suc r
next r = omega arith

pub writes_due : WritesAreDue
writes_due plan cpus k r from to w is =
    let lists : List (List Write) = rounds (chunks_of plan) in
    let low : cut (shape_of plan cpus) r ≡ length (joined (take r lists)) = cut_is plan cpus r in
    let high : cut (shape_of plan cpus) (r + 1) ≡ length (joined (take (suc r) lists)) = cut_is plan cpus (r + 1) ∙ ap (λ (n : ℕ). length (joined (take n lists))) (next r) in
    ap (λ (l : List Item). slice_get l (k + r)) (sym (woven_is (chunks_of plan)))
    ∙ due_write lists r k w (omega arith) (omega arith) is

pub writes_placed : WritesArePlaced
writes_placed plan cpus k w is = get_map (placed plan.sites.items) (writes_of plan) k w is

pub requests_due : RequestsAreDue
requests_due plan cpus r below =
    let lists : List (List Write) = rounds (chunks_of plan) in
    let count : length (ends 0 lists) ≡ length lists + 1 = ends_length 0 lists in
    let high : cut (shape_of plan cpus) (r + 1) ≡ length (joined (take (suc r) lists)) = cut_is plan cpus (r + 1) ∙ ap (λ (n : ℕ). length (joined (take n lists))) (next r) in
    ap (λ (l : List Item). slice_get l (cut (shape_of plan cpus) (r + 1) + r)) (sym (woven_is (chunks_of plan)))
    ∙ ap (λ (n : ℕ). slice_get (woven lists) (n + r)) high
    ∙ due_request lists r (omega arith)
