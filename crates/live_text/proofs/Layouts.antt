-- A plan laid out round by round is the plan as numbers.
use Rattle.std.proofs.Common.{◌≡◌, ℕ, zero, suc, ◌+◌, ◌<◌, ◌≤◌, List, [], ◌∷◌, ◌++◌, length, map, take, drop, get_or, refl, ap, sym, ◌∙◌, subst, arith, Result, Ok, Err, OnOk}
use Rattle.std.proofs.lemmas.List.{append_assoc, append-nil, map-append, length-append, length-map, take_more}
use Rattle.insn_forms.specs.declared.forms.Change.{Change}
use Rattle.insn_forms.specs.Spelling.{size}
use Rattle.insn_forms.specs.Write.{Write}
use Rattle.poke_batch.specs.Poke.{spelled, writes_from, traps, tails, firsts}
use Rattle.live_text.specs.declared.plan.LiveSite.{LiveSite}
use Rattle.live_text.specs.declared.view.PlacedWrite.{PlacedWrite}
use Rattle.live_text.specs.declared.layout.Rounds.{Rounds}
use Rattle.live_text.specs.Flat.{place, placed, rounds, joined, ends}
use Rattle.live_text.specs.Layout.{AreRounds, Adds, AddsChunk, IsInRow, row_from}
use Rattle.live_text.proofs.Rounds.{length-spelled}

-- two facts of an answer, and a third that follows
pub on_ok_two : {T E A B C : Type 0} (r : Result T E) → (A → B → C) → OnOk r A → OnOk r B → OnOk r C
on_ok_two (Ok x) f a b = f a b
on_ok_two (Err e) f a b = tt

pub joined_append : (lists more : List (List Write)) → joined (lists ++ more) ≡ joined lists ++ joined more
joined_append [] more = refl
joined_append (ws ∷ lists) more =
    ap (λ (l : List Write). ws ++ l) (joined_append lists more) ∙ sym (append_assoc ws (joined lists) (joined more))

pub joined_more : (lists : List (List Write)) (ws : List Write) → joined (lists ++ ws ∷ []) ≡ joined lists ++ ws
joined_more lists ws = joined_append lists (ws ∷ []) ∙ ap (λ (l : List Write). joined lists ++ l) (append-nil ws)

-- one list more ends where all of them do
pub ends_more : (n : ℕ) (lists : List (List Write)) (ws : List Write) → ends n (lists ++ ws ∷ []) ≡ ends n lists ++ (n + length (joined lists ++ ws)) ∷ []
ends_more n [] ws = refl
ends_more n (vs ∷ lists) ws =
    let long : length ((vs ++ joined lists) ++ ws) ≡ length vs + length (joined lists ++ ws) = ap (λ (l : List Write). length l) (append_assoc vs (joined lists) ws) ∙ length-append vs (joined lists ++ ws) in
    let same : (n + length vs) + length (joined lists ++ ws) ≡ n + length ((vs ++ joined lists) ++ ws) = omega arith in
    ap (λ (l : List ℕ). n ∷ l) (ends_more (n + length vs) lists ws)
    ∙ ap (λ (k : ℕ). n ∷ (ends (n + length vs) lists ++ k ∷ [])) same

-- a round more
pub adds_round : (sites : List LiveSite) (ws : List Write) (old new : Rounds) → new.writes.items ≡ old.writes.items ++ map (placed sites) ws → new.cuts.items ≡ old.cuts.items ++ length new.writes.items ∷ [] → Adds sites ws old new
adds_round sites ws old new writes cuts lists r =
    let all : new.writes.items ≡ map (placed sites) (joined lists ++ ws) = writes ∙ ap (λ (l : List PlacedWrite). l ++ map (placed sites) ws) r.writes ∙ sym (map-append (placed sites) (joined lists) ws) in
    let long : length new.writes.items ≡ length (joined lists ++ ws) = ap (λ (l : List PlacedWrite). length l) all ∙ length-map (joined lists ++ ws) (placed sites) in
    let count : length new.writes.items ≡ 0 + length (joined lists ++ ws) = omega arith in
    record {
      writes = all ∙ ap (λ (l : List Write). map (placed sites) l) (sym (joined_more lists ws));
      cuts = cuts
          ∙ ap (λ (l : List ℕ). l ++ length new.writes.items ∷ []) r.cuts
          ∙ ap (λ (k : ℕ). ends 0 lists ++ k ∷ []) count
          ∙ sym (ends_more 0 lists ws);
    }

-- three rounds more
pub adds_chunk : (sites : List LiveSite) (chunk : List Change) (a b c d : Rounds) → Adds sites (traps chunk) a b → Adds sites (tails chunk) b c → Adds sites (firsts chunk) c d → AddsChunk sites chunk a d
adds_chunk sites chunk a b c d first second third lists r =
    let t : List Write = traps chunk in
    let u : List Write = tails chunk in
    let v : List Write = firsts chunk in
    subst (λ (l : List (List Write)). AreRounds sites l d)
    (append_assoc (lists ++ t ∷ []) (u ∷ []) (v ∷ []) ∙ append_assoc lists (t ∷ []) (u ∷ v ∷ []))
    (third ((lists ++ t ∷ []) ++ u ∷ []) (second (lists ++ t ∷ []) (first lists r)))

-- a byte more of a row
pub row_append : (p : ℕ) (bytes more : List ℕ) → row_from p (bytes ++ more) ≡ row_from p bytes ++ row_from (p + length bytes) more
row_append p [] more = ap (λ (k : ℕ). row_from k more) (omega arith)
row_append p (b ∷ bytes) more =
    let same : (p + 1) + length bytes ≡ p + length (b ∷ bytes) = omega arith in
    ap (λ (l : List PlacedWrite). record { place = p; byte = b } ∷ l) (row_append (p + 1) bytes more)
    ∙ ap (λ (k : ℕ). record { place = p; byte = b } ∷ (row_from (p + 1) bytes ++ row_from k more)) same

taken_length : {A : Type 0} (n : ℕ) (l : List A) → n ≤ length l → length (take n l) ≡ n
taken_length zero l le = refl
taken_length (suc n) [] le = absurd (omega arith)
taken_length (suc n) (x ∷ l) le = ap suc (taken_length n l (omega arith))

pub row_more : (p : ℕ) (bytes : List ℕ) (i d : ℕ) → i < length bytes → row_from p (take (i + 1) bytes) ≡ row_from p (take i bytes) ++ record { place = p + i; byte = get_or bytes i d } ∷ []
row_more p bytes i d below =
    ap (λ (l : List ℕ). row_from p l) (take_more bytes i d below)
    ∙ row_append p (take i bytes) (get_or bytes i d ∷ [])
    ∙ ap (λ (k : ℕ). row_from p (take i bytes) ++ record { place = p + k; byte = get_or bytes i d } ∷ []) (taken_length i bytes (omega arith))

-- a row of writes by their numbers, where the numbers of the addresses are a row
pub rows : (sites : List LiveSite) (at p : ℕ) (bytes : List ℕ) → ((i : ℕ) → i < length bytes → place sites (at + i) ≡ p + i) → map (placed sites) (writes_from at bytes) ≡ row_from p bytes
rows sites at p [] row = refl
rows sites at p (b ∷ bytes) row =
    let here : place sites (at + 0) ≡ p + 0 = row 0 (omega arith) in
    let at_same : at + 0 ≡ at = omega arith in
    let p_same : p + 0 ≡ p = omega arith in
    let first : place sites at ≡ p = ap (place sites) (sym at_same) ∙ here ∙ p_same in
    ap (λ (k : ℕ). record { place = k; byte = b } ∷ map (placed sites) (writes_from (at + 1) bytes)) first
    ∙ ap (λ (l : List PlacedWrite). record { place = p; byte = b } ∷ l) (rows sites (at + 1) (p + 1) bytes (λ i below. next i below))
  where
    next : (i : ℕ) → i < length bytes → place sites ((at + 1) + i) ≡ (p + 1) + i
    next i below =
        let e : at + suc i ≡ (at + 1) + i = omega arith in
        let f : p + suc i ≡ (p + 1) + i = omega arith in
        ap (place sites) (sym e) ∙ row (suc i) (omega arith) ∙ f

rest_length : (bytes : List ℕ) (i n : ℕ) → length bytes ≡ n → i < length (drop 1 bytes) → i + 1 < n
rest_length [] i n is below = absurd (omega arith)
rest_length (b ∷ bytes) i n is below = omega arith

pub tail_row : (sites : List LiveSite) (c : Change) → IsInRow sites c → map (placed sites) (writes_from (c.at + 1) (drop 1 (spelled c.new c.at))) ≡ row_from (place sites c.at + 1) (drop 1 (spelled c.new c.at))
tail_row sites c r = rows sites (c.at + 1) (place sites c.at + 1) (drop 1 (spelled c.new c.at)) next
  where
    next : (i : ℕ) → i < length (drop 1 (spelled c.new c.at)) → place sites ((c.at + 1) + i) ≡ (place sites c.at + 1) + i
    next i below =
        let e : c.at + (i + 1) ≡ (c.at + 1) + i = omega arith in
        let f : place sites c.at + (i + 1) ≡ (place sites c.at + 1) + i = omega arith in
        let long : length (spelled c.new c.at) ≡ size c.new = length-spelled c.new c.at r.spelt in
        ap (place sites) (sym e) ∙ r.row (i + 1) (rest_length (spelled c.new c.at) i (size c.new) long below) ∙ f

-- the rounds of one chunk more
pub rounds_more : (chunks : List (List Change)) (chunk : List Change) → rounds (chunks ++ chunk ∷ []) ≡ rounds chunks ++ traps chunk ∷ tails chunk ∷ firsts chunk ∷ []
rounds_more [] chunk = refl
rounds_more (c ∷ chunks) chunk =
    ap (λ (l : List (List Write)). traps c ∷ tails c ∷ firsts c ∷ l) (rounds_more chunks chunk)

pub chunk_more : {V : Type 0} (f : V → List Change) (xs : List V) (i : ℕ) (x : V) → i < length xs → x ≡ get_or xs i x → rounds (map f (take (i + 1) xs)) ≡ rounds (map f (take i xs)) ++ traps (f x) ∷ tails (f x) ∷ firsts (f x) ∷ []
chunk_more f xs i x below is =
    ap (λ l. rounds (map f l)) (take_more xs i x below)
    ∙ ap (λ l. rounds l) (map-append f (take i xs) (get_or xs i x ∷ []))
    ∙ rounds_more (map f (take i xs)) (f (get_or xs i x))
    ∙ ap (λ y. rounds (map f (take i xs)) ++ traps (f y) ∷ tails (f y) ∷ firsts (f y) ∷ []) (sym is)
