-- A text after some rounds of a chunk's poke, and the writes of a plan round by round.
use Rattle.std.proofs.Common.{◌≡◌, inl, inr, ℕ, zero, suc, ◌+◌, ◌-◌, ◌*◌, ◌<◌, ◌≤◌, List, [], ◌∷◌, ◌++◌, length, take, get_or, refl, ap, sym, ◌∙◌, arith, length-append}
use Rattle.std.proofs.Math.Seq.{take-append-add}
use Rattle.std.proofs.lemmas.List.{append_assoc, append-nil, take-append-le}
use Rattle.insn_forms.specs.declared.forms.Change.{Change}
use Rattle.insn_forms.specs.Spelling.{size}
use Rattle.insn_forms.specs.Write.{Write}
use Rattle.insn_forms.specs.History.{Memory, written}
use Rattle.poke_batch.specs.Poke.{traps, tails, firsts}
use Rattle.live_text.specs.Flat.{rounds, joined}
use Rattle.live_text.specs.Table.{byte_after, IsInTable}
use Rattle.live_text.proofs.Writes.{Has, Puts, has_from, has_contains, has_take, written_append, written_between, written_keeps, written_does, written_misses}
use Rattle.live_text.proofs.Rounds.{round, IsPoked, BytesAre, round_puts, round_has, round_misses}
use Rattle.live_text.proofs.Places.{IsBeside}

-- a text after the first r rounds of a chunk
abbrev pub after_rounds : ℕ → List Change → Memory → Memory
after_rounds zero chunk m = m
after_rounds (suc r) chunk m = written (round r chunk) (after_rounds r chunk m)

-- the bytes of the chunk's sites are then those after as many rounds
round_step : (r : ℕ) (chunk : List Change) (m : Memory) → IsPoked chunk → BytesAre m r chunk → BytesAre (written (round r chunk) m) (suc r) chunk
round_step r chunk m poked bytes k j has below =
    let puts : Puts (round r chunk) (k.at + j) (byte_after (suc r) k j) = round_puts r chunk k j poked (has_from chunk k has) below in
    elim (round_has r chunk k j poked (has_from chunk k has) below) [
      | inl same ↦ written_keeps (round r chunk) m (k.at + j) (byte_after (suc r) k j) puts (bytes k j has below ∙ same)
      | inr to ↦ written_does (round r chunk) m (k.at + j) (byte_after (suc r) k j) puts to.write to.has to.there
    ]

pub rounds_step : (r : ℕ) (chunk : List Change) (m : Memory) → IsPoked chunk → BytesAre m 0 chunk → BytesAre (after_rounds r chunk m) r chunk
rounds_step zero chunk m poked bytes = bytes
rounds_step (suc r) chunk m poked bytes =
    round_step r chunk (after_rounds r chunk m) poked (rounds_step r chunk m poked bytes)

-- and every other byte is what it was
pub rounds_miss : (r : ℕ) (chunk : List Change) (m : Memory) (at : ℕ) → IsPoked chunk → IsBeside chunk at → after_rounds r chunk m at ≡ m at
rounds_miss zero chunk m at poked beside = refl
rounds_miss (suc r) chunk m at poked beside =
    written_misses (round r chunk) (after_rounds r chunk m) at (round_misses r chunk at poked beside)
    ∙ rounds_miss r chunk m at poked beside

-- amid a round a byte of the chunk's sites is one of the two of the table
pub part_in_table : (r n : ℕ) (chunk : List Change) (m : Memory) (k : Change) (j : ℕ) → IsPoked chunk → BytesAre m r chunk → Has chunk k → j < size k.old → IsInTable r k j (written (take n (round r chunk)) m (k.at + j))
part_in_table r n chunk m k j poked bytes has below =
    let puts : Puts (take n (round r chunk)) (k.at + j) (byte_after (suc r) k j) = λ w h there.
    round_puts r chunk k j poked has below w (has_take n (round r chunk) w h) there in
    elim (written_between (take n (round r chunk)) m (k.at + j) (byte_after (suc r) k j) puts) [
      | inl kept ↦ inl (kept ∙ bytes k j (has_contains chunk k has) below)
      | inr there ↦ inr there
    ]

pub part_misses : (r n : ℕ) (chunk : List Change) (m : Memory) (at : ℕ) → IsPoked chunk → IsBeside chunk at → written (take n (round r chunk)) m at ≡ m at
part_misses r n chunk m at poked beside =
    written_misses (take n (round r chunk)) m at (λ w h.
    round_misses r chunk at poked beside w (has_take n (round r chunk) w h))

-- list 3 j + r of the rounds of all chunks
abbrev pub thrice : ℕ → ℕ → ℕ
thrice zero r = r
thrice (suc j) r = suc (suc (suc (thrice j r)))

pub thrice_is : (j r : ℕ) → thrice j r ≡ 3 * j + r
thrice_is zero r = omega arith
thrice_is (suc j) r = let rest : thrice j r ≡ 3 * j + r = thrice_is j r in omega arith

-- is round r of chunk j
pub round_at : (chunks : List (List Change)) (j r : ℕ) → r < 3 → get_or (rounds chunks) (thrice j r) [] ≡ round r (get_or chunks j [])
round_at [] j zero below = refl
round_at [] j (suc zero) below = refl
round_at [] j (suc (suc zero)) below = refl
round_at [] j (suc (suc (suc r))) below = absurd (omega arith)
round_at (c ∷ chunks) zero zero below = refl
round_at (c ∷ chunks) zero (suc zero) below = refl
round_at (c ∷ chunks) zero (suc (suc zero)) below = refl
round_at (c ∷ chunks) zero (suc (suc (suc r))) below = absurd (omega arith)
round_at (c ∷ chunks) (suc j) r below = round_at chunks j r below

pub take_none : {A : Type 0} (n : ℕ) → ◌≡◌ {A = List A} (take n []) []
take_none zero = refl
take_none (suc n) = refl

-- three rounds, and what follows them
pub three_rounds : (chunk : List Change) (more : List Write) (m : Memory) → written (traps chunk ++ (tails chunk ++ (firsts chunk ++ more))) m ≡ written more (after_rounds 3 chunk m)
three_rounds chunk more m =
    written_append (traps chunk) (tails chunk ++ (firsts chunk ++ more)) m
    ∙ written_append (tails chunk) (firsts chunk ++ more) (written (traps chunk) m)
    ∙ written_append (firsts chunk) more (written (tails chunk) (written (traps chunk) m))

-- no rounds of no chunk
no_rounds : (r : ℕ) (m : Memory) → r < 3 → m ≡ after_rounds r [] m
no_rounds zero m below = refl
no_rounds (suc zero) m below = refl
no_rounds (suc (suc zero)) m below = refl
no_rounds (suc (suc (suc r))) m below = absurd (omega arith)

-- after the writes before round r of chunk j, the text is the one after r rounds of that chunk, from that after the chunks before
pub rounds_past : (chunks : List (List Change)) (j r : ℕ) (m : Memory) → r < 3 → written (joined (take (thrice j r) (rounds chunks))) m ≡ after_rounds r (get_or chunks j []) (written (joined (rounds (take j chunks))) m)
rounds_past [] j r m below =
    ap (λ (l : List (List Write)). written (joined l) m) (take_none (thrice j r))
    ∙ no_rounds r m below
    ∙ ap (λ (l : List (List Change)). after_rounds r [] (written (joined (rounds l)) m)) (sym (take_none j))
rounds_past (c ∷ chunks) zero zero m below = refl
rounds_past (c ∷ chunks) zero (suc zero) m below = ap (λ (l : List Write). written l m) (append-nil (traps c))
rounds_past (c ∷ chunks) zero (suc (suc zero)) m below =
    written_append (traps c) (tails c ++ []) m
    ∙ ap (λ (l : List Write). written l (written (traps c) m)) (append-nil (tails c))
rounds_past (c ∷ chunks) zero (suc (suc (suc r))) m below = absurd (omega arith)
rounds_past (c ∷ chunks) (suc j) r m below =
    three_rounds c (joined (take (thrice j r) (rounds chunks))) m
    ∙ rounds_past chunks j r (after_rounds 3 c m) below
    ∙ ap (λ (l : Memory). after_rounds r (get_or chunks j []) l) (sym (three_rounds c (joined (rounds (take j chunks))) m))

-- so many writes are those of the lists before number g, and some of that list
pub record IsWithin (lists : List (List Write)) (g k : ℕ) : Type 0 where
  pub some : ℕ
  pub count : k ≡ length (joined (take g lists)) + some
  pub is : take k (joined lists) ≡ joined (take g lists) ++ take some (get_or lists g [])

pub within : (lists : List (List Write)) (g k : ℕ) → length (joined (take g lists)) ≤ k → k ≤ length (joined (take (suc g) lists)) → IsWithin lists g k
within [] zero k from to = record { some = 0; count = omega arith; is = take_none k }
within [] (suc g) k from to = record { some = 0; count = omega arith; is = take_none k }
within (ws ∷ lists) zero k from to =
    let long : length (ws ++ joined (take zero lists)) ≡ length ws + 0 = length-append ws (joined (take zero lists)) in
    record { some = k; count = omega arith; is = take-append-le k ws (joined lists) (omega arith) }
within (ws ∷ lists) (suc g) k from to =
    let low : length (ws ++ joined (take g lists)) ≡ length ws + length (joined (take g lists)) = length-append ws (joined (take g lists)) in
    let high : length (ws ++ joined (take (suc g) lists)) ≡ length ws + length (joined (take (suc g) lists)) = length-append ws (joined (take (suc g) lists)) in
    let rest : IsWithin lists g (k - length ws) = within lists g (k - length ws) (omega arith) (omega arith) in
    let count : k - length ws ≡ length (joined (take g lists)) + rest.some = rest.count in
    let same : k ≡ length ws + (k - length ws) = omega arith in
    record {
      some = rest.some;
      count = omega arith;
      is = ap (λ (n : ℕ). take n (ws ++ joined lists)) same
          ∙ take-append-add ws (joined lists) (k - length ws)
          ∙ ap (λ (l : List Write). ws ++ l) rest.is
          ∙ sym (append_assoc ws (joined (take g lists)) (take rest.some (get_or lists g [])));
    }

-- how many writes there are before the next list
pub list_more : (lists : List (List Write)) (g : ℕ) → length (joined (take (suc g) lists)) ≡ length (joined (take g lists)) + length (get_or lists g [])
list_more [] zero = refl
list_more [] (suc g) = refl
list_more (ws ∷ lists) zero =
    let long : length (ws ++ joined (take zero lists)) ≡ length ws + 0 = length-append ws (joined (take zero lists)) in
    omega arith
list_more (ws ∷ lists) (suc g) =
    let low : length (ws ++ joined (take g lists)) ≡ length ws + length (joined (take g lists)) = length-append ws (joined (take g lists)) in
    let high : length (ws ++ joined (take (suc g) lists)) ≡ length ws + length (joined (take (suc g) lists)) = length-append ws (joined (take (suc g) lists)) in
    let rest : length (joined (take (suc g) lists)) ≡ length (joined (take g lists)) + length (get_or lists g []) = list_more lists g in
    omega arith
