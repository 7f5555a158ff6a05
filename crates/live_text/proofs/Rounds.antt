-- The three rounds of a chunk's poke: which writes they have, and which bytes of the sites they write.
--
-- For the laws:
--   round, IsPoked, BytesAre   the writes of a round; what holds of every chunk; the bytes of its sites after some rounds
--   spelt_as                   IsSome (spell form at) → spell form at ≡ Some (spelled form at); length-spelled likewise
--   spellable                  IsPoked chunk → Has chunk k → IsSpellable k
--   apart_same                 two changes of a chunk that share a byte are one
--   round_of                   IsPoked chunk → Has (round r chunk) w → IsOf r chunk w
use Rattle.std.proofs.Common.{◌≡◌, ◌≢◌, ◌⊎◌, inl, inr, ℕ, zero, suc, ◌+◌, ◌<◌, ◌≤◌, List, [], ◌∷◌, length, map, drop, get_or, Option, Some, None, IsSome, refl, ap, sym, ◌∙◌, subst, arith, All}
use Rattle.std.specs.Prelude.{unwrap_or}
use Rattle.std.specs.List.{Contains}
use Rattle.std.proofs.lemmas.List.Elements.{All-contains}
use Rattle.insn_forms.specs.declared.forms.Change.{Change}
use Rattle.insn_forms.specs.declared.forms.Form.{Form}
use Rattle.insn_forms.specs.Spelling.{spell, size}
use Rattle.insn_forms.specs.Write.{Write}
use Rattle.insn_forms.specs.History.{Memory}
use Rattle.insn_forms.proofs.Spellings.{length-spell, size_pos}
use Rattle.poke_batch.specs.Poke.{spelled, writes_from, traps, tails, firsts}
use Rattle.poke_batch.specs.Underway.{AreApart}
use Rattle.live_text.specs.Table.{byte_after}
use Rattle.live_text.proofs.Writes.{Has, Puts, has_contains, has_left, has_right, has_cases}

-- the writes of a round: breakpoints, tails, first bytes; there are no more
abbrev pub round : ℕ → List Change → List Write
round zero chunk = traps chunk
round (suc zero) chunk = tails chunk
round (suc (suc zero)) chunk = firsts chunk
round (suc (suc (suc n))) chunk = []

-- a change between two forms of one size that have spellings at its address
pub record IsSpellable (c : Change) : Type 0 where
  pub one_size : size c.old ≡ size c.new
  pub old_spelt : IsSome (spell c.old c.at)
  pub new_spelt : IsSome (spell c.new c.at)

-- what holds of every chunk
pub record IsPoked (chunk : List Change) : Type 0 where
  pub each : All IsSpellable chunk
  pub apart : AreApart chunk

-- the bytes of the sites are those after so many rounds
abbrev pub BytesAre : Memory → ℕ → List Change → Type 0
BytesAre m r chunk = (k : Change) (j : ℕ) → Contains chunk k → j < size k.old → m (k.at + j) ≡ byte_after r k j

-- a form that has a spelling has this one
pub spelt_as : (form : Form) (at : ℕ) → IsSome (spell form at) → spell form at ≡ Some (spelled form at)
spelt_as form at some = go (spell form at) some
  where
    go : (o : Option (List ℕ)) → IsSome o → o ≡ Some (unwrap_or o [])
    go (Some code) is = refl
    go None is = absurd (cc)

pub length-spelled : (form : Form) (at : ℕ) → IsSome (spell form at) → length (spelled form at) ≡ size form
length-spelled form at some = length-spell form at (spelled form at) (spelt_as form at some)

-- a change of a chunk
pub spellable : (chunk : List Change) (k : Change) → IsPoked chunk → Has chunk k → IsSpellable k
spellable chunk k poked has = All-contains IsSpellable chunk k poked.each (has_contains chunk k has)

-- a change ends before the changes after it begin
apart_head : (c : Change) (chunk : List Change) (k : Change) → AreApart (c ∷ chunk) → Has chunk k → c.at + size c.old ≤ k.at
apart_head c chunk k apart has =
    let place : Contains chunk k = has_contains chunk k has in
    let below : place.0 < length chunk = place.1 in
    subst (λ (l : Change). c.at + size c.old ≤ l.at) place.2 (apart 0 (suc place.0) k (omega arith) (omega arith))

apart_tail : (c : Change) (chunk : List Change) → AreApart (c ∷ chunk) → AreApart chunk
apart_tail c chunk apart i j d lt below = apart (suc i) (suc j) d (omega arith) (omega arith)

-- two changes of a chunk that share a byte are one
pub apart_same : (chunk : List Change) (k l : Change) (i j : ℕ) → AreApart chunk → Has chunk k → Has chunk l → i < size k.old → j < size l.old → k.at + i ≡ l.at + j → k ≡ l
apart_same [] k l i j apart h g p q e = elim h [ ]
apart_same (c ∷ chunk) k l i j apart (inl a) (inl b) p q e = sym a ∙ b
apart_same (c ∷ chunk) k l i j apart (inl a) (inr g) p q e =
    let order : k.at + size k.old ≤ l.at = subst (λ (x : Change). x.at + size x.old ≤ l.at) a (apart_head c chunk l apart g) in
    absurd (omega arith)
apart_same (c ∷ chunk) k l i j apart (inr h) (inl b) p q e =
    let order : l.at + size l.old ≤ k.at = subst (λ (x : Change). x.at + size x.old ≤ k.at) b (apart_head c chunk k apart h) in
    absurd (omega arith)
apart_same (c ∷ chunk) k l i j apart (inr h) (inr g) p q e =
    apart_same chunk k l i j (apart_tail c chunk apart) h g p q e

-- a write of a round is to a byte of a site of the chunk, and writes what stands there after the round
pub record IsOf (r : ℕ) (chunk : List Change) (w : Write) : Type 0 where
  pub change : Change
  pub place : ℕ
  pub has : Has chunk change
  pub below : place < size change.old
  pub at : w.at ≡ change.at + place
  pub byte : w.byte ≡ byte_after (suc r) change place

is_of_more : (r : ℕ) (c : Change) (chunk : List Change) (w : Write) → IsOf r chunk w → IsOf r (c ∷ chunk) w
is_of_more r c chunk w of = record {
  change = of.change;
  place = of.place;
  has = inr of.has;
  below = of.below;
  at = of.at;
  byte = of.byte;
}

-- a write to the first byte of a site
is_of_first : (r : ℕ) (c : Change) (chunk : List Change) (w : Write) → w.at ≡ c.at → w.byte ≡ byte_after (suc r) c zero → IsOf r (c ∷ chunk) w
is_of_first r c chunk w at byte = record {
  change = c;
  place = zero;
  has = inl refl;
  below = size_pos c.old;
  at = omega arith;
  byte = byte;
}

traps_of : (chunk : List Change) (w : Write) → Has (traps chunk) w → IsOf 0 chunk w
traps_of [] w h = elim h [ ]
traps_of (c ∷ chunk) w (inl is) =
    is_of_first 0 c chunk w (sym (ap (λ (x : Write). x.at) is)) (sym (ap (λ (x : Write). x.byte) is))
traps_of (c ∷ chunk) w (inr later) = is_of_more 0 c chunk w (traps_of chunk w later)

firsts_of : (chunk : List Change) (w : Write) → Has (firsts chunk) w → IsOf 2 chunk w
firsts_of [] w h = elim h [ ]
firsts_of (c ∷ chunk) w (inl is) =
    is_of_first 2 c chunk w (sym (ap (λ (x : Write). x.at) is)) (sym (ap (λ (x : Write). x.byte) is))
firsts_of (c ∷ chunk) w (inr later) = is_of_more 2 c chunk w (firsts_of chunk w later)

-- a write of a row of bytes
record IsInRow (at : ℕ) (bytes : List ℕ) (w : Write) : Type 0 where
  place : ℕ
  below : place < length bytes
  there : w.at ≡ at + place
  byte : w.byte ≡ get_or bytes place 0

row_of : (at : ℕ) (bytes : List ℕ) (w : Write) → Has (writes_from at bytes) w → IsInRow at bytes w
row_of at [] w h = elim h [ ]
row_of at (b ∷ bytes) w (inl is) =
    let same : at ≡ w.at = ap (λ (x : Write). x.at) is in
    record {
      place = 0;
      below = omega arith;
      there = omega arith;
      byte = sym (ap (λ (x : Write). x.byte) is);
    }
row_of at (b ∷ bytes) w (inr later) =
    let row : IsInRow (at + 1) bytes w = row_of (at + 1) bytes w later in
    let below : row.place < length bytes = row.below in
    let there : w.at ≡ (at + 1) + row.place = row.there in
    record { place = suc row.place; below = omega arith; there = omega arith; byte = row.byte }

-- and the row has one to each of its bytes
pub record WritesTo (writes : List Write) (at : ℕ) : Type 0 where
  pub write : Write
  pub has : Has writes write
  pub there : write.at ≡ at

row_has : (at : ℕ) (bytes : List ℕ) (i to : ℕ) → i < length bytes → at + i ≡ to → WritesTo (writes_from at bytes) to
row_has at [] i to below e = absurd (omega arith)
row_has at (b ∷ bytes) zero to below e =
    record { write = record { at = at; byte = b }; has = inl refl; there = omega arith }
row_has at (b ∷ bytes) (suc i) to below e =
    let later : WritesTo (writes_from (at + 1) bytes) to = row_has (at + 1) bytes i to (omega arith) (omega arith) in
    record { write = later.write; has = inr later.has; there = later.there }

-- what follows the first byte
rest_at : (bytes : List ℕ) (i : ℕ) → get_or (drop 1 bytes) i 0 ≡ get_or bytes (suc i) 0
rest_at [] i = refl
rest_at (b ∷ bytes) i = refl

rest_below : (bytes : List ℕ) (i : ℕ) → i < length (drop 1 bytes) → suc i < length bytes
rest_below [] i below = absurd (omega arith)
rest_below (b ∷ bytes) i below = omega arith

rest_length : (bytes : List ℕ) (i : ℕ) → suc i < length bytes → i < length (drop 1 bytes)
rest_length [] i below = absurd (omega arith)
rest_length (b ∷ bytes) i below = omega arith

-- the tail of a site
abbrev tail_of : Change → List Write
tail_of c = writes_from (c.at + 1) (drop 1 (spelled c.new c.at))

tail_is_of : (c : Change) (chunk : List Change) (w : Write) → IsSpellable c → IsInRow (c.at + 1) (drop 1 (spelled c.new c.at)) w → IsOf 1 (c ∷ chunk) w
tail_is_of c chunk w s row =
    let there : w.at ≡ (c.at + 1) + row.place = row.there in
    let long : length (spelled c.new c.at) ≡ size c.new = length-spelled c.new c.at s.new_spelt in
    let same : size c.old ≡ size c.new = s.one_size in
    let below : suc row.place < length (spelled c.new c.at) = rest_below _ _ row.below in
    record {
      change = c;
      place = suc row.place;
      has = inl refl;
      below = omega arith;
      at = omega arith;
      byte = row.byte ∙ rest_at (spelled c.new c.at) row.place;
    }

tails_of : (chunk : List Change) (w : Write) → ((k : Change) → Has chunk k → IsSpellable k) → Has (tails chunk) w → IsOf 1 chunk w
tails_of [] w each h = elim h [ ]
tails_of (c ∷ chunk) w each h =
    elim (has_cases (tail_of c) (tails chunk) w h) [
      | inl here ↦ tail_is_of c chunk w (each c (inl refl)) (row_of (c.at + 1) (drop 1 (spelled c.new c.at)) w here)
      | inr later ↦ is_of_more 1 c chunk w (tails_of chunk w (λ k has. each k (inr has)) later)
    ]

pub round_of : (r : ℕ) (chunk : List Change) (w : Write) → IsPoked chunk → Has (round r chunk) w → IsOf r chunk w
round_of zero chunk w poked h = traps_of chunk w h
round_of (suc zero) chunk w poked h = tails_of chunk w (λ k has. spellable chunk k poked has) h
round_of (suc (suc zero)) chunk w poked h = firsts_of chunk w h
round_of (suc (suc (suc n))) chunk w poked h = elim h [ ]

-- so a round writes to a byte of a site what stands there after it
pub round_puts : (r : ℕ) (chunk : List Change) (k : Change) (j : ℕ) → IsPoked chunk → Has chunk k → j < size k.old → Puts (round r chunk) (k.at + j) (byte_after (suc r) k j)
round_puts r chunk k j poked has below w h there =
    let of : IsOf r chunk w = round_of r chunk w poked h in
    let meet : of.change.at + of.place ≡ k.at + j = sym of.at ∙ there in
    let same : of.change ≡ k = apart_same chunk of.change k of.place j poked.apart of.has has of.below below meet in
    let first : of.change.at ≡ k.at = ap (λ (c : Change). c.at) same in
    let place : of.place ≡ j = omega arith in
    of.byte ∙ ap (λ (c : Change). byte_after (suc r) c of.place) same ∙ ap (λ (i : ℕ). byte_after (suc r) k i) place

-- and to no other byte
pub round_misses : (r : ℕ) (chunk : List Change) (at : ℕ) → IsPoked chunk → ((k : Change) (j : ℕ) → Has chunk k → j < size k.old → at ≢ k.at + j) → (w : Write) → Has (round r chunk) w → w.at ≢ at
round_misses r chunk at poked beside w h there =
    let of : IsOf r chunk w = round_of r chunk w poked h in
    beside of.change of.place of.has of.below (sym there ∙ of.at)

-- a site's first byte is one of a round that writes first bytes
map_has : (f : Change → Write) (chunk : List Change) (k : Change) (at : ℕ) → Has chunk k → (f k).at ≡ at → WritesTo (map f chunk) at
map_has f [] k at h e = elim h [ ]
map_has f (c ∷ chunk) k at (inl is) e =
    record { write = f c; has = inl refl; there = ap (λ (x : Change). (f x).at) is ∙ e }
map_has f (c ∷ chunk) k at (inr later) e =
    let w : WritesTo (map f chunk) at = map_has f chunk k at later e in
    record { write = w.write; has = inr w.has; there = w.there }

tails_have : (chunk : List Change) (k : Change) (at : ℕ) → Has chunk k → WritesTo (tail_of k) at → WritesTo (tails chunk) at
tails_have [] k at h w = elim h [ ]
tails_have (c ∷ chunk) k at (inl is) w =
    let here : WritesTo (tail_of c) at = subst (λ (x : Change). WritesTo (tail_of x) at) (sym is) w in
    record { write = here.write; has = has_left (tail_of c) (tails chunk) here.write here.has; there = here.there }
tails_have (c ∷ chunk) k at (inr later) w =
    let rest : WritesTo (tails chunk) at = tails_have chunk k at later w in
    record { write = rest.write; has = has_right (tail_of c) (tails chunk) rest.write rest.has; there = rest.there }

-- a round writes a byte of a site, or it isn't changed by the round
pub round_has : (r : ℕ) (chunk : List Change) (k : Change) (j : ℕ) → IsPoked chunk → Has chunk k → j < size k.old → (byte_after r k j ≡ byte_after (suc r) k j) ⊎ WritesTo (round r chunk) (k.at + j)
round_has zero chunk k zero poked has below = inr (map_has _ chunk k _ has (omega arith))
round_has zero chunk k (suc j) poked has below = inl refl
round_has (suc zero) chunk k zero poked has below = inl refl
round_has (suc zero) chunk k (suc j) poked has below =
    let s : IsSpellable k = spellable chunk k poked has in
    let long : length (spelled k.new k.at) ≡ size k.new = length-spelled k.new k.at s.new_spelt in
    let same : size k.old ≡ size k.new = s.one_size in
    let inside : j < length (drop 1 (spelled k.new k.at)) = rest_length (spelled k.new k.at) j (omega arith) in
    inr (tails_have chunk k (k.at + suc j) has (row_has (k.at + 1) (drop 1 (spelled k.new k.at)) j (k.at + suc j) inside (omega arith)))
round_has (suc (suc zero)) chunk k zero poked has below = inr (map_has _ chunk k _ has (omega arith))
round_has (suc (suc zero)) chunk k (suc j) poked has below = inl refl
round_has (suc (suc (suc n))) chunk k j poked has below = inl refl
