-- The line of an event tells the event.
use Rattle.std.proofs.Common.{◌≡◌, ℕ, ◌<◌, ◌≤◌, ◌==◌, if◌then◌else◌, List, [], ◌∷◌, ◌++◌, length, refl, sym, ◌∙◌, ap, arith, inl, inr, append-nil, codes, append_assoc, Some, None, Ok}
use Rattle.std.specs.Prelude.{Option, Result, unwrap_or}
use Rattle.std.specs.List.{All}
use Rattle.std.proofs.lemmas.Bool.{cases_lt}
use Rattle.std.proofs.lemmas.List.{get_or_past}
use Rattle.std.proofs.lemmas.List.Elements.{All-get_or}
use Rattle.std.proofs.lemmas.Option.{same_Some}
use Rattle.hex.specs.declared.error.FromHexError.{FromHexError}
use Rattle.hex.specs.Hex.{decode_of, encode_lower, IsBytes}
use Rattle.hex.proofs.HexLemmas.{decode_of-encode_lower}
use Rattle.poke_base.specs.Number.{decimal, dec_number}
use Rattle.poke_base.proofs.Numbers.{dec_number-decimal}
use Rattle.run_journal.specs.declared.event.Event.{Event}
use Rattle.run_journal.specs.declared.event.Event.TheVariants.{Begin, Write, Request, Take, Return, Plain, At, Handle, Tick}
use Rattle.run_journal.specs.Spelling.{letter, cpu_of, bytes_of, cpu_word, bytes_word}
use Rattle.run_journal.specs.Laws.{HasLine, LinesAreApart}
use Rattle.run_journal.proofs.Words.{in_word, word_ends, is_word-decimal, is_word-encode_lower}

-- one number for each decimal spelling
decimal-same : (c d : ℕ) → c ≤ 15 → d ≤ 15 → decimal c ≡ decimal d → c ≡ d
decimal-same c d few less e =
    same_Some _ _ (sym (dec_number-decimal c (omega arith)) ∙ ap dec_number e ∙ dec_number-decimal d (omega arith))

-- bytes, as the decoder counts them
pub are_bytes : (bytes : List ℕ) → All (λ byte. byte < 256) bytes → IsBytes bytes
are_bytes bytes p i =
    elim (cases_lt i (length bytes)) [
      | inl inside ↦ All-get_or (λ byte. byte < 256) bytes i 0 inside p
      | inr past ↦ rw (get_or_past bytes i 0 past) (omega arith)
    ]

-- one list of bytes for each hexadecimal spelling
encode_lower-same : (bytes other : List ℕ) → All (λ byte. byte < 256) bytes → All (λ byte. byte < 256) other → encode_lower bytes ≡ encode_lower other → bytes ≡ other
encode_lower-same bytes other p q e = go (decode_of-encode_lower bytes (are_bytes bytes p)) (decode_of-encode_lower other (are_bytes other q)) (ap decode_of e)
  where
    go : {x y : Result (List ℕ) FromHexError} → x ≡ Ok bytes → y ≡ Ok other → x ≡ y → bytes ≡ other
    go p q e = cc

-- what follows the letter in the line of an event
abbrev tail : Option ℕ → Option (List ℕ) → List ℕ → List ℕ
tail cpu bytes rest = (cpu_word cpu ++ bytes_word bytes ++ 10 ∷ []) ++ rest

-- a word after a space, and what follows it
spaced : (word rest : List ℕ) → (codes " " ++ word ++ [] ++ 10 ∷ []) ++ rest ≡ 32 ∷ (word ++ 10 ∷ rest)
spaced word rest =
    ap (λ l. 32 ∷ l) (append_assoc (word ++ []) (10 ∷ []) rest ∙ ap (λ (w : List ℕ). w ++ 10 ∷ rest) (append-nil word))

spaced_twice : (word other rest : List ℕ) → (codes " " ++ word ++ (codes " " ++ other) ++ 10 ∷ []) ++ rest ≡ 32 ∷ (word ++ 32 ∷ (other ++ 10 ∷ rest))
spaced_twice word other rest =
    ap (λ l. 32 ∷ l) (append_assoc (word ++ 32 ∷ other) (10 ∷ []) rest ∙ append_assoc word (32 ∷ other) (10 ∷ rest))

-- the parts of an event
pub data Parts : Option ℕ → Option (List ℕ) → Type 0 where
  nothing : Parts None None
  number : (cpu : ℕ) → cpu ≤ 15 → Parts (Some cpu) None
  fetch : (cpu : ℕ) (bytes : List ℕ) → cpu ≤ 15 → All (λ byte. byte < 256) bytes → Parts (Some cpu) (Some bytes)

pub parts_of : (e : Event) → HasLine e → Parts (cpu_of e) (bytes_of e)
parts_of Begin h = nothing
parts_of Write h = nothing
parts_of Request h = nothing
parts_of (Take cpu) h = number cpu (h.cpu cpu refl)
parts_of Return h = nothing
parts_of (Plain cpu) h = number cpu (h.cpu cpu refl)
parts_of (At cpu bytes) h = fetch cpu bytes.items (h.cpu cpu refl) (h.bytes bytes.items refl).each
parts_of (Handle cpu) h = number cpu (h.cpu cpu refl)
parts_of (Tick cpu) h = number cpu (h.cpu cpu refl)

-- what follows the letter tells the parts
abbrev Same : Option ℕ → Option (List ℕ) → Option ℕ → Option (List ℕ) → List ℕ → List ℕ → Type 0
Same cpu bytes other others rest more = (cpu ≡ other) × (bytes ≡ others) × (rest ≡ more)

number_number : (c d : ℕ) (rest more : List ℕ) → c ≤ 15 → d ≤ 15 → 32 ∷ (decimal c ++ 10 ∷ rest) ≡ 32 ∷ (decimal d ++ 10 ∷ more) → (c ≡ d) × (rest ≡ more)
number_number c d rest more p q e =
    let tails : decimal c ++ 10 ∷ rest ≡ decimal d ++ 10 ∷ more = cc in
    let ends = word_ends in_word (decimal c) (decimal d) rest more 10 10 (is_word-decimal c p) (is_word-decimal d q) refl refl tails in
    let after : 10 ∷ rest ≡ 10 ∷ more = ends.1 in
    (decimal-same c d p q ends.0, cc)

-- the number, and what follows it up to another byte
number_fetch : (c d : ℕ) (rest more : List ℕ) → c ≤ 15 → d ≤ 15 → 32 ∷ (decimal c ++ 10 ∷ rest) ≡ 32 ∷ (decimal d ++ 32 ∷ more) → ⊥
number_fetch c d rest more p q e =
    let tails : decimal c ++ 10 ∷ rest ≡ decimal d ++ 32 ∷ more = cc in
    let ends = word_ends in_word (decimal c) (decimal d) rest more 10 32 (is_word-decimal c p) (is_word-decimal d q) refl refl tails in
    let after : 10 ∷ rest ≡ 32 ∷ more = ends.1 in
    cc

fetch_fetch : (c d : ℕ) (v w rest more : List ℕ) → c ≤ 15 → d ≤ 15 → All (λ byte. byte < 256) v → All (λ byte. byte < 256) w
    → 32 ∷ (decimal c ++ 32 ∷ (encode_lower v ++ 10 ∷ rest)) ≡ 32 ∷ (decimal d ++ 32 ∷ (encode_lower w ++ 10 ∷ more)) → (c ≡ d) × (v ≡ w) × (rest ≡ more)
fetch_fetch c d v w rest more p q each all e =
    let tails : decimal c ++ 32 ∷ (encode_lower v ++ 10 ∷ rest) ≡ decimal d ++ 32 ∷ (encode_lower w ++ 10 ∷ more) = cc in
    let ends = word_ends in_word (decimal c) (decimal d) (encode_lower v ++ 10 ∷ rest) (encode_lower w ++ 10 ∷ more) 32 32 (is_word-decimal c p) (is_word-decimal d q) refl refl tails in
    let first : 32 ∷ (encode_lower v ++ 10 ∷ rest) ≡ 32 ∷ (encode_lower w ++ 10 ∷ more) = ends.1 in
    let others : encode_lower v ++ 10 ∷ rest ≡ encode_lower w ++ 10 ∷ more = cc in
    let last = word_ends in_word (encode_lower v) (encode_lower w) rest more 10 10 (is_word-encode_lower v) (is_word-encode_lower w) refl refl others in
    let after : 10 ∷ rest ≡ 10 ∷ more = last.1 in
    (decimal-same c d p q ends.0, encode_lower-same v w each all last.0, cc)

tails_tell : (cpu other : Option ℕ) (bytes others : Option (List ℕ)) (rest more : List ℕ) → Parts cpu bytes → Parts other others → tail cpu bytes rest ≡ tail other others more → Same cpu bytes other others rest more
tails_tell _ _ _ _ rest more nothing nothing e = (refl, refl, cc)
tails_tell _ _ _ _ rest more nothing (number d q) e = absurd (cc)
tails_tell _ _ _ _ rest more nothing (fetch d w q all) e = absurd (cc)
tails_tell _ _ _ _ rest more (number c p) nothing e = absurd (cc)
tails_tell _ _ _ _ rest more (number c p) (number d q) e =
    let same = number_number c d rest more p q (sym (spaced (decimal c) rest) ∙ e ∙ spaced (decimal d) more) in
    (ap Some same.0, refl, same.1)
tails_tell _ _ _ _ rest more (number c p) (fetch d w q all) e =
    absurd (number_fetch c d rest (encode_lower w ++ 10 ∷ more) p q (sym (spaced (decimal c) rest) ∙ e ∙ spaced_twice (decimal d) (encode_lower w) more))
tails_tell _ _ _ _ rest more (fetch c v p each) nothing e = absurd (cc)
tails_tell _ _ _ _ rest more (fetch c v p each) (number d q) e =
    absurd (number_fetch d c more (encode_lower v ++ 10 ∷ rest) q p (sym (spaced (decimal d) more) ∙ sym e ∙ spaced_twice (decimal c) (encode_lower v) rest))
tails_tell _ _ _ _ rest more (fetch c v p each) (fetch d w q all) e =
    let same = fetch_fetch c d v w rest more p q each all (sym (spaced_twice (decimal c) (encode_lower v) rest) ∙ e ∙ spaced_twice (decimal d) (encode_lower w) more) in
    (ap Some same.0, ap Some same.1, same.2)

-- the event of a letter, a number and bytes
abbrev pub event_of : ℕ → Option ℕ → Option (List ℕ) → Event
event_of letter cpu bytes =
    if letter == 98 then Begin
    else if letter == 119 then Write
    else if letter == 115 then Request
    else if letter == 116 then Take (unwrap_or cpu 0)
    else if letter == 114 then Return
    else if letter == 112 then Plain (unwrap_or cpu 0)
    else if letter == 97 then At (unwrap_or cpu 0) (record { items = unwrap_or bytes [] })
    else if letter == 104 then Handle (unwrap_or cpu 0)
    else Tick (unwrap_or cpu 0)

pub event_of-parts : (e : Event) → event_of (letter e) (cpu_of e) (bytes_of e) ≡ e
event_of-parts Begin = refl
event_of-parts Write = refl
event_of-parts Request = refl
event_of-parts (Take cpu) = refl
event_of-parts Return = refl
event_of-parts (Plain cpu) = refl
event_of-parts (At cpu bytes) = refl
event_of-parts (Handle cpu) = refl
event_of-parts (Tick cpu) = refl

pub lines_are_apart : LinesAreApart
lines_are_apart e f rest more p q same =
    let first : letter e ≡ letter f = cc in
    let tails : tail (cpu_of e) (bytes_of e) rest ≡ tail (cpu_of f) (bytes_of f) more = cc in
    let parts = tails_tell (cpu_of e) (cpu_of f) (bytes_of e) (bytes_of f) rest more (parts_of e p) (parts_of f q) tails in
    (sym (event_of-parts e) ∙ (λ i. event_of (first i) (parts.0 i) (parts.1 i)) ∙ event_of-parts f, parts.2)
