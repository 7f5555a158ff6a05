-- The lines of events, and their parts.
use Rattle.std.proofs.Common.{◌≡◌, ℕ, ◌<◌, ◌≤◌, ◌==◌, Bool, true, not, List, [], ◌∷◌, ◌++◌, length, Option, refl, sym, ap, ◌∙◌, arith, append_assoc, length-append}
use Rattle.std.specs.List.{list_all}
use Rattle.std.proofs.lemmas.Bool.{and_from, and_parts}
use Rattle.std.proofs.lemmas.List.Folds.{list_all-append}
use Rattle.hex.specs.Hex.{encode_lower, lower_digits}
use Rattle.hex.proofs.HexLemmas.{length-encode_with}
use Rattle.std.specs.Option.{ForSome}
use Rattle.poke_base.specs.Number.{decimal}
use Rattle.run_journal.specs.declared.event.Event.{Event}
use Rattle.run_journal.specs.declared.event.Event.TheVariants.{Begin, Write, Request, Take, Return, Plain, At, Handle, Tick}
use Rattle.run_journal.specs.Spelling.{letter, cpu_of, bytes_of, cpu_word, bytes_word, event_line}
use Rattle.run_journal.specs.Laws.{HasLine, IsFetched}
use Rattle.run_journal.specs.Parts.{BeginsWith, IsCode, IsCpu, IsSpacedFetch, IsSpelt, IsSplit, words_of}
use Rattle.run_journal.proofs.Splits.{split_same}
use Rattle.run_journal.proofs.Words.{in_word, is_word-decimal, is_word-encode_lower, length-decimal_cpu}
use Rattle.run_journal.proofs.Apart.{Parts, nothing, number, fetch, parts_of}

-- ---- the words after a letter

-- in a word is no space
no_space : (byte : ℕ) → in_word byte ≡ true → not (byte == 32) ≡ true
no_space byte h = (and_parts (not (byte == 32)) (not (byte == 10)) h).0

-- and no line feed
no_feed : (byte : ℕ) → in_word byte ≡ true → not (byte == 10) ≡ true
no_feed byte h = (and_parts (not (byte == 32)) (not (byte == 10)) h).1

-- a test that follows for each byte
all_follows : (p q : ℕ → Bool) → ((byte : ℕ) → p byte ≡ true → q byte ≡ true) → (word : List ℕ) → list_all p word ≡ true → list_all q word ≡ true
all_follows p q step [] h = refl
all_follows p q step (byte ∷ word) h =
    let parts = and_parts (p byte) (list_all p word) h in
    and_from (q byte) (list_all q word) (step byte parts.0) (all_follows p q step word parts.1)

-- two words after a space each are split at the second space
spaced_split : (text : List ℕ) (cpu : ℕ) (bytes : List ℕ) → IsSpacedFetch (32 ∷ text) cpu bytes → IsSplit 32 text (decimal cpu) (encode_lower bytes)
spaced_split text cpu bytes h =
    record { whole = cc h.spelt; first = all_follows in_word (λ byte. not (byte == 32)) no_space (decimal cpu) (is_word-decimal cpu h.few) }

same_words : (words text : List ℕ) (cpu : ℕ) (bytes : List ℕ) → words ≡ 32 ∷ text → IsSpacedFetch words cpu bytes → IsSpacedFetch (32 ∷ text) cpu bytes
same_words words text cpu bytes e h = rw e at h

-- where the first word is no number of a processor, or the second one isn't bytes, the words are not both
pub no_cpu_word : (words text word back : List ℕ) → words ≡ 32 ∷ text → IsSplit 32 text word back → ((cpu : ℕ) → IsCpu word cpu → ⊥)
    → (cpu : ℕ) (bytes : List ℕ) → IsSpacedFetch words cpu bytes → ⊥
no_cpu_word words text word back e split none cpu bytes h =
    let parts = split_same 32 text word (decimal cpu) back (encode_lower bytes) split (spaced_split text cpu bytes (same_words words text cpu bytes e h)) in
    none cpu (record { few = h.few; spelt = parts.0 })

pub no_bytes_word : (words text word back : List ℕ) → words ≡ 32 ∷ text → IsSplit 32 text word back → ((bytes : List ℕ) → IsCode back bytes → ⊥)
    → (cpu : ℕ) (bytes : List ℕ) → IsSpacedFetch words cpu bytes → ⊥
no_bytes_word words text word back e split none cpu bytes h =
    let parts = split_same 32 text word (decimal cpu) back (encode_lower bytes) split (spaced_split text cpu bytes (same_words words text cpu bytes e h)) in
    none bytes (record { fetched = h.fetched; spelt = parts.1 })

-- ---- a line

-- what stands before an event's line feed
abbrev pub line_text : Event → List ℕ
line_text e = letter e ∷ words_of e

-- and the line feed after it
line_whole : (e : Event) (back : List ℕ) → event_line e ++ back ≡ line_text e ++ 10 ∷ back
line_whole e back = ap (λ l. letter e ∷ l) (append_assoc (words_of e) (10 ∷ []) back)

-- a line has at most 23 bytes before its line feed
short_words : (cpu : Option ℕ) (bytes : Option (List ℕ)) → Parts cpu bytes → ForSome bytes IsFetched → length (cpu_word cpu ++ bytes_word bytes) ≤ 22
short_words _ _ nothing h = omega arith
short_words _ _ (number cpu few) h =
    let len = length-decimal_cpu cpu few in
    let whole = length-append (32 ∷ decimal cpu) [] in
    omega arith
short_words _ _ (fetch cpu bytes few each) h =
    let len = length-decimal_cpu cpu few in
    let code = length-encode_with lower_digits bytes in
    let whole = length-append (32 ∷ decimal cpu) (32 ∷ encode_lower bytes) in
    omega (arith, (h bytes refl).few)

short_line : (e : Event) → HasLine e → length (line_text e) < 24
short_line e h =
    let words = short_words (cpu_of e) (bytes_of e) (parts_of e h) h.bytes in
    omega arith

-- and no line feed among them
all_both : (p : ℕ → Bool) (xs ys : List ℕ) → list_all p xs ≡ true → list_all p ys ≡ true → list_all p (xs ++ ys) ≡ true
all_both p xs ys h k = list_all-append p xs ys ∙ and_from (list_all p xs) (list_all p ys) h k

plain_words : (cpu : Option ℕ) (bytes : Option (List ℕ)) → Parts cpu bytes → list_all (λ byte. not (byte == 10)) (cpu_word cpu ++ bytes_word bytes) ≡ true
plain_words _ _ nothing = refl
plain_words _ _ (number cpu few) =
    all_both (λ byte. not (byte == 10)) (32 ∷ decimal cpu) [] (all_follows in_word (λ byte. not (byte == 10)) no_feed (decimal cpu) (is_word-decimal cpu few)) refl
plain_words _ _ (fetch cpu bytes few each) =
    all_both (λ byte. not (byte == 10)) (32 ∷ decimal cpu) (32 ∷ encode_lower bytes)
    (all_follows in_word (λ byte. not (byte == 10)) no_feed (decimal cpu) (is_word-decimal cpu few))
    (all_follows in_word (λ byte. not (byte == 10)) no_feed (encode_lower bytes) (is_word-encode_lower bytes))

-- nor is the letter one
plain_letter : (e : Event) → not (letter e == 10) ≡ true
plain_letter Begin = refl
plain_letter Write = refl
plain_letter Request = refl
plain_letter (Take cpu) = refl
plain_letter Return = refl
plain_letter (Plain cpu) = refl
plain_letter (At cpu bytes) = refl
plain_letter (Handle cpu) = refl
plain_letter (Tick cpu) = refl

-- a text that begins with an event's line is split at the line's end
split_event : (e : Event) (text back : List ℕ) → BeginsWith e text back → IsSplit 10 text (line_text e) back
split_event e text back h =
    record {
      whole = h.whole ∙ line_whole e back;
      first = and_from (not (letter e == 10)) (list_all (λ byte. not (byte == 10)) (words_of e)) (plain_letter e) (plain_words (cpu_of e) (bytes_of e) (parts_of e h.has_line));
    }

-- where no line is short enough, the text doesn't begin with one
pub no_short_line : (text : List ℕ) → ((line back : List ℕ) → length line < 24 → text ≡ line ++ 10 ∷ back → ⊥) → (e : Event) (back : List ℕ) → BeginsWith e text back → ⊥
no_short_line text none e back h = none (line_text e) back (short_line e h.has_line) (split_event e text back h).whole

-- where the first line is no event's, the text doesn't begin with one
pub no_event_line : (text line rest : List ℕ) (first : ℕ) (words : List ℕ) → IsSplit 10 text line rest → line ≡ first ∷ words → ((e : Event) → IsSpelt e first words → ⊥)
    → (e : Event) (back : List ℕ) → BeginsWith e text back → ⊥
no_event_line text line rest first words split whole none e back h =
    let same = (split_same 10 text line (line_text e) rest back split (split_event e text back h)).0 in
    let line : first ∷ words ≡ letter e ∷ words_of e = sym whole ∙ same in
    none e (record { has_line = h.has_line; begins = cc; goes_on = cc })

-- an empty first line is no event's
pub no_empty_line : (text line rest : List ℕ) → IsSplit 10 text line rest → length line ≡ 0 → (e : Event) (back : List ℕ) → BeginsWith e text back → ⊥
no_empty_line text line rest split none e back h =
    let same = (split_same 10 text line (line_text e) rest back split (split_event e text back h)).0 in
    omega (arith, ap length same)

-- and where it is, the text begins with it
pub begins_with : (e : Event) (text line rest : List ℕ) (first : ℕ) (words : List ℕ) → IsSplit 10 text line rest → line ≡ first ∷ words → IsSpelt e first words → BeginsWith e text rest
begins_with e text line rest first words split whole h =
    let same : line ≡ line_text e = whole ∙ (λ i. sym h.begins i ∷ sym h.goes_on i) in
    record { has_line = h.has_line; whole = split.whole ∙ ap (λ l. l ++ 10 ∷ rest) same ∙ sym (line_whole e rest) }
