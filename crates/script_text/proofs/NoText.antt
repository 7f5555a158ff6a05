-- Bytes that are no UTF-8 are no command.
use Rattle.std.proofs.Common.{◌≡◌, ◌<◌, ℕ, Bool, true, false, List, ◌∷◌, None, Ok, Err, Result, Bor, nat_lt, refl, sym, subst}
use Rattle.std.specs.Prelude.{MatchResult, codes}
use Rattle.std.specs.List.{list_all}
use Rattle.std.specs.Result.{result_ok}
use Rattle.std.specs.Str.{IsUtf8, bytes_eq}
use Rattle.std.proofs.lemmas.Bool.{ltb-true}
use Rattle.std.proofs.lemmas.List.Elements.{All-weaker}
use Rattle.std.proofs.lemmas.List.Sums.{AllPass-from_list_all}
use Rattle.std.proofs.lemmas.Slice.Eq.{bytes_eq-Decides}
use Rattle.std.proofs.lemmas.Str.{IsUtf8-from_ascii}
use Rattle.std.proofs.lemmas.Str.Ascii.{IsAscii-from_all}
use Rattle.script_text.specs.Grammar.{line_of}

-- bytes below 128 are a text
abbrev is_ascii : List ℕ → Bool
is_ascii bytes = list_all (λ b. nat_lt b 128) bytes

text_of : (bytes : List ℕ) → is_ascii bytes ≡ true → IsUtf8 bytes
text_of bytes is =
    IsUtf8-from_ascii bytes
    (IsAscii-from_all bytes (All-weaker (λ b. nat_lt b 128 ≡ true) (λ b. b < 128) (λ b e. ltb-true b 128 e) bytes (AllPass-from_list_all (λ b. nat_lt b 128) bytes is)))

-- no others are those of a text
other : (name text : List ℕ) → ¬ (IsUtf8 name) → is_ascii text ≡ true → bytes_eq name text ≡ false
other name text broken is = by (bytes_eq name text) refl
  where
    by : (same : Bool) → bytes_eq name text ≡ same → same ≡ false
    by true e = absurd (broken (subst IsUtf8 (sym ((bytes_eq-Decides name text).0 e)) (text_of text is)))
    by false e = refl

pub unread : (name : List ℕ) (words : List (List ℕ)) → ¬ (IsUtf8 name) → line_of (name ∷ words) ≡ None
unread name words broken =
    rw (other name (codes "cpu") broken refl, other name (codes "inc") broken refl, other name (codes "dec") broken refl, other name (codes "enable") broken refl, other name (codes "disable") broken refl)
    (rw (other name (codes "call") broken refl, other name (codes "trace") broken refl, other name (codes "untrace") broken refl, other name (codes "run") broken refl, other name (codes "drop") broken refl) refl)

-- what isn't read as a text is none
pub no_text : {E : Type 0} (P : E → Type 0) (bytes : List ℕ) (read : Result (Bor (List ℕ)) E) → MatchResult read (λ s. (s.now ≡ bytes) × IsUtf8 bytes) (λ e. ¬ (IsUtf8 bytes) × P e)
    → result_ok read ≡ None → ¬ (IsUtf8 bytes)
no_text P bytes (Ok text) cases none = absurd (cc)
no_text P bytes (Err e) cases none = cases.0
