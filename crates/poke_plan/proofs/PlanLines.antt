-- Lemmas on reading a plan file.
use Rattle.std.proofs.Common.{◌≡◌, ◌≤◌, ◌<◌, ◌+◌, ◌↔◌, ℕ, List, [], ◌∷◌, length, take, drop, Option, Some, None, refl, sym, ap, ◌∙◌, subst, arith, length-drop}
use Rattle.std.specs.List.{position_or_len, before_first, after_first}
use Rattle.std.proofs.lemmas.Grind.{common_steps}
use Rattle.poke_base.specs.Text.{IsPrefix}
use Rattle.insn_forms.specs.declared.forms.Form.{Form}
use Rattle.insn_forms.specs.Spelling.{size, BeginsWith}
use Rattle.insn_forms.proofs.Spellings.{length-spell}
use Rattle.poke_plan.specs.declared.plan_line.Wish.{Wish}
use Rattle.poke_plan.specs.PlanLine.{is_line_feed, if_last, only_line, IsOldForm}

-- a line with nothing after it
if_last-nothing : (line rest : List ℕ) → length rest ≡ 0 → if_last line rest ≡ Some line
if_last-nothing line [] none = refl
if_last-nothing line (byte ∷ rest) none = absurd (omega arith)

-- a line with something after it
if_last-more : (line rest : List ℕ) → 0 < length rest → if_last line rest ≡ None
if_last-more line [] some = absurd (omega arith)
if_last-more line (byte ∷ rest) some = refl

-- a text of one line, whose first line feed is its last byte
pub only_line-one : (text line rest : List ℕ) (end : ℕ) → end ≡ position_or_len is_line_feed text → line ≡ take end text → rest ≡ drop end text → length rest ≤ 1 → Some line ≡ only_line text
only_line-one text line rest end found prefix back short =
    ap Some prefix ∙ ap (λ (n : ℕ). Some (take n text)) found
    ∙ sym (if_last-nothing (before_first is_line_feed text) (after_first is_line_feed text) (omega (arith, length-drop (position_or_len is_line_feed text + 1) text, length-drop end text, ap length back, found)))

-- a text with something after its first line feed
pub only_line-more : (text rest : List ℕ) (end : ℕ) → end ≡ position_or_len is_line_feed text → rest ≡ drop end text → 1 < length rest → None ≡ only_line text
only_line-more text rest end found back long =
    sym (if_last-more (before_first is_line_feed text) (after_first is_line_feed text) (omega (arith, length-drop (position_or_len is_line_feed text + 1) text, length-drop end text, ap length back, found)))

-- bytes that spell a form begin with it
old_begins : (w : Wish) (old : Form) → IsOldForm w old → BeginsWith old w.at w.bytes.items
old_begins w old is = record { code = w.bytes.items; spelt = is.spelt; prefix = grind (arith, common_steps) }

-- what `decode_form` answers for the bytes of a wish
abbrev pub Decodes : Wish → Option Form → Type 0
Decodes w result = (form : Form) → (result ≡ Some form) ↔ BeginsWith form w.at w.bytes.items

-- bytes that begin with no form spell none
pub old_none : (w : Wish) → Decodes w None → (old : Form) → (None ≡ Some old) ↔ IsOldForm w old
old_none w decodes old = (λ e. absurd (cc), λ is. (decodes old).1 (old_begins w old is))

-- bytes that begin with a form of another size, or are longer than it, spell none of that size
pub old_other : (w : Wish) (found : Form) → Decodes w (Some found) → ((size found ≡ size w.form) → (length w.bytes.items ≡ size found) → ⊥) → (old : Form) → (None ≡ Some old) ↔ IsOldForm w old
old_other w found decodes other old = (
  λ e. absurd (cc),
  λ is.
      let same_option = (decodes old).1 (old_begins w old is) in
      let same : found ≡ old = cc in
      let long : length w.bytes.items ≡ size old = length-spell old w.at w.bytes.items is.spelt in
      absurd (other (ap size same ∙ is.one_size) (long ∙ sym (ap size same))),
)

-- bytes that are as long as the form with which they begin spell it
pub old_found : (w : Wish) (found : Form) → Decodes w (Some found) → size found ≡ size w.form → length w.bytes.items ≡ size found → (old : Form) → (Some found ≡ Some old) ↔ IsOldForm w old
old_found w found decodes one_size as_long old = (
  λ e.
      let begins = (decodes found).0 refl in
      let same : found ≡ old = cc in
      let long : length begins.code ≡ size found = length-spell found w.at begins.code begins.spelt in
      let whole : w.bytes.items ≡ begins.code = all_of w.bytes.items begins.code begins.prefix (as_long ∙ sym long) in
      subst (λ (f : Form). IsOldForm w f) same (record { one_size = one_size; spelt = begins.spelt ∙ ap Some (sym whole) }),
  λ is. (decodes old).1 (old_begins w old is),
)
  where
    all_of : (bytes code : List ℕ) → IsPrefix code bytes → length bytes ≡ length code → bytes ≡ code
    all_of bytes code prefix same = grind (arith, common_steps)

-- what `decode_form` answers for the bytes that were passed to it
pub bytes_of_wish : (w : Wish) (passed : List ℕ) (result : Option Form) → passed ≡ w.bytes.items → ((form : Form) → (result ≡ Some form) ↔ BeginsWith form w.at passed) → Decodes w result
bytes_of_wish w passed result same decodes = subst (λ (b : List ℕ). (form : Form) → (result ≡ Some form) ↔ BeginsWith form w.at b) same decodes
