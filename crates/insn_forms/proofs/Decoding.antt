-- How bytes are decoded: by the form that their first byte names, and a test of it.
use Rattle.std.proofs.Common.{◌≡◌, ℕ, ◌≤◌, ◌⊎◌, ◌↔◌, nat_eq, List, [], ◌∷◌, length, take, refl, sym, ◌∙◌, ap, subst, true, false, Some, None, arith, slice_get}
use Rattle.std.specs.List.{starts_with}
use Rattle.std.specs.Cmp.Lexicographic.{same_text, other_text}
use Rattle.std.proofs.lemmas.Bool.Decides.{nat_tests}
use Rattle.std.proofs.lemmas.Option.{same_Some, none-some}
use Rattle.poke_base.specs.Text.{IsPrefix}
use Rattle.insn_forms.specs.declared.forms.Form.{Form}
use Rattle.insn_forms.specs.Spelling.{size, spell, BeginsWith}
use Rattle.insn_forms.proofs.Spellings.{size_pos, size-begins, named, named_begins}

-- an opcode that names a form is one of six
named_known : (opcode at : ℕ) (bytes : List ℕ) (form : Form) → named opcode at bytes ≡ Some form → (opcode ≡ 0x66) ⊎ (opcode ≡ 0x0f) ⊎ (opcode ≡ 0xeb) ⊎ (opcode ≡ 0xe9) ⊎ (opcode ≡ 0xe8) ⊎ (opcode ≡ 0xc3)
named_known opcode at bytes form by = grind (arith, nat_tests)

-- the form that bytes begin with is the one that their first byte names
pub named_first : {form : Form} {at : ℕ} {bytes : List ℕ} {first opcode : ℕ} → Some first ≡ slice_get bytes 0 → first ≡ opcode → BeginsWith form at bytes → named opcode at bytes ≡ Some form
named_first {bytes = []} read is begins = absurd (none-some _ (sym read))
named_first {form} {at} {bytes = byte ∷ bytes} read is begins =
    ap (λ opcode. named opcode at (byte ∷ bytes)) (sym is ∙ same_Some _ _ read) ∙ named_begins form at (byte ∷ bytes) begins

-- bytes that begin with a spelling are no fewer than the form takes that their first byte names
pub named_fits : {form named_by : Form} {at : ℕ} {bytes : List ℕ} {first opcode : ℕ} → Some first ≡ slice_get bytes 0 → first ≡ opcode → named opcode at bytes ≡ Some named_by → BeginsWith form at bytes → size named_by ≤ length bytes
named_fits {form} {named_by} {at} {bytes} read is by begins =
    let same : named_by ≡ form = same_Some _ _ (sym by ∙ named_first read is begins) in
    subst (λ f. size f ≤ length bytes) (sym same) (size-begins form at bytes begins)

-- where there is a spelling there is a first byte
pub some_first : {form : Form} {at : ℕ} {bytes : List ℕ} → None ≡ slice_get bytes 0 → BeginsWith form at bytes → ⊥
some_first {form} {at} {bytes = []} read begins = omega (arith, size-begins form at [] begins, size_pos form)
some_first {bytes = byte ∷ bytes} read begins = none-some _ read

-- the first byte of a spelling is one of six
pub first_known : {form : Form} {at : ℕ} {bytes : List ℕ} {first : ℕ} → Some first ≡ slice_get bytes 0 → BeginsWith form at bytes → (first ≡ 0x66) ⊎ (first ≡ 0x0f) ⊎ (first ≡ 0xeb) ⊎ (first ≡ 0xe9) ⊎ (first ≡ 0xe8) ⊎ (first ≡ 0xc3)
first_known {form} {at} {bytes} {first} read begins = named_known first at bytes form (named_first read refl begins)

-- where no form is how the bytes begin, no answer is right
pub decodes_none : (at : ℕ) (bytes : List ℕ) → ((form : Form) → BeginsWith form at bytes → ⊥) → (form : Form) → (None ≡ Some form) ↔ BeginsWith form at bytes
decodes_none at bytes none form = (λ same. absurd (none-some form same), λ begins. absurd (none form begins))

-- a candidate that isn't how the bytes begin was the last
pub no_other : (candidate : Form) (at : ℕ) (bytes : List ℕ) → ((form : Form) → BeginsWith form at bytes → Some candidate ≡ Some form) → (BeginsWith candidate at bytes → ⊥) → (form : Form) → BeginsWith form at bytes → ⊥
no_other candidate at bytes one refused form begins =
    refused (subst (λ f. BeginsWith f at bytes) (sym (same_Some candidate form (one form begins))) begins)

-- a candidate that is how the bytes begin is right
pub decodes_some : (candidate : Form) (at : ℕ) (bytes : List ℕ) → ((form : Form) → BeginsWith form at bytes → Some candidate ≡ Some form) → BeginsWith candidate at bytes → (form : Form) → (Some candidate ≡ Some form) ↔ BeginsWith form at bytes
decodes_some candidate at bytes one begins form =
    (λ same. subst (λ f. BeginsWith f at bytes) (same_Some candidate form same) begins, one form)

-- a form with no spelling isn't how bytes begin
pub unspelt : (form : Form) (at : ℕ) (bytes : List ℕ) → spell form at ≡ None → BeginsWith form at bytes → ⊥
unspelt form at bytes none begins = none-some _ (sym none ∙ begins.spelt)

-- bytes that start with the spelling of a form, as the test says
pub starts : (form : Form) (at : ℕ) (bytes code piece : List ℕ) → spell form at ≡ Some code → piece ≡ code → true ≡ starts_with nat_eq bytes piece → BeginsWith form at bytes
starts form at bytes code piece spelt same test =
    record { code = piece; spelt = spelt ∙ ap Some (sym same); prefix = sym (same_text piece (take (length piece) bytes) test) }

-- bytes that don't start with the spelling of a form, as the test says
pub starts_otherwise : (form : Form) (at : ℕ) (bytes code piece : List ℕ) → spell form at ≡ Some code → piece ≡ code → false ≡ starts_with nat_eq bytes piece → BeginsWith form at bytes → ⊥
starts_otherwise form at bytes code piece spelt same test begins =
    let equal : begins.code ≡ piece = same_Some _ _ (sym begins.spelt ∙ spelt) ∙ sym same in
    other_text piece (take (length piece) bytes) test (sym (subst (λ list. IsPrefix list bytes) equal begins.prefix))
