-- Which form fetched bytes name, and whether they are a breakpoint, as the switching machine asks it.
--
-- For the machines' proofs:
--   is_named_so                name form at ≡ Some bytes → is_named form at bytes ≡ true
--   is_old_named               IsSpellable k → k.old ≢ k.new → name k.old k.at ≡ Some bytes → is_named k.new k.at bytes ≡ false
--   is_breakpoint_so           bytes ≡ 0xcc ∷ [] → is_breakpoint bytes ≡ true
--   is_breakpoint_not          name form at ≡ Some bytes → is_breakpoint bytes ≡ false
use Rattle.std.proofs.Common.{◌≡◌, ◌≢◌, ℕ, Bool, true, false, List, [], ◌∷◌, Option, Some, refl, ap, sym, ◌∙◌}
use Rattle.std.specs.Prelude.{unwrap_or}
use Rattle.std.specs.Str.{bytes_eq}
use Rattle.std.proofs.lemmas.Slice.Eq.{bytes_eq-Decides}
use Rattle.insn_forms.specs.declared.forms.Form.{Form}
use Rattle.insn_forms.specs.declared.forms.Change.{Change}
use Rattle.poke_batch.specs.Poke.{spelled}
use Rattle.poke_batch.specs.Underway.{IsSpellable}
use Rattle.x64_subset.specs.Whole.{name}
use Rattle.switching.specs.Switching.{is_named, is_breakpoint}
use Rattle.switching.proofs.Rounds.{spelt_as}
use Rattle.switching.proofs.Names.{IsNamed, name_of, name_not_trap, names_differ}

-- a test of bytes that differ
differ : (xs ys : List ℕ) → xs ≢ ys → bytes_eq xs ys ≡ false
differ xs ys other = go (bytes_eq xs ys) refl
  where
    go : (b : Bool) → bytes_eq xs ys ≡ b → b ≡ false
    go true is = absurd (other ((bytes_eq-Decides xs ys).0 is))
    go false is = refl

-- bytes are the form whose name they are
pub is_named_so : (form : Form) (at : ℕ) (bytes : List ℕ) → name form at ≡ Some bytes → is_named form at bytes ≡ true
is_named_so form at bytes named =
    (bytes_eq-Decides (unwrap_or (name form at) []) bytes).1 (ap (λ (o : Option (List ℕ)). unwrap_or o []) named)

-- and no other that has a name
pub is_named_other : (form other : Form) (at : ℕ) (bytes code : List ℕ) → form ≢ other → name form at ≡ Some bytes → name other at ≡ Some code → is_named other at bytes ≡ false
is_named_other form other at bytes code unlike named coded =
    differ (unwrap_or (name other at) []) bytes
    (λ same.
    let is : code ≡ bytes = sym (ap (λ (o : Option (List ℕ)). unwrap_or o []) coded) ∙ same in
    names_differ form other at bytes unlike named (coded ∙ ap (λ (b : List ℕ). Some b) is))

-- the old form's name isn't the new form's
pub is_old_named : (k : Change) (bytes : List ℕ) → IsSpellable k → k.old ≢ k.new → name k.old k.at ≡ Some bytes → is_named k.new k.at bytes ≡ false
is_old_named k bytes s unlike named =
    let new : IsNamed k.new k.at (spelled k.new k.at) = name_of k.new k.at (spelled k.new k.at) (spelt_as k.new k.at s.new_spelt) in
    is_named_other k.old k.new k.at bytes new.bytes unlike named new.named

-- a breakpoint
pub is_breakpoint_so : (bytes : List ℕ) → bytes ≡ 0xcc ∷ [] → is_breakpoint bytes ≡ true
is_breakpoint_so bytes is = (bytes_eq-Decides bytes (0xcc ∷ [])).1 is

-- no form's name is one
pub is_breakpoint_not : (form : Form) (at : ℕ) (bytes : List ℕ) → name form at ≡ Some bytes → is_breakpoint bytes ≡ false
is_breakpoint_not form at bytes named =
    differ bytes (0xcc ∷ [])
    (λ is. name_not_trap form at (named ∙ ap (λ (b : List ℕ). Some b) is))
