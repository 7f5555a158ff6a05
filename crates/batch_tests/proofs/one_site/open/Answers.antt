use Rattle.std.proofs.Common.{◌≡◌, ◌<◌, ℕ, zero, suc, List, [], ◌∷◌, length, slice_index_or, ◌∙◌, ◌++◌, ap, refl, subst, sym, arith, lit≤}
use Rattle.insn_forms.specs.declared.forms.Change.{Change}
use Rattle.insn_forms.specs.declared.forms.Form.TheVariants.{Jmp32, Nop5}
use Rattle.insn_forms.specs.Changes.{ChangeList}
use Rattle.insn_forms.specs.Spelling.{spell}
use Rattle.poke_batch.specs.Clash.{CanPoke, IsPatchable}
use Rattle.batch_tests.proofs.HeldBytes.{held_from, held_from-some}
use Rattle.batch_tests.proofs.one_site.open.Goals as goal

-- the change of the tests
abbrev jump : Change
jump = record { at = 0x401000; old = Nop5; new = Jmp32 0x402000 }

-- a text of five bytes can be patched with it
jump_patchable : (bytes : List ℕ) → length bytes ≡ 5 → IsPatchable (held_from 0x401000 bytes) jump
unfolding spell
jump_patchable bytes five = record {
  one_size = refl;
  old_spelt = refl;
  new_spelt = refl;
  below = lit≤ tt;
  inside = λ j lt. held_from-some 0x401000 bytes 0 j (omega arith);
}

-- it is the one change of the list
jump_at : (bytes : List ℕ) → length bytes ≡ 5 → (k : ℕ) (d : Change) → k < 1 → IsPatchable (held_from 0x401000 bytes) (slice_index_or (jump ∷ []) k d)
jump_at bytes five zero d lt = jump_patchable bytes five
jump_at bytes five (suc k) d lt = absurd (omega arith)

-- the list of it can be poked
jump_can_poke : (bytes : List ℕ) → length bytes ≡ 5 → CanPoke (held_from 0x401000 bytes) (jump ∷ [])
jump_can_poke bytes five = record {
  each = λ k d lt. jump_at bytes five k d lt;
  apart = λ i j d lt below. absurd (omega arith);
}

pub fill-requires-clause-ready : goal.fill-requires-clause-ready
fill-requires-clause-ready g c =
    let empty = rw c.expect-changes.ensures at c.with_room.ensures.empty in
    let list : c.push.new.self.list ≡ jump ∷ [] =
    ap (λ (changes : ChangeList). changes.list) c.push.ensures ∙ ap (λ (changes : List Change). changes ++ jump ∷ []) empty in
    subst (λ (changes : List Change). CanPoke (held_from 0x401000 c.args.bytes.now) changes) (sym list) (jump_can_poke c.args.bytes.now c.requires.five)
