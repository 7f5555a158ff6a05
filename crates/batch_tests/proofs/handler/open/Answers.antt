use Rattle.std.proofs.Common.{◌≡◌, ◌+◌, ◌<◌, ◌≤◌, ℕ, zero, suc, List, [], ◌∷◌, length, slice_index_or, ◌∙◌, ◌++◌, ap, refl, subst, sym, arith, lit≤}
use Rattle.insn_forms.specs.declared.forms.Change.{Change}
use Rattle.insn_forms.specs.declared.forms.Form.TheVariants.{Jmp8, Jmp32, Nop2, Nop5}
use Rattle.insn_forms.specs.Changes.{ChangeList}
use Rattle.insn_forms.specs.Spelling.{size, spell}
use Rattle.poke_batch.specs.Clash.{CanPoke, IsPatchable}
use Rattle.batch_tests.proofs.HeldBytes.{held_from, held_from-some}
use Rattle.batch_tests.proofs.handler.open.Goals as goal

-- the changes of the tests
abbrev first : Change
first = record { at = 0x401000; old = Nop2; new = Jmp8 0x401009 }

abbrev second : Change
second = record { at = 0x401002; old = Jmp32 0x401009; new = Nop5 }

abbrev both : List Change
both = first ∷ second ∷ []

-- a text of ten bytes can be patched with each
first_patchable : (bytes : List ℕ) → length bytes ≡ 10 → IsPatchable (held_from 0x401000 bytes) first
unfolding spell
first_patchable bytes ten = record {
  one_size = refl;
  old_spelt = refl;
  new_spelt = refl;
  below = lit≤ tt;
  inside = λ j lt. held_from-some 0x401000 bytes 0 j (omega arith);
}

second_patchable : (bytes : List ℕ) → length bytes ≡ 10 → IsPatchable (held_from 0x401000 bytes) second
unfolding spell
second_patchable bytes ten = record {
  one_size = refl;
  old_spelt = refl;
  new_spelt = refl;
  below = lit≤ tt;
  inside = λ j lt. held_from-some 0x401000 bytes 2 j (omega arith);
}

-- they are all changes of the list
each : (bytes : List ℕ) → length bytes ≡ 10 → (k : ℕ) (d : Change) → k < 2 → IsPatchable (held_from 0x401000 bytes) (slice_index_or both k d)
each bytes ten zero d lt = first_patchable bytes ten
each bytes ten (suc zero) d lt = second_patchable bytes ten
each bytes ten (suc (suc k)) d lt = absurd (omega arith)

-- the second begins where the first ends
apart : (i j : ℕ) (d : Change) → i < j → j < 2 → (slice_index_or both i d).at + size (slice_index_or both i d).old ≤ (slice_index_or both j d).at
apart i zero d lt below = absurd (omega arith)
apart zero (suc zero) d lt below = lit≤ tt
apart (suc i) (suc zero) d lt below = absurd (omega arith)
apart i (suc (suc j)) d lt below = absurd (omega arith)

-- the list of them can be poked
can_poke : (bytes : List ℕ) → length bytes ≡ 10 → CanPoke (held_from 0x401000 bytes) both
can_poke bytes ten = record {
  each = λ k d lt. each bytes ten k d lt;
  apart = λ i j d lt below. apart i j d lt below;
}

pub fill-opened-requires-clause-ready : goal.fill-opened-requires-clause-ready
fill-opened-requires-clause-ready g c =
    let empty = rw c.expect-changes.ensures at c.with_room.ensures.empty in
    let one : c.push.new.self.list ≡ first ∷ [] =
    ap (λ (changes : ChangeList). changes.list) c.push.ensures ∙ ap (λ (changes : List Change). changes ++ first ∷ []) empty in
    let list : c.push-2.new.self.list ≡ both =
    ap (λ (changes : ChangeList). changes.list) c.push-2.ensures ∙ ap (λ (changes : List Change). changes ++ second ∷ []) one in
    subst (λ (changes : List Change). CanPoke (held_from 0x401000 c.args.bytes.now) changes) (sym list) (can_poke c.args.bytes.now c.requires.ten)
