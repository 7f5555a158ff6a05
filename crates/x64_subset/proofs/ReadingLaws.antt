-- The laws that reading is spelling, for all three answers; and which instructions are spelt.
use Rattle.std.proofs.Common.{◌≡◌, ◌⊎◌, inl, inr, ℕ, suc, zero, ◌+◌, ◌<◌, ◌≤◌, true, List, [], ◌∷◌, ◌++◌, length, take, refl, sym, ◌∙◌, ap, subst, Some, None, arith}
use Rattle.std.specs.Prelude.{Option}
use Rattle.std.specs.Int.{Width, w8, w32, byte_len}
use Rattle.std.specs.Option.{is_some}
use Rattle.std.proofs.lemmas.Bool.{and_parts}
use Rattle.std.proofs.lemmas.Bool.Decides.{nat_tests}
use Rattle.std.proofs.lemmas.List.{length-take-le}
use Rattle.poke_base.specs.Text.{IsPrefix}
use Rattle.insn_forms.specs.Displacement.{displacement}
use Rattle.insn_forms.specs.Spelling.{after}
use Rattle.insn_forms.proofs.Displacements.{none_leads8, none_leads32, after-below}
use Rattle.insn_forms.proofs.Spellings.{prefix-length}
use Rattle.x64_subset.specs.declared.insn.AluOp.{AluOp}
use Rattle.x64_subset.specs.declared.insn.AluOp.TheVariants.{Add, Sub, Xor, Cmp, Test, Mov}
use Rattle.x64_subset.specs.declared.insn.Insn.{Insn}
use Rattle.x64_subset.specs.declared.insn.Insn.TheVariants.{Nop, Int3, Jmp8, Jmp32, Call, Ret, Jcc8, Jcc32, Alu, AluImm, Inc, Dec, MovImm, Hlt, Ud2, Out, Endbr64, Serialize}
use Rattle.x64_subset.specs.Subset.{is_listed, digit_of}
use Rattle.x64_subset.specs.Spells.{Spells, Leads, Stands, nop_bytes}
use Rattle.x64_subset.specs.Laws.{ReadingIsSpelling, ShortReadings, UnknownReadings, SpeltAreListed, ListedAreSpelt}
use Rattle.x64_subset.proofs.Answered.{bytes_all, read_stands, stands_read, read_cut, cut_read, read_unknown, unknown_read}
use Rattle.x64_subset.proofs.Listed.{spelt_listed}

-- the bytes begin with a spelling that is so long
abbrev IsSpelt : Insn → ℕ → ℕ → List ℕ → Type 0
IsSpelt insn len at bytes = (code : List ℕ) × IsPrefix code bytes × Spells insn at code × (len ≡ length code)

-- what stands at the first of some bytes is a prefix of them
stands_spelt : (insn : Insn) (len at : ℕ) (bytes : List ℕ) → Stands insn len at bytes → IsSpelt insn len at bytes
stands_spelt insn len at bytes stands =
    let size : length (take len bytes) ≡ len = length-take-le len bytes stands.inside in
    (take len bytes, ap (λ (n : ℕ). take n bytes) size, stands.spelt, sym size)

-- a prefix that is a spelling stands there
spelt_stands : (insn : Insn) (len at : ℕ) (bytes : List ℕ) → IsSpelt insn len at bytes → Stands insn len at bytes
spelt_stands insn len at bytes (code, prefix, spelt, same) =
    let first : take len bytes ≡ code = ap (λ (n : ℕ). take n bytes) same ∙ prefix in
    let fits : length code ≤ length bytes = prefix-length code bytes prefix in
    record { spelt = subst (λ (c : List ℕ). Spells insn at c) (sym first) spelt; inside = omega arith }

-- an instruction is read exactly where it is spelt
pub reading_is_spelling : ReadingIsSpelling
reading_is_spelling at bytes insn len all =
    let fit = bytes_all bytes all in (
      λ e. stands_spelt insn len at bytes (read_stands at bytes insn len fit e),
      λ spelt. stands_read at bytes insn len (spelt_stands insn len at bytes spelt),
    )

-- what is too short
pub short_readings : ShortReadings
short_readings at bytes all = let fit = bytes_all bytes all in (read_cut at bytes fit, cut_read at bytes)

-- what is unknown
pub unknown_readings : UnknownReadings
unknown_readings at bytes all = let fit = bytes_all bytes all in (read_unknown at bytes fit, unknown_read at bytes fit)

-- what is spelt is of the subset
pub spelt_are_listed : SpeltAreListed
spelt_are_listed at insn code spelt = spelt_listed insn at code spelt

-- a spelling that there is
abbrev HasSpelling : Insn → ℕ → Type 0
HasSpelling insn at = (code : List ℕ) × Spells insn at code

-- a displacement leads to the target, or none does
by_displacement : (w : Width) (opcode : List ℕ) (at target : ℕ) (P Q : Type 0) → (displacement w (after at (length opcode + byte_len w)) target ≡ None → P) → ((code : List ℕ) → Leads w opcode at target code → Q) → P ⊎ Q
by_displacement w opcode at target P Q none some = go (displacement w (after at (length opcode + byte_len w)) target) refl
  where
    go : (d : Option (List ℕ)) → displacement w (after at (length opcode + byte_len w)) target ≡ d → P ⊎ Q
    go (Some rel) e = inr (some (opcode ++ rel) (rel, e, refl))
    go None e = inl (none e)

-- the recommended NOPs
nop_spelt : (len : ℕ) → is_listed (Nop len) ≡ true → (code : List ℕ) × (nop_bytes len ≡ Some code)
nop_spelt zero is = absurd (cc)
nop_spelt (suc zero) is = (_, refl)
nop_spelt (suc (suc zero)) is = (_, refl)
nop_spelt (suc (suc (suc zero))) is = (_, refl)
nop_spelt (suc (suc (suc (suc zero)))) is = (_, refl)
nop_spelt (suc (suc (suc (suc (suc zero))))) is = (_, refl)
nop_spelt (suc (suc (suc (suc (suc (suc zero)))))) is = (_, refl)
nop_spelt (suc (suc (suc (suc (suc (suc (suc zero))))))) is = (_, refl)
nop_spelt (suc (suc (suc (suc (suc (suc (suc (suc zero)))))))) is = (_, refl)
nop_spelt (suc (suc (suc (suc (suc (suc (suc (suc (suc zero))))))))) is = (_, refl)
nop_spelt (suc (suc (suc (suc (suc (suc (suc (suc (suc (suc len)))))))))) is = absurd (grind (arith, nat_tests))

-- an operation with a byte
alu_imm_spelt : (op : AluOp) (rm byte at : ℕ) → is_some (digit_of op) ≡ true → is_listed (Inc rm) ≡ true → byte < 256 → HasSpelling (AluImm op rm byte) at
unfolding Spells
alu_imm_spelt Add rm byte at digit is room = (_, (0, refl, is, room, refl))
alu_imm_spelt Sub rm byte at digit is room = (_, (5, refl, is, room, refl))
alu_imm_spelt Cmp rm byte at digit is room = (_, (7, refl, is, room, refl))
alu_imm_spelt Xor rm byte at digit is room = absurd (cc)
alu_imm_spelt Test rm byte at digit is room = absurd (cc)
alu_imm_spelt Mov rm byte at digit is room = absurd (cc)

-- what is of the subset is spelt, or out of reach
pub listed_are_spelt : ListedAreSpelt
unfolding Spells
listed_are_spelt at (Nop len) is room = inr (nop_spelt len is)
listed_are_spelt at Int3 is room = inr (_, refl)
listed_are_spelt at (Jmp8 target) is room =
    by_displacement w8 (0xeb ∷ []) at target _ _ (none_leads8 (after at 2) target (after-below at 2)) (λ code leads. (code, leads))
listed_are_spelt at (Jmp32 target) is room =
    by_displacement w32 (0xe9 ∷ []) at target _ _ (none_leads32 (after at 5) target (after-below at 5)) (λ code leads. (code, leads))
listed_are_spelt at (Call target) is room =
    by_displacement w32 (0xe8 ∷ []) at target _ _ (none_leads32 (after at 5) target (after-below at 5)) (λ code leads. (code, leads))
listed_are_spelt at Ret is room = inr (_, refl)
listed_are_spelt at (Jcc8 condition target) is room =
    by_displacement w8 ((0x70 + condition) ∷ []) at target _ _ (none_leads8 (after at 2) target (after-below at 2))
    (λ code leads. (code, (is, leads)))
listed_are_spelt at (Jcc32 condition target) is room =
    by_displacement w32 (0x0f ∷ (0x80 + condition) ∷ []) at target _ _ (none_leads32 (after at 6) target (after-below at 6))
    (λ code leads. (code, (is, leads)))
listed_are_spelt at (Alu op rm reg) is room = let parts = and_parts _ _ is in inr (_, (parts.0, parts.1, refl))
listed_are_spelt at (AluImm op rm byte) is room =
    let parts = and_parts _ _ is in inr (alu_imm_spelt op rm byte at parts.0 parts.1 room)
listed_are_spelt at (Inc rm) is room = inr (_, (is, refl))
listed_are_spelt at (Dec rm) is room = inr (_, (is, refl))
listed_are_spelt at (MovImm r number) is room = inr (_, (is, room, refl))
listed_are_spelt at Hlt is room = inr (_, refl)
listed_are_spelt at Ud2 is room = inr (_, refl)
listed_are_spelt at (Out port) is room = inr (_, (room, refl))
listed_are_spelt at Endbr64 is room = inr (_, refl)
listed_are_spelt at Serialize is room = inr (_, refl)
