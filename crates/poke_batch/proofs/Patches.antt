-- The bytes that a text holds, and the sizes of forms.
use Rattle.std.proofs.Common.{◌≡◌, ◌+◌, ◌≤◌, ℕ, zero, suc, Bool, true, false, if◌then◌else◌, List, [], ◌∷◌, ◌++◌, length, Option, Some, None, IsSome, option_map, unwrap_or, refl, ap, subst, add-zero, add-one, arith, lit≤}
use Rattle.insn_forms.specs.declared.forms.Form.{Form}
use Rattle.insn_forms.specs.declared.forms.Form.TheVariants.{Nop2, Nop5, Jmp8, Jmp32, Call, Ret}
use Rattle.insn_forms.specs.Spelling.{spell, size}
use Rattle.poke_batch.specs.Clash.{held_bytes}
use Rattle.poke_batch.specs.Poke.{spelled}

-- one byte more is the one after
pub held_bytes-suc : (held : ℕ → Option ℕ) (at n : ℕ) → held_bytes held at (suc n) ≡ held_bytes held at n ++ (unwrap_or (held (at + n)) 0 ∷ [])
held_bytes-suc held at zero = rw add-zero refl
held_bytes-suc held at (suc n) =
    let e : (at + 1) + n ≡ at + suc n = omega arith in
    ap (λ bytes. unwrap_or (held at) 0 ∷ bytes) (subst (λ m. held_bytes held (at + 1) (suc n) ≡ held_bytes held (at + 1) n ++ (unwrap_or (held m) 0 ∷ [])) e (held_bytes-suc held (at + 1) n))

-- the same, with the number of a loop's next turn
pub held_bytes-more : (held : ℕ → Option ℕ) (at n m : ℕ) → m ≡ n + 1 → held_bytes held at m ≡ held_bytes held at n ++ (unwrap_or (held (at + n)) 0 ∷ [])
held_bytes-more held at n m e = rw (e, add-one) (held_bytes-suc held at n)

-- each form has a tail
pub two-le-size : (form : Form) → 2 ≤ size form
two-le-size Nop2 = lit≤ tt
two-le-size Nop5 = lit≤ tt
two-le-size (Jmp8 target) = lit≤ tt
two-le-size (Jmp32 target) = lit≤ tt
two-le-size (Call target) = lit≤ tt
two-le-size Ret = lit≤ tt

-- an opcode and its displacement
length-with_opcode : (reaches : Bool) (opcode : ℕ) (rel : List ℕ) → IsSome (option_map (λ bytes. opcode ∷ bytes) (if reaches then Some rel else None)) → length (unwrap_or (option_map (λ bytes. opcode ∷ bytes) (if reaches then Some rel else None)) []) ≡ suc (length rel)
length-with_opcode true opcode rel spelt = refl
length-with_opcode false opcode rel spelt = cc

-- a form that has a spelling is spelt in as many bytes as it takes
pub length-spelled : (form : Form) (at : ℕ) → IsSome (spell form at) → length (spelled form at) ≡ size form
unfolding spell
length-spelled Nop2 at spelt = refl
length-spelled Nop5 at spelt = refl
length-spelled (Jmp8 target) at spelt = length-with_opcode _ _ _ spelt
length-spelled (Jmp32 target) at spelt = length-with_opcode _ _ _ spelt
length-spelled (Call target) at spelt = length-with_opcode _ _ _ spelt
length-spelled Ret at spelt = refl
