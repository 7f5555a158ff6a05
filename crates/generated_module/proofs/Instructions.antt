-- The plain instructions of a generated module are read where they stand.
use Rattle.std.proofs.Common.{◌≡◌, ◌<◌, ◌≤◌, ◌+◌, ◌-◌, ◌^◌, ◌∙◌, ℕ, List, [], ◌∷◌, drop, Option, Some, None, Ok, option_map, refl, sym, ap, arith}
use Rattle.std.specs.Int.{w8, w32, to_le_bytes}
use Rattle.std.proofs.lemmas.Option.{same_Some}
use Rattle.insn_forms.specs.Displacement.{displacement, distance, leads}
use Rattle.insn_forms.proofs.Displacements.{relative}
use Rattle.module_laws.proofs.Distances.{near_displaced}
use Rattle.elf_build.specs.Generated.{blocks}
use Rattle.insn_forms.specs.Spelling.{after}
use Rattle.elf_build.specs.File.{lead}
use Rattle.x64_subset.specs.declared.insn.AluOp.TheVariants.{Add}
use Rattle.x64_subset.specs.declared.insn.Insn.TheVariants.{AluImm, Call as CallTo, Dec, Inc, Jcc32, Jmp8, MovImm, Out, Ret}
use Rattle.x64_subset.specs.Reading.{read}
use Rattle.x64_subset.proofs.Spelt.{IsReadOf}

-- those that are the same anywhere
pub reads-add : (at : ℕ) → IsReadOf (AluImm Add 6 1) at (0x83 ∷ 0xc6 ∷ 0x01 ∷ [])
unfolding read
reads-add at rest = refl

pub reads-add-edi : (at : ℕ) → IsReadOf (AluImm Add 7 1) at (0x83 ∷ 0xc7 ∷ 0x01 ∷ [])
unfolding read
reads-add-edi at rest = refl

pub reads-add-ebx : (at : ℕ) → IsReadOf (AluImm Add 3 1) at (0x83 ∷ 0xc3 ∷ 0x01 ∷ [])
unfolding read
reads-add-ebx at rest = refl

pub reads-ret : (at : ℕ) → IsReadOf Ret at (0xc3 ∷ [])
unfolding read
reads-ret at rest = refl

pub reads-mov : (at : ℕ) → IsReadOf (MovImm 1 3) at (0xb9 ∷ 0x03 ∷ 0x00 ∷ 0x00 ∷ 0x00 ∷ [])
unfolding read
reads-mov at rest = refl

pub reads-inc-eax : (at : ℕ) → IsReadOf (Inc 0) at (0xff ∷ 0xc0 ∷ [])
unfolding read
reads-inc-eax at rest = refl

pub reads-inc-edx : (at : ℕ) → IsReadOf (Inc 2) at (0xff ∷ 0xc2 ∷ [])
unfolding read
reads-inc-edx at rest = refl

pub reads-dec-ecx : (at : ℕ) → IsReadOf (Dec 1) at (0xff ∷ 0xc9 ∷ [])
unfolding read
reads-dec-ecx at rest = refl

pub reads-out : (at : ℕ) → IsReadOf (Out 16) at (0xe6 ∷ 0x10 ∷ [])
unfolding read
reads-out at rest = refl

-- the call over the jump, and the jump over the site
pub reads-call : (at : ℕ) → at < 2 ^ 32 → IsReadOf (CallTo (at + 7)) at (0xe8 ∷ 0x02 ∷ 0x00 ∷ 0x00 ∷ 0x00 ∷ [])
unfolding read
reads-call at low rest =
    let target : leads w32 (after at 5) (0x02 ∷ 0x00 ∷ 0x00 ∷ 0x00 ∷ []) ≡ at + 7 = omega (arith, low) in
    ap (λ (to : ℕ). Ok (CallTo to, 5)) target

pub reads-jump : (at to : ℕ) → at < 2 ^ 32 → to ≡ at + 7 → IsReadOf (Jmp8 to) at (0xeb ∷ 0x05 ∷ [])
unfolding read
reads-jump at to low is rest =
    let target : leads w8 (after at 2) (0x05 ∷ []) ≡ to = omega (arith, low, is) in
    ap (λ (to : ℕ). Ok (Jmp8 to, 2)) target

-- bytes that are put behind an opcode
without-opcode : (opcode : ℕ) (o : Option (List ℕ)) (bytes : List ℕ) → option_map (λ (rel : List ℕ). opcode ∷ rel) o ≡ Some (opcode ∷ bytes) → o ≡ Some bytes
without-opcode opcode None bytes is = cc
without-opcode opcode (Some rel) bytes is = ap Some (ap (drop 1) (same_Some (opcode ∷ rel) (opcode ∷ bytes) is))

-- the displacement between addresses that lie near one another
near-leads : (from to : ℕ) → from < 2 ^ 32 → to < from → from < to + 2 ^ 31 → leads w32 from (to_le_bytes w32 (to + 2 ^ 64 - from)) ≡ to
near-leads from to low back near =
    let far : distance from to ≡ to + 2 ^ 64 - from = omega (arith, low, back) in
    let displaced = without-opcode 0 (displacement w32 from to) (to_le_bytes w32 (distance from to)) (near_displaced 0 from to (omega (arith, low)) (omega (arith, low, back)) near (omega (arith, back))) in
    ap (λ (n : ℕ). leads w32 from (to_le_bytes w32 n)) (sym far) ∙ (relative w32 from to (to_le_bytes w32 (distance from to)) displaced).leads_to

-- the jump back to the first block, whose field ends with the instruction
pub reads-back : (at field : ℕ) → blocks ≤ at → at < 0x420000 → field ≡ at + 6 → IsReadOf (Jcc32 5 blocks) at (0x0f ∷ 0x85 ∷ lead 4 field blocks)
unfolding read
reads-back at field low high is rest =
    let from : after at 6 ≡ field = omega (arith, high, is) in
    let target : leads w32 (after at 6) (to_le_bytes w32 (blocks + 2 ^ 64 - field)) ≡ blocks =
    ap (λ (f : ℕ). leads w32 f (to_le_bytes w32 (blocks + 2 ^ 64 - field))) from
    ∙ near-leads field blocks (omega (arith, high, is)) (omega (arith, low, is)) (omega (arith, high, is)) in
    ap (λ (to : ℕ). Ok (Jcc32 5 to, 6)) target
