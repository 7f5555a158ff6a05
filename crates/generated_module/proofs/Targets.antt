-- Where the units, sites and functions of a generated module lead: to where units begin.
use Rattle.std.proofs.Common.{◌≡◌, ◌<◌, ◌≤◌, ◌+◌, ◌^◌, ◌∙◌, ◌++◌, inl, inr, if◌then◌else◌, ℕ, zero, suc, Bool, List, [], ◌∷◌, length, Option, Some, None, option_map, refl, sym, ap, subst, arith}
use Rattle.std.specs.List.{AllByRecursion as Each}
use Rattle.std.specs.Int.{w8}
use Rattle.std.proofs.lemmas.Bool.{le-ltb}
use Rattle.std.proofs.lemmas.Option.{none-some, same_Some}
use Rattle.elf_build.specs.declared.generation.Block.{Block}
use Rattle.elf_build.specs.declared.generation.Block.TheVariants.{FarSwitch, NearSwitch, Call as CallBlock, Trace as TraceBlock, TailCall}
use Rattle.elf_build.specs.declared.plan.PlanFunction.{PlanFunction}
use Rattle.elf_build.specs.Generated.{block_functions, block_len, block_of, blocks, functions_from, functions_of}
use Rattle.insn_forms.specs.declared.forms.Form.TheVariants.{Jmp8}
use Rattle.insn_forms.specs.Displacement.{displacement, leads}
use Rattle.insn_forms.specs.Spelling.{after, spell}
use Rattle.insn_forms.proofs.Displacements.{after-below, displacement8}
use Rattle.module_parts.specs.declared.site.Site.{Site}
use Rattle.module_parts.specs.declared.unit.Aim.{Aim}
use Rattle.module_image.specs.Aims.{jump_aims}
use Rattle.module_image.specs.Refusals.{IsOutOfReach}
use Rattle.module_image.specs.Sites.{overlap_after}
use Rattle.generated_module.proofs.Each.{each-append}
use Rattle.generated_module.proofs.Pieces.{Among, EndsWell, Piece, ends-more}
use Rattle.generated_module.proofs.Blocks.{Stands, block_made, block-after, block-within, made_from, stands-next}
use Rattle.generated_module.proofs.Chains.{block_pieces, head_pieces, pieces_from, pieces_of}

-- the units that are left begin with one at their address
begins-block : (b : Block) (i at : ℕ) (ps : List Piece) → Among at (block_pieces b i at ++ ps)
begins-block FarSwitch i at ps = inl refl
begins-block NearSwitch i at ps = inl refl
begins-block CallBlock i at ps = inl refl
begins-block TraceBlock i at ps = inl refl
begins-block TailCall i at ps = inl refl

begins : (left i at : ℕ) → Among at (pieces_from left i at)
begins zero i at = inl refl
begins (suc left) i at = begins-block (block_of i) i at (pieces_from left (i + 1) (at + block_len (block_of i)))

-- one of the later units
among-later : (ps qs : List Piece) (b : ℕ) → Among b qs → Among b (ps ++ qs)
among-later [] qs b there = there
among-later (p ∷ ps) qs b there = inr (among-later ps qs b there)

-- a unit leads, if anywhere, to an address with a property
abbrev pub LeadsTo : (ℕ → Type 0) → Piece → Type 0
LeadsTo S p = (to : ℕ) → p.target ≡ Some to → S to

-- what leads nowhere, and what leads to an address with the property
nowhere : (S : ℕ → Type 0) (o : Option ℕ) → o ≡ None → (to : ℕ) → o ≡ Some to → S to
nowhere S o none to is = absurd (none-some to (sym none ∙ is))

somewhere : (S : ℕ → Type 0) (o : Option ℕ) (at : ℕ) → S at → o ≡ Some at → (to : ℕ) → o ≡ Some to → S to
somewhere S o at has there to is = subst S (same_Some at to (sym there ∙ is)) has

-- where each address at which a unit begins has it, so does each address to which a unit leads
module _ (S : ℕ → Type 0) where
  -- the units of a block, and all of them
  block-leads : (b : Block) (i at : ℕ) (ps : List Piece) → ((x : ℕ) → Among x (block_pieces b i at ++ ps) → S x) → S (at + block_len b) → Each (LeadsTo S) ps → Each (LeadsTo S) (block_pieces b i at ++ ps)
  block-leads FarSwitch i at ps all later rest = (nowhere S None refl, (nowhere S None refl, rest))
  block-leads NearSwitch i at ps all later rest = (nowhere S None refl, (nowhere S None refl, rest))
  block-leads CallBlock i at ps all later rest = (nowhere S None refl, rest)
  block-leads TraceBlock i at ps all later rest = (nowhere S None refl, rest)
  block-leads TailCall i at ps all later rest =
      (somewhere S (Some (at + 7)) (at + 7) (all (at + 7) (inr (inr (inl refl)))) refl, (somewhere S (Some (at + 12)) (at + 12) later refl, (nowhere S None refl, rest)))

  pieces-lead : S blocks → (left i at : ℕ) → ((x : ℕ) → Among x (pieces_from left i at) → S x) → Each (LeadsTo S) (pieces_from left i at)
  pieces-lead first zero i at all =
      (nowhere S None refl, (somewhere S (Some blocks) blocks first refl, (nowhere S None refl, (nowhere S None refl, tt))))
  pieces-lead first (suc left) i at all =
      let b = block_of i in
      let later = at + block_len b in
      let ps = pieces_from left (i + 1) later in
      let rest : (x : ℕ) → Among x ps → S x = λ x there. all x (among-later (block_pieces b i at) ps x there) in
      block-leads b i at ps all (rest later (begins left (i + 1) later)) (pieces-lead first left (i + 1) later rest)

  pub all-lead : (n : ℕ) → ((x : ℕ) → Among x (pieces_of n) → S x) → Each (LeadsTo S) (pieces_of n)
  all-lead n all =
      let rest : (x : ℕ) → Among x (pieces_from n 0 blocks) → S x = λ x there. all x (inr (inr (inr (inr (inr (inr (inr there))))))) in
      let none : (to : ℕ) → None ≡ Some to → S to = nowhere S None refl in
      (none, (none, (none, (none, (none, (none, (none, pieces-lead (rest blocks (begins n 0 blocks)) n 0 blocks rest)))))))

  -- and each to which a jump site leads
  block-aims : (b : Block) (i at : ℕ) (ss : List Site) → S (at + block_len b) → Each (λ (aim : Aim). S aim.to) (jump_aims ss) → Each (λ (aim : Aim). S aim.to) (jump_aims (block_made b i at ∷ ss))
  block-aims FarSwitch i at ss later rest = (later, rest)
  block-aims NearSwitch i at ss later rest = (later, rest)
  block-aims CallBlock i at ss later rest = rest
  block-aims TraceBlock i at ss later rest = rest
  block-aims TailCall i at ss later rest = rest

  sites-lead-from : (left i at : ℕ) → ((x : ℕ) → Among x (pieces_from left i at) → S x) → Each (λ (aim : Aim). S aim.to) (jump_aims (made_from left i at))
  sites-lead-from zero i at all = tt
  sites-lead-from (suc left) i at all =
      let b = block_of i in
      let later = at + block_len b in
      let ps = pieces_from left (i + 1) later in
      let rest : (x : ℕ) → Among x ps → S x = λ x there. all x (among-later (block_pieces b i at) ps x there) in
      block-aims b i at (made_from left (i + 1) later) (rest later (begins left (i + 1) later)) (sites-lead-from left (i + 1) later rest)

  pub sites-lead : (n : ℕ) → ((x : ℕ) → Among x (pieces_of n) → S x) → Each (λ (aim : Aim). S aim.to) (jump_aims (made_from n 0 blocks))
  sites-lead n all = sites-lead-from n 0 blocks (λ x there. all x (inr (inr (inr (inr (inr (inr (inr there))))))))

  -- and each of a function
  block-function : (b : Block) (i at : ℕ) → S at → Each (λ (f : PlanFunction). S f.at) (block_functions b i at)
  block-function FarSwitch i at has = tt
  block-function NearSwitch i at has = tt
  block-function CallBlock i at has = tt
  block-function TraceBlock i at has = (has, tt)
  block-function TailCall i at has = tt

  functions-start-from : (left i at : ℕ) → ((x : ℕ) → Among x (pieces_from left i at) → S x) → Each (λ (f : PlanFunction). S f.at) (functions_from left i at)
  functions-start-from zero i at all = tt
  functions-start-from (suc left) i at all =
      let b = block_of i in
      let later = at + block_len b in
      let ps = pieces_from left (i + 1) later in
      let rest : (x : ℕ) → Among x ps → S x = λ x there. all x (among-later (block_pieces b i at) ps x there) in
      each-append (λ (f : PlanFunction). S f.at) (block_functions b i at) (functions_from left (i + 1) later)
      (block-function b i at (all at (begins (suc left) i at))) (functions-start-from left (i + 1) later rest)

  pub functions-start : (n : ℕ) → ((x : ℕ) → Among x (pieces_of n) → S x) → Each (λ (f : PlanFunction). S f.at) (functions_of n)
  functions-start n all = (
    all 0x401000 (inl refl),
    (
      all 0x401004 (inr (inr (inl refl))),
      (
        all 0x401008 (inr (inr (inr (inr (inl refl))))),
        (
          all 0x40100c (inr (inr (inr (inr (inr (inr (inl refl))))))),
          functions-start-from n 0 blocks (λ x there. all x (inr (inr (inr (inr (inr (inr (inr there)))))))),
        ),
      ),
    ),
  )

-- ---- the end

-- the last of later units is the last
ends-later : (ps qs : List Piece) → EndsWell qs → EndsWell (ps ++ qs)
ends-later [] qs well = well
ends-later (p ∷ ps) qs well = ends-more p (ps ++ qs) (ends-later ps qs well)

ends-from : (left i at : ℕ) → EndsWell (pieces_from left i at)
ends-from zero i at = refl
ends-from (suc left) i at =
    ends-later (block_pieces (block_of i) i at) (pieces_from left (i + 1) (at + block_len (block_of i))) (ends-from left (i + 1) (at + block_len (block_of i)))

-- the last unit is a return
pub ends-well : (n : ℕ) → EndsWell (pieces_of n)
ends-well n = ends-later head_pieces (pieces_from n 0 blocks) (ends-from n 0 blocks)

-- ---- the sites

-- none begins before the one before it ends
pub no-overlap : (left i at end : ℕ) → end ≤ at → overlap_after end (made_from left i at) ≡ None
no-overlap zero i at end le = refl
no-overlap (suc left) i at end le =
    let b = block_of i in
    let own = block_made b i at in
    let later = at + block_len b in
    let low = block-after b i at in
    let high = block-within b i at in
    ap (λ (test : Bool). if test then Some own.at else overlap_after (own.at + own.len) (made_from left (i + 1) later)) (le-ltb own.at end (omega (arith, low, le)))
    ∙ no-overlap left (i + 1) later (own.at + own.len) high

-- a jump of two bytes over two bytes
near-spelt : (at : ℕ) → at < 2 ^ 32 → spell (Jmp8 (at + 4)) at ≡ Some (0xeb ∷ 0x02 ∷ [])
unfolding spell
near-spelt at low =
    let to : leads w8 (after at 2) (0x02 ∷ []) ≡ at + 4 = omega (arith, low) in
    ap (λ (target : ℕ). option_map (λ (rel8 : List ℕ). 0xeb ∷ rel8) (displacement w8 (after at 2) target)) (sym to)
    ∙ ap (option_map (λ (rel8 : List ℕ). 0xeb ∷ rel8)) (displacement8 (after at 2) 2 (after-below at 2) (omega arith))

block-reaches : (b : Block) (i at : ℕ) → at < 2 ^ 32 → IsOutOfReach (block_made b i at) → ⊥
block-reaches FarSwitch i at low far = absurd (omega (arith, far.0))
block-reaches NearSwitch i at low far = none-some (0xeb ∷ 0x02 ∷ []) (sym far.1 ∙ near-spelt at low)
block-reaches CallBlock i at low far = far
block-reaches TraceBlock i at low far = far
block-reaches TailCall i at low far = far

pub all-reach : (base : ℕ) (file : List ℕ) (left i at : ℕ) → Stands base file left i at → Each (λ (s : Site). IsOutOfReach s → ⊥) (made_from left i at)
all-reach base file zero i at st = tt
all-reach base file (suc left) i at st =
    let whole = st.whole in
    let small = st.small in
    (block-reaches (block_of i) i at (omega (arith, whole, small)), all-reach base file left (i + 1) (at + block_len (block_of i)) (stands-next base file left i at st))

-- as many as blocks
pub length-made : (left i at : ℕ) → length (made_from left i at) ≡ left
length-made zero i at = refl
length-made (suc left) i at = ap suc (length-made left (i + 1) (at + block_len (block_of i)))
