-- The blocks of a generated module: their sites, and where they stand in the text.
use Rattle.std.proofs.Common.{◌≡◌, ◌≤◌, ◌+◌, ◌-◌, ◌/◌, ◌%◌, ◌==◌, ◌∙◌, ◌++◌, ℕ, zero, suc, false, List, [], ◌∷◌, length, drop, refl, sym, ap, arith}
use Rattle.std.specs.List.{AllByRecursion as Each}
use Rattle.std.proofs.lemmas.List.{drop-drop, length-append}
use Rattle.std.proofs.Math.Seq.{drop-append_seam}
use Rattle.elf_build.specs.declared.generation.Block.{Block}
use Rattle.elf_build.specs.declared.generation.Block.TheVariants.{FarSwitch, NearSwitch, Call as CallBlock, Trace as TraceBlock, TailCall}
use Rattle.elf_build.specs.Generated.{block_bytes, block_len, block_of, blocks, text_from}
use Rattle.module_parts.specs.declared.site.Site.{Site}
use Rattle.module_parts.specs.declared.site.SiteKind.TheVariants.{Jump, Call, Tail, Trace}

-- the site of a block, as the module has it
abbrev pub block_made : Block → ℕ → ℕ → Site
block_made FarSwitch i at = record { at = at; len = 5; kind = Jump (at + 7) (i / 5 % 2) (i / 10 % 2 == 1); foreign = false }
block_made NearSwitch i at = record { at = at; len = 2; kind = Jump (at + 4) (i / 5 % 2) (i / 10 % 2 == 1); foreign = false }
block_made CallBlock i at = record { at = at; len = 5; kind = Call 2; foreign = false }
block_made TraceBlock i at = record { at = at; len = 5; kind = Trace; foreign = false }
block_made TailCall i at = record { at = at + 7; len = 5; kind = Tail 3; foreign = false }

-- those of the blocks that are left
abbrev pub made_from : ℕ → ℕ → ℕ → List Site
made_from zero i at = []
made_from (suc left) i at = block_made (block_of i) i at ∷ made_from left (i + 1) (at + block_len (block_of i))

-- a block's site lies in the block
pub block-after : (b : Block) (i at : ℕ) → at ≤ (block_made b i at).at
block-after FarSwitch i at = omega arith
block-after NearSwitch i at = omega arith
block-after CallBlock i at = omega arith
block-after TraceBlock i at = omega arith
block-after TailCall i at = omega arith

pub block-within : (b : Block) (i at : ℕ) → (block_made b i at).at + (block_made b i at).len ≤ at + block_len b
block-within FarSwitch i at = omega arith
block-within NearSwitch i at = omega arith
block-within CallBlock i at = omega arith
block-within TraceBlock i at = omega arith
block-within TailCall i at = omega arith

-- none begins before the first block that is left
pub made-after : (left i at low : ℕ) → low ≤ at → Each (λ (s : Site). low ≤ s.at) (made_from left i at)
made-after zero i at low le = tt
made-after (suc left) i at low le =
    let here = block-after (block_of i) i at in
    (omega (arith, here, le), made-after left (i + 1) (at + block_len (block_of i)) low (omega (arith, le)))

-- none is foreign
pub made-own : (left i at : ℕ) → Each (λ (s : Site). s.foreign ≡ false) (made_from left i at)
made-own zero i at = tt
made-own (suc left) i at = (own (block_of i), made-own left (i + 1) (at + block_len (block_of i)))
  where
    own : (b : Block) → (block_made b i at).foreign ≡ false
    own FarSwitch = refl
    own NearSwitch = refl
    own CallBlock = refl
    own TraceBlock = refl
    own TailCall = refl

-- a block has as many bytes as it takes
pub length-block : (b : Block) (at : ℕ) → length (block_bytes b at) ≡ block_len b
length-block FarSwitch at = refl
length-block NearSwitch at = refl
length-block CallBlock at = refl
length-block TraceBlock at = refl
length-block TailCall at = refl

-- n bytes further in a text
pub drop-further : (base at n : ℕ) (file front rest : List ℕ) → base ≤ at → drop (at - base) file ≡ front ++ rest → length front ≡ n → drop (at + n - base) file ≡ rest
drop-further base at n file front rest low bytes same =
    let sum : at + n - base ≡ at - base + n = omega (arith, low) in
    ap (λ (k : ℕ). drop k file) sum ∙ sym (drop-drop n (at - base) file) ∙ ap (drop n) bytes
    ∙ ap (λ (k : ℕ). drop k (front ++ rest)) (sym same) ∙ drop-append_seam front rest

-- the blocks that are left stand at an address of a text, up to its end
pub record Stands (base : ℕ) (file : List ℕ) (left i at : ℕ) : Type 0 where
  pub from : base ≤ at
  pub start : blocks ≤ at
  pub bytes : drop (at - base) file ≡ text_from left i at
  pub whole : at + length (text_from left i at) ≡ base + length file
  pub small : base + length file ≤ 0x410000

-- and so do those after the next one
pub stands-next : (base : ℕ) (file : List ℕ) (left i at : ℕ) → Stands base file (suc left) i at → Stands base file left (i + 1) (at + block_len (block_of i))
stands-next base file left i at st =
    let b = block_of i in
    let rest = text_from left (i + 1) (at + block_len b) in
    let one = length-block b at in
    let sum = length-append (block_bytes b at) rest in
    let whole = st.whole in
    let from = st.from in
    let start = st.start in
    record {
      from = omega (arith, from);
      start = omega (arith, start);
      bytes = drop-further base at (block_len b) file (block_bytes b at) rest st.from st.bytes one;
      whole = omega (arith, one, sum, whole);
      small = st.small;
    }
