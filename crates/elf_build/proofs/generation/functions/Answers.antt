use Rattle.std.proofs.Common.{◌≡◌, ◌++◌, ◌+◌, ◌-◌, ◌∙◌, ℕ, ap, subst, sym, refl, arith}
use Rattle.elf_build.specs.declared.generation.Block.{Block}
use Rattle.elf_build.specs.Generated.{block_functions, block_len, block_of, functions_from, functions_of}
use Rattle.elf_build.proofs.Blocks.{block-more}
use Rattle.elf_build.proofs.Generates.{block_len-le}
use Rattle.elf_build.proofs.generation.functions.Goals as goal

pub loop-number-preserved : goal.loop-number-preserved
loop-number-preserved c =
    let i = c.loop-number.number in
    let at = c.loop-number.at in
    let size : c.len-at.result ≡ block_len (block_of i) = c.len-at.ensures ∙ ap block_len c.of-block.ensures in
    let most = block_len-le (block_of i) in
    let low = c.loop-number.invariant.1 in (
      subst (λ (len : ℕ). c.add_function.new.out.items ++ functions_from (c.args.n - (i + 1)) (i + 1) (at + len) ≡ functions_of c.args.n) (sym size)
          (block-more functions_from (λ (i at : ℕ). block_functions (block_of i) i at) (λ left i at. refl) c.args.n i at c.loop-number.out.items c.add_function.new.out.items _ c.loop-number-test.true c.loop-number.invariant.0
          (c.in_ok-add_function.ensures ∙ ap (λ (block : Block). c.loop-number.out.items ++ block_functions block i at) c.of-block.ensures)),
      omega arith,
    )
