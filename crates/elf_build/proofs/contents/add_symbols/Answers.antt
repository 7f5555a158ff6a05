use Rattle.std.proofs.Common.{◌++◌, ◌∙◌, List, ℕ, ap}
use Rattle.elf_build.specs.File.{named_symbols, symbol}
use Rattle.elf_build.proofs.Appends.{appended-twice}
use Rattle.elf_build.proofs.contents.add_symbols.Goals as goal

pub returns : goal.returns
returns c =
    appended-twice c.args.out.now.items (symbol 0 0 0 0 0) (named_symbols c.args.plan.now) c.add.new.out.items _ _
    (c.in_ok-add.ensures ∙ ap (λ (xs : List ℕ). c.args.out.now.items ++ xs) (c.deref.ensures.0 ∙ c.symbol.ensures))
    c.add_named_symbols.ensures
