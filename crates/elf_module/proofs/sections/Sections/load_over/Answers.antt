use Rattle.std.proofs.Common.{rules, ◌+◌, ◌%◌, ◌^◌, ℕ, None, get_or}
use Rattle.std.specs.Option.{option_or}
use Rattle.elf_module.specs.Elf.{byte_over, section_at}
use Rattle.elf_module.proofs.Made.{made_values}
use Rattle.elf_module.proofs.sections.Sections.load_over.Goals as goal

pub returns : goal.returns
returns c =
    let s = section_at c.args.self.now.headers.bytes.now c.args.index in
    made_values _ _ (λ (k : ℕ). option_or (get_or c.args.bytes.now k None) (byte_over s ((c.args.at + k) % 2 ^ 64))) c.from_fn.result 16 None c.from_fn.ensures.items
    (λ j x q called. search rules)
