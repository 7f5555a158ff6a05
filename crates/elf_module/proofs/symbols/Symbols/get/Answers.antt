use Rattle.std.proofs.Common.{◌∙◌, ◌/◌, ◌*◌, ℕ, ap, sym, arith, drop, length, Some}
use Rattle.elf_module.specs.Elf.{symbol_in}
use Rattle.elf_module.proofs.Finding.{get_within, get_past}
use Rattle.elf_module.proofs.symbols.Symbols.get.Goals as goal

pub returns-then-i-count : goal.returns-then-i-count
returns-then-i-count c =
    let s = c.args.self.now in
    ap Some c.at.ensures ∙ sym (get_within (λ (k : ℕ). symbol_in s.names.now (drop (24 * k) s.entries.now)) (length s.entries.now / 24) c.args.i (omega arith))

pub returns-else-i-count : goal.returns-else-i-count
returns-else-i-count c =
    let s = c.args.self.now in
    sym (get_past (λ (k : ℕ). symbol_in s.names.now (drop (24 * k) s.entries.now)) (length s.entries.now / 24) c.args.i (omega arith))
