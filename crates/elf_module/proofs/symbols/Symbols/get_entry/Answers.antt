use Rattle.std.proofs.Common.{◌∙◌, ◌/◌, ◌*◌, ℕ, ap, sym, arith, drop, length, option_map, Some}
use Rattle.elf_module.specs.Elf.{entry_of, symbol_in}
use Rattle.elf_module.proofs.Finding.{get_within, get_past}
use Rattle.elf_module.proofs.symbols.Symbols.get_entry.Goals as goal

pub returns-then-i-count : goal.returns-then-i-count
returns-then-i-count c =
    let s = c.args.self.now in
    ap Some c.entry.ensures ∙ ap (option_map entry_of) (sym (get_within (λ (k : ℕ). symbol_in s.names.now (drop (24 * k) s.entries.now)) (length s.entries.now / 24) c.args.i (omega arith)))

pub returns-else-i-count : goal.returns-else-i-count
returns-else-i-count c =
    let s = c.args.self.now in
    ap (option_map entry_of) (sym (get_past (λ (k : ℕ). symbol_in s.names.now (drop (24 * k) s.entries.now)) (length s.entries.now / 24) c.args.i (omega arith)))
