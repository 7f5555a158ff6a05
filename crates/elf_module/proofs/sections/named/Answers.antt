use Rattle.std.proofs.Common.{◌∙◌, sym, arith}
use Rattle.elf_module.proofs.Rows.{refused-names, passes-names}
use Rattle.elf_module.proofs.sections.named.Goals as goal

pub returns-then-from-end : goal.returns-then-from-end
returns-then-from-end c =
    let s = c.args.sections.now in
    rw c.from-then-from-end.ensures (refused-names s.headers.bytes.now s.names.now s.headers.names c.names_end-end.result c.loop-i.i c.requires s.headers.names_is
    (sym c.header.ensures.kind ∙ c.if-header-ne-SHT_STRTAB.false) s.names_is c.names_end-end.ensures (omega arith) c.loop-i.invariant
    (omega (arith, c.header-in-loop-i.ensures.name, c.from-in-loop-i.ensures)))

pub returns : goal.returns
returns c =
    let s = c.args.sections.now in
    passes-names s.headers.bytes.now s.names.now s.headers.names c.names_end-end.result c.requires s.headers.names_is
    (sym c.header.ensures.kind ∙ c.if-header-ne-SHT_STRTAB.false) s.names_is c.names_end-end.ensures (λ k lt. c.loop-i.invariant k (omega arith))
