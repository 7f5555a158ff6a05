-- One symbol more, and all of them.
use Rattle.std.proofs.Common.{◌<◌, ◌≤◌, arith, length}
use Rattle.module_names.proofs.NamesGiven.{one_symbol_more, all_symbols}
use Rattle.module_names.proofs.naming.SymbolNames.of.Goals as goal

pub loop-i-preserved : goal.loop-i-preserved
loop-i-preserved c =
    let keys = c.args.keys.now in
    let symbols = c.args.file.now.symbols in
    let below : c.loop-i.i < length symbols = omega (arith, c.symbol_count-i-end.ensures, c.loop-i-test.true) in
    one_symbol_more c.args.index keys.jumps.items keys.calls.items symbols c.loop-i.i c.loop-i.found c.add_symbol.new.self below c.in_ok-add_symbol.ensures.named c.loop-i.invariant

pub returns-clause-names : goal.returns-clause-names
returns-clause-names c =
    let keys = c.args.keys.now in
    let symbols = c.args.file.now.symbols in
    let all : length symbols ≤ c.loop-i.i = omega (arith, c.symbol_count-i-end.ensures, c.loop-i-test.false) in
    all_symbols c.args.index keys.jumps.items keys.calls.items symbols c.loop-i.i c.loop-i.found all c.loop-i.invariant
