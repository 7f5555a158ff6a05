use Rattle.std.proofs.Common.{◌≡◌, ◌≤◌, ◌+◌, ◌*◌, ◌++◌, drop, length}
use Rattle.elf_build.specs.File.{function_symbols, names_of_functions}
use Rattle.elf_build.proofs.contents.add_function_symbols.Given as goal

abbrev pub invariant-loop-function : goal.invariant-loop-function
invariant-loop-function l =
    (l.out.items ++ function_symbols l.name (drop l.function-index l.functions) ≡ l.initial.out.items ++ function_symbols 1 l.functions)
    × (l.name + length (names_of_functions (drop l.function-index l.functions)) ≡ 1 + length (names_of_functions l.functions))
    × (l.name ≤ 1 + 65 * l.function-index)
