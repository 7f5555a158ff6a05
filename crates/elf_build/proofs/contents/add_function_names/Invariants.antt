use Rattle.std.proofs.Common.{◌≡◌, ◌++◌, drop}
use Rattle.elf_build.specs.File.{names_of_functions}
use Rattle.elf_build.proofs.contents.add_function_names.Given as goal

abbrev pub invariant-loop-function : goal.invariant-loop-function
invariant-loop-function l =
    l.out.items ++ names_of_functions (drop l.function-index l.functions) ≡ l.initial.out.items ++ names_of_functions l.functions
