-- The modules that are generated are accepted.
use Rattle.std.specs.Prelude.{◌≤◌, ℕ, List}
use Rattle.elf_build.specs.declared.plan.Plan.{Plan}
use Rattle.elf_build.specs.File.{file_of}
use Rattle.elf_build.specs.Generated.{IsGenerated}
use Rattle.elf_module.specs.Elf.{Elf, sections_of, symbols_of}
use Rattle.module_image.specs.Refusals.{Passes, past_all}

-- what a file says, which is what is read of it where it is read
abbrev pub elf_of : List ℕ → Elf
elf_of file = record { sections = sections_of file; symbols = symbols_of file }

-- no condition of a refusal holds of the file that is written of the plan of 10 to 1,000 blocks
abbrev pub GeneratedAreAccepted : Type 0
GeneratedAreAccepted =
    (n : ℕ) (plan : Plan) → 10 ≤ n → n ≤ 1000 → IsGenerated n plan → Passes (elf_of (file_of plan)) past_all
