-- What `check` says of a module file, and why one isn't accepted.
use Rattle.std.specs.Prelude.{◌≤◌, ◌<◌, ⊤, ℕ, List, [], ◌∷◌, ◌++◌, length, codes}
use Rattle.poke_base.specs.Number.{decimal, hexadecimal}
use Rattle.elf_module.specs.Elf.{Elf, sections_of, symbols_of}
use Rattle.elf_module.specs.Refusals.{IsRefusal, Passes}
use Rattle.module_parts.specs.declared.site.Site.{Site}
use Rattle.module_image.specs.SiteLine.{site_lines}
use Rattle.module_image.specs.Module.{Module, IsModule}
use Rattle.module_image.specs.Refusals.{IsRefusal as IsImageRefusal}
use Rattle.poke_faults.specs.declared.fault.Fault.{Fault}
use Rattle.poke_faults.specs.declared.fault.Fault.TheVariants.{Refused as RefusedFault, Memory}
use Rattle.poke_faults.specs.declared.fault.Refusal.{Refusal}
use Rattle.poke_faults.specs.declared.fault.Refusal.TheVariants.{Module as ModuleRefusal}
use Rattle.poke_faults.specs.declared.module_fault.ModuleRefused.{ModuleRefused}
use Rattle.poke_faults.specs.declared.module_fault.ModuleRefused.TheVariants.{TooLong, Elf as NoElf, Image}
use Rattle.poke_commands.specs.Module.{module_limit}

-- the sections and symbols that a file's bytes say
abbrev pub elf_of : List ℕ → Elf
elf_of file = record { sections = sections_of file; symbols = symbols_of file }

-- `text BASE SIZE`, the size in bytes, in decimal
abbrev pub text_line : ℕ → List ℕ → List ℕ
text_line base text = codes "text " ++ hexadecimal base ++ codes " " ++ decimal (length text) ++ 10 ∷ []

abbrev pub accepted_line : List ℕ
accepted_line = codes "accepted" ++ 10 ∷ []

-- what is printed of a module that is accepted: its text, its sites, and that it is
abbrev pub accepted_text : ℕ → List ℕ → List Site → List ℕ
accepted_text base text sites = (text_line base text ++ site_lines base text sites) ++ accepted_line

-- why a file isn't accepted as a module: the first thing that is wrong with it
abbrev pub RefusesModule : List ℕ → ModuleRefused → Type 0
RefusesModule file TooLong = module_limit < length file
RefusesModule file (NoElf why) = (length file ≤ module_limit) × IsRefusal file why
RefusesModule file (Image why) = (length file ≤ module_limit) × Passes file 13 × IsImageRefusal (elf_of file) why

-- the bytes are those of a module file that is accepted as this module
pub record Accepts (file : List ℕ) (m : Module) : Type 0 where
  pub fits : length file ≤ module_limit
  pub passes : Passes file 13
  pub is_module : IsModule (elf_of file) m

-- why a file isn't accepted, as the refusal of a command
abbrev pub RefusesAsModule : List ℕ → Refusal → Type 0
RefusesAsModule file (ModuleRefusal why) = RefusesModule file why
RefusesAsModule file _ = ⊥

-- why bytes aren't accepted: they are refused, or there was no memory
abbrev pub RefusesFile : List ℕ → Fault → Type 0
RefusesFile file (RefusedFault why) = RefusesAsModule file why
RefusesFile file Memory = ⊤
RefusesFile file _ = ⊥
