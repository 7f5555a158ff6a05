-- What was found of a module before and after its text is written.
use Rattle.std.specs.Prelude.{◌≡◌, ◌<◌, ◌≤◌, length}
use Rattle.std.specs.List.{All}
use Rattle.elf_module.specs.Elf.{Elf}
use Rattle.module_image.specs.declared.finding.Found.{Found}
use Rattle.module_image.specs.declared.swept.Swept.{Swept}
use Rattle.module_parts.specs.declared.key.KeyClass.TheVariants.{Jump, Call}
use Rattle.module_names.specs.Entries.{file_text}
use Rattle.module_names.specs.Keys.{key_addresses, keys}
use Rattle.module_names.specs.Names.{functions}
use Rattle.module_image.specs.Sites.{sites, text}
use Rattle.module_image.specs.Early.{HaveCallLens}
use Rattle.module_image.specs.Layout.{IsSwept, layout}
use Rattle.module_image.specs.Aims.{AllLead, jump_aims, key_aims}
use Rattle.module_image.specs.Refusals.{function_aims}
use Rattle.module_image.specs.Text.{AreInside, AreApart, IsText}

-- the text, sites and keys' addresses of a file
pub record IsFound (elf : Elf) (found : Found) : Type 0 where
  pub is_text : IsText elf found.text
  pub has_sites : found.sites.items ≡ sites elf
  pub jumps : found.addresses.jumps.items ≡ key_addresses elf Jump
  pub calls : found.addresses.calls.items ≡ key_addresses elf Call
  pub inside : AreInside found.text.base (length found.text.bytes.now) found.sites.items
  pub apart : AreApart found.sites.items
  pub call_lens : HaveCallLens found.sites.items
  pub few : length found.sites.items ≤ 1024

-- the text after early writing, what it is made of, and that all jumps, calls, keys and functions lead to starts
pub record IsSweptOf (elf : Elf) (found : Swept) : Type 0 where
  pub has_text : found.text.items ≡ text elf
  pub bytes : All (λ byte. byte < 256) found.text.items
  pub same_length : length found.text.items ≡ length (file_text elf)
  pub units : IsSwept (layout elf) found.units.items
  pub leads : AllLead (layout elf) (jump_aims (sites elf)) (key_aims (keys elf)) (function_aims (functions elf))
