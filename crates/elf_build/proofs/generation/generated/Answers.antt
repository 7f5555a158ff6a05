use Rattle.std.proofs.Common.{refl}
use Rattle.elf_build.proofs.Generates.{generated-fits}
use Rattle.elf_build.proofs.generation.generated.Goals as goal

pub returns-clause-fits : goal.returns-clause-fits
returns-clause-fits c =
    generated-fits c.args.n
    (record {
      base = 0x401000;
      text = c.in_ok-text.field-0;
      sites = c.in_ok-sites.field-0;
      keys = c.in_ok-keys.field-0;
      functions = c.in_ok-functions.field-0;
    })
    c.requires.many
    (record {
      base = refl;
      text = c.in_ok-text.ensures;
      sites = c.in_ok-sites.ensures;
      keys_are = c.in_ok-keys.ensures;
      functions = c.in_ok-functions.ensures;
    })
