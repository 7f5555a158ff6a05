-- The machine before its first event.
use Rattle.std.proofs.Common.{length, refl, ap}
use Rattle.script_runner.proofs.First.{first_stands}
use Rattle.script_runner.specs.WorldInside.{seen}
use Rattle.script_runner.proofs.world.World.new.Goals as goal

pub returns-clause-first : goal.returns-clause-first
returns-clause-first c =
    first_stands (seen (record { image = c.args.image; script = c.args.script; progress = record { place = 0; turns = 0 }; updater = c.in_ok-updater.updater; cpus = c.in_ok-cpus.cpus; text = c.in_ok-text.text; idle = 0 }))
    _ _ _ _ _ refl refl c.in_ok-updater.ensures.updates c.in_ok-updater.ensures.keys c.in_ok-updater.ensures.batch c.in_ok-cpus.ensures c.entries-2.ensures.entries c.in_ok-text.ensures.stands c.base.ensures.base c.text.ensures.text (ap length c.entries.ensures.entries)
