-- What the fields of a running machine stand for.
use Rattle.script_runner.specs.declared.world.World.TheInside.{Inside}
use Rattle.script_runner.specs.World.{WorldSeen, IsWorld}

abbrev pub seen : Inside → WorldSeen
seen i = record {
  image = i.image;
  script = i.script;
  place = i.progress.place;
  turns = i.progress.turns;
  updates = i.updater.updates;
  states = i.updater.keys;
  room = i.updater.changes.room;
  sites = i.updater.sites;
  batch = i.updater.batch;
  cpus = i.cpus.items;
  text = i.text;
  idle = i.idle;
}

abbrev pub IsSound : Inside → Type 0
IsSound i = IsWorld (seen i)
