-- What the fields of a patch worker stand for.
use Rattle.std.specs.Prelude.{◌≤◌, ℕ}
use Rattle.live_engine.specs.declared.patch.LivePatch.TheInside.{Inside}

-- how many processors there are
abbrev pub cpus_of : Inside → ℕ
cpus_of i = i.cpus

pub record IsSound (i : Inside) : Type 0 where
  pub next : i.next ≤ i.cpus
