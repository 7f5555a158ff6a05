-- The plan as the code keeps it.
use Rattle.std.specs.Prelude.{◌≡◌}
use Rattle.live_text.specs.declared.view.Shape.{Shape}
use Rattle.live_text.specs.declared.laid.Laid.{Laid}
use Rattle.live_text.specs.Flat.{shape_of}
use Rattle.live_text.specs.Layout.{AreFirsts}

-- as numbers
abbrev pub laid_shape : Laid → Shape
laid_shape laid = record {
  cpus = laid.cpus;
  starts = laid.starts.items;
  writes = laid.writes.items;
  cuts = laid.cuts.items;
}

-- it is the plan as numbers
pub record IsLaid (laid : Laid) : Type 0 where
  pub shape : laid_shape laid ≡ shape_of laid.plan laid.cpus
  pub firsts : AreFirsts laid.plan.sites.items laid.firsts.items
