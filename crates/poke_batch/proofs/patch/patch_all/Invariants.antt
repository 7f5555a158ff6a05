use Rattle.std.proofs.Common.{◌≡◌, All, None, map, take, vec_capacity}
use Rattle.poke_batch.specs.Clash.{first_clash}
use Rattle.poke_batch.specs.Inside.{change_of}
use Rattle.poke_batch.specs.Patch.{IsSpelt}
use Rattle.poke_batch.proofs.patch.patch_all.Given as goal

abbrev pub invariant-loop-change : goal.invariant-loop-change
invariant-loop-change g l = record {
  made : map change_of l.patches.items ≡ take l.change-index l.changes;
  spelt : All IsSpelt l.patches.items;
  capacity : vec_capacity l.patches ≡ vec_capacity l.initial.patches;
  no_clash : first_clash (g.T.Held.held_byte l.text) (take l.change-index l.changes) ≡ None;
}
