use Rattle.std.proofs.Common.{◌+◌, refl, arith}
use Rattle.std.proofs.lemmas.Grind.{common_steps}
use Rattle.poke_batch.proofs.Patches.{held_bytes-more}
use Rattle.poke_batch.proofs.patch.held_bytes.Goals as goal

pub loop-i-preserved : goal.loop-i-preserved
loop-i-preserved g c =
    let more = held_bytes-more (g.T.Held.held_byte c.args.text.now) c.args.at c.loop-i.i (c.loop-i.i + 1) refl in
    record { bytes = cc; length = grind (arith, common_steps) }
