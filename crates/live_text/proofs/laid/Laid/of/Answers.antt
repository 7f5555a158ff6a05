use Rattle.std.proofs.Common.{All, List, sym, subst}
use Rattle.live_text.specs.declared.plan.LiveSite.{LiveSite}
use Rattle.live_text.specs.Layout.{IsInRow}
use Rattle.live_text.proofs.Standing.{rows_of}
use Rattle.live_text.proofs.laid.Laid.of.Goals as goal

pub rounds_of-requires-clause-rows : goal.rounds_of-requires-clause-rows
rounds_of-requires-clause-rows c =
    let rows = rows_of c.args.plan c.requires in
    subst (λ chunks. All (λ chunk. All (IsInRow c.deref-2.result.now) chunk.items) chunks) (sym c.deref-3.ensures.value)
    (subst (λ (sites : List LiveSite). All (λ chunk. All (IsInRow sites) chunk.items) c.args.plan.chunks.items) (sym c.deref-2.ensures.value) rows)
