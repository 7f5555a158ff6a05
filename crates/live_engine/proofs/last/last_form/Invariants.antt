-- The form so far becomes, by the chunks that are left, the form after all of them.
use Rattle.std.proofs.Common.{◌≡◌, drop, map}
use Rattle.live_text.specs.Plan.{chunks_of, form_after}
use Rattle.live_engine.proofs.last.last_form.Given as goal

abbrev pub invariant-loop-chunk : goal.invariant-loop-chunk
invariant-loop-chunk l =
    form_after (map (λ chunk. chunk.items) (drop l.chunk-index l.plan.chunks.items)) l.site.at l.form ≡ form_after (chunks_of l.plan) l.site.at l.site.start
