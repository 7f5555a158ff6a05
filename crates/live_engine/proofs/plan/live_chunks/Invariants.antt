-- The chunks so far and those of the commands that are left are the chunks of all.
use Rattle.std.proofs.Common.{◌≡◌, ◌++◌, drop, map}
use Rattle.key_state.specs.Settled.{IsSettledOf}
use Rattle.module_image.specs.Held.{first_states}
use Rattle.script_text.specs.Commands.{commands}
use Rattle.live_engine.specs.LivePlan.{chunks_made}
use Rattle.live_engine.proofs.plan.live_chunks.Given as goal

abbrev pub invariant-loop-step : goal.invariant-loop-step
invariant-loop-step l =
    record {
      of : IsSettledOf l.image l.settled;
      made :
          map (λ chunk. chunk.items) l.chunks.items ++ chunks_made l.image l.settled.states (commands (drop l.step-index l.steps))
          ≡ chunks_made l.image (first_states l.image) (commands l.steps);
    }
