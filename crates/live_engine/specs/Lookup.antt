-- The version that a processor does at a site where it fetches no breakpoint.
use Rattle.std.specs.Prelude.{◌==◌, ◌||◌, ℕ, ◌+◌, ◌/◌, ◌%◌, if◌then◌else◌, is_none}
use Rattle.live_text.specs.declared.plan.LivePlan.{LivePlan}
use Rattle.poke_batch.specs.Walk.{new_form}
use Rattle.live_text.specs.Versions.{chunk_of}

abbrev pub version_for : LivePlan → ℕ → ℕ → ℕ
version_for plan ack at = if ack % 3 == 0 || is_none (new_form (chunk_of plan (ack / 3)) at) then ack / 3 else ack / 3 + 1
