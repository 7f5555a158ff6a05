use Rattle.std.proofs.Common.{◌≡◌, ◌≤◌, ◌+◌, ◌*◌, ◌++◌, map}
use Rattle.arrayvec.specs.ArrayVec.{array_vec_len}
use Rattle.script_runner.specs.Choosing.{choice_of, patch_found, taking_found, turn_found}
use Rattle.script_runner.proofs.Ranges.{below}
use Rattle.script_runner.proofs.world.World.picks.Given as goal

abbrev pub invariant-loop-cpu : goal.invariant-loop-cpu
invariant-loop-cpu l =
    (map choice_of l.picks.items ≡ patch_found l.self ++ below l.self (λ c x. taking_found l.self c x ++ turn_found l.self c x) l.cpu)
    × (array_vec_len l.picks ≤ 1 + 2 * l.cpu)
