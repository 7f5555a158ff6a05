use Rattle.std.proofs.Common.{◌≡◌, ◌≤◌, ◌+◌, ◌++◌, length, map}
use Rattle.arrayvec.specs.ArrayVec.{array_vec_len}
use Rattle.script_runner.specs.Choosing.{choice_of, handler_found, patch_found, taking_found}
use Rattle.script_runner.proofs.Ranges.{below}
use Rattle.script_runner.proofs.world.World.forced.Given as goal

abbrev pub invariant-loop-cpu : goal.invariant-loop-cpu
invariant-loop-cpu l =
    (map choice_of l.picks.items ≡ patch_found l.self ++ below l.self (taking_found l.self) l.cpu)
    × (array_vec_len l.picks ≤ 1 + l.cpu)

abbrev pub invariant-loop-cpu-2 : goal.invariant-loop-cpu-2
invariant-loop-cpu-2 l =
    (map choice_of l.picks.items ≡ (patch_found l.self ++ below l.self (taking_found l.self) (length l.self.cpus)) ++ below l.self (handler_found l.self) l.cpu)
    × (array_vec_len l.picks ≤ 17 + l.cpu)
