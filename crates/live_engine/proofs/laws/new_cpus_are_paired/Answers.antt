-- It stands at a start, and has nowhere to return to.
use Rattle.std.proofs.Common.{◌≡◌, false, true, refl, arith}
use Rattle.live_engine.proofs.laws.new_cpus_are_paired.Goals as goal

pub returns : goal.returns
returns c = λ m plan entry v begins stays. record {
  stays = stays;
  flows = record { stands = λ runs. begins; room = refl; few = omega arith; returns = λ i below. absurd (omega arith) };
  trapped = λ is. (let never : false ≡ true = is in cc);
}
