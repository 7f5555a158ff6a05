-- A processor that a form, done as a whole, ends stands where it stood.
use Rattle.std.proofs.Common.{◌≡◌, ℕ, refl}
use Rattle.x64_subset.specs.declared.proc.Proc.{Proc}
use Rattle.x64_subset.specs.declared.proc.Mark.{Mark}
use Rattle.x64_subset.specs.declared.proc.Mark.TheVariants.{None as NoMark, Out, Ended}
use Rattle.x64_subset.specs.Whole.{insn_of, name_len, stays, whole}
use Rattle.x64_subset.specs.Effect.{does, at_ip}
use Rattle.x64_subset.specs.Laws.{EndedStay}

-- whatever it did
stays_ended : (ip : ℕ) (done : Proc × Mark) → (stays ip done).1 ≡ Ended → (stays ip done).0.ip ≡ ip
stays_ended ip (p, NoMark) e = absurd (cc)
stays_ended ip (p, Out port value) e = absurd (cc)
stays_ended ip (p, Ended) e = refl

pub ended_stay : EndedStay
unfolding whole
ended_stay form at p e = stays_ended p.ip (does (insn_of form) (name_len form) (at_ip at p)) e
