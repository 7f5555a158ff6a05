-- A form does the same wherever the processor stood before.
use Rattle.std.proofs.Common.{◌≡◌, ℕ, refl}
use Rattle.insn_forms.specs.declared.forms.Form.{Form}
use Rattle.x64_subset.specs.declared.proc.Life.TheVariants.{Running}
use Rattle.x64_subset.specs.declared.proc.Mark.{Mark}
use Rattle.x64_subset.specs.declared.proc.Mark.TheVariants.{None as NoMark, Out, Ended}
use Rattle.x64_subset.specs.declared.proc.Proc.{Proc}
use Rattle.x64_subset.specs.Effect.{at_ip, does}
use Rattle.x64_subset.specs.Whole.{insn_of, name_len, stays, whole}
use Rattle.live_engine.proofs.Pairing.{Stops, form-stops}

-- two processors show the same and live alike, and are one while they run
pub record Alike (one other : Proc × Mark) : Type 0 where
  pub shows : one.1 ≡ other.1
  pub life : one.0.life ≡ other.0.life
  pub same : other.0.life ≡ Running → one.0 ≡ other.0

stays-alike : (ip there : ℕ) (p : Proc) (mark : Mark) → Stops (p, mark) → Alike (stays ip (p, mark)) (stays there (p, mark))
stays-alike ip there p NoMark stops = record { shows = refl; life = refl; same = λ runs. refl }
stays-alike ip there p (Out port value) stops = record { shows = refl; life = refl; same = λ runs. refl }
stays-alike ip there p Ended stops = record { shows = refl; life = refl; same = λ runs. absurd (stops refl runs) }

-- a form does the same wherever the processor stood before
pub whole-alike : (form : Form) (at : ℕ) (p : Proc) → Alike (whole form at p) (whole form at (at_ip at p))
unfolding whole
whole-alike form at p =
    let done = does (insn_of form) (name_len form) (at_ip at p) in
    stays-alike p.ip at done.0 done.1 (form-stops form (name_len form) (at_ip at p))
