-- What a look at the generation makes of a seat.
use Rattle.std.proofs.Common.{◌≡◌, ◌<◌, ◌≤◌, ◌⊎◌, ℕ, Bool, true, false, nat_lt, if◌then◌else◌, inl, inr, refl, ap, sym, subst, arith}
use Rattle.std.proofs.lemmas.Bool.{ltb-false, ltb-true}
use Rattle.live_text.specs.declared.view.View.{View}
use Rattle.live_text.specs.Seats.{Sits}
use Rattle.live_text.specs.Steps.{acked, looked}
use Rattle.live_engine.specs.Look.{Begins, LoadsOnce}
use Rattle.live_engine.specs.Turns.{renewed}

-- what was acknowledged rises, or else the mark; plan and leave stay
pub record IsLater (v w : View) : Type 0 where
  pub shape : w.shape ≡ v.shape
  pub left : w.cpu.left ≡ v.cpu.left
  pub rises : (v.cpu.ack < w.cpu.ack) ⊎ ((v.cpu.ack ≡ w.cpu.ack) × (v.cpu.mark ≤ w.cpu.mark))

pub later-same : (v : View) → IsLater v v
later-same v = record { shape = refl; left = refl; rises = inr (refl, omega arith) }

pub later-renewed : (v : View) → Sits v → IsLater v (renewed v)
later-renewed v sits = record { shape = refl; left = refl; rises = inr (refl, sits.mark_below) }

caught : (g : ℕ) (v : View) (behind : Bool) → nat_lt v.cpu.ack g ≡ behind → Sits v → v.cpu.greatest ≤ g → IsLater v (if behind then acked g (looked g v) else looked g v) × LoadsOnce true v.cpu (if behind then acked g (looked g v) else looked g v).cpu
caught g v true is sits le = (record { shape = refl; left = refl; rises = inl (ltb-true v.cpu.ack g is) }, (refl, refl))
caught g v false is sits le =
    let past : g ≤ v.cpu.ack = ltb-false v.cpu.ack g is in
    let acked_is = sits.acked in
    let same : v.cpu.ack ≡ g = omega arith in
    (record { shape = refl; left = refl; rises = inr (refl, omega arith) }, (refl, same))

pub looked-later : (looks : Bool) (v w : View) → Sits v → Begins looks v w → IsLater v w × LoadsOnce looks v.cpu w.cpu
looked-later false v w sits begins = (subst (IsLater v) (sym begins) (later-same v), ap (λ (x : View). x.cpu.looks) begins)
looked-later true v w sits begins =
    subst (λ (x : View). IsLater v x × LoadsOnce true v.cpu x.cpu) (sym begins.2) (caught begins.0 v (nat_lt v.cpu.ack begins.0) refl sits begins.1)
