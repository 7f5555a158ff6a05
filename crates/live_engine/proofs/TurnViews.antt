-- What a turn keeps of a seat's view, after its look and as a whole.
use Rattle.std.proofs.Common.{◌≡◌, ◌<◌, ◌≤◌, ◌∙◌, ◌⊎◌, ℕ, Bool, true, false, nat_lt, if◌then◌else◌, List, [], ◌∷◌, inl, inr, refl, ap, sym, subst, arith}
use Rattle.insn_forms.specs.declared.forms.Form.{Form}
use Rattle.live_text.specs.declared.plan.LivePlan.{LivePlan}
use Rattle.live_text.specs.declared.view.CpuView.{CpuView}
use Rattle.live_text.specs.declared.view.View.{View}
use Rattle.live_text.specs.Own.{byte_number}
use Rattle.live_text.specs.Seats.{Sits}
use Rattle.live_text.specs.Steps.{acked, looked}
use Rattle.module_image.specs.Module.{Module}
use Rattle.x64_subset.specs.declared.insn.Insn.{Insn}
use Rattle.x64_subset.specs.declared.insn.Insn.TheVariants.{Serialize}
use Rattle.live_engine.specs.declared.cpu.Turn.{Turn}
use Rattle.live_engine.specs.declared.cpu.Turn.TheVariants.{Ran, Pass, Trapped, Still}
use Rattle.live_engine.specs.Fetch.{Fetches}
use Rattle.live_engine.specs.LiveCpu.{CpuState, Runner}
use Rattle.live_engine.specs.Look.{Begins, LoadsOnce, is_looking}
use Rattle.live_engine.specs.Turns.{Does, Gets, Turns, after_insn, renewed}
use Rattle.live_engine.specs.Versions.{floor}
use Rattle.live_engine.proofs.Floors.{floor-rises}
use Rattle.live_engine.proofs.Looking.{IsLater, looked-later}

-- all but the cache, its counts and what is known of the writes is kept, and the mark doesn't fall
pub record IsKept (v w : View) : Type 0 where
  pub shape : w.shape ≡ v.shape
  pub left : w.cpu.left ≡ v.cpu.left
  pub ack : w.cpu.ack ≡ v.cpu.ack
  pub greatest : w.cpu.greatest ≡ v.cpu.greatest
  pub looks : w.cpu.looks ≡ v.cpu.looks
  pub mark : v.cpu.mark ≤ w.cpu.mark

kept-same : (v : View) → IsKept v v
kept-same v = record { shape = refl; left = refl; ack = refl; greatest = refl; looks = refl; mark = omega arith }

-- by fetching anew
kept-renewed : (v : View) → v.cpu.mark ≤ v.cpu.known → IsKept v (renewed v)
kept-renewed v marked = record { shape = refl; left = refl; ack = refl; greatest = refl; looks = refl; mark = marked }

-- by a plain instruction
kept-after : (insn : Insn) (v : View) → v.cpu.mark ≤ v.cpu.known → IsKept v (after_insn insn v)
kept-after Serialize v marked = kept-renewed v marked
kept-after _ v marked = kept-same v

-- by a fetch
pub kept-fetched : (first word : ℕ) (bytes : List ℕ) (v w : View) → Fetches first word bytes v w → IsKept v w
kept-fetched first word bytes v w f =
    let is = f.others in
    record {
      shape = ap (λ (x : View). x.shape) is;
      left = ap (λ (x : View). x.cpu.left) is;
      ack = ap (λ (x : View). x.cpu.ack) is;
      greatest = ap (λ (x : View). x.cpu.greatest) is;
      looks = ap (λ (x : View). x.cpu.looks) is;
      mark = (let same : w.cpu.mark ≡ v.cpu.mark = ap (λ (x : View). x.cpu.mark) is in omega arith);
    }

-- by where a form comes from
kept-got : (plan : LivePlan) (word site : ℕ) (form : Form) (n : ℕ) (c : CpuState) (v w : View) → v.cpu.mark ≤ v.cpu.known → Gets plan word site form n c v w → IsKept v w
kept-got plan word site form n c v w marked (inl (free, fetched)) = kept-fetched (byte_number plan site 0) word fetched.bytes v w fetched.fetched
kept-got plan word site form n c v w marked (inr (trapped, handled)) = subst (IsKept v) (sym handled.view) (kept-renewed v marked)

-- by what a turn does after its look
pub kept-done : (m : Module) (plan : LivePlan) (word : ℕ) (r : Runner) (v : View) (s : Runner) (turn : Turn) → v.cpu.mark ≤ v.cpu.known → Does m plan word r v s turn → IsKept v s.view
kept-done m plan word r v s (Ran mark) marked does = subst (IsKept v) (sym does.view) (kept-after does.insn v marked)
kept-done m plan word r v s (Pass site form n ack mark) marked does = kept-got plan word site form n r.cpu v s.view marked does.1
kept-done m plan word r v s Trapped marked does = kept-fetched (byte_number plan does.site 0) word (0xcc ∷ []) v s.view does.fetched
kept-done m plan word r v s Still marked does = subst (IsKept v) (sym does.view) (kept-same v)

-- the floors are then no lower
pub floor-kept : (plan : LivePlan) (v w : View) (site : ℕ) → IsKept v w → floor plan v site ≤ floor plan w site
floor-kept plan v w site kept = floor-rises plan v w site kept.shape (inr (sym kept.ack, kept.mark))

-- after a look the mark isn't past what is known either
marked-caught : (g : ℕ) (v : View) (behind : Bool) → v.cpu.mark ≤ v.cpu.known → (if behind then acked g (looked g v) else looked g v).cpu.mark ≤ (if behind then acked g (looked g v) else looked g v).cpu.known
marked-caught g v true marked = omega arith
marked-caught g v false marked = omega arith

marked-begun : (looks : Bool) (v w : View) → v.cpu.mark ≤ v.cpu.known → Begins looks v w → w.cpu.mark ≤ w.cpu.known
marked-begun false v w marked begins = subst (λ (x : View). x.cpu.mark ≤ x.cpu.known) (sym begins) marked
marked-begun true v w marked begins =
    subst (λ (x : View). x.cpu.mark ≤ x.cpu.known) (sym begins.2) (marked-caught begins.0 v (nat_lt v.cpu.ack begins.0) marked)

-- what rose by the look isn't lost
later-kept : (u v w : View) → IsLater u v → IsKept v w → IsLater u w
later-kept u v w later kept = record { shape = kept.shape ∙ later.shape; left = kept.left ∙ later.left; rises = by later.rises }
  where
    by : (u.cpu.ack < v.cpu.ack) ⊎ ((u.cpu.ack ≡ v.cpu.ack) × (u.cpu.mark ≤ v.cpu.mark)) → (u.cpu.ack < w.cpu.ack) ⊎ ((u.cpu.ack ≡ w.cpu.ack) × (u.cpu.mark ≤ w.cpu.mark))
    by (inl less) = (let same = kept.ack in inl (omega arith))
    by (inr (same, mark)) = (let mark_kept = kept.mark in inr (same ∙ sym kept.ack, omega arith))

-- nor what it loaded
loads-kept : (looks : Bool) (x : CpuView) (v w : View) → IsKept v w → LoadsOnce looks x v.cpu → LoadsOnce looks x w.cpu
loads-kept false x v w kept loads = kept.looks ∙ loads
loads-kept true x v w kept loads = (kept.looks ∙ loads.0, kept.ack ∙ loads.1 ∙ sym kept.greatest)

-- a whole turn
pub record IsTurned (looks : Bool) (v w : View) : Type 0 where
  pub later : IsLater v w
  pub loads : LoadsOnce looks v.cpu w.cpu

pub turned : (m : Module) (plan : LivePlan) (word : ℕ) (r s : Runner) (turn : Turn) → Sits r.view → Turns m plan word r s turn → IsTurned (is_looking r.cpu word) r.view s.view
turned m plan word r s turn sits is =
    let looks = is_looking r.cpu word in
    let begun = looked-later looks r.view is.looked sits is.begins in
    let kept = kept-done m plan word r is.looked s turn (marked-begun looks r.view is.looked sits.mark_below is.begins) is.does in
    record { later = later-kept r.view is.looked s.view begun.0 kept; loads = loads-kept looks r.view.cpu is.looked s.view kept begun.1 }

ack-risen : (v w : View) → (v.cpu.ack < w.cpu.ack) ⊎ ((v.cpu.ack ≡ w.cpu.ack) × (v.cpu.mark ≤ w.cpu.mark)) → v.cpu.ack ≤ w.cpu.ack
ack-risen v w (inl less) = omega arith
ack-risen v w (inr (same, mark)) = omega arith

-- the acknowledgement doesn't fall, nor does a floor
pub ack-later : (v w : View) → IsLater v w → v.cpu.ack ≤ w.cpu.ack
ack-later v w later = ack-risen v w later.rises

pub floor-later : (plan : LivePlan) (v w : View) (site : ℕ) → IsLater v w → floor plan v site ≤ floor plan w site
floor-later plan v w site later = floor-rises plan v w site later.shape later.rises
