-- What the handler does at a breakpoint that was hit: the next version of the site, which its floor then is.
use Rattle.std.proofs.Common.{◌≡◌, ◌+◌, ◌<◌, ◌/◌, ◌%◌, ◌∙◌, ℕ, zero, suc, true, false, IfNone, Option, Some, None, inr, refl, ap, sym, subst, arith}
use Rattle.std.specs.List.{position}
use Rattle.std.specs.Option.{is_some, option_map}
use Rattle.std.proofs.lemmas.Option.{same_Some}
use Rattle.insn_forms.specs.declared.forms.Form.{Form}
use Rattle.int3_handler.specs.Handler.{breakpoint_of}
use Rattle.live_text.specs.declared.plan.LivePlan.{LivePlan}
use Rattle.live_text.specs.declared.view.View.{View}
use Rattle.live_text.specs.Versions.{breakpoint_write, chunk_of, is_at, place_in, version}
use Rattle.module_image.specs.Module.{Module}
use Rattle.poke_batch.specs.Walk.{new_form}
use Rattle.x64_subset.specs.declared.proc.Life.TheVariants.{Running}
use Rattle.x64_subset.specs.declared.proc.Mark.{Mark}
use Rattle.x64_subset.specs.declared.proc.Proc.{Proc}
use Rattle.x64_subset.specs.Whole.{whole}
use Rattle.live_engine.specs.declared.cpu.Turn.TheVariants.{Pass}
use Rattle.live_engine.specs.LiveCpu.{CpuState, IsTrapped, next_at}
use Rattle.live_engine.specs.Turns.{Does, DoesWhole, renewed}
use Rattle.live_engine.specs.Versions.{IsAllowed, IsOneOf, IsSiteAt, floor}
use Rattle.live_engine.proofs.Floors.{floor-high, floor-past}
use Rattle.live_engine.proofs.Pairing.{cpu_of, next-trapped}
use Rattle.live_engine.proofs.Passing.{changed-form}
use Rattle.live_engine.proofs.Phased.{HasPhases}

-- the place of a site in a chunk goes by its address
pub same-place : (plan : LivePlan) (j site other at place : ℕ) → IsSiteAt plan site at → IsSiteAt plan other at → place_in plan j site ≡ Some place → place_in plan j other ≡ Some place
same-place plan j site other at place here there is =
    ap (λ (a : ℕ). position (is_at a) (chunk_of plan j)) (there.begins ∙ sym here.begins) ∙ is

-- its new form is found
pub handled-form : (plan : LivePlan) (j site at place : ℕ) → HasPhases plan → IsSiteAt plan site at → place_in plan j site ≡ Some place → option_map (λ (f : Form × ℕ). f.0) (new_form (chunk_of plan j) at) ≡ Some (version plan site (j + 1))
handled-form plan j site at place laws here is =
    ap (λ (a : ℕ). option_map (λ (f : Form × ℕ). f.0) (new_form (chunk_of plan j) a)) (sym here.begins)
    ∙ ap (option_map (λ (f : Form × ℕ). f.0)) (changed-form plan j site place laws here.listed is)

-- the next version is allowed of a site in the chunk
next-by : (r j : ℕ) (placed : Option ℕ) (place : ℕ) → placed ≡ Some place → IsOneOf (is_some placed) r j (j + 1)
next-by r j None place is = cc
next-by zero j (Some p) place is = inr refl
next-by (suc r) j (Some p) place is = refl

pub next-allowed : (plan : LivePlan) (g site place : ℕ) → place_in plan (g / 3) site ≡ Some place → IsAllowed plan site g (g / 3 + 1)
next-allowed plan g site place is = next-by (g % 3) (g / 3) (place_in plan (g / 3) site) place is

-- it isn't below the floor before, and is the floor afterwards
pub floor-renewed : (plan : LivePlan) (v : View) (site place : ℕ) → place_in plan (v.cpu.ack / 3) site ≡ Some place → breakpoint_write v.shape (v.cpu.ack / 3) place < v.cpu.known → floor plan (renewed v) site ≡ v.cpu.ack / 3 + 1
floor-renewed plan v site place is knows = floor-past plan (renewed v) site place is (inr knows)

-- what a handler did
pub record IsHandled (plan : LivePlan) (v : View) (site : ℕ) (form : Form) (at : ℕ) : Type 0 where
  pub begins : IsSiteAt plan site at
  pub place : ℕ
  pub in_chunk : place_in plan (v.cpu.ack / 3) site ≡ Some place
  pub knows : breakpoint_write v.shape (v.cpu.ack / 3) place < v.cpu.known
  pub form_is : form ≡ version plan site (v.cpu.ack / 3 + 1)

-- the site and the form that are found are those of the breakpoint
pub is-handled : (plan : LivePlan) (v : View) (p : Proc) (site chunk : ℕ) (form : Form) → HasPhases plan → IsTrapped plan v p → IsSiteAt plan site (breakpoint_of p) → chunk ≡ v.cpu.ack / 3 → Some form ≡ option_map (λ (f : Form × ℕ). f.0) (new_form (chunk_of plan chunk) (breakpoint_of p)) → IsHandled plan v site form (breakpoint_of p)
is-handled plan v p site chunk form laws hit begins chunk_is found =
    let place_is = same-place plan (v.cpu.ack / 3) hit.site site (breakpoint_of p) hit.place hit.begins begins hit.in_chunk in
    let made = handled-form plan (v.cpu.ack / 3) site (breakpoint_of p) hit.place laws begins place_is in
    let there = ap (λ (j : ℕ). option_map (λ (f : Form × ℕ). f.0) (new_form (chunk_of plan j) (breakpoint_of p))) chunk_is in
    record {
      begins = begins;
      place = hit.place;
      in_chunk = place_is;
      knows = hit.knows;
      form_is = same_Some form (version plan site (v.cpu.ack / 3 + 1)) (found ∙ there ∙ made);
    }

-- some form is found
pub finds-form : (plan : LivePlan) (v : View) (p : Proc) (chunk : ℕ) → HasPhases plan → IsTrapped plan v p → chunk ≡ v.cpu.ack / 3 → option_map (λ (f : Form × ℕ). f.0) (new_form (chunk_of plan chunk) (breakpoint_of p)) ≡ None → ⊥
finds-form plan v p chunk laws hit chunk_is none =
    let made = handled-form plan (v.cpu.ack / 3) hit.site (breakpoint_of p) hit.place laws hit.begins hit.in_chunk in
    let there = ap (λ (j : ℕ). option_map (λ (f : Form × ℕ). f.0) (new_form (chunk_of plan j) (breakpoint_of p))) chunk_is in
    let same : None ≡ Some (version plan hit.site (v.cpu.ack / 3 + 1)) = sym none ∙ there ∙ made in
    cc

-- and some site
pub finds-site : (plan read : LivePlan) (site at : ℕ) (o : Option ℕ) → IfNone o ((n : ℕ) → IsSiteAt read n at → ⊥) → o ≡ None → read ≡ plan → IsSiteAt plan site at → ⊥
finds-site plan read site at o missing is same here =
    let none : (n : ℕ) → IsSiteAt read n at → ⊥ = subst (λ (x : Option ℕ). IfNone x ((n : ℕ) → IsSiteAt read n at → ⊥)) is missing in
    none site (subst (λ (p : LivePlan). IsSiteAt p site at) (sym same) here)

-- the handler's turn
pub handled-turn : (m : Module) (plan : LivePlan) (word site : ℕ) (form : Form) (n ack : ℕ) (mark : Mark) (c : CpuState) (q : Proc) (v w : View) → IsHandled plan v site form (breakpoint_of c.proc) → c.trapped ≡ true → c.proc.life ≡ Running → n ≡ v.cpu.ack / 3 + 1 → ack ≡ v.cpu.ack → q ≡ (whole form (breakpoint_of c.proc) c.proc).0 → mark ≡ (whole form (breakpoint_of c.proc) c.proc).1 → w ≡ renewed v → Does m plan word (record { cpu = c; view = v }) v (record { cpu = cpu_of q false; view = w }) (Pass site form n ack mark)
handled-turn m plan word site form n ack mark c q v w is trapped runs n_is ack_is cpu_is shows view_is =
    let next : breakpoint_of c.proc ≡ next_at c = sym (next-trapped c trapped) in
    let kept : w.cpu.ack ≡ v.cpu.ack = ap (λ (x : View). x.cpu.ack) view_is in
    let high = floor-high plan v site in
    let floor_is : floor plan w site ≡ v.cpu.ack / 3 + 1 = ap (λ (x : View). floor plan x site) view_is ∙ floor-renewed plan v site is.place is.in_chunk is.knows in
    let ack_number : v.cpu.ack ≡ ack = sym ack_is in
    let whole_is : DoesWhole plan site form n ack mark (record { cpu = c; view = v }) (record { cpu = cpu_of q false; view = w }) = record {
      runs = runs;
      begins = subst (IsSiteAt plan site) next is.begins;
      ack_is = ack_is ∙ sym kept;
      form_is = is.form_is ∙ ap (version plan site) (sym n_is);
      allowed =
          subst (λ (g : ℕ). IsAllowed plan site g n) ack_number
          (subst (IsAllowed plan site v.cpu.ack) (sym n_is) (next-allowed plan v.cpu.ack site is.place is.in_chunk));
      cpu = subst (λ (at : ℕ). cpu_of q false ≡ cpu_of (whole form at c.proc).0 false) next (ap (λ (p : Proc). cpu_of p false) cpu_is);
      shows = subst (λ (at : ℕ). mark ≡ (whole form at c.proc).1) next shows;
      from = omega arith;
      to = omega arith;
    } in
    (whole_is, inr (trapped, record { new = n_is; view = view_is }))
