-- Where a patched site of the module begins one of the plan's does, so that where none does a plain instruction begins.
use Rattle.std.proofs.Common.{◌≡◌, ◌<◌, ◌∙◌, ◌⊎◌, inl, inr, ℕ, zero, suc, Bool, true, false, not, cond, List, [], ◌∷◌, length, get_or, filter, Option, Some, None, ap, sym, subst, arith}
use Rattle.std.specs.List.{AllZip, slice_get}
use Rattle.std.proofs.lemmas.Option.{same_Some}
use Rattle.insn_forms.specs.declared.forms.Form.TheVariants.{Nop2}
use Rattle.live_text.specs.declared.plan.LivePlan.{LivePlan}
use Rattle.live_text.specs.declared.plan.LiveSite.{LiveSite}
use Rattle.live_text.specs.declared.view.View.{View}
use Rattle.module_parts.specs.declared.site.Site.{Site}
use Rattle.module_image.specs.Flows.{HasInsn, HasSite, StartsHaveUnits}
use Rattle.module_image.specs.Layout.{IsStart}
use Rattle.module_image.specs.Module.{IsAccepted, Module, layout_of, plain_at}
use Rattle.x64_subset.specs.declared.insn.Insn.{Insn}
use Rattle.x64_subset.specs.declared.proc.Life.TheVariants.{Running}
use Rattle.x64_subset.specs.declared.proc.Mark.{Mark}
use Rattle.x64_subset.specs.declared.proc.Proc.{Proc}
use Rattle.x64_subset.specs.Effect.{does}
use Rattle.live_engine.specs.LiveCpu.{CpuState}
use Rattle.live_engine.specs.LivePlan.{IsLivePlan, IsLiveSite, is_patched}
use Rattle.live_engine.specs.Turns.{RunsPlain, after_insn}
use Rattle.live_engine.specs.Versions.{IsSiteAt}
use Rattle.live_engine.proofs.Pairing.{cpu_of}

-- one of these sites begins there
pub record IsListedAt (lives : List LiveSite) (at : ℕ) : Type 0 where
  pub number : ℕ
  pub below : number < length lives
  pub begins : (d : LiveSite) → (get_or lives number d).at ≡ at

listed-later : (live : LiveSite) (lives : List LiveSite) (at : ℕ) → IsListedAt lives at → IsListedAt (live ∷ lives) at
listed-later live lives at is =
    let below = is.below in
    record { number = suc is.number; below = omega arith; begins = λ d. is.begins d }

-- the first of the patched sites, and a later one
first-listed : (m : Module) (s : Site) (patched : List Site) (lives : List LiveSite) → AllZip (IsLiveSite m) (s ∷ patched) lives → IsListedAt lives s.at
first-listed m s patched [] all = absurd all
first-listed m s patched (live ∷ lives) all = record { number = 0; below = omega arith; begins = λ d. all.0.at }

later-listed : (m : Module) (s : Site) (patched : List Site) (lives : List LiveSite) (foreign : Bool) (at : ℕ) → AllZip (IsLiveSite m) (cond (not foreign) (s ∷ patched) patched) lives → ((others : List LiveSite) → AllZip (IsLiveSite m) patched others → IsListedAt others at) → IsListedAt lives at
later-listed m s patched lives true at all later = later lives all
later-listed m s patched [] false at all later = absurd all
later-listed m s patched (live ∷ lives) false at all later = listed-later live lives at (later lives all.1)

site-listed : (m : Module) (sites : List Site) (lives : List LiveSite) (number : ℕ) (s : Site) → AllZip (IsLiveSite m) (filter is_patched sites) lives → slice_get sites number ≡ Some s → s.foreign ≡ false → IsListedAt lives s.at
site-listed m [] lives number s all here ours = cc
site-listed m (x ∷ sites) lives zero s all here ours =
    let same : x ≡ s = same_Some x s here in
    let patched : x.foreign ≡ false = ap (λ (t : Site). t.foreign) same ∙ ours in
    subst (λ (t : Site). IsListedAt lives t.at) same
    (first-listed m x (filter is_patched sites) lives (subst (λ (b : Bool). AllZip (IsLiveSite m) (cond (not b) (x ∷ filter is_patched sites) (filter is_patched sites)) lives) patched all))
site-listed m (x ∷ sites) lives (suc number) s all here ours =
    later-listed m x (filter is_patched sites) lives x.foreign s.at all (λ others zipped. site-listed m sites others number s zipped here ours)

-- a patched site isn't where none of the plan's is
no-patched-site : (m : Module) (plan : LivePlan) (at : ℕ) → IsLivePlan m plan → HasSite m at → ((site : ℕ) → IsSiteAt plan site at → ⊥) → ⊥
no-patched-site m plan at live has none =
    let there = has.is in
    let listed = site-listed m m.sites plan.sites.items has.number there.site live.sites there.here there.ours in
    none listed.number (record { listed = listed.below; begins = listed.begins (record { at = 0; start = Nop2 }) ∙ there.begins })

either-unit : (m : Module) (plan : LivePlan) (at : ℕ) → IsLivePlan m plan → ((site : ℕ) → IsSiteAt plan site at → ⊥) → HasSite m at ⊎ HasInsn m at → HasInsn m at
either-unit m plan at live none (inl site) = absurd (no-patched-site m plan at live site none)
either-unit m plan at live none (inr insn) = insn

pub start-has-insn : StartsHaveUnits → (m : Module) (plan : LivePlan) (at : ℕ) → IsAccepted m → IsLivePlan m plan → IsStart (layout_of m) at → ((site : ℕ) → IsSiteAt plan site at → ⊥) → HasInsn m at
start-has-insn units m plan at accepted live start none = either-unit m plan at live none (units m at accepted start)

-- the turn of a plain instruction
pub plain-turn : (m : Module) (c : CpuState) (q : Proc) (v w : View) (o : Option (Insn × ℕ)) (insn : Insn) (len : ℕ) (mark : Mark) → HasInsn m c.proc.ip → c.trapped ≡ false → c.proc.life ≡ Running → o ≡ plain_at m c.proc.ip → o ≡ Some (insn, len) → q ≡ (does insn len c.proc).0 → mark ≡ (does insn len c.proc).1 → w ≡ after_insn insn v → RunsPlain m c v (cpu_of q c.trapped) w mark
plain-turn m c q v w o insn len mark has free runs told is proc_is shows view_is = record {
  free = free;
  runs = runs;
  insn = insn;
  len = len;
  here = sym told ∙ is;
  no_site = has.no_site;
  cpu = ap (λ (p : Proc). cpu_of p c.trapped) proc_is;
  shows = shows;
  view = view_is;
}

-- an instruction is found
pub finds-insn : (m : Module) (at : ℕ) (o : Option (Insn × ℕ)) → HasInsn m at → o ≡ plain_at m at → o ≡ None → ⊥
finds-insn m at o has told is =
    let same : None ≡ Some (has.insn, has.len) = sym is ∙ told ∙ has.is in
    cc
