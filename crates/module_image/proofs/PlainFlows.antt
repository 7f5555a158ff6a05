-- Plain instructions lead from starts to starts.
use Rattle.std.proofs.Common.{◌≡◌, ◌∙◌, ◌<◌, ◌+◌, ◌-◌, ◌^◌, ℕ, Bool, true, false, nat_lt, if◌then◌else◌, List, Option, Some, None, slice_get, refl, ap, subst, arith, ltb-false}
use Rattle.std.proofs.lemmas.Option.{same_Some}
use Rattle.insn_forms.specs.Spelling.{after}
use Rattle.x64_subset.specs.declared.insn.Insn.{Insn}
use Rattle.x64_subset.specs.declared.insn.Insn.TheVariants.{Nop, Int3, Jmp8, Jmp32, Call, Ret, Jcc8, Jcc32, Alu, AluImm, Inc, Dec, MovImm, Hlt, Ud2, Out as OutTo, Endbr64, Serialize}
use Rattle.x64_subset.specs.declared.proc.Proc.{Proc}
use Rattle.x64_subset.specs.declared.proc.Life.TheVariants.{Halted, Fault}
use Rattle.x64_subset.specs.declared.proc.FaultKind.TheVariants.{Undefined}
use Rattle.x64_subset.specs.Effect.{at_ip, does, extended, holds, next, register}
use Rattle.module_parts.specs.declared.unit.Unit.{Unit}
use Rattle.module_parts.specs.declared.unit.Unit.TheVariants.{Nothing, Plain, Site as PatchedSite}
use Rattle.module_image.specs.Aims.{AllPlainReach, insn_target, plain_target}
use Rattle.module_image.specs.Flows.{Flows, PlainInstructionsFlow}
use Rattle.module_image.specs.Layout.{Layout, IsStart, IsSwept, never_falls, text_end, unit_at}
use Rattle.module_image.specs.Module.{layout_of, plain_of}
use Rattle.module_image.proofs.Flowing.{calls_flows, either_flows, ends_flows, goes_flows, jumps_flows, moves, operated_beside, returns_flows}
use Rattle.module_image.proofs.Grounds.{IsGround, module_ground, module_leads, plain_next}
use Rattle.module_image.proofs.Starts.{is_noted}

-- where an instruction may lead from an address: after it if the processor may go on, and to its target
pub record IsLed (t : Layout) (at : ℕ) (insn : Insn) (len : ℕ) : Type 0 where
  pub on : never_falls insn ≡ false → IsStart t (after at len)
  pub to : (target : ℕ) → insn_target insn ≡ Some target → IsStart t target

-- an instruction that leads to starts, by its effect
pub insn_flows : (t : Layout) (p : Proc) (insn : Insn) (len : ℕ) → IsLed t p.ip insn len → Flows t p → Flows t (does insn len p).0
unfolding does
insn_flows t p (Nop size) len led flows = goes_flows t p p len (record { stack = refl; depth = refl; place = refl }) (led.on refl) flows
insn_flows t p Int3 len led flows =
    record { stands = λ running. absurd cc; room = flows.room; few = flows.few; returns = flows.returns }
insn_flows t p (Jmp8 target) len led flows = jumps_flows t p target (led.to target refl) flows
insn_flows t p (Jmp32 target) len led flows = jumps_flows t p target (led.to target refl) flows
insn_flows t p (Call target) len led flows = calls_flows t p target len (led.to target refl) (led.on refl) flows
insn_flows t p Ret len led flows = returns_flows t p flows
insn_flows t p (Jcc8 condition target) len led flows = either_flows t p target len (holds condition p) (led.to target refl) (led.on refl) flows
insn_flows t p (Jcc32 condition target) len led flows = either_flows t p target len (holds condition p) (led.to target refl) (led.on refl) flows
insn_flows t p (Alu op rm reg) len led flows = goes_flows t p _ len (operated_beside op rm (register reg p) p) (led.on refl) flows
insn_flows t p (AluImm op rm byte) len led flows = goes_flows t p _ len (operated_beside op rm (extended byte) p) (led.on refl) flows
insn_flows t p (Inc rm) len led flows = goes_flows t p _ len (record { stack = refl; depth = refl; place = refl }) (led.on refl) flows
insn_flows t p (Dec rm) len led flows = goes_flows t p _ len (record { stack = refl; depth = refl; place = refl }) (led.on refl) flows
insn_flows t p (MovImm r number) len led flows = goes_flows t p _ len (record { stack = refl; depth = refl; place = refl }) (led.on refl) flows
insn_flows t p Hlt len led flows = ends_flows t p Halted (λ running. cc) flows
insn_flows t p Ud2 len led flows = ends_flows t p (Fault Undefined) (λ running. cc) flows
insn_flows t p (OutTo port) len led flows = moves t p (at_ip (next len p) p) refl refl (led.on refl) flows
insn_flows t p Endbr64 len led flows = goes_flows t p p len (record { stack = refl; depth = refl; place = refl }) (led.on refl) flows
insn_flows t p Serialize len led flows = goes_flows t p p len (record { stack = refl; depth = refl; place = refl }) (led.on refl) flows

-- the plain instruction that is noted at an address begins at a start
noted_plain : (t : Layout) (units : List Unit) (k : ℕ) (o : Option Unit) (insn : Insn) (len : ℕ) → IsSwept t units → slice_get units k ≡ o → plain_of o ≡ Some (insn, len) → IsStart t (t.base + k) × (unit_at t (t.base + k) ≡ Plain insn len)
noted_plain t units k None insn len swept here is = cc
noted_plain t units k (Some Nothing) insn len swept here is = cc
noted_plain t units k (Some (PatchedSite n)) insn len swept here is = cc
noted_plain t units k (Some (Plain i l)) insn len swept here is =
    let there = is_noted t units k (Plain i l) swept here (λ e. cc) in
    let same : Plain i l ≡ Plain insn len = ap (λ (x : Insn × ℕ). Plain x.0 x.1) (same_Some (i, l) (insn, len) is) in
    (there.0, there.1 ∙ same)

pub plain_past : (t : Layout) (units : List Unit) (at : ℕ) (before : Bool) (insn : Insn) (len : ℕ) → IsSwept t units → nat_lt at t.base ≡ before → (if before then None else plain_of (slice_get units (at - t.base))) ≡ Some (insn, len) → IsStart t at × (unit_at t at ≡ Plain insn len)
plain_past t units at true insn len swept before is = cc
plain_past t units at false insn len swept from is =
    let le = ltb-false at t.base from in
    let place : t.base + (at - t.base) ≡ at = omega (arith, le) in
    subst (λ (a : ℕ). IsStart t a × (unit_at t a ≡ Plain insn len)) place
    (noted_plain t units (at - t.base) (slice_get units (at - t.base)) insn len swept refl is)

-- it leads to starts
plain_led : (t : Layout) (units : List Unit) (at : ℕ) (insn : Insn) (len : ℕ) → IsGround t units → text_end t < 2 ^ 64 → AllPlainReach t → IsStart t at → unit_at t at ≡ Plain insn len → IsLed t at insn len
plain_led t units at insn len ground below plain start unit =
    record {
      on = plain_next t units at insn len ground below start unit;
      to = λ target leads. plain (record { from = at; to = target }) (record { start = start; leads = ap plain_target unit ∙ leads });
    }

pub plain_flows : PlainInstructionsFlow
plain_flows m p insn len accepted flows running here =
    let elf = accepted.elf in
    let is = accepted.is in
    let t = layout_of m in
    let ground = module_ground elf m is in
    let there = plain_past t m.units p.ip (nat_lt p.ip m.base) insn len ground.swept refl here in
    insn_flows t p insn len (plain_led t m.units p.ip insn len ground is.below (module_leads elf m is).plain there.0 there.1) flows
