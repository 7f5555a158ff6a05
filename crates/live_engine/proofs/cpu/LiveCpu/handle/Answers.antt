-- The form of the chunk that is under way is found, and it is the site's next version.
use Rattle.std.proofs.Common.{◌≡◌, ◌+◌, ◌/◌, ◌∙◌, ℕ, None, false, option_map, ap, subst, sym}
use Rattle.insn_forms.specs.declared.forms.Form.{Form}
use Rattle.int3_handler.specs.Handler.{breakpoint_of}
use Rattle.live_text.specs.declared.plan.LivePlan.{LivePlan}
use Rattle.live_text.specs.declared.view.View.{View}
use Rattle.live_text.specs.Versions.{chunk_of}
use Rattle.poke_batch.specs.Walk.{new_form}
use Rattle.x64_subset.specs.declared.proc.Proc.{Proc}
use Rattle.live_engine.specs.declared.cpu.Turn.TheVariants.{Pass}
use Rattle.live_engine.specs.LiveCpu.{CpuState, IsTrapped}
use Rattle.live_engine.specs.Turns.{Does}
use Rattle.live_engine.specs.Versions.{IsSiteAt}
use Rattle.live_engine.proofs.DecodedForms.{phases}
use Rattle.live_engine.proofs.Handled.{finds-form, finds-site, handled-turn, is-handled}
use Rattle.live_engine.proofs.Pairing.{cpu_of}
use Rattle.live_engine.proofs.cpu.LiveCpu.handle.Goals.{in_default-via-in-Some+in_default, in_default-via-in_default}
use Rattle.live_engine.proofs.cpu.LiveCpu.handle.Goals as goal

pub unreachable-requires : goal.unreachable-requires
unreachable-requires c =
    let plan : LivePlan = c.args.text.now.plan in
    let v : View = c.args.seat.now.view in
    let p : Proc = c.self.inside.proc in
    let hit : IsTrapped plan v p = subst (λ (s : CpuState). IsTrapped plan v s.proc) (sym c.self.view_is) c.requires.hit in
    elim c.in_default.branch [
      | in_default-via-in-Some+in_default w ↦ (
          let laws = phases plan c.requires.stands c.chunks_are_poked.ensures.versions c.bytes_go_by_phases.ensures.table c.bytes_go_by_phases.ensures.others in
          let chunk_is = c.chunk_under_way-chunk.ensures ∙ ap (λ (n : ℕ). n / 3) c.acked-ack.ensures in
          let told = c.new_form.ensures ∙ ap (λ (x : LivePlan). option_map (λ (f : Form × ℕ). f.0) (new_form (chunk_of x c.chunk_under_way-chunk.result) (breakpoint_of p))) c.plan-plan.ensures in
          let none : c.new_form.result ≡ None = cc in
          finds-form plan v p c.chunk_under_way-chunk.result laws hit chunk_is (sym told ∙ none))
      | in_default-via-in_default w ↦ (
          let none : c.site_at.result ≡ None = cc in
          finds-site plan c.plan-plan.result.now hit.site (breakpoint_of p) c.site_at.result c.site_at.ensures.missing none c.plan-plan.ensures hit.begins)
    ]

pub returns-clause-does : goal.returns-clause-does
returns-clause-does c = λ m word.
    let plan : LivePlan = c.args.text.now.plan in
    let v : View = c.args.seat.now.view in
    let p : Proc = c.self.inside.proc in
    let cpu : CpuState = cpu_of p c.self.inside.trapped in
    let hit : IsTrapped plan v p = subst (λ (s : CpuState). IsTrapped plan v s.proc) (sym c.self.view_is) c.requires.hit in
    let trapped = ap (λ (s : CpuState). s.trapped) c.self.view_is ∙ c.requires.trapped in
    let laws = phases plan c.requires.stands c.chunks_are_poked.ensures.versions c.bytes_go_by_phases.ensures.table c.bytes_go_by_phases.ensures.others in
    let chunk_is = c.chunk_under_way-chunk.ensures ∙ ap (λ (n : ℕ). n / 3) c.acked-ack.ensures in
    let told = c.new_form.ensures ∙ ap (λ (x : LivePlan). option_map (λ (f : Form × ℕ). f.0) (new_form (chunk_of x c.chunk_under_way-chunk.result) (breakpoint_of p))) c.plan-plan.ensures in
    let begins : IsSiteAt plan c.in-Some-Some.site (breakpoint_of p) = subst (λ (x : LivePlan). IsSiteAt x c.in-Some-Some.site (breakpoint_of p)) c.plan-plan.ensures c.in-Some-Some.ensures.found in
    let is = is-handled plan v p c.in-Some-Some.site c.chunk_under_way-chunk.result c.in-Some-Some.form laws hit begins chunk_is (sym c.in-Some-Some.is-1 ∙ told) in
    subst (λ (s : CpuState). Does m plan word (record { cpu = s; view = v }) v (record { cpu = cpu_of c.emulate-mark.new.proc false; view = c.renew.new.seat.view }) (Pass c.in-Some-Some.site c.in-Some-Some.form (c.chunk_under_way-chunk.result + 1) c.acked-ack.result c.emulate-mark.result)) c.self.view_is
    (handled-turn m plan word c.in-Some-Some.site c.in-Some-Some.form (c.chunk_under_way-chunk.result + 1) c.acked-ack.result c.emulate-mark.result cpu c.emulate-mark.new.proc v c.renew.new.seat.view is trapped hit.runs (ap (λ (n : ℕ). n + 1) chunk_is) c.acked-ack.ensures c.emulate-mark.ensures.proc c.emulate-mark.ensures.mark c.renew.ensures.renewed)
