-- What is fetched at a site is a breakpoint, or a version between the site's floors.
use Rattle.std.proofs.Common.{◌≡◌, ◌/◌, ◌<◌, ◌^◌, ◌∙◌, ℕ, Bool, true, false, ap, refl, subst, sym}
use Rattle.live_text.specs.declared.plan.LivePlan.{LivePlan}
use Rattle.live_text.specs.declared.view.View.{View}
use Rattle.live_text.specs.Own.{byte_number}
use Rattle.x64_subset.specs.declared.proc.Proc.{Proc}
use Rattle.x64_subset.specs.Effect.{at_ip}
use Rattle.insn_forms.specs.Spelling.{after}
use Rattle.live_engine.specs.declared.cpu.Turn.TheVariants.{Pass}
use Rattle.live_engine.specs.LiveCpu.{CpuState}
use Rattle.live_engine.specs.Lookup.{version_for}
use Rattle.live_engine.specs.Turns.{Does, FetchesTrap}
use Rattle.live_engine.specs.Versions.{IsSiteAt}
use Rattle.live_engine.proofs.DecodedForms.{phases}
use Rattle.live_engine.proofs.Pairing.{cpu_of}
use Rattle.live_engine.proofs.Passed.{few-acks, passed-turn, trapped-turn, whole-told}
use Rattle.live_engine.proofs.TurnViews.{kept-fetched}
use Rattle.live_engine.proofs.cpu.LiveCpu.pass.Goals as goal

pub version_for-requires-clause-few : goal.version_for-requires-clause-few
version_for-requires-clause-few c =
    let plan : LivePlan = c.args.text.now.plan in
    let v : View = c.args.seat.now.view in
    let w : View = c.fetch-fetched.new.seat.view in
    let told = whole-told plan c.args.word c.args.site v w c.fetch-fetched.result c.in-Whole.form c.in-Whole.is c.fetch-fetched.ensures.fetched in
    let kept = kept-fetched (byte_number plan c.args.site 0) c.args.word told.fetched.bytes v w told.fetched.fetched in
    let few = few-acks plan c.args.text.now.cpus w c.requires.stands c.chunks_are_poked.ensures.requests c.fetch-fetched.ensures.own.shape (c.keeps.ensures (kept.left ∙ c.requires.stays)) in
    subst (λ (n : ℕ). n / 3 < 2 ^ 32) (sym c.acked-ack.ensures) few

pub returns-in-Trap-clause-does : goal.returns-in-Trap-clause-does
returns-in-Trap-clause-does c = λ m.
    let plan : LivePlan = c.args.text.now.plan in
    let v : View = c.args.seat.now.view in
    let w : View = c.fetch-fetched.new.seat.view in
    let p : Proc = c.self.inside.proc in
    let cpu : CpuState = cpu_of p c.self.inside.trapped in
    let free = ap (λ (s : CpuState). s.trapped) c.self.view_is ∙ c.requires.free in
    let runs = ap (λ (s : CpuState). s.proc.life) c.self.view_is ∙ c.requires.runs in
    let begins : IsSiteAt plan c.args.site p.ip = subst (λ (s : CpuState). IsSiteAt plan c.args.site s.proc.ip) (sym c.self.view_is) c.requires.begins in
    subst (λ (s : CpuState). FetchesTrap plan c.args.word s v (cpu_of (at_ip (after p.ip 1) p) true) w) c.self.view_is
    (trapped-turn plan c.args.word c.args.site cpu (after p.ip 1) v w c.fetch-fetched.result free runs begins c.in-Trap.is c.fetch-fetched.ensures.fetched refl)

pub returns-in-Whole-clause-does : goal.returns-in-Whole-clause-does
returns-in-Whole-clause-does c = λ m.
    let plan : LivePlan = c.args.text.now.plan in
    let v : View = c.args.seat.now.view in
    let w : View = c.fetch-fetched.new.seat.view in
    let p : Proc = c.self.inside.proc in
    let cpu : CpuState = cpu_of p c.self.inside.trapped in
    let free : c.self.inside.trapped ≡ false = ap (λ (s : CpuState). s.trapped) c.self.view_is ∙ c.requires.free in
    let runs = ap (λ (s : CpuState). s.proc.life) c.self.view_is ∙ c.requires.runs in
    let begins : IsSiteAt plan c.args.site p.ip = subst (λ (s : CpuState). IsSiteAt plan c.args.site s.proc.ip) (sym c.self.view_is) c.requires.begins in
    let told = whole-told plan c.args.word c.args.site v w c.fetch-fetched.result c.in-Whole.form c.in-Whole.is c.fetch-fetched.ensures.fetched in
    let laws = phases plan c.requires.stands c.chunks_are_poked.ensures.versions c.bytes_go_by_phases.ensures.table c.bytes_go_by_phases.ensures.others in
    let number = c.version_for.ensures ∙ ap (λ (x : LivePlan). version_for x c.acked-ack.result p.ip) c.plan.ensures in
    let done = passed-turn m plan c.args.text.now.cpus c.args.word c.args.site c.in-Whole.form c.version_for.result c.acked-ack.result c.emulate.result cpu c.emulate.new.proc v w laws c.bytes_go_by_phases.ensures.breakpoints c.fetch-fetched.ensures.own.shape c.keeps.ensures c.requires.stays told free runs begins number c.acked-ack.ensures c.emulate.ensures.proc c.emulate.ensures.mark in
    subst (λ (s : CpuState). Does m plan c.args.word (record { cpu = s; view = v }) v (record { cpu = cpu_of c.emulate.new.proc c.self.inside.trapped; view = w }) (Pass c.args.site c.in-Whole.form c.version_for.result c.acked-ack.result c.emulate.result)) c.self.view_is
    (subst (λ (b : Bool). Does m plan c.args.word (record { cpu = cpu; view = v }) v (record { cpu = cpu_of c.emulate.new.proc b; view = w }) (Pass c.args.site c.in-Whole.form c.version_for.result c.acked-ack.result c.emulate.result)) (sym free) done)
