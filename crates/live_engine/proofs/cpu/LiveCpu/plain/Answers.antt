-- A plain instruction begins there.
use Rattle.std.proofs.Common.{◌∙◌, ap, subst, sym}
use Rattle.live_text.specs.declared.view.View.{View}
use Rattle.module_image.specs.Flows.{HasInsn}
use Rattle.module_image.specs.Module.{Module}
use Rattle.live_engine.specs.LiveCpu.{CpuState}
use Rattle.live_engine.specs.Turns.{RunsPlain}
use Rattle.live_engine.proofs.Pairing.{cpu_of}
use Rattle.live_engine.proofs.StartUnits.{finds-insn, plain-turn, start-has-insn}
use Rattle.live_engine.proofs.cpu.LiveCpu.plain.Goals as goal

pub unreachable-requires : goal.unreachable-requires
unreachable-requires c =
    let m : Module = c.args.image.now in
    let has = start-has-insn c.starts_have_units.ensures m c.args.text.now.plan c.args.self.now.proc.ip c.accepted.ensures c.requires.plan c.requires.start c.requires.no_site in
    let there : HasInsn m c.self.inside.proc.ip = subst (λ (s : CpuState). HasInsn m s.proc.ip) (sym c.self.view_is) has in
    finds-insn m c.self.inside.proc.ip c.insn_at.result there c.insn_at.ensures.found c.in_default.is

pub returns-clause-does : goal.returns-clause-does
returns-clause-does c = λ word.
    let m : Module = c.args.image.now in
    let v : View = c.args.seat.now.view in
    let cpu : CpuState = cpu_of c.self.inside.proc c.self.inside.trapped in
    let has = start-has-insn c.starts_have_units.ensures m c.args.text.now.plan c.args.self.now.proc.ip c.accepted.ensures c.requires.plan c.requires.start c.requires.no_site in
    let there : HasInsn m c.self.inside.proc.ip = subst (λ (s : CpuState). HasInsn m s.proc.ip) (sym c.self.view_is) has in
    let free = ap (λ (s : CpuState). s.trapped) c.self.view_is ∙ c.requires.free in
    let runs = ap (λ (s : CpuState). s.proc.life) c.self.view_is ∙ c.requires.runs in
    subst (λ (s : CpuState). RunsPlain m s v (cpu_of c.execute-mark.new.proc c.self.inside.trapped) c.renew_after.new.seat.view c.execute-mark.result) c.self.view_is
    (plain-turn m cpu c.execute-mark.new.proc v c.renew_after.new.seat.view c.insn_at.result c.in-Some.insn c.in-Some.len c.execute-mark.result there free runs c.insn_at.ensures.found c.in-Some.is c.execute-mark.ensures.proc c.execute-mark.ensures.mark c.renew_after.ensures.view)
