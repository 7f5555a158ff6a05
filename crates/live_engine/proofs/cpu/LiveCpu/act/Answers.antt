-- A trapped processor is handled; any other looks first.
use Rattle.std.proofs.Common.{◌∙◌, ap, sym}
use Rattle.live_engine.specs.LiveCpu.{CpuState, runner}
use Rattle.live_engine.proofs.TurnLooks.{free-turns, trapped-turns}
use Rattle.live_engine.proofs.cpu.LiveCpu.act.Goals as goal

pub returns-then-self-clause-turns : goal.returns-then-self-clause-turns
returns-then-self-clause-turns c =
    let trapped = ap (λ (s : CpuState). s.trapped) (sym c.self.view_is) ∙ c.if-self.true in
    trapped-turns c.args.image.now c.args.text.now.plan c.args.word c.args.self.now c.args.seat.now.view (runner c.handle.new.self c.handle.new.seat) c.handle.result trapped (c.handle.ensures.does c.args.image.now c.args.word)

pub returns-in-Running-clause-turns : goal.returns-in-Running-clause-turns
returns-in-Running-clause-turns c =
    let free = ap (λ (s : CpuState). s.trapped) (sym c.self.view_is) ∙ c.if-self.false in
    free-turns c.args.image.now c.args.text.now.plan c.args.word c.args.self.now c.args.seat.now.view c.look.new.seat.view (runner c.step.new.self c.step.new.seat) c.step.result (c.keeps.ensures c.requires.paired.stays) free c.look.ensures.begins c.step.ensures.does
