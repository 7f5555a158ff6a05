-- What is done at a site, or the plain instruction.
use Rattle.live_engine.proofs.cpu.LiveCpu.step.Goals as goal

pub returns-in-Some-clause-does : goal.returns-in-Some-clause-does
returns-in-Some-clause-does c = c.pass.ensures.does c.args.image.now

pub returns-in-None-clause-does : goal.returns-in-None-clause-does
returns-in-None-clause-does c = c.plain.ensures.does c.args.word
