-- A word picks one of them.
use Rattle.std.proofs.Common.{◌∙◌, ◌%◌, ℕ, Some, length, refl, ap}
use Rattle.script_runner.specs.declared.pick.Pick.TheVariants as pick
use Rattle.script_runner.specs.Choosing.{picked_of}
use Rattle.script_runner.proofs.Chosen.{draw_is, some_picks}
use Rattle.script_runner.proofs.world.choosing.draw.Goals as goal

pub returns-clause-picked : goal.returns-clause-picked
returns-clause-picked c =
    ap (picked_of (Some _)) c.next.ensures.state
    ∙ draw_is c.args.picks.now (c.next.result % length c.args.picks.now) c.args.words.now _ pick.Begin (some_picks c.args.picks.now c.if-is_empty.ensures) refl
    (ap (λ (n : ℕ). n % length c.args.picks.now) c.next.ensures.word)
