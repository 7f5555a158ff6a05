-- The bytes of a fetch.
use Rattle.std.proofs.Common.{sym, subst}
use Rattle.cpu_core.specs.declared.turn.TurnKind.TheVariants as kind
use Rattle.switching.specs.Choice.{IsPicked}
use Rattle.script_runner.specs.Turns.{HasTurn}
use Rattle.script_runner.specs.World.{StandsFor, WorldSeen}
use Rattle.script_runner.proofs.Chosen.{fetched_is}
use Rattle.script_runner.proofs.Looks.{at_inside}
use Rattle.script_runner.specs.WorldInside.{seen}
use Rattle.script_runner.proofs.world.World.fetched.Goals as goal

pub fetch-requires-clause-inside : goal.fetch-requires-clause-inside
fetch-requires-clause-inside c =
    at_inside (seen c.self.inside) c.args.cpu c.from.result c.index.result.now c.index.result.now c.self.invariant
    (subst (λ (w : WorldSeen). HasTurn w c.args.cpu kind.At) (sym c.self.view_is) c.requires) c.from.ensures c.index.ensures

pub returns : goal.returns
returns c = λ s h.
    subst (λ (w : WorldSeen). StandsFor w s → IsPicked w.image s c.args.cpu c.args.word c.fetch.result.items) c.self.view_is
    (fetched_is (seen c.self.inside) s c.args.cpu c.from.result c.args.word c.index.result.now c.index.result.now c.fetch.result.items
    (subst (λ (w : WorldSeen). HasTurn w c.args.cpu kind.At) (sym c.self.view_is) c.requires) c.from.ensures c.index.ensures c.fetch.ensures.fetch c.fetch.ensures.picked) h
