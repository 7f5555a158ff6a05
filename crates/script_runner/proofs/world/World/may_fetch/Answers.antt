-- It may where the machine finds the turn, and the fetch is one of its candidates.
use Rattle.std.proofs.Common.{◌↔◌, IsTrue, refl, sym, subst}
use Rattle.cpu_core.specs.declared.turn.TurnKind.TheVariants as kind
use Rattle.switching.specs.May.{MayAt}
use Rattle.script_runner.specs.Turns.{HasTurn}
use Rattle.script_runner.specs.World.{StandsFor, WorldSeen}
use Rattle.script_runner.proofs.Looks.{at_inside, fetch_iff}
use Rattle.script_runner.specs.WorldInside.{seen}
use Rattle.script_runner.proofs.world.World.may_fetch.Goals as goal

pub may_fetch-requires-clause-inside : goal.may_fetch-requires-clause-inside
may_fetch-requires-clause-inside c =
    at_inside (seen c.self.inside) c.args.cpu c.from.result c.index.result.now c.index.result.now c.self.invariant
    (subst (λ (w : WorldSeen). HasTurn w c.args.cpu kind.At) (sym c.self.view_is) (c.if-not-has_turn.ensures.0 refl)) c.from.ensures c.index.ensures

pub returns : goal.returns
returns c = λ s h.
    subst (λ (w : WorldSeen). StandsFor w s → (IsTrue c.may_fetch.result ↔ MayAt w.image s c.args.cpu c.args.bytes.now.items)) c.self.view_is
    (fetch_iff (seen c.self.inside) s c.args.cpu c.from.result c.args.bytes.now.items c.index.result.now c.index.result.now c.may_fetch.result
    (subst (λ (w : WorldSeen). HasTurn w c.args.cpu kind.At) (sym c.self.view_is) (c.if-not-has_turn.ensures.0 refl)) c.from.ensures c.index.ensures c.may_fetch.ensures) h
