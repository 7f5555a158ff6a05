use Rattle.std.proofs.Common.{List, Err, Ok, ℕ, ap, lit≤, subst, sym}
use Rattle.std.proofs.lemmas.Option.{slice_get-get_or}
use Rattle.live_engine.specs.declared.cpu.Turn.{Turn}
use Rattle.live_engine.specs.declared.cpu.Turn.TheVariants.{Still}
use Rattle.live_engine.specs.Walks.{SayAll}
use Rattle.x64_subset.specs.declared.proc.Proc.{Proc}
use Rattle.x64_subset.specs.Proc.{start}
use Rattle.poke_base.proofs.ItemLines.{as_failed}
use Rattle.live_trace.proofs.WalkLines.{TurnsPrinted, no_turn_printed, turn_failed, turn_printed, turn_says}
use Rattle.live_trace.proofs.walks.print_walk.Goals as goal

pub loop-turn-init : goal.loop-turn-init
loop-turn-init g c =
    let m = c.args.image.now in
    let turns = c.args.walk.now in
    let from = start c.args.entry in
    let outside = g.H.Host.outside c.args.host.now in
    subst (λ (p : Proc). TurnsPrinted m c.args.cpu from turns 0 p outside outside) (sym c.start-proc.ensures)
    (no_turn_printed m c.args.cpu from turns c.requires.says.0 outside c.requires.says.1 (lit≤ tt))

pub print_turn-requires-clause-says : goal.print_turn-requires-clause-says
print_turn-requires-clause-says g c =
    turn_says c.args.image.now c.args.cpu (start c.args.entry) c.args.walk.now c.loop-turn.turn-index c.loop-turn.proc _ _ _ c.loop-turn.invariant
    (slice_get-get_or c.args.walk.now c.loop-turn.turn-index _ c.loop-turn-test.true)

pub returns-in_err-print_turn : goal.returns-in_err-print_turn
returns-in_err-print_turn g c =
    as_failed _ _ _ c.in_err-print_turn.field-0.0 c.from_residual.result c.from_residual.ensures.0
    (turn_failed c.args.image.now c.args.cpu (start c.args.entry) c.args.walk.now c.loop-turn.turn-index c.loop-turn.proc c.print_turn.new.proc _ c.in_err-print_turn.field-0.0 _ _ _ c.loop-turn.invariant
    (slice_get-get_or c.args.walk.now c.loop-turn.turn-index _ c.loop-turn-test.true) c.in_err-print_turn.ensures.proc c.in_err-print_turn.ensures.prints)

pub loop-turn-preserved : goal.loop-turn-preserved
loop-turn-preserved g c =
    turn_printed c.args.image.now c.args.cpu (start c.args.entry) c.args.walk.now c.loop-turn.turn-index c.loop-turn.proc c.print_turn.new.proc _ _ _ _ c.loop-turn.invariant
    (slice_get-get_or c.args.walk.now c.loop-turn.turn-index _ c.loop-turn-test.true) c.in_ok-print_turn.ensures.proc c.in_ok-print_turn.ensures.depth c.in_ok-print_turn.ensures.prints
