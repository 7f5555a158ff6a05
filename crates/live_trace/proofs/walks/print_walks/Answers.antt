use Rattle.std.proofs.Common.{Some, ap, sym, slice_index_or, ◌∙◌}
use Rattle.std.proofs.lemmas.Option.{slice_get-get_or}
use Rattle.poke_base.proofs.ItemLines.{as_failed}
use Rattle.live_trace.proofs.WalkLines.{walk_failed, walk_listed, walk_printed, walk_says}
use Rattle.live_trace.proofs.walks.print_walks.Goals as goal

pub print_walk-requires-clause-says : goal.print_walk-requires-clause-says
print_walk-requires-clause-says g c =
    let m = c.args.image.now in
    let n = c.loop-number.number in
    let listed = walk_listed m c.args.entries.now c.args.walks.now n c.requires.walks c.loop-number-test.true in
    walk_says m c.args.entries.now c.args.walks.now n (slice_index_or c.args.entries.now n 0) c.index-walks-number.result c.deref.result.now _ _ c.loop-number.invariant
    (slice_get-get_or c.args.entries.now n 0 c.loop-number-test.true)
    (slice_get-get_or c.args.walks.now n c.index-walks-number.result listed ∙ ap Some (sym c.index-walks-number.is))
    c.deref.ensures.value

pub returns-in_err-print_walk : goal.returns-in_err-print_walk
returns-in_err-print_walk g c =
    let m = c.args.image.now in
    let n = c.loop-number.number in
    let listed = walk_listed m c.args.entries.now c.args.walks.now n c.requires.walks c.loop-number-test.true in
    as_failed _ _ _ c.in_err-print_walk.field-0.0 c.from_residual.result c.from_residual.ensures.0
    (walk_failed m c.args.entries.now c.args.walks.now n (slice_index_or c.args.entries.now n 0) c.index-walks-number.result c.deref.result.now c.in_err-print_walk.field-0.0 _ _ _ c.loop-number.invariant
    (slice_get-get_or c.args.entries.now n 0 c.loop-number-test.true)
    (slice_get-get_or c.args.walks.now n c.index-walks-number.result listed ∙ ap Some (sym c.index-walks-number.is))
    c.deref.ensures.value c.in_err-print_walk.ensures)

pub loop-number-preserved : goal.loop-number-preserved
loop-number-preserved g c =
    let m = c.args.image.now in
    let n = c.loop-number.number in
    let listed = walk_listed m c.args.entries.now c.args.walks.now n c.requires.walks c.loop-number-test.true in
    walk_printed m c.args.entries.now c.args.walks.now n (slice_index_or c.args.entries.now n 0) c.index-walks-number.result c.deref.result.now _ _ _ c.loop-number.invariant
    (slice_get-get_or c.args.entries.now n 0 c.loop-number-test.true)
    (slice_get-get_or c.args.walks.now n c.index-walks-number.result listed ∙ ap Some (sym c.index-walks-number.is))
    c.deref.ensures.value c.in_ok-print_walk.ensures
