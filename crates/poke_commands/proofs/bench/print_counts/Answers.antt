use Rattle.std.proofs.Common.{◌≡◌, ◌∙◌, ◌<◌, [], List, ℕ, get_or, slice_get, Some}
use Rattle.std.proofs.lemmas.Option.{slice_get-get_or}
use Rattle.bench_run.specs.declared.counts.Counts.{Counts}
use Rattle.poke_commands.specs.BenchText.{count_line, worded}
use Rattle.poke_base.proofs.ItemLines.{as_failed, item_failed, item_printed}
use Rattle.poke_commands.proofs.bench.print_counts.Goals as goal

-- the count with a number
numbered : Counts → ℕ → List ℕ × ℕ
numbered counts i = get_or (worded counts) i ([], 0)

there : (counts : Counts) (i : ℕ) → i < 7 → slice_get (worded counts) i ≡ Some (numbered counts i)
unfolding numbered
there counts i below = slice_get-get_or (worded counts) i ([], 0) below

pub returns-in_err-print : goal.returns-in_err-print
returns-in_err-print g c =
    let counts = c.args.counts.now in
    let place = c.loop-place.place in
    let here = there counts place c.loop-place-test.true in
    as_failed _ _ _ c.in_err-print.field-0.0 c.from_residual.result c.from_residual.ensures.0
    (item_failed count_line (worded counts) place (numbered counts place) c.deref.result.now c.in_err-print.field-0.0 _ _ _ here c.loop-place.invariant (c.deref.ensures.0 ∙ c.count_line.ensures (numbered counts place) here) c.in_err-print.ensures)

pub loop-place-preserved : goal.loop-place-preserved
loop-place-preserved g c =
    let counts = c.args.counts.now in
    let place = c.loop-place.place in
    let here = there counts place c.loop-place-test.true in
    item_printed count_line (worded counts) place (numbered counts place) c.deref.result.now _ _ _ here c.loop-place.invariant (c.deref.ensures.0 ∙ c.count_line.ensures (numbered counts place) here) c.in_ok-print.ensures
