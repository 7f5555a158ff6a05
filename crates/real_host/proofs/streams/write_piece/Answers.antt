use Rattle.std.proofs.Common.{◌∙◌, ap, ◌-◌, ◌++◌, length, take, drop, append_assoc}
use Rattle.real_host.proofs.KnownBytes.{Appends-more, parted}
use Rattle.real_host.proofs.streams.write_piece.Goals as goal

pub writes-preserved : goal.writes-preserved
writes-preserved g c =
    let done = c.writes.invariant.0 in
    let rest = c.writes.rest.now in
    let count = c.in_ok-count.count in
    let same = append_assoc done (take count rest) (take (length rest - count) (drop count rest)) ∙ ap (λ more. done ++ more) (parted count rest c.in_ok-count.ensures.short) ∙ c.writes.invariant.1 in
    (done ++ take count rest, same, Appends-more _ _ _ done (take count rest) c.writes.invariant.2 c.in_ok-count.ensures.writes)
