use Rattle.std.proofs.Common.{arith, refl, slice_index}
use Rattle.std.proofs.lemmas.Option.{slice_get-get_or}
use Rattle.stale_fetch.specs.Text.{Covers}
use Rattle.cpu_core.proofs.SoFar.{so_far-more, so_far-all, its-at}
use Rattle.cpu_core.proofs.fetch.are_candidates.Goals as goal

pub returns-then-not-is_candidate : goal.returns-then-not-is_candidate
returns-then-not-is_candidate g c p is =
    let n = c.loop-byte.byte-index in
    let bytes = c.args.bytes.now in
    let agrees = g.met.T.Text.agrees c.args.text.now p is in
    let base = agrees.base in
    let size = agrees.size in
    let here = slice_get-get_or bytes n 0 c.loop-byte-test.true in (
      λ h. absurd (cc),
      λ h.
          let to = h.0 in
          let inside : Covers (g.T.Text.shape c.args.text.now) c.loop-byte.place = record { from = omega arith; below = omega arith } in
          (c.if-not-is_candidate.ensures.candidate p is).1
          (inside, its-at p c.args.cpu c.args.at n c.loop-byte.place (slice_index bytes n) bytes h.1 here c.loop-byte.invariant.next),
    )

pub loop-byte-preserved : goal.loop-byte-preserved
loop-byte-preserved g c =
    let n = c.loop-byte.byte-index in
    let bytes = c.args.bytes.now in
    so_far-more (g.T.Text.shape c.args.text.now) (g.T.Text.stands c.args.text.now) c.args.cpu c.args.at bytes n c.loop-byte.place (slice_index bytes n)
    c.loop-byte.invariant (slice_get-get_or bytes n 0 c.loop-byte-test.true) (c.if-not-is_candidate.ensures.inside refl)
    (λ p is. ((c.if-not-is_candidate.ensures.candidate p is).0 refl).1)

pub returns : goal.returns
returns g c p is =
    let agrees = g.met.T.Text.agrees c.args.text.now p is in
    let base = agrees.base in
    let size = agrees.size in (
      λ h.
          (omega arith, so_far-all (g.T.Text.shape c.args.text.now) (g.T.Text.stands c.args.text.now) c.args.cpu c.args.at c.args.bytes.now c.loop-byte.byte-index c.loop-byte.place p c.loop-byte.invariant (omega arith) is),
      λ h. refl,
    )
