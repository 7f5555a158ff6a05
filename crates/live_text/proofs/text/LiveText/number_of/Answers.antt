use Rattle.std.proofs.Common.{◌<◌, ◌+◌, ℕ, length, ap, sym, subst, ◌∙◌, arith}
use Rattle.live_text.specs.Flat.{starts}
use Rattle.live_text.specs.Own.{TextState, byte_number}
use Rattle.live_text.proofs.Bytes.{numbered}
use Rattle.live_text.proofs.text.LiveText.number_of.Goals as goal

pub index-requires : goal.index-requires
index-requires c =
    let has = rw (← c.self.view_is) at c.requires.byte in
    omega (arith, has.listed, c.self.invariant.laid.firsts.count)

pub overflow_add-result : goal.overflow_add-result
overflow_add-result c =
    let has = rw (← c.self.view_is) at c.requires.byte in
    let n = numbered c.self.inside c.args.site c.args.j c.index.result.now c.self.invariant has c.index.ensures in
    omega (arith, n.laid, c.from.ensures)

pub returns-clause-number : goal.returns-clause-number
returns-clause-number c =
    let has = rw (← c.self.view_is) at c.requires.byte in
    let n = numbered c.self.inside c.args.site c.args.j c.index.result.now c.self.invariant has c.index.ensures in
    ap (λ (k : ℕ). c.index.result.now + k) c.from.ensures ∙ n.is ∙ ap (λ (t : TextState). byte_number t.plan c.args.site c.args.j) c.self.view_is

pub returns-clause-below : goal.returns-clause-below
returns-clause-below c =
    let has = rw (← c.self.view_is) at c.requires.byte in
    let n = numbered c.self.inside c.args.site c.args.j c.index.result.now c.self.invariant has c.index.ensures in
    subst (λ (z : ℕ × TextState). c.index.result.now + z.0 < length (starts z.1.plan.sites.items)) (λ k. (sym c.from.ensures k, c.self.view_is k)) n.below
