use Rattle.std.proofs.Common.{◌≡◌, ◌+◌, ◌/◌, ◌%◌, refl, slice_index, Bool, false, IsTrue, ℕ, List, length, arith, subst, ◌∙◌, Err}
use Rattle.stale_fetch.specs.Past.{candidates}
use Rattle.cpu_core.specs.Standing.{end_of}
use Rattle.stale_fetch.specs.Text.{Covers}
use Rattle.x64_subset.specs.declared.insn.Undecoded.TheVariants.{Short}
use Rattle.x64_subset.specs.Reading.{read}
use Rattle.cpu_core.proofs.Begun.{begun-more, begun-some, begun-told}
use Rattle.cpu_core.proofs.Told.{length-short}
use Rattle.cpu_core.proofs.fetch.fetch_each.Goals as goal

-- what a test that failed denies
not_wanted : {P : Type 0} {test : Bool} → (P → IsTrue test) → test ≡ false → P → ⊥
not_wanted f e p = let h = f p in cc

pub push-requires : goal.push-requires
push-requires g c =
    let short : read c.args.at c.bytes.bytes.items ≡ Err Short =
    subst (λ (l : List ℕ). read c.args.at l ≡ Err Short) c.deref.ensures.0 (c.wants_more.ensures.0 c.bytes-test.true).0 in
    (omega arith, length-short c.args.at c.bytes.bytes.items c.bytes.invariant.picked.fit short)

pub bytes-smaller : goal.bytes-smaller
bytes-smaller g c =
    let short : read c.args.at c.bytes.bytes.items ≡ Err Short =
    subst (λ (l : List ℕ). read c.args.at l ≡ Err Short) c.deref.ensures.0 (c.wants_more.ensures.0 c.bytes-test.true).0 in
    let less = length-short c.args.at c.bytes.bytes.items c.bytes.invariant.picked.fit short in
    let longer = c.push.ensures.len in
    omega arith

pub bytes-preserved : goal.bytes-preserved
bytes-preserved g c =
    begun-more c.args.word (g.T.Text.shape c.args.text.now) (g.T.Text.stands c.args.text.now) c.args.cpu c.args.at
    c.bytes.bytes.items c.push.new.self.items c.pick.result c.bytes.choices (c.bytes.choices / 256) c.bytes.invariant c.pick.type_inv
    c.push.ensures.items
    (subst (λ (l : List ℕ). read c.args.at l ≡ Err Short) c.deref.ensures.0 (c.wants_more.ensures.0 c.bytes-test.true).0)
    (subst (λ (l : List ℕ). Covers (g.T.Text.shape c.args.text.now) (c.args.at + length l)) c.deref.ensures.0 (c.wants_more.ensures.0 c.bytes-test.true).1)
    refl
    (λ p is. c.pick.ensures p is ∙ (λ i. slice_index (candidates p c.args.cpu (c.args.at + c.len.ensures.value i)) (c.low_byte.ensures i % length (candidates p c.args.cpu (c.args.at + c.len.ensures.value i)))))

pub returns-clause-fetch : goal.returns-clause-fetch
returns-clause-fetch g c p is =
    let agrees = g.met.T.Text.agrees c.args.text.now p is in
    let base = agrees.base in
    let size = agrees.size in
    begun-told c.args.word (g.T.Text.shape c.args.text.now) (g.T.Text.stands c.args.text.now) c.args.cpu c.args.at
    (end_of p) c.bytes.bytes.items c.bytes.choices c.bytes.invariant c.requires.inside (omega arith)
    (subst (λ (l : List ℕ). (read c.args.at l ≡ Err Short) × Covers (g.T.Text.shape c.args.text.now) (c.args.at + length l) → ⊥) c.deref.ensures.0 (not_wanted c.wants_more.ensures.1 c.bytes-test.false))

pub returns-clause-some : goal.returns-clause-some
returns-clause-some g c =
    begun-some (g.T.Text.shape c.args.text.now) c.args.at c.bytes.bytes.items c.requires.inside
    (subst (λ (l : List ℕ). (read c.args.at l ≡ Err Short) × Covers (g.T.Text.shape c.args.text.now) (c.args.at + length l) → ⊥) c.deref.ensures.0 (not_wanted c.wants_more.ensures.1 c.bytes-test.false))
