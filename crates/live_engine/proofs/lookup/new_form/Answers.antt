use Rattle.std.proofs.Common.{rules}
use Rattle.std.proofs.lemmas.List.Sorted.{answers_always}
use Rattle.insn_forms.specs.declared.forms.Change.{Change}
use Rattle.live_text.specs.Plan.{chunks_of}
use Rattle.live_engine.proofs.Lookups.{chunk-there, form-missing, form-there}
use Rattle.live_engine.proofs.lookup.new_form.Goals as goal

pub returns-in-Ok : goal.returns-in-Ok
returns-in-Ok c =
    let facts = c.binary_search_by_key.ensures in
    let chunk = c.in_ok-changes.changes.now in
    let there = chunk-there (λ ch. ch.items) c.deref.result.now c.args.chunk chunk c.in_ok-changes.ensures.lookup.0 c.in_ok-changes.ensures.lookup.1 in
    let listed = rw c.deref.ensures.value at there in
    form-there c.deref-2.result.now chunk.items (chunks_of c.args.plan.now) c.args.chunk c.args.at c.in-Ok.place c.binary_search_by_key.result c.index.result.now c.deref-2.ensures.value listed
    (c.requires.chunks c.args.chunk chunk.items listed).ascend
    (facts.position (λ (p : Change). p.at) (answers_always _ _ _ (λ f a r g called. search rules))) facts.bound c.in-Ok.is c.index.ensures

pub returns-in-Err : goal.returns-in-Err
returns-in-Err c =
    let facts = c.binary_search_by_key.ensures in
    let chunk = c.in_ok-changes.changes.now in
    let there = chunk-there (λ ch. ch.items) c.deref.result.now c.args.chunk chunk c.in_ok-changes.ensures.lookup.0 c.in_ok-changes.ensures.lookup.1 in
    let listed = rw c.deref.ensures.value at there in
    form-missing c.deref-2.result.now chunk.items (chunks_of c.args.plan.now) c.args.chunk c.args.at c.in-Err.field-0 c.binary_search_by_key.result c.deref-2.ensures.value listed
    (c.requires.chunks c.args.chunk chunk.items listed).ascend
    (facts.position (λ (p : Change). p.at) (answers_always _ _ _ (λ f a r g called. search rules))) c.in-Err.is
