use Rattle.std.proofs.Common.{rules}
use Rattle.std.proofs.lemmas.List.Sorted.{answers_always}
use Rattle.poke_batch.specs.declared.patch.Patch.{Patch}
use Rattle.poke_batch.proofs.Finding.{form_at-Err, form_at-Ok}
use Rattle.poke_batch.proofs.batch.form_at.Goals as goal

pub returns-in-Ok : goal.returns-in-Ok
returns-in-Ok c =
    let facts = c.binary_search_by_key.ensures in
    form_at-Ok c.args.chunk.now c.args.at c.in-Ok.site c.binary_search_by_key.result c.index-chunk-site.result c.size.result c.requires
    (facts.position (λ (p : Patch). p.change.at) (answers_always _ _ _ (λ f a r g called. search rules))) facts.bound c.in-Ok.is c.size.ensures

pub returns-in-Err : goal.returns-in-Err
returns-in-Err c =
    let facts = c.binary_search_by_key.ensures in
    form_at-Err c.args.chunk.now c.args.at c.in-Err.field-0 c.binary_search_by_key.result c.requires
    (facts.position (λ (p : Patch). p.change.at) (answers_always _ _ _ (λ f a r g called. search rules))) c.in-Err.is
