use Rattle.std.proofs.Common.{List, map, take, sym, subst}
use Rattle.insn_forms.specs.declared.forms.Change.{Change}
use Rattle.insn_forms.specs.Write.{Write}
use Rattle.live_text.specs.Flat.{rounds}
use Rattle.live_text.specs.Layout.{AreRounds, AddsChunk}
use Rattle.live_text.proofs.Layouts.{chunk_more}
use Rattle.live_text.proofs.layout.rounds_of.Goals as goal

pub loop-chunk-preserved : goal.loop-chunk-preserved
loop-chunk-preserved c =
    let adds : AddsChunk c.args.sites.now c.chunk-item.result.items c.loop-chunk.made c.add_chunk.new.self = subst (λ (chunk : List Change). AddsChunk c.args.sites.now chunk c.loop-chunk.made c.add_chunk.new.self) c.deref.ensures.value c.in_ok-add_chunk.ensures in
    subst (λ (lists : List (List Write)). AreRounds c.args.sites.now lists c.add_chunk.new.self)
    (sym (chunk_more (λ v. v.items) c.args.chunks.now c.loop-chunk.chunk-index c.chunk-item.result c.loop-chunk-test.true c.chunk-item.is))
    (adds (rounds (map (λ v. v.items) (take c.loop-chunk.chunk-index c.args.chunks.now))) c.loop-chunk.invariant)
