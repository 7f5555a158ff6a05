-- The bytes are those of the version that the acknowledgement tells.
use Rattle.std.proofs.Common.{◌≡◌, ◌+◌, ◌∙◌, ℕ, arith, ap}
use Rattle.insn_forms.specs.Spelling.{size}
use Rattle.live_text.specs.declared.plan.LiveSite.{LiveSite}
use Rattle.live_text.specs.Own.{site_of}
use Rattle.live_engine.proofs.DecodedForms.{decoded, decoded-is, form_for, phases, site-read, whole-is}
use Rattle.live_engine.proofs.FetchSteps.{more}
use Rattle.live_engine.proofs.Lookups.{some-size}
use Rattle.live_engine.proofs.fetch.fetch_rest.Goals as goal

pub loop-j-preserved : goal.loop-j-preserved
loop-j-preserved c =
    let i = c.loop-j.invariant in
    let site_is = site-read c.args.text.now.plan c.plan.result.now c.args.site c.index.result.now c.plan.ensures c.index.ensures c.requires.site in
    let size_is : size c.index.result.now.start ≡ size (site_of c.args.text.now.plan c.args.site).start = ap (λ (s : LiveSite). size s.start) site_is in
    let m = more c.args.text.now.plan c.args.text.now.cpus c.args.site c.args.word c.loop-j.j c.byte-byte.result c.is_fresh.result c.loop-j.bytes.items c.push-in-loop-j.new.self.items c.loop-j.seat.view c.byte-byte.new.seat.view c.requires.stands (record { listed = c.requires.site; byte = omega arith }) i.own.shape (c.keeps-in-loop-j.ensures i.stays) c.is_fresh.ensures i.count c.push-in-loop-j.ensures.items c.byte-byte.ensures.reads in
    record {
      own = c.byte-byte.ensures.own;
      stays = m.left ∙ i.stays;
      count = m.count ∙ ap (λ (n : ℕ). n + 1) i.count;
      head = m.head (omega arith) ∙ i.head;
      there = m.there i.there;
      fetched = λ before f. m.fetched before (i.fetched before f);
    }

pub unreachable-requires : goal.unreachable-requires
unreachable-requires c =
    let i = c.loop-j.invariant in
    let site_is = site-read c.args.text.now.plan c.plan.result.now c.args.site c.index.result.now c.plan.ensures c.index.ensures c.requires.site in
    let size_is : size c.index.result.now.start ≡ size (site_of c.args.text.now.plan c.args.site).start = ap (λ (s : LiveSite). size s.start) site_is in
    let some = some-size (site_of c.args.text.now.plan c.args.site).start in
    let laws = phases c.args.text.now.plan c.requires.stands c.chunks_are_poked.ensures.versions c.bytes_go_by_phases.ensures.table c.bytes_go_by_phases.ensures.others in
    let d = decoded c.args.text.now.plan c.args.text.now.cpus c.args.site c.args.first c.loop-j.bytes.items c.loop-j.seat.view laws i.own.shape (c.keeps-2.ensures i.stays) c.requires.site i.there (omega arith) i.head c.requires.no_trap c.requires.no_ret in
    let told = decoded-is c.decode_form.result (form_for c.args.text.now.plan c.loop-j.seat.view.cpu.ack c.args.site) (site_of c.args.text.now.plan c.args.site).at c.index.result.now.at c.loop-j.bytes.items c.deref.result.now c.decode_form.ensures (ap (λ (s : LiveSite). s.at) site_is) c.deref.ensures.0 d.begins in
    let none = c.in-None.is in
    cc

pub returns-clause-fetched : goal.returns-clause-fetched
returns-clause-fetched c = λ before f.
    let i = c.loop-j.invariant in
    let site_is = site-read c.args.text.now.plan c.plan.result.now c.args.site c.index.result.now c.plan.ensures c.index.ensures c.requires.site in
    let size_is : size c.index.result.now.start ≡ size (site_of c.args.text.now.plan c.args.site).start = ap (λ (s : LiveSite). size s.start) site_is in
    let some = some-size (site_of c.args.text.now.plan c.args.site).start in
    let laws = phases c.args.text.now.plan c.requires.stands c.chunks_are_poked.ensures.versions c.bytes_go_by_phases.ensures.table c.bytes_go_by_phases.ensures.others in
    let d = decoded c.args.text.now.plan c.args.text.now.cpus c.args.site c.args.first c.loop-j.bytes.items c.loop-j.seat.view laws i.own.shape (c.keeps-2.ensures i.stays) c.requires.site i.there (omega arith) i.head c.requires.no_trap c.requires.no_ret in
    let told = decoded-is c.decode_form.result (form_for c.args.text.now.plan c.loop-j.seat.view.cpu.ack c.args.site) (site_of c.args.text.now.plan c.args.site).at c.index.result.now.at c.loop-j.bytes.items c.deref.result.now c.decode_form.ensures (ap (λ (s : LiveSite). s.at) site_is) c.deref.ensures.0 d.begins in
    whole-is c.args.text.now.plan c.args.word c.args.site c.loop-j.bytes.items before c.loop-j.seat.view c.decode_form.result c.in-Some.form d told c.in-Some.is (i.fetched before f)
