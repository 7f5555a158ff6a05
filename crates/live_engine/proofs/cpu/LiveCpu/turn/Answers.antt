-- All is told by what the turn did.
use Rattle.std.proofs.Common.{◌∙◌, ℕ}
use Rattle.live_engine.specs.LiveCpu.{runner}
use Rattle.live_engine.proofs.DecodedForms.{phases}
use Rattle.live_engine.proofs.TurnEnds.{HasFlows, paired-after, still-is, trapped-is}
use Rattle.live_engine.proofs.TurnViews.{ack-later, floor-later, turned}
use Rattle.live_engine.proofs.cpu.LiveCpu.turn.Goals as goal

pub returns-clause-paired : goal.returns-clause-paired
returns-clause-paired c =
    let r = runner c.args.self.now c.args.seat.now in
    let s = runner c.act-done.new.self c.act-done.new.seat in
    let t = c.act-done.ensures.turns in
    let plan = c.args.text.now.plan in
    let is = turned c.args.image.now plan c.args.word r s c.act-done.result (c.keeps.ensures c.requires.paired.stays) t in
    let laws : HasFlows c.args.image.now plan = record {
      accepted = c.accepted.ensures;
      live = c.requires.plan;
      phases = phases plan c.requires.plan.stands c.chunks_are_poked.ensures.versions c.bytes_go_by_phases.ensures.table c.bytes_go_by_phases.ensures.others;
      plain = c.plain_instructions_flow.ensures;
      patched = c.patched_sites_flow.ensures;
      breakpoints = c.bytes_go_by_phases.ensures.breakpoints;
      written = c.chunks_are_poked.ensures.breakpoints;
    } in
    paired-after c.args.image.now plan c.args.text.now.cpus c.args.word r t.looked s c.act-done.result laws c.requires.paired is.later c.act-done.ensures.own.shape (c.keeps-2.ensures (is.later.left ∙ c.requires.paired.stays)) t.does

pub returns-clause-looks : goal.returns-clause-looks
returns-clause-looks c =
    let r = runner c.args.self.now c.args.seat.now in
    let s = runner c.act-done.new.self c.act-done.new.seat in
    (turned c.args.image.now c.args.text.now.plan c.args.word r s c.act-done.result (c.keeps.ensures c.requires.paired.stays) c.act-done.ensures.turns).loads

pub returns-clause-acks : goal.returns-clause-acks
returns-clause-acks c =
    let r = runner c.args.self.now c.args.seat.now in
    let s = runner c.act-done.new.self c.act-done.new.seat in
    ack-later r.view s.view (turned c.args.image.now c.args.text.now.plan c.args.word r s c.act-done.result (c.keeps.ensures c.requires.paired.stays) c.act-done.ensures.turns).later

pub returns-clause-floors : goal.returns-clause-floors
returns-clause-floors c = λ (site : ℕ).
    let r = runner c.args.self.now c.args.seat.now in
    let s = runner c.act-done.new.self c.act-done.new.seat in
    floor-later c.args.text.now.plan r.view s.view site (turned c.args.image.now c.args.text.now.plan c.args.word r s c.act-done.result (c.keeps.ensures c.requires.paired.stays) c.act-done.ensures.turns).later

pub returns-clause-still : goal.returns-clause-still
returns-clause-still c =
    let t = c.act-done.ensures.turns in
    still-is c.args.image.now c.args.text.now.plan c.args.word (runner c.args.self.now c.args.seat.now) t.looked (runner c.act-done.new.self c.act-done.new.seat) c.act-done.result t.does

pub returns-clause-trapped : goal.returns-clause-trapped
returns-clause-trapped c =
    let t = c.act-done.ensures.turns in
    trapped-is c.args.image.now c.args.text.now.plan c.args.word (runner c.args.self.now c.args.seat.now) t.looked (runner c.act-done.new.self c.act-done.new.seat) c.act-done.result c.requires.paired t.does
