-- Where all writes are done, the text holds the last forms.
use Rattle.live_engine.proofs.FinishedBytes.{finished-sites}
use Rattle.live_engine.proofs.run.sites_after.Goals as goal

pub returns-then-finished : goal.returns-then-finished
returns-then-finished c =
    finished-sites c.args.text.plan c.args.text.cpus c.args.seat.view c.finish-sites.result.items c.chunks_are_poked.ensures.requests c.chunks_are_poked.ensures.versions c.bytes_go_by_phases.ensures.others c.requires.stands c.requires.own.shape (c.requires.finished c.if-finished.true) c.finish-sites.ensures.bytes
