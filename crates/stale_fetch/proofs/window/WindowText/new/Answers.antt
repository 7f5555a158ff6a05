use Rattle.stale_fetch.proofs.WindowPasts.{windows_new}
use Rattle.stale_fetch.proofs.window.WindowText.new.Goals as goal

pub returns-clause-stands : goal.returns-clause-stands
returns-clause-stands c =
    windows_new c.args.base c.args.cpus c.args.text.now c.in_ok-held.held.items c.in_ok-rows.rows.items c.in_ok-held.ensures.items c.in_ok-rows.ensures
