-- The changes are few.
use Rattle.script_runner.proofs.Few as few
use Rattle.script_runner.proofs.updater.Updater.begin.Goals as goal

pub overflow_cast-sites : goal.overflow_cast-sites
overflow_cast-sites c =
    few.changes_fit _ _ _ _ _ _ _ c.list.ensures c.changes.ensures.changes c.in_default.ensures.allowed c.requires.ready c.requires.few_sites
