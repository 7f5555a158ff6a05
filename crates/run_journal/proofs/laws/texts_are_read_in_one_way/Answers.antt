use Rattle.run_journal.proofs.laws.texts_are_read_in_one_way.Goals as goal
use Rattle.run_journal.proofs.Journals.{ends_are_one, events_are_one, journals_are_apart}

pub returns-clause-event : goal.returns-clause-event
returns-clause-event c = events_are_one

pub returns-clause-end : goal.returns-clause-end
returns-clause-end c = ends_are_one

pub returns-clause-journal : goal.returns-clause-journal
returns-clause-journal c = journals_are_apart
