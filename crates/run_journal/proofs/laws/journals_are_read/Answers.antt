use Rattle.run_journal.proofs.laws.journals_are_read.Goals as goal
use Rattle.run_journal.proofs.Journals.{journals_are_read, lines_are_counted, prefixes_are_read}

pub returns-clause-whole : goal.returns-clause-whole
returns-clause-whole c = journals_are_read

pub returns-clause-prefix : goal.returns-clause-prefix
returns-clause-prefix c = prefixes_are_read

pub returns-clause-counted : goal.returns-clause-counted
returns-clause-counted c = lines_are_counted
