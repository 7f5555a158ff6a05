use Rattle.fetch_tests.proofs.tests.writes_where_there_is_room.Given as goal

abbrev pub ghost-write_within : goal.ghost-write_within
ghost-write_within g a = a.text.now.past
