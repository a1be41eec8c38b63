use Rattle.dz_session_tests.proofs.replay.a_reading_that_was_told_nothing_answers_by_what_replay_published.Given
    as goal

abbrev pub ghosts-replay-J-Naming : goal.ghosts-replay-J-Naming
ghosts-replay-J-Naming g a = record { publisher = a.ends.publisher.book }

abbrev pub ghosts-replay-J-Ledger : goal.ghosts-replay-J-Ledger
ghosts-replay-J-Ledger g a = record { name = a.ledger.name; parts = a.ledger.parts }
