use Rattle.dz_tests.proofs.signed.a_member_that_moved_to_another_key_is_refused_once.Given as goal

abbrev pub ghosts-play_move-J-Ledger : goal.ghosts-play_move-J-Ledger
ghosts-play_move-J-Ledger g a = record { name = a.ledger.name; parts = a.ledger.parts }

abbrev pub ghosts-play_move-J-Naming : goal.ghosts-play_move-J-Naming
ghosts-play_move-J-Naming g a = record { publisher = a.desk.0.book }
