use Rattle.dz_tests.proofs.signed.what_is_signed_is_taken_and_of_the_rest_the_fault_is_told.Given as goal

abbrev pub ghosts-play-J-Ledger : goal.ghosts-play-J-Ledger
ghosts-play-J-Ledger g a = record { name = a.ledger.name; parts = a.ledger.parts }

abbrev pub ghosts-play-J-Naming : goal.ghosts-play-J-Naming
ghosts-play-J-Naming g a = record { publisher = a.desk.0.book }
