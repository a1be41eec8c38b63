use Rattle.dz_tests.proofs.keeping.a_member_that_is_reset_is_forgotten_and_its_catalog_is_kept.Given as goal

abbrev pub ghosts-reset-J-Ledger : goal.ghosts-reset-J-Ledger
ghosts-reset-J-Ledger g a = record { name = a.ledger.name; parts = a.ledger.parts }

abbrev pub ghosts-reset-J-Naming : goal.ghosts-reset-J-Naming
ghosts-reset-J-Naming g a = record { publisher = a.publisher.book }
