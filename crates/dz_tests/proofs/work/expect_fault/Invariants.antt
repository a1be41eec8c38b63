use Rattle.dz_tests.proofs.work.expect_fault.Given as goal

abbrev pub ghosts-fail-J-Ledger : goal.ghosts-fail-J-Ledger
ghosts-fail-J-Ledger g a = record { name = a.ledger.name; parts = a.ledger.parts }

abbrev pub ghosts-fail-J-Naming : goal.ghosts-fail-J-Naming
ghosts-fail-J-Naming g a = record { publisher = a.desk.0.book }
