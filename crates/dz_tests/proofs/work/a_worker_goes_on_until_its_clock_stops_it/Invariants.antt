use Rattle.dz_tests.proofs.work.a_worker_goes_on_until_its_clock_stops_it.Given as goal

abbrev pub ghosts-serve-J-Ledger : goal.ghosts-serve-J-Ledger
ghosts-serve-J-Ledger g a = record { name = a.ledger.name; parts = a.ledger.parts }

abbrev pub ghosts-serve-J-Naming : goal.ghosts-serve-J-Naming
ghosts-serve-J-Naming g a = record { publisher = a.desk.0.book }
