use Rattle.dz_tests.proofs.provision.give_a_job_away.Given as goal

abbrev pub ghosts-refuse_a_job-J-Ledger : goal.ghosts-refuse_a_job-J-Ledger
ghosts-refuse_a_job-J-Ledger g a = record { name = a.ledger.name; parts = a.ledger.parts }

abbrev pub ghosts-refuse_a_job-J-Naming : goal.ghosts-refuse_a_job-J-Naming
ghosts-refuse_a_job-J-Naming g a = record { publisher = a.own.book }
