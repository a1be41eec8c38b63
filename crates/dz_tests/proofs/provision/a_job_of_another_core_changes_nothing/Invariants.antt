use Rattle.dz_tests.proofs.provision.a_job_of_another_core_changes_nothing.Given as goal

abbrev pub ghosts-give_a_job_away-J-Ledger : goal.ghosts-give_a_job_away-J-Ledger
ghosts-give_a_job_away-J-Ledger g a = record { name = a.ledger.name; parts = a.ledger.parts }

abbrev pub ghosts-give_a_job_away-J-Naming : goal.ghosts-give_a_job_away-J-Naming
ghosts-give_a_job_away-J-Naming g a = record { publisher = a.own.book }
