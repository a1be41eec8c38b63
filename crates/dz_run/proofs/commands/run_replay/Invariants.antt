use Rattle.dz_run.proofs.commands.run_replay.Given as goal

abbrev pub ghosts-replay-J-Naming : goal.ghosts-replay-J-Naming
ghosts-replay-J-Naming g a = record { publisher = a.ends.publisher.book }

abbrev pub ghosts-replay-J-Ledger : goal.ghosts-replay-J-Ledger
ghosts-replay-J-Ledger g a = record { name = a.ledger.name; parts = a.ledger.parts }
