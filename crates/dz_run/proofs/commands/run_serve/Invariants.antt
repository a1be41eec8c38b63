use Rattle.dz_run.proofs.commands.run_serve.Given as goal

abbrev pub ghosts-serve_input-J-Naming : goal.ghosts-serve_input-J-Naming
ghosts-serve_input-J-Naming g a = record { publisher = a.desk.publisher.book }

abbrev pub ghosts-serve_input-J-Ledger : goal.ghosts-serve_input-J-Ledger
ghosts-serve_input-J-Ledger g a = record { name = a.ledger.name; parts = a.ledger.parts }
