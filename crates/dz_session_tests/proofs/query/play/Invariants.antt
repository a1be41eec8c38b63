use Rattle.dz_session_tests.proofs.query.play.Given as goal

abbrev pub ghosts-serve_by : goal.ghosts-serve_by
ghosts-serve_by g a = record { book = a.worker.now.reading.book }
