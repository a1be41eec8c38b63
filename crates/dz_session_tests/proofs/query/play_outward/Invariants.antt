use Rattle.dz_session_tests.proofs.query.play_outward.Given as goal

abbrev pub ghosts-serve_outward_by : goal.ghosts-serve_outward_by
ghosts-serve_outward_by g a = record { book = a.worker.now.reading.book }
