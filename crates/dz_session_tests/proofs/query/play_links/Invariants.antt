use Rattle.dz_session_tests.proofs.query.play_links.Given as goal

abbrev pub ghosts-serve_links_by : goal.ghosts-serve_links_by
ghosts-serve_links_by g a = record { book = a.worker.now.reading.book }
