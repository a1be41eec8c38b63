use Rattle.dz_session_tests.proofs.query.play_stream.Given as goal

abbrev pub ghosts-serve_stream_by : goal.ghosts-serve_stream_by
ghosts-serve_stream_by g a = record { book = a.worker.now.reading.book }
