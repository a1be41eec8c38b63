use Rattle.dz_reply.proofs.counted.closest.Given as goal

abbrev pub ghosts-count_closest : goal.ghosts-count_closest
ghosts-count_closest a = record { name = a.blank.name; parts = a.blank.parts }
