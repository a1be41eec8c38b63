use Rattle.dz_reply.proofs.counted.covering.Given as goal

abbrev pub ghosts-count_covering : goal.ghosts-count_covering
ghosts-count_covering a = record { name = a.blank.name; parts = a.blank.parts }
