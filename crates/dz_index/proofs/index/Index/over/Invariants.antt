use Rattle.dz_index.proofs.index.Index.over.Given as goal

abbrev pub ghosts-index_over : goal.ghosts-index_over
ghosts-index_over a = record { name = a.blank.name; parts = a.blank.parts }
