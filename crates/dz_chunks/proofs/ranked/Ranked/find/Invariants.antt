use Rattle.dz_chunks.proofs.ranked.Ranked.find.Given as goal

abbrev pub ghosts-counted_find : goal.ghosts-counted_find
ghosts-counted_find g a = record { name = a.blank.name; parts = a.blank.parts }
