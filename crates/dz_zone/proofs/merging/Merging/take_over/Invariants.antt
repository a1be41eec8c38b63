use Rattle.dz_zone.proofs.merging.Merging.take_over.Given as goal

abbrev pub ghosts-with_run : goal.ghosts-with_run
ghosts-with_run a = record { name = a.blank.name; parts = a.blank.parts }
