use Rattle.dz_zone.proofs.index.index_rising.Given as goal

abbrev pub ghosts-counted_rising : goal.ghosts-counted_rising
ghosts-counted_rising a = record { name = a.blank.name; parts = a.blank.parts }
