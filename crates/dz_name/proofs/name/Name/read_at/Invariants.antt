use Rattle.dz_name.proofs.name.Name.read_at.Given as goal

abbrev pub ghosts-read_plain : goal.ghosts-read_plain
ghosts-read_plain a = record { name = a.blank.name; parts = a.blank.parts }
