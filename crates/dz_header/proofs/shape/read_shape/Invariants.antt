use Rattle.dz_header.proofs.shape.read_shape.Given as goal

abbrev pub ghosts-shape_from : goal.ghosts-shape_from
ghosts-shape_from a = record { name = a.blank.name; parts = a.blank.parts }
