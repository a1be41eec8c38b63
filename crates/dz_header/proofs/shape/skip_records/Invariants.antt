use Rattle.dz_header.proofs.shape.skip_records.Given as goal

abbrev pub ghosts-skip_from : goal.ghosts-skip_from
ghosts-skip_from a = record { name = a.blank.name; parts = a.blank.parts }
