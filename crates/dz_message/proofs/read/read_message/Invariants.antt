use Rattle.dz_message.proofs.read.read_message.Given as goal

abbrev pub ghosts-read_from : goal.ghosts-read_from
ghosts-read_from a = record { name = a.blank.name; parts = a.blank.parts }
