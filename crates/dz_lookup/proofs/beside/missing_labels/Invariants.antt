use Rattle.dz_lookup.proofs.beside.missing_labels.Given as goal

abbrev pub ghosts-counted_missing : goal.ghosts-counted_missing
ghosts-counted_missing a = record { name = a.blank.name; parts = a.blank.parts }
