use Rattle.dz_runs.proofs.runs.addresses_near.Given as goal

abbrev pub ghosts-counted_addresses : goal.ghosts-counted_addresses
ghosts-counted_addresses a = record { name = a.blank.name; parts = a.blank.parts }
