use Rattle.dz_lookup.proofs.chain.chase.Given as goal

abbrev pub ghosts-follow : goal.ghosts-follow
ghosts-follow a = record { name = a.blank.name; parts = a.blank.parts }
