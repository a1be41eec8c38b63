use Rattle.dz_zonemd.proofs.verification.standing.Given as goal

abbrev pub ghosts-standing_from : goal.ghosts-standing_from
ghosts-standing_from a = record { name = a.blank.name; parts = a.blank.parts }
