use Rattle.dz_zone.proofs.merging.Merging.put.Given as goal

abbrev pub ghosts-put_owner : goal.ghosts-put_owner
ghosts-put_owner a = record { name = a.blank.name; parts = a.blank.parts }
