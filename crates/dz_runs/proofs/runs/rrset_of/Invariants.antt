use Rattle.dz_runs.proofs.runs.rrset_of.Given as goal

abbrev pub ghosts-counted_rrset : goal.ghosts-counted_rrset
ghosts-counted_rrset a = record { name = a.blank.name; parts = a.blank.parts }
