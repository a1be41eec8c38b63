use Rattle.dz_runs.proofs.runs.node_near.Given as goal

abbrev pub ghosts-counted_near : goal.ghosts-counted_near
ghosts-counted_near g a = record { name = a.blank.name; parts = a.blank.parts }
