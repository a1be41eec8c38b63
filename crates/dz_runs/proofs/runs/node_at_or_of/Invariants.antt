use Rattle.dz_runs.proofs.runs.node_at_or_of.Given as goal

abbrev pub ghosts-counted_beside : goal.ghosts-counted_beside
ghosts-counted_beside g a = record { name = a.blank.name; parts = a.blank.parts }
