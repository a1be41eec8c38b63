use Rattle.dz_table.proofs.table.Table.get.Given as goal

abbrev pub ghosts-counted_get : goal.ghosts-counted_get
ghosts-counted_get a = record { name = a.blank.name; parts = a.blank.parts }
