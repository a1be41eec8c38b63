use Rattle.dz_history.proofs.table_after.same_slot.Given as goal

abbrev pub ghosts-counted_slot : goal.ghosts-counted_slot
ghosts-counted_slot a = record { name = a.blank.name; parts = a.blank.parts }
