use Rattle.dz_chunks.proofs.ranked.Ranked.seat.Given as goal

abbrev pub ghosts-counted_seat : goal.ghosts-counted_seat
ghosts-counted_seat g a = record { name = a.blank.name; parts = a.blank.parts }
