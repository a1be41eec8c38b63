use Rattle.dz_reply.proofs.counted.signatures.Given as goal

abbrev pub ghosts-count_signatures : goal.ghosts-count_signatures
ghosts-count_signatures a = record { name = a.blank.name; parts = a.blank.parts }
