use Rattle.dz_reply.proofs.counted.proof.Given as goal

abbrev pub ghosts-count_proof : goal.ghosts-count_proof
ghosts-count_proof a = record { name = a.blank.name; parts = a.blank.parts }
