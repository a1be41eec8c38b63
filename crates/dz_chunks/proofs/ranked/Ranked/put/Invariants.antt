use Rattle.dz_chunks.proofs.ranked.Ranked.put.Given as goal

abbrev pub ghosts-counted_put-E-Ledger : goal.ghosts-counted_put-E-Ledger
ghosts-counted_put-E-Ledger g a = record { name = a.blanks.entries.name; parts = a.blanks.entries.parts }

abbrev pub ghosts-counted_put-R-Ledger : goal.ghosts-counted_put-R-Ledger
ghosts-counted_put-R-Ledger g a = record { name = a.blanks.references.name; parts = a.blanks.references.parts }

abbrev pub ghosts-counted_put-C-Ledger : goal.ghosts-counted_put-C-Ledger
ghosts-counted_put-C-Ledger g a = record { name = a.blanks.comparisons.name; parts = a.blanks.comparisons.parts }
