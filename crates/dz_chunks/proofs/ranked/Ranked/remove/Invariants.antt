use Rattle.dz_chunks.proofs.ranked.Ranked.remove.Given as goal

abbrev pub ghosts-counted_remove-E-Ledger : goal.ghosts-counted_remove-E-Ledger
ghosts-counted_remove-E-Ledger g a = record { name = a.blanks.entries.name; parts = a.blanks.entries.parts }

abbrev pub ghosts-counted_remove-R-Ledger : goal.ghosts-counted_remove-R-Ledger
ghosts-counted_remove-R-Ledger g a = record { name = a.blanks.references.name; parts = a.blanks.references.parts }

abbrev pub ghosts-counted_remove-C-Ledger : goal.ghosts-counted_remove-C-Ledger
ghosts-counted_remove-C-Ledger g a = record { name = a.blanks.comparisons.name; parts = a.blanks.comparisons.parts }
