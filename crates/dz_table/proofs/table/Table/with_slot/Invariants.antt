use Rattle.dz_table.proofs.table.Table.with_slot.Given as goal

abbrev pub ghosts-counted_with-E-Ledger : goal.ghosts-counted_with-E-Ledger
ghosts-counted_with-E-Ledger a = record { name = a.blanks.entries.name; parts = a.blanks.entries.parts }

abbrev pub ghosts-counted_with-R-Ledger : goal.ghosts-counted_with-R-Ledger
ghosts-counted_with-R-Ledger a = record { name = a.blanks.references.name; parts = a.blanks.references.parts }

abbrev pub ghosts-counted_with-C-Ledger : goal.ghosts-counted_with-C-Ledger
ghosts-counted_with-C-Ledger a = record { name = a.blanks.comparisons.name; parts = a.blanks.comparisons.parts }
