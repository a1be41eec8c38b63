use Rattle.dz_table.proofs.table.Table.without_slot.Given as goal

abbrev pub ghosts-counted_without-E-Ledger : goal.ghosts-counted_without-E-Ledger
ghosts-counted_without-E-Ledger a = record { name = a.blanks.entries.name; parts = a.blanks.entries.parts }

abbrev pub ghosts-counted_without-R-Ledger : goal.ghosts-counted_without-R-Ledger
ghosts-counted_without-R-Ledger a = record { name = a.blanks.references.name; parts = a.blanks.references.parts }

abbrev pub ghosts-counted_without-C-Ledger : goal.ghosts-counted_without-C-Ledger
ghosts-counted_without-C-Ledger a = record { name = a.blanks.comparisons.name; parts = a.blanks.comparisons.parts }
