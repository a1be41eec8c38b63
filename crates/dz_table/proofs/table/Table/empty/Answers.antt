use Rattle.dz_table.proofs.KeptLemmas.{empty_kept}
use Rattle.dz_table.proofs.table.Table.empty.Goals as goal

pub invariant_of-result : goal.invariant_of-result
invariant_of-result c = empty_kept _ c.empty.ensures
