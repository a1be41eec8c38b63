use Rattle.dz_table.proofs.AheadLemmas.{of_itself}
use Rattle.dz_table.proofs.table.Table.ahead.Goals as goal

pub of-requires : goal.of-requires
of-requires c = rw (c.walk.ensures.entries, c.self.view_is)
    (of_itself c.args.self.now (rw c.self.view_is at c.self.invariant.order))
