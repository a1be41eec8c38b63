use Rattle.dz_axfr.proofs.KeptLemmas.{held_whole, held_items}
use Rattle.dz_axfr.proofs.whole.Whole.finish.Goals as goal

pub returns-clause-whole : goal.returns-clause-whole
returns-clause-whole c =
    rw c.into_records.ensures (held_whole _ c.args.self _ _ _ c.self.view_is c.self.invariant c.requires)

pub returns-clause-items : goal.returns-clause-items
returns-clause-items c =
    rw c.into_records.ensures (held_items _ c.args.self _ _ _ c.self.view_is c.self.invariant c.requires)
