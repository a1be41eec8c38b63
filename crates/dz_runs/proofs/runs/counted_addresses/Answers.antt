use Rattle.dz_runs.proofs.InOrder.{owned}
use Rattle.dz_runs.proofs.runs.counted_addresses.Goals as goal

pub returns-clause-owner_of_four : goal.returns-clause-owner_of_four
returns-clause-owner_of_four g c =
    rw (c.of_type.ensures, c.node_near.ensures.node.records_are)
    (owned c.args.version.now.records c.args.name.now 1 c.node_near.ensures.rises)

pub returns-clause-owner_of_six : goal.returns-clause-owner_of_six
returns-clause-owner_of_six g c =
    rw (c.of_type-2.ensures, c.node_near.ensures.node.records_are)
    (owned c.args.version.now.records c.args.name.now 28 c.node_near.ensures.rises)
