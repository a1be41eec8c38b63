use Rattle.std.proofs.Common.{ap, arith, length}
use Rattle.dz_producer.proofs.SizeLemmas.{node_long}
use Rattle.dz_producer.proofs.refused.is_node_long.Goals as goal

pub returns-clause-long : goal.returns-clause-long
returns-clause-long c =
    let node = c.args.node.now in
    node_long c.args.apex.now node.label node.coo node.groups node.zone _
    (omega (arith, ap length c.wire.ensures.wire, ap length c.octets.ensures.octets, c.property_size.ensures))
