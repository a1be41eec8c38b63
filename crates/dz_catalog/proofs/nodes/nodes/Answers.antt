use Rattle.std.proofs.Common.{ap}
use Rattle.dz_catalog.specs.inner.Below.{node_behind}
use Rattle.dz_catalog.proofs.BelowLemmas.{nodes_more}
use Rattle.dz_catalog.proofs.nodes.nodes.Goals as goal

pub records-preserved : goal.records-preserved
records-preserved c =
    nodes_more c.args.apex.now c.args.records.now c.records.place c.index-records-place.result _ _ _ c.requires
    c.records-test.true c.index-records-place.is c.records.invariant
    (ap (node_behind c.args.apex.now c.index-records-place.result) c.behind.ensures) c.in_ok-add.ensures
