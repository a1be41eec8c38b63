use Rattle.std.proofs.Common.{◌≡◌, take}
use Rattle.dz_catalog.specs.inner.Below.{groups_among}
use Rattle.dz_catalog.proofs.nodes.groups_among.Given as goal

abbrev pub invariant-records : goal.invariant-records
invariant-records l = l.groups.items ≡ groups_among l.node (take l.found-index l.records)
