use Rattle.std.proofs.Common.{◌≡◌, take}
use Rattle.std.specs.List.{filter_map}
use Rattle.dz_catalog.specs.Member.{node_of}
use Rattle.dz_catalog.proofs.nodes.nodes.Given as goal

abbrev pub invariant-records : goal.invariant-records
invariant-records l = l.nodes.items ≡ filter_map (node_of l.apex l.records) (take l.place l.records)
