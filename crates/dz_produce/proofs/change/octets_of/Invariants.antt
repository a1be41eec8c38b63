use Rattle.std.proofs.Common.{◌≡◌, take}
use Rattle.std.specs.List.{AllByRecursion}
use Rattle.dz_producer.specs.Draft.{IsHeld, saturated, spent}
use Rattle.dz_produce.proofs.change.octets_of.Given as goal

abbrev pub invariant-nodes : goal.invariant-nodes
invariant-nodes l = record {
  counted : l.octets ≡ saturated (spent l.apex (take l.node-index l.nodes));
  held : AllByRecursion IsHeld (take l.node-index l.nodes);
}
