use Rattle.std.proofs.Common.{◌≡◌, take, map}
use Rattle.dz_member.proofs.edits.zones_put.Given as goal

abbrev pub invariant-nodes : goal.invariant-nodes
invariant-nodes l = l.zones.items ≡ map (λ n. n.zone) (take l.node-index l.put)
