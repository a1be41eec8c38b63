use Rattle.std.proofs.Common.{◌≡◌, ◌++◌, take, map}
use Rattle.dz_member.specs.Edit.{nodes_replaced}
use Rattle.dz_member.proofs.edits.zones_touched.Given as goal

abbrev pub invariant-edits : goal.invariant-edits
invariant-edits l = l.zones.items ≡ map (λ n. n.zone) l.put
    ++ map (λ n. n.zone) (nodes_replaced l.nodes (take l.edit-index l.edits))
