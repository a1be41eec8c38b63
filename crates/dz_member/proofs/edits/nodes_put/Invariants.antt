use Rattle.std.proofs.Common.{◌≡◌, take}
use Rattle.dz_member.specs.Edit.{nodes_put}
use Rattle.dz_member.proofs.edits.nodes_put.Given as goal

abbrev pub invariant-edits : goal.invariant-edits
invariant-edits l = l.nodes.items ≡ nodes_put (take l.edit-index l.edits)
