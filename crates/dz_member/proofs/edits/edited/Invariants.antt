use Rattle.std.proofs.Common.{◌≡◌}
use Rattle.dz_member.specs.Edit.{edited}
use Rattle.dz_member.proofs.edits.edited.Given as goal

abbrev pub invariant-edits : goal.invariant-edits
invariant-edits l = l.edited.value ≡ edited l.nodes.value l.yielded
