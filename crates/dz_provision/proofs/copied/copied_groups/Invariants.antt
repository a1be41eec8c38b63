use Rattle.std.proofs.Common.{◌≡◌, take}
use Rattle.dz_provision.proofs.copied.copied_groups.Given as goal

abbrev pub invariant-groups : goal.invariant-groups
invariant-groups l = l.copies.items ≡ take l.group-index l.groups
