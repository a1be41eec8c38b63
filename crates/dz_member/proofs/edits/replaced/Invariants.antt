use Rattle.std.proofs.Common.{take}
use Rattle.dz_member.specs.inner.Edits.{IsReplaced}
use Rattle.dz_member.proofs.edits.replaced.Given as goal

abbrev pub invariant-zones : goal.invariant-zones
invariant-zones l = IsReplaced l.members.value l.others (take l.zone-index l.zones) l.replaced.value
