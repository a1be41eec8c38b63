use Rattle.std.proofs.Common.{take}
use Rattle.dz_member.specs.inner.Edits.{IsTouched}
use Rattle.dz_member.proofs.edits.members_touched.Given as goal

abbrev pub invariant-zones : goal.invariant-zones
invariant-zones l = IsTouched l.fold (take l.zone-index l.zones) l.touched
