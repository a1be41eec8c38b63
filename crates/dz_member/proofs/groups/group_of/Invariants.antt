use Rattle.std.proofs.Common.{◌≡◌, drop}
use Rattle.dz_member.specs.Membership.{choice_of}
use Rattle.dz_member.proofs.groups.group_of.Given as goal

abbrev pub invariant-texts : goal.invariant-texts
invariant-texts l = choice_of l.groups (drop l.text-index l.texts) ≡ choice_of l.groups l.texts
