use Rattle.std.proofs.Common.{sym}
use Rattle.dz_name.specs.Name.{same_name}
use Rattle.dz_member.specs.Membership.{MemberOf}
use Rattle.dz_member.proofs.SearchLemmas.{place_found, place_missing}
use Rattle.dz_member.proofs.fold.Fold.membership_of.Goals as goal

pub returns-in-Some-clause-is : goal.returns-in-Some-clause-is
returns-in-Some-clause-is c =
    place_found (λ (m : MemberOf). same_name m.zone c.args.zone.now) c.args.self.now.members c.in-Some.place _
    (sym c.in-Some.ensures) c.membership.ensures.is

pub returns-in-None-clause-is : goal.returns-in-None-clause-is
returns-in-None-clause-is c =
    place_missing (λ (m : MemberOf). same_name m.zone c.args.zone.now) c.args.self.now.members (sym c.in-None.ensures)
