use Rattle.dz_name.specs.Name.{same_name}
use Rattle.dz_member.specs.Membership.{MemberOf}
use Rattle.dz_member.proofs.SearchLemmas.{place_found, place_missing}
use Rattle.dz_member.proofs.fold.Fold.find.Goals as goal
use Rattle.std.proofs.Common.{sym}

pub returns-in-Some : goal.returns-in-Some
returns-in-Some c =
    place_found (λ (m : MemberOf). same_name m.zone c.args.zone.now) c.args.self.now.members c.in-Some.place
    c.member.result (sym c.in-Some.ensures) c.member.ensures

pub returns-in-None : goal.returns-in-None
returns-in-None c =
    place_missing (λ (m : MemberOf). same_name m.zone c.args.zone.now) c.args.self.now.members (sym c.in-None.ensures)
