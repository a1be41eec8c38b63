use Rattle.std.proofs.Common.{◌∙◌, ap, List}
use Rattle.std.specs.Prelude.{Some, if◌then◌else◌}
use Rattle.std.specs.List.{find}
use Rattle.dz_name.specs.Name.{same_name}
use Rattle.dz_member.specs.declared.membership.Membership.{Membership}
use Rattle.dz_member.specs.inner.Members.{members_of, AreMembers}
use Rattle.dz_member.proofs.MemberLemmas.{members_put, put_member}
use Rattle.dz_member.proofs.members.Members.with.Goals as goal

pub invariant_of-result : goal.invariant_of-result
invariant_of-result c = rw c.in_ok-entries.ensures (members_put c.args.membership c.self.inside.entries c.self.invariant)

pub returns-clause-order : goal.returns-clause-order
returns-clause-order c = let a : AreMembers c.in_ok-entries.entries = invariant_of-result c in a.order

pub returns-clause-each : goal.returns-clause-each
returns-clause-each c zone =
    ap (λ es. find (λ m. same_name m.zone zone) (members_of es)) c.in_ok-entries.ensures
    ∙ (put_member zone c.args.membership c.self.inside.entries c.self.invariant
    ∙ ap (λ (ns : List Membership). if same_name c.args.membership.zone zone then Some c.args.membership
    else find (λ m. same_name m.zone zone) ns) c.self.view_is)
