use Rattle.std.proofs.Common.{◌∙◌, ap, List}
use Rattle.std.specs.Prelude.{None, if◌then◌else◌}
use Rattle.std.specs.List.{find}
use Rattle.dz_chunks.specs.Map.{without_key}
use Rattle.dz_name.specs.Name.{canonical_order, same_name}
use Rattle.dz_member.specs.declared.membership.Membership.{Membership}
use Rattle.dz_member.specs.inner.Members.{members_of, AreMembers}
use Rattle.dz_member.proofs.MemberLemmas.{members_left, left_member}
use Rattle.dz_member.proofs.members.Members.without.Goals as goal

pub invariant_of-result : goal.invariant_of-result
invariant_of-result c =
    rw (c.in_ok-entries.ensures, c.of.ensures) (members_left c.args.zone.now c.self.inside.entries c.self.invariant)

pub returns-clause-order : goal.returns-clause-order
returns-clause-order c = let a : AreMembers c.in_ok-entries.entries = invariant_of-result c in a.order

pub returns-clause-each : goal.returns-clause-each
returns-clause-each c other =
    ap (λ es. find (λ m. same_name m.zone other) (members_of es)) c.in_ok-entries.ensures
    ∙ (ap (λ k. find (λ m. same_name m.zone other) (members_of (without_key canonical_order k c.self.inside.entries))) c.of.ensures
    ∙ (left_member other c.args.zone.now c.self.inside.entries c.self.invariant
    ∙ ap (λ (ns : List Membership). if same_name c.args.zone.now other then None
    else find (λ m. same_name m.zone other) ns) c.self.view_is))
