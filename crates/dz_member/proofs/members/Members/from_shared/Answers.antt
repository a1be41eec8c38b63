use Rattle.std.proofs.Common.{◌∙◌, ◌≡◌, ap, length, arith}
use Rattle.dz_member.specs.inner.Members.{members_of, entries_of}
use Rattle.dz_member.proofs.MemberLemmas.{sorted_entries, kept_members, members_back}
use Rattle.dz_member.proofs.members.Members.from_shared.Goals as goal

pub from_entries-requires : goal.from_entries-requires
from_entries-requires c = rw c.in_ok-entries.ensures (sorted_entries c.args.memberships.items c.requires)

pub invariant_of-result : goal.invariant_of-result
invariant_of-result c = kept_members c.args.memberships.items c.in_ok-entries-2.entries c.requires
    (c.in_ok-entries-2.ensures ∙ c.in_ok-entries.ensures)

pub returns-clause-members : goal.returns-clause-members
returns-clause-members c = ap members_of (c.in_ok-entries-2.ensures ∙ c.in_ok-entries.ensures) ∙ members_back c.args.memberships.items

pub returns-clause-few : goal.returns-clause-few
returns-clause-few c =
    let same : c.in_ok-entries-2.entries ≡ entries_of c.args.memberships.items =
    c.in_ok-entries-2.ensures ∙ c.in_ok-entries.ensures in
    let s : length (members_of c.in_ok-entries-2.entries) ≡ length c.args.memberships.items =
    ap (λ es. length (members_of es)) same ∙ ap length (members_back c.args.memberships.items) in
    omega (arith, s, c.args.memberships.small)
