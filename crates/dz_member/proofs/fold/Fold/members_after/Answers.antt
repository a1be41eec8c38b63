use Rattle.dz_member.specs.Membership.{IsNumbered}
use Rattle.dz_member.specs.inner.Kept.{catalog_at}
use Rattle.dz_member.proofs.KeptLemmas.{zones_rise}
use Rattle.dz_member.proofs.NarrowLemmas.{are_after, after_all, touched_all}
use Rattle.dz_member.proofs.fold.Fold.members_after.Goals as goal

pub narrowed-requires-clause-numbered : goal.narrowed-requires-clause-numbered
narrowed-requires-clause-numbered c =
    touched_all c.args.self.now c.args.zones.now c.in_ok-touched.touched c.in_ok-touched.ensures

pub from_shared-requires : goal.from_shared-requires
from_shared-requires c = zones_rise _ _ c.in_ok-processed.ensures.order

pub returns-clause-numbered : goal.returns-clause-numbered
returns-clause-numbered c =
    after_all (IsNumbered c.args.self.now.config) c.shared_members.result.now.value c.in_ok-others.others
    c.in_ok-members.members.value c.args.zones.now c.in_ok-members.ensures c.shared_members.ensures.numbered
    (rw c.in_ok-others.ensures.members (rw c.in_ok-narrowed.ensures at c.in_ok-processed.ensures.numbered))

pub returns-clause-are : goal.returns-clause-are
returns-clause-are c =
    are_after c.args.self.now (catalog_at c.args.self.now c.args.turn.number) c.args.turn.position c.args.zones.now
    c.args.put.now c.in_ok-processed.ensures.listing c.requires.zones c.in_ok-touched.touched c.in_ok-touched.ensures
    c.shared_members.result.now.value c.in_ok-others.others c.in_ok-members.members.value _
    c.shared_members.ensures.members
    (rw c.in_ok-others.ensures.members (rw c.in_ok-narrowed.ensures at c.in_ok-processed.ensures.members))
    c.in_ok-members.ensures
    (rw c.in_ok-narrowed.ensures at c.in_ok-processed.ensures.changes)
