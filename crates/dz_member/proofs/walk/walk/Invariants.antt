use Rattle.std.proofs.Common.{◌≡◌, ◌+◌, ◌++◌, length, map, drop}
use Rattle.std.specs.List.{AllByRecursion}
use Rattle.std.specs.List.Sorted.{IsStrictlySortedBy}
use Rattle.dz_name.specs.Name.{canonical_order}
use Rattle.dz_member.specs.Membership.{shown, settings_at, IsNumbered}
use Rattle.dz_member.specs.Process.{in_zone_order}
use Rattle.dz_member.specs.inner.Happened.{change_of, IsConfigured}
use Rattle.dz_member.specs.inner.Kept.{members_from, changes_from}
use Rattle.dz_member.specs.inner.Walk.{judge_of, spots, members_in, changes_in}
use Rattle.dz_member.proofs.walk.walk.Given as goal

abbrev pub invariant-zones : goal.invariant-zones
invariant-zones l =
    let catalog = (settings_at l.fold.config l.turn.number).name in
    let judge = judge_of l.fold catalog l.turn.position in
    let nodes = in_zone_order l.listing in
    record {
      held : IsStrictlySortedBy canonical_order (map (λ m. m.zone) l.held);
      listed : IsStrictlySortedBy canonical_order (map (λ n. n.zone) (drop l.at nodes));
      numbered : AllByRecursion (IsNumbered l.fold.config) l.held;
      kept : AllByRecursion (IsNumbered l.fold.config) l.processed.members.items;
      configured : AllByRecursion (λ h. IsConfigured l.fold.config h.what) l.processed.changes.items;
      members : map (shown l.fold.config) l.processed.members.items ++ members_in (spots judge l.held
          (drop l.at nodes)) ≡ members_from l.fold catalog l.turn.position nodes;
      changes : map (change_of l.fold.config) l.processed.changes.items ++ changes_in (spots judge l.held
          (drop l.at nodes)) ≡ changes_from l.fold catalog l.turn.position nodes;
    }

abbrev pub decreases-zones : goal.decreases-zones
decreases-zones l = length l.held + length (drop l.at (in_zone_order l.listing))
