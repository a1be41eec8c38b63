use Rattle.std.proofs.Common.{◌≡◌, map}
use Rattle.dz_member.specs.Membership.{shown}
use Rattle.dz_history.specs.After.{slot_after}
use Rattle.dz_history.proofs.table_after.slots_after.Given as goal

abbrev pub invariant-members : goal.invariant-members
invariant-members l = record {
  slots : l.slots.items
      ≡ map (λ m. slot_after l.before (shown l.before.fold.config m)) (map (λ r. r.now) l.yielded);
  ahead : l.ahead ≡ l.before.table;
}
