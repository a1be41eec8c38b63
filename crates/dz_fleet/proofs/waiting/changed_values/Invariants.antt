use Rattle.std.proofs.Common.{◌≡◌, drop}
use Rattle.dz_fleet.specs.Weighing.{written_at}
use Rattle.dz_fleet.specs.inner.Relisting.{AreBehind, half_made}
use Rattle.dz_fleet.proofs.waiting.changed_values.Given as goal

abbrev pub invariant-changes : goal.invariant-changes
invariant-changes l = record {
  behind : AreBehind l.before.fold.members l.after.fold.members (drop l.place l.changes) l.known l.known;
  values : written_at l.schedule l.pairs.items
      ≡ half_made (record { state = l.before; values = l.schedule; members = l.after.fold.members }) l.known;
}
