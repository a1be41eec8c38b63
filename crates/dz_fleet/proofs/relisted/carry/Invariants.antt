use Rattle.std.proofs.Common.{◌≡◌, ◌++◌, map, drop}
use Rattle.dz_fleet.specs.Values.{carried}
use Rattle.dz_fleet.specs.inner.Relisting.{AreBehind}
use Rattle.dz_fleet.proofs.relisted.carry.Given as goal

abbrev pub invariant-changes : goal.invariant-changes
invariant-changes l = record {
  behind : AreBehind l.relisting.state.fold.members l.relisting.members (drop l.place l.changes)
      l.behind.left l.behind.made;
  values : l.values.items
      ++ map (carried l.relisting.state l.relisting.values) (drop l.behind.made l.relisting.members)
      ≡ l.initial.values.items
      ++ map (carried l.relisting.state l.relisting.values) l.relisting.members;
}
