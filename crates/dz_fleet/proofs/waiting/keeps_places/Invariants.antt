use Rattle.std.proofs.Common.{◌≡◌, false, take}
use Rattle.std.specs.List.{list_any}
use Rattle.dz_fleet.specs.inner.Relisting.{is_entry}
use Rattle.dz_fleet.proofs.waiting.keeps_places.Given as goal

abbrev pub invariant-changes : goal.invariant-changes
invariant-changes l = list_any (λ c. is_entry c.what) (take l.place l.changes) ≡ false
