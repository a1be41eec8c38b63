use Rattle.std.proofs.Common.{◌≡◌, map, take}
use Rattle.dz_member.proofs.sort.places_of.Given as goal

abbrev pub invariant-sorted : goal.invariant-sorted
invariant-sorted l = l.places.items ≡ map (λ p. p.place) (take l.placed-index l.sorted)
