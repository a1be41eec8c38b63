use Rattle.std.proofs.Common.{◌≡◌, drop, not}
use Rattle.std.specs.Prelude.{filter}
use Rattle.dz_zone.specs.inner.Neighbours.{neighbours_from}
use Rattle.dz_zone.specs.Valid.{clash, is_beside_any}
use Rattle.dz_zone.proofs.valid.clash_from.Given as goal

abbrev pub invariant-records : goal.invariant-records
invariant-records l =
    neighbours_from clash l.last (filter (λ r. not (is_beside_any r.kind)) (drop l.record-index l.rest))
    ≡ neighbours_from clash l.fn.first (filter (λ r. not (is_beside_any r.kind)) l.fn.rest)
