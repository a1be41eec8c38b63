use Rattle.std.proofs.Common.{◌≡◌, ℕ, List, ◌++◌, ◌≤◌, take}
use Rattle.std.specs.Prelude.{not, filter, flat_map}
use Rattle.dz_record.specs.Record.{record_octets}
use Rattle.dz_zonemd.specs.Digested.{is_left_out}
use Rattle.dz_zonemd.proofs.digest.hash.Given as goal

abbrev pub invariant-records : goal.invariant-records
invariant-records g l =
    (l.count ≤ 4096)
    × ((n : List ℕ) × g.D.Digest.holds l.hasher n × (n ++ take l.count l.batch
    ≡ flat_map record_octets (filter (λ r. not (is_left_out l.apex r)) (take l.place l.records))))
