use Rattle.std.proofs.Common.{◌≡◌, take, map, not}
use Rattle.dz_name.specs.declared.dns.TheConstants.{TYPE_SOA}
use Rattle.dz_zone.specs.Valid.{at_apex}
use Rattle.dz_zone.proofs.revision.flags_but_soa.Given as goal

abbrev pub invariant-records : goal.invariant-records
invariant-records l = l.flags.items ≡ map (λ r. not (at_apex TYPE_SOA l.apex r)) (take l.found-index l.records)
