-- Judge: the longest query for a transfer, so that it can't change.
use Rattle.std.specs.Prelude.{◌≡◌, refl}
use Rattle.dz_job.specs.declared.query.TheConstants.{QUERY_OCTETS}

pub query_octets_is_1066 : QUERY_OCTETS ≡ 1066
query_octets_is_1066 = refl
