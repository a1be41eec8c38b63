-- Inner: types of which an owner has at most one record (RFC 2181 sections 6.1 and 10.1, RFC 6672 section 2.4).
use Rattle.std.specs.Prelude.{Bool, ◌==◌, ◌||◌, nat_lt, List}
use Rattle.std.specs.List.{list_any, count_by}
use Rattle.dz_name.specs.Words.{Kind}
use Rattle.dz_name.specs.declared.dns.TheConstants.{TYPE_CNAME, TYPE_DNAME, TYPE_SOA}
use Rattle.dz_record.specs.Record.{Record}

-- SOA, CNAME and DNAME: an owner has at most one record of such a type
abbrev pub is_singleton : Kind → Bool
is_singleton kind = kind == TYPE_SOA || (kind == TYPE_CNAME || kind == TYPE_DNAME)

-- there is more than one record of such types
abbrev pub has_singletons : List Record → Bool
has_singletons records = nat_lt 1 (count_by (λ r. is_singleton r.kind) records)

-- some record is an SOA
abbrev pub has_soa : List Record → Bool
has_soa records = list_any (λ r. r.kind == TYPE_SOA) records
