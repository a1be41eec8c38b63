-- Meaning: resource records of class IN (RFC 1035 section 3.2.1, RFC 2181 section 8).
use Rattle.std.specs.Prelude.{◌≡◌, ℕ, ◌-◌, ◌<◌, ◌^◌, Bool, true, false, ◌==◌, ◌&&◌, ◌||◌, nat_le, nat_lt, ◌++◌, length}
use Rattle.std.specs.Prelude.{drop, Option, Some, None, Result, Ok, Err, if◌then◌else◌}
use Rattle.std.specs.Str.{bytes_eq}
use Rattle.std.specs.Ordering.{nat_cmp, on, then_cmp}
use Rattle.std.specs.Cmp.Lexicographic.{slice_cmp}
use Rattle.std.specs.declared.cmp.Ordering.{Ordering}
use Rattle.dz_name.specs.Name.{same_name, canonical_order, wire_of, labels_of, IsName}
use Rattle.dz_name.specs.Numbers.{two, four, number_of_four}
use Rattle.dz_record.specs.Fields.{is_rdata}
use Rattle.dz_record.specs.declared.rr.Soa.{Soa}
use Rattle.dz_record.specs.declared.rr.RrFault.{RrFault}
use Rattle.dz_record.specs.declared.rr.RrFault.TheVariants.{BadRdata, BadType}
use Rattle.dz_name.specs.Words.{Name, Octets, Kind}
use Rattle.dz_name.specs.declared.dns.TheConstants.{TYPE_NS, TYPE_CNAME, TYPE_SOA, TYPE_PTR, TYPE_SIG, TYPE_NXT}
use Rattle.dz_name.specs.declared.dns.TheConstants.{TYPE_A6, TYPE_DNAME, TYPE_OPT, TYPE_TKEY, TYPE_ANY, CLASS_IN}

-- a record: owner name, type number, TTL in seconds, and RDATA (RFC 1035 section 3.2.1)
pub record Record : Type 0 where
  pub owner : Name
  pub kind : Kind
  pub ttl : ℕ
  pub rdata : Octets

-- types that no zone holds: SIG, NXT, A6, OPT, and the QTYPEs and Meta-TYPEs from 249 to 255 (RFC 6895 section 3.1)
abbrev pub is_bad_type : Kind → Bool
is_bad_type kind = kind == TYPE_SIG
    || (kind == TYPE_NXT || (kind == TYPE_A6 || (kind == TYPE_OPT || (nat_le TYPE_TKEY kind && nat_le kind TYPE_ANY))))

-- a record that a zone may hold: its owner is a name, its type a 16-bit number, its TTL below 2^31 (RFC 2181 section
-- 8), its RDATA in canonical form
pub record IsRecord (r : Record) : Type 0 where
  pub owner : IsName r.owner
  pub number : r.kind < 2 ^ 16
  pub kind : is_bad_type r.kind ≡ false
  pub ttl : r.ttl < 2 ^ 31
  pub rdata : is_rdata r.kind r.rdata ≡ true

-- the effective TTL: one whose top bit is set counts as 0 (RFC 2181 section 8)
abbrev pub ttl_of : ℕ → ℕ
ttl_of ttl = if nat_lt ttl (2 ^ 31) then ttl else 0

-- the record with these fields, or why there is none
abbrev pub record_of : Name → Kind → ℕ → Octets → Result Record RrFault
record_of owner kind ttl rdata =
    if is_bad_type kind then Err BadType
    else if is_rdata kind rdata then Ok (record { owner = owner; kind = kind; ttl = ttl_of ttl; rdata = rdata })
    else Err BadRdata

-- two records are the same where owner, type and RDATA agree; the TTL is ignored (RFC 2181 section 5)
abbrev pub same_record : Record → Record → Bool
same_record a b = same_name a.owner b.owner && (a.kind == b.kind && bytes_eq a.rdata b.rdata)

-- the order of a zone's records: owner, type and RDATA (RFC 4034 sections 6.1 and 6.3)
abbrev pub record_order : Record → Record → Ordering
record_order = then_cmp (then_cmp (on (λ r. r.owner) canonical_order) (on (λ r. r.kind) nat_cmp))
    (on (λ r. r.rdata) (slice_cmp nat_cmp))

-- the order of owner, type, RDATA, and then TTL
abbrev pub full_order : Record → Record → Ordering
full_order = then_cmp record_order (on (λ r. r.ttl) nat_cmp)

-- what follows an owner name: type, class IN, TTL, length of RDATA, RDATA (RFC 1035 section 4.1.3)
abbrev pub octets_behind_owner : Record → Octets
octets_behind_owner r = two r.kind ++ (two CLASS_IN ++ (four r.ttl ++ (two (length r.rdata) ++ r.rdata)))

-- a record without pointers: owner, type, class IN, TTL, length of RDATA, RDATA (RFC 1035 section 4.1.3)
abbrev pub record_octets : Record → Octets
record_octets r = wire_of r.owner ++ octets_behind_owner r

-- the numbers of an SOA, given the last 20 octets of its RDATA (RFC 1035 section 3.3.13)
abbrev pub soa_numbers : Octets → Soa
soa_numbers octets = record {
  serial = number_of_four octets;
  refresh = number_of_four (drop 4 octets);
  retry = number_of_four (drop 8 octets);
  expire = number_of_four (drop 12 octets);
  minimum = number_of_four (drop 16 octets);
}

-- the numbers of an SOA record; none for every other type
abbrev pub soa_of : Record → Option Soa
soa_of r = if r.kind == TYPE_SOA then Some (soa_numbers (drop (length r.rdata - 20) r.rdata)) else None

-- the types whose RDATA is a single name that they lead to: NS, CNAME, PTR and DNAME
abbrev pub has_target : Kind → Bool
has_target kind = kind == TYPE_NS || (kind == TYPE_CNAME || (kind == TYPE_PTR || kind == TYPE_DNAME))

-- the name that such a record leads to; none for every other type
abbrev pub target_of : Record → Option Name
target_of r = if has_target r.kind then Some (labels_of r.rdata) else None
