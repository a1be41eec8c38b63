-- Judge: each fault, and zones without one, computed by the checker.
use Rattle.std.specs.Prelude.{◌≡◌, refl, [], ◌∷◌, Some, None, codes}
use Rattle.dz_name.specs.Words.{Name, Kind, Octets}
use Rattle.dz_name.specs.declared.dns.TheConstants.{TYPE_A, TYPE_CNAME, TYPE_DNAME, TYPE_NS, TYPE_NSEC, TYPE_RRSIG}
use Rattle.dz_name.specs.declared.dns.TheConstants.{TYPE_SOA}
use Rattle.dz_record.specs.Record.{Record}
use Rattle.dz_record.specs.Records.{distinct, insertion, in_order}
use Rattle.dz_zone.specs.Apart.{missing_in}
use Rattle.dz_zone.specs.Valid.{some_two, clash, both_are, fault_of}
use Rattle.dz_zone.specs.Version.{zone_of}
use Rattle.dz_zone.specs.declared.fault.ZoneFault.TheVariants.{NoSoa, SoaTwice, SoaBelow, NoNs, OutOfZone, CnameBeside}
use Rattle.dz_zone.specs.declared.fault.ZoneFault.TheVariants.{CnameTwice, DnameTwice}

-- a record whose RDATA tells it from others alone
abbrev record_of : Kind → Name → Octets → Record
record_of kind owner rdata = record { owner = owner; kind = kind; ttl = 3600; rdata = rdata }

-- the apex `zone.`
abbrev apex : Name
apex = codes "zone" ∷ []

-- a name one label below the apex
abbrev below : Octets → Name
below label = label ∷ apex

-- the SOA of the apex
abbrev soa : Record
soa = record_of TYPE_SOA apex (7 ∷ [])

-- an NS record of the apex
abbrev ns : Record
ns = record_of TYPE_NS apex []

-- a record of `c.zone.`
abbrev of_c : Kind → Octets → Record
of_c kind rdata = record_of kind (below (codes "c")) rdata

pub no_records : fault_of apex [] ≡ Some NoSoa
unfolding fault_of some_two clash both_are
no_records = refl

-- an SOA below the apex is none of the apex, and the lack of one counts first
pub soa_elsewhere : fault_of apex (record_of TYPE_SOA (below (codes "b")) [] ∷ ns ∷ []) ≡ Some NoSoa
unfolding fault_of some_two clash both_are
soa_elsewhere = refl

pub two_soa : fault_of apex (soa ∷ ns ∷ record_of TYPE_SOA apex (8 ∷ []) ∷ []) ≡ Some SoaTwice
unfolding fault_of some_two clash both_are
two_soa = refl

pub soa_beside : fault_of apex (soa ∷ ns ∷ record_of TYPE_SOA (below (codes "b")) [] ∷ []) ≡ Some SoaBelow
unfolding fault_of some_two clash both_are
soa_beside = refl

pub ns_elsewhere : fault_of apex (soa ∷ record_of TYPE_NS (below (codes "b")) [] ∷ []) ≡ Some NoNs
unfolding fault_of some_two clash both_are
ns_elsewhere = refl

pub outside : fault_of apex (soa ∷ ns ∷ record_of TYPE_A (codes "other" ∷ []) [] ∷ []) ≡ Some OutOfZone
unfolding fault_of some_two clash both_are
outside = refl

-- the records need no order
pub cname_and_a : fault_of apex (of_c TYPE_A [] ∷ soa ∷ ns ∷ of_c TYPE_CNAME [] ∷ []) ≡ Some CnameBeside
unfolding fault_of some_two clash both_are
cname_and_a = refl

pub two_cname : fault_of apex (of_c TYPE_CNAME [] ∷ soa ∷ ns ∷ of_c TYPE_CNAME (1 ∷ []) ∷ []) ≡ Some CnameTwice
unfolding fault_of some_two clash both_are
two_cname = refl

pub two_dname : fault_of apex (of_c TYPE_DNAME [] ∷ soa ∷ ns ∷ of_c TYPE_DNAME (1 ∷ []) ∷ []) ≡ Some DnameTwice
unfolding fault_of some_two clash both_are
two_dname = refl

-- RRSIG and NSEC may be beside a CNAME, and so may a record below its owner
pub cname_signed : fault_of apex (soa ∷ ns ∷ of_c TYPE_RRSIG [] ∷ of_c TYPE_CNAME [] ∷ of_c TYPE_NSEC []
    ∷ record_of TYPE_A (codes "a" ∷ below (codes "c")) [] ∷ []) ≡ None
unfolding fault_of some_two clash both_are
cname_signed = refl

-- the zone of some records: in order, the first of two that are the same kept
pub ordered : (zone_of apex (of_c TYPE_A [] ∷ soa ∷ of_c TYPE_A [] ∷ ns ∷ [])).records ≡ ns ∷ soa ∷ of_c TYPE_A [] ∷ []
unfolding distinct insertion in_order
ordered = refl

-- ---- of two faults the first counts
abbrev soa_below : Record
soa_below = record_of TYPE_SOA (below (codes "b")) []

abbrev other_soa : Record
other_soa = record_of TYPE_SOA apex (8 ∷ [])

abbrev outside_it : Record
outside_it = record_of TYPE_A (codes "other" ∷ []) []

abbrev of_d : Kind → Octets → Record
of_d kind rdata = record_of kind (below (codes "d")) rdata

pub ns_alone : fault_of apex (ns ∷ []) ≡ Some NoSoa
unfolding fault_of some_two clash both_are
ns_alone = refl

pub two_soa_before_one_below : fault_of apex (other_soa ∷ soa ∷ soa_below ∷ ns ∷ []) ≡ Some SoaTwice
unfolding fault_of some_two clash both_are
two_soa_before_one_below = refl

pub soa_below_before_no_ns : fault_of apex (soa ∷ soa_below ∷ []) ≡ Some SoaBelow
unfolding fault_of some_two clash both_are
soa_below_before_no_ns = refl

pub no_ns_before_outside : fault_of apex (soa ∷ outside_it ∷ []) ≡ Some NoNs
unfolding fault_of some_two clash both_are
no_ns_before_outside = refl

pub outside_before_beside : fault_of apex (soa ∷ ns ∷ outside_it ∷ of_c TYPE_CNAME [] ∷ of_c TYPE_A [] ∷ [])
    ≡ Some OutOfZone
unfolding fault_of some_two clash both_are
outside_before_beside = refl

pub beside_before_twice : fault_of apex
    (soa ∷ ns ∷ of_c TYPE_CNAME [] ∷ of_c TYPE_CNAME (1 ∷ []) ∷ of_c TYPE_A [] ∷ [])
    ≡ Some CnameBeside
unfolding fault_of some_two clash both_are
beside_before_twice = refl

pub dname_beside_a_cname : fault_of apex (soa ∷ ns ∷ of_c TYPE_CNAME [] ∷ of_c TYPE_DNAME [] ∷ of_d TYPE_CNAME [] ∷ [])
    ≡ Some CnameBeside
unfolding fault_of some_two clash both_are
dname_beside_a_cname = refl

pub two_cname_before_two_dname : fault_of apex (soa ∷ ns ∷ of_d TYPE_DNAME [] ∷ of_d TYPE_DNAME (1 ∷ []) ∷
    of_c TYPE_CNAME [] ∷ of_c TYPE_CNAME (1 ∷ []) ∷ [])
    ≡ Some CnameTwice
unfolding fault_of some_two clash both_are
two_cname_before_two_dname = refl

pub caa_beside_a_cname : fault_of apex (of_c 257 [] ∷ soa ∷ of_c TYPE_NSEC [] ∷ ns ∷ of_c TYPE_RRSIG [] ∷
    of_c TYPE_CNAME [] ∷ [])
    ≡ Some CnameBeside
unfolding fault_of some_two clash both_are
caa_beside_a_cname = refl

-- ---- other types are where no CNAME is, and owners have types of their own
pub without_a_cname : fault_of apex (soa ∷ ns ∷ of_c TYPE_A [] ∷ of_c TYPE_RRSIG [] ∷ of_c TYPE_NSEC [] ∷ of_c 257 [] ∷
    [])
    ≡ None
unfolding fault_of some_two clash both_are
without_a_cname = refl

pub a_cname_and_a_dname_elsewhere : fault_of apex (soa ∷ ns ∷ of_c TYPE_CNAME [] ∷ record_of TYPE_A (codes "a" ∷
    below (codes "c")) [] ∷ of_d TYPE_DNAME [] ∷ [])
    ≡ None
unfolding fault_of some_two clash both_are
a_cname_and_a_dname_elsewhere = refl

-- ---- what another version hasn't: the order is free, and a record under another TTL is another one
abbrev with_ttl : Record → Record
with_ttl r = record { owner = r.owner; kind = r.kind; ttl = 60; rdata = r.rdata }

pub all_there : missing_in (of_c TYPE_A [] ∷ soa ∷ ns ∷ []) (ns ∷ soa ∷ []) ≡ []
all_there = refl

pub one_more_and_a_ttl : missing_in (with_ttl ns ∷ soa ∷ []) (ns ∷ soa ∷ of_c TYPE_A [] ∷ [])
    ≡ ns ∷ of_c TYPE_A [] ∷ []
one_more_and_a_ttl = refl
