-- Judge: zones and what their ZONEMD records say, computed by the checker.
use Rattle.std.specs.Prelude.{◌≡◌, ℕ, refl, List, [], ◌∷◌, ◌++◌, codes, false, true}
use Rattle.dz_name.specs.Words.{Name, Kind, Octets}
use Rattle.dz_name.specs.Name.{wire_of}
use Rattle.dz_name.specs.Numbers.{two, four, number_of_two, number_of_four}
use Rattle.dz_name.specs.declared.dns.TheConstants.{TYPE_A, TYPE_AAAA, TYPE_NS, TYPE_RRSIG, TYPE_SOA, TYPE_ZONEMD}
use Rattle.dz_record.specs.Record.{Record}
use Rattle.dz_record.specs.Records.{distinct, insertion, in_order}
use Rattle.dz_zonemd.specs.Digested.{is_left_out, digested}
use Rattle.dz_zonemd.specs.Standing.{standing, hashes}
use Rattle.dz_zonemd.specs.Zonemd.{is_supported}
use Rattle.sha2.specs.Sha512.{compress, digest_bytes, first_words, hash_after, rounds, schedule, sha384}
use Rattle.dz_zonemd.specs.declared.acceptance.Standing.TheVariants.{Absent, Unsupported, Good, Bad}
use Rattle.dz_zonemd.specs.declared.algorithm.TheConstants.{SCHEME_SIMPLE, HEAD_OCTETS, ALGORITHM_SHA384}
use Rattle.dz_zonemd.specs.declared.algorithm.TheConstants.{ALGORITHM_SHA512}

-- the apex of the zone of RFC 8976 appendix A.1
abbrev apex : Name
apex = codes "example" ∷ []

-- the name ns1.example.
abbrev ns1 : Name
ns1 = codes "ns1" ∷ apex

-- the name ns2.example.
abbrev ns2 : Name
ns2 = codes "ns2" ∷ apex

-- the SOA of the zone of RFC 8976 appendix A.1, which follows without its ZONEMD record
abbrev soa : Record
soa = record {
  owner = apex;
  kind = TYPE_SOA;
  ttl = 86400;
  rdata = wire_of ns1 ++ wire_of (codes "admin" ∷ apex) ++ four 2018031900 ++ four 1800 ++ four 900 ++ four 604800
      ++ four 86400;
}

-- an NS record of the apex
abbrev server : Name → Record
server name = record { owner = apex; kind = TYPE_NS; ttl = 86400; rdata = wire_of name }

-- the A record of ns1.example.
abbrev address : Record
address = record { owner = ns1; kind = TYPE_A; ttl = 3600; rdata = 203 ∷ 0 ∷ 113 ∷ 63 ∷ [] }

-- the AAAA record of ns2.example.
abbrev address6 : Record
address6 = record {
  owner = ns2;
  kind = TYPE_AAAA;
  ttl = 3600;
  rdata = 32 ∷ 1 ∷ 13 ∷ 184 ∷ 0 ∷ 0 ∷ 0 ∷ 0 ∷ 0 ∷ 0 ∷ 0 ∷ 0 ∷ 0 ∷ 0 ∷ 0 ∷ 99 ∷ [];
}

-- a ZONEMD record of an owner name, with the serial of that zone
abbrev zonemd : Name → ℕ → ℕ → Octets → Record
zonemd owner scheme algorithm digest =
    record { owner = owner; kind = TYPE_ZONEMD; ttl = 86400; rdata = four 2018031900 ++ scheme ∷ algorithm ∷ digest }

-- the records in another order, a ZONEMD record of the apex among them
abbrev shuffled : List Record
shuffled = address6 ∷ soa ∷ zonemd apex 1 1 [] ∷ server ns2 ∷ address ∷ server ns1 ∷ []

-- the records of the zone, without its ZONEMD record
abbrev shuffled_rest : List Record
shuffled_rest = address6 ∷ soa ∷ server ns2 ∷ address ∷ server ns1 ∷ []

-- the octets that the digest of appendix A.1 is of: NS, SOA, A and AAAA
abbrev octets : Octets
octets =
    (7 ∷ codes "example" ++ 0 ∷ 0 ∷ 2 ∷ 0 ∷ 1 ∷ 0 ∷ 1 ∷ 81 ∷ 128 ∷ 0 ∷ 13 ∷ 3 ∷ codes "ns1" ++ 7
    ∷ codes "example" ++ 0 ∷ [])
    ++ (7 ∷ codes "example" ++ 0 ∷ 0 ∷ 2 ∷ 0 ∷ 1 ∷ 0 ∷ 1 ∷ 81 ∷ 128 ∷ 0 ∷ 13 ∷ 3 ∷ codes "ns2" ++ 7
    ∷ codes "example" ++ 0 ∷ [])
    ++ (7 ∷ codes "example" ++ 0 ∷ 0 ∷ 6 ∷ 0 ∷ 1 ∷ 0 ∷ 1 ∷ 81 ∷ 128 ∷ 0 ∷ 48 ∷ 3 ∷ codes "ns1" ++ 7 ∷ codes "example"
    ++ 0 ∷ 5 ∷ codes "admin" ++ 7 ∷ codes "example"
    ++ 0 ∷ 120 ∷ 72 ∷ 185 ∷ 28 ∷ 0 ∷ 0 ∷ 7 ∷ 8 ∷ 0 ∷ 0 ∷ 3 ∷ 132 ∷ 0 ∷ 9 ∷ 58 ∷ 128 ∷ 0 ∷ 1 ∷ 81 ∷ 128 ∷ [])
    ++ (3 ∷ codes "ns1" ++ 7 ∷ codes "example" ++ 0 ∷ 0 ∷ 1 ∷ 0 ∷ 1 ∷ 0 ∷ 0 ∷ 14 ∷ 16 ∷ 0 ∷ 4 ∷ 203 ∷ 0
    ∷ 113 ∷ 63 ∷ [])
    ++ (3 ∷ codes "ns2" ++ 7 ∷ codes "example" ++ 0 ∷ 0 ∷ 28 ∷ 0 ∷ 1 ∷ 0 ∷ 0 ∷ 14 ∷ 16 ∷ 0 ∷ 16 ∷ 32 ∷ 1 ∷ 13 ∷ 184 ∷ 0
    ∷ 0 ∷ 0 ∷ 0 ∷ 0 ∷ 0 ∷ 0 ∷ 0 ∷ 0 ∷ 0 ∷ 0 ∷ 99 ∷ [])

pub octets_of_the_zone : digested apex shuffled ≡ octets
unfolding digested distinct insertion in_order wire_of two four number_of_two
octets_of_the_zone = refl

-- a record that comes twice is digested once
pub digested_once : digested apex (address ∷ shuffled) ≡ octets
unfolding digested distinct insertion in_order wire_of two four number_of_two
digested_once = refl

-- an RRSIG record of an owner name, as far as the type that it covers
abbrev rrsig : Name → Kind → Record
rrsig owner covered = record { owner = owner; kind = TYPE_RRSIG; ttl = 86400; rdata = two covered ++ 13 ∷ 1 ∷ [] }

-- what is left out is at the apex (RFC 8976 sections 2.1 and 3.3.1.1)
pub rrsig_of_zonemd : is_left_out apex (rrsig apex TYPE_ZONEMD) ≡ true
unfolding two number_of_two
rrsig_of_zonemd = refl

pub rrsig_of_soa : is_left_out apex (rrsig apex TYPE_SOA) ≡ false
unfolding two number_of_two
rrsig_of_soa = refl

pub rrsig_below : is_left_out apex (rrsig ns1 TYPE_ZONEMD) ≡ false
unfolding two number_of_two
rrsig_below = refl

pub zonemd_below : is_left_out apex (zonemd ns1 1 1 []) ≡ false
unfolding two number_of_two
zonemd_below = refl

-- twelve octets: as a digest they are too short for any algorithm
abbrev octets12 : Octets
octets12 = 0 ∷ 0 ∷ 0 ∷ 0 ∷ 0 ∷ 0 ∷ 0 ∷ 0 ∷ 0 ∷ 0 ∷ 0 ∷ 0 ∷ []

-- a digest of the length of SHA-384
abbrev octets48 : Octets
octets48 = octets12 ++ octets12 ++ octets12 ++ octets12

-- the length of the algorithm, and a wrong one
pub right_length : is_supported (zonemd apex 1 1 octets48) ≡ true
unfolding four
right_length = refl

pub wrong_length : is_supported (zonemd apex 1 2 octets48) ≡ false
unfolding four
wrong_length = refl

pub no_digest : standing apex (soa ∷ zonemd ns1 1 1 octets48 ∷ []) ≡ Absent
unfolding standing
no_digest = refl

-- a scheme and an algorithm for private use (RFC 8976 sections 5.2 and 5.3)
pub private_use : standing apex (soa ∷ zonemd apex 240 1 octets48 ∷ zonemd apex 1 240 octets48 ∷ []) ≡ Unsupported
unfolding standing four
private_use = refl

-- another serial, and two records of one scheme and algorithm: neither verifies, whatever their digests
pub another_serial : standing apex
    (record soa { rdata = four 0 ++ four 0 ++ four 0 ++ four 0 ++ four 0 } ∷ zonemd apex 1 1 octets48 ∷ []) ≡ Bad
unfolding standing four number_of_four
another_serial = refl

-- the digest that RFC 8976 appendix A.1 prints
abbrev printed : Octets
printed =
    198 ∷ 128 ∷ 144 ∷ 217 ∷ 10 ∷ 122 ∷ 237 ∷ 113 ∷ 107 ∷ 196 ∷ 89 ∷ 249
    ∷ 52 ∷ 14 ∷ 61 ∷ 124 ∷ 19 ∷ 112 ∷ 212 ∷ 210 ∷ 75 ∷ 126 ∷ 47 ∷ 195
    ∷ 161 ∷ 221 ∷ 192 ∷ 185 ∷ 168 ∷ 113 ∷ 83 ∷ 185 ∷ 169 ∷ 113 ∷ 59 ∷ 60
    ∷ 154 ∷ 229 ∷ 204 ∷ 39 ∷ 119 ∷ 127 ∷ 152 ∷ 184 ∷ 231 ∷ 48 ∷ 4 ∷ 76 ∷ []

pub appendix_a1 : standing apex (zonemd apex 1 1 printed ∷ shuffled_rest) ≡ Good
unfolding standing digested distinct insertion in_order wire_of two four number_of_two number_of_four compress
    digest_bytes first_words hash_after rounds schedule sha384
appendix_a1 = refl

-- ---- the numbers of ZONEMD records (RFC 8976 section 2.2), so that none can change
pub scheme_simple_is_1 : SCHEME_SIMPLE ≡ 1
scheme_simple_is_1 = refl

pub head_octets_is_6 : HEAD_OCTETS ≡ 6
head_octets_is_6 = refl

pub algorithm_sha384_is_1 : ALGORITHM_SHA384 ≡ 1
algorithm_sha384_is_1 = refl

pub algorithm_sha512_is_2 : ALGORITHM_SHA512 ≡ 2
algorithm_sha512_is_2 = refl

-- ---- how often a zone is hashed: once for each algorithm that one record alone is of
pub hashed_by_both : hashes (zonemd apex 1 1 octets48 ∷ zonemd apex 1 2 octets48 ∷ []) ≡ 2
unfolding four
hashed_by_both = refl

pub never_for_two_of_one : hashes (zonemd apex 1 1 octets48 ∷ zonemd apex 1 1 octets12 ∷ []) ≡ 0
unfolding four
never_for_two_of_one = refl

pub never_for_private_use : hashes (zonemd apex 240 1 octets48 ∷ zonemd apex 1 240 octets48 ∷ []) ≡ 0
unfolding four
never_for_private_use = refl
