-- Judge: records, their RDATA and their order, computed by the checker.
use Rattle.std.specs.Prelude.{◌≡◌, refl, [], ◌∷◌, ◌++◌, codes, true, Err, ℕ, ◌-◌, Bool, false, List, map, replicate}
use Rattle.std.specs.Prelude.{Option, Some, None, Ok}
use Rattle.std.specs.declared.cmp.Ordering.TheVariants.{Less, Equal, Greater}
use Rattle.dz_name.specs.Words.{Name, Octets, Kind}
use Rattle.dz_name.specs.Name.{wire_of, labels_in}
use Rattle.dz_name.specs.Numbers.{two, four, number_of_four}
use Rattle.dz_name.specs.declared.dns.TheConstants.{TYPE_A, TYPE_TXT, TYPE_AXFR, TYPE_SRV, TYPE_SOA}
use Rattle.dz_record.specs.declared.fields.Field.TheVariants.{FixedLength, DomainName, Remainder}
use Rattle.dz_record.specs.declared.rr.RrFault.TheVariants.{BadType, BadRdata}
use Rattle.dz_record.specs.Fields.{fields_of, field_end, fits, is_rdata}
use Rattle.dz_record.specs.Record.{Record, record_of, record_octets, record_order, same_record, is_bad_type}
use Rattle.dz_record.specs.Record.{full_order, soa_of, target_of}
use Rattle.dz_record.specs.Records.{distinct}
use Rattle.dz_name.specs.Reading.{name_at, name_from, element_at, canonical_end}

-- www.example.
abbrev www : Name
www = codes "www" ∷ codes "example" ∷ []

-- an A record of www.example with the address 192.0.2.1
abbrev address : Record
address = record { owner = www; kind = TYPE_A; ttl = 60; rdata = 192 ∷ 0 ∷ 2 ∷ 1 ∷ [] }

pub fields_of_srv : fields_of TYPE_SRV ≡ FixedLength 6 ∷ DomainName ∷ []
unfolding fields_of
fields_of_srv = refl

-- a type without a row is one remainder (RFC 3597 section 5)
pub fields_of_txt : fields_of TYPE_TXT ≡ Remainder ∷ []
unfolding fields_of
fields_of_txt = refl

pub no_zone_holds_axfr : record_of www TYPE_AXFR 60 [] ≡ Err BadType
no_zone_holds_axfr = refl

pub octets_of_address : record_octets address
    ≡ 3 ∷ codes "www" ++ 7 ∷ codes "example" ++ 0 ∷ 0 ∷ 1 ∷ 0 ∷ 1 ∷ 0 ∷ 0 ∷ 0 ∷ 60 ∷ 0 ∷ 4 ∷ 192 ∷ 0 ∷ 2 ∷ 1 ∷ []
unfolding wire_of two four
octets_of_address = refl

-- the TTL is ignored (RFC 2181 section 5)
pub same_but_for_the_ttl : same_record address (record address { ttl = 3600 }) ≡ true
same_but_for_the_ttl = refl

-- the type is compared before the RDATA
pub address_before_text : record_order address (record { owner = www; kind = TYPE_TXT; ttl = 0; rdata = [] }) ≡ Less
address_before_text = refl

pub first_is_kept : distinct (address ∷ record address { ttl = 3600 } ∷ []) ≡ address ∷ []
unfolding distinct
first_is_kept = refl

-- ---- RDATA of each row of the table, and of types without a row (RFC 1035 section 3.3, RFC 3597 section 5)
-- all that computes whether octets are RDATA of a type
judged : Kind → Octets → Bool
unfolding fields_of fits field_end canonical_end name_at name_from element_at wire_of
judged kind rdata = is_rdata kind rdata

-- ns. admin. 2018031900 1800 900 604800 300
abbrev soa_rdata : Octets
soa_rdata = 2 ∷ codes "ns" ++ 0 ∷ 5 ∷ codes "admin" ++ 0 ∷ 120 ∷ 72 ∷ 185 ∷ 28 ∷ 0 ∷ 0 ∷ 7 ∷ 8 ∷ 0 ∷ 0 ∷ 3 ∷ 132 ∷ 0 ∷
    9 ∷ 58 ∷ 128 ∷ 0 ∷ 0 ∷ 1 ∷ 44 ∷ []

abbrev are_rdata : List (Kind × Octets) → List Bool
are_rdata rows = map (λ (row : Kind × Octets). is_rdata row.0 row.1) rows

-- A and AAAA; types of one name; SOA, of two names; of a number and names; SRV and NAPTR; RRSIG with and without a
-- signature; TXT, DS and a type that nobody knows
abbrev fitting : List (Kind × Octets)
fitting =
    (1, 127 ∷ 0 ∷ 0 ∷ 1 ∷ [])
    ∷ (28, 32 ∷ 1 ∷ 13 ∷ 184 ∷ 0 ∷ 0 ∷ 0 ∷ 0 ∷ 0 ∷ 0 ∷ 0 ∷ 0 ∷ 0 ∷ 0 ∷ 0 ∷ 99 ∷ [])
    ∷ (2, 1 ∷ codes "a" ++ 0 ∷ [])
    ∷ (3, 1 ∷ codes "a" ++ 0 ∷ [])
    ∷ (4, 1 ∷ codes "a" ++ 0 ∷ [])
    ∷ (5, 0 ∷ [])
    ∷ (7, 1 ∷ codes "a" ++ 0 ∷ [])
    ∷ (8, 1 ∷ codes "a" ++ 0 ∷ [])
    ∷ (9, 1 ∷ codes "a" ++ 0 ∷ [])
    ∷ (12, 1 ∷ codes "a" ++ 1 ∷ codes "b" ++ 0 ∷ [])
    ∷ (39, 1 ∷ codes "a" ++ 0 ∷ [])
    ∷ (6, soa_rdata)
    ∷ (14, 1 ∷ codes "a" ++ 0 ∷ 1 ∷ codes "b" ++ 0 ∷ [])
    ∷ (17, 1 ∷ codes "a" ++ 0 ∷ 0 ∷ [])
    ∷ (15, 0 ∷ 10 ∷ 1 ∷ codes "a" ++ 0 ∷ [])
    ∷ (18, 0 ∷ 1 ∷ 1 ∷ codes "a" ++ 0 ∷ [])
    ∷ (21, 0 ∷ 1 ∷ 1 ∷ codes "a" ++ 0 ∷ [])
    ∷ (36, 0 ∷ 1 ∷ 1 ∷ codes "a" ++ 0 ∷ [])
    ∷ (26, 0 ∷ 1 ∷ 1 ∷ codes "a" ++ 0 ∷ 1 ∷ codes "b" ++ 0 ∷ [])
    ∷ (33, 0 ∷ 1 ∷ 0 ∷ 2 ∷ 0 ∷ 53 ∷ 1 ∷ codes "a" ++ 0 ∷ [])
    ∷ (35, 0 ∷ 1 ∷ 0 ∷ 2 ∷ 1 ∷ codes "u" ++ 0 ∷ 2 ∷ codes "!x" ++ 1 ∷ codes "a" ++ 0 ∷ [])
    ∷ (
      46,
      0 ∷ 1 ∷ 8 ∷ 2 ∷ 0 ∷ 0 ∷ 14 ∷ 16 ∷ 0 ∷ 0 ∷ 0 ∷ 1 ∷ 0 ∷ 0 ∷ 0 ∷ 0 ∷ 18 ∷ 52 ∷ 1 ∷ codes "a" ++
          0 ∷ 115 ∷ 105 ∷ 103 ∷ [],
    )
    ∷ (46, 0 ∷ 1 ∷ 8 ∷ 2 ∷ 0 ∷ 0 ∷ 14 ∷ 16 ∷ 0 ∷ 0 ∷ 0 ∷ 1 ∷ 0 ∷ 0 ∷ 0 ∷ 0 ∷ 18 ∷ 52 ∷ 1 ∷ codes "a" ++ 0 ∷ [])
    ∷ (16, 1 ∷ codes "x")
    ∷ (16, [])
    ∷ (43, codes "anything")
    ∷ (65280, 192 ∷ [])
    ∷ []

pub rdata_of_every_row : are_rdata fitting ≡ replicate 27 true
unfolding judged
rdata_of_every_row = refl

-- octets that are missing or too many, upper case, a pointer, and octets that are missing after names
abbrev unfitting : List (Kind × Octets)
unfitting =
    (1, 127 ∷ 0 ∷ 0 ∷ [])
    ∷ (1, 127 ∷ 0 ∷ 0 ∷ 1 ∷ 2 ∷ [])
    ∷ (28, 127 ∷ 0 ∷ 0 ∷ 1 ∷ [])
    ∷ (2, [])
    ∷ (2, 1 ∷ codes "a")
    ∷ (2, 1 ∷ codes "A" ++ 0 ∷ [])
    ∷ (2, 1 ∷ codes "a" ++ 0 ∷ 0 ∷ [])
    ∷ (2, 192 ∷ 0 ∷ [])
    ∷ (14, 1 ∷ codes "a" ++ 0 ∷ [])
    ∷ (6, 0 ∷ 0 ∷ 0 ∷ 0 ∷ 0 ∷ 1 ∷ [])
    ∷ (15, 10 ∷ 1 ∷ codes "a" ++ 0 ∷ [])
    ∷ (33, 0 ∷ 1 ∷ 0 ∷ 2 ∷ 1 ∷ codes "a" ++ 0 ∷ 0 ∷ [])
    ∷ (35, 0 ∷ 1 ∷ 0 ∷ 2 ∷ 1 ∷ codes "u" ++ 0 ∷ 9 ∷ 33 ∷ 120 ∷ 1 ∷ codes "a" ++ 0 ∷ [])
    ∷ (35, 0 ∷ 1 ∷ 0 ∷ 2 ∷ 1 ∷ codes "u" ++ 0 ∷ [])
    ∷ (46, 0 ∷ 1 ∷ 8 ∷ 2 ∷ 0 ∷ 0 ∷ 14 ∷ 16 ∷ 0 ∷ 0 ∷ 0 ∷ 1 ∷ 0 ∷ 0 ∷ 0 ∷ 0 ∷ 18 ∷ 1 ∷ codes "a" ++ 0 ∷ [])
    ∷ []

pub rdata_of_none : are_rdata unfitting ≡ replicate 15 false
unfolding judged
rdata_of_none = refl

-- ---- types of which no zone holds records (RFC 6895 section 3.1): those of queries and of messages alone, and their
-- neighbours
abbrev held_nowhere : List Kind
held_nowhere = 24 ∷ 30 ∷ 38 ∷ 41 ∷ 249 ∷ 250 ∷ 251 ∷ 252 ∷ 253 ∷ 254 ∷ 255 ∷ []

pub no_zone_holds_these : map is_bad_type held_nowhere ≡ replicate 11 true
no_zone_holds_these = refl

pub no_record_is_made_of_these : map (λ kind. record_of [] kind 0 (codes "x")) held_nowhere
    ≡ replicate 11 (Err BadType)
no_record_is_made_of_these = refl

pub zones_hold_their_neighbours : map is_bad_type (23 ∷ 25 ∷ 29 ∷ 31 ∷ 37 ∷ 39 ∷ 40 ∷ 42 ∷ 248 ∷ 256 ∷ [])
    ≡ replicate 10 false
zones_hold_their_neighbours = refl

pub no_record_of_bad_rdata : record_of [] 1 0 (1 ∷ 2 ∷ 3 ∷ []) ≡ Err BadRdata
unfolding judged
no_record_of_bad_rdata = refl

-- ---- the TTL has 31 bits: with the highest bit it counts as 0 (RFC 2181 section 8), and records that differ in it
-- alone are the same (section 5)
abbrev lasting : ℕ → Record
lasting ttl =
    record { owner = codes "a" ∷ codes "example" ∷ []; kind = TYPE_A; ttl = ttl; rdata = 10 ∷ 0 ∷ 0 ∷ 1 ∷ [] }

pub longest_ttl : record_of (lasting 0).owner TYPE_A 0x7fffffff (lasting 0).rdata ≡ Ok (lasting 0x7fffffff)
unfolding judged
longest_ttl = refl

pub ttl_with_the_highest_bit : record_of (lasting 0).owner TYPE_A 0x80000000 (lasting 0).rdata ≡ Ok (lasting 0)
unfolding judged
ttl_with_the_highest_bit = refl

pub same_but_for_the_highest_bit : same_record (lasting 0x7fffffff) (lasting 0) ≡ true
same_but_for_the_highest_bit = refl

pub one_place_whatever_the_ttl : record_order (lasting 0x7fffffff) (lasting 0) ≡ Equal
one_place_whatever_the_ttl = refl

pub in_full_by_the_ttl : full_order (lasting 0x7fffffff) (lasting 0) ≡ Greater
in_full_by_the_ttl = refl

-- ---- the order of RFC 4034 sections 6.1 and 6.3: owners first, then types, then RDATA as octets
abbrev short : Name → Kind → Octets → Record
short owner kind rdata = record { owner = owner; kind = kind; ttl = 1; rdata = rdata }

abbrev example : Name
example = codes "example" ∷ []

abbrev in_order : List Record
in_order =
    short example 2 (1 ∷ codes "a" ++ 0 ∷ [])
    ∷ short example 16 (1 ∷ codes "x")
    ∷ short (codes "a" ∷ example) 1 (10 ∷ 0 ∷ 0 ∷ 1 ∷ [])
    ∷ short (codes "a" ∷ example) 1 (10 ∷ 0 ∷ 0 ∷ 2 ∷ [])
    ∷ short (codes "a" ∷ example) 65280 []
    ∷ short (codes "a" ∷ example) 65280 (0 ∷ [])
    ∷ short (codes "z" ∷ codes "a" ∷ example) 1 (1 ∷ 1 ∷ 1 ∷ 1 ∷ [])
    ∷ []

abbrev from_0_to_6 : List ℕ
from_0_to_6 = 0 ∷ 1 ∷ 2 ∷ 3 ∷ 4 ∷ 5 ∷ 6 ∷ []

-- each against each: greater than those before it, equal to itself, and less than those after it
pub order_of_records : map (λ a. map (record_order a) in_order) in_order
    ≡ map (λ i. replicate i Greater ++ Equal ∷ replicate (6 - i) Less) from_0_to_6
order_of_records = refl

pub each_is_itself_alone : map (λ a. map (same_record a) in_order) in_order
    ≡ map (λ i. replicate i false ++ true ∷ replicate (6 - i) false) from_0_to_6
each_is_itself_alone = refl

-- ---- what a record shows: the numbers of an SOA, and where a record leads to
pub numbers_of_an_soa : soa_of (short example TYPE_SOA soa_rdata)
    ≡ Some (record { serial = 2018031900; refresh = 1800; retry = 900; expire = 604800; minimum = 300 })
unfolding number_of_four
numbers_of_an_soa = refl

pub no_numbers_of_an_address : soa_of (short example TYPE_A (10 ∷ 0 ∷ 0 ∷ 1 ∷ [])) ≡ None
no_numbers_of_an_address = refl

abbrev target : Kind → Octets → Option Name
target kind rdata = target_of (short (codes "a" ∷ []) kind rdata)

pub ns_cname_ptr_and_dname_lead_to_their_name : map (λ kind. target kind (1 ∷ codes "b" ++ 1 ∷ codes "c" ++ 0 ∷
    [])) (2 ∷ 5 ∷ 12 ∷ 39 ∷ [])
    ≡ replicate 4 (Some (codes "b" ∷ codes "c" ∷ []))
unfolding labels_in
ns_cname_ptr_and_dname_lead_to_their_name = refl

pub txt_leads_nowhere : target 16 (1 ∷ codes "b" ++ 0 ∷ []) ≡ None
txt_leads_nowhere = refl

pub mx_leads_nowhere : target 15 (0 ∷ 1 ∷ 1 ∷ codes "b" ++ 0 ∷ []) ≡ None
mx_leads_nowhere = refl
