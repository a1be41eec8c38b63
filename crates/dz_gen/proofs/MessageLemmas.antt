-- The octets of the messages are octets, and there are some.
use Rattle.std.proofs.Common.{◌≡◌, ℕ, ◌+◌, ◌<◌, ◌≤◌, Bool, true, false, List, [], ◌∷◌, ◌++◌, length, refl, arith}
use Rattle.std.proofs.Common.{length-append}
use Rattle.std.specs.Prelude.{flat_map, codes, if◌then◌else◌}
use Rattle.std.specs.List.{AllByRecursion}
use Rattle.dz_name.specs.Name.{wire_of}
use Rattle.dz_name.specs.Numbers.{two, four}
use Rattle.dz_name.specs.Words.{Name, Octets}
use Rattle.dz_name.specs.declared.dns.TheConstants.{TYPE_A, TYPE_NS, TYPE_AXFR, TYPE_IXFR}
use Rattle.dz_name.proofs.NumberLemmas.{length_two}
use Rattle.dz_header.specs.Header.{header_octets}
use Rattle.dz_header.specs.declared.header.Header.{Header}
use Rattle.dz_header.specs.declared.question.Question.{Question}
use Rattle.dz_record.specs.Record.{Record, record_octets}
use Rattle.dz_zone.specs.Version.{zone_of}
use Rattle.dz_zonemd.specs.Digested.{digested}
use Rattle.dz_message.specs.Message.{Content}
use Rattle.dz_message.specs.Writing.{question_octets, message_octets}
use Rattle.dz_gen.specs.Texts.{named, numbered}
use Rattle.dz_gen.specs.Records.{hourly, times, soa, catalog, version_property, zone, node, group, is_strict, member}
use Rattle.dz_gen.specs.Records.{name_server, address, www, mail, first_records, second_records, digest, first_digest}
use Rattle.dz_gen.specs.Records.{second_digest}
use Rattle.dz_gen.specs.Messages.{question, message, response, query, catalog_begins, catalog_member, catalog_ends}
use Rattle.dz_gen.specs.Messages.{catalog_changes, part_of, whole_of, changes_of}
use Rattle.dz_gen.proofs.ByteLemmas.{AreBytes, bytes-append, bytes-flat_map, bytes_tested, bytes_two, bytes_four}
use Rattle.dz_gen.proofs.ByteLemmas.{bytes_sha384}
use Rattle.dz_gen.proofs.NameLemmas.{IsShort, named_short, numbered_bytes, wire_bytes}

-- the number of a zone
pub record IsZone (k : ℕ) : Type 0 where
  pub some : 0 < k
  pub few : k ≤ 1000

-- ---- records
record IsPlain (r : Record) : Type 0 where
  owner : IsShort r.owner
  rdata : AreBytes r.rdata

record_bytes : (r : Record) → IsPlain r → AreBytes (record_octets r)
record_bytes r is =
    bytes-append (wire_of r.owner) _ (wire_bytes r.owner is.owner)
    (bytes-append (two r.kind) _ (bytes_two r.kind)
    (bytes-append (two 1) _ (bytes_two 1)
    (bytes-append (four r.ttl) _ (bytes_four r.ttl)
    (bytes-append (two (length r.rdata)) r.rdata (bytes_two (length r.rdata)) is.rdata))))

abbrev ArePlain : List Record → Type 0
ArePlain rs = AllByRecursion IsPlain rs

plain-append : (rs more : List Record) → ArePlain rs → ArePlain more → ArePlain (rs ++ more)
plain-append [] more p q = q
plain-append (r ∷ rs) more p q = (p.0, plain-append rs more p.1 q)

literal : (text : Octets) → AreBytes text → AreBytes (wire_of (named text))
literal text p = wire_bytes (named text) (named_short text p)

catalog_name : IsShort catalog
catalog_name = named_short (codes "cat.test.") (bytes_tested (codes "cat.test.") refl)

soa_plain : (apex : Name) (serial : ℕ) → IsShort apex → IsPlain (soa apex serial)
soa_plain apex serial is =
    let server = literal (codes "ns.invalid.") (bytes_tested (codes "ns.invalid.") refl) in
    let contact = literal (codes "host.invalid.") (bytes_tested (codes "host.invalid.") refl) in
    record {
      owner = is;
      rdata = bytes-append
          ((wire_of (named (codes "ns.invalid.")) ++ wire_of (named (codes "host.invalid."))) ++ four serial) times
          (bytes-append (wire_of (named (codes "ns.invalid.")) ++ wire_of (named (codes "host.invalid.")))
          (four serial)
          (bytes-append (wire_of (named (codes "ns.invalid.")))
          (wire_of (named (codes "host.invalid."))) server contact) (bytes_four serial))
          (bytes-append ((four 100 ++ four 60) ++ four 600) (four 30)
          (bytes-append (four 100 ++ four 60) (four 600)
          (bytes-append (four 100) (four 60) (bytes_four 100) (bytes_four 60)) (bytes_four 600))
          (bytes_four 30));
    }

version_plain : IsPlain version_property
version_plain = record {
  owner = named_short (codes "version.cat.test.") (bytes_tested (codes "version.cat.test.") refl);
  rdata = bytes_tested (1 ∷ codes "2") refl;
}

name_server_plain : (owner : Name) (text : Octets) → IsShort owner → AreBytes text
    → IsPlain (hourly owner 2 (wire_of (named text)))
name_server_plain owner text is p = record { owner = is; rdata = literal text p }

-- ---- zones
module _ (k : ℕ) (is : IsZone k) where
  numbered_short : (before behind : Octets) → AreBytes before → AreBytes behind
      → IsShort (named (numbered before k behind))
  numbered_short before behind p q =
      named_short (numbered before k behind) (numbered_bytes before k behind p q is.some is.few)

  zone_short : IsShort (zone k)
  zone_short =
      numbered_short (codes "z") (codes ".test.") (bytes_tested (codes "z") refl) (bytes_tested (codes ".test.") refl)

  pub www_short : IsShort (www k)
  www_short = numbered_short (codes "www.z") (codes ".test.") (bytes_tested (codes "www.z") refl)
      (bytes_tested (codes ".test.") refl)

  node_plain : (letter : Octets) → AreBytes letter → IsPlain (node letter k)
  node_plain letter p = record {
    owner = numbered_short letter (codes ".zones.cat.test.") p (bytes_tested (codes ".zones.cat.test.") refl);
    rdata = wire_bytes (zone k) zone_short;
  }

  group_plain : IsPlain (group k)
  group_plain = record {
    owner = numbered_short (codes "group.m") (codes ".zones.cat.test.") (bytes_tested (codes "group.m") refl)
        (bytes_tested (codes ".zones.cat.test.") refl);
    rdata = bytes_tested (6 ∷ codes "strict") refl;
  }

  address_plain : (owner : Name) (second : ℕ) → IsShort owner → second < 256 → IsPlain (address owner second k)
  address_plain owner second short small = record { owner = short; rdata = (omega arith, (small, bytes_two k)) }

  mail_plain : IsPlain (mail k)
  mail_plain = address_plain (named (numbered (codes "mail.z") k (codes ".test."))) 1
      (numbered_short (codes "mail.z") (codes ".test.") (bytes_tested (codes "mail.z") refl)
      (bytes_tested (codes ".test.") refl)) (omega arith)

  server_plain : IsPlain (name_server k)
  server_plain = name_server_plain (zone k) (codes "ns.invalid.") zone_short (bytes_tested (codes "ns.invalid.") refl)

  first_plain : ArePlain (first_records k)
  first_plain =
      (soa_plain (zone k) 1 zone_short, (server_plain, (address_plain (www k) 0 www_short (omega arith), tt)))

  digest_plain : (serial : ℕ) (records : List Record) → IsPlain (digest (zone k) serial records)
  digest_plain serial records = record {
    owner = zone_short;
    rdata = bytes-append (four serial) _ (bytes_four serial)
        (omega arith, (omega arith, bytes_sha384 (digested (zone k) (zone_of (zone k) records).records)));
  }

  if_plain : (b : Bool) (r : Record) → IsPlain r → ArePlain (if b then r ∷ [] else [])
  if_plain true r p = (p, tt)
  if_plain false r p = tt

  first_digest_plain : ArePlain (first_digest k)
  first_digest_plain = if_plain (is_strict k) (digest (zone k) 1 (first_records k)) (digest_plain 1 (first_records k))

  second_digest_plain : ArePlain (second_digest k)
  second_digest_plain =
      if_plain (is_strict k) (digest (zone k) 2 (second_records k)) (digest_plain 2 (second_records k))

  soa_of_zone : (serial : ℕ) → IsPlain (soa (zone k) serial)
  soa_of_zone serial = soa_plain (zone k) serial zone_short

-- ---- messages

question_bytes : (q : Question) → IsShort q.name → AreBytes (question_octets q)
unfolding question_octets
question_bytes q is = bytes-append (wire_of q.name) _ (wire_bytes q.name is)
    (bytes-append (two q.kind) (two q.class) (bytes_two q.kind) (bytes_two q.class))

header_bytes : (header : Header) → AreBytes (header_octets header)
unfolding header_octets
header_bytes header =
    bytes-append (two header.id) _ (bytes_two header.id)
    (bytes-append (two header.flags) (flat_map two header.counts) (bytes_two header.flags)
    (bytes-flat_map two (λ n. Unit {0}) (λ n any. bytes_two n) header.counts (any_numbers header.counts)))
  where
    any_numbers : (ns : List ℕ) → AllByRecursion (λ n. Unit {0}) ns
    any_numbers [] = tt
    any_numbers (n ∷ ns) = (tt, any_numbers ns)

message_bytes : (m : Content) → AllByRecursion (λ (q : Question). IsShort q.name) m.questions → ArePlain m.answers
    → AreBytes (message_octets m)
unfolding message_octets
message_bytes m asking plain =
    bytes-append (header_octets m.header) _ (header_bytes m.header)
    (bytes-append (flat_map question_octets m.questions) (flat_map record_octets m.answers)
    (bytes-flat_map question_octets (λ q. IsShort q.name) question_bytes m.questions asking)
    (bytes-flat_map record_octets IsPlain record_bytes m.answers plain))

-- octets of which there are some
pub record AreSome (octets : Octets) : Type 0 where
  pub bytes : AreBytes octets
  pub some : 0 < length octets

some-append : (octets more : Octets) → AreSome octets → AreBytes more → AreSome (octets ++ more)
some-append octets more p q =
    record { bytes = bytes-append octets more p.bytes q; some = omega (arith, p.some, length-append octets more) }

response_some : (id : ℕ) (questions : List Question) (answers : List Record)
    → AllByRecursion (λ (q : Question). IsShort q.name) questions → ArePlain answers
    → AreSome (response id questions answers)
response_some id questions answers asking plain =
    let content = message_octets (message id 33792 questions answers) in
    record {
      bytes = bytes-append (two (length content)) content (bytes_two (length content))
          (message_bytes (message id 33792 questions answers) asking plain);
      some = omega (arith, length-append (two (length content)) content, length_two (length content));
    }

-- ---- the catalog
begins_some : AreSome catalog_begins
begins_some = response_some 1 (question catalog TYPE_AXFR ∷ []) (soa catalog 1
    ∷ hourly catalog TYPE_NS (wire_of (named (codes "invalid."))) ∷ version_property ∷ []) (catalog_name, tt) (
      soa_plain catalog 1 catalog_name,
      (
        name_server_plain catalog (codes "invalid.") catalog_name
            (bytes_tested (codes "invalid.") refl),
        (version_plain, tt),
      ),
    )

if_group : (k : ℕ) (b : Bool) → IsZone k → ArePlain (if b then group k ∷ [] else [])
if_group k true is = (group_plain k is, tt)
if_group k false is = tt

member_some : (k : ℕ) → IsZone k → AreSome (catalog_member k)
member_some k is = response_some 1 [] (member k) tt
    (node_plain k is (codes "m") (bytes_tested (codes "m") refl), if_group k (is_strict k) is)

ends_some : AreSome catalog_ends
ends_some = response_some 1 [] (soa catalog 1 ∷ []) tt (soa_plain catalog 1 catalog_name, tt)

pub catalog_some : (ks : List ℕ) → AllByRecursion IsZone ks
    → AreSome ((catalog_begins ++ flat_map catalog_member ks) ++ catalog_ends)
catalog_some ks all =
    some-append (catalog_begins ++ flat_map catalog_member ks) catalog_ends
    (some-append catalog_begins (flat_map catalog_member ks) begins_some
    (bytes-flat_map catalog_member IsZone (λ k is. (member_some k is).bytes) ks all)) ends_some.bytes

one : IsZone 1
one = record { some = omega arith; few = omega arith }

pub changes_some : (id : ℕ) → AreSome (catalog_changes id)
changes_some id =
    let m = bytes_tested (codes "m") refl in
    let r = bytes_tested (codes "r") refl in
    let first = soa_plain catalog 1 catalog_name in
    let second = soa_plain catalog 2 catalog_name in
    response_some id (question catalog TYPE_IXFR ∷ [])
    (soa catalog 2 ∷ soa catalog 1 ∷ node (codes "m") 1 ∷ group 1 ∷ soa catalog 2 ∷ node (codes "r") 1
    ∷ soa catalog 2 ∷ [])
    (catalog_name, tt) (
      second,
      (
        first,
        (
          node_plain 1 one (codes "m") m,
          (group_plain 1 one, (second, (node_plain 1 one (codes "r") r, (second, tt)))),
        ),
      ),
    )

-- ---- a zone
module _ (id k : ℕ) (is : IsZone k) where
  front_plain : ArePlain (first_records k ++ first_digest k)
  front_plain = plain-append (first_records k) (first_digest k) (first_plain k is) (first_digest_plain k is)

  pub part_some : AreSome (part_of id k)
  part_some = response_some id (question (zone k) TYPE_AXFR ∷ []) (first_records k ++ first_digest k)
      (zone_short k is, tt) front_plain

  pub whole_some : AreSome (whole_of id k)
  whole_some = response_some id (question (zone k) TYPE_AXFR ∷ [])
      ((first_records k ++ first_digest k) ++ soa (zone k) 1 ∷ []) (zone_short k is, tt)
      (plain-append (first_records k ++ first_digest k) (soa (zone k) 1 ∷ []) front_plain (soa_of_zone k is 1, tt))

  pub zone_changes_some : AreSome (changes_of id k)
  zone_changes_some =
      let first = soa_of_zone k is 1 in
      let second = soa_of_zone k is 2 in
      let start : List Record = soa (zone k) 2 ∷ soa (zone k) 1 ∷ [] in
      let added : List Record = soa (zone k) 2 ∷ mail k ∷ [] in
      response_some id (question (zone k) TYPE_IXFR ∷ [])
      ((((start ++ first_digest k) ++ added) ++ second_digest k) ++ soa (zone k) 2 ∷ []) (zone_short k is, tt)
      (plain-append (((start ++ first_digest k) ++ added) ++ second_digest k) (soa (zone k) 2 ∷ [])
      (plain-append ((start ++ first_digest k) ++ added) (second_digest k)
      (plain-append (start ++ first_digest k) added
      (plain-append start (first_digest k) (second, (first, tt)) (first_digest_plain k is))
      (second, (mail_plain k is, tt)))
      (second_digest_plain k is))
      (second, tt))

-- ---- queries
-- a request: octets, at least one of them and no more than a message has
pub record IsRequest (octets : Octets) : Type 0 where
  pub bytes : AreBytes octets
  pub some : 0 < length octets
  pub short : length octets ≤ 65535

length_question : (q : Question) → length (question_octets q) ≡ length (wire_of q.name) + 4
unfolding question_octets
length_question q =
    omega (
      arith,
      length-append (wire_of q.name) (two q.kind ++ two q.class),
      length-append (two q.kind) (two q.class),
      length_two q.kind,
      length_two q.class,
    )

pub length_header : (id flags a b c d : ℕ)
    → length (header_octets (record { id = id; flags = flags; counts = a ∷ b ∷ c ∷ d ∷ [] })) ≡ 12
unfolding header_octets two
length_header id flags a b c d = refl

length_query : (id : ℕ) (name : Name) → length (query id name) ≡ length (wire_of name) + 16
unfolding message_octets
length_query id name =
    let header : Octets = header_octets (message id 0 (question name TYPE_A ∷ []) []).header in
    let asked : Octets = question_octets (question name TYPE_A) in
    omega (
      arith,
      length-append header ((asked ++ []) ++ []),
      length-append (asked ++ []) [],
      length-append asked [],
      length_header id 0 1 0 0 0,
      length_question (question name TYPE_A),
    )

pub query_request : (id : ℕ) (name : Name) → IsShort name → IsRequest (query id name)
query_request id name is = record {
  bytes = message_bytes (message id 0 (question name TYPE_A ∷ []) []) (is, tt) tt;
  some = omega (arith, length_query id name);
  short = omega (arith, length_query id name, is.short);
}

pub other_short : IsShort (named (codes "other."))
other_short = named_short (codes "other.") (bytes_tested (codes "other.") refl)
