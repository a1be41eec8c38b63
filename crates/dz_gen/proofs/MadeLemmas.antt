-- What the script's names, records and messages are made of passes each check: they can all be made.
use Rattle.std.proofs.Common.{◌≡◌, ℕ, ◌+◌, ◌<◌, ◌≤◌, ◌^◌, Bool, true, false, List, [], ◌∷◌, ◌++◌, length, refl, sym}
use Rattle.std.proofs.Common.{◌∙◌, ap, subst, arith, length-append, Ok, Err, None, Result}
use Rattle.std.specs.Prelude.{IfOk, codes, flat_map, if◌then◌else◌}
use Rattle.std.specs.List.{AllByRecursion}
use Rattle.std.specs.Str.{bytes_eq}
use Rattle.std.specs.Ordering.{nat_cmp}
use Rattle.std.specs.Cmp.Lexicographic.{slice_cmp}
use Rattle.std.specs.declared.cmp.Ordering.TheVariants.{Equal}
use Rattle.std.proofs.lemmas.Cmp.{tied_itself}
use Rattle.std.proofs.lemmas.Slice.Eq.{bytes_eq-Decides}
use Rattle.sha2.specs.Sha512.{sha384}
use Rattle.dz_name.specs.Name.{IsName, wire_of}
use Rattle.dz_name.specs.Numbers.{two, four}
use Rattle.dz_name.specs.Order.{label_total}
use Rattle.dz_name.specs.Text.{items, with_label, labels_from, name_of_text}
use Rattle.dz_name.specs.Words.{Name, Kind, Octets}
use Rattle.dz_name.specs.declared.dns.TheConstants.{TYPE_A, TYPE_NS, TYPE_AXFR, TYPE_IXFR}
use Rattle.dz_name.proofs.KeptLemmas.{root_is_name}
use Rattle.dz_header.specs.Header.{header_octets}
use Rattle.dz_header.specs.declared.question.Question.{Question}
use Rattle.dz_record.specs.Fields.{is_rdata}
use Rattle.dz_record.specs.Record.{Record, record_of, record_octets}
use Rattle.dz_record.specs.declared.rr.RrFault.{RrFault}
use Rattle.dz_record.specs.Records.{distinct}
use Rattle.dz_zone.specs.Valid.{fault_of}
use Rattle.dz_zone.specs.Version.{zone_of}
use Rattle.dz_zonemd.specs.Digested.{digested}
use Rattle.dz_message.specs.Message.{Content}
use Rattle.dz_message.specs.Writing.{IsAsking, question_octets, message_octets}
use Rattle.dz_message.proofs.PieceLemmas.{record_size, question_size}
use Rattle.dz_gen.specs.Texts.{named, numbered, digits, IsSpelled}
use Rattle.dz_gen.specs.Records.{hourly, soa, catalog, version_property, zone, node, group, is_strict, member, address}
use Rattle.dz_gen.specs.Records.{www, mail, first_records, second_records, digest, first_digest, second_digest}
use Rattle.dz_gen.specs.Messages.{question, message, changes}
use Rattle.dz_gen.proofs.MessageLemmas.{IsZone, length_header}
use Rattle.dz_gen.proofs.SentLemmas.{IsSmall, small_append, asked_sizes, sizes}
use Rattle.dz_gen.proofs.SmallLemmas.{catalog_named, version_named, moved_named, www_named, mail_named, soa_small}
use Rattle.dz_gen.proofs.SmallLemmas.{server_small, invalid_small, pointer_small, text_small, address_small}
use Rattle.dz_gen.proofs.SmallLemmas.{zonemd_small}
use Rattle.dz_gen.proofs.SpelledLemmas.{IsFour, four_digits, zone_is, www_is, mail_is, moved_is}
use Rattle.dz_gen.proofs.CatalogLemmas.{zone_name, node_small, group_small, member_small}
use Rattle.dz_gen.proofs.ZoneLemmas.{distinct_plain_one, fault_plain_one, distinct_plain_two, fault_plain_two}

-- ---- names
pub catalog_text : IsSpelled (codes "cat.test.")
unfolding name_of_text items labels_from with_label wire_of
catalog_text = (_, refl)

pub version_text : IsSpelled (codes "version.cat.test.")
unfolding name_of_text items labels_from with_label wire_of
version_text = (_, refl)

pub server_text : IsSpelled (codes "ns.invalid.")
unfolding name_of_text items labels_from with_label wire_of
server_text = (_, refl)

pub host_text : IsSpelled (codes "host.invalid.")
unfolding name_of_text items labels_from with_label wire_of
host_text = (_, refl)

pub invalid_text : IsSpelled (codes "invalid.")
unfolding name_of_text items labels_from with_label wire_of
invalid_text = (_, refl)

pub other_text : IsSpelled (codes "other.")
unfolding name_of_text items labels_from with_label wire_of
other_text = (_, refl)

pub other_name : IsName (named (codes "other."))
unfolding name_of_text items labels_from with_label wire_of
other_name =
    record { each = (record { some = omega arith; short = omega arith; lower_case = refl }, tt); short = omega arith }

-- ---- RDATA
pub soa_is : (serial : ℕ) → is_rdata 6 (soa [] serial).rdata ≡ true
soa_is serial = (soa_small [] root_is_name serial).held.rdata

pub server_is : is_rdata 2 (wire_of (named (codes "ns.invalid."))) ≡ true
server_is = (server_small [] root_is_name).held.rdata

pub invalid_is : is_rdata 2 (wire_of (named (codes "invalid."))) ≡ true
invalid_is = (invalid_small [] root_is_name).held.rdata

pub version_is : is_rdata 16 (1 ∷ codes "2") ≡ true
version_is = (text_small [] root_is_name 0 (1 ∷ codes "2") (omega arith) (omega arith)).held.rdata

pub version_made : {E : Type 0} (result : Result Record E) (owner : Name) → owner ≡ named (codes "version.cat.test.")
    → IfOk result (λ r. record_of owner 16 0 (1 ∷ codes "2") ≡ Ok r) → IfOk result (λ r. r ≡ version_property)
version_made (Ok r) owner is made =
    let e : ◌≡◌ {A = Result Record RrFault}
    (Ok (record { owner = owner; kind = 16; ttl = 0; rdata = 1 ∷ codes "2" })) (Ok r) =
    rw version_is at made in
    let p : record { owner = owner; kind = 16; ttl = 0; rdata = 1 ∷ codes "2" } ≡ r = cc in
    sym p ∙ ap (λ (o : Name). record { owner = o; kind = 16; ttl = 0; rdata = 1 ∷ codes "2" }) is
version_made (Err error) owner is made = tt

pub group_text_is : is_rdata 16 (6 ∷ codes "strict") ≡ true
group_text_is = (text_small [] root_is_name 0 (6 ∷ codes "strict") (omega arith) (omega arith)).held.rdata

pub address_is : (second k : ℕ) → is_rdata 1 (10 ∷ second ∷ two k) ≡ true
address_is second k = (address_small [] root_is_name second k).held.rdata

pub digest_is : (serial : ℕ) (octets : Octets) → is_rdata 63 (four serial ++ (1 ∷ 1 ∷ sha384 octets)) ≡ true
digest_is serial octets = (zonemd_small [] root_is_name serial octets).held.rdata

-- ---- the versions of zones
abbrev one_of : ℕ → Name → Name → List Record
one_of k apex w = soa apex 1 ∷ hourly apex TYPE_NS (wire_of (named (codes "ns.invalid."))) ∷ address w 0 k ∷ []

abbrev two_of : ℕ → Name → Name → Name → List Record
two_of k apex w e = soa apex 2 ∷ hourly apex TYPE_NS (wire_of (named
    (codes "ns.invalid."))) ∷ address w 0 k ∷ address e 1 k ∷ []

if_small : (b : Bool) (r : Record) → IsSmall r → AllByRecursion IsSmall (if b then r ∷ [] else [])
if_small true r p = (p, tt)
if_small false r p = tt

few_if : (b : Bool) (r : Record) → length (if b then r ∷ [] else []) ≤ 1
few_if true r = omega arith
few_if false r = omega arith

module _ (k : ℕ) (some : 1 ≤ k) (few : k ≤ 1000) where
  is : IsZone k
  is = record { some = some; few = few }

  f : IsFour (digits k)
  f = four_digits k some few

  abbrev m : Octets
  m = f.a ∷ f.b ∷ f.c ∷ f.d ∷ []

  abbrev apex : Name
  apex = (122 ∷ m) ∷ codes "test" ∷ []

  abbrev w : Name
  w = codes "www" ∷ apex

  abbrev e : Name
  e = codes "mail" ∷ apex

  same : bytes_eq m m ≡ true
  same = (bytes_eq-Decides m m).1 refl

  tie : slice_cmp nat_cmp m m ≡ Equal
  tie = tied_itself label_total m

  pub pointer_is : is_rdata 12 (wire_of (zone k)) ≡ true
  pointer_is = (pointer_small [] root_is_name (zone k) (zone_name k is)).held.rdata

  pub first_valid : fault_of (zone k) (distinct (first_records k)) ≡ None
  first_valid =
      subst (λ x. fault_of x (distinct (one_of k x (www k))) ≡ None) (sym (zone_is k f))
      (subst (λ x. fault_of apex (distinct (one_of k apex x)) ≡ None) (sym (www_is k f))
      (ap (fault_of apex) (distinct_plain_one m same tie (10 ∷ 0 ∷ two k) (10 ∷ 1 ∷ two k) (wire_of (named
      (codes "ns.invalid."))) [] [] 0)
      ∙ fault_plain_one m same tie (10 ∷ 0 ∷ two k) (10 ∷ 1 ∷ two k) (wire_of (named (codes "ns.invalid."))) [] [] 0))

  pub second_valid : fault_of (zone k) (distinct (second_records k)) ≡ None
  second_valid =
      let last = named (numbered (codes "mail.z") k (codes ".test.")) in
      subst (λ x. fault_of x (distinct (two_of k x (www k) last)) ≡ None) (sym (zone_is k f))
      (subst (λ x. fault_of apex (distinct (two_of k apex x last)) ≡ None) (sym (www_is k f))
      (subst (λ x. fault_of apex (distinct (two_of k apex w x)) ≡ None) (sym (mail_is k f))
      (ap (fault_of apex) (distinct_plain_two m same tie (10 ∷ 0 ∷ two k) (10 ∷ 1 ∷ two k) (wire_of (named
      (codes "ns.invalid."))) [] [] 0)
      ∙ fault_plain_two m same tie (10 ∷ 0 ∷ two k) (10 ∷ 1 ∷ two k) (wire_of (named (codes "ns.invalid."))) [] [] 0)))

  pub www_name : IsName (www k)
  www_name = subst IsName (sym (www_is k f)) (www_named f.a f.b f.c f.d f.digits)

  mail_name : IsName (named (numbered (codes "mail.z") k (codes ".test.")))
  mail_name = subst IsName (sym (mail_is k f)) (mail_named f.a f.b f.c f.d f.digits)

  soa_of : (serial : ℕ) → IsSmall (soa (zone k) serial)
  soa_of serial = soa_small (zone k) (zone_name k is) serial

  mail_small : IsSmall (mail k)
  mail_small = address_small _ mail_name 1 k

  first_digest_small : AllByRecursion IsSmall (first_digest k)
  first_digest_small = if_small (is_strict k) (digest (zone k) 1 (first_records k))
      (zonemd_small (zone k) (zone_name k is) 1 (digested (zone k) (zone_of (zone k) (first_records k)).records))

  second_digest_small : AllByRecursion IsSmall (second_digest k)
  second_digest_small = if_small (is_strict k) (digest (zone k) 2 (second_records k))
      (zonemd_small (zone k) (zone_name k is) 2 (digested (zone k) (zone_of (zone k) (second_records k)).records))

  few_first : length (first_digest k) ≤ 1
  few_first = few_if (is_strict k) (digest (zone k) 1 (first_records k))

  few_second : length (second_digest k) ≤ 1
  few_second = few_if (is_strict k) (digest (zone k) 2 (second_records k))

  first_small : AllByRecursion IsSmall (first_records k ++ first_digest k)
  first_small = small_append (first_records k) (first_digest k)
      (soa_of 1, (server_small (zone k) (zone_name k is), (address_small (www k) www_name 0 k, tt)))
      first_digest_small

-- ---- messages
many_questions : (qs : List Question) → length qs ≤ length (flat_map question_octets qs)
many_questions [] = omega arith
many_questions (q ∷ qs) = omega (
  arith,
  length-append (question_octets q) (flat_map question_octets qs),
  question_size q,
  many_questions qs,
)

many_records : (rs : List Record) → length rs ≤ length (flat_map record_octets rs)
many_records [] = omega arith
many_records (r ∷ rs) = omega (
  arith,
  length-append (record_octets r) (flat_map record_octets rs),
  record_size r,
  many_records rs,
)

-- a message that fits has no more questions and answers than its header can count
pub counted : (m : Content) → length (message_octets m) ≤ 65535
    → (length m.questions ≤ 65535) × (length m.answers ≤ 65535)
unfolding message_octets
counted m short =
    let qs : Octets = flat_map question_octets m.questions in
    let rs : Octets = flat_map record_octets m.answers in
    let all : length (header_octets m.header) + (length qs + length rs) ≤ 65535 = omega (
      arith,
      short,
      length-append (header_octets m.header) (qs ++ rs),
      length-append qs rs,
    ) in
    (omega (arith, all, many_questions m.questions), omega (arith, all, many_records m.answers))

pub fits : (id flags : ℕ) (qs : List Question) → AllByRecursion IsAsking qs → length qs ≤ 1
    → (rs : List Record) → AllByRecursion IsSmall rs → length rs ≤ 20
    → length (message_octets (message id flags qs rs)) ≤ 65535
unfolding message_octets
fits id flags qs asking single rs held few = omega (
  arith,
  length-append (header_octets (message id flags qs rs).header)
      (flat_map question_octets qs ++ flat_map record_octets rs),
  length_header id flags (length qs) (length rs) 0 0,
  length-append (flat_map question_octets qs) (flat_map record_octets rs),
  asked_sizes qs asking,
  sizes rs held,
)

asks : (name : Name) (kind : Kind) → IsName name → kind < 2 ^ 16 → AllByRecursion IsAsking (question name kind ∷ [])
asks name kind is number = (record { name = is; kind = number; class = omega arith }, tt)

pub query_fits : (id : ℕ) (name : Name) → IsName name
    → length (message_octets (message id 0 (question name TYPE_A ∷ []) [])) ≤ 65535
query_fits id name is = fits id 0 (question name TYPE_A ∷ []) (asks name TYPE_A is (omega arith)) (omega arith) [] tt
    (omega arith)

soa_cat : (serial : ℕ) → IsSmall (soa catalog serial)
soa_cat serial = soa_small catalog catalog_named serial

pub begins_fits : length (message_octets (message 1 33792 (question catalog TYPE_AXFR ∷ [])
    (soa catalog 1 ∷ hourly catalog TYPE_NS (wire_of (named (codes "invalid."))) ∷ version_property ∷ []))) ≤ 65535
begins_fits =
    fits 1 33792 (question catalog TYPE_AXFR ∷ []) (asks catalog TYPE_AXFR catalog_named (omega arith)) (omega arith)
    (soa catalog 1 ∷ hourly catalog TYPE_NS (wire_of (named (codes "invalid."))) ∷ version_property ∷ []) (
      soa_cat 1,
      (
        invalid_small catalog catalog_named,
        (
          text_small _ version_named 0 (1 ∷ codes "2") (omega arith)
              (omega arith),
          tt,
        ),
      ),
    ) (omega arith)

pub ends_fits : length (message_octets (message 1 33792 [] (soa catalog 1 ∷ []))) ≤ 65535
ends_fits = fits 1 33792 [] tt (omega arith) (soa catalog 1 ∷ []) (soa_cat 1, tt) (omega arith)

pub member_fits : (k : ℕ) → 1 ≤ k → k ≤ 1000 → length (message_octets (message 1 33792 [] (member k))) ≤ 65535
member_fits k some few = fits 1 33792 [] tt (omega arith) (member k) (member_small k (is k some few))
    (omega (arith, few_if (is_strict k) (group k)))

moved_small : IsSmall (node (codes "r") 1)
moved_small =
    let g : IsFour (digits 1) = four_digits 1 (omega arith) (omega arith) in
    pointer_small _ (subst IsName (sym (moved_is 1 g)) (moved_named g.a g.b g.c g.d g.digits))
    (zone 1) (zone_name 1 (is 1 (omega arith) (omega arith)))

pub reset_fits : (id : ℕ) → length (message_octets (message id 33792 (question catalog TYPE_IXFR ∷ [])
    (soa catalog 2 ∷ soa catalog 1 ∷ node (codes "m") 1 ∷ group 1 ∷ soa catalog 2 ∷ node (codes "r") 1
    ∷ soa catalog 2 ∷ [])))
    ≤ 65535
reset_fits id =
    let one : IsZone 1 = is 1 (omega arith) (omega arith) in
    fits id 33792 (question catalog TYPE_IXFR ∷ []) (asks catalog TYPE_IXFR catalog_named (omega arith)) (omega arith)
    (soa catalog 2 ∷ soa catalog 1 ∷ node (codes "m") 1 ∷ group 1 ∷ soa catalog 2 ∷ node (codes "r") 1
    ∷ soa catalog 2 ∷ [])
    (soa_cat 2, (soa_cat 1, (node_small 1 one, (group_small 1 one, (soa_cat 2, (moved_small, (soa_cat 2, tt)))))))
    (omega arith)

module _ (id k : ℕ) (some : 1 ≤ k) (few : k ≤ 1000) where
  abbrev first : List Record
  first = first_records k ++ first_digest k

  pub part_fits : length (message_octets (message id 33792 (question (zone k) TYPE_AXFR ∷ []) first)) ≤ 65535
  part_fits = fits id 33792 (question (zone k) TYPE_AXFR ∷ [])
      (asks (zone k) TYPE_AXFR (zone_name k (is k some few)) (omega arith)) (omega arith) first
      (first_small k some few)
      (omega (arith, length-append (first_records k) (first_digest k), few_first k some few))

  pub whole_fits : length (message_octets (message id 33792 (question (zone k) TYPE_AXFR ∷ [])
      (first ++ soa (zone k) 1 ∷ []))) ≤ 65535
  whole_fits = fits id 33792 (question (zone k) TYPE_AXFR ∷ [])
      (asks (zone k) TYPE_AXFR (zone_name k (is k some few)) (omega arith)) (omega arith)
      (first ++ soa (zone k) 1 ∷ [])
      (small_append first (soa (zone k) 1 ∷ []) (first_small k some few) (soa_of k some few 1, tt))
      (omega (
        arith,
        length-append (first_records k) (first_digest k),
        length-append first (soa (zone k) 1 ∷ []),
        few_first k some few,
      ))

  abbrev opening : List Record
  opening = soa (zone k) 2 ∷ soa (zone k) 1 ∷ []

  abbrev amid : List Record
  amid = soa (zone k) 2 ∷ mail k ∷ []

  abbrev left : List Record
  left = (opening ++ first_digest k) ++ amid

  abbrev all : List Record
  all = (left ++ second_digest k) ++ soa (zone k) 2 ∷ []

  pub changes_fits : length (message_octets (message id 33792 (question (zone k) TYPE_IXFR ∷ []) (changes k))) ≤ 65535
  changes_fits =
      let soa_two = soa_of k some few 2 in
      fits id 33792 (question (zone k) TYPE_IXFR ∷ [])
      (asks (zone k) TYPE_IXFR (zone_name k (is k some few)) (omega arith)) (omega arith) all
      (small_append (left ++ second_digest k) (soa (zone k) 2 ∷ [])
      (small_append left (second_digest k)
      (small_append (opening ++ first_digest k) amid
      (small_append opening (first_digest k) (soa_two, (soa_of k some few 1, tt)) (first_digest_small k some few))
      (soa_two, (mail_small k some few, tt)))
      (second_digest_small k some few))
      (soa_two, tt))
      (omega (
        arith,
        length-append opening (first_digest k),
        length-append (opening ++ first_digest k) amid,
        length-append left (second_digest k),
        length-append (left ++ second_digest k) (soa (zone k) 2 ∷ []),
        few_first k some few,
        few_second k some few,
      ))
