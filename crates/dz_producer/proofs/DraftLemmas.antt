-- Nodes that come one after another, judged without the catalog being made.
use Rattle.std.proofs.Common.{◌≡◌, ℕ, ◌+◌, ◌<◌, ◌≤◌, Bool, true, false, List, [], ◌∷◌, ◌++◌, length, refl, sym, ◌∙◌}
use Rattle.std.proofs.Common.{ap, arith, length-append, Some, None, Option, inl, inr}
use Rattle.std.specs.Prelude.{nat_lt, nat_le, not, is_some, ◌||◌, min, cond, sum_by, filter, flat_map, ◌-◌, ◌^◌}
use Rattle.std.specs.Prelude.{if◌then◌else◌}
use Rattle.std.specs.List.{All, AllByRecursion, list_any, list_all}
use Rattle.std.specs.Option.{ForSome, option_to_list}
use Rattle.std.specs.BTreeSet.{contains}
use Rattle.std.specs.Ordering.{is_eq}
use Rattle.std.proofs.lemmas.Bool.{cases_Bool, or_parts}
use Rattle.std.proofs.lemmas.Bool.Decides.{nat_tests}
use Rattle.std.proofs.lemmas.List.{append-nil}
use Rattle.std.proofs.lemmas.List.Concat.{flat_map-append}
use Rattle.std.proofs.lemmas.List.Folds.{list_any-append}
use Rattle.std.proofs.lemmas.List.Sums.{sum_by-cons, sum_by-append, sum_by_push}
use Rattle.sha2.specs.Sha512.{sha384}
use Rattle.sha2.proofs.Facts512.{length-sha384}
use Rattle.dz_name.specs.Name.{wire_of, IsName, same_label, same_name, label_order, canonical_order}
use Rattle.dz_name.specs.Order.{same_label_ties, same_ties}
use Rattle.dz_name.specs.Numbers.{four}
use Rattle.dz_name.proofs.NumberLemmas.{length_four}
use Rattle.dz_member.specs.Listing.{same_zone}
use Rattle.dz_settings.specs.Twice.{has_twice}
use Rattle.dz_member.specs.declared.listing.Node.{Node}
use Rattle.dz_record.specs.Record.{Record, record_octets}
use Rattle.dz_message.proofs.PieceLemmas.{record_size}
use Rattle.dz_zone.specs.Version.{Zone, zone_of, apex_soa}
use Rattle.dz_zone.specs.Valid.{at_apex}
use Rattle.dz_zonemd.specs.Digested.{digested}
use Rattle.dz_catalog.specs.Broken.{version_name}
use Rattle.dz_catalog.specs.Member.{zones_of, coo_name, group_name}
use Rattle.dz_outward.specs.Stream.{is_fit, is_other, sent_records, soa_of, question_of}
use Rattle.dz_producer.specs.Draft.{saturated, octets_of, node_size, spent, IsHeld, IsDraft}
use Rattle.dz_producer.specs.Faults.{same_node, is_string, has_bad_group, is_long, too_many, produce_fault}
use Rattle.dz_producer.specs.Records.{uncached, invalid, times, soa_rdata, soa, name_server, version_property}
use Rattle.dz_producer.specs.Records.{owner_of, member, coo_records, group_records, node_records, plain_records}
use Rattle.dz_producer.specs.Records.{digest, all_records}
use Rattle.dz_producer.specs.declared.draft.Draft.{Draft}
use Rattle.dz_producer.specs.declared.fault.ProduceFault.TheVariants.{LabelTwice, BadGroup, NameTooLong, TooMany}
use Rattle.dz_producer.specs.declared.fault.ProduceFault.TheVariants.{ZoneTwice}
use Rattle.dz_producer.specs.inner.Nodes.{record_count}
use Rattle.dz_producer.specs.inner.Sizes.{coo_octets, pointer_octets, text_octets}
use Rattle.dz_producer.proofs.MakingLemmas.{above_room, node_room, coo_room, group_room, string_short, good_groups}
use Rattle.dz_producer.proofs.OctetLemmas.{Small, within_limit, octets_filter, octets_canonical, all_filter}
use Rattle.dz_producer.proofs.OctetLemmas.{all_canonical, all_found, all_fit}
use Rattle.dz_producer.proofs.RecordLemmas.{all_append}
use Rattle.dz_producer.proofs.SizeLemmas.{size_child, node_length}
use Rattle.dz_producer.proofs.TwiceLemmas.{twice_push}

abbrev pub long : Record → Bool
long r = is_long r.owner

abbrev pub size : Record → ℕ
size r = length (record_octets r)

-- ---- how many octets a node's records have
pub owner_size : (apex : List (List ℕ)) (node : Node)
    → length (wire_of (owner_of apex node)) ≡ length (wire_of apex) + 6 + 1 + length node.label
owner_size apex node =
    omega (arith, size_child node.label (zones_of apex), size_child (122 ∷ 111 ∷ 110 ∷ 101 ∷ 115 ∷ []) apex)

coo_sum : (owner : List (List ℕ)) (coo : Option (List (List ℕ)))
    → octets_of (coo_records owner coo) ≡ coo_octets (length (wire_of owner)) coo
coo_sum owner None = refl
coo_sum owner (Some catalog) =
    let r : Record = uncached (coo_name owner) 12 (wire_of catalog) in
    let one : octets_of (r ∷ []) ≡ size r + 0 = sum_by-cons size r [] in
    let n : size r ≡ length (wire_of (coo_name owner)) + 10 + length (wire_of catalog) = record_size r in
    omega (arith, size_child (99 ∷ 111 ∷ 111 ∷ []) owner)

text_sum : (owner : List (List ℕ)) (groups : List (List ℕ))
    → octets_of (group_records owner groups) ≡ text_octets (length (wire_of owner)) groups
text_sum owner [] = refl
text_sum owner (g ∷ gs) =
    let r : Record = uncached (group_name owner) 16 g in
    let w : ℕ = length (wire_of owner) in
    let one : octets_of (r ∷ group_records owner gs) ≡ size r + octets_of (group_records owner gs) =
    sum_by-cons size r (group_records owner gs) in
    let more : text_octets w (g ∷ gs) ≡ (w + 6 + 10 + length g) + text_octets w gs =
    sum_by-cons (λ text. w + 6 + 10 + length text) g gs in
    let n : size r ≡ length (wire_of (group_name owner)) + 10 + length g = record_size r in
    let ih = text_sum owner gs in
    omega (arith, size_child (103 ∷ 114 ∷ 111 ∷ 117 ∷ 112 ∷ []) owner)

pub node_size_is : (apex : List (List ℕ)) (node : Node) (owner : ℕ)
    → owner ≡ length (wire_of apex) + 6 + 1 + length node.label
    → node_size apex node ≡ pointer_octets owner node.zone node.coo + text_octets owner node.groups
unfolding node_records
node_size_is apex node owner is =
    let name : List (List ℕ) = owner_of apex node in
    let w : length (wire_of name) ≡ owner = owner_size apex node ∙ sym is in
    let r : Record = member apex node in
    let rest : List Record = coo_records name node.coo ++ group_records name node.groups in
    let one : octets_of (r ∷ rest) ≡ size r + octets_of rest = sum_by-cons size r rest in
    let two : octets_of rest ≡ octets_of (coo_records name node.coo) + octets_of (group_records name node.groups) =
    sum_by-append size (coo_records name node.coo) (group_records name node.groups) in
    let n : size r ≡ length (wire_of name) + 10 + length (wire_of node.zone) = record_size r in
    let c : octets_of (coo_records name node.coo) ≡ coo_octets owner node.coo =
    coo_sum name node.coo ∙ ap (λ k. coo_octets k node.coo) w in
    let t : octets_of (group_records name node.groups) ≡ text_octets owner node.groups =
    text_sum name node.groups ∙ ap (λ k. text_octets k node.groups) w in
    omega arith

-- ---- each of its records is small
fits : (name : List (List ℕ)) → is_long name ≡ false → length (wire_of name) ≤ 255
fits name h = grind (arith, nat_tests)

small : (r : Record) → is_long r.owner ≡ false → length r.rdata ≤ 256 → Small r
small r short few = omega (arith, record_size r, fits r.owner short)

small_texts : (owner : List (List ℕ)) (groups : List (List ℕ)) → is_long (group_name owner) ≡ false
    → list_all is_string groups ≡ true → AllByRecursion (All (λ octet. octet < 2 ^ 8)) groups
    → AllByRecursion Small (group_records owner groups)
small_texts owner [] short good held = tt
small_texts owner (g ∷ gs) short good held =
    let parts = Rattle.std.proofs.lemmas.Bool.and_parts (is_string g) (list_all is_string gs) good in (
      small (uncached (group_name owner) 16 g) short (string_short g parts.0 held.0),
      small_texts owner gs short parts.1 held.1,
    )

small_groups : (owner : List (List ℕ)) (groups : List (List ℕ)) → list_any long (group_records owner groups) ≡ false
    → list_all is_string groups ≡ true → AllByRecursion (All (λ octet. octet < 2 ^ 8)) groups
    → AllByRecursion Small (group_records owner groups)
small_groups owner [] short good held = tt
small_groups owner (g ∷ gs) short good held =
    small_texts owner (g ∷ gs) (group_room owner (g ∷ gs) (omega arith) short) good held

small_coo : (owner : List (List ℕ)) (coo : Option (List (List ℕ))) → list_any long (coo_records owner coo) ≡ false
    → ForSome coo IsName → AllByRecursion Small (coo_records owner coo)
small_coo owner None short held = tt
small_coo owner (Some catalog) short held =
    let n : length (wire_of catalog) ≤ 256 =
    let name : IsName catalog = held catalog refl in omega (arith, name.short) in
    (small (uncached (coo_name owner) 12 (wire_of catalog)) (coo_room owner catalog short) n, tt)

small_node : (apex : List (List ℕ)) (node : Node) → IsHeld node → has_bad_group node ≡ false
    → list_any long (node_records apex node) ≡ false → AllByRecursion Small (node_records apex node)
unfolding node_records
small_node apex node held good short =
    let room = node_room apex node short in
    let owner : List (List ℕ) = owner_of apex node in
    let n : length (wire_of node.zone) ≤ 256 = omega (arith, held.zone.short) in (
      small (member apex node) room.0 n,
      all_append Small (coo_records owner node.coo)
          (group_records owner node.groups) (small_coo owner node.coo room.1.0 held.coo)
          (small_groups owner node.groups room.1.1 (good_groups node good) held.groups),
    )

pub small_nodes : (apex : List (List ℕ)) (nodes : List Node) → AllByRecursion IsHeld nodes
    → list_any has_bad_group nodes ≡ false → list_any long (flat_map (node_records apex) nodes) ≡ false
    → AllByRecursion Small (flat_map (node_records apex) nodes)
small_nodes apex [] held good short = tt
small_nodes apex (n ∷ ns) held good short =
    let groups = or_parts (has_bad_group n) (list_any has_bad_group ns) good in
    let names = or_parts (list_any long (node_records apex n)) (list_any long (flat_map (node_records apex) ns))
    (sym (list_any-append long (node_records apex n) (flat_map (node_records apex) ns)) ∙ short) in
    all_append Small (node_records apex n) (flat_map (node_records apex) ns)
    (small_node apex n held.0 groups.0 names.0) (small_nodes apex ns held.1 groups.1 names.1)

-- ---- sums over nodes
pub octets_nodes : (apex : List (List ℕ)) (nodes : List Node)
    → octets_of (flat_map (node_records apex) nodes) ≡ spent apex nodes
octets_nodes apex [] = refl
octets_nodes apex (n ∷ ns) =
    sum_by-append size (node_records apex n) (flat_map (node_records apex) ns)
    ∙ (ap (λ k. node_size apex n + k) (octets_nodes apex ns) ∙ sym (sum_by-cons (node_size apex) n ns))

count_nodes : (apex : List (List ℕ)) (nodes : List Node)
    → length (flat_map (node_records apex) nodes) ≡ sum_by record_count nodes
count_nodes apex [] = refl
count_nodes apex (n ∷ ns) =
    let a = length-append (node_records apex n) (flat_map (node_records apex) ns) in
    let ih = count_nodes apex ns in
    let s : sum_by record_count (n ∷ ns) ≡ record_count n + sum_by record_count ns = sum_by-cons record_count n ns in
    let one = node_length apex n in
    omega arith

count_all : (apex : List (List ℕ)) (serial : ℕ) (nodes : List Node)
    → length (all_records apex serial nodes) ≡ 4 + sum_by record_count nodes
count_all apex serial nodes =
    let n = count_nodes apex nodes in
    omega (
      arith,
      length-append (plain_records apex serial nodes) (digest apex serial (plain_records apex serial nodes) ∷ []),
    )

-- ---- the records of the apex
soa_length : (serial : ℕ) → length (soa_rdata serial) ≡ 38
unfolding wire_of
soa_length serial =
    let n : length (four serial ++ times) ≡ 20 =
    omega (
      arith,
      length-append (four serial) times,
      length_four serial,
      length-append (four 3600) (four 600
          ++ (four 2147483646 ++ four 0)),
      length_four 3600,
      length-append (four 600) (four 2147483646 ++ four 0),
      length_four 600,
      length-append (four 2147483646) (four 0),
      length_four 2147483646,
      length_four 0,
    ) in
    omega (
      arith,
      length-append (wire_of invalid) (wire_of invalid ++ (four serial ++ times)),
      length-append (wire_of invalid) (four serial ++ times),
    )

digest_length : (apex : List (List ℕ)) (serial : ℕ) (records : List Record)
    → length (digest apex serial records).rdata ≡ 54
digest_length apex serial records = omega (
  arith,
  length-append (four serial) (1 ∷ 1 ∷ sha384 (digested apex records)),
  length_four serial,
  length-sha384 (digested apex records),
)

server_length : length (wire_of invalid) ≡ 9
unfolding wire_of
server_length = refl

pub small_soa : (apex : List (List ℕ)) (serial : ℕ) → is_long apex ≡ false → Small (soa apex serial)
small_soa apex serial short = small (soa apex serial) short (omega (arith, soa_length serial))

pub small_digest : (apex : List (List ℕ)) (serial : ℕ) (records : List Record) → is_long apex ≡ false
    → Small (digest apex serial records)
small_digest apex serial records short =
    small (digest apex serial records) short (omega (arith, digest_length apex serial records))

-- ---- nodes whose only fault can be that of their octets
pub record IsUsable (apex : List (List ℕ)) (nodes : List Node) : Type 0 where
  pub labels : has_twice same_node nodes ≡ false
  pub groups : list_any has_bad_group nodes ≡ false
  pub version : is_long (version_name apex) ≡ false
  pub names : list_any long (flat_map (node_records apex) nodes) ≡ false
  pub few : nat_lt 65536 (length nodes) ≡ false
  pub few_records : nat_lt 250000 (4 + sum_by record_count nodes) ≡ false
  pub zones : has_twice same_zone nodes ≡ false

pub apex_short : (apex : List (List ℕ)) → is_long (version_name apex) ≡ false → is_long apex ≡ false
apex_short apex h = above_room (118 ∷ 101 ∷ 114 ∷ 115 ∷ 105 ∷ 111 ∷ 110 ∷ []) apex h

chain_none : (a b c d e : Bool) → (if a then Some LabelTwice else if b then Some BadGroup else if c
    then Some NameTooLong else if d then Some TooMany else if e then Some ZoneTwice else None) ≡ None
    → (a ≡ false) × ((b ≡ false) × ((c ≡ false) × ((d ≡ false) × (e ≡ false))))
chain_none true b c d e h = absurd (cc)
chain_none false true c d e h = absurd (cc)
chain_none false false true d e h = absurd (cc)
chain_none false false false true e h = absurd (cc)
chain_none false false false false true h = absurd (cc)
chain_none false false false false false h = (refl, (refl, (refl, (refl, refl))))

chain_some : (a b c d e : Bool) → is_some (if a then Some LabelTwice else if b then Some BadGroup else if c then Some
    NameTooLong else if d then Some TooMany else if e then Some ZoneTwice else None) ≡ (a || (b || (c || (d || e))))
chain_some true b c d e = refl
chain_some false true c d e = refl
chain_some false false true d e = refl
chain_some false false false true e = refl
chain_some false false false false true = refl
chain_some false false false false false = refl

pub is_usable : (apex : List (List ℕ)) (serial : ℕ) (nodes : List Node) → produce_fault apex serial nodes ≡ None
    → IsUsable apex nodes
unfolding produce_fault
is_usable apex serial nodes h =
    let none = chain_none (has_twice same_node nodes) (list_any has_bad_group nodes)
    (list_any long (plain_records apex serial nodes)) (too_many apex serial nodes) (has_twice same_zone nodes) h in
    let flat : Bool = list_any long (flat_map (node_records apex) nodes) in
    let first = or_parts (is_long apex) (is_long apex || (is_long (version_name apex) || flat)) none.1.1.0 in
    let second = or_parts (is_long apex) (is_long (version_name apex) || flat) first.1 in
    let third = or_parts (is_long (version_name apex)) flat second.1 in
    let many = or_parts (nat_lt 65536 (length nodes)) (nat_lt 250000 (length (all_records apex serial nodes))
    || not (is_fit (zone_of apex (all_records apex serial nodes)))) none.1.1.1.0 in
    let records = or_parts (nat_lt 250000 (length (all_records apex serial nodes)))
    (not (is_fit (zone_of apex (all_records apex serial nodes)))) many.1 in
    record {
      labels = none.0;
      groups = none.1.0;
      version = third.0;
      names = third.1;
      few = many.0;
      few_records = ap (nat_lt 250000) (sym (count_all apex serial nodes)) ∙ records.0;
      zones = none.1.1.1.1;
    }

-- ---- their octets are few enough
small_all : (apex : List (List ℕ)) (serial : ℕ) (nodes : List Node) → AllByRecursion IsHeld nodes → IsUsable apex nodes
    → AllByRecursion Small (all_records apex serial nodes)
small_all apex serial nodes held usable =
    let short : is_long apex ≡ false = apex_short apex usable.version in
    let server : Small (name_server apex) = small (name_server apex) short (omega (arith, server_length)) in
    let version : Small (version_property apex) = small (version_property apex) usable.version (omega arith) in
    all_append Small (plain_records apex serial nodes) (digest apex serial (plain_records apex serial nodes) ∷ [])
    (small_soa apex serial short, (server, (version, small_nodes apex nodes held usable.groups usable.names)))
    (small_digest apex serial (plain_records apex serial nodes) short, tt)

octets_all : (apex : List (List ℕ)) (serial : ℕ) (nodes : List Node)
    → AllByRecursion Small (all_records apex serial nodes)
    → octets_of (all_records apex serial nodes) ≤ spent apex nodes + 2400
octets_all apex serial nodes all =
    let flat : List Record = flat_map (node_records apex) nodes in
    let d : Record = digest apex serial (plain_records apex serial nodes) in
    let last = last_small (plain_records apex serial nodes) d all in
    let a : octets_of (all_records apex serial nodes) ≡ octets_of (plain_records apex serial nodes) + octets_of
    (d ∷ []) = sum_by-append size (plain_records apex serial nodes) (d ∷ []) in
    let b : octets_of (d ∷ []) ≡ size d + 0 = sum_by-cons size d [] in
    let c : octets_of (plain_records apex serial nodes)
    ≡ size (soa apex serial) + octets_of (name_server apex ∷ version_property apex ∷ flat) =
    sum_by-cons size (soa apex serial) (name_server apex ∷ version_property apex ∷ flat) in
    let e : octets_of (name_server apex ∷ version_property apex ∷ flat)
    ≡ size (name_server apex) + octets_of (version_property apex ∷ flat) =
    sum_by-cons size (name_server apex) (version_property apex ∷ flat) in
    let f : octets_of (version_property apex ∷ flat) ≡ size (version_property apex) + octets_of flat =
    sum_by-cons size (version_property apex) flat in
    let g : octets_of flat ≡ spent apex nodes = octets_nodes apex nodes in
    let h0 : size (soa apex serial) ≤ 600 = all.0 in
    let h1 : size (name_server apex) ≤ 600 = all.1.0 in
    let h2 : size (version_property apex) ≤ 600 = all.1.1.0 in
    omega arith
  where
    last_small : (rs : List Record) (d : Record) → AllByRecursion Small (rs ++ d ∷ []) → size d ≤ 600
    last_small [] d all = all.0
    last_small (r ∷ rs) d all = last_small rs d all.1

found_octets : (found : Option Record) → ((r : Record) → found ≡ Some r → Small r)
    → (octets_of (option_to_list found) ≤ 600) × AllByRecursion Small (option_to_list found)
found_octets None h = (omega arith, tt)
found_octets (Some r) h =
    let one : Small r = h r refl in
    let sum : octets_of (r ∷ []) ≡ size r + 0 = sum_by-cons size r [] in
    (omega arith, (one, tt))

pub fit : (apex : List (List ℕ)) (serial : ℕ) (nodes : List Node) → AllByRecursion IsHeld nodes → IsUsable apex nodes
    → spent apex nodes ≤ 66990000 → is_fit (zone_of apex (all_records apex serial nodes)) ≡ true
fit apex serial nodes held usable few =
    let zone : Zone = zone_of apex (all_records apex serial nodes) in
    let all = small_all apex serial nodes held usable in
    let kept : AllByRecursion Small zone.records = all_canonical Small (all_records apex serial nodes) all in
    let n0 = octets_all apex serial nodes all in
    let n1 = octets_canonical (all_records apex serial nodes) in
    let n2 = octets_filter is_other zone.records in
    let s = found_octets (apex_soa zone) (λ r e. all_found Small (at_apex 6 apex) zone.records r kept e) in
    let tail : List Record = filter is_other zone.records ++ soa_of zone in
    let a : octets_of (sent_records zone) ≡ octets_of (soa_of zone) + octets_of tail =
    sum_by-append size (soa_of zone) tail in
    let b : octets_of tail ≡ octets_of (filter is_other zone.records) + octets_of (soa_of zone) =
    sum_by-append size (filter is_other zone.records) (soa_of zone) in
    let sent : AllByRecursion Small (sent_records zone) = all_append Small (soa_of zone) tail s.1 (all_append Small
    (filter is_other zone.records) (soa_of zone) (all_filter Small is_other zone.records kept) s.1) in
    let within = within_limit (question_of zone) (sent_records zone) (fits apex (apex_short apex usable.version)) sent
    (omega arith) in
    let short : nat_le _ 67108864 ≡ true = le_true within in
    rw (all_fit zone.records kept, short) refl
  where
    le_true : {n m : ℕ} → n ≤ m → nat_le n m ≡ true
    le_true {n} {m} h = grind (arith, nat_tests)

-- so they have no fault
pub no_fault : (apex : List (List ℕ)) (nodes : List Node) → AllByRecursion IsHeld nodes → IsUsable apex nodes
    → spent apex nodes ≤ 66990000 → (serial : ℕ) → produce_fault apex serial nodes ≡ None
unfolding produce_fault
no_fault apex nodes held usable few serial =
    let short : is_long apex ≡ false = apex_short apex usable.version in
    let records : nat_lt 250000 (length (all_records apex serial nodes)) ≡ false =
    ap (nat_lt 250000) (count_all apex serial nodes) ∙ usable.few_records in
    rw (
      usable.labels,
      usable.groups,
      short,
      usable.version,
      usable.names,
      usable.few,
      records,
      fit apex serial nodes held usable few,
      usable.zones,
    ) refl

-- ---- some fault
pub faults : (apex : List (List ℕ)) (serial : ℕ) (nodes : List Node) → is_some (produce_fault apex serial nodes)
    ≡ (has_twice same_node nodes || (list_any has_bad_group nodes || (list_any long (plain_records apex serial nodes)
    || (too_many apex serial nodes || has_twice same_zone nodes))))
unfolding produce_fault
faults apex serial nodes = chain_some (has_twice same_node nodes) (list_any has_bad_group nodes)
    (list_any long (plain_records apex serial nodes)) (too_many apex serial nodes) (has_twice same_zone nodes)

-- ---- one more in a draft
or_end : (b t : Bool) → (if t then true else b) ≡ (b || (t || false))
or_end true true = refl
or_end true false = refl
or_end false true = refl
or_end false false = refl

any_push : {X : Type 0} (p : X → Bool) (xs : List X) (x : X) (b t : Bool) → b ≡ list_any p xs → t ≡ p x
    → (if t then true else b) ≡ list_any p (xs ++ x ∷ [])
any_push p xs x b t was is = or_end b t ∙ (ap (λ a. a || (t || false)) was
    ∙ (ap (λ a. list_any p xs || (a || false)) is ∙ sym (list_any-append p xs (x ∷ []))))

abbrev Labels : (List ℕ → Bool) → List Node → Type 0
Labels holds nodes = (label : List ℕ) → holds label ≡ list_any (λ n. same_label n.label label) nodes

abbrev Zones : (List (List ℕ) → Bool) → List Node → Type 0
Zones holds nodes = (zone : List (List ℕ)) → holds zone ≡ list_any (λ n. same_name n.zone zone) nodes

labels_more : (before after : List ℕ → Bool) (nodes : List Node) (node : Node) → Labels before nodes
    → ((q : List ℕ) → after q ≡ cond (is_eq (label_order node.label q)) true (before q))
    → Labels after (nodes ++ node ∷ [])
labels_more before after nodes node was more q = more q ∙ any_push (λ n. same_label n.label q) nodes node (before q)
    (is_eq (label_order node.label q)) (was q) (sym (same_label_ties node.label q))

zones_more : (before after : List (List ℕ) → Bool) (nodes : List Node) (node : Node) (key : List (List ℕ))
    → key ≡ node.zone → Zones before nodes
    → ((q : List (List ℕ)) → after q ≡ cond (is_eq (canonical_order key q)) true (before q))
    → Zones after (nodes ++ node ∷ [])
zones_more before after nodes node key is was more q =
    more q ∙ any_push (λ n. same_name n.zone q) nodes node (before q) (is_eq (canonical_order key q)) (was q)
    (ap (λ (k : List (List ℕ)). is_eq (canonical_order k q)) is ∙ sym (same_ties node.zone q))

pub put_one : (before after : Draft) (nodes : List Node) (node : Node) (key : List (List ℕ)) → key ≡ node.zone
    → IsDraft nodes before
    → ((q : List ℕ) → contains label_order after.labels q
    ≡ cond (is_eq (label_order node.label q)) true (contains label_order before.labels q))
    → ((q : List (List ℕ)) → contains canonical_order after.zones q
    ≡ cond (is_eq (canonical_order key q)) true (contains canonical_order before.zones q))
    → after.nodes ≡ min (before.nodes + 1) (2 ^ 64 - 1)
    → after.records ≡ min (before.records + record_count node) (2 ^ 64 - 1) → IsDraft (nodes ++ node ∷ []) after
put_one before after nodes node key is draft labels zones count records = record {
  labels = labels_more (contains label_order before.labels)
      (contains label_order after.labels) nodes node draft.labels labels;
  zones = zones_more (contains canonical_order before.zones)
      (contains canonical_order after.zones) nodes node key is draft.zones zones;
  count = let e = length-append nodes (node ∷ []) in let was = draft.count in omega arith;
  records = let e : sum_by record_count (nodes ++ node ∷ []) ≡ sum_by record_count nodes + record_count node =
      sum_by_push record_count nodes node in
      let was = draft.records in
      omega arith;
}

pub first_known : (label : Bool) (a b : Bool) → label ≡ not a → label ≡ false → label ≡ not (a || b)
first_known label true b is fails = is
first_known label false b is fails = absurd (cc)

pub first_new : (label zone : Bool) (a b : Bool) → label ≡ not a → label ≡ true → zone ≡ not b → zone ≡ not (a || b)
first_new label zone true b is holds last = absurd (cc)
first_new label zone false b is holds last = last

-- ---- what is told of nodes and one more
or_true : (a : Bool) → (a || true) ≡ true
or_true true = refl
or_true false = refl

-- a sum is past a limit where what a machine keeps of it is
pub past : (limit n k : ℕ) → limit < 300000 → k ≡ saturated n → nat_lt limit k ≡ nat_lt limit n
past limit n k small is =
    elim (cases_Bool (nat_lt limit n)) [ inl t ↦ sym (t ∙ sym (is_past t)) | inr f ↦ sym (f ∙ sym (is_not f)) ]
  where
    is_past : nat_lt limit n ≡ true → nat_lt limit k ≡ true
    is_past t = let lt : limit < n = grind (arith, nat_tests) in
        let m : limit < k = omega arith in
        grind (arith, nat_tests)

    is_not : nat_lt limit n ≡ false → nat_lt limit k ≡ false
    is_not f = let le : n ≤ limit = grind (arith, nat_tests) in
        let m : k ≤ limit = omega arith in
        grind (arith, nat_tests)

module _ (apex : List (List ℕ)) (nodes : List Node) (node : Node) where
  abbrev pub all_nodes : List Node
  all_nodes = nodes ++ node ∷ []

  flat_more : flat_map (node_records apex) all_nodes ≡ flat_map (node_records apex) nodes ++ node_records apex node
  flat_more = flat_map-append (node_records apex) nodes (node ∷ [])
      ∙ ap (λ (xs : List Record). flat_map (node_records apex) nodes ++ xs) (append-nil (node_records apex node))

  names_more : list_any long (flat_map (node_records apex) all_nodes)
      ≡ (list_any long (flat_map (node_records apex) nodes) || list_any long (node_records apex node))
  names_more =
      ap (list_any long) flat_more ∙ list_any-append long (flat_map (node_records apex) nodes) (node_records apex node)

  pub group_bad : has_bad_group node ≡ true → (serial : ℕ) → is_some (produce_fault apex serial all_nodes) ≡ true
  group_bad bad serial =
      let any : list_any has_bad_group all_nodes ≡ true =
      list_any-append has_bad_group nodes (node ∷ []) ∙ rw bad (or_true (list_any has_bad_group nodes)) in
      faults apex serial all_nodes ∙ rw any (or_true (has_twice same_node all_nodes))

  pub name_bad : list_any long (node_records apex node) ≡ true → (serial : ℕ)
      → is_some (produce_fault apex serial all_nodes) ≡ true
  name_bad bad serial =
      let flat : list_any long (flat_map (node_records apex) all_nodes) ≡ true =
      names_more ∙ rw bad (or_true (list_any long (flat_map (node_records apex) nodes))) in
      let any : list_any long (plain_records apex serial all_nodes) ≡ true =
      rw flat (thrice (is_long apex) (is_long (version_name apex))) in
      faults apex serial all_nodes ∙ rw any (ap (λ b. has_twice same_node all_nodes || b)
      (or_true (list_any has_bad_group all_nodes)) ∙ or_true (has_twice same_node all_nodes))
    where
      thrice : (a v : Bool) → (a || (a || (v || true))) ≡ true
      thrice true v = refl
      thrice false true = refl
      thrice false false = refl

  pub not_alone : (alone : Bool) → alone
      ≡ not (list_any (λ n. same_label n.label node.label) nodes || list_any (λ n. same_name n.zone node.zone) nodes)
      → alone ≡ false → (serial : ℕ) → is_some (produce_fault apex serial all_nodes) ≡ true
  not_alone alone is fails serial =
      let a : Bool = list_any (λ n. same_label n.label node.label) nodes in
      let b : Bool = list_any (λ n. same_name n.zone node.zone) nodes in
      let both : (has_twice same_node nodes || a) || (has_twice same_zone nodes || b) ≡ true =
      either (has_twice same_node nodes) a (has_twice same_zone nodes) b (sym is ∙ fails) in
      let twice : (has_twice same_node all_nodes || has_twice same_zone all_nodes) ≡ true =
      rw (twice_push same_node nodes node, twice_push same_zone nodes node) both in
      faults apex serial all_nodes ∙ ends (has_twice same_node all_nodes) (list_any has_bad_group all_nodes)
      (list_any long (plain_records apex serial all_nodes)) (too_many apex serial all_nodes)
      (has_twice same_zone all_nodes) twice
    where
      either : (s a t b : Bool) → not (a || b) ≡ false → ((s || a) || (t || b)) ≡ true
      either true a t b h = refl
      either false true t b h = refl
      either false false true b h = refl
      either false false false true h = refl
      either false false false false h = absurd (cc)

      ends : (a b c d e : Bool) → (a || e) ≡ true → (a || (b || (c || (d || e)))) ≡ true
      ends true b c d e h = refl
      ends false true c d e h = refl
      ends false false true d e h = refl
      ends false false false true e h = refl
      ends false false false false e h = h

  pub many_bad : (draft : Draft) (full : Bool) → IsDraft all_nodes draft
      → full ≡ (nat_lt 65536 draft.nodes || nat_lt 250000 draft.records) → full ≡ true → (serial : ℕ)
      → is_some (produce_fault apex serial all_nodes) ≡ true
  many_bad draft full is tests holds serial =
      let a : Bool = nat_lt 65536 (length all_nodes) in
      let b : Bool = nat_lt 250000 (length (all_records apex serial all_nodes)) in
      let some : (a || b) ≡ true =
      rw (
        count_all apex serial all_nodes,
        ← past 65536 (length all_nodes) draft.nodes (omega arith) is.count,
        ← past 250000 (4 + sum_by record_count all_nodes) draft.records (omega arith) is.records,
      )
      (sym tests ∙ holds) in
      let many : too_many apex serial all_nodes ≡ true =
      more a b (not (is_fit (zone_of apex (all_records apex serial all_nodes)))) some in
      faults apex serial all_nodes ∙ rw many (ends (has_twice same_node all_nodes) (list_any has_bad_group all_nodes)
      (list_any long (plain_records apex serial all_nodes)))
    where
      more : (a b c : Bool) → (a || b) ≡ true → (a || (b || c)) ≡ true
      more true b c h = refl
      more false true c h = refl
      more false false c h = absurd (cc)

      ends : (a b c : Bool) → (a || (b || (c || true))) ≡ true
      ends true b c = refl
      ends false true c = refl
      ends false false true = refl
      ends false false false = refl

  pub usable_more : (draft : Draft) (bad long_owner alone full : Bool) → IsUsable apex nodes → IsDraft all_nodes draft
      → bad ≡ has_bad_group node → bad ≡ false → long_owner ≡ list_any long (node_records apex node)
      → long_owner ≡ false
      → alone
      ≡ not (list_any (λ n. same_label n.label node.label) nodes || list_any (λ n. same_name n.zone node.zone) nodes)
      → alone ≡ true → full ≡ (nat_lt 65536 draft.nodes || nat_lt 250000 draft.records) → full ≡ false
      → IsUsable apex all_nodes
  usable_more draft bad long_owner alone full was is bad_is good long_is short alone_is apart full_is free =
      let two = or_parts (list_any (λ n. same_label n.label node.label) nodes)
      (list_any (λ n. same_name n.zone node.zone) nodes) (turned _ (sym alone_is ∙ apart)) in
      let tests = or_parts (nat_lt 65536 draft.nodes) (nat_lt 250000 draft.records) (sym full_is ∙ free) in
      record {
        labels = twice_push same_node nodes node ∙ rw (was.labels, two.0) refl;
        groups = list_any-append has_bad_group nodes (node ∷ []) ∙ rw (was.groups, sym bad_is ∙ good) refl;
        version = was.version;
        names = names_more ∙ rw (was.names, sym long_is ∙ short) refl;
        few = sym (past 65536 (length all_nodes) draft.nodes (omega arith) is.count) ∙ tests.0;
        few_records =
            sym (past 250000 (4 + sum_by record_count all_nodes) draft.records (omega arith) is.records) ∙ tests.1;
        zones = twice_push same_zone nodes node ∙ rw (was.zones, two.1) refl;
      }
    where
      turned : (b : Bool) → not b ≡ true → b ≡ false
      turned true h = absurd (cc)
      turned false h = refl

  pub spent_more : (before after : ℕ) → saturated (spent apex nodes) ≤ before
      → after ≡ saturated (before + node_size apex node) → after ≤ 66990000 → spent apex all_nodes ≤ 66990000
  spent_more before after was is few =
      let sum : spent apex all_nodes ≡ spent apex nodes + node_size apex node =
      sum_by_push (node_size apex) nodes node in omega arith
