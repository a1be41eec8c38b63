-- What is made is a catalog, and has the serial that it was made with.
use Rattle.std.proofs.Common.{◌≡◌, ℕ, ◌-◌, ◌<◌, ◌^◌, Bool, true, false, not, ◌||◌, ◌&&◌, List, [], ◌∷◌, ◌++◌, length}
use Rattle.std.proofs.Common.{map, drop, suc, refl, sym, ◌∙◌, ap, Some, None, Option, Ok, inl, inr}
use Rattle.std.specs.Prelude.{filter, nat_lt, if◌then◌else◌}
use Rattle.std.specs.List.{All, list_any, list_all, flat_map, find}
use Rattle.std.specs.Option.{option_map_or}
use Rattle.std.specs.Str.{bytes_eq}
use Rattle.std.proofs.lemmas.Bool.{cases_Bool}
use Rattle.std.proofs.lemmas.List.{length-map}
use Rattle.std.proofs.lemmas.List.Elements.{filter-append}
use Rattle.sha2.specs.Sha512.{sha384}
use Rattle.dz_name.specs.Name.{wire_of}
use Rattle.dz_name.specs.Numbers.{four}
use Rattle.dz_name.specs.Order.{names_equal, labels_equal}
use Rattle.dz_name.specs.Words.{Name}
use Rattle.dz_name.proofs.NumberLemmas.{number-four}
use Rattle.dz_member.specs.Listing.{same_zone}
use Rattle.dz_member.specs.Sorting.{insert_by, sorted_by}
use Rattle.dz_settings.specs.Twice.{has_twice}
use Rattle.dz_member.specs.declared.listing.Node.{Node}
use Rattle.dz_member.specs.declared.listing.TheConstants.Listing.{NODES}
use Rattle.dz_name.specs.declared.dns.TheConstants.{ZONE_RECORDS}
use Rattle.dz_record.specs.Record.{Record, same_record, soa_numbers}
use Rattle.dz_record.specs.Records.{distinct, in_order, insertion}
use Rattle.dz_record.specs.declared.rr.Soa.{Soa}
use Rattle.dz_zone.specs.Valid.{at_apex}
use Rattle.dz_zone.specs.Version.{Zone}
use Rattle.dz_xfr.specs.Apex.{serial_of, held_serial}
use Rattle.dz_outward.specs.Stream.{is_fit}
use Rattle.dz_producer.specs.Amended.{IsCatalog, listed, nodes_in}
use Rattle.dz_producer.specs.Faults.{same_node, has_bad_group, is_string, is_long, too_many, produce_fault}
use Rattle.dz_producer.specs.Laws.{IsNode, octets_before, with_sorted_groups, label_before, in_label_order}
use Rattle.dz_producer.specs.Produced.{produced}
use Rattle.dz_producer.specs.Records.{hourly, uncached, soa, name_server, version_property, times, owner_of, member}
use Rattle.dz_producer.specs.Records.{coo_records, group_records, node_records, plain_records, digest, all_records}
use Rattle.dz_producer.specs.declared.fault.ProduceFault.{ProduceFault}
use Rattle.dz_producer.specs.declared.fault.ProduceFault.TheVariants.{LabelTwice, BadGroup, NameTooLong, TooMany}
use Rattle.dz_producer.specs.declared.fault.ProduceFault.TheVariants.{ZoneTwice}
use Rattle.dz_catalog.specs.Member.{group_name}
use Rattle.dz_producer.proofs.AlikeLemmas.{Alike, Once, canonical_alike, any_alike, length_alike, digested_alike}
use Rattle.dz_producer.proofs.AlikeLemmas.{append_alike, cons_alike, once_from, once_alike, once_front, once_back}
use Rattle.dz_producer.proofs.AlikeLemmas.{flat_sorted, map_sorted}
use Rattle.dz_producer.proofs.CanonicalLemmas.{Respects, canonical_filter, same_parts}
use Rattle.dz_producer.proofs.ListingLemmas.{NoFault, no_fault, no_text_twice, records_once, lists_its_nodes}
use Rattle.dz_producer.proofs.OwnerLemmas.{name_itself}
use Rattle.dz_producer.proofs.PairLemmas.{any_sorted, twice_sorted}
use Rattle.dz_producer.proofs.RecordLemmas.{none_kept, all_node, all_nodes}

-- ---- the serial: the apex has one SOA
pub soa_number : (apex : Name) (serial : ℕ) → serial < 2 ^ 32 → serial_of (soa apex serial) ≡ serial
unfolding wire_of four
soa_number apex serial small =
    let numbers : soa_numbers (drop (length (soa apex serial).rdata - 20) (soa apex serial).rdata)
    ≡ soa_numbers (four serial ++ times) =
    refl in
    ap (λ (s : Soa). s.serial) numbers ∙ number-four serial times small

pub find_kept : (p : Record → Bool) (rs : List Record) (r : Record) → filter p rs ≡ r ∷ [] → find p rs ≡ Some r
find_kept p [] r h = absurd (cc)
find_kept p (s ∷ ss) r h =
    elim (cases_Bool (p s)) [
      | inl t ↦ let e : s ∷ filter p ss ≡ r ∷ [] = rw t at h in let same : s ≡ r = cc in rw t (ap (λ x. Some x) same)
      | inr f ↦ rw f (find_kept p ss r (rw f at h))
    ]

module _ (apex : List (List ℕ)) (serial : ℕ) (nodes : List Node) where
  soa_respects : Respects (at_apex 6 apex)
  soa_respects r s t = let same = same_parts r s t in rw (same.0, same.1.0) refl

  pub one_soa : filter (at_apex 6 apex) (all_records apex serial nodes) ≡ soa apex serial ∷ []
  one_soa =
      let p : Record → Bool = at_apex 6 apex in
      let last : Record = digest apex serial (plain_records apex serial nodes) in
      let flat : List Record = flat_map (node_records apex) nodes in
      let none : filter p flat ≡ [] =
      none_kept p flat (all_nodes (λ r. at_apex 6 apex r ≡ false) apex
      (λ node. all_node (λ r. at_apex 6 apex r ≡ false) apex node refl (λ c. refl) (λ g. refl)) nodes) in
      let behind : filter p (flat ++ last ∷ []) ≡ [] =
      filter-append p flat (last ∷ []) ∙ ap (λ (xs : List Record). xs ++ []) none in
      rw (name_itself apex) (ap (λ (xs : List Record). soa apex serial ∷ xs) behind)

  pub zone_soa : filter (at_apex 6 apex) (produced apex serial nodes).records ≡ soa apex serial ∷ []
  unfolding distinct in_order insertion
  zone_soa =
      canonical_filter (at_apex 6 apex) (all_records apex serial nodes) soa_respects ∙ ap
      (λ (xs : List Record). in_order (distinct xs)) one_soa

  pub serial_is : held_serial (produced apex serial nodes) ≡ serial_of (soa apex serial)
  serial_is =
      ap (λ (o : Option Record). option_map_or serial_of o 0)
      (find_kept (at_apex 6 apex) (produced apex serial nodes).records (soa apex serial) zone_soa)

  pub serial_kept : serial < 2 ^ 32 → held_serial (produced apex serial nodes) ≡ serial
  serial_kept small = serial_is ∙ soa_number apex serial small

-- ---- tests of nodes don't hang on their order
any_map : {X Y : Type 0} (f : X → Y) (p : Y → Bool) (xs : List X) → list_any p (map f xs) ≡ list_any (λ x. p (f x)) xs
any_map f p [] = refl
any_map f p (x ∷ xs) = ap (λ b. p (f x) || b) (any_map f p xs)

twice_map : {X Y : Type 0} (f : X → Y) (same : Y → Y → Bool) (xs : List X)
    → has_twice same (map f xs) ≡ has_twice (λ x y. same (f x) (f y)) xs
twice_map f same [] = refl
twice_map f same (x ∷ xs) =
    ap (λ b. b || has_twice same (map f xs)) (any_map f (λ y. same (f x) y) xs) ∙ ap
    (λ b. list_any (λ y. same (f x) (f y)) xs || b) (twice_map f same xs)

and_swap : (a b c : Bool) → (a && (b && c)) ≡ (b && (a && c))
and_swap true b c = refl
and_swap false true c = refl
and_swap false false c = refl

all_insert : {X : Type 0} (lt : X → X → Bool) (p : X → Bool) (x : X) (ys : List X)
    → list_all p (insert_by lt x ys) ≡ (p x && list_all p ys)
all_insert lt p x [] = refl
all_insert lt p x (y ∷ ys) =
    elim (cases_Bool (lt y x)) [
      | inl t ↦ rw t (ap (λ b. p y && b) (all_insert lt p x ys) ∙ and_swap (p y) (p x) (list_all p ys))
      | inr n ↦ rw n refl
    ]

every_sorted : {X : Type 0} (lt : X → X → Bool) (p : X → Bool) (xs : List X)
    → list_all p (sorted_by lt xs) ≡ list_all p xs
every_sorted lt p [] = refl
every_sorted lt p (x ∷ xs) = all_insert lt p x (sorted_by lt xs) ∙ ap (λ b. p x && b) (every_sorted lt p xs)

length_insert : {X : Type 0} (lt : X → X → Bool) (x : X) (ys : List X) → length (insert_by lt x ys) ≡ suc (length ys)
length_insert lt x [] = refl
length_insert lt x (y ∷ ys) =
    elim (cases_Bool (lt y x)) [
      | inl t ↦ rw t (ap suc (length_insert lt x ys))
      | inr n ↦ rw n refl
    ]

length_sorted : {X : Type 0} (lt : X → X → Bool) (xs : List X) → length (sorted_by lt xs) ≡ length xs
length_sorted lt [] = refl
length_sorted lt (x ∷ xs) = length_insert lt x (sorted_by lt xs) ∙ ap suc (length_sorted lt xs)

labels_same : (nodes : List Node) → has_twice same_node (in_label_order nodes) ≡ has_twice same_node nodes
labels_same nodes =
    twice_sorted label_before same_node (λ x y. labels_equal.symm x.label y.label) (map with_sorted_groups nodes)
    ∙ twice_map with_sorted_groups same_node nodes

zones_same : (nodes : List Node) → has_twice same_zone (in_label_order nodes) ≡ has_twice same_zone nodes
zones_same nodes =
    twice_sorted label_before same_zone (λ x y. names_equal.symm x.zone y.zone) (map with_sorted_groups nodes)
    ∙ twice_map with_sorted_groups same_zone nodes

bad_same : (node : Node) → has_bad_group (with_sorted_groups node) ≡ has_bad_group node
bad_same node =
    let strings = every_sorted octets_before is_string node.groups in
    let twice = twice_sorted octets_before bytes_eq labels_equal.symm node.groups in
    λ i. not (strings i) || twice i

groups_same : (nodes : List Node) → list_any has_bad_group (in_label_order nodes) ≡ list_any has_bad_group nodes
groups_same nodes =
    any_sorted label_before has_bad_group (map with_sorted_groups nodes) ∙
    (any_map with_sorted_groups has_bad_group nodes ∙ ap (λ (p : Node → Bool). list_any p nodes) (λ i n. bad_same n i))

count_same : (nodes : List Node) → length (in_label_order nodes) ≡ length nodes
count_same nodes = length_sorted label_before (map with_sorted_groups nodes) ∙ length-map nodes with_sorted_groups

-- ---- the records of nodes in order, the groups of each in order
module _ (apex : List (List ℕ)) where
  node_sorted : (n : Node) → Once (node_records apex n)
      → Alike (node_records apex (with_sorted_groups n)) (node_records apex n)
  unfolding node_records
  node_sorted n once =
      let owner : List (List ℕ) = owner_of apex n in
      let coo : List Record = coo_records owner n.coo in
      let groups : List Record = group_records owner n.groups in
      let sorted : List Record = group_records owner (sorted_by octets_before n.groups) in
      let few : Once groups = once_back coo groups (once_back (member apex n ∷ []) (coo ++ groups) once) in
      cons_alike (member apex n) (coo ++ sorted) (coo ++ groups)
      (append_alike coo coo sorted groups
      (λ w. refl) (map_sorted (uncached (group_name owner) 16) octets_before n.groups few))

  each_sorted : (ns : List Node) → Once (flat_map (node_records apex) ns)
      → Alike (flat_map (node_records apex) (map with_sorted_groups ns)) (flat_map (node_records apex) ns)
  each_sorted [] once z = refl
  each_sorted (n ∷ ns) once z =
      let here : List Record = node_records apex n in
      let rest : List Record = flat_map (node_records apex) ns in
      append_alike (node_records apex (with_sorted_groups n)) here
      (flat_map (node_records apex) (map with_sorted_groups ns)) rest (node_sorted n (once_front here rest once))
      (each_sorted ns (once_back here rest once)) z

  pub nodes_alike : (ns : List Node) → Once (flat_map (node_records apex) ns)
      → Alike (flat_map (node_records apex) (in_label_order ns)) (flat_map (node_records apex) ns)
  nodes_alike ns once z =
      let mapped : List Node = map with_sorted_groups ns in
      let each : Alike (flat_map (node_records apex) mapped) (flat_map (node_records apex) ns) = each_sorted ns once in
      flat_sorted (node_records apex) label_before mapped
      (once_alike (flat_map (node_records apex) ns) (flat_map (node_records apex) mapped) (λ w. sym (each w)) once) z
      ∙ each z

-- ---- the catalog of nodes in order
abbrev by_tests : Bool → Bool → Bool → Bool → Bool → Option ProduceFault
by_tests a b c d e =
    if a then Some LabelTwice
    else if b then Some BadGroup
    else if c then Some NameTooLong
    else if d then Some TooMany
    else if e then Some ZoneTwice
    else None

module _ (apex : List (List ℕ)) (serial : ℕ) (nodes : List Node) (ok : NoFault nodes) where
  abbrev sorted : List Node
  sorted = in_label_order nodes

  pub once_all : Once (all_records apex serial nodes)
  once_all =
      once_from (all_records apex serial nodes)
      (records_once apex serial nodes ok.labels (no_text_twice nodes ok.groups))

  pub once_flat : Once (flat_map (node_records apex) nodes)
  once_flat =
      let flat : List Record = flat_map (node_records apex) nodes in
      let last : List Record = digest apex serial (plain_records apex serial nodes) ∷ [] in
      once_front flat last
      (once_back (soa apex serial ∷ name_server apex ∷ version_property apex ∷ []) (flat ++ last) once_all)

  plain_alike : Alike (plain_records apex serial sorted) (plain_records apex serial nodes)
  plain_alike =
      let front : List Record = soa apex serial ∷ name_server apex ∷ version_property apex ∷ [] in
      append_alike front front (flat_map (node_records apex) sorted) (flat_map (node_records apex) nodes) (λ w. refl)
      (nodes_alike apex nodes once_flat)

  digest_same : digest apex serial (plain_records apex serial sorted)
      ≡ digest apex serial (plain_records apex serial nodes)
  digest_same =
      ap (λ (octets : List ℕ). hourly apex 63 (four serial ++ (1 ∷ 1 ∷ sha384 octets)))
      (digested_alike apex (plain_records apex serial sorted) (plain_records apex serial nodes) plain_alike)

  all_alike : Alike (all_records apex serial sorted) (all_records apex serial nodes)
  all_alike =
      append_alike (plain_records apex serial sorted) (plain_records apex serial nodes)
      (digest apex serial (plain_records apex serial sorted) ∷ [])
      (digest apex serial (plain_records apex serial nodes) ∷ []) plain_alike
      (λ w. ap (λ (d : Record). filter (same_record w) (d ∷ [])) digest_same)

  made_same : produced apex serial sorted ≡ produced apex serial nodes
  made_same =
      ap (λ (rs : List Record). record { apex = apex; records = rs })
      (canonical_alike (all_records apex serial sorted) (all_records apex serial nodes) all_alike)

  many_same : too_many apex serial sorted ≡ too_many apex serial nodes
  many_same =
      let count = count_same nodes in
      let size = length_alike (all_records apex serial sorted) (all_records apex serial nodes) all_alike in
      λ i. nat_lt NODES (count i) || (nat_lt ZONE_RECORDS (size i) || not (is_fit (made_same i)))

  fault_same : produce_fault apex serial sorted ≡ produce_fault apex serial nodes
  unfolding produce_fault
  fault_same =
      let names =
      any_alike (λ r. is_long r.owner) (plain_records apex serial sorted)
      (plain_records apex serial nodes) plain_alike in
      λ i. by_tests (labels_same nodes i) (groups_same nodes i) (names i) (many_same i) (zones_same nodes i)

pub makes_catalog : (apex : Name) (serial : ℕ) (nodes : List Node) → serial < 2 ^ 32 → All IsNode nodes
    → produce_fault apex serial nodes ≡ None
    → (IsCatalog (produced apex serial nodes)) × (held_serial (produced apex serial nodes) ≡ serial)
makes_catalog apex serial nodes small are none =
    let zone : Zone = produced apex serial nodes in
    let ok : NoFault nodes = no_fault apex serial nodes none in
    let lists = lists_its_nodes apex serial nodes are none in
    let nodes_are : listed zone ≡ in_label_order nodes = ap nodes_in lists in
    let number : held_serial zone ≡ serial = serial_kept apex serial nodes small in
    let moved : produce_fault apex (held_serial zone) (listed zone)
    ≡ produce_fault apex serial (in_label_order nodes) =
    λ i. produce_fault apex (number i) (nodes_are i) in
    let again : produced apex serial (in_label_order nodes) ≡ produced apex (held_serial zone) (listed zone) =
    λ i. produced apex (sym number i) (sym nodes_are i) in (
      record {
        lists = lists ∙ ap (λ (ns : List Node). Ok ns) (sym nodes_are);
        faultless = moved ∙ (fault_same apex serial nodes ok ∙ none);
        made = sym (made_same apex serial nodes ok) ∙ again;
      },
      number,
    )
