-- A catalog lists its nodes.
use Rattle.std.proofs.Common.{◌≡◌, ℕ, suc, Bool, true, false, List, [], ◌∷◌, ◌++◌, length, map, reverse, refl, sym}
use Rattle.std.proofs.Common.{◌∙◌, ap, arith, Some, None, Option, Ok, inl, inr}
use Rattle.std.specs.Prelude.{filter, not, ◌==◌, ◌||◌, nat_lt, count_by, slice_get, if◌then◌else◌}
use Rattle.std.specs.Option.{ForSome, option_and_then}
use Rattle.std.specs.List.{All, AllByRecursion, list_any, list_all, flat_map, filter_map, cons_option}
use Rattle.std.specs.List.Sorted.{ties}
use Rattle.std.specs.Cmp.{tied_itself, nat_cmp_total}
use Rattle.std.specs.Cmp.Lexicographic.{slice_cmp, lists_total}
use Rattle.std.specs.Ordering.{is_lt, is_eq, nat_cmp, ordering_then}
use Rattle.std.specs.Str.{bytes_eq}
use Rattle.std.specs.declared.cmp.Ordering.{Ordering}
use Rattle.std.specs.declared.cmp.Ordering.TheVariants.{Less, Equal, Greater}
use Rattle.std.proofs.lemmas.Bool.{cases_Bool, or_parts}
use Rattle.std.proofs.lemmas.List.{append-nil, reverse-append, length-map}
use Rattle.std.proofs.lemmas.List.Elements.{filter-append}
use Rattle.std.proofs.lemmas.List.Sums.{length-filter}
use Rattle.dz_name.specs.Name.{same_label, wire_of, IsName, canonical_order, label_order, labels_of}
use Rattle.dz_name.specs.Order.{same_label_decides, label_order_decides, canonical_total, names_equal}
use Rattle.dz_name.proofs.WireLemmas.{labels_of-wire}
use Rattle.dz_member.specs.Listing.{same_zone}
use Rattle.dz_member.specs.Sorting.{sorted_by}
use Rattle.dz_settings.specs.Twice.{has_twice}
use Rattle.dz_member.specs.declared.listing.Node.{Node}
use Rattle.dz_record.specs.Record.{Record, same_record, target_of}
use Rattle.dz_record.specs.Records.{distinct, in_order, insertion}
use Rattle.dz_runs.specs.Runs.{of_type}
use Rattle.dz_zone.specs.Valid.{some_two, both_are}
use Rattle.dz_zone.proofs.Ordered.{puts, alike, ascends_puts, puts_keep}
use Rattle.dz_zone.proofs.Pairs.{ascends_filter}
use Rattle.dz_zone.proofs.RecordLemmas.{before, before_ranks, in_order_puts}
use Rattle.dz_catalog.specs.Broken.{is_version, version_name, version_2, version_twice, other_version, too_many}
use Rattle.dz_catalog.specs.Broken.{broken_records}
use Rattle.dz_catalog.specs.Listing.{listing_of}
use Rattle.dz_catalog.specs.Member.{is_node, is_coo, is_member, node_of, nodes_of, coo_of, groups_of, coo_name}
use Rattle.dz_catalog.specs.Member.{group_name, zones_of}
use Rattle.dz_catalog.proofs.OrderLemmas.{order_is_free}
use Rattle.dz_catalog.proofs.TwinLemmas.{none_twin}
use Rattle.dz_catalog.proofs.VersionLemmas.{other_kept}
use Rattle.dz_producer.specs.Faults.{same_node, has_bad_group, is_string, is_long, produce_fault}
use Rattle.dz_producer.specs.Faults as faults
use Rattle.dz_producer.specs.Records.{uncached, soa, name_server, version_property, owner_of, member, coo_records}
use Rattle.dz_producer.specs.Records.{group_records, node_records, plain_records, digest}
use Rattle.dz_producer.specs.Laws.{IsNode, ListsItsNodes, octets_before, with_sorted_groups, label_before}
use Rattle.dz_producer.specs.Laws.{in_label_order}
use Rattle.dz_producer.specs.declared.fault.ProduceFault.TheVariants.{LabelTwice, BadGroup, NameTooLong, TooMany}
use Rattle.dz_producer.specs.declared.fault.ProduceFault.TheVariants.{ZoneTwice}
use Rattle.dz_producer.proofs.OwnerLemmas.{Owned, owned_by, all_owned, two_nodes, both_owner, same_owner, one_pointer}
use Rattle.dz_producer.proofs.OwnerLemmas.{no_double, no_pointer_first, no_pointer_second, kinds_differ, owners_differ}
use Rattle.dz_producer.proofs.OwnerLemmas.{other_name, name_itself, not_longer}
use Rattle.dz_producer.proofs.PairLemmas.{Pairs, each_more, any_no, pairs_differ, or_false, two_append, all_distinct}
use Rattle.dz_producer.proofs.PairLemmas.{puts_map, sorted_map, all_sorted, twice_sorted}
use Rattle.dz_producer.proofs.RecordLemmas.{all_append, none_kept, all_groups, all_coo, all_node, all_nodes}

-- ---- what is known of nodes without a fault
pub record NoFault (nodes : List Node) : Type 0 where
  pub labels : has_twice same_node nodes ≡ false
  pub groups : list_any has_bad_group nodes ≡ false
  pub few : nat_lt 65536 (length nodes) ≡ false
  pub zones : has_twice same_zone nodes ≡ false

none_of_five : (a b c d e : Bool) → (if a then Some LabelTwice else if b then Some BadGroup else if c
    then Some NameTooLong else if d then Some TooMany else if e then Some ZoneTwice else None) ≡ None
    → (a ≡ false) × ((b ≡ false) × ((d ≡ false) × (e ≡ false)))
none_of_five true b c d e h = absurd (cc)
none_of_five false true c d e h = absurd (cc)
none_of_five false false true d e h = absurd (cc)
none_of_five false false false true e h = absurd (cc)
none_of_five false false false false true h = absurd (cc)
none_of_five false false false false false h = (refl, (refl, (refl, refl)))

pub no_fault : (apex : List (List ℕ)) (serial : ℕ) (nodes : List Node) → produce_fault apex serial nodes ≡ None
    → NoFault nodes
unfolding produce_fault
no_fault apex serial nodes h =
    let parts = none_of_five (has_twice same_node nodes) (list_any has_bad_group nodes)
    (list_any (λ r. is_long r.owner) (plain_records apex serial nodes)) (faults.too_many apex serial nodes)
    (has_twice same_zone nodes) h in
    record {
      labels = parts.0;
      groups = parts.1.0;
      few = (or_parts (nat_lt 65536 (length nodes)) _ parts.1.1.0).0;
      zones = parts.1.1.1;
    }

pub no_text_twice : (nodes : List Node) → list_any has_bad_group nodes ≡ false
    → AllByRecursion (λ n. has_twice bytes_eq n.groups ≡ false) nodes
no_text_twice [] h = tt
no_text_twice (n ∷ ns) h =
    let parts = or_parts (has_bad_group n) (list_any has_bad_group ns) h in
    ((or_parts (not (list_all is_string n.groups)) (has_twice bytes_eq n.groups) parts.0).1, no_text_twice ns parts.1)

pub all_of : {X : Type 0} (P : X → Type 0) → ((x : X) → P x) → (xs : List X) → AllByRecursion P xs
all_of P f [] = tt
all_of P f (x ∷ xs) = (f x, all_of P f xs)

pub by_turns : {X : Type 0} (P : X → Type 0) (xs : List X) → All P xs → AllByRecursion P xs
by_turns P [] all = tt
by_turns P (x ∷ xs) all = (all 0 x (omega arith), by_turns P xs (λ k d lt. all (suc k) d (omega arith)))

-- ---- a filter of records in order
pub two_filters : {X : Type 0} (p q : X → Bool) (xs : List X) → filter p (filter q xs) ≡ filter q (filter p xs)
two_filters p q [] = refl
two_filters p q (x ∷ xs) =
    elim (cases_Bool (p x)) [
      | inl s ↦ elim (cases_Bool (q x)) [
        | inl t ↦ rw (s, t, s) (ap (λ ys. x ∷ ys) (two_filters p q xs))
        | inr f ↦ rw (s, f) (two_filters p q xs)
      ]
      | inr g ↦ elim (cases_Bool (q x)) [
        | inl t ↦ rw (g, t, g) (two_filters p q xs)
        | inr f ↦ rw (g, f) (two_filters p q xs)
      ]
    ]

in_order_filter : (p : Record → Bool) (rs : List Record) → filter p (in_order rs) ≡ in_order (filter p rs)
in_order_filter p rs =
    ap (filter p) (in_order_puts rs)
    ∙ (alike before before_ranks (filter p (puts before rs)) (puts before (filter p rs))
    (ascends_filter before p (puts before rs) (ascends_puts before before_ranks rs))
    (ascends_puts before before_ranks (filter p rs))
    (λ z.
    two_filters (ties before z) p (puts before rs)
    ∙ (ap (filter p) (puts_keep before before_ranks z rs)
    ∙ (two_filters p (ties before z) rs ∙ sym (puts_keep before before_ranks z (filter p rs)))))
    ∙ sym (in_order_puts (filter p rs)))

-- ---- the order of member records, and of groups
then_equal : (o : Ordering) → ordering_then o Equal ≡ o
then_equal Less = refl
then_equal Equal = refl
then_equal Greater = refl

last_decides : (w : List (List ℕ)) (x y : List ℕ)
    → slice_cmp (slice_cmp nat_cmp) (w ++ x ∷ []) (w ++ y ∷ []) ≡ slice_cmp nat_cmp x y
last_decides [] x y = then_equal (slice_cmp nat_cmp x y)
last_decides (z ∷ w) x y = rw (tied_itself (lists_total nat_cmp_total) z) (last_decides w x y)

first_decides : (u : List (List ℕ)) (x y : List ℕ) → canonical_order (x ∷ u) (y ∷ u) ≡ slice_cmp nat_cmp x y
first_decides u x y = rw (reverse-append (x ∷ []) u, reverse-append (y ∷ []) u) (last_decides (reverse u) x y)

lt_first : (o p q : Ordering) → (o ≡ Equal → ⊥) → is_lt (ordering_then (ordering_then o p) q) ≡ is_lt o
lt_first Less p q h = refl
lt_first Equal p q h = absurd (h refl)
lt_first Greater p q h = refl

members_ordered : (apex : List (List ℕ)) (x y : Node) → same_node x y ≡ false
    → before (member apex y) (member apex x) ≡ label_before y x
unfolding before
members_ordered apex x y f =
    let o = first_decides (zones_of apex) y.label x.label in
    let differ : label_order y.label x.label ≡ Equal → ⊥ =
    λ e.
    let same : y.label ≡ x.label = (label_order_decides y.label x.label).0 (ap is_eq e) in
    let t : same_node x y ≡ true = (same_label_decides x.label y.label).1 (sym same) in cc in
    rw o (lt_first (label_order y.label x.label) _ _ differ)

groups_ordered : (name : List (List ℕ)) (a b : List ℕ)
    → before (uncached name 16 b) (uncached name 16 a) ≡ octets_before b a
unfolding before
groups_ordered name a b = rw (tied_itself canonical_total name) refl

all_groups_ordered : (name : List (List ℕ)) (groups : List (List ℕ))
    → Pairs (λ a b. before (uncached name 16 b) (uncached name 16 a) ≡ octets_before b a) groups
all_groups_ordered name [] = tt
all_groups_ordered name (g ∷ gs) = (
  all_of (λ b. before (uncached name 16 b) (uncached name 16 g) ≡ octets_before b g)
      (λ b. groups_ordered name g b) gs,
  all_groups_ordered name gs,
)

-- ---- the parts of a node
typed_groups : (name : List (List ℕ)) (groups : List (List ℕ))
    → map (λ (r : Record). r.rdata) (of_type 16 (map (uncached name 16) groups)) ≡ groups
typed_groups name [] = refl
typed_groups name (g ∷ gs) = ap (λ xs. g ∷ xs) (typed_groups name gs)

own_order : (name : List (List ℕ)) (groups : List (List ℕ))
    → in_order (map (uncached name 16) groups) ≡ map (uncached name 16) (sorted_by octets_before groups)
own_order name groups = in_order_puts (map (uncached name 16) groups)
    ∙ puts_map (uncached name 16) octets_before before groups (all_groups_ordered name groups)

groups_read : (owner : List (List ℕ)) (groups : List (List ℕ)) → map
    (λ (r : Record). r.rdata) (of_type 16 (in_order (group_records owner groups))) ≡ sorted_by octets_before groups
groups_read owner groups =
    ap (λ (xs : List Record). map (λ (r : Record). r.rdata) (of_type 16 xs)) (own_order (group_name owner) groups)
    ∙ typed_groups (group_name owner) (sorted_by octets_before groups)

coo_read : (owner : List (List ℕ)) (coo : Option (List (List ℕ))) → ForSome coo IsName
    → option_and_then target_of (slice_get (of_type 12 (in_order (coo_records owner coo))) 0) ≡ coo
unfolding in_order insertion
coo_read owner None is = refl
coo_read owner (Some catalog) is = ap (λ c. Some c) (labels_of-wire catalog (wire_of catalog) (is catalog refl) refl)

-- what gives nothing may be left out
only_kept : {X Y : Type 0} (g : X → Option Y) (p : X → Bool) → ((x : X) → p x ≡ false → g x ≡ None) → (xs : List X)
    → filter_map g xs ≡ filter_map g (filter p xs)
only_kept g p none [] = refl
only_kept g p none (x ∷ xs) =
    elim (cases_Bool (p x)) [
      | inl t ↦ rw t (ap (cons_option (g x)) (only_kept g p none xs))
      | inr f ↦ rw (f, none x f) (only_kept g p none xs)
    ]

-- ---- the catalog
module _ (apex : List (List ℕ)) (serial : ℕ) (nodes : List Node) where
  abbrev zonemd : Record
  zonemd = digest apex serial (plain_records apex serial nodes)

  abbrev flat : List Record
  flat = flat_map (node_records apex) nodes

  abbrev after : List Record
  after = flat ++ zonemd ∷ []

  abbrev front : List Record
  front = soa apex serial ∷ name_server apex ∷ version_property apex ∷ []

  abbrev all : List Record
  all = front ++ after

  after_each : (P : Record → Type 0) → ((node : Node) → AllByRecursion P (node_records apex node)) → P zonemd
      → AllByRecursion P after
  after_each P f z = all_append P flat (zonemd ∷ []) (all_nodes P apex f nodes) (z, tt)

  -- no two PTR records have one owner
  no_front : (r : Record) (rs : List Record) → (r.kind == 12) ≡ false → list_any (both_are 12 r) rs ≡ false
  no_front r rs f = any_no (both_are 12 r) rs (all_of (λ s. both_are 12 r s ≡ false) (λ s. no_pointer_first r s f) rs)

  pub pointers_once : has_twice same_node nodes ≡ false → some_two (both_are 12) all ≡ false
  unfolding some_two
  pointers_once once =
      let between = two_nodes (both_are 12) apex nodes both_owner once
      (all_of (λ n. some_two (both_are 12) (node_records apex n) ≡ false) (one_pointer apex) nodes) in
      let behind : some_two (both_are 12) after ≡ false =
      two_append (both_are 12) flat (zonemd ∷ []) between refl
      (all_of (λ r. list_any (both_are 12 r) (zonemd ∷ []) ≡ false)
      (λ r. or_false (both_are 12 r zonemd) false (no_pointer_second r zonemd refl) refl) flat) in
      or_false _ _ (no_front (soa apex serial) (name_server apex ∷ version_property apex ∷ after) refl)
      (or_false _ _ (no_front (name_server apex) (version_property apex ∷ after) refl)
      (or_false _ _ (no_front (version_property apex) after refl) behind))

  -- no two records are the same
  version_alone : (node : Node)
      → AllByRecursion (λ s. same_record (version_property apex) s ≡ false) (node_records apex node)
  version_alone node =
      all_node (λ s. same_record (version_property apex) s ≡ false) apex node
      (kinds_differ (version_property apex) (member apex node) refl)
      (λ c. kinds_differ (version_property apex) (uncached (coo_name (owner_of apex node)) 12 (wire_of c)) refl)
      (λ g. owners_differ same_record same_owner (version_property apex)
      (uncached (group_name (owner_of apex node)) 16 g)
      (λ e. not_longer (group_name (owner_of apex node)) (version_name apex) 1 (omega arith) (sym e)))

  pub records_once : has_twice same_node nodes ≡ false
      → AllByRecursion (λ n. has_twice bytes_eq n.groups ≡ false) nodes → some_two same_record all ≡ false
  unfolding some_two
  records_once once groups =
      let between =
      two_nodes same_record apex nodes same_owner once (each_more (λ n. has_twice bytes_eq n.groups ≡ false)
      (λ n. some_two same_record (node_records apex n) ≡ false) (λ n h. no_double apex n h) nodes groups) in
      let behind : some_two same_record after ≡ false =
      two_append same_record flat (zonemd ∷ []) between refl
      (all_nodes (λ r. list_any (same_record r) (zonemd ∷ []) ≡ false) apex
      (λ node. all_node (λ r. list_any (same_record r) (zonemd ∷ []) ≡ false) apex node
      (or_false _ false (kinds_differ (member apex node) zonemd refl) refl)
      (λ c. or_false _ false (kinds_differ (uncached (coo_name (owner_of apex node)) 12 (wire_of c)) zonemd refl) refl)
      (λ g. or_false _ false (kinds_differ (uncached (group_name (owner_of apex node)) 16 g) zonemd refl) refl))
      nodes) in
      let first : list_any (same_record (soa apex serial)) (name_server apex ∷ version_property apex ∷ after) ≡ false =
      any_no (same_record (soa apex serial)) (name_server apex ∷ version_property apex ∷ after) (
        kinds_differ (soa apex serial) (name_server apex) refl,
        (
          kinds_differ (soa apex serial) (version_property apex) refl,
          after_each (λ s. same_record (soa apex serial) s ≡ false)
              (λ node. all_node (λ s. same_record (soa apex serial) s ≡ false) apex node
              (kinds_differ (soa apex serial) (member apex node) refl)
              (λ c. kinds_differ (soa apex serial) (uncached (coo_name (owner_of apex node)) 12 (wire_of c)) refl)
              (λ g. kinds_differ (soa apex serial) (uncached (group_name (owner_of apex node)) 16 g) refl))
              (kinds_differ (soa apex serial) zonemd refl),
        ),
      ) in
      let second : list_any (same_record (name_server apex)) (version_property apex ∷ after) ≡ false =
      any_no (same_record (name_server apex)) (version_property apex ∷ after) (
        kinds_differ (name_server apex) (version_property apex) refl,
        after_each (λ s. same_record (name_server apex) s ≡ false)
            (λ node. all_node (λ s. same_record (name_server apex) s ≡ false) apex node
            (kinds_differ (name_server apex) (member apex node) refl)
            (λ c. kinds_differ (name_server apex) (uncached (coo_name (owner_of apex node)) 12 (wire_of c)) refl)
            (λ g. kinds_differ (name_server apex) (uncached (group_name (owner_of apex node)) 16 g) refl))
            (kinds_differ (name_server apex) zonemd refl),
      ) in
      let third : list_any (same_record (version_property apex)) after ≡ false =
      any_no (same_record (version_property apex)) after (after_each (λ s. same_record (version_property apex) s
      ≡ false) version_alone (kinds_differ (version_property apex) zonemd refl)) in
      or_false _ _ first (or_false _ _ second (or_false _ _ third behind))

  -- one version
  pub one_version : filter (is_version apex) all ≡ version_property apex ∷ []
  one_version =
      let none : filter (is_version apex) after ≡ [] =
      none_kept (is_version apex) after
      (after_each (λ r. is_version apex r ≡ false)
      (λ node. all_node (λ r. is_version apex r ≡ false) apex node refl (λ c. refl)
      (λ g. other_name (group_name (owner_of apex node)) (version_name apex)
      (not_longer (group_name (owner_of apex node)) (version_name apex) 1 (omega arith)))) refl) in
      rw (name_itself (version_name apex), none) refl

  -- the members are those of the nodes
  member_alone : (node : Node) → filter (is_member apex) (node_records apex node) ≡ member apex node ∷ []
  unfolding node_records
  member_alone node =
      let owner : List (List ℕ) = owner_of apex node in
      let none : filter (is_member apex) (coo_records owner node.coo ++ group_records owner node.groups) ≡ [] =
      none_kept (is_member apex) (coo_records owner node.coo ++ group_records owner node.groups)
      (all_append (λ r. is_member apex r ≡ false) (coo_records owner node.coo) (group_records owner node.groups)
      (all_coo (λ r. is_member apex r ≡ false) owner
      (λ c. other_name owner (zones_of apex) (not_longer owner (zones_of apex) 0 (omega arith))) node.coo)
      (all_groups (λ r. is_member apex r ≡ false) owner (λ g. refl) node.groups)) in
      rw (name_itself (zones_of apex), none) refl

  flat_members : (ns : List Node) → filter (is_member apex) (flat_map (node_records apex) ns) ≡ map (member apex) ns
  flat_members [] = refl
  flat_members (n ∷ ns) =
      filter-append (is_member apex) (node_records apex n) (flat_map (node_records apex) ns)
      ∙ (ap (λ (xs : List Record). xs ++ filter (is_member apex) (flat_map (node_records apex) ns)) (member_alone n)
      ∙ ap (λ (xs : List Record). member apex n ∷ xs) (flat_members ns))

  pub members : filter (is_member apex) all ≡ map (member apex) nodes
  members = filter-append (is_member apex) flat (zonemd ∷ [])
      ∙ (append-nil (filter (is_member apex) flat) ∙ flat_members nodes)

  -- it isn't broken
  pub not_broken : NoFault nodes → broken_records apex all ≡ None
  unfolding broken_records
  not_broken ok =
      let once = pointers_once ok.labels in
      let there : list_any (is_version apex) all ≡ true = rw (name_itself (version_name apex)) refl in
      let count : 1 ≡ count_by (is_version apex) all =
      sym (ap length one_version) ∙ length-filter (is_version apex) all in
      let single : version_twice apex all ≡ false = rw (← count) refl in
      let right : other_version apex all ≡ false =
      sym (other_kept (is_version apex) (λ r. not (same_label r.rdata version_2)) all)
      ∙ ap (list_any (λ (r : Record). not (same_label r.rdata version_2))) one_version in
      let many : length nodes ≡ count_by (is_member apex) all =
      sym (length-map nodes (member apex)) ∙ (sym (ap length members) ∙ length-filter (is_member apex) all) in
      let few : too_many apex all ≡ false = rw (← many) ok.few in
      rw (there, single, right, none_twin (is_node apex) all once, none_twin (is_coo apex) all once, few) refl

  -- what is read of a node
  no_names : (property : List ℕ) (n : Node)
      → filter (owned_by (property ∷ owner_of apex n)) all ≡ filter (owned_by (property ∷ owner_of apex n)) flat
  no_names property n =
      let p : Record → Bool = owned_by (property ∷ owner_of apex n) in
      let at : p (soa apex serial) ≡ false = other_name apex (property ∷ owner_of apex n)
      (λ e. not_longer (property ∷ owner_of apex n) apex 2 (omega arith) (sym e)) in
      let one : p (version_property apex) ≡ false = other_name (version_name apex) (property ∷ owner_of apex n)
      (λ e. not_longer (property ∷ owner_of apex n) (version_name apex) 1 (omega arith) (sym e)) in
      let last : filter p (zonemd ∷ []) ≡ [] = rw at refl in
      rw (at, one) (filter-append p flat (zonemd ∷ [])
      ∙ (ap (λ (xs : List Record). filter p flat ++ xs) last ∙ append-nil (filter p flat)))

  node_read : (n : Node) → IsNode n → Owned apex flat n
      → node_of apex all (member apex n) ≡ Some (with_sorted_groups n)
  unfolding node_of
  node_read n is owned =
      let owner : List (List ℕ) = owner_of apex n in
      let coo : coo_of all owner ≡ n.coo =
      ap (λ (xs : List Record). option_and_then target_of (slice_get (of_type 12 (in_order xs)) 0))
      (no_names (99 ∷ 111 ∷ 111 ∷ []) n ∙ owned.coo) ∙ coo_read owner n.coo is.coo in
      let groups : groups_of all owner ≡ sorted_by octets_before n.groups =
      ap (λ (xs : List Record). map (λ (r : Record). r.rdata) (of_type 16 (in_order xs)))
      (no_names (103 ∷ 114 ∷ 111 ∷ 117 ∷ 112 ∷ []) n ∙ owned.groups) ∙ groups_read owner n.groups in
      let zone : labels_of (wire_of n.zone) ≡ n.zone = labels_of-wire n.zone (wire_of n.zone) is.zone refl in
      rw (name_itself (zones_of apex))
      (λ i. Some (record { label = n.label; zone = zone i; coo = coo i; groups = groups i }))

  -- the nodes
  no_node : (x : Record) → is_member apex x ≡ false → node_of apex all x ≡ None
  unfolding node_of
  no_node x f = rw f refl

  only_members : (xs : List Record)
      → filter_map (node_of apex all) xs ≡ filter_map (node_of apex all) (filter (is_member apex) xs)
  only_members xs = only_kept (node_of apex all) (is_member apex) no_node xs

  mapped : (ns : List Node) → AllByRecursion (λ n. node_of apex all (member apex n) ≡ Some (with_sorted_groups n)) ns
      → filter_map (node_of apex all) (map (member apex) ns) ≡ map with_sorted_groups ns
  mapped [] h = refl
  mapped (n ∷ ns) h = rw h.0 (ap (λ (xs : List Node). with_sorted_groups n ∷ xs) (mapped ns h.1))

  pub nodes_read : NoFault nodes → AllByRecursion IsNode nodes → nodes_of apex all ≡ in_label_order nodes
  nodes_read ok are =
      let each : AllByRecursion (λ n. node_of apex all (member apex n) ≡ Some (with_sorted_groups n)) nodes =
      both_each nodes are (all_owned apex nodes ok.labels) in
      let order : in_order (map (member apex) nodes) ≡ map (member apex) (sorted_by label_before nodes) =
      in_order_puts (map (member apex) nodes)
      ∙ puts_map (member apex) label_before before nodes
      (pairs_differ same_node (λ x y. before (member apex y) (member apex x) ≡ label_before y x)
      (λ x y f. members_ordered apex x y f) nodes ok.labels) in
      only_members (in_order all)
      ∙ (ap (filter_map (node_of apex all)) (in_order_filter (is_member apex) all ∙ (ap in_order members ∙ order))
      ∙ (mapped (sorted_by label_before nodes)
      (all_sorted label_before (λ n. node_of apex all (member apex n) ≡ Some (with_sorted_groups n)) nodes each)
      ∙ sym (sorted_map with_sorted_groups label_before (λ x y. refl) nodes)))
    where
      both_each : (ns : List Node) → AllByRecursion IsNode ns → AllByRecursion (Owned apex flat) ns
          → AllByRecursion (λ n. node_of apex all (member apex n) ≡ Some (with_sorted_groups n)) ns
      both_each [] h k = tt
      both_each (n ∷ ns) h k = (node_read n h.0 k.0, both_each ns h.1 k.1)

  zones_once : NoFault nodes → has_twice same_zone (in_label_order nodes) ≡ false
  zones_once ok =
      twice_sorted label_before same_zone (λ x y. names_equal.symm x.zone y.zone) (map with_sorted_groups nodes)
      ∙ (same_zones nodes ∙ ok.zones)
    where
      any_zones : (z : Node) (ns : List Node)
          → list_any (λ y. same_zone z y) (map with_sorted_groups ns) ≡ list_any (λ y. same_zone z y) ns
      any_zones z [] = refl
      any_zones z (n ∷ ns) = ap (λ b. same_zone z n || b) (any_zones z ns)

      same_zones : (ns : List Node) → has_twice same_zone (map with_sorted_groups ns) ≡ has_twice same_zone ns
      same_zones [] = refl
      same_zones (n ∷ ns) = ap (λ b. b || has_twice same_zone (map with_sorted_groups ns)) (any_zones n ns)
          ∙ ap (λ b. list_any (λ y. same_zone n y) ns || b) (same_zones ns)

  listed : NoFault nodes → AllByRecursion IsNode nodes → listing_of apex all ≡ Ok (in_label_order nodes)
  listed ok are = rw (nodes_read ok are, not_broken ok, zones_once ok) refl

  pub lists : NoFault nodes → AllByRecursion IsNode nodes
      → listing_of apex (in_order (distinct all)) ≡ Ok (in_label_order nodes)
  lists ok are =
      let once : distinct all ≡ all = all_distinct all (records_once ok.labels (no_text_twice nodes ok.groups)) in
      order_is_free apex (in_order (distinct all)) all
      (ap (λ (xs : List Record). in_order (in_order xs)) once ∙ order_twice all) ∙ listed ok are
    where
      order_twice : (rs : List Record) → in_order (in_order rs) ≡ in_order rs
      order_twice rs =
          in_order_puts (in_order rs)
          ∙ (alike before before_ranks (puts before (in_order rs)) (puts before rs)
          (ascends_puts before before_ranks (in_order rs)) (ascends_puts before before_ranks rs)
          (λ z. puts_keep before before_ranks z (in_order rs) ∙ ap (filter (ties before z)) (in_order_puts rs))
          ∙ sym (in_order_puts rs))

pub lists_its_nodes : ListsItsNodes
lists_its_nodes apex serial nodes are none =
    lists apex serial nodes (no_fault apex serial nodes none) (by_turns IsNode nodes are)
