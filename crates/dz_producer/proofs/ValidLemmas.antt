-- A catalog that is made is a valid zone.
use Rattle.std.proofs.Common.{◌≡◌, ℕ, Bool, true, false, not, ◌||◌, ◌&&◌, List, [], ◌∷◌, ◌++◌, length, refl, sym, ◌∙◌}
use Rattle.std.proofs.Common.{ap, Some, None, Option}
use Rattle.std.specs.Prelude.{◌==◌, nat_lt, codes, count_by, if◌then◌else◌}
use Rattle.std.specs.List.{AllByRecursion, list_any, flat_map}
use Rattle.std.proofs.lemmas.Bool.{or_parts, not-false}
use Rattle.std.proofs.lemmas.List.Sums.{length-filter}
use Rattle.dz_name.specs.Name.{same_name, is_within}
use Rattle.dz_name.specs.Words.{Name}
use Rattle.dz_name.proofs.PartLemmas.{within_suffix}
use Rattle.dz_member.specs.declared.listing.Node.{Node}
use Rattle.dz_member.specs.Listing.{same_zone}
use Rattle.dz_settings.specs.Twice.{has_twice}
use Rattle.dz_record.specs.Record.{Record}
use Rattle.dz_record.specs.Records.{distinct}
use Rattle.dz_outward.specs.Stream.{is_fit}
use Rattle.dz_zone.specs.Valid.{some_two, at_apex, no_soa, soa_twice, soa_below, no_ns, out_of_zone, cname_beside}
use Rattle.dz_zone.specs.Valid.{owned_twice, clash, both_are, fault_of}
use Rattle.dz_zone.specs.Version.{zone_of}
use Rattle.dz_zone.specs.declared.fault.ZoneFault.{ZoneFault}
use Rattle.dz_zone.specs.declared.fault.ZoneFault.TheVariants as faults
use Rattle.dz_producer.specs.Faults.{same_node, has_bad_group, is_long, too_many, produce_fault}
use Rattle.dz_producer.specs.Records.{soa, name_server, version_property, node_records, plain_records, digest}
use Rattle.dz_producer.specs.Records.{all_records}
use Rattle.dz_producer.specs.declared.fault.ProduceFault.TheVariants.{LabelTwice, BadGroup, NameTooLong, TooMany}
use Rattle.dz_producer.specs.declared.fault.ProduceFault.TheVariants.{ZoneTwice}
use Rattle.dz_producer.proofs.CatalogLemmas.{one_soa}
use Rattle.dz_producer.proofs.ListingLemmas.{NoFault, no_fault, no_text_twice, records_once}
use Rattle.dz_producer.proofs.OwnerLemmas.{name_itself}
use Rattle.dz_producer.proofs.PairLemmas.{each_more, any_no, or_false, all_distinct}
use Rattle.dz_producer.proofs.RecordLemmas.{all_append, all_node, all_nodes}

-- ---- names, records and octets of nodes without a fault
pub record Fitting (apex : Name) (serial : ℕ) (nodes : List Node) : Type 0 where
  pub names : list_any (λ r. is_long r.owner) (plain_records apex serial nodes) ≡ false
  pub few : nat_lt 250000 (length (all_records apex serial nodes)) ≡ false
  pub fit : is_fit (zone_of apex (all_records apex serial nodes)) ≡ true

pub fitting : (apex : Name) (serial : ℕ) (nodes : List Node) → produce_fault apex serial nodes ≡ None
    → Fitting apex serial nodes
unfolding produce_fault
fitting apex serial nodes h =
    let size : Bool = nat_lt 250000 (length (all_records apex serial nodes)) in
    let fit : Bool = is_fit (zone_of apex (all_records apex serial nodes)) in
    let parts =
    two_of_five (has_twice same_node nodes) (list_any has_bad_group nodes)
    (list_any (λ r. is_long r.owner) (plain_records apex serial nodes)) (too_many apex serial nodes)
    (has_twice same_zone nodes) h in
    let many = or_parts size (not fit) (or_parts (nat_lt 65536 (length nodes)) (size || not fit) parts.1).1 in
    record { names = parts.0; few = many.0; fit = not-false fit many.1 }
  where
    two_of_five : (a b c d e : Bool) → (
        if a then Some LabelTwice else if b then Some BadGroup else if c then Some NameTooLong else if d
        then Some TooMany
        else if e then Some ZoneTwice else None
        ) ≡ None
        → (c ≡ false) × (d ≡ false)
    two_of_five true b c d e h = absurd (cc)
    two_of_five false true c d e h = absurd (cc)
    two_of_five false false true d e h = absurd (cc)
    two_of_five false false false true e h = absurd (cc)
    two_of_five false false false false e h = (refl, refl)

pub distinct_all : (apex : Name) (serial : ℕ) (nodes : List Node) → NoFault nodes
    → distinct (all_records apex serial nodes) ≡ all_records apex serial nodes
distinct_all apex serial nodes ok =
    all_distinct (all_records apex serial nodes)
    (records_once apex serial nodes ok.labels (no_text_twice nodes ok.groups))

-- ---- no two of a kind that no record has
and_none : (a : Bool) → (a && false) ≡ false
and_none true = refl
and_none false = refl

no_two : (test : Record → Record → Bool) (kind : ℕ)
    → ((r s : Record) → (r.kind == kind) ≡ false → (s.kind == kind) ≡ false → test r s ≡ false) → (rs : List Record)
    → AllByRecursion (λ r. (r.kind == kind) ≡ false) rs → some_two test rs ≡ false
unfolding some_two
no_two test kind f [] h = refl
no_two test kind f (r ∷ rs) h =
    or_false (list_any (test r) rs) (some_two test rs)
    (any_no (test r) rs
    (each_more (λ s. (s.kind == kind) ≡ false) (λ s. test r s ≡ false) (λ s k. f r s h.0 k) rs h.1))
    (no_two test kind f rs h.1)

no_clash : (r s : Record) → (r.kind == 5) ≡ false → (s.kind == 5) ≡ false → clash r s ≡ false
unfolding clash
no_clash r s f g = rw (f, g) (and_none (same_name r.owner s.owner))

not_both : (kind : ℕ) (r s : Record) → (r.kind == kind) ≡ false → (s.kind == kind) ≡ false → both_are kind r s ≡ false
unfolding both_are
not_both kind r s f g = rw f (and_none (same_name r.owner s.owner))

-- a name with labels before it is within it
inside : (front apex : Name) → not (is_within (front ++ apex) apex) ≡ false
inside front apex = rw ((within_suffix (front ++ apex) apex).1 (front, refl)) refl

abbrev by_faults : Bool → Bool → Bool → Bool → Bool → Bool → Bool → Bool → Bool → Option ZoneFault
by_faults a b c d e f g h i =
    if a then Some faults.NoSoa
    else if b then Some faults.SoaTwice
    else if c then Some faults.SoaBelow
    else if d then Some faults.NoNs
    else if e then Some faults.OutOfZone
    else if f then Some faults.CnameBeside
    else if g then Some faults.CnameTwice
    else if h then Some faults.DnameTwice
    else if i then Some faults.TooMany
    else None

-- ---- the records of a catalog
module _ (apex : List (List ℕ)) (serial : ℕ) (nodes : List Node) where
  abbrev last : Record
  last = digest apex serial (plain_records apex serial nodes)

  abbrev all : List Record
  all = all_records apex serial nodes

  each : (P : Record → Type 0) → P (soa apex serial) → P (name_server apex) → P (version_property apex)
      → ((node : Node) → AllByRecursion P (node_records apex node)) → P last → AllByRecursion P all
  each P a b c f d =
      let flat : List Record = flat_map (node_records apex) nodes in
      (a, (b, (c, all_append P flat (last ∷ []) (all_nodes P apex f nodes) (d, tt))))

  of_no_kind : (kind : ℕ) → (6 == kind) ≡ false → (2 == kind) ≡ false → (16 == kind) ≡ false → (12 == kind) ≡ false
      → (63 == kind) ≡ false → AllByRecursion (λ r. (r.kind == kind) ≡ false) all
  of_no_kind kind a b c d e =
      each (λ r. (r.kind == kind) ≡ false) a b c
      (λ node. all_node (λ r. (r.kind == kind) ≡ false) apex node d (λ z. d) (λ z. c)) e

  some_soa : no_soa apex all ≡ false
  some_soa = rw (name_itself apex) refl

  not_twice : soa_twice apex all ≡ false
  not_twice =
      let count : count_by (at_apex 6 apex) all ≡ 1 =
      sym (length-filter (at_apex 6 apex) all) ∙ ap (λ (xs : List Record). length xs) (one_soa apex serial nodes) in
      rw count refl

  none_below : soa_below apex all ≡ false
  none_below =
      let p : Record → Bool = λ r. r.kind == 6 && not (same_name r.owner apex) in
      let at : p (soa apex serial) ≡ false = rw (name_itself apex) refl in
      any_no p all (each (λ r. p r ≡ false) at refl refl
      (λ node. all_node (λ r. p r ≡ false) apex node refl (λ c. refl) (λ g. refl)) refl)

  some_server : no_ns apex all ≡ false
  some_server = rw (name_itself apex) refl

  all_inside : out_of_zone apex all ≡ false
  all_inside =
      let p : Record → Bool = λ r. not (is_within r.owner apex) in
      any_no p all
      (each (λ r. p r ≡ false) (inside [] apex) (inside [] apex) (inside (codes "version" ∷ []) apex)
      (λ node. all_node (λ r. p r ≡ false) apex node (inside (node.label ∷ codes "zones" ∷ []) apex)
      (λ c. inside (codes "coo" ∷ node.label ∷ codes "zones" ∷ []) apex)
      (λ g. inside (codes "group" ∷ node.label ∷ codes "zones" ∷ []) apex)) (inside [] apex))

  none_beside : cname_beside all ≡ false
  none_beside = no_two clash 5 no_clash all (of_no_kind 5 refl refl refl refl refl)

  no_cnames : owned_twice 5 all ≡ false
  no_cnames = no_two (both_are 5) 5 (not_both 5) all (of_no_kind 5 refl refl refl refl refl)

  no_dnames : owned_twice 39 all ≡ false
  no_dnames = no_two (both_are 39) 39 (not_both 39) all (of_no_kind 39 refl refl refl refl refl)

  pub valid : nat_lt 250000 (length all) ≡ false → fault_of apex all ≡ None
  unfolding fault_of
  valid few =
      λ i. by_faults (some_soa i) (not_twice i) (none_below i) (some_server i) (all_inside i) (none_beside i)
      (no_cnames i)
      (no_dnames i) (few i)

pub produced_faultless : (apex : Name) (serial : ℕ) (nodes : List Node) → produce_fault apex serial nodes ≡ None
    → fault_of apex (distinct (all_records apex serial nodes)) ≡ None
produced_faultless apex serial nodes none =
    ap (fault_of apex) (distinct_all apex serial nodes (no_fault apex serial nodes none)) ∙ valid apex serial nodes
    (fitting apex serial nodes none).few
