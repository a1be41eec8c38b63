-- The difference of a change is a whole incremental form, of the records of the catalog after the change.
use Rattle.std.proofs.Common.{◌≡◌, ℕ, Bool, true, false, not, List, [], ◌∷◌, ◌++◌, length, refl, sym, ◌∙◌, ap, subst}
use Rattle.std.proofs.Common.{append_assoc, append-nil, Some, None, Option}
use Rattle.std.specs.Prelude.{filter, nat_lt, if◌then◌else◌}
use Rattle.std.specs.List.{flat_map}
use Rattle.std.proofs.lemmas.Grind.{flat_map-append}
use Rattle.dz_name.specs.Words.{Octets}
use Rattle.dz_serial.specs.Serial.{is_newer}
use Rattle.dz_member.specs.declared.listing.Node.{Node}
use Rattle.dz_record.specs.Record.{Record, same_record}
use Rattle.dz_record.specs.Records.{distinct, in_order, insertion}
use Rattle.dz_zone.specs.Valid.{fault_of}
use Rattle.dz_zone.specs.Version.{Zone, zone_of}
use Rattle.dz_zone.proofs.FaultLemmas.{fault_in_order}
use Rattle.dz_xfr.specs.Apex.{is_apex_soa, serial_of, held_serial}
use Rattle.dz_ixfr.specs.Incremental.{HasNoSoa, Difference, spelled, IsDifference, leads_last, others, IsIncremental}
use Rattle.dz_producer.specs.Amended.{IsCatalog, listed, is_dropped, gone, kept, nodes_after, no_label, digest_of}
use Rattle.dz_producer.specs.Amended.{deleted, added_records, difference, difference_octets, after_nodes, amend_fault}
use Rattle.dz_producer.specs.Faults.{produce_fault}
use Rattle.dz_producer.specs.Produced.{produced}
use Rattle.dz_producer.specs.Records.{soa, name_server, version_property, node_records, all_records}
use Rattle.dz_producer.specs.declared.fault.ProduceFault.{ProduceFault}
use Rattle.dz_producer.specs.declared.fault.AmendFault.TheVariants.{OldSerial, NoLabel}
use Rattle.dz_producer.proofs.AlikeLemmas.{Alike, Once, canonical_alike, in_order_alike, filter_alike, append_alike}
use Rattle.dz_producer.proofs.AlikeLemmas.{cons_alike, swap_alike, once_alike, once_front, once_back}
use Rattle.dz_producer.proofs.CatalogLemmas.{serial_is, once_all}
use Rattle.dz_producer.proofs.ChangingLemmas.{insertion_alike, swap_halves, flat_split, Deleted, deleted_all, Added}
use Rattle.dz_producer.proofs.ChangingLemmas.{added_all}
use Rattle.dz_producer.proofs.ListingLemmas.{NoFault, no_fault}
use Rattle.dz_producer.proofs.OwnerLemmas.{name_itself}
use Rattle.dz_producer.proofs.RecordLemmas.{all_append, all_node, all_nodes}
use Rattle.dz_producer.proofs.ValidLemmas.{distinct_all, produced_faultless}

-- ---- what is known of a change without a fault
pub record NoAmendFault (old : Zone) (serial : ℕ) (dropped : List Octets) (added : List Node) : Type 0 where
  pub newer : is_newer (held_serial old) serial ≡ true
  pub made : produce_fault old.apex serial (nodes_after old dropped added) ≡ None
  pub short : nat_lt 67108864 (length (difference_octets old serial dropped added)) ≡ false

pub no_amend_fault : (old : Zone) (serial : ℕ) (dropped : List Octets) (added : List Node)
    → amend_fault old serial dropped added ≡ None → NoAmendFault old serial dropped added
unfolding amend_fault
no_amend_fault old serial dropped added h =
    let parts =
    of_tests (is_newer (held_serial old) serial) (no_label old dropped)
    (produce_fault old.apex serial (nodes_after old dropped added))
    (nat_lt 67108864 (length (difference_octets old serial dropped added))) h in
    record { newer = parts.0; made = parts.1.0; short = parts.1.1 }
  where
    of_tests : (a b : Bool) (p : Option ProduceFault) (long : Bool)
        → (if not a then Some OldSerial else if b then Some NoLabel else after_nodes p long) ≡ None
        → (a ≡ true) × ((p ≡ None) × (long ≡ false))
    of_tests false b p long h = absurd (cc)
    of_tests true true p long h = absurd (cc)
    of_tests true false (Some fault) long h = absurd (cc)
    of_tests true false None true h = absurd (cc)
    of_tests true false None false h = (refl, (refl, refl))

-- ---- records without an SOA of the apex
pub flat_no_soa : (apex : List (List ℕ)) (nodes : List Node) → HasNoSoa apex (flat_map (node_records apex) nodes)
flat_no_soa apex nodes =
    all_nodes (λ r. is_apex_soa apex r ≡ false) apex
    (λ node. all_node (λ r. is_apex_soa apex r ≡ false) apex node refl (λ c. refl) (λ g. refl)) nodes

all_without : (apex : List (List ℕ)) (rs : List Record) → HasNoSoa apex rs
    → filter (λ r. not (is_apex_soa apex r)) rs ≡ rs
all_without apex [] h = refl
all_without apex (r ∷ rs) h = rw h.0 (ap (λ (xs : List Record). r ∷ xs) (all_without apex rs h.1))

pub soa_opens : (apex : List (List ℕ)) (serial : ℕ) → is_apex_soa apex (soa apex serial) ≡ true
soa_opens apex serial = name_itself apex

-- the server and the version
abbrev pub front : List (List ℕ) → List Record
front apex = name_server apex ∷ version_property apex ∷ []

-- the records without the SOA: those of some nodes and the digest before the rest
module _ (apex : List (List ℕ)) (last : Record) where
  -- the records of nodes, and all but the SOA
  abbrev of : List Node → List Record
  of ns = flat_map (node_records apex) ns

  abbrev without_soa : List Node → List Record
  without_soa ns = front apex ++ (of ns ++ last ∷ [])

  -- those of the nodes that pass a test, preceded by the last record
  pub gone_first : (p : Node → Bool) (nodes : List Node)
      → Once (without_soa nodes)
      → Alike (without_soa nodes)
      ((of (filter p nodes) ++ last ∷ []) ++ (front apex ++ of (filter (λ n. not (p n)) nodes)))
  gone_first p nodes once =
      let flat : List Record = of nodes in
      let some : List Record = of (filter p nodes) in
      let rest : List Record = of (filter (λ n. not (p n)) nodes) in
      let split : Alike flat (some ++ rest) =
      flat_split (node_records apex) p nodes
      (once_front flat (last ∷ []) (once_back (front apex) (flat ++ last ∷ []) once)) in
      let first : Alike (front apex ++ (flat ++ last ∷ [])) (front apex ++ ((some ++ rest) ++ last ∷ [])) =
      append_alike (front apex) (front apex) (flat ++ last ∷ []) ((some ++ rest) ++ last ∷ []) (λ w. refl)
      (append_alike flat (some ++ rest) (last ∷ []) (last ∷ []) split (λ w. refl)) in
      let regroup : front apex ++ ((some ++ rest) ++ last ∷ []) ≡ front apex ++ (some ++ (rest ++ last ∷ [])) =
      ap (λ (xs : List Record). front apex ++ xs) (append_assoc some rest (last ∷ [])) in
      let once_there : Once (front apex ++ (some ++ (rest ++ last ∷ []))) =
      subst Once regroup (once_alike (front apex ++ (flat ++ last ∷ []))
      (front apex ++ ((some ++ rest) ++ last ∷ [])) first once) in
      let second : Alike (front apex ++ (some ++ (rest ++ last ∷ []))) (some ++ (front apex ++ (rest ++ last ∷ []))) =
      swap_alike (front apex) some (rest ++ last ∷ []) once_there in
      let once_behind : Once (front apex ++ (rest ++ last ∷ [])) =
      once_back some (front apex ++ (rest ++ last ∷ []))
      (once_alike (front apex ++ (some ++ (rest ++ last ∷ [])))
      (some ++ (front apex ++ (rest ++ last ∷ []))) second once_there) in
      let third : Alike (some ++ (front apex ++ (rest ++ last ∷ []))) (some ++ ((last ∷ []) ++ (front apex ++ rest))) =
      append_alike some some (front apex ++ (rest ++ last ∷ [])) ((last ∷ []) ++ (front apex ++ rest)) (λ w. refl)
      (swap_halves (front apex ++ rest) (last ∷ []) once_behind) in
      let end : some ++ ((last ∷ []) ++ (front apex ++ rest)) ≡ (some ++ last ∷ []) ++ (front apex ++ rest) =
      sym (append_assoc some (last ∷ []) (front apex ++ rest)) in
      λ z. first z ∙ (ap (filter (same_record z)) regroup ∙ (second z ∙ (third z ∙ ap (filter (same_record z)) end)))

  -- those of the second of two lists of nodes, preceded by the last record
  pub added_first : (nodes more : List Node) → Once (without_soa (nodes ++ more))
      → Alike (without_soa (nodes ++ more)) ((of more ++ last ∷ []) ++ (front apex ++ of nodes))
  added_first nodes more once =
      let few : List Record = of nodes in
      let new : List Record = of more in
      let joined : of (nodes ++ more) ++ last ∷ [] ≡ few ++ (new ++ last ∷ []) =
      ap (λ (xs : List Record). xs ++ last ∷ []) (flat_map-append (node_records apex) nodes more)
      ∙ append_assoc few new (last ∷ []) in
      let whole : without_soa (nodes ++ more) ≡ (front apex ++ few) ++ (new ++ last ∷ []) =
      ap (λ (xs : List Record). front apex ++ xs) joined in
      λ z. ap (filter (same_record z)) whole
      ∙ swap_halves (front apex ++ few) (new ++ last ∷ []) (subst Once whole once) z

-- ---- a change of a catalog
module _ (old : Zone) (serial : ℕ) (dropped : List Octets) (added : List Node) (catalog : IsCatalog old)
    (ok : NoAmendFault old serial dropped added) where
  abbrev apex : List (List ℕ)
  apex = old.apex

  abbrev held : ℕ
  held = held_serial old

  abbrev nodes : List Node
  nodes = listed old

  abbrev more : List Node
  more = nodes_after old dropped added

  abbrev kept_flat : List Record
  kept_flat = flat_map (node_records apex) (kept old dropped)

  abbrev first : Record
  first = soa apex serial

  pub old_is : NoFault nodes
  old_is = no_fault apex held nodes catalog.faultless

  pub new_is : NoFault more
  new_is = no_fault apex serial more ok.made

  -- the serials
  pub old_number : serial_of (soa apex held) ≡ held
  old_number = sym (ap held_serial catalog.made ∙ serial_is apex held nodes)

  -- the old records
  pub records_are : old.records ≡ in_order (all_records apex held nodes)
  records_are = ap (λ (z : Zone). z.records) catalog.made ∙ ap in_order (distinct_all apex held nodes old_is)

  old_alike : Alike old.records (all_records apex held nodes)
  old_alike z = ap (filter (same_record z)) records_are ∙ in_order_alike (all_records apex held nodes) z

  abbrev old_rest : List Record
  old_rest = front apex ++ (flat_map (node_records apex) nodes ++ digest_of apex held nodes ∷ [])

  old_once : Once old_rest
  old_once = once_back (soa apex held ∷ []) old_rest (once_all apex held nodes old_is)

  others_are : filter (λ r. not (is_apex_soa apex r)) (all_records apex held nodes) ≡ old_rest
  others_are =
      let flat : List Record = flat_map (node_records apex) nodes in
      let none : HasNoSoa apex old_rest = (
        refl,
        (
          refl,
          all_append (λ r. is_apex_soa apex r ≡ false) flat (digest_of apex held nodes ∷ [])
              (flat_no_soa apex nodes) (refl, tt),
        ),
      ) in
      rw (soa_opens apex held) (all_without apex old_rest none)

  others_alike : Alike (others old) (deleted old dropped ++ (front apex ++ kept_flat))
  others_alike z =
      filter_alike (λ r. not (is_apex_soa apex r)) old.records (all_records apex held nodes) old_alike z
      ∙ (ap (filter (same_record z)) others_are
      ∙ gone_first apex (digest_of apex held nodes) (is_dropped dropped) nodes old_once z)

  -- what goes
  pub goes : Deleted (others old) (deleted old dropped) (front apex ++ kept_flat)
  goes =
      deleted_all (others old) (deleted old dropped) (front apex ++ kept_flat) others_alike
      (once_alike old_rest (deleted old dropped ++ (front apex ++ kept_flat))
      (gone_first apex (digest_of apex held nodes) (is_dropped dropped) nodes old_once) old_once)

  -- what comes
  abbrev new_rest : List Record
  new_rest = front apex ++ (flat_map (node_records apex) more ++ digest_of apex serial more ∷ [])

  new_once : Once new_rest
  new_once = once_back (first ∷ []) new_rest (once_all apex serial more new_is)

  new_alike : Alike new_rest (added_records old serial dropped added ++ (front apex ++ kept_flat))
  new_alike = added_first apex (digest_of apex serial more) (kept old dropped) added new_once

  pub comes : Added goes.middle (added_records old serial dropped added) (front apex ++ kept_flat)
  comes =
      added_all goes.middle (added_records old serial dropped added) (front apex ++ kept_flat) goes.left
      (once_alike new_rest (added_records old serial dropped added ++ (front apex ++ kept_flat)) new_alike new_once)

  -- the records after the change
  abbrev pub zone : List Record
  zone = insertion first comes.after

  zone_alike : Alike zone (all_records apex serial more)
  zone_alike z =
      insertion_alike first comes.after z
      ∙ cons_alike first comes.after new_rest (λ w. comes.whole w ∙ sym (new_alike w)) z

  pub zone_is : zone_of apex zone ≡ produced apex serial more
  zone_is =
      ap (λ (rs : List Record). record { apex = apex; records = rs })
      (canonical_alike zone (all_records apex serial more) zone_alike)

  pub zone_faultless : fault_of apex (distinct zone) ≡ None
  zone_faultless =
      sym (fault_in_order apex (distinct zone))
      ∙ (ap (fault_of apex) (canonical_alike zone (all_records apex serial more) zone_alike)
      ∙ (fault_in_order apex (distinct (all_records apex serial more)) ∙ produced_faultless apex serial more ok.made))

  -- the difference
  abbrev change : Difference
  change =
      record {
        old = soa apex held;
        deleted = deleted old dropped;
        new = first;
        added = added_records old serial dropped added;
      }

  is_difference : IsDifference apex held (others old) change comes.after
  is_difference = record {
    old = soa_opens apex held;
    old_serial = old_number;
    deleted = all_append (λ r. is_apex_soa apex r ≡ false) (flat_map (node_records apex) (gone old dropped))
        (digest_of apex held nodes ∷ []) (flat_no_soa apex (gone old dropped)) (refl, tt);
    middle = goes.middle;
    deletes = goes.deletes;
    new = soa_opens apex serial;
    added = all_append (λ r. is_apex_soa apex r ≡ false) (flat_map (node_records apex) added)
        (digest_of apex serial more ∷ [])
        (flat_no_soa apex added) (refl, tt);
    adds = comes.adds;
  }

  difference_is : difference old serial dropped added ≡ first ∷ (flat_map spelled (change ∷ []) ++ first ∷ [])
  unfolding difference
  difference_is =
      let away : List Record = deleted old dropped in
      let new : List Record = added_records old serial dropped added in
      let closed : spelled change ++ first ∷ [] ≡ soa apex held ∷ (away ++ first ∷ (new ++ first ∷ [])) =
      ap (λ (xs : List Record). soa apex held ∷ xs) (append_assoc away (first ∷ new) (first ∷ [])) in
      sym (ap (λ (xs : List Record). first ∷ (xs ++ first ∷ [])) (append-nil (spelled change))
      ∙ ap (λ (xs : List Record). first ∷ xs) closed)

  pub is_incremental : IsIncremental old (difference old serial dropped added) zone
  is_incremental = record {
    first = first;
    differences = change ∷ [];
    last = first;
    after = comes.after;
    are = difference_is;
    opens = soa_opens apex serial;
    leads = leads_last is_difference refl;
    closes = soa_opens apex serial;
    same = refl;
    zone_is = refl;
  }
