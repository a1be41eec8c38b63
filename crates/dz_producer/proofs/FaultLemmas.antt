-- The first fault of nodes, by the tests that the code makes.
use Rattle.std.proofs.Common.{◌≡◌, ℕ, Bool, true, false, ◌||◌, List, [], ◌∷◌, length, refl, sym, ◌∙◌, ap, arith}
use Rattle.std.proofs.Common.{length-append, Some, None}
use Rattle.std.specs.Prelude.{nat_lt, sum_by}
use Rattle.std.specs.Borrow.{Bor}
use Rattle.std.specs.List.{list_any, flat_map}
use Rattle.std.proofs.lemmas.List.{length-map}
use Rattle.std.proofs.lemmas.List.Folds.{list_any-append}
use Rattle.dz_member.specs.Listing.{same_zone}
use Rattle.dz_settings.specs.Twice.{has_twice}
use Rattle.dz_member.specs.declared.listing.Node.{Node}
use Rattle.dz_record.specs.Record.{Record}
use Rattle.dz_catalog.specs.Broken.{version_name}
use Rattle.dz_outward.specs.Stream.{is_fit}
use Rattle.dz_producer.specs.Faults.{same_node, has_bad_group, is_long, too_many, produce_fault}
use Rattle.dz_producer.specs.Produced.{produced}
use Rattle.dz_producer.specs.Records.{plain_records, all_records, node_records, digest}
use Rattle.dz_producer.specs.declared.fault.ProduceFault.TheVariants.{LabelTwice, BadGroup, NameTooLong, TooMany}
use Rattle.dz_producer.specs.declared.fault.ProduceFault.TheVariants.{ZoneTwice}
use Rattle.dz_producer.specs.inner.Nodes.{values, record_count, whole_count}
use Rattle.dz_producer.proofs.MakingLemmas.{above_room}
use Rattle.dz_producer.proofs.NodeLemmas.{any_nodes, flat_values}
use Rattle.dz_producer.proofs.SizeLemmas.{nodes_length}

or_true : (a : Bool) → (a || true) ≡ true
or_true true = refl
or_true false = refl

module _ (apex : List (List ℕ)) (serial : ℕ) where
  abbrev long : Record → Bool
  long r = is_long r.owner

  any_flat : (ns : List Node)
      → list_any long (flat_map (node_records apex) ns) ≡ list_any (λ n. list_any long (node_records apex n)) ns
  any_flat [] = refl
  any_flat (n ∷ ns) = list_any-append long (node_records apex n) (flat_map (node_records apex) ns)
      ∙ ap (λ b. list_any long (node_records apex n) || b) (any_flat ns)

  -- some owner is too long where that of the version is, or one of a node
  long_bits : (a v rest : Bool) → (v ≡ false → a ≡ false) → (a || (a || (v || rest))) ≡ (v || rest)
  long_bits true true rest h = refl
  long_bits false v rest h = refl
  long_bits true false rest h = absurd (let e = h refl in cc)

  pub plain_long : (nodes : List (Bor Node))
      → list_any long
      (plain_records apex serial (values nodes))
      ≡ (is_long (version_name apex) || list_any (λ b. list_any long (node_records apex b.now)) nodes)
  plain_long nodes =
      let rest : Bool = list_any long (flat_map (node_records apex) (values nodes)) in
      long_bits (is_long apex) (is_long (version_name apex)) rest
      (λ h. above_room (118 ∷ 101 ∷ 114 ∷ 115 ∷ 105 ∷ 111 ∷ 110 ∷ []) apex h)
      ∙ ap (λ b. is_long (version_name apex) || b)
      (any_flat (values nodes) ∙ sym (any_nodes (λ n. list_any long (node_records apex n)) nodes))

  -- how many records there are
  pub all_length : (nodes : List (Bor Node)) → length (all_records apex serial (values nodes)) ≡ whole_count nodes
  all_length nodes =
      let flat : List Record = flat_map (node_records apex) (values nodes) in
      let n : length flat ≡ sum_by (λ b. record_count b.now) nodes =
      sym (ap length (flat_values (node_records apex) nodes)) ∙ nodes_length apex nodes in
      omega (
        arith,
        length-append (plain_records apex serial (values nodes))
            (digest apex serial (plain_records apex serial (values nodes)) ∷ []),
      )

  module _ (nodes : List (Bor Node)) where
    pub label_fault : true ≡ has_twice same_node (values nodes)
        → produce_fault apex serial (values nodes) ≡ Some LabelTwice
    unfolding produce_fault
    label_fault a = rw (← a) refl

    module _ (a : false ≡ has_twice same_node (values nodes)) where
      pub group_fault : true ≡ list_any (λ b. has_bad_group b.now) nodes
          → produce_fault apex serial (values nodes) ≡ Some BadGroup
      unfolding produce_fault
      group_fault b = let t : list_any has_bad_group (values nodes) ≡ true =
          sym (b ∙ any_nodes has_bad_group nodes) in rw (← a, t) refl

      module _ (b : false ≡ list_any (λ b. has_bad_group b.now) nodes) where
        groups_good : list_any has_bad_group (values nodes) ≡ false
        groups_good = sym (b ∙ any_nodes has_bad_group nodes)

        pub name_fault : (is_long (version_name apex) || list_any (λ b. list_any long (node_records apex b.now))
            nodes) ≡ true → produce_fault apex serial (values nodes) ≡ Some NameTooLong
        unfolding produce_fault
        name_fault t = let l = plain_long nodes ∙ t in rw (← a, groups_good, l) refl

        module _ (v : false ≡ is_long (version_name apex))
            (s : false ≡ list_any (λ b. list_any long (node_records apex b.now)) nodes) where
          names_short : list_any long (plain_records apex serial (values nodes)) ≡ false
          names_short = plain_long nodes ∙ rw (← v, ← s) refl

          pub many_fault : too_many apex serial (values nodes) ≡ true
              → produce_fault apex serial (values nodes) ≡ Some TooMany
          unfolding produce_fault
          many_fault t = rw (← a, groups_good, names_short, t) refl

          pub zone_fault : too_many apex serial (values nodes) ≡ false → true ≡ has_twice same_zone (values nodes)
              → produce_fault apex serial (values nodes) ≡ Some ZoneTwice
          unfolding produce_fault
          zone_fault f z = rw (← a, groups_good, names_short, f, ← z) refl

          pub none_holds : too_many apex serial (values nodes) ≡ false → false ≡ has_twice same_zone (values nodes)
              → produce_fault apex serial (values nodes) ≡ None
          unfolding produce_fault
          none_holds f z = rw (← a, groups_good, names_short, f, ← z) refl

    -- too many nodes, records or octets
    nodes_length_is : length (values nodes) ≡ length nodes
    nodes_length_is = length-map nodes (λ b. b.now)

    pub many_nodes : nat_lt 65536 (length nodes) ≡ true → too_many apex serial (values nodes) ≡ true
    many_nodes t = rw (nodes_length_is, t) refl

    pub many_records : nat_lt 250000 (whole_count nodes) ≡ true → too_many apex serial (values nodes) ≡ true
    many_records t = rw (all_length nodes, t) (or_true (nat_lt 65536 (length (values nodes))))

    pub many_octets : is_fit (produced apex serial (values nodes)) ≡ false → too_many apex serial (values nodes) ≡ true
    many_octets f =
        rw f (ap (λ b. nat_lt 65536 (length (values nodes)) || b)
        (or_true (nat_lt 250000 (length (all_records apex serial (values nodes)))))
        ∙ or_true (nat_lt 65536 (length (values nodes))))

    pub not_many : nat_lt 65536 (length nodes) ≡ false → nat_lt 250000 (whole_count nodes) ≡ false
        → is_fit (produced apex serial (values nodes)) ≡ true → too_many apex serial (values nodes) ≡ false
    not_many n r o = rw (nodes_length_is, n, all_length nodes, r, o) refl
