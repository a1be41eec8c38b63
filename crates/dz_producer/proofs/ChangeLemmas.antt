-- The faults of a change, told without the change being made.
use Rattle.std.proofs.Common.{◌≡◌, ℕ, ◌+◌, ◌≤◌, Bool, true, false, List, [], ◌∷◌, ◌++◌, length, refl, sym, ◌∙◌, ap}
use Rattle.std.proofs.Common.{arith, Some, None, Option, inl, inr}
use Rattle.std.specs.Prelude.{nat_lt, not, is_some, ◌&&◌, ◌||◌, sum_by, filter, flat_map, if◌then◌else◌}
use Rattle.std.specs.List.{AllByRecursion, list_any, list_all}
use Rattle.std.proofs.lemmas.Bool.{cases_Bool, or_parts}
use Rattle.std.proofs.lemmas.Bool.Decides.{nat_tests}
use Rattle.std.proofs.lemmas.List.{append-nil}
use Rattle.std.proofs.lemmas.List.Concat.{flat_map-append}
use Rattle.std.proofs.lemmas.List.Folds.{list_any-append}
use Rattle.std.proofs.lemmas.List.Sums.{sum_by-cons, sum_by-append, sum_by_push}
use Rattle.dz_name.specs.Name.{wire_of, same_label}
use Rattle.dz_name.specs.Order.{same_label_decides}
use Rattle.dz_serial.specs.Serial.{is_newer}
use Rattle.dz_xfr.specs.Apex.{held_serial}
use Rattle.dz_settings.specs.Twice.{has_twice}
use Rattle.dz_member.specs.declared.listing.Node.{Node}
use Rattle.dz_record.specs.Record.{Record}
use Rattle.dz_zone.specs.Version.{Zone}
use Rattle.dz_producer.specs.Amended.{IsCatalog, listed, is_dropped, gone, kept, nodes_after, is_listed, no_label}
use Rattle.dz_producer.specs.Amended.{digest_of, deleted, added_records, difference, question_of, difference_octets}
use Rattle.dz_producer.specs.Amended.{after_nodes, amend_fault}
use Rattle.dz_producer.specs.Draft.{octets_of, spent, node_size, IsHeld}
use Rattle.dz_producer.specs.Faults.{has_bad_group, is_long, produce_fault}
use Rattle.dz_producer.specs.Records.{soa, plain_records, node_records}
use Rattle.dz_producer.specs.declared.fault.AmendFault.TheVariants.{OldSerial, NoLabel}
use Rattle.dz_producer.specs.declared.fault.ProduceFault.{ProduceFault}
use Rattle.dz_producer.specs.inner.Nodes.{record_count}
use Rattle.dz_producer.proofs.DraftLemmas.{long, size, IsUsable, is_usable, no_fault, apex_short, small_soa}
use Rattle.dz_producer.proofs.DraftLemmas.{small_digest, small_nodes, octets_nodes}
use Rattle.dz_producer.proofs.OctetLemmas.{Small, within_limit}
use Rattle.dz_producer.proofs.RecordLemmas.{all_append}
use Rattle.dz_producer.proofs.TwiceLemmas.{twice_push}

-- ---- some of the nodes
module _ {X : Type 0} (p : X → Bool) where
  pub all_some : (P : X → Type 0) (xs : List X) → AllByRecursion P xs → AllByRecursion P (filter p xs)
  all_some P [] all = tt
  all_some P (x ∷ xs) all =
      elim (cases_Bool (p x)) [ inl t ↦ rw t (all.0, all_some P xs all.1) | inr f ↦ rw f (all_some P xs all.1) ]

  any_some : (q : X → Bool) (xs : List X) → list_any q xs ≡ false → list_any q (filter p xs) ≡ false
  any_some q [] none = refl
  any_some q (x ∷ xs) none =
      let parts = or_parts (q x) (list_any q xs) none in
      elim (cases_Bool (p x))
      [ inl t ↦ rw (t, parts.0) (any_some q xs parts.1) | inr f ↦ rw f (any_some q xs parts.1) ]

  twice_some : (same : X → X → Bool) (xs : List X) → has_twice same xs ≡ false → has_twice same (filter p xs) ≡ false
  twice_some same [] once = refl
  twice_some same (x ∷ xs) once =
      let parts = or_parts (list_any (λ y. same x y) xs) (has_twice same xs) once in
      elim (cases_Bool (p x)) [
        | inl t ↦ rw (t, any_some (λ y. same x y) xs parts.0) (twice_some same xs parts.1)
        | inr f ↦ rw f (twice_some same xs parts.1)
      ]

  pub sum_some : (f : X → ℕ) (xs : List X) → sum_by f (filter p xs) ≤ sum_by f xs
  sum_some f [] = omega arith
  sum_some f (x ∷ xs) =
      let less = sum_some f xs in
      let sum : sum_by f (x ∷ xs) ≡ f x + sum_by f xs = sum_by-cons f x xs in
      elim (cases_Bool (p x)) [
        | inl t ↦
            let more : sum_by f (x ∷ filter p xs) ≡ f x + sum_by f (filter p xs) = sum_by-cons f x (filter p xs) in
            rw t (omega arith)
        | inr fails ↦ rw fails (omega arith)
      ]

  length_some : (xs : List X) → length (filter p xs) ≤ length xs
  length_some [] = omega arith
  length_some (x ∷ xs) =
      let less = length_some xs in
      elim (cases_Bool (p x)) [ inl t ↦ rw t (omega arith) | inr f ↦ rw f (omega arith) ]

  flat_some : {Y : Type 0} (q : Y → Bool) (f : X → List Y) (xs : List X) → list_any q (flat_map f xs) ≡ false
      → list_any q (flat_map f (filter p xs)) ≡ false
  flat_some q f [] none = refl
  flat_some q f (x ∷ xs) none =
      let parts = or_parts (list_any q (f x)) (list_any q (flat_map f xs))
      (sym (list_any-append q (f x) (flat_map f xs)) ∙ none) in
      elim (cases_Bool (p x)) [
        | inl t ↦ rw t (list_any-append q (f x) (flat_map f (filter p xs)) ∙ rw parts.0 (flat_some q f xs parts.1))
        | inr fails ↦ rw fails (flat_some q f xs parts.1)
      ]

pub usable_some : (p : Node → Bool) (apex : List (List ℕ)) (nodes : List Node) → IsUsable apex nodes
    → IsUsable apex (filter p nodes)
usable_some p apex nodes was =
    let n = length_some p nodes in
    let r = sum_some p record_count nodes in
    record {
      labels = twice_some p _ nodes was.labels;
      groups = any_some p has_bad_group nodes was.groups;
      version = was.version;
      names = flat_some p long (node_records apex) nodes was.names;
      few = below 65536 (length nodes) (length (filter p nodes)) n was.few;
      few_records = below 250000 (4 + sum_by record_count nodes) (4 + sum_by record_count (filter p nodes))
          (omega arith) was.few_records;
      zones = twice_some p _ nodes was.zones;
    }
  where
    below : (limit n m : ℕ) → m ≤ n → nat_lt limit n ≡ false → nat_lt limit m ≡ false
    below limit n m le h =
        let k : n ≤ limit = grind (arith, nat_tests) in
        let j : m ≤ limit = omega arith in
        grind (arith, nat_tests)

-- ---- the difference is within its limit
difference_sum : (a b : Record) (goes comes : List Record) → octets_of (a ∷ b ∷ (goes ++ a ∷ (comes ++ a ∷ [])))
    ≡ size a + size b + octets_of goes + size a + octets_of comes + size a
difference_sum a b goes comes =
    let n0 : octets_of (a ∷ b ∷ (goes ++ a ∷ (comes ++ a ∷ [])))
    ≡ size a + octets_of (b ∷ (goes ++ a ∷ (comes ++ a ∷ []))) =
    sum_by-cons size a (b ∷ (goes ++ a ∷ (comes ++ a ∷ []))) in
    let n1 : octets_of (b ∷ (goes ++ a ∷ (comes ++ a ∷ []))) ≡ size b + octets_of (goes ++ a ∷ (comes ++ a ∷ [])) =
    sum_by-cons size b (goes ++ a ∷ (comes ++ a ∷ [])) in
    let n2 : octets_of (goes ++ a ∷ (comes ++ a ∷ [])) ≡ octets_of goes + octets_of (a ∷ (comes ++ a ∷ [])) =
    sum_by-append size goes (a ∷ (comes ++ a ∷ [])) in
    let n3 : octets_of (a ∷ (comes ++ a ∷ [])) ≡ size a + octets_of (comes ++ a ∷ []) =
    sum_by-cons size a (comes ++ a ∷ []) in
    let n4 : octets_of (comes ++ a ∷ []) ≡ octets_of comes + size a = sum_by_push size comes a in
    omega arith

module _ (old : Zone) (serial : ℕ) (dropped : List (List ℕ)) (added : List Node) where
  pub within : IsUsable old.apex (listed old) → AllByRecursion IsHeld (listed old)
      → IsUsable old.apex (nodes_after old dropped added) → AllByRecursion IsHeld added
      → spent old.apex (listed old) + spent old.apex added ≤ 66990000
      → length (difference_octets old serial dropped added) ≤ 67108864
  unfolding difference
  within before held after held_added few =
      let apex : List (List ℕ) = old.apex in
      let leaves : List Node = gone old dropped in
      let stays : List Node = kept old dropped in
      let short : is_long apex ≡ false = apex_short apex before.version in
      let g = usable_some (is_dropped dropped) apex (listed old) before in
      let out : AllByRecursion Small (flat_map (node_records apex) leaves) =
      small_nodes apex leaves (all_some (is_dropped dropped) IsHeld (listed old) held) g.groups g.names in
      let groups = or_parts (list_any has_bad_group stays) (list_any has_bad_group added)
      (sym (list_any-append has_bad_group stays added) ∙ after.groups) in
      let flat : flat_map (node_records apex) (stays ++ added) ≡ flat_map (node_records apex) stays
      ++ flat_map (node_records apex) added = flat_map-append (node_records apex) stays added in
      let names = or_parts (list_any long (flat_map (node_records apex) stays))
      (list_any long (flat_map (node_records apex) added)) (sym (ap (list_any long) flat ∙ list_any-append long
      (flat_map (node_records apex) stays) (flat_map (node_records apex) added)) ∙ after.names) in
      let come : AllByRecursion Small (flat_map (node_records apex) added) =
      small_nodes apex added held_added groups.1 names.1 in
      let new_soa : Small (soa apex serial) = small_soa apex serial short in
      let old_soa : Small (soa apex (held_serial old)) = small_soa apex (held_serial old) short in
      let old_digest : Small (digest_of apex (held_serial old) (listed old)) =
      small_digest apex (held_serial old) (plain_records apex (held_serial old) (listed old)) short in
      let new_digest : Small (digest_of apex serial (nodes_after old dropped added)) =
      small_digest apex serial (plain_records apex serial (nodes_after old dropped added)) short in
      let goes : List Record = deleted old dropped in
      let comes : List Record = added_records old serial dropped added in
      let end : List Record = soa apex serial ∷ [] in
      let small_goes : AllByRecursion Small goes = all_append Small (flat_map (node_records apex) leaves)
      (digest_of apex (held_serial old) (listed old) ∷ []) out (old_digest, tt) in
      let small_comes : AllByRecursion Small comes = all_append Small (flat_map (node_records apex) added)
      (digest_of apex serial (nodes_after old dropped added) ∷ []) come (new_digest, tt) in
      let small_end : AllByRecursion Small (comes ++ end) = all_append Small comes end small_comes (new_soa, tt) in
      let small_all : AllByRecursion Small (difference old serial dropped added) = (
        new_soa,
        (old_soa, all_append Small goes (soa apex serial ∷ (comes ++ end)) small_goes (new_soa, small_end)),
      ) in
      let less = sum_some (is_dropped dropped) (node_size apex) (listed old) in
      let n0 = difference_sum (soa apex serial) (soa apex (held_serial old)) goes comes in
      let n1 : octets_of goes
      ≡ octets_of (flat_map (node_records apex) leaves) + size (digest_of apex (held_serial old) (listed old)) =
      sum_by_push size (flat_map (node_records apex) leaves) (digest_of apex (held_serial old) (listed old)) in
      let n2 : octets_of comes ≡ octets_of (flat_map (node_records apex) added) + size
      (digest_of apex serial (nodes_after old dropped added)) = sum_by_push size
      (flat_map (node_records apex) added) (digest_of apex serial (nodes_after old dropped added)) in
      let m0 : octets_of (flat_map (node_records apex) leaves) ≡ spent apex leaves = octets_nodes apex leaves in
      let m1 : octets_of (flat_map (node_records apex) added) ≡ spent apex added = octets_nodes apex added in
      let fits : length (wire_of apex) ≤ 255 = grind (arith, nat_tests) in
      let all_few : octets_of (difference old serial dropped added) ≤ 66994000 = omega arith in
      within_limit (question_of old) (difference old serial dropped added) fits small_all all_few

  -- ---- the first fault, by its tests
  pub amend_fine : is_newer (held_serial old) serial ≡ true → no_label old dropped ≡ false
      → produce_fault old.apex serial (nodes_after old dropped added) ≡ None
      → length (difference_octets old serial dropped added) ≤ 67108864 → amend_fault old serial dropped added ≡ None
  unfolding amend_fault
  amend_fine newer labels nodes short =
      let few : nat_lt 67108864 (length (difference_octets old serial dropped added)) ≡ false = not_lt short in
      rw (newer, labels, nodes, few) refl
    where
      not_lt : {n m : ℕ} → n ≤ m → nat_lt m n ≡ false
      not_lt {n} {m} h = grind (arith, nat_tests)

  pub tests_none : amend_fault old serial dropped added ≡ None → (is_newer (held_serial old) serial ≡ true)
      × ((no_label old dropped ≡ false) × (produce_fault old.apex serial (nodes_after old dropped added) ≡ None))
  unfolding amend_fault
  tests_none h = parts (is_newer (held_serial old) serial) (no_label old dropped)
      (produce_fault old.apex serial (nodes_after old dropped added))
      (nat_lt 67108864 (length (difference_octets old serial dropped added))) h
    where
      parts : (a b : Bool) (f : Option ProduceFault) (c : Bool)
          → (if not a then Some OldSerial else if b then Some NoLabel else after_nodes f c) ≡ None
          → (a ≡ true) × ((b ≡ false) × (f ≡ None))
      parts false b f c h = absurd (cc)
      parts true true f c h = absurd (cc)
      parts true false (Some f) c h = absurd (cc)
      parts true false None c h = (refl, (refl, refl))

  pub old_serial : is_newer (held_serial old) serial ≡ false → is_some (amend_fault old serial dropped added) ≡ true
  unfolding amend_fault
  old_serial h = rw h refl

  pub bad_label : no_label old dropped ≡ true → is_some (amend_fault old serial dropped added) ≡ true
  unfolding amend_fault
  bad_label h = rw h (either (is_newer (held_serial old) serial) (after_nodes (produce_fault old.apex serial
      (nodes_after old dropped added)) (nat_lt 67108864 (length (difference_octets old serial dropped added)))))
    where
      either : (a : Bool) (f : Option Rattle.dz_producer.specs.declared.fault.AmendFault.AmendFault)
          → is_some (if not a then Some OldSerial else if true then Some NoLabel else f) ≡ true
      either true f = refl
      either false f = refl

  pub bad_nodes : is_some (produce_fault old.apex serial (nodes_after old dropped added)) ≡ true
      → is_some (amend_fault old serial dropped added) ≡ true
  unfolding amend_fault
  bad_nodes h = either (is_newer (held_serial old) serial) (no_label old dropped)
      (produce_fault old.apex serial (nodes_after old dropped added))
      (nat_lt 67108864 (length (difference_octets old serial dropped added))) h
    where
      either : (a b : Bool) (f : Option ProduceFault) (c : Bool) → is_some f ≡ true
          → is_some (if not a then Some OldSerial else if b then Some NoLabel else after_nodes f c) ≡ true
      either false b f c h = refl
      either true true f c h = refl
      either true false (Some f) c h = refl
      either true false None c h = absurd (cc)

  -- nodes that were told to be good
  pub change_fine : IsCatalog old → AllByRecursion IsHeld (listed old) → AllByRecursion IsHeld added
      → is_newer (held_serial old) serial ≡ true → no_label old dropped ≡ false
      → produce_fault old.apex serial (nodes_after old dropped added) ≡ None
      → spent old.apex (listed old) + spent old.apex added ≤ 66990000 → amend_fault old serial dropped added ≡ None
  change_fine catalog held held_added newer labels nodes few =
      amend_fine newer labels nodes (within (is_usable old.apex (held_serial old) (listed old) catalog.faultless) held
      (is_usable old.apex serial (nodes_after old dropped added) nodes) held_added few)

-- nothing is added
pub drops_fine : (old : Zone) (serial : ℕ) (dropped : List (List ℕ)) → IsCatalog old
    → AllByRecursion IsHeld (listed old) → is_newer (held_serial old) serial ≡ true → no_label old dropped ≡ false
    → spent old.apex (listed old) ≤ 66990000
    → amend_fault old serial dropped [] ≡ None
drops_fine old serial dropped catalog held newer labels few =
    let p = λ (n : Node). not (is_dropped dropped n) in
    let usable =
    usable_some p old.apex (listed old) (is_usable old.apex (held_serial old) (listed old) catalog.faultless) in
    let less = sum_some p (node_size old.apex) (listed old) in
    let nodes : produce_fault old.apex serial (kept old dropped) ≡ None =
    no_fault old.apex (kept old dropped) (all_some p IsHeld (listed old) held) usable (omega arith) serial in
    let all : produce_fault old.apex serial (nodes_after old dropped []) ≡ None =
    ap (produce_fault old.apex serial) (append-nil (kept old dropped)) ∙ nodes in
    change_fine old serial dropped [] catalog held tt newer labels all (omega arith)

-- ---- one label more
abbrev pub may_go : Zone → List (List ℕ) → List ℕ → Bool
may_go old dropped label = is_listed old label && not (list_any (same_label label) dropped)

turn_same : (label : List ℕ) (labels : List (List ℕ))
    → list_any (λ l. same_label l label) labels ≡ list_any (same_label label) labels
turn_same label [] = refl
turn_same label (l ∷ ls) = ap (λ b. b || list_any (λ m. same_label m label) ls) (turned l label)
    ∙ ap (λ b. same_label label l || b) (turn_same label ls)
  where
    turned : (a b : List ℕ) → same_label a b ≡ same_label b a
    turned a b =
        elim (cases_Bool (same_label a b)) [
          | inl t ↦ t ∙ sym ((same_label_decides b a).1 (sym ((same_label_decides a b).0 t)))
          | inr f ↦
              elim (cases_Bool (same_label b a)) [
                | inl t ↦
                    let e : same_label a b ≡ true = (same_label_decides a b).1 (sym ((same_label_decides b a).0 t)) in
                    absurd (cc)
                | inr g ↦ f ∙ sym g
              ]
        ]

pub label_more : (old : Zone) (dropped : List (List ℕ)) (label : List ℕ)
    → no_label old (dropped ++ label ∷ []) ≡ (no_label old dropped || not (may_go old dropped label))
label_more old dropped label =
    let all : list_all (is_listed old) (dropped ++ label ∷ [])
    ≡ (list_all (is_listed old) dropped && (is_listed old label && true)) =
    all_more (is_listed old) dropped (label ∷ []) in
    let twice : has_twice same_label (dropped ++ label ∷ [])
    ≡ (has_twice same_label dropped || list_any (same_label label) dropped) =
    twice_push same_label dropped label ∙ ap (λ b. has_twice same_label dropped || b) (turn_same label dropped) in
    rw (twice, all) (bits (has_twice same_label dropped) (list_any (same_label label) dropped)
    (list_all (is_listed old) dropped) (is_listed old label))
  where
    all_more : {X : Type 0} (p : X → Bool) (xs ys : List X) → list_all p (xs ++ ys) ≡ (list_all p xs && list_all p ys)
    all_more p [] ys = refl
    all_more p (x ∷ xs) ys = ap (λ b. p x && b) (all_more p xs ys) ∙ assoc (p x) (list_all p xs) (list_all p ys)
      where
        assoc : (a b c : Bool) → (a && (b && c)) ≡ ((a && b) && c)
        assoc true b c = refl
        assoc false b c = refl

    bits : (t a l s : Bool) → ((t || a) || not (l && (s && true))) ≡ ((t || not l) || not (s && not a))
    bits true a l s = refl
    bits false true true true = refl
    bits false true true false = refl
    bits false true false s = refl
    bits false false true true = refl
    bits false false true false = refl
    bits false false false s = refl
