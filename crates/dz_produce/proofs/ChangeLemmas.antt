-- Labels that are left, and nodes that stay.
use Rattle.std.proofs.Common.{◌≡◌, ℕ, ◌+◌, ◌<◌, ◌≤◌, Bool, true, false, List, [], ◌∷◌, ◌++◌, length, take, get_or}
use Rattle.std.proofs.Common.{refl, sym, ◌∙◌, ap, append_assoc, arith, inl, inr, None}
use Rattle.std.specs.Prelude.{cond, filter, is_some, not, ◌&&◌, ◌||◌}
use Rattle.std.specs.List.{AllByRecursion, list_any}
use Rattle.std.specs.Ordering.{is_eq}
use Rattle.std.proofs.lemmas.Bool.{cases_Bool}
use Rattle.std.proofs.lemmas.List.{append-nil, take_more}
use Rattle.std.proofs.lemmas.List.Elements.{filter-append}
use Rattle.std.proofs.lemmas.List.Folds.{list_any-append}
use Rattle.dz_name.specs.Name.{same_label, label_order}
use Rattle.dz_name.specs.Order.{same_label_decides, same_label_ties}
use Rattle.dz_member.specs.declared.listing.Node.{Node}
use Rattle.dz_xfr.specs.Apex.{held_serial}
use Rattle.dz_serial.specs.Serial.{is_newer}
use Rattle.dz_producer.specs.Amended.{listed, is_dropped, kept, is_listed, no_label, amend_fault}
use Rattle.dz_producer.specs.Draft.{saturated, spent}
use Rattle.dz_producer.proofs.ChangeLemmas.{drops_fine, label_more, bad_label}
use Rattle.dz_zone.specs.Version.{Zone}
use Rattle.dz_produce.specs.inner.Changes.{IsKnown, may_go}

-- ---- a loop over nodes
or_end : (b t : Bool) → cond t true b ≡ (b || (t || false))
or_end true true = refl
or_end true false = refl
or_end false true = refl
or_end false false = refl

pub labels_more : (before after : List ℕ → Bool) (nodes : List Node) (i : ℕ) (node : Node) → i < length nodes
    → node ≡ get_or nodes i node → ((q : List ℕ) → before q ≡ list_any (λ n. same_label n.label q) (take i nodes))
    → ((q : List ℕ) → after q ≡ cond (is_eq (label_order node.label q)) true (before q)) → (q : List ℕ)
    → after q ≡ list_any (λ n. same_label n.label q) (take (i + 1) nodes)
labels_more before after nodes i node lt is was more q =
    let p = λ (n : Node). same_label n.label q in
    let front : take (i + 1) nodes ≡ take i nodes ++ node ∷ [] =
    take_more nodes i node lt ∙ ap (λ (n : Node). take i nodes ++ n ∷ []) (sym is) in
    more q
    ∙ (or_end (before q) (is_eq (label_order node.label q))
    ∙ (ap (λ (b : Bool). b || (is_eq (label_order node.label q) || false)) (was q)
    ∙ (ap (λ (b : Bool). list_any p (take i nodes) || (b || false)) (sym (same_label_ties node.label q))
    ∙ (sym (list_any-append p (take i nodes) (node ∷ [])) ∙ ap (list_any p) (sym front)))))

pub kept_more : (p : Node → Bool) (nodes : List Node) (i : ℕ) (node : Node) → i < length nodes
    → node ≡ get_or nodes i node → p node ≡ true → filter p (take (i + 1) nodes) ≡ filter p (take i nodes) ++ node ∷ []
kept_more p nodes i node lt is passes =
    let front : take (i + 1) nodes ≡ take i nodes ++ node ∷ [] =
    take_more nodes i node lt ∙ ap (λ (n : Node). take i nodes ++ n ∷ []) (sym is) in
    let one : filter p (node ∷ []) ≡ node ∷ [] = rw passes refl in
    ap (filter p) front
    ∙ (filter-append p (take i nodes) (node ∷ []) ∙ ap (λ (xs : List Node). filter p (take i nodes) ++ xs) one)

pub left_out : (p : Node → Bool) (nodes : List Node) (i : ℕ) (node : Node) → i < length nodes
    → node ≡ get_or nodes i node → p node ≡ false → filter p (take (i + 1) nodes) ≡ filter p (take i nodes)
left_out p nodes i node lt is fails =
    let front : take (i + 1) nodes ≡ take i nodes ++ node ∷ [] =
    take_more nodes i node lt ∙ ap (λ (n : Node). take i nodes ++ n ∷ []) (sym is) in
    let none : filter p (node ∷ []) ≡ [] = rw fails refl in
    ap (filter p) front ∙ (filter-append p (take i nodes) (node ∷ [])
    ∙ (ap (λ (xs : List Node). filter p (take i nodes) ++ xs) none ∙ append-nil (filter p (take i nodes))))

-- ---- the nodes whose labels are left are those that stay
each_listed : (front nodes : List Node)
    → AllByRecursion (λ n. list_any (λ m. same_label m.label n.label) (front ++ nodes) ≡ true) nodes
each_listed front [] = tt
each_listed front (n ∷ ns) =
    let same : same_label n.label n.label ≡ true = (same_label_decides n.label n.label).1 refl in
    let here : list_any (λ m. same_label m.label n.label) (front ++ n ∷ ns) ≡ true =
    list_any-append (λ m. same_label m.label n.label) front (n ∷ ns)
    ∙ rw same (or_true (list_any (λ m. same_label m.label n.label) front)) in
    let more : AllByRecursion (λ k. list_any (λ m. same_label m.label k.label) ((front ++ n ∷ []) ++ ns) ≡ true) ns =
    each_listed (front ++ n ∷ []) ns in
    (here, rw (append_assoc front (n ∷ []) ns) at more)
  where
    or_true : (a : Bool) → (a || true) ≡ true
    or_true true = refl
    or_true false = refl

pub stays_kept : (old : Zone) (dropped : List (List ℕ)) (left : List ℕ → Bool) (nodes : List Node) → nodes ≡ listed old
    → ((label : List ℕ) → left label ≡ may_go old dropped label) → filter (λ n. left n.label) nodes ≡ kept old dropped
stays_kept old dropped left nodes are stays =
    ap (filter (λ n. left n.label)) are ∙ go (listed old) (each_listed [] (listed old))
  where
    go : (ns : List Node) → AllByRecursion (λ n. is_listed old n.label ≡ true) ns
        → filter (λ n. left n.label) ns ≡ filter (λ n. not (is_dropped dropped n)) ns
    go [] all = refl
    go (n ∷ ns) all =
        let same : left n.label ≡ not (is_dropped dropped n) = stays n.label ∙ rw all.0 refl in
        rw (same, go ns all.1) refl

-- ---- before a label is dropped, and after one more
pub none_dropped : (old : Zone) (left : List ℕ → Bool) (nodes : List Node) → nodes ≡ listed old
    → ((label : List ℕ) → left label ≡ list_any (λ n. same_label n.label label) nodes) → (label : List ℕ)
    → left label ≡ may_go old [] label
none_dropped old left nodes are is label =
    is label ∙ (ap (list_any (λ n. same_label n.label label)) are ∙ and_true (is_listed old label))
  where
    and_true : (b : Bool) → b ≡ (b && true)
    and_true true = refl
    and_true false = refl

pub one_dropped : (old : Zone) (dropped : List (List ℕ)) (before after : List ℕ → Bool) (label : List ℕ)
    → ((q : List ℕ) → before q ≡ may_go old dropped q)
    → ((q : List ℕ) → after q ≡ cond (is_eq (label_order label q)) false (before q))
    → (q : List ℕ) → after q ≡ may_go old (dropped ++ label ∷ []) q
one_dropped old dropped before after label was more q =
    let any : list_any (same_label q) (dropped ++ label ∷ [])
    ≡ (list_any (same_label q) dropped || (same_label q label || false)) =
    list_any-append (same_label q) dropped (label ∷ []) in
    let ties : is_eq (label_order label q) ≡ same_label q label = sym (same_label_ties label q) ∙ turned label q in
    more q ∙ rw (ties, was q, any) (bits (same_label q label) (is_listed old q) (list_any (same_label q) dropped))
  where
    bits : (t s a : Bool) → cond t false (s && not a) ≡ (s && not (a || (t || false)))
    bits true true true = refl
    bits true true false = refl
    bits true false a = refl
    bits false true true = refl
    bits false true false = refl
    bits false false a = refl

    turned : (a b : List ℕ) → same_label a b ≡ same_label b a
    turned a b =
        elim (cases_Bool (same_label a b)) [
          | inl t ↦ t ∙ sym ((same_label_decides b a).1 (sym ((same_label_decides a b).0 t)))
          | inr f ↦
              elim (cases_Bool (same_label b a)) [
                | inl t ↦
                    let e : same_label a b ≡ true = (same_label_decides a b).1 (sym ((same_label_decides b a).0 t)) in
                    absurd (cc)
                | inr g ↦ f ∙ sym g
              ]
        ]

-- ---- faults that are told from what is kept
pub sure : (old : Zone) (serial count : ℕ) (dropped : List (List ℕ)) → IsKnown old
    → count ≡ saturated (spent old.apex (listed old)) → count ≤ 66990000 → is_newer (held_serial old) serial ≡ true
    → no_label old dropped ≡ false
    → true ≡ not (is_some (amend_fault old serial dropped []))
sure old serial count dropped known counted few newer labels =
    let fine : amend_fault old serial dropped [] ≡ None =
    drops_fine old serial dropped known.catalog known.held newer labels (omega arith) in
    rw fine refl

pub lacking : (old : Zone) (serial : ℕ) (dropped : List (List ℕ)) (label : List ℕ) → may_go old dropped label ≡ false
    → false ≡ not (is_some (amend_fault old serial (dropped ++ label ∷ []) []))
lacking old serial dropped label no_node =
    let bad : no_label old (dropped ++ label ∷ []) ≡ true =
    label_more old dropped label ∙ rw no_node (or_true (no_label old dropped)) in
    rw (bad_label old serial (dropped ++ label ∷ []) [] bad) refl
  where
    or_true : (a : Bool) → (a || true) ≡ true
    or_true true = refl
    or_true false = refl

pub labels_with : (old : Zone) (dropped : List (List ℕ)) (label : List ℕ) → no_label old dropped ≡ false
    → may_go old dropped label ≡ true → no_label old (dropped ++ label ∷ []) ≡ false
labels_with old dropped label good there = label_more old dropped label ∙ rw (good, there) refl
