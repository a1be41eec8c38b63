-- In a zone in order the records of a node's properties follow the node's own directly.
use Rattle.std.proofs.Common.{◌≡◌, ℕ, ◌+◌, ◌<◌, Bool, true, false, cond, List, [], ◌∷◌, ◌++◌, length, take, drop}
use Rattle.std.proofs.Common.{get_or, refl, sym, ◌∙◌, ap, subst, arith, inl, inr, zero, suc, add-one}
use Rattle.std.specs.Prelude.{filter, find, map, ◌==◌, slice_get, Option, Some, None, if◌then◌else◌}
use Rattle.std.specs.Option.{option_map, option_and_then}
use Rattle.std.specs.List.{AllByRecursion, filter_map, cons_option}
use Rattle.std.specs.Option.{option_to_list}
use Rattle.std.specs.List.Sorted.{IsStrictlySortedBy}
use Rattle.std.specs.Ordering.{is_lt, is_gt, ordering_then, ordering_reverse}
use Rattle.std.specs.declared.cmp.Ordering.{Ordering}
use Rattle.std.specs.declared.cmp.Ordering.TheVariants.{Less, Equal, Greater}
use Rattle.std.proofs.lemmas.Bool.{cases_Bool, and_parts}
use Rattle.std.proofs.lemmas.List.{take_more}
use Rattle.std.proofs.lemmas.List.Elements.{filter_agree, filter_map-append}
use Rattle.std.proofs.lemmas.List.Sums.{take_while-cons}
use Rattle.std.proofs.lemmas.Map.Keys.{Less-from_sorted, sorted_head, sorted_tail}
use Rattle.dz_name.specs.Name.{canonical_order, is_within, same_name, first_label}
use Rattle.dz_name.specs.Order.{canonical_total, canonical_same, same_decides}
use Rattle.dz_name.proofs.PartLemmas.{within_suffix}
use Rattle.dz_record.specs.Record.{Record, record_order, target_of}
use Rattle.dz_zone.proofs.Ordered.{each_more}
use Rattle.dz_runs.specs.Runs.{of_type, records_of}
use Rattle.dz_runs.proofs.InOrder.{key_filter, key_test}
use Rattle.dz_zone.proofs.CanonicalLemmas.{within_not_less, between_within}
use Rattle.dz_runs.specs.Node.{from_key}
use Rattle.std.specs.Ordering.{is_eq}
use Rattle.dz_member.specs.declared.listing.Node.{Node}
use Rattle.dz_catalog.specs.Member.{node_of, coo_of, groups_of, is_member, coo_name}
use Rattle.dz_catalog.specs.inner.Below.{below, is_at, coo_among, groups_among, node_among, node_behind}

pub not_greater : (o p q : Ordering) → ordering_then (ordering_then o p) q ≡ Less → is_gt o ≡ false
not_greater Less p q h = refl
not_greater Equal p q h = refl
not_greater Greater p q h = absurd (cc)

turned : (o : Ordering) → is_gt o ≡ false → is_lt (ordering_reverse o) ≡ false
turned Less h = refl
turned Equal h = refl
turned Greater h = absurd (cc)

level : (o : Ordering) → is_lt o ≡ false → is_gt o ≡ false → o ≡ Equal
level Less l h = absurd (cc)
level Equal l h = refl
level Greater l h = absurd (cc)

owner_not_behind : (x r : Record) → record_order x r ≡ Less → is_gt (canonical_order x.owner r.owner) ≡ false
owner_not_behind x r h = not_greater (canonical_order x.owner r.owner) _ _ h

owner_not_before : (x r : Record) → record_order x r ≡ Less → is_lt (canonical_order r.owner x.owner) ≡ false
owner_not_before x r h =
    rw (canonical_total.antisymm r.owner x.owner) (turned (canonical_order x.owner r.owner) (owner_not_behind x r h))

child_within : (label : List ℕ) (node : List (List ℕ)) → is_within (label ∷ node) node ≡ true
child_within label node = (within_suffix (label ∷ node) node).1 (label ∷ [], refl)

not_itself : (label : List ℕ) (node : List (List ℕ)) → label ∷ node ≡ node → ⊥
not_itself label node e = let n : suc (length node) ≡ length node = ap length e in omega arith

not_at : (kind : ℕ) (name : List (List ℕ)) (r : Record) → (r.owner ≡ name → ⊥) → is_at kind name r ≡ false
not_at kind name r other =
    elim (cases_Bool (is_at kind name r)) [
      | inl t ↦
          absurd (other ((same_decides r.owner name).0 (and_parts (r.kind == kind) (same_name r.owner name) t).1))
      | inr f ↦ f
    ]

-- a record that doesn't come after the node is none of a name below it
front : (kind : ℕ) (label : List ℕ) (node : List (List ℕ)) (x : Record) → is_gt (canonical_order x.owner node) ≡ false
    → is_at kind (label ∷ node) x ≡ false
front kind label node x h =
    not_at kind (label ∷ node) x (λ e.
    let g : is_gt (canonical_order (label ∷ node) node) ≡ false = rw e at h in
    not_itself label node
    (canonical_same (label ∷ node) node (level (canonical_order (label ∷ node) node)
    (within_not_less (label ∷ node) node (child_within label node)) g)))

none_of : (p : Record → Bool) (xs : List Record) → AllByRecursion (λ x. p x ≡ false) xs → filter p xs ≡ []
none_of p [] h = refl
none_of p (x ∷ xs) h = rw h.0 (none_of p xs h.1)

-- after a record that isn't within the node none is
past : (kind : ℕ) (label : List ℕ) (node : List (List ℕ)) (y z : Record) → is_within y.owner node ≡ false
    → is_lt (canonical_order y.owner node) ≡ false → record_order y z ≡ Less → is_at kind (label ∷ node) z ≡ false
past kind label node y z out low less =
    not_at kind (label ∷ node) z (λ e.
    let w : is_within z.owner node ≡ true = rw e (child_within label node) in
    let b = between_within z.owner y.owner node w low (owner_not_behind y z less) in cc)

out_itself : (kind : ℕ) (label : List ℕ) (node : List (List ℕ)) (y : Record) → is_within y.owner node ≡ false
    → is_at kind (label ∷ node) y ≡ false
out_itself kind label node y out =
    not_at kind (label ∷ node) y (λ e. let w : is_within y.owner node ≡ true = rw e (child_within label node) in cc)

-- so those within the node are all that matter
kept : (kind : ℕ) (label : List ℕ) (node : List (List ℕ)) (ys : List Record)
    → AllByRecursion (λ y. is_lt (canonical_order y.owner node) ≡ false) ys → IsStrictlySortedBy record_order ys
    → filter (is_at kind (label ∷ node)) ys ≡ filter (is_at kind (label ∷ node)) (below node ys)
kept kind label node [] h up = refl
kept kind label node (y ∷ ys) h up =
    elim (cases_Bool (is_within y.owner node)) [
      | inl t ↦
          let ih = kept kind label node ys h.1 (sorted_tail record_order y ys up) in
          let e : below node (y ∷ ys) ≡ y ∷ below node ys =
          rw (take_while-cons (λ (r : Record). is_within r.owner node) y ys, t) refl in
          rw e (ap (λ (rest : List Record). cond (is_at kind (label ∷ node) y) (y ∷ rest) rest) ih)
      | inr f ↦
          let e : below node (y ∷ ys) ≡ [] =
          rw (take_while-cons (λ (r : Record). is_within r.owner node) y ys, f) refl in
          rw e (none_of (is_at kind (label ∷ node)) (y ∷ ys) (
            out_itself kind label node y f,
            each_more (λ z. record_order y z ≡ Less) (λ z. is_at kind (label ∷ node) z
                ≡ false) (λ z l. past kind label node y z f h.0 l) ys (sorted_head record_order y ys up),
          ))
    ]

first_case : (kind : ℕ) (label : List ℕ) (x : Record) (xs : List Record) → IsStrictlySortedBy record_order (x ∷ xs)
    → filter (is_at kind (label ∷ x.owner)) (x ∷ xs) ≡ filter (is_at kind (label ∷ x.owner)) (below x.owner xs)
first_case kind label x xs up =
    let itself : is_at kind (label ∷ x.owner) x ≡ false =
    not_at kind (label ∷ x.owner) x (λ e. not_itself label x.owner (sym e)) in
    rw itself (kept kind label x.owner xs
    (each_more (λ y. record_order x y ≡ Less) (λ y. is_lt (canonical_order y.owner x.owner) ≡ false)
    (λ y l. owner_not_before x y l) xs (sorted_head record_order x xs up))
    (sorted_tail record_order x xs up))

in_zone : (kind : ℕ) (label : List ℕ) (records : List Record) (k : ℕ) (r : Record)
    → IsStrictlySortedBy record_order records → k < length records → r ≡ get_or records k r
    → filter (is_at kind (label ∷ r.owner)) records
    ≡ filter (is_at kind (label ∷ r.owner)) (below r.owner (drop (suc k) records))
in_zone kind label [] k r up lt is = absurd (omega arith)
in_zone kind label (x ∷ xs) zero r up lt is =
    subst (λ (s : Record). filter (is_at kind (label ∷ s.owner)) (x ∷ xs)
    ≡ filter (is_at kind (label ∷ s.owner)) (below s.owner xs)) (sym is) (first_case kind label x xs up)
in_zone kind label (x ∷ xs) (suc k) r up lt is =
    let less : record_order x (get_or xs k r) ≡ Less =
    Less-from_sorted record_order (x ∷ xs) 0 (suc k) r up (omega arith) lt in
    let less' : record_order x r ≡ Less = rw (← is) at less in
    rw (front kind label r.owner x (owner_not_behind x r less'))
    (in_zone kind label xs k r (sorted_tail record_order x xs up) (omega arith) is)

property : (kind : ℕ) (label : List ℕ) (records : List Record) (k : ℕ) (r : Record)
    → IsStrictlySortedBy record_order records → k < length records → r ≡ get_or records k r
    → of_type kind (records_of records (label ∷ r.owner))
    ≡ filter (is_at kind (label ∷ r.owner)) (below r.owner (drop (suc k) records))
property kind label records k r up lt is =
    sym (key_filter records (label ∷ r.owner) kind up)
    ∙ (filter_agree (λ s. is_eq (from_key (label ∷ r.owner) kind s)) (is_at kind (label ∷ r.owner))
    (λ s. key_test (label ∷ r.owner) kind s) records
    ∙ in_zone kind label records k r up lt is)

first_found : (p : Record → Bool) (xs : List Record) → slice_get (filter p xs) 0 ≡ find p xs
first_found p [] = refl
first_found p (x ∷ xs) = elim (cases_Bool (p x)) [ inl t ↦ rw t refl | inr f ↦ rw f (first_found p xs) ]

-- a node whose properties are these
abbrev with : List (List ℕ) → Record → Option (List (List ℕ)) → List (List ℕ) → Option Node
with apex r coo groups =
    if is_member apex r
    then option_and_then
    (λ label. option_map (λ zone. record { label = label; zone = zone; coo = coo; groups = groups }) (target_of r))
    (first_label r.owner)
    else None

pub node_is : (apex : List (List ℕ)) (records : List Record) (k : ℕ) (r : Record)
    → IsStrictlySortedBy record_order records → k < length records → r ≡ get_or records k r
    → node_of apex records r ≡ node_behind apex r (drop (k + 1) records)
unfolding node_of node_behind
node_is apex records k r up lt is =
    let n = add-one k in
    let coo : coo_of records r.owner ≡ coo_among r.owner (below r.owner (drop (suc k) records)) =
    ap (option_and_then target_of)
    (ap (λ (xs : List Record). slice_get xs 0) (property 12 (99 ∷ 111 ∷ 111 ∷ []) records k r up lt is)
    ∙ first_found (is_at 12 (coo_name r.owner)) (below r.owner (drop (suc k) records))) in
    let groups : groups_of records r.owner ≡ groups_among r.owner (below r.owner (drop (suc k) records)) =
    ap (map (λ (s : Record). s.rdata)) (property 16 (103 ∷ 114 ∷ 111 ∷ 117 ∷ 112 ∷ []) records k r up lt is) in
    rw n (ap (λ c. with apex r c (groups_of records r.owner)) coo
    ∙ ap (λ g. with apex r (coo_among r.owner (below r.owner (drop (suc k) records))) g) groups)

one_left : (o : Option Node) → cons_option o [] ≡ option_to_list o
one_left None = refl
one_left (Some x) = refl

pub nodes_more : (apex : List (List ℕ)) (records : List Record) (k : ℕ) (r : Record) (old new : List Node)
    (node : Option Node) → IsStrictlySortedBy record_order records → k < length records
    → r ≡ get_or records k r → old ≡ filter_map (node_of apex records) (take k records)
    → node ≡ node_behind apex r (drop (k + 1) records) → new ≡ old ++ option_to_list node
    → new ≡ filter_map (node_of apex records) (take (k + 1) records)
nodes_more apex records k r old new node up lt is before found e =
    let n : node ≡ node_of apex records r = found ∙ sym (node_is apex records k r up lt is) in
    let one : filter_map (node_of apex records) (r ∷ []) ≡ option_to_list node =
    rw n (one_left (node_of apex records r)) in
    e ∙ (ap (λ xs. xs ++ option_to_list node) before
    ∙ (ap (λ xs. filter_map (node_of apex records) (take k records) ++ xs) (sym one)
    ∙ (sym (filter_map-append (node_of apex records) (take k records) (r ∷ []))
    ∙ (ap (λ (x : Record). filter_map (node_of apex records) (take k records ++ x ∷ [])) is
    ∙ sym (ap (filter_map (node_of apex records)) (take_more records k r lt))))))

-- what the code makes of a member record
pub behind_is : (apex : List (List ℕ)) (r : Record) (behind records : List Record) (owner : List (List ℕ))
    (label : List ℕ) (zone : List (List ℕ)) (node : Node) → is_member apex r ≡ true
    → first_label r.owner ≡ Some label → target_of r ≡ Some zone → owner ≡ r.owner → records ≡ below owner behind
    → node ≡ node_among owner records label zone → Some node ≡ node_behind apex r behind
unfolding node_behind
behind_is apex r behind records owner label zone node m f t o b e =
    rw (m, f, t) (ap Some (e ∙ (ap (λ (xs : List Record). node_among owner xs label zone) b
    ∙ ap (λ (n : List (List ℕ)). node_among n (below n behind) label zone) o)))
