-- The owners of a catalog's records: no two nodes share one.
use Rattle.std.proofs.Common.{◌≡◌, ℕ, ◌+◌, suc, Bool, true, false, List, [], ◌∷◌, ◌++◌, length, map, refl, sym, ◌∙◌}
use Rattle.std.proofs.Common.{ap, arith, Some, None, Option, inl, inr, ◌⊎◌}
use Rattle.std.specs.Prelude.{filter, ◌==◌, ◌&&◌}
use Rattle.std.specs.List.{AllByRecursion, list_any, flat_map}
use Rattle.std.specs.Str.{bytes_eq}
use Rattle.std.proofs.lemmas.Bool.{cases_Bool, and_parts, or_parts}
use Rattle.std.proofs.lemmas.List.{append-nil}
use Rattle.std.proofs.lemmas.List.Elements.{filter-append}
use Rattle.dz_name.specs.Name.{same_name, same_label, wire_of}
use Rattle.dz_name.specs.Order.{same_decides, same_label_decides}
use Rattle.dz_settings.specs.Twice.{has_twice}
use Rattle.dz_member.specs.declared.listing.Node.{Node}
use Rattle.dz_record.specs.Record.{Record, same_record}
use Rattle.dz_zone.specs.Valid.{some_two, both_are}
use Rattle.dz_catalog.specs.Member.{zones_of, coo_name, group_name}
use Rattle.dz_producer.specs.Faults.{same_node}
use Rattle.dz_producer.specs.Records.{uncached, owner_of, member, coo_records, group_records, node_records}
use Rattle.dz_producer.proofs.PairLemmas.{Pairs, each_more, any_no, pairs_differ, two_append, two_flat, or_false}
use Rattle.dz_producer.proofs.RecordLemmas.{all_append, none_kept, all_groups, all_coo, all_node}

-- ---- names
pub other_name : (a b : List (List ℕ)) → (a ≡ b → ⊥) → same_name a b ≡ false
other_name a b differ =
    elim (cases_Bool (same_name a b)) [
      | inl t ↦ absurd (differ ((same_decides a b).0 t))
      | inr f ↦ f
    ]

pub name_itself : (a : List (List ℕ)) → same_name a a ≡ true
name_itself a = (same_decides a a).1 refl

pub not_longer : (a b : List (List ℕ)) (n : ℕ) → length a ≡ length b + suc n → a ≡ b → ⊥
not_longer a b n more e = let k : length a ≡ length b = ap length e in omega arith

-- a record's owner is a node's, or is one label longer
abbrev pub Under : List (List ℕ) → Record → Type 0
Under owner r = (r.owner ≡ owner) ⊎ ((label : List ℕ) × (r.owner ≡ label ∷ owner))

pub all_under : (apex : List (List ℕ)) (node : Node)
    → AllByRecursion (Under (owner_of apex node)) (node_records apex node)
all_under apex node = all_node (Under (owner_of apex node)) apex node (inl refl) (λ c. inr (99 ∷ 111 ∷ 111 ∷ [], refl))
    (λ g. inr (103 ∷ 114 ∷ 111 ∷ 117 ∷ 112 ∷ [], refl))

pub labels_differ : (a b : List ℕ) → same_label a b ≡ false → a ≡ b → ⊥
labels_differ a b f e = let t : same_label a b ≡ true = (same_label_decides a b).1 e in cc

-- names under two nodes are two
under_apart : (a b : List ℕ) (zones x y : List (List ℕ)) → (a ≡ b → ⊥) → (x ≡ a ∷ zones)
    ⊎ ((l : List ℕ) × (x ≡ l ∷ a ∷ zones)) → (y ≡ b ∷ zones) ⊎ ((l : List ℕ) × (y ≡ l ∷ b ∷ zones)) → x ≡ y → ⊥
under_apart a b zones x y differ (inl p) (inl q) e = let same : a ≡ b = cc in differ same
under_apart a b zones x y differ (inl p) (inr q) e =
    let f : q.0 ∷ b ∷ zones ≡ a ∷ zones = sym q.1 ∙ (sym e ∙ p) in
    let n : suc (suc (length zones)) ≡ suc (length zones) = ap length f in
    absurd (omega arith)
under_apart a b zones x y differ (inr p) (inl q) e =
    let f : p.0 ∷ a ∷ zones ≡ b ∷ zones = sym p.1 ∙ (e ∙ q) in
    let n : suc (suc (length zones)) ≡ suc (length zones) = ap length f in
    absurd (omega arith)
under_apart a b zones x y differ (inr p) (inr q) e =
    let f : p.0 ∷ a ∷ zones ≡ q.0 ∷ b ∷ zones = sym p.1 ∙ (e ∙ q.1) in
    let same : a ≡ b = cc in
    differ same

-- ---- tests of two records of one owner
abbrev pub OfOneOwner : (Record → Record → Bool) → Type 0
OfOneOwner test = (r s : Record) → test r s ≡ true → r.owner ≡ s.owner

pub owners_differ : (test : Record → Record → Bool) → OfOneOwner test → (r s : Record) → (r.owner ≡ s.owner → ⊥)
    → test r s ≡ false
owners_differ test one r s differ =
    elim (cases_Bool (test r s)) [
      | inl t ↦ absurd (differ (one r s t))
      | inr f ↦ f
    ]

nodes_apart : (test : Record → Record → Bool) (apex : List (List ℕ)) → OfOneOwner test → (n m : Node) → same_node n m
    ≡ false → AllByRecursion (λ r. list_any (test r) (node_records apex m) ≡ false) (node_records apex n)
nodes_apart test apex one n m f =
    each_more (Under (owner_of apex n)) (λ r. list_any (test r) (node_records apex m) ≡ false)
    (λ r u. any_no (test r) (node_records apex m)
    (each_more (Under (owner_of apex m)) (λ s. test r s ≡ false) (λ s v. owners_differ test one r s
    (under_apart n.label m.label (zones_of apex) r.owner s.owner (labels_differ n.label m.label f) u v))
    (node_records apex m) (all_under apex m)))
    (node_records apex n) (all_under apex n)

pub both_owner : OfOneOwner (both_are 12)
unfolding both_are
both_owner r s t =
    (same_decides r.owner s.owner).0 (and_parts (same_name r.owner s.owner) (r.kind == 12 && s.kind == 12) t).0

pub same_owner : OfOneOwner same_record
same_owner r s t = (same_decides r.owner s.owner).0
    (and_parts (same_name r.owner s.owner) (r.kind == s.kind && bytes_eq r.rdata s.rdata) t).0

-- ---- the records of one node
pub no_pointer_first : (r s : Record) → (r.kind == 12) ≡ false → both_are 12 r s ≡ false
unfolding both_are
no_pointer_first r s f = rw f (and_no (same_name r.owner s.owner))
  where
    and_no : (a : Bool) → (a && false) ≡ false
    and_no true = refl
    and_no false = refl

pub no_pointer_second : (r s : Record) → (s.kind == 12) ≡ false → both_are 12 r s ≡ false
unfolding both_are
no_pointer_second r s f = rw f (and_no (same_name r.owner s.owner) (r.kind == 12))
  where
    and_no : (a b : Bool) → (a && (b && false)) ≡ false
    and_no true true = refl
    and_no true false = refl
    and_no false b = refl

pub kinds_differ : (r s : Record) → (r.kind == s.kind) ≡ false → same_record r s ≡ false
kinds_differ r s f = rw f (and_no (same_name r.owner s.owner))
  where
    and_no : (a : Bool) → (a && false) ≡ false
    and_no true = refl
    and_no false = refl

two_map : {X : Type 0} (f : X → Record) (test : Record → Record → Bool) (xs : List X)
    → Pairs (λ x y. test (f x) (f y) ≡ false) xs → some_two test (map f xs) ≡ false
unfolding some_two
two_map {X = X} f test [] h = refl
two_map {X = X} f test (x ∷ xs) h =
    or_false (list_any (test (f x)) (map f xs)) (some_two test (map f xs)) (any_map xs h.0) (two_map f test xs h.1)
  where
    any_map : (ys : List X) → AllByRecursion (λ y. test (f x) (f y) ≡ false) ys
        → list_any (test (f x)) (map f ys) ≡ false
    any_map [] k = refl
    any_map (y ∷ ys) k = or_false (test (f x) (f y)) (list_any (test (f x)) (map f ys)) k.0 (any_map ys k.1)

two_coo : (test : Record → Record → Bool) (owner : List (List ℕ)) (coo : Option (List (List ℕ)))
    → some_two test (coo_records owner coo) ≡ false
unfolding some_two
two_coo test owner None = refl
two_coo test owner (Some catalog) = refl

-- one PTR, one change of ownership at most, and groups
one_node : (test : Record → Record → Bool) (apex : List (List ℕ)) (n : Node) → OfOneOwner test
    → some_two test (group_records (owner_of apex n) n.groups) ≡ false
    → ((c : List (List ℕ)) (g : List ℕ) → test (uncached (coo_name (owner_of apex n)) 12 (wire_of c))
    (uncached (group_name (owner_of apex n)) 16 g) ≡ false) → some_two test (node_records apex n) ≡ false
unfolding node_records some_two
one_node test apex n one groups apart =
    let owner : List (List ℕ) = owner_of apex n in
    let rest : List Record = coo_records owner n.coo ++ group_records owner n.groups in
    let below : AllByRecursion (λ s. test (member apex n) s ≡ false) rest =
    all_append (λ s. test (member apex n) s ≡ false) (coo_records owner n.coo) (group_records owner n.groups)
    (all_coo (λ s. test (member apex n) s ≡ false) owner
    (λ c. owners_differ test one (member apex n) (uncached (coo_name owner) 12 (wire_of c))
    (λ e. not_longer (coo_name owner) owner 0 (omega arith) (sym e))) n.coo)
    (all_groups (λ s. test (member apex n) s ≡ false) owner
    (λ g. owners_differ test one (member apex n) (uncached (group_name owner) 16 g)
    (λ e. not_longer (group_name owner) owner 0 (omega arith) (sym e))) n.groups) in
    or_false (list_any (test (member apex n)) rest) (some_two test rest) (any_no (test (member apex n)) rest below)
    (two_append test (coo_records owner n.coo) (group_records owner n.groups) (two_coo test owner n.coo) groups
    (all_coo (λ r. list_any (test r) (group_records owner n.groups) ≡ false) owner
    (λ c. any_no (test (uncached (coo_name owner) 12 (wire_of c))) (group_records owner n.groups) (all_groups
    (λ s. test (uncached (coo_name owner) 12 (wire_of c)) s ≡ false) owner (λ g. apart c g) n.groups)) n.coo))

-- a node owns no two PTR records of one owner
pub one_pointer : (apex : List (List ℕ)) (n : Node) → some_two (both_are 12) (node_records apex n) ≡ false
one_pointer apex n =
    let owner : List (List ℕ) = owner_of apex n in
    one_node (both_are 12) apex n both_owner
    (two_map (uncached (group_name owner) 16) (both_are 12) n.groups (all_pairs n.groups))
    (λ c g. no_pointer_second (uncached (coo_name owner) 12 (wire_of c)) (uncached (group_name owner) 16 g) refl)
  where
    all_true : (x : List ℕ) (ys : List (List ℕ)) → AllByRecursion (λ y. both_are 12
        (uncached (group_name (owner_of apex n)) 16 x) (uncached (group_name (owner_of apex n)) 16 y) ≡ false) ys
    all_true x [] = tt
    all_true x (y ∷ ys) = (
      no_pointer_first (uncached (group_name (owner_of apex n)) 16 x)
          (uncached (group_name (owner_of apex n)) 16 y) refl,
      all_true x ys,
    )

    all_pairs : (xs : List (List ℕ)) → Pairs (λ x y. both_are 12 (uncached (group_name (owner_of apex n)) 16 x)
        (uncached (group_name (owner_of apex n)) 16 y) ≡ false) xs
    all_pairs [] = tt
    all_pairs (x ∷ xs) = (all_true x xs, all_pairs xs)

-- and no two records that are the same, where no group comes twice
groups_differ : (owner : List (List ℕ)) (a b : List ℕ) → bytes_eq a b ≡ false
    → same_record (uncached (group_name owner) 16 a) (uncached (group_name owner) 16 b) ≡ false
groups_differ owner a b f = rw f (and_no (same_name (group_name owner) (group_name owner)))
  where
    and_no : (x : Bool) → (x && false) ≡ false
    and_no true = refl
    and_no false = refl

pub no_double : (apex : List (List ℕ)) (n : Node) → has_twice bytes_eq n.groups ≡ false
    → some_two same_record (node_records apex n) ≡ false
no_double apex n once =
    let owner : List (List ℕ) = owner_of apex n in
    one_node same_record apex n same_owner
    (two_map (uncached (group_name owner) 16) same_record n.groups
    (pairs_differ bytes_eq (λ a b. same_record (uncached (group_name owner) 16 a) (uncached (group_name owner) 16 b)
    ≡ false) (λ a b f. groups_differ owner a b f) n.groups once))
    (λ c g. kinds_differ (uncached (coo_name owner) 12 (wire_of c)) (uncached (group_name owner) 16 g) refl)

-- ---- the records of all nodes
pub two_nodes : (test : Record → Record → Bool) (apex : List (List ℕ)) (nodes : List Node) → OfOneOwner test
    → has_twice same_node nodes ≡ false
    → AllByRecursion (λ n. some_two test (node_records apex n) ≡ false) nodes
    → some_two test (flat_map (node_records apex) nodes) ≡ false
two_nodes test apex nodes one once each =
    two_flat (node_records apex) test nodes each
    (pairs_differ same_node (λ n m. AllByRecursion (λ r. list_any (test r) (node_records apex m) ≡ false)
    (node_records apex n)) (λ n m f. nodes_apart test apex one n m f) nodes once)

-- ---- what a property's name owns
all_flat : (P : Record → Type 0) (f : Node → List Record) (ns : List Node)
    → AllByRecursion (λ n. AllByRecursion P (f n)) ns → AllByRecursion P (flat_map f ns)
all_flat P f [] h = tt
all_flat P f (n ∷ ns) h = all_append P (f n) (flat_map f ns) h.0 (all_flat P f ns h.1)

each_two : {X : Type 0} (P Q R : X → Type 0) → ((x : X) → P x → Q x → R x) → (xs : List X) → AllByRecursion P xs
    → AllByRecursion Q xs → AllByRecursion R xs
each_two P Q R f [] h k = tt
each_two P Q R f (x ∷ xs) h k = (f x h.0 k.0, each_two P Q R f xs h.1 k.1)

each_false : {X : Type 0} (p : X → Bool) (xs : List X) → list_any p xs ≡ false → AllByRecursion (λ y. p y ≡ false) xs
each_false p [] h = tt
each_false p (x ∷ xs) h = let parts = or_parts (p x) (list_any p xs) h in (parts.0, each_false p xs parts.1)

all_kept : {X : Type 0} (p : X → Bool) (xs : List X) → AllByRecursion (λ x. p x ≡ true) xs → filter p xs ≡ xs
all_kept p [] h = refl
all_kept p (x ∷ xs) h = rw h.0 (ap (λ ys. x ∷ ys) (all_kept p xs h.1))

abbrev pub owned_by : List (List ℕ) → Record → Bool
owned_by name r = same_name r.owner name

-- another node owns nothing at a name under this one
none_elsewhere : (apex : List (List ℕ)) (k n : Node) (property : List ℕ) → (k.label ≡ n.label → ⊥)
    → AllByRecursion (λ r. owned_by (property ∷ owner_of apex n) r ≡ false) (node_records apex k)
none_elsewhere apex k n property differ =
    each_more (Under (owner_of apex k)) (λ r. owned_by (property ∷ owner_of apex n) r ≡ false)
    (λ r u. other_name r.owner (property ∷ owner_of apex n) (λ e. under_apart k.label n.label (zones_of apex) r.owner
    (property ∷ owner_of apex n) differ u (inr (property, refl)) e)) (node_records apex k) (all_under apex k)

-- what the node itself owns there
own_coo : (apex : List (List ℕ)) (n : Node)
    → filter (owned_by (coo_name (owner_of apex n))) (node_records apex n) ≡ coo_records (owner_of apex n) n.coo
unfolding node_records
own_coo apex n =
    let owner : List (List ℕ) = owner_of apex n in
    let p : Record → Bool = owned_by (coo_name owner) in
    let first : p (member apex n) ≡ false =
    other_name owner (coo_name owner) (λ e. not_longer (coo_name owner) owner 0 (omega arith) (sym e)) in
    rw first
    (filter-append p (coo_records owner n.coo) (group_records owner n.groups)
    ∙ (ap (λ (xs : List Record). xs ++ filter p (group_records owner n.groups)) (all_kept p (coo_records owner n.coo)
    (all_coo (λ r. p r ≡ true) owner (λ c. name_itself (coo_name owner)) n.coo))
    ∙ (ap (λ (xs : List Record). coo_records owner n.coo ++ xs)
    (none_kept p (group_records owner n.groups) (all_groups (λ r. p r ≡ false) owner (λ g. refl) n.groups))
    ∙ append-nil (coo_records owner n.coo))))

own_groups : (apex : List (List ℕ)) (n : Node)
    → filter (owned_by (group_name (owner_of apex n))) (node_records apex n) ≡ group_records (owner_of apex n) n.groups
unfolding node_records
own_groups apex n =
    let owner : List (List ℕ) = owner_of apex n in
    let p : Record → Bool = owned_by (group_name owner) in
    let first : p (member apex n) ≡ false =
    other_name owner (group_name owner) (λ e. not_longer (group_name owner) owner 0 (omega arith) (sym e)) in
    rw first
    (filter-append p (coo_records owner n.coo) (group_records owner n.groups)
    ∙ (ap (λ (xs : List Record). xs ++ filter p (group_records owner n.groups))
    (none_kept p (coo_records owner n.coo) (all_coo (λ r. p r ≡ false) owner (λ c. refl) n.coo))
    ∙ all_kept p (group_records owner n.groups)
    (all_groups (λ r. p r ≡ true) owner (λ g. name_itself (group_name owner)) n.groups)))

pub record Owned (apex : List (List ℕ)) (rs : List Record) (n : Node) : Type 0 where
  pub coo : filter (owned_by (coo_name (owner_of apex n))) rs ≡ coo_records (owner_of apex n) n.coo
  pub groups : filter (owned_by (group_name (owner_of apex n))) rs ≡ group_records (owner_of apex n) n.groups

pub all_owned : (apex : List (List ℕ)) (nodes : List Node) → has_twice same_node nodes ≡ false
    → AllByRecursion (Owned apex (flat_map (node_records apex) nodes)) nodes
all_owned apex [] once = tt
all_owned apex (m ∷ ms) once =
    let parts = or_parts (list_any (λ k. same_node m k) ms) (has_twice same_node ms) once in
    let others : AllByRecursion (λ k. same_node m k ≡ false) ms = each_false (λ k. same_node m k) ms parts.0 in
    let nothing : (property : List ℕ)
    → filter (owned_by (property ∷ owner_of apex m)) (flat_map (node_records apex) ms) ≡ [] =
    λ property. none_kept (owned_by (property ∷ owner_of apex m)) (flat_map (node_records apex) ms)
    (all_flat (λ r. owned_by (property ∷ owner_of apex m) r ≡ false) (node_records apex) ms
    (each_more (λ k. same_node m k ≡ false)
    (λ k. AllByRecursion (λ r. owned_by (property ∷ owner_of apex m) r ≡ false) (node_records apex k))
    (λ k f. none_elsewhere apex k m property (λ e. labels_differ m.label k.label f (sym e))) ms others)) in
    let here : (name : List (List ℕ)) (own : List Record) → filter (owned_by name) (node_records apex m) ≡ own
    → filter (owned_by name) (flat_map (node_records apex) ms) ≡ []
    → filter (owned_by name) (node_records apex m ++ flat_map (node_records apex) ms) ≡ own =
    λ name own e none. filter-append (owned_by name) (node_records apex m) (flat_map (node_records apex) ms)
    ∙ (ap (λ (xs : List Record). xs ++ filter (owned_by name) (flat_map (node_records apex) ms)) e
    ∙ (ap (λ (xs : List Record). own ++ xs) none ∙ append-nil own)) in
    let there : (name : List (List ℕ)) (own : List Record) → filter (owned_by name) (node_records apex m) ≡ []
    → filter (owned_by name) (flat_map (node_records apex) ms) ≡ own
    → filter (owned_by name) (node_records apex m ++ flat_map (node_records apex) ms) ≡ own =
    λ name own none e. filter-append (owned_by name) (node_records apex m) (flat_map (node_records apex) ms)
    ∙ (ap (λ (xs : List Record). xs ++ filter (owned_by name) (flat_map (node_records apex) ms)) none ∙ e) in (
      record {
        coo = here (coo_name (owner_of apex m)) (coo_records (owner_of apex m) m.coo) (own_coo apex m)
            (nothing (99 ∷ 111 ∷ 111 ∷ []));
        groups = here (group_name (owner_of apex m)) (group_records (owner_of apex m) m.groups) (own_groups apex m)
            (nothing (103 ∷ 114 ∷ 111 ∷ 117 ∷ 112 ∷ []));
      },
      each_two (λ n. same_node m n ≡ false) (Owned apex (flat_map (node_records apex) ms))
          (Owned apex (flat_map (node_records apex) (m ∷ ms)))
          (λ n f o. record {
            coo = there (coo_name (owner_of apex n)) (coo_records (owner_of apex n) n.coo)
                (none_kept (owned_by (coo_name (owner_of apex n))) (node_records apex m)
                (none_elsewhere apex m n (99 ∷ 111 ∷ 111 ∷ []) (labels_differ m.label n.label f))) o.coo;
            groups = there (group_name (owner_of apex n)) (group_records (owner_of apex n) n.groups)
                (none_kept (owned_by (group_name (owner_of apex n))) (node_records apex m) (none_elsewhere apex m n
                (103 ∷ 114 ∷ 111 ∷ 117 ∷ 112 ∷ []) (labels_differ m.label n.label f))) o.groups;
          }) ms others (all_owned apex ms parts.1),
    )
