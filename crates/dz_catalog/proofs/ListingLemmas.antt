-- The nodes of a catalog that isn't broken make a listing.
use Rattle.std.proofs.Common.{◌≡◌, ℕ, ◌+◌, ◌<◌, ◌≤◌, Bool, true, false, cond, List, [], ◌∷◌, ◌++◌, length, map}
use Rattle.std.proofs.Common.{reverse, refl, sym, ◌∙◌, ap, arith, inl, inr}
use Rattle.std.specs.Prelude.{◌==◌, nat_lt, Option, Some, None, Ok, Err, if◌then◌else◌}
use Rattle.std.specs.Option.{option_map_or}
use Rattle.std.specs.List.{AllByRecursion, filter_map, cons_option, list_any, count_by}
use Rattle.std.specs.List.Sorted.{IsStrictlySortedBy}
use Rattle.std.specs.Ordering.{nat_cmp, ordering_then}
use Rattle.std.specs.Cmp.{tied_itself}
use Rattle.std.specs.Cmp.Lexicographic.{slice_cmp}
use Rattle.std.specs.FinMap.{slice_cmp-IsAntisymmetric, nat_cmp-IsAntisymmetric}
use Rattle.std.specs.declared.cmp.Ordering.{Ordering}
use Rattle.std.specs.declared.cmp.Ordering.TheVariants.{Less, Equal, Greater}
use Rattle.std.proofs.lemmas.Bool.{cases_Bool, and_parts, or_parts, eqb-true}
use Rattle.std.proofs.lemmas.Bool.Decides.{nat_tests}
use Rattle.std.proofs.lemmas.Cmp.{nat_list_cmp_total}
use Rattle.std.proofs.lemmas.List.{reverse-append}
use Rattle.std.proofs.lemmas.List.Sums.{sum_by-cons}
use Rattle.std.proofs.lemmas.Map.Keys.{sorted_head, sorted_tail}
use Rattle.dz_name.specs.Name.{canonical_order, label_order, first_label, labels_of}
use Rattle.dz_name.specs.Order.{same_decides}
use Rattle.dz_record.specs.Record.{Record, record_order, target_of}
use Rattle.dz_zone.specs.Valid.{some_two, both_are}
use Rattle.dz_runs.proofs.InOrder.{in_order_stays}
use Rattle.dz_member.specs.Listing.{IsListing}
use Rattle.dz_member.specs.declared.listing.Node.{Node}
use Rattle.dz_member.specs.declared.listing.Broken.{Broken}
use Rattle.dz_member.specs.declared.listing.Broken.TheVariants.{NoVersion, VersionTwice, OtherVersion, MemberTwice}
use Rattle.dz_member.specs.declared.listing.Broken.TheVariants.{CooTwice, TooManyMembers, ZoneTwice}
use Rattle.dz_catalog.specs.Broken.{no_version, version_twice, other_version, twins, member_twice, coo_twice, too_many}
use Rattle.dz_catalog.specs.Broken.{zone_twice, broken_records, by_count}
use Rattle.dz_catalog.specs.Listing.{listing_of}
use Rattle.dz_catalog.specs.Member.{is_node, is_member, node_of, nodes_of, zones_of}

then_equal : (o : Ordering) → ordering_then o Equal ≡ o
then_equal Less = refl
then_equal Equal = refl
then_equal Greater = refl

-- names that differ in their first labels alone are in the order of these
behind_same : (p : List (List ℕ)) (l m : List ℕ)
    → slice_cmp (slice_cmp nat_cmp) (p ++ l ∷ []) (p ++ m ∷ []) ≡ label_order l m
behind_same [] l m = then_equal (label_order l m)
behind_same (x ∷ p) l m = rw (tied_itself nat_list_cmp_total x) (behind_same p l m)

sibling : (z : List (List ℕ)) (l m : List ℕ) → canonical_order (l ∷ z) (m ∷ z) ≡ label_order l m
sibling z l m =
    let a : reverse (l ∷ z) ≡ reverse z ++ l ∷ [] = reverse-append (l ∷ []) z in
    let b : reverse (m ∷ z) ≡ reverse z ++ m ∷ [] = reverse-append (m ∷ []) z in
    rw (a, b) (behind_same (reverse z) l m)

-- the owner of a member record is its label followed by `zones`
pub owner_is : (apex : List (List ℕ)) (name : List (List ℕ)) (label : List ℕ) → is_node apex name ≡ true
    → first_label name ≡ Some label → name ≡ label ∷ zones_of apex
owner_is apex [] label h f = absurd (cc)
owner_is apex (l ∷ above) label h f =
    let e : above ≡ zones_of apex = (same_decides above (zones_of apex)).0 h in
    let g : l ≡ label = cc in
    rw (e, g) refl

-- a node is that of a member record, and its label the first of the owner
pub record IsOf (apex : List (List ℕ)) (r : Record) (n : Node) : Type 0 where
  pub member : is_member apex r ≡ true
  pub label : first_label r.owner ≡ Some n.label

of_parts : (apex : List (List ℕ)) (all : List Record) (r : Record) (n : Node) (first : Option (List ℕ))
    (target : Option (List (List ℕ))) → first_label r.owner ≡ first → target_of r ≡ target → is_member apex r ≡ true
    → node_of apex all r ≡ Some n → IsOf apex r n
unfolding node_of
of_parts apex all r n None target f t m e = let g = rw (m, f) at e in absurd (cc)
of_parts apex all r n (Some label) None f t m e = let g = rw (m, f, t) at e in absurd (cc)
of_parts apex all r n (Some label) (Some zone) f t m e =
    let g = rw (m, f, t) at e in
    let l : label ≡ n.label = ap (λ (o : Option Node). option_map_or (λ (x : Node). x.label) o label) g in
    record { member = m; label = f ∙ ap Some l }

pub node_shape : (apex : List (List ℕ)) (all : List Record) (r : Record) (n : Node) → node_of apex all r ≡ Some n
    → IsOf apex r n
unfolding node_of
node_shape apex all r n e =
    elim (cases_Bool (is_member apex r)) [
      | inl t ↦ of_parts apex all r n (first_label r.owner) (target_of r) refl refl t e
      | inr f ↦ let g = rw f at e in absurd (cc)
    ]

three : (o p q : Ordering) → (o ≡ Equal → ⊥) → ordering_then (ordering_then o p) q ≡ Less → o ≡ Less
three Less p q other h = refl
three Equal p q other h = absurd (other refl)
three Greater p q other h = absurd (cc)

pair_twin : (apex : List (List ℕ)) (r s : Record) → is_member apex r ≡ true → is_member apex s ≡ true
    → r.owner ≡ s.owner → twins (is_node apex) r s ≡ true
unfolding twins both_are
pair_twin apex r s a b e =
    let p = and_parts (r.kind == 12) (is_node apex r.owner) a in
    let q = and_parts (s.kind == 12) (is_node apex s.owner) b in
    rw ((same_decides r.owner s.owner).1 e, p.0, p.1, q.0) refl

-- the labels of two member records rise where the records do and have different owners
labels_less : (apex : List (List ℕ)) (r s : Record) (n m : Node) → IsOf apex r n → IsOf apex s m
    → record_order r s ≡ Less → twins (is_node apex) r s ≡ false → label_order n.label m.label ≡ Less
labels_less apex r s n m a b less apart =
    let x = owner_is apex r.owner n.label (and_parts (r.kind == 12) (is_node apex r.owner) a.member).1 a.label in
    let y = owner_is apex s.owner m.label (and_parts (s.kind == 12) (is_node apex s.owner) b.member).1 b.label in
    let o : canonical_order r.owner s.owner ≡ label_order n.label m.label =
    rw (x, y) (sibling (zones_of apex) n.label m.label) in
    let differ : label_order n.label m.label ≡ Equal → ⊥ =
    λ e.
    let l : n.label ≡ m.label = slice_cmp-IsAntisymmetric nat_cmp-IsAntisymmetric n.label m.label e in
    let same : r.owner ≡ s.owner = x ∙ (ap (λ (k : List ℕ). k ∷ zones_of apex) l ∙ sym y) in
    let t = pair_twin apex r s a.member b.member same in cc in
    three (label_order n.label m.label) (nat_cmp r.kind s.kind) (slice_cmp nat_cmp r.rdata s.rdata) differ
    (rw o at less)

all_less : (apex : List (List ℕ)) (all : List Record) (r : Record) (n : Node) (ss : List Record) → IsOf apex r n
    → AllByRecursion (λ s. record_order r s ≡ Less) ss → list_any (twins (is_node apex) r) ss ≡ false
    → AllByRecursion (λ l. label_order n.label l ≡ Less) (map (λ x. x.label) (filter_map (node_of apex all) ss))
all_less apex all r n [] a up apart = tt
all_less apex all r n (s ∷ ss) a up apart =
    let parts = or_parts (twins (is_node apex) r s) (list_any (twins (is_node apex) r) ss) apart in
    let rest = all_less apex all r n ss a up.1 parts.1 in
    elim (node_of apex all s) as (λ o. node_of apex all s ≡ o → AllByRecursion (λ l. label_order n.label l ≡ Less)
    (map (λ (x : Node). x.label) (cons_option o (filter_map (node_of apex all) ss)))) [
      | None ↦ λ e. rest
      | Some m ↦ λ e. (labels_less apex r s n m a (node_shape apex all s m e) up.0 parts.0, rest)
    ] refl

pub labels_rise : (apex : List (List ℕ)) (all ss : List Record) → IsStrictlySortedBy record_order ss
    → some_two (twins (is_node apex)) ss ≡ false
    → IsStrictlySortedBy label_order (map (λ x. x.label) (filter_map (node_of apex all) ss))
unfolding some_two IsStrictlySortedBy
labels_rise apex all [] up apart = tt
labels_rise apex all (s ∷ ss) up apart =
    let parts = or_parts (list_any (twins (is_node apex) s) ss) (some_two (twins (is_node apex)) ss) apart in
    let rest = labels_rise apex all ss (sorted_tail record_order s ss up) parts.1 in
    elim (node_of apex all s) as (λ o. node_of apex all s ≡ o → IsStrictlySortedBy label_order
    (map (λ (x : Node). x.label) (cons_option o (filter_map (node_of apex all) ss)))) [
      | None ↦ λ e. rest
      | Some n ↦
          λ e. (all_less apex all s n ss (node_shape apex all s n e) (sorted_head record_order s ss up) parts.0, rest)
    ] refl

one_more : (b : Bool) (n : ℕ) → n ≡ cond b 1 0 → b ≡ true → n ≡ 1
one_more true n is e = is
one_more false n is e = absurd (cc)

none_here : (b : Bool) (n : ℕ) → n ≡ cond b 1 0 → b ≡ false → n ≡ 0
none_here true n is e = absurd (cc)
none_here false n is e = is

-- a member record has a node
pub owner_named : (apex : List (List ℕ)) (all : List Record) (r : Record) (owner : List (List ℕ)) → r.owner ≡ owner
    → is_member apex r ≡ true → node_of apex all r ≡ None → ⊥
unfolding node_of
owner_named apex all r [] o m e =
    let n : is_node apex [] ≡ true = rw o at (and_parts (r.kind == 12) (is_node apex r.owner) m).1 in
    absurd (cc)
owner_named apex all r (label ∷ above) o m e =
    let f : first_label r.owner ≡ Some label = rw o refl in
    let k : r.kind ≡ 12 = eqb-true r.kind 12 (and_parts (r.kind == 12) (is_node apex r.owner) m).0 in
    let t : target_of r ≡ Some (labels_of r.rdata) = rw k refl in
    let g = rw (m, f, t) at e in
    absurd (cc)

no_member : (apex : List (List ℕ)) (all : List Record) (r : Record) → node_of apex all r ≡ None
    → is_member apex r ≡ false
no_member apex all r e =
    elim (cases_Bool (is_member apex r)) [
      | inl t ↦ absurd (owner_named apex all r r.owner refl t e)
      | inr f ↦ f
    ]

pub as_many : (apex : List (List ℕ)) (all ss : List Record)
    → length (filter_map (node_of apex all) ss) ≡ count_by (is_member apex) ss
as_many apex all [] = refl
as_many apex all (s ∷ ss) =
    let ih = as_many apex all ss in
    let step : count_by (is_member apex) (s ∷ ss) ≡ cond (is_member apex s) 1 0 + count_by (is_member apex) ss =
    sum_by-cons (λ (r : Record). cond (is_member apex r) 1 0) s ss in
    elim (node_of apex all s) as (λ o. node_of apex all s ≡ o
    → length (cons_option o (filter_map (node_of apex all) ss)) ≡ count_by (is_member apex) (s ∷ ss)) [
      | None ↦
          λ e. let none = none_here (is_member apex s) (cond (is_member apex s) 1 0) refl (no_member apex all s e) in
          omega arith
      | Some n ↦ λ e.
          let one =
          one_more (is_member apex s) (cond (is_member apex s) 1 0) refl (node_shape apex all s n e).member in
          omega arith
    ] refl

none_parts : (a b c d e f : Bool) (p q r s t u : Broken)
    → (if a then Some p else if b then Some q else if c then Some r else if d then Some s else if e then Some t
    else if f then Some u else None) ≡ None → (d ≡ false) × (f ≡ false)
none_parts true b c d e f p q r s t u h = absurd (cc)
none_parts false true c d e f p q r s t u h = absurd (cc)
none_parts false false true d e f p q r s t u h = absurd (cc)
none_parts false false false true e f p q r s t u h = absurd (cc)
none_parts false false false false true f p q r s t u h = absurd (cc)
none_parts false false false false false true p q r s t u h = absurd (cc)
none_parts false false false false false false p q r s t u h = (refl, refl)

sound : (apex : List (List ℕ)) (rs : List Record) → broken_records apex rs ≡ None
    → (member_twice apex rs ≡ false) × (too_many apex rs ≡ false)
unfolding broken_records
sound apex rs h =
    none_parts (no_version apex rs) (version_twice apex rs) (other_version apex rs) (member_twice apex rs)
    (coo_twice apex rs) (too_many apex rs)
    NoVersion VersionTwice OtherVersion MemberTwice CooTwice TooManyMembers h

pub makes_listing : (apex : List (List ℕ)) (rs : List Record) (nodes : List Node) → IsStrictlySortedBy record_order rs
    → broken_records apex rs ≡ None → nodes ≡ filter_map (node_of apex rs) rs
    → zone_twice nodes ≡ false → IsListing nodes
makes_listing apex rs nodes up none is once =
    let s = sound apex rs none in
    let few = as_many apex rs rs in
    let m : nat_lt 65536 (count_by (is_member apex) rs) ≡ false = s.1 in
    record {
      labels = rw is (labels_rise apex rs rs up s.0);
      zones = once;
      few = rw is (grind (arith, nat_tests, few, m));
    }

pub nodes_are : (apex : List (List ℕ)) (rs : List Record) → IsStrictlySortedBy record_order rs
    → nodes_of apex rs ≡ filter_map (node_of apex rs) rs
nodes_are apex rs up = ap (filter_map (node_of apex rs)) (in_order_stays rs up)

-- what the code answers is the defined listing
pub reads_broken : (apex : List (List ℕ)) (rs : List Record) (reason : Broken) → broken_records apex rs ≡ Some reason
    → listing_of apex rs ≡ Err reason
reads_broken apex rs reason h = rw h refl

pub reads_twice : (apex : List (List ℕ)) (rs : List Record) (nodes : List Node) → IsStrictlySortedBy record_order rs
    → broken_records apex rs ≡ None → nodes ≡ filter_map (node_of apex rs) rs
    → zone_twice nodes ≡ true → listing_of apex rs ≡ Err ZoneTwice
reads_twice apex rs nodes up none is twice =
    let e : zone_twice (nodes_of apex rs) ≡ true = rw (nodes_are apex rs up) (rw is at twice) in
    rw (none, e) refl

pub reads_nodes : (apex : List (List ℕ)) (rs : List Record) (nodes listing : List Node)
    → IsStrictlySortedBy record_order rs → broken_records apex rs ≡ None → nodes ≡ filter_map (node_of apex rs) rs
    → zone_twice nodes ≡ false → listing ≡ nodes → listing_of apex rs ≡ Ok listing
reads_nodes apex rs nodes listing up none is once l =
    let n = nodes_are apex rs up in
    let e : zone_twice (nodes_of apex rs) ≡ false = rw n (rw is at once) in
    rw (none, e) (ap Ok (n ∙ sym (l ∙ is)))

-- nodes that make no listing
pub reads_none : (apex : List (List ℕ)) (rs : List Record) (nodes : List Node) → IsStrictlySortedBy record_order rs
    → broken_records apex rs ≡ None → nodes ≡ filter_map (node_of apex rs) rs
    → (IsListing nodes → ⊥) → listing_of apex rs ≡ Err ZoneTwice
reads_none apex rs nodes up none is broken =
    elim (cases_Bool (zone_twice nodes)) [
      | inl t ↦ reads_twice apex rs nodes up none is t
      | inr f ↦ absurd (broken (makes_listing apex rs nodes up none is f))
    ]

-- the number of nodes tells whether members are too many
pub reads_many : (apex : List (List ℕ)) (rs : List Record) (nodes : List Node)
    → nodes ≡ filter_map (node_of apex rs) rs → broken_records apex rs ≡ by_count apex rs → 65536 < length nodes
    → listing_of apex rs ≡ Err TooManyMembers
reads_many apex rs nodes is only much =
    let count : length nodes ≡ count_by (is_member apex) rs = ap length is ∙ as_many apex rs rs in
    let many : too_many apex rs ≡ true = grind (arith, nat_tests, count, much) in
    reads_broken apex rs TooManyMembers (rw many at only)

pub unbroken : (apex : List (List ℕ)) (rs : List Record) (nodes : List Node) → nodes ≡ filter_map (node_of apex rs) rs
    → broken_records apex rs ≡ by_count apex rs → length nodes ≤ 65536
    → broken_records apex rs ≡ None
unbroken apex rs nodes is only few =
    let count : length nodes ≡ count_by (is_member apex) rs = ap length is ∙ as_many apex rs rs in
    let not_many : too_many apex rs ≡ false = grind (arith, nat_tests, count, few) in
    rw not_many at only
