-- One step of the walk over memberships and nodes.
use Rattle.std.proofs.Common.{◌≡◌, ℕ, zero, suc, List, [], ◌∷◌, ◌++◌, map, length, arith, append-nil, ◌+◌, ◌<◌, refl}
use Rattle.std.proofs.Common.{◌∙◌, ap, subst, append_assoc, Ordering, Less, Equal, Greater}
use Rattle.std.specs.Prelude.{Option, Some, None, is_some, if◌then◌else◌, drop, slice_get}
use Rattle.std.specs.Option.{option_map, option_to_list}
use Rattle.std.specs.Ordering.{ordering_reverse}
use Rattle.std.specs.List.{cons_option, AllByRecursion}
use Rattle.std.specs.List.Sorted.{IsStrictlySortedBy}
use Rattle.dz_name.specs.Words.{Name}
use Rattle.dz_name.specs.Name.{canonical_order, same_name}
use Rattle.dz_name.specs.Order.{canonical_total, canonical_same, same_decides}
use Rattle.dz_member.specs.Membership.{MemberOf}
use Rattle.dz_member.specs.inner.Walk.{Judge, Spot, spots, Pair, pair_by, first_pair, members_in, changes_in}
use Rattle.dz_member.specs.declared.membership.Membership.{Membership}
use Rattle.dz_member.specs.declared.listing.Node.{Node}
use Rattle.dz_member.specs.declared.change.Change.{Change}
use Rattle.std.proofs.lemmas.Map.Keys.{sorted_tail}
use Rattle.dz_member.proofs.WalkLemmas.{left, right, both, below_all}

abbrev pub Rise : List Membership → List Node → Type 0
Rise ms ns = IsStrictlySortedBy canonical_order (map (λ m. m.zone) ms)
    × IsStrictlySortedBy canonical_order (map (λ n. n.zone) ns)

abbrev spot : Judge → Name → Option Membership → Option Node → Spot
spot judge zone m n = record { zone = zone; judged = judge m n }

spots_left : (judge : Judge) (m : Membership) (ms : List Membership) (ns : List Node) → Rise (m ∷ ms) ns
    → AllByRecursion (λ z. canonical_order m.zone z ≡ Less) (map (λ n. n.zone) ns)
    → spots judge (m ∷ ms) ns ≡ spot judge m.zone (Some m) None ∷ spots judge ms ns
unfolding spots
spots_left judge m ms ns up below = left canonical_order canonical_total same_name same_decides (λ m. m.zone)
    (λ n. n.zone) (spot judge) m ms ns up.0 below

spots_right : (judge : Judge) (n : Node) (ms : List Membership) (ns : List Node) → Rise ms (n ∷ ns)
    → AllByRecursion (λ z. canonical_order n.zone z ≡ Less) (map (λ m. m.zone) ms)
    → spots judge ms (n ∷ ns) ≡ spot judge n.zone None (Some n) ∷ spots judge ms ns
unfolding spots
spots_right judge n ms ns up below = right canonical_order canonical_total same_name same_decides (λ m. m.zone)
    (λ n. n.zone) (spot judge) n ms ns up.1 below

spots_both : (judge : Judge) (m : Membership) (n : Node) (ms : List Membership) (ns : List Node)
    → Rise (m ∷ ms) (n ∷ ns) → canonical_order m.zone n.zone ≡ Equal
    → spots judge (m ∷ ms) (n ∷ ns) ≡ spot judge m.zone (Some m) (Some n) ∷ spots judge ms ns
unfolding spots
spots_both judge m n ms ns up level =
    both canonical_order canonical_total same_name same_decides (λ m. m.zone)
    (λ n. n.zone) (spot judge) m n ms ns up.0 up.1 level (canonical_same m.zone n.zone level)

spots_none : (judge : Judge) → spots judge [] [] ≡ []
unfolding spots
spots_none judge = refl

-- the nodes that are left after a pair
abbrev pub left_of : Pair → List Node → List Node
left_of p ns = drop (if is_some p.node then 1 else 0) ns

-- the memberships that are left after a pair
abbrev pub held_of : Pair → List Membership → List Membership
held_of p ms = drop (if is_some p.member then 1 else 0) ms

-- the first pair is one spot, and what follows gives the others
pub record Goes (judge : Judge) (ms : List Membership) (ns : List Node) (p : Pair) : Type 0 where
  pub held : IsStrictlySortedBy canonical_order (map (λ m. m.zone) (held_of p ms))
  pub listed : IsStrictlySortedBy canonical_order (map (λ n. n.zone) (left_of p ns))
  pub less : length (held_of p ms) + length (left_of p ns) < length ms + length ns
  pub spots : spots judge ms ns ≡ spot judge p.zone p.member p.node ∷ spots judge (held_of p ms) (left_of p ns)

rest_m : (m : Membership) (ms : List Membership) → IsStrictlySortedBy canonical_order (map (λ m. m.zone) (m ∷ ms))
    → IsStrictlySortedBy canonical_order (map (λ m. m.zone) ms)
rest_m m ms up = sorted_tail canonical_order m.zone (map (λ m. m.zone) ms) up

rest_n : (n : Node) (ns : List Node) → IsStrictlySortedBy canonical_order (map (λ n. n.zone) (n ∷ ns))
    → IsStrictlySortedBy canonical_order (map (λ n. n.zone) ns)
rest_n n ns up = sorted_tail canonical_order n.zone (map (λ n. n.zone) ns) up

goes_by : (judge : Judge) (m : Membership) (n : Node) (ms : List Membership) (ns : List Node) (k : Ordering)
    → Rise (m ∷ ms) (n ∷ ns) → canonical_order m.zone n.zone ≡ k → Goes judge (m ∷ ms) (n ∷ ns) (pair_by k m n)
goes_by judge m n ms ns Less up e = record {
  held = rest_m m ms up.0;
  listed = up.1;
  less = omega arith;
  spots = spots_left judge m ms (n ∷ ns) up (below_all canonical_order canonical_total same_name same_decides
      (λ m. m.zone) (λ n. n.zone) (spot judge) (λ n. n.zone) m.zone n ns up.1 e);
}
goes_by judge m n ms ns Equal up e = record {
  held = rest_m m ms up.0;
  listed = rest_n n ns up.1;
  less = omega arith;
  spots = spots_both judge m n ms ns up e;
}
goes_by judge m n ms ns Greater up e = record {
  held = up.0;
  listed = rest_n n ns up.1;
  less = omega arith;
  spots =
      let l : canonical_order n.zone m.zone ≡ Less = canonical_total.antisymm n.zone m.zone ∙ ap ordering_reverse e in
      spots_right judge n (m ∷ ms) ns up (below_all canonical_order canonical_total same_name same_decides
      (λ m. m.zone) (λ n. n.zone) (spot judge) (λ m. m.zone) n.zone m ms up.0 l);
}

goes_on : (judge : Judge) (ms : List Membership) (ns : List Node) (p : Pair) → Rise ms ns
    → first_pair (slice_get ms 0) (slice_get ns 0) ≡ Some p → Goes judge ms ns p
unfolding IsStrictlySortedBy
goes_on judge [] [] p up e = absurd (cc)
goes_on judge [] (n ∷ ns) p up e =
    let q : Pair = record { zone = n.zone; member = None; node = Some n } in
    let same : q ≡ p = cc in
    subst (Goes judge [] (n ∷ ns)) same
    (record { held = tt; listed = rest_n n ns up.1; less = omega arith; spots = spots_right judge n [] ns up tt })
goes_on judge (m ∷ ms) [] p up e =
    let q : Pair = record { zone = m.zone; member = Some m; node = None } in
    let same : q ≡ p = cc in
    subst (Goes judge (m ∷ ms) []) same
    (record { held = rest_m m ms up.0; listed = tt; less = omega arith; spots = spots_left judge m ms [] up tt })
goes_on judge (m ∷ ms) (n ∷ ns) p up e =
    let same : pair_by (canonical_order m.zone n.zone) m n ≡ p = cc in
    subst (Goes judge (m ∷ ms) (n ∷ ns)) same (goes_by judge m n ms ns (canonical_order m.zone n.zone) up refl)

pub spots_end : (judge : Judge) (ms : List Membership) (ns : List Node) → first_pair (slice_get ms 0) (slice_get ns 0) ≡ None
    → spots judge ms ns ≡ []
spots_end judge [] [] e = spots_none judge
spots_end judge [] (n ∷ ns) e = absurd (cc)
spots_end judge (m ∷ ms) [] e = absurd (cc)
spots_end judge (m ∷ ms) (n ∷ ns) e = absurd (cc)

consed : {X : Type 0} (r : Option X) (xs ys : List X) → (xs ++ option_to_list r) ++ ys ≡ xs ++ cons_option r ys
consed None xs ys = ap (λ zs. zs ++ ys) (append-nil xs)
consed (Some x) xs ys = append_assoc xs (x ∷ []) ys

-- the loop's step
pub record Step (judge : Judge) (ms : List Membership) (ns : List Node) (p : Pair) (members : List MemberOf)
    (changes : List Change) (all_members : List MemberOf) (all_changes : List Change) : Type 0 where
  pub goes : Goes judge ms ns p
  pub members_on : (members ++ option_to_list (judge p.member p.node).stands)
      ++ members_in (spots judge (held_of p ms) (left_of p ns)) ≡ all_members
  pub changes_on : (changes ++ option_to_list (option_map (λ what. record { zone = p.zone; what = what })
      (judge p.member p.node).change)) ++ changes_in (spots judge (held_of p ms) (left_of p ns)) ≡ all_changes

pub steps : (judge : Judge) (ms : List Membership) (ns : List Node) (p : Pair) (members : List MemberOf)
    (changes : List Change) (all_members : List MemberOf) (all_changes : List Change)
    → Rise ms ns → first_pair (slice_get ms 0) (slice_get ns 0) ≡ Some p → members ++ members_in (spots judge ms ns) ≡ all_members
    → changes ++ changes_in (spots judge ms ns) ≡ all_changes
    → Step judge ms ns p members changes all_members all_changes
steps judge ms ns p members changes all_members all_changes up e f g =
    let go = goes_on judge ms ns p up e in
    record {
      goes = go;
      members_on = consed (judge p.member p.node).stands members (members_in (spots judge (held_of p ms) (left_of p ns)))
          ∙ (rw go.spots at f);
      changes_on = consed (option_map (λ what. record { zone = p.zone; what = what }) (judge p.member p.node).change)
          changes (changes_in (spots judge (held_of p ms) (left_of p ns))) ∙ (rw go.spots at g);
    }

-- the first node from a place on
pub first_behind : (ns : List Node) (at : ℕ) → slice_get ns at ≡ slice_get (drop at ns) 0
first_behind [] zero = refl
first_behind [] (suc at) = refl
first_behind (n ∷ ns) zero = refl
first_behind (n ∷ ns) (suc at) = first_behind ns at
