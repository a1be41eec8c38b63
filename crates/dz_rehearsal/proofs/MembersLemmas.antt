-- The generated listings make the members that they are meant to make.
use Rattle.std.proofs.Common.{◌≡◌, ℕ, zero, suc, ◌+◌, ◌-◌, ◌<◌, ◌≤◌, Bool, true, false, List, [], ◌∷◌, ◌++◌, map}
use Rattle.std.proofs.Common.{Option, Some, None, refl, sym, ◌∙◌, ap, arith, is_lt}
use Rattle.std.specs.Prelude.{◌==◌, codes, if◌then◌else◌}
use Rattle.std.specs.List.{AllByRecursion, find, filter_map, cons_option, range_with_len}
use Rattle.std.specs.Option.{option_eq}
use Rattle.std.specs.Set.{sorted_merge}
use Rattle.std.specs.Str.{bytes_eq}
use Rattle.std.proofs.lemmas.Bool.Decides.{nat_tests}
use Rattle.std.proofs.lemmas.Cmp.{tied_itself}
use Rattle.std.proofs.lemmas.Slice.Eq.{bytes_eq-Decides}
use Rattle.dz_name.specs.Words.{Name, Octets}
use Rattle.dz_name.specs.Name.{canonical_order, same_name, same_label}
use Rattle.dz_name.specs.Order.{canonical_total, same_decides}
use Rattle.dz_member.specs.declared.listing.Node.{Node}
use Rattle.dz_member.specs.Membership.{MemberOf, choice_of}
use Rattle.dz_member.specs.Fold.{FoldOf, started, with_listing}
use Rattle.dz_member.specs.Process.{judged, process, in_zone_order, choice_in}
use Rattle.dz_member.specs.inner.Kept.{members_from}
use Rattle.dz_member.proofs.WalkLemmas.{walked, right, both}
use Rattle.dz_member.proofs.ZoneLemmas.{members_are}
use Rattle.dz_gen.specs.Records.{zone, is_strict}
use Rattle.dz_gen.specs.Script.{numbers}
use Rattle.dz_gen.specs.Reading.{cat_test}
use Rattle.dz_gen.proofs.ChangedLemmas.{one_zone}
use Rattle.dz_gen.proofs.MessageLemmas.{IsZone}
use Rattle.dz_gen.proofs.SpelledLemmas.{four_digits, zone_is}
use Rattle.dz_rehearsal.specs.Life.{config, node_of, renamed, first_nodes, changed_nodes, member_of, reset_member}
use Rattle.dz_rehearsal.specs.Life.{member_after, first_fold, changed_fold, Members}
use Rattle.dz_rehearsal.proofs.RiseLemmas.{zone_less, zone_greater, Rising, range_rising, range_zones, keys_rise}
use Rattle.dz_rehearsal.proofs.RiseLemmas.{sorted_stays, comes_first}

-- ---- lists of what may be there
abbrev there : {X : Type 0} → List (Option X) → List X
there os = filter_map (λ o. o) os

there_map : {Z X : Type 0} (f : Z → Option X) (zs : List Z) → filter_map f zs ≡ there (map f zs)
there_map f [] = refl
there_map f (z ∷ zs) = ap (cons_option (f z)) (there_map f zs)

-- ---- what is judged at a zone
-- no zone is the catalog
no_catalog : (k : ℕ) → IsZone k → same_name cat_test (zone k) ≡ false
no_catalog k is = rw (zone_is k (four_digits k is.some is.few)) refl

-- a node's group is its member's choice
choice_is : (k : ℕ) → choice_in config cat_test (node_of k) ≡ (member_of k).choice
unfolding choice_of
choice_is k = by_group (is_strict k)
  where
    by_group : (b : Bool) → choice_in config cat_test
        (record { label = []; zone = []; coo = None; groups = if b then (6 ∷ codes "strict") ∷ [] else [] })
        ≡ (if b then Some (codes "strict") else None)
    by_group true = refl
    by_group false = refl

pub same_choice : (o : Option Octets) → option_eq bytes_eq o o ≡ true
same_choice None = refl
same_choice (Some word) = (bytes_eq-Decides word word).1 refl

-- a new zone is added
added : (k : ℕ) → IsZone k → (judged (started config) cat_test 1 None (Some (node_of k))).stands ≡ Some (member_of k)
unfolding judged
added k is = rw (no_catalog k is)
    (ap (λ c. Some (record {
      zone = zone k;
      catalog = cat_test;
      label = (node_of k).label;
      incarnation = 1;
      choice = c;
    })) (choice_is k))

module _ (fold : FoldOf) (same : fold.config ≡ config) (position : ℕ) where
  -- a zone whose node is as before stays
  stays : (k : ℕ) → IsZone k → (judged fold cat_test position (Some (member_of k)) (Some (node_of k))).stands
      ≡ Some (member_of k)
  unfolding judged
  stays k is =
      let label : same_label (member_of k).label (node_of k).label ≡ true =
      (bytes_eq-Decides (node_of k).label (node_of k).label).1 refl in
      rw (same, no_catalog k is, label, choice_is k, same_choice (member_of k).choice) refl

  -- the first zone has another label
  resets : (judged fold cat_test position (Some (member_of 1)) (Some renamed)).stands ≡ Some (reset_member position)
  unfolding judged choice_of
  resets = rw (same, no_catalog 1 one_zone) refl

-- ---- what a listing makes
process_is : (fold : FoldOf) (catalog : Name) (nodes : List Node) (position : ℕ) (members : List MemberOf)
    (listings : List (Option (List Node)))
    → (process fold catalog nodes position).members ≡ members → with_listing fold catalog nodes ≡ listings
    → process fold catalog nodes position ≡ record { config = fold.config; members = members; listings = listings }
unfolding process
process_is fold catalog nodes position members listings m l =
    λ i. record { config = fold.config; members = m i; listings = l i }

abbrev member_zone : MemberOf → Name
member_zone m = m.zone

abbrev node_zone : Node → Name
node_zone n = n.zone

-- the members that a listing leaves, by zones
abbrev stands : FoldOf → ℕ → Name → Option MemberOf → Option Node → Option MemberOf
stands fold position zone held node = (judged fold cat_test position held node).stands

abbrev walk : FoldOf → ℕ → List MemberOf → List Node → List (Option MemberOf)
walk fold position ms ns = walked canonical_order canonical_total same_name same_decides member_zone node_zone
    (stands fold position) ms ns

members_walked : (fold : FoldOf) (nodes ordered : List Node) (position : ℕ) → in_zone_order nodes ≡ ordered
    → (process fold cat_test nodes position).members ≡ there (walk fold position fold.members ordered)
unfolding members_from
members_walked fold nodes ordered position e =
    sym (members_are fold cat_test nodes position)
    ∙ (ap (members_from fold cat_test position) e
    ∙ there_map (λ z. stands fold position z (find (λ m. same_name m.zone z) fold.members)
    (find (λ n. same_name n.zone z) ordered))
    (sorted_merge canonical_order true (map member_zone fold.members) (map node_zone ordered)))

-- with no member before, each node is added
walk_first : (ks : List ℕ) → AllByRecursion IsZone ks → Rising ks
    → there (walk (started config) 1 [] (map node_of ks)) ≡ map member_of ks
walk_first [] zs up = refl
walk_first (k ∷ ks) zs up =
    ap (λ os. there os) (right canonical_order canonical_total same_name same_decides member_zone node_zone
    (stands (started config) 1) (node_of k) [] (map node_of ks)
    (keys_rise canonical_order node_zone node_of zone_less (k ∷ ks) zs up) tt)
    ∙ (ap (λ o. cons_option o (there (walk (started config) 1 [] (map node_of ks)))) (added k zs.0)
    ∙ ap (λ ms. member_of k ∷ ms) (walk_first ks zs.1 up.1))

-- with the same nodes as before, each member stays
walk_more : (fold : FoldOf) → fold.config ≡ config → (position : ℕ) (ks : List ℕ) → AllByRecursion IsZone ks
    → Rising ks
    → there (walk fold position (map member_of ks) (map node_of ks)) ≡ map member_of ks
walk_more fold same position [] zs up = refl
walk_more fold same position (k ∷ ks) zs up =
    ap (λ os. there os) (both canonical_order canonical_total same_name same_decides member_zone node_zone
    (stands fold position) (member_of k) (node_of k) (map member_of ks) (map node_of ks)
    (keys_rise canonical_order member_zone member_of zone_less (k ∷ ks) zs up)
    (keys_rise canonical_order node_zone node_of zone_less (k ∷ ks) zs up)
    (tied_itself canonical_total (zone k)) refl)
    ∙ (ap (λ o. cons_option o (there (walk fold position (map member_of ks) (map node_of ks))))
    (stays fold same position k zs.0)
    ∙ ap (λ ms. member_of k ∷ ms) (walk_more fold same position ks zs.1 up.1))

zone_later : (j k : ℕ) → IsZone j → IsZone k → j < k → is_lt (canonical_order (zone k) (zone j)) ≡ false
zone_later j k is also l = ap is_lt (zone_greater j k is also l)

-- the first listing adds all zones
process_first : (n : ℕ) → n ≤ 1000 → process (started config) cat_test (first_nodes n) 1 ≡ first_fold n
process_first n few =
    let zs = range_zones 1 n (omega arith) (omega arith) in
    let up = range_rising 1 n in
    process_is (started config) cat_test (first_nodes n) 1 (map member_of (numbers n)) (Some (first_nodes n) ∷ [])
    (members_walked (started config) (first_nodes n) (first_nodes n) 1
    (sorted_stays (λ a b. is_lt (canonical_order a.zone b.zone)) node_of zone_later (numbers n) zs up)
    ∙ walk_first (numbers n) zs up) refl

-- ---- the change
-- the zones after the first, and what rises with them
behind_first : (k n : ℕ) → 1 < k → k + n ≤ 1001
    → AllByRecursion (λ j. is_lt (canonical_order (zone 1) (zone j)) ≡ true) (range_with_len k n)
behind_first k zero above few = tt
behind_first k (suc n) above few = (
  ap is_lt (zone_less 1 k one_zone (record { some = omega arith; few = omega arith }) above),
  behind_first (k + 1) n (omega arith) (omega arith),
)

-- the other zones' members are the same afterwards
others_after : (position k n : ℕ) → 1 < k → map (member_after position) (range_with_len k n)
    ≡ map member_of (range_with_len k n)
others_after position k zero above = refl
others_after position k (suc n) above =
    let f : (k == 1) ≡ false = grind (arith, nat_tests) in
    rw f (ap (λ ms. member_of k ∷ ms) (others_after position (k + 1) n (omega arith)))

-- the nodes after the change, of one zone more
pub nodes_are : (n : ℕ) → changed_nodes (suc n) ≡ map node_of (range_with_len 2 n) ++ renamed ∷ []
nodes_are n =
    let less : suc n - 1 ≡ n = omega arith in
    ap (λ m. map node_of (range_with_len 2 m) ++ renamed ∷ []) less

module _ (n : ℕ) (few : suc n ≤ 1000) (position : ℕ) where
  abbrev ks : List ℕ
  ks = range_with_len 2 n

  -- the first zone is reset, and the others stay
  changed_walk : there (walk (first_fold (suc n)) position (map member_of (1 ∷ ks)) (renamed ∷ map node_of ks))
      ≡ reset_member position ∷ map member_of ks
  changed_walk =
      let zs = range_zones 1 (suc n) (omega arith) (omega arith) in
      let up = range_rising 1 (suc n) in
      ap (λ os. there os) (both canonical_order canonical_total same_name same_decides member_zone node_zone
      (stands (first_fold (suc n)) position) (member_of 1) renamed (map member_of ks) (map node_of ks)
      (keys_rise canonical_order member_zone member_of zone_less (1 ∷ ks) zs up)
      (keys_rise canonical_order node_zone node_of zone_less (1 ∷ ks) zs up)
      (tied_itself canonical_total (zone 1)) refl)
      ∙ (ap (λ o. cons_option o (there (walk (first_fold (suc n)) position (map member_of ks) (map node_of ks))))
      (resets (first_fold (suc n)) refl position)
      ∙ ap (λ ms. reset_member position ∷ ms) (walk_more (first_fold (suc n)) refl position ks zs.1 up.1))

  -- the second resets the first zone alone
  pub process_changed : process (first_fold (suc n)) cat_test (changed_nodes (suc n)) position
      ≡ changed_fold (suc n) position
  process_changed =
      let zs = range_zones 1 (suc n) (omega arith) (omega arith) in
      let up = range_rising 1 (suc n) in
      process_is (first_fold (suc n)) cat_test (changed_nodes (suc n)) position (map (member_after position) (1 ∷ ks))
      (Some (changed_nodes (suc n)) ∷ [])
      (members_walked (first_fold (suc n)) (changed_nodes (suc n)) (renamed ∷ map node_of ks) position
      (ap in_zone_order (nodes_are n)
      ∙ comes_first (λ a b. is_lt (canonical_order a.zone b.zone)) node_of zone_later renamed ks zs.1 up.1
      (behind_first 2 n (omega arith) (omega arith)))
      ∙ (changed_walk ∙ ap (λ ms. reset_member position ∷ ms) (sym (others_after position 2 n (omega arith))))) refl

changed_members : (n position : ℕ) → 0 < n → n ≤ 1000 → process (first_fold n) cat_test (changed_nodes n) position
    ≡ changed_fold n position
changed_members zero position some few = absurd (omega arith)
changed_members (suc n) position some few = process_changed n few position

-- the listings make the members
pub members : (n position : ℕ) → Members n position
members n position = record {
  first = λ some few. process_first n few;
  changed = λ some few. changed_members n position some few;
}
