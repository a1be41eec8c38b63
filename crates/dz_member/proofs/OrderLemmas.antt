-- Nodes in the order of their zones.
use Rattle.std.proofs.Common.{◌≡◌, ◌+◌, ◌<◌, Bool, true, false, List, [], ◌∷◌, map, length, get_or, refl, sym, ◌∙◌, ap}
use Rattle.std.proofs.Common.{subst, arith, Ordering, Less, Equal, Greater, is_lt}
use Rattle.std.specs.Prelude.{None, if◌then◌else◌}
use Rattle.std.specs.Ordering.{ordering_reverse}
use Rattle.std.specs.Cmp.{IsStrictWeakOrder}
use Rattle.std.specs.List.{IsDistinct, AllByRecursion, list_any}
use Rattle.std.specs.List.Sorted.{IsSortedBy, IsStableBy, IsPermutation, IsStrictlySortedBy}
use Rattle.std.proofs.lemmas.List.{get_or-map, length-map}
use Rattle.std.proofs.lemmas.List.Sorted.{ranks_by, IsPermutation-map, IsPermutation-sym}
use Rattle.std.proofs.lemmas.Map.Keys.{IsDistinct-IsPermutation, IsDistinct-head, IsDistinct-tail}
use Rattle.std.proofs.lemmas.Map.Keys.{IsDistinct-from_sorted, apart_from_distinct, sorted_from_all_adjacent}
use Rattle.std.proofs.lemmas.Map.Made.{IsDistinct-from_AllPairs}
use Rattle.std.proofs.lemmas.Cmp.{tied_itself}
use Rattle.std.proofs.lemmas.Simd.{map-map}
use Rattle.std.proofs.lemmas.Bool.Decides.{same_from_decides}
use Rattle.dz_name.specs.Words.{Name}
use Rattle.dz_name.specs.Name.{canonical_order, same_name}
use Rattle.dz_name.specs.Order.{canonical_total, canonical_same, same_decides, same_ties}
use Rattle.dz_member.specs.Listing.{same_zone}
use Rattle.dz_member.specs.Sorting.{insert_by, sorted_by}
use Rattle.dz_member.specs.Process.{in_zone_order}
use Rattle.dz_settings.specs.Twice.{has_twice}
use Rattle.dz_member.specs.declared.listing.Node.{Node}
use Rattle.dz_member.proofs.SortLemmas.{stable_is}
use Rattle.dz_member.proofs.NumberLemmas.{one_place}
use Rattle.dz_member.proofs.WalkLemmas.{all_more}

-- names that are one tie
pub tied_same : (a b : Name) → a ≡ b → canonical_order a b ≡ Equal
tied_same a b e = subst (λ z. canonical_order z b ≡ Equal) (sym e) (tied_itself canonical_total b)

abbrev pub node_before : Node → Node → Bool
node_before a b = is_lt (canonical_order a.zone b.zone)

same_flips : (a b : Name) → same_name a b ≡ same_name b a
same_flips a b = same_from_decides (same_name a b) (same_name b a) (same_decides a b)
    ((λ t. sym ((same_decides b a).0 t)), (λ e. (same_decides b a).1 (sym e)))

by_cases : (a b : Name) (k : Ordering) → canonical_order a b ≡ k → is_lt (canonical_order b a) ≡ false
    → same_name a b ≡ false → canonical_order a b ≡ Less
by_cases a b Less e f g = e
by_cases a b Equal e f g = let t : same_name a b ≡ true = (same_decides a b).1 (canonical_same a b e) in absurd (cc)
by_cases a b Greater e f g =
    let l : canonical_order b a ≡ Less = canonical_total.antisymm b a ∙ ap ordering_reverse e in
    let t : is_lt (canonical_order b a) ≡ true = rw l refl in absurd (cc)

-- nodes of which no two have one zone
nothing : Node
nothing = record { label = []; zone = []; coo = None; groups = [] }

zone_flips : (a b : Node) → same_zone a b ≡ true → same_zone b a ≡ true
zone_flips a b t = sym (same_flips a.zone b.zone) ∙ t

pub distinct_zones : (ns : List Node) → has_twice same_zone ns ≡ false
    → IsDistinct same_name (map (λ (n : Node). n.zone) ns)
distinct_zones ns once =
    let zone : Node → Name = λ n. n.zone in
    IsDistinct-from_AllPairs same_decides (map zone ns) (λ i j d less inside e.
    let b : j < length ns = omega (arith, length-map ns zone) in
    let a : i < length ns = omega arith in
    let p : get_or (map zone ns) i d ≡ zone (get_or ns i nothing) = get_or-map zone ns i nothing d a in
    let q : get_or (map zone ns) j d ≡ zone (get_or ns j nothing) = get_or-map zone ns j nothing d b in
    let same : zone (get_or ns i nothing) ≡ zone (get_or ns j nothing) = sym p ∙ e ∙ q in
    let one : i ≡ j = one_place same_zone zone_flips ns i j nothing once a b
    ((same_decides (zone (get_or ns i nothing)) (zone (get_or ns j nothing))).1 same) in
    omega arith)

-- and the other way round
pub apart_all : (n : Node) (ns : List Node) → AllByRecursion (λ z. same_name n.zone z ≡ false)
    (map (λ (m : Node). m.zone) ns) → list_any (λ m. same_zone n m) ns ≡ false
apart_all n [] a = refl
apart_all n (m ∷ ms) a = rw a.0 (apart_all n ms a.1)

pub once_from : (ns : List Node) → IsDistinct same_name (map (λ (n : Node). n.zone) ns)
    → has_twice same_zone ns ≡ false
once_from [] d = refl
once_from (n ∷ ns) d =
    let zones = map (λ (m : Node). m.zone) ns in
    rw (apart_all n ns (IsDistinct-head same_name n.zone zones d))
    (once_from ns (IsDistinct-tail same_name n.zone zones d))

-- what a stable sort by a zone leaves
module _ {X : Type 0} (node : X → Node) where
  abbrev pub before : X → X → Bool
  before a b = node_before (node a) (node b)

  pub before_is : IsStrictWeakOrder before
  before_is = ranks_by canonical_total (λ x. (node x).zone)

  pub rises : (xs ys : List X) → IsPermutation xs ys → has_twice same_zone (map node xs) ≡ false → IsSortedBy before ys
      → IsStrictlySortedBy canonical_order (map (λ (n : Node). n.zone) (map node ys))
  unfolding IsStrictlySortedBy
  rises xs [] moved once sorted = tt
  rises xs (y ∷ rest) moved once sorted =
      let ys = y ∷ rest in
      let zone : X → Name = λ x. (node x).zone in
      let distinct : IsDistinct same_name (map zone xs) = subst (λ (zs : List Name). IsDistinct same_name zs)
      (map-map (λ (n : Node). n.zone) node xs) (distinct_zones (map node xs) once) in
      let apart = IsDistinct-IsPermutation same_name same_flips (map zone xs) (map zone ys)
      (IsPermutation-map zone xs ys moved) distinct in
      subst (λ (zs : List Name). IsStrictlySortedBy canonical_order zs) (sym (map-map (λ (n : Node). n.zone) node ys))
      (sorted_from_all_adjacent canonical_total (map zone ys) []
      (λ k lt.
      let n : k + 1 < length ys = omega (arith, length-map ys zone) in
      let m : k < length ys = omega arith in
      let a : get_or (map zone ys) k [] ≡ zone (get_or ys k y) = get_or-map zone ys k y [] m in
      let b : get_or (map zone ys) (k + 1) [] ≡ zone (get_or ys (k + 1) y) = get_or-map zone ys (k + 1) y [] n in
      by_cases (get_or (map zone ys) k []) (get_or (map zone ys) (k + 1) []) _ refl
      (rw (a, b) (sorted k y (omega arith) n))
      (apart_from_distinct same_name (map zone ys) k (k + 1) [] apart (omega arith) lt)))

  pub once : (xs ys : List X) → IsPermutation xs ys
      → IsStrictlySortedBy canonical_order (map (λ (n : Node). n.zone) (map node ys))
      → has_twice same_zone (map node xs) ≡ false
  once xs ys moved up =
      let zone : Node → Name = λ n. n.zone in
      let rising = IsDistinct-from_sorted canonical_order (map zone (map node ys)) up in
      let distinct : IsDistinct same_name (map zone (map node ys)) =
      subst (λ (e : Name → Name → Bool). IsDistinct e (map zone (map node ys)))
      (λ i a b. sym (same_ties a b) i) rising in
      let back = IsPermutation-sym (map zone (map node xs)) (map zone (map node ys))
      (IsPermutation-map zone (map node xs) (map node ys) (IsPermutation-map node xs ys moved)) in
      once_from (map node xs)
      (IsDistinct-IsPermutation same_name same_flips (map zone (map node ys)) (map zone (map node xs)) back distinct)

  insert_map : (x : X) (xs : List X) → map node (insert_by before x xs) ≡ insert_by node_before (node x) (map node xs)
  insert_map x [] = refl
  insert_map x (y ∷ ys) =
      elim (before y x) as (λ b. map node (if b then y ∷ insert_by before x ys else x ∷ y ∷ ys)
      ≡ (if b then node y ∷ insert_by node_before (node x) (map node ys) else node x ∷ node y ∷ map node ys)) [
        | true ↦ ap (λ (l : List Node). node y ∷ l) (insert_map x ys)
        | false ↦ refl
      ]

  sorted_map : (xs : List X) → map node (sorted_by before xs) ≡ sorted_by node_before (map node xs)
  sorted_map [] = refl
  sorted_map (x ∷ xs) =
      insert_map x (sorted_by before xs) ∙ ap (λ (l : List Node). insert_by node_before (node x) l) (sorted_map xs)

  pub ordered : (xs ys : List X) → IsSortedBy before ys → IsStableBy before xs ys
      → map node ys ≡ in_zone_order (map node xs)
  ordered xs ys sorted stable = ap (λ (l : List X). map node l) (stable_is before before_is xs ys sorted stable)
      ∙ sorted_map xs

-- nodes of different zones rise once they are in zone order
abbrev zone_at : Node → Name
zone_at n = n.zone

all_insert : (P : Name → Type 0) (x : Node) (ys : List Node) → P x.zone → AllByRecursion P (map zone_at ys)
    → AllByRecursion P (map zone_at (insert_by node_before x ys))
all_insert P x [] p a = (p, tt)
all_insert P x (y ∷ ys) p a =
    elim (node_before y x) as (λ b.
    AllByRecursion P (map zone_at (if b then y ∷ insert_by node_before x ys else x ∷ y ∷ ys))) [
      | true ↦ (a.0, all_insert P x ys p a.1)
      | false ↦ (p, a)
    ]

all_sorted : (P : Name → Type 0) (ns : List Node) → AllByRecursion P (map zone_at ns)
    → AllByRecursion P (map zone_at (in_zone_order ns))
all_sorted P [] a = tt
all_sorted P (n ∷ ns) a = all_insert P n (in_zone_order ns) a.0 (all_sorted P ns a.1)

pub less_is : (k : Ordering) → is_lt k ≡ true → k ≡ Less
less_is Less h = refl
less_is Equal h = absurd (cc)
less_is Greater h = absurd (cc)

insert_rises : (x : Node) (ys : List Node) → IsStrictlySortedBy canonical_order (map zone_at ys)
    → AllByRecursion (λ z. same_name x.zone z ≡ false) (map zone_at ys)
    → IsStrictlySortedBy canonical_order (map zone_at (insert_by node_before x ys))
unfolding IsStrictlySortedBy
insert_rises x [] up apart = (tt, tt)
insert_rises x (y ∷ ys) up apart =
    elim (node_before y x) as (λ b. node_before y x ≡ b → IsStrictlySortedBy canonical_order
    (map zone_at (if b then y ∷ insert_by node_before x ys else x ∷ y ∷ ys))) [
      | true ↦ λ t. (
        all_insert (λ z. canonical_order y.zone z ≡ Less) x ys
            (less_is (canonical_order y.zone x.zone) t) up.0,
        insert_rises x ys up.1 apart.1,
      )
      | false ↦ λ f.
          let l = by_cases x.zone y.zone (canonical_order x.zone y.zone) refl f apart.0 in (
            (
              l,
              all_more (λ z. canonical_order y.zone z ≡ Less) (λ z. canonical_order x.zone z ≡ Less)
                  (λ z m. canonical_total.trans x.zone y.zone z l m) (map zone_at ys) up.0,
            ),
            up,
          )
    ] refl

rise_from : (ns : List Node) → IsDistinct same_name (map zone_at ns)
    → IsStrictlySortedBy canonical_order (map zone_at (in_zone_order ns))
unfolding IsStrictlySortedBy
rise_from [] d = tt
rise_from (n ∷ ns) d =
    let zones = map zone_at ns in
    insert_rises n (in_zone_order ns) (rise_from ns (IsDistinct-tail same_name n.zone zones d))
    (all_sorted (λ z. same_name n.zone z ≡ false) ns (IsDistinct-head same_name n.zone zones d))

pub sorted_rise : (ns : List Node) → has_twice same_zone ns ≡ false
    → IsStrictlySortedBy canonical_order (map (λ (n : Node). n.zone) (in_zone_order ns))
sorted_rise ns apart = rise_from ns (distinct_zones ns apart)
