-- The places of nodes in the order of their zones.
use Rattle.std.proofs.Common.{◌≡◌, ℕ, suc, ◌+◌, ◌<◌, ◌≤◌, List, [], ◌∷◌, ◌++◌, length, map, take, drop, get_or, refl}
use Rattle.std.proofs.Common.{sym, ◌∙◌, ap, arith, inl, inr}
use Rattle.std.specs.Prelude.{Option, Some, None, slice_get, false, true, if◌then◌else◌}
use Rattle.std.specs.Option.{option_map}
use Rattle.std.specs.List.{All, AllByRecursion}
use Rattle.std.proofs.lemmas.List.{map-append, take_more, drop_all, length-map}
use Rattle.std.proofs.lemmas.Option.{slice_get_read, slice_get_within, slice_get_past, slice_get_cases, slice_get-map}
use Rattle.dz_member.specs.declared.listing.Node.{Node}
use Rattle.dz_member.specs.declared.sort.Placed.{Placed}
use Rattle.dz_member.specs.Process.{in_zone_order}
use Rattle.dz_member.specs.inner.Places.{ArePlaces, IsPlaced, IsAt, nodes_in}
use Rattle.dz_member.specs.Sorting.{insert_by}
use Rattle.dz_member.proofs.OrderLemmas.{node_before}
use Rattle.dz_member.proofs.WalkedLemmas.{all_push}
use Rattle.dz_member.proofs.ListingLemmas.{empty_listing}

pub empty_placed : IsPlaced [] []
empty_placed = record { listing = empty_listing; in_order = refl }

-- one node more
pub placed_more : (nodes : List Node) (ps : List Placed) (p : Placed) (k : ℕ) (n : Node) → k < length nodes
    → n ≡ get_or nodes k n → p.place ≡ k → p.node ≡ n
    → (nodes_in ps ≡ take k nodes) × AllByRecursion (IsAt nodes) ps
    → (nodes_in (ps ++ p ∷ []) ≡ take (k + 1) nodes) × AllByRecursion (IsAt nodes) (ps ++ p ∷ [])
placed_more nodes ps p k n lt is place node inv = (
  map-append (λ q. q.node) ps (p ∷ []) ∙ (ap (λ (xs : List Node). xs ++ p.node ∷ []) inv.0
      ∙ (ap (λ (m : Node). take k nodes ++ m ∷ []) (node ∙ is) ∙ sym (take_more nodes k n lt))),
  all_push (IsAt nodes) ps p inv.1 (rw (place, node) (slice_get_read nodes (length nodes) k n refl lt is)),
)

-- nodes that are at their places
pub places_are : (nodes : List Node) (ps : List Placed) → All (IsAt nodes) ps
    → map (slice_get nodes) (map (λ p. p.place) ps) ≡ map Some (nodes_in ps)
places_are nodes [] a = refl
places_are nodes (p ∷ ps) a =
    let first : slice_get nodes p.place ≡ Some p.node = a 0 p (omega arith) in
    let rest = places_are nodes ps (λ k d lt. a (suc k) d (omega arith)) in
    λ i. first i ∷ rest i

-- the node at one of the places
some_of : {X : Type 0} (o p : Option X) → Some o ≡ option_map Some p → o ≡ p
some_of o None e = absurd (cc)
some_of o (Some x) e = cc

pub by_place : (nodes : List Node) (places : List ℕ) (number place : ℕ) → ArePlaces nodes places
    → slice_get places number ≡ Some place → slice_get nodes place ≡ slice_get (in_zone_order nodes) number
by_place nodes places number place are found =
    some_of (slice_get nodes place) (slice_get (in_zone_order nodes) number)
    (ap (option_map (slice_get nodes)) (sym found)
    ∙ (sym (slice_get-map (slice_get nodes) places number)
    ∙ (ap (λ (os : List (Option Node)). slice_get os number) are ∙ slice_get-map Some (in_zone_order nodes) number)))

as_many : (nodes : List Node) (places : List ℕ) → ArePlaces nodes places → length places ≡ length (in_zone_order nodes)
as_many nodes places are = sym (length-map places (slice_get nodes))
    ∙ (ap length are ∙ length-map (in_zone_order nodes) Some)

pub place_within : (nodes : List Node) (places : List ℕ) (number place : ℕ) → ArePlaces nodes places
    → number < length places → slice_get places number ≡ Some place → place < length nodes
place_within nodes places number place are lt is =
    let e = by_place nodes places number place are is in
    let long = as_many nodes places are in
    elim (slice_get_cases (in_zone_order nodes) number).1 [
      | inl w ↦ slice_get_within nodes place w.0 (e ∙ w.2)
      | inr w ↦ absurd (omega (arith, w.0, long))
    ]

pub node_placed : (nodes : List Node) (places : List ℕ) (number place : ℕ) (n : Node) → ArePlaces nodes places
    → number < length places → slice_get places number ≡ Some place → n ≡ get_or nodes place n
    → Some n ≡ slice_get (in_zone_order nodes) number
node_placed nodes places number place n are lt is found =
    sym (slice_get_read nodes (length nodes) place n refl (place_within nodes places number place are lt is) found)
    ∙ by_place nodes places number place are is

pub none_placed : (nodes : List Node) (places : List ℕ) (number : ℕ) → ArePlaces nodes places → length places ≤ number
    → None ≡ slice_get (in_zone_order nodes) number
none_placed nodes places number are past =
    sym (slice_get_past (in_zone_order nodes) number (omega (arith, past, as_many nodes places are)))

length_insert : (x : Node) (ys : List Node) → length (insert_by node_before x ys) ≡ suc (length ys)
length_insert x [] = refl
length_insert x (y ∷ ys) =
    elim (node_before y x) as (λ b. length (if b then y ∷ insert_by node_before x ys else x ∷ y ∷ ys)
    ≡ suc (suc (length ys))) [
      | true ↦ ap suc (length_insert x ys)
      | false ↦ refl
    ]

pub length_ordered : (ns : List Node) → length (in_zone_order ns) ≡ length ns
length_ordered [] = refl
length_ordered (n ∷ ns) = length_insert n (in_zone_order ns) ∙ ap suc (length_ordered ns)

-- after the last there is none, taken or not
pub none_behind : (nodes : List Node) (at more : ℕ)
    → length nodes ≤ at → drop at (in_zone_order nodes) ≡ drop more (drop at (in_zone_order nodes))
none_behind nodes at more past =
    let none : drop at (in_zone_order nodes) ≡ [] =
    drop_all at (in_zone_order nodes) (omega (arith, past, length_ordered nodes)) in
    rw none (sym (drop_all more [] (omega arith)))
