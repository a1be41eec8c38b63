-- The steps of a merge of the records that are left with those that were added.
use Rattle.std.proofs.Common.{◌≡◌, ℕ, zero, suc, ◌+◌, ◌-◌, ◌<◌, ◌≤◌, Bool, true, false, List, [], ◌∷◌, ◌++◌}
use Rattle.std.proofs.Common.{append_assoc, length, take, drop, get_or, refl, sym, ◌∙◌, ap, subst, arith, inl, inr}
use Rattle.std.proofs.Common.{Ordering, Less, Equal, Greater, is_lt, is_gt, Some}
use Rattle.std.specs.Prelude.{nat_lt, slice_get, slice_range}
use Rattle.std.proofs.lemmas.Bool.Decides.{nat_tests}
use Rattle.std.specs.List.{AllByRecursion, AllWithin}
use Rattle.std.specs.List.Sorted.{IsStrictlySortedBy, IsPartitionedBy}
use Rattle.std.specs.Ordering.{is_ge, ordering_then, nat_cmp}
use Rattle.std.specs.Cmp.{IsTotalOrder}
use Rattle.std.proofs.lemmas.Bool.{cases_Bool, cases_lt, false≢true}
use Rattle.std.proofs.lemmas.List.{append-nil, get_or-map, length-map, take-map, drop-map}
use Rattle.dz_name.specs.Name.{canonical_order}
use Rattle.dz_record.specs.Order.{record_total}
use Rattle.dz_record.specs.Record.{Record, record_order}
use Rattle.dz_index.specs.Rows.{Rows, IsIndex, total}
use Rattle.dz_zone.specs.Version.{owners_of}
use Rattle.dz_zone.specs.inner.Overlay.{Flagged, items, left_of, placed, overlaid, Rises, IsOverlay, first_before}
use Rattle.dz_zone.specs.inner.Revising.{flags_of, Merged, IsMerged, follows}
use Rattle.dz_zone.proofs.Searched.{rises_at}
use Rattle.dz_zone.proofs.OverlayLemmas.{merge_take, merge_set, moves_none, all_kept, all_less}

module _ {X : Type 0} (R : X → X → Ordering) (o : IsTotalOrder R) where
  -- a stretch that is still there, before none of which an added one comes
  pub merge_stretch : (n : ℕ) (xs : List X) (flags : List Bool) (out keys whole : List X) → n ≤ length xs
      → length flags ≡ length xs
      → AllByRecursion (λ f. f ≡ true) (take n flags) → AllByRecursion (λ x. first_before R keys x ≡ false) (take n xs)
      → IsOverlay R (flags_of xs flags) keys → out ++ overlaid R keys (left_of (flags_of xs flags)) ≡ whole
      → IsOverlay R (flags_of (drop n xs) (drop n flags)) keys
      × ((out ++ take n xs) ++ overlaid R keys (left_of (flags_of (drop n xs) (drop n flags))) ≡ whole)
  unfolding flags_of
  merge_stretch zero xs flags out keys whole l e s a h t =
      (h, ap (λ u. u ++ overlaid R keys (left_of (flags_of xs flags))) (append-nil out) ∙ t)
  merge_stretch (suc n) [] flags out keys whole l e s a h t = absurd (omega arith)
  merge_stretch (suc n) (x ∷ xs) [] out keys whole l e s a h t = absurd (omega (arith, e))
  merge_stretch (suc n) (x ∷ xs) (f ∷ flags) out keys whole l e s a h t =
      let m = merge_take R o (record { item = x; stands = f }) x (flags_of (x ∷ xs) (f ∷ flags)) (flags_of xs flags)
      out keys out keys (out ++ x ∷ []) whole refl refl s.0 h t (moves_none R o out keys x a.0) refl in
      let w = merge_stretch n xs flags (out ++ x ∷ []) keys whole (omega arith) (omega (arith, e)) s.1 a.1 m.0 m.1 in (
        w.0,
        ap (λ u. u ++ overlaid R keys (left_of (flags_of (drop n xs) (drop n flags))))
            (sym (append_assoc out (x ∷ []) (take n xs))) ∙ w.1,
      )

  less_of : (v : Ordering) → is_lt v ≡ true → v ≡ Less
  less_of Less h = refl
  less_of Equal h = absurd (cc)
  less_of Greater h = absurd (cc)

  -- the first of the added ones comes before the next record
  pub merge_first : (x : X) (keys : List X) (b : Flagged X) (rest : List (Flagged X))
      → IsOverlay R (b ∷ rest) (x ∷ keys) → is_lt (R x b.item) ≡ true
      → IsOverlay R (b ∷ rest) keys
      × (overlaid R (x ∷ keys) (left_of (b ∷ rest)) ≡ x ∷ overlaid R keys (left_of (b ∷ rest)))
  merge_first x keys b rest h l =
      let e = less_of (R x b.item) l in
      let below = all_kept R o (λ y. R x y ≡ Less) (b ∷ rest) (e, all_less R o x b.item (items rest) e h.base.0) in (
        record { base = h.base; added = h.added.1; apart = h.apart.1 },
        merge_set R o x keys (left_of (b ∷ rest)) h.added.0 below,
      )

  rises_front : (xs ys : List X) → Rises R (xs ++ ys) → Rises R ys
  rises_front [] ys h = h
  rises_front (x ∷ xs) ys h = rises_front xs ys h.1

  all_front : (P : X → Type 0) (xs ys : List X) → AllByRecursion P (xs ++ ys) → AllByRecursion P ys
  all_front P [] ys h = h
  all_front P (x ∷ xs) ys h = all_front P xs ys h.1

  -- the last of the first ones comes before the next
  pub last_before : (xs : List X) (y : X) (ys : List X) (d : X) → Rises R (xs ++ y ∷ ys) → 0 < length xs
      → R (get_or xs (length xs - 1) d) y ≡ Less
  last_before [] y ys d h l = absurd (omega arith)
  last_before (x ∷ []) y ys d h l = h.0.0
  last_before (x ∷ w ∷ xs) y ys d h l =
      let e : length (x ∷ w ∷ xs) - 1 ≡ suc (length xs) = omega arith in
      let f : length (w ∷ xs) - 1 ≡ length xs = omega arith in
      let k = last_before (w ∷ xs) y ys d h.1 (omega arith) in
      rw e (rw f at k)

  pub strict_of : (xs : List X) → Rises R xs → IsStrictlySortedBy R xs
  unfolding IsStrictlySortedBy
  strict_of [] h = tt
  strict_of (x ∷ xs) h = (h.0, strict_of xs h.1)

-- how many there are
pub length_placed : {X : Type 0} (R : X → X → Ordering) (x : X) (ys : List X)
    → length (placed R x ys) ≡ suc (length ys)
unfolding placed
length_placed R x [] = refl
length_placed R x (y ∷ ys) = elim (cases_Bool (is_gt (R x y))) [
  | inl t ↦ rw t (ap suc (length_placed R x ys))
  | inr f ↦ rw f refl
]

pub length_overlaid : {X : Type 0} (R : X → X → Ordering) (xs ys : List X)
    → length (overlaid R xs ys) ≡ length xs + length ys
unfolding overlaid
length_overlaid R [] ys = omega arith
length_overlaid R (x ∷ xs) ys =
    let a = length_placed R x (overlaid R xs ys) in
    let b = length_overlaid R xs ys in
    omega (arith, a, b)

pub length_left : {X : Type 0} (base : List (Flagged X)) → length (left_of base) ≤ length base
unfolding left_of
length_left [] = omega arith
length_left (b ∷ base) =
    let rest = length_left base in
    elim (cases_Bool b.stands) [
      | inl t ↦ rw t (omega (arith, rest))
      | inr f ↦ rw f (omega (arith, rest))
    ]

-- ---- where the added records begin
module _ {X : Type 0} (R : X → X → Ordering) (o : IsTotalOrder R) where
  first_is : (keys : List X) (first : X) → slice_get keys 0 ≡ Some first → (x : X)
      → first_before R keys x ≡ is_lt (R first x)
  first_is [] first h x = absurd (cc)
  first_is (k ∷ keys) first h x = cc

  not_lt : (v : Ordering) → is_ge v ≡ true → is_lt v ≡ false
  not_lt Less h = absurd (cc)
  not_lt Equal h = refl
  not_lt Greater h = refl

  ge_not : (v : Ordering) → is_lt v ≡ false → is_ge v ≡ true
  ge_not Less h = absurd (cc)
  ge_not Equal h = refl
  ge_not Greater h = refl

  lt_not : (v : Ordering) → is_ge v ≡ false → v ≡ Less
  lt_not Less h = refl
  lt_not Equal h = absurd (cc)
  lt_not Greater h = absurd (cc)

  pub rises_drop : (n : ℕ) (xs : List X) → Rises R xs → Rises R (drop n xs)
  rises_drop zero xs h = h
  rises_drop (suc n) [] h = tt
  rises_drop (suc n) (x ∷ xs) h = rises_drop n xs h.1

  pub part_of : (first : X) (xs : List X) → Rises R xs → IsPartitionedBy (λ x. is_ge (R first x)) xs
  part_of first xs h i j d le within t = elim (cases_lt i j) [
    | inr ge ↦ let e : i ≡ j = omega arith in rw e t
    | inl lt ↦ elim (cases_Bool (is_ge (R first (get_or xs i d)))) [
      | inl g ↦ g
      | inr f ↦
          let less : R first (get_or xs j d) ≡ Less = o.trans first (get_or xs i d) (get_or xs j d)
          (lt_not (R first (get_or xs i d)) f) (rises_at R o xs h i j d lt within) in
          absurd (false≢true (ap is_ge (sym less) ∙ t))
    ]
  ]

  pub ahead_take : (keys : List X) (first : X) (n : ℕ) (xs : List X) → slice_get keys 0 ≡ Some first → n ≤ length xs
      → AllWithin (λ x. is_ge (R first x) ≡ true) xs 0 n
      → AllByRecursion (λ x. first_before R keys x ≡ false) (take n xs)
  ahead_take keys first zero xs s l h = tt
  ahead_take keys first (suc n) [] s l h = absurd (omega arith)
  ahead_take keys first (suc n) (x ∷ xs) s l h = (
    first_is keys first s x ∙ not_lt (R first x) (h 0 x (omega arith) (omega arith)),
    ahead_take keys first n xs s (omega arith) (λ k d a b. h (suc k) d (omega arith) (omega arith)),
  )

  pub some_ahead : (keys : List X) (first : X) (n : ℕ) (xs : List X) → slice_get keys 0 ≡ Some first → 0 < length xs
      → ((d : X) → first_before R keys (get_or xs 0 d) ≡ false)
      → AllWithin (λ x. is_ge (R first x) ≡ false) xs n (length xs) → 0 < n
  some_ahead keys first zero [] s l f h = absurd (omega arith)
  some_ahead keys first zero (x ∷ xs) s l f h =
      let a : is_lt (R first x) ≡ false = sym (first_is keys first s x) ∙ f x in
      absurd (false≢true (sym (h 0 x (omega arith) (omega arith)) ∙ ge_not (R first x) a))
  some_ahead keys first (suc n) xs s l f h = omega arith

  pub none_ahead : (keys xs : List X) → keys ≡ [] → AllByRecursion (λ x. first_before R keys x ≡ false) xs
  none_ahead keys [] e = tt
  none_ahead keys (x ∷ xs) e = (ap (λ k. first_before R k x) e, none_ahead keys xs e)

-- ---- records and the index of their owners
pub total_length : (m : Merged) → IsMerged m → total m.rows ≡ length m.records
total_length m h = h.total_is ∙ length-map m.records (λ r. r.owner)

not_gt : (o p q : Ordering) → ordering_then (ordering_then o p) q ≡ Less → is_gt o ≡ false
not_gt Less p q h = refl
not_gt Equal p q h = refl
not_gt Greater p q h = absurd (cc)

-- what comes next in order follows
pub follows_next : (xs : List Record) (y : Record) (ys all : List Record) → xs ++ y ∷ ys ≡ all → Rises record_order all
    → follows xs y
follows_next [] y ys all e h = refl
follows_next (x ∷ xs) y ys all e h =
    let long : length (owners_of (x ∷ xs)) ≡ length (x ∷ xs) = length-map (x ∷ xs) (λ r. r.owner) in
    let last =
    last_before record_order record_total (x ∷ xs) y ys x (subst (Rises record_order) (sym e) h) (omega arith) in
    let owner : get_or (owners_of (x ∷ xs)) (length (owners_of (x ∷ xs)) - 1) []
    ≡ (get_or (x ∷ xs) (length (x ∷ xs) - 1) x).owner =
    ap (λ n. get_or (owners_of (x ∷ xs)) (n - 1) []) long
    ∙ get_or-map (λ r. r.owner) (x ∷ xs) (length (x ∷ xs) - 1) x [] (omega arith) in
    let more : nat_lt 0 (length (owners_of (x ∷ xs))) ≡ true =
    let l : 0 < length (owners_of (x ∷ xs)) = omega (arith, long) in
    grind (arith, nat_tests) in
    rw (more, owner) (not_gt (canonical_order (get_or (x ∷ xs) (length (x ∷ xs) - 1) x).owner y.owner)
    (nat_cmp (get_or (x ∷ xs) (length (x ∷ xs) - 1) x).kind y.kind) _ last)

pub owners_append : (xs ys : List Record) → owners_of (xs ++ ys) ≡ owners_of xs ++ owners_of ys
owners_append [] ys = refl
owners_append (x ∷ xs) ys = ap (λ l. x.owner ∷ l) (owners_append xs ys)

-- the owners of what was taken over
pub taken_over : (m : Merged) (base new : List Record) (begin end : ℕ) (rows : Rows)
    → new ≡ m.records ++ slice_range base begin end
    → IsIndex (owners_of m.records ++ slice_range (owners_of base) begin end) rows → IsIndex (owners_of new) rows
taken_over m base new begin end rows e h =
    let part : owners_of (slice_range base begin end) ≡ slice_range (owners_of base) begin end =
    sym (take-map (λ r. r.owner) (end - begin) (drop begin base))
    ∙ ap (take (end - begin)) (sym (drop-map (λ r. r.owner) begin base)) in
    subst (λ o. IsIndex o rows) (sym (ap owners_of e
    ∙ (owners_append m.records (slice_range base begin end) ∙ ap (λ o. owners_of m.records ++ o) part))) h
