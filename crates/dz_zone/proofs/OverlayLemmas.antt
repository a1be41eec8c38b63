-- A sorted list under changes: the elements that are still there, and those that overlaid.
use Rattle.std.proofs.Common.{◌≡◌, ℕ, zero, suc, ◌-◌, ◌<◌, Bool, true, false, not, ◌||◌, List, [], ◌∷◌, ◌++◌}
use Rattle.std.proofs.Common.{append_assoc, is_lt, length, take, map, get_or, set, refl, sym, ◌∙◌, ap, subst, is_gt}
use Rattle.std.proofs.Common.{is_eq, Ordering, Less, Equal, Greater, inl, inr, arith}
use Rattle.std.specs.Prelude.{filter, if◌then◌else◌}
use Rattle.std.specs.List.{AllByRecursion, list_any}
use Rattle.std.specs.List.Sorted.{IsStrictlySortedBy}
use Rattle.std.specs.Ordering.{ordering_reverse, match_ordering}
use Rattle.std.specs.Cmp.{IsTotalOrder}
use Rattle.std.specs.BTreeSet.{insert_key}
use Rattle.std.specs.BTreeMap.{is_at}
use Rattle.std.specs.Set.{remove_key}
use Rattle.dz_zone.specs.inner.Overlay.{Flagged, flagged, fallen, items, left_of, placed, overlaid, Rises, AreApart}
use Rattle.dz_zone.specs.inner.Overlay.{IsOverlay, first_before, AreAhead, Moves}
use Rattle.std.proofs.lemmas.List.{append-nil}
use Rattle.std.proofs.lemmas.Bool.{cases_Bool, both_ways, or_parts}

module _ {X : Type 0} (R : X → X → Ordering) (o : IsTotalOrder R) where
  or_swap : (a b c : Bool) → (a || (b || c)) ≡ (b || (a || c))
  or_swap true true c = refl
  or_swap true false c = refl
  or_swap false true c = refl
  or_swap false false c = refl

  or_group : (a b c : Bool) → (a || (b || c)) ≡ ((a || b) || c)
  or_group true b c = refl
  or_group false b c = refl

  pub any_place : (p : X → Bool) (r : X) (zs : List X) → list_any p (placed R r zs) ≡ (p r || list_any p zs)
  unfolding placed
  any_place p r [] = refl
  any_place p r (s ∷ zs) =
      elim (cases_Bool (is_gt (R r s))) [
        | inr f ↦ rw f refl
        | inl t ↦ rw t (ap (λ b. p s || b) (any_place p r zs) ∙ or_swap (p s) (p r) (list_any p zs))
      ]

  pub any_overlaid : (p : X → Bool) (xs zs : List X) → list_any p (overlaid R xs zs) ≡ (list_any p xs || list_any p zs)
  unfolding overlaid
  any_overlaid p [] zs = refl
  any_overlaid p (a ∷ xs) zs = any_place p a (overlaid R xs zs)
      ∙ (ap (λ b. p a || b) (any_overlaid p xs zs) ∙ or_group (p a) (list_any p xs) (list_any p zs))

  gt_back : (a b : X) → R a b ≡ Greater → R b a ≡ Less
  gt_back a b e = o.antisymm b a ∙ ap ordering_reverse e

  lt_back : (a b : X) → R a b ≡ Less → R b a ≡ Greater
  lt_back a b e = o.antisymm b a ∙ ap ordering_reverse e

  gt_is : (v : Ordering) → is_gt v ≡ true → v ≡ Greater
  gt_is Less h = absurd (cc)
  gt_is Equal h = absurd (cc)
  gt_is Greater h = refl

  behind : (r s : X) (zs : List X) → is_gt (R r s) ≡ true → placed R r (s ∷ zs) ≡ s ∷ placed R r zs
  unfolding placed
  behind r s zs t = rw t refl

  front : (r s : X) (zs : List X) → is_gt (R r s) ≡ false → placed R r (s ∷ zs) ≡ r ∷ s ∷ zs
  unfolding placed
  front r s zs f = rw f refl

  -- what comes after an element that comes after another comes after that one
  above : (a b s : X) → R a b ≡ Less → is_gt (R a s) ≡ true → is_gt (R b s) ≡ true
  above a b s e t = ap is_gt (lt_back s b (o.trans s a b (gt_back a s (gt_is (R a s) t)) e))

  -- two that don't tie are put at their places in either order
  place_less : (a b : X) (zs : List X) → R a b ≡ Less → placed R a (placed R b zs) ≡ placed R b (placed R a zs)
  unfolding placed
  place_less a b [] e = rw (e, lt_back a b e) refl
  place_less a b (s ∷ zs) e =
      elim (cases_Bool (is_gt (R a s))) [
        | inl t ↦
            let u = above a b s e t in
            ap (placed R a) (behind b s zs u) ∙ (behind a s (placed R b zs) t ∙ (ap (λ l. s ∷ l) (place_less a b zs e)
            ∙ (sym (behind b s (placed R a zs) u) ∙ ap (placed R b) (sym (behind a s zs t)))))
        | inr f ↦
            elim (cases_Bool (is_gt (R b s))) [
              | inl u ↦
                  ap (placed R a) (behind b s zs u)
                  ∙ (front a s (placed R b zs) f ∙ (ap (λ l. a ∷ l) (sym (behind b s zs u)) ∙ (sym
                  (behind b a (s ∷ zs) (ap is_gt (lt_back a b e))) ∙ ap (placed R b) (sym (front a s zs f)))))
              | inr g ↦
                  ap (placed R a) (front b s zs g)
                  ∙ (front a b (s ∷ zs) (ap is_gt e) ∙ (ap (λ l. a ∷ l) (sym (front b s zs g)) ∙ (sym
                  (behind b a (s ∷ zs) (ap is_gt (lt_back a b e))) ∙ ap (placed R b) (sym (front a s zs f)))))
            ]
      ]

  pub place_swap : (a b : X) (zs : List X) → is_eq (R a b) ≡ false
      → placed R a (placed R b zs) ≡ placed R b (placed R a zs)
  place_swap a b zs n =
      (elim (R a b) as (λ v. R a b ≡ v → is_eq v ≡ false → placed R a (placed R b zs) ≡ placed R b (placed R a zs)) [
        | Less ↦ λ q m. place_less a b zs q
        | Equal ↦ λ q m. absurd (cc)
        | Greater ↦ λ q m. sym (place_less b a zs (gt_back a b q))
      ]) refl n

  -- what joins the set joins the list
  pub overlaid_insert : (xs zs : List X) (r : X) → list_any (λ s. is_eq (R r s)) xs ≡ false
      → overlaid R (insert_key R xs r) zs ≡ placed R r (overlaid R xs zs)
  unfolding overlaid
  overlaid_insert [] zs r n = refl
  overlaid_insert (x ∷ xs) zs r n =
      let parts = or_parts (is_eq (R r x)) (list_any (λ s. is_eq (R r s)) xs) n in
      (elim (R r x) as (λ v. R r x ≡ v → overlaid R (match_ordering v (r ∷ x ∷ xs) (x ∷ xs) (x ∷ insert_key R xs r)) zs
      ≡ placed R r (placed R x (overlaid R xs zs))) [
        | Less ↦ λ q. refl
        | Equal ↦ λ q. absurd (both_ways (is_eq (R r x)) parts.0 (ap is_eq q))
        | Greater ↦ λ q. ap (placed R x) (overlaid_insert xs zs r parts.1)
            ∙ place_swap x r (overlaid R xs zs) (ap is_eq (gt_back r x q))
      ]) refl

  not_gt : (r s t : X) → is_gt (R r s) ≡ false → R s t ≡ Less → is_gt (R r t) ≡ false
  not_gt r s t f e =
      elim (cases_Bool (is_gt (R r t))) [
        | inr g ↦ g
        | inl u ↦ absurd
            (both_ways (is_gt (R r s)) f (ap is_gt (lt_back s r (o.trans s t r e (gt_back r t (gt_is (R r t) u))))))
      ]

  place_front : (r : X) (zs : List X) → AllByRecursion (λ z. is_gt (R r z) ≡ false) zs → placed R r zs ≡ r ∷ zs
  unfolding placed
  place_front r [] h = refl
  place_front r (z ∷ zs) h = rw h.0 refl

  all_not_gt : (r s : X) (zs : List X) → is_gt (R r s) ≡ false → AllByRecursion (λ t. R s t ≡ Less) zs
      → AllByRecursion (λ z. is_gt (R r z) ≡ false) zs
  all_not_gt r s [] f h = tt
  all_not_gt r s (z ∷ zs) f h = (not_gt r s z f h.0, all_not_gt r s zs f h.1)

  all_filter : (P : X → Type 0) (p : X → Bool) (zs : List X) → AllByRecursion P zs → AllByRecursion P (filter p zs)
  all_filter P p [] h = tt
  all_filter P p (z ∷ zs) h =
      elim (cases_Bool (p z)) [
        | inl t ↦ rw t (h.0, all_filter P p zs h.1)
        | inr f ↦ rw f (all_filter P p zs h.1)
      ]

  -- a filter goes through
  pub filter_place : (p : X → Bool) (r : X) (zs : List X) → Rises R zs
      → filter p (placed R r zs) ≡ (if p r then placed R r (filter p zs) else filter p zs)
  unfolding placed
  filter_place p r [] h = refl
  filter_place p r (s ∷ zs) h =
      elim (cases_Bool (is_gt (R r s))) [
        | inl t ↦ rw t (behind_filter p r s zs t (filter_place p r zs h.1))
        | inr f ↦ rw f (front_filter p r s zs f h.0)
      ] where
        behind_filter : (p : X → Bool) (r s : X) (zs : List X) → is_gt (R r s) ≡ true
            → filter p (placed R r zs) ≡ (if p r then placed R r (filter p zs) else filter p zs)
            → filter p (s ∷ placed R r zs) ≡ (if p r then placed R r (filter p (s ∷ zs)) else filter p (s ∷ zs))
        behind_filter p r s zs t e =
            elim (cases_Bool (p s)) [
              | inr f ↦ rw f e
              | inl u ↦
                  elim (cases_Bool (p r)) [
                    | inl v ↦ let k = rw v at e in rw (u, v) (ap (λ l. s ∷ l) k ∙ sym (behind r s (filter p zs) t))
                    | inr v ↦ let k = rw v at e in rw (u, v) (ap (λ l. s ∷ l) k)
                  ]
            ]

        front_filter : (p : X → Bool) (r s : X) (zs : List X) → is_gt (R r s) ≡ false
            → AllByRecursion (λ y. R s y ≡ Less) zs
            → filter p (r ∷ s ∷ zs) ≡ (if p r then placed R r (filter p (s ∷ zs)) else filter p (s ∷ zs))
        front_filter p r s zs f a =
            elim (cases_Bool (p r)) [
              | inl v ↦ rw v (sym (place_front r (filter p (s ∷ zs))
                  (all_filter (λ z. is_gt (R r z) ≡ false) p (s ∷ zs) (f, all_not_gt r s zs f a))))
              | inr v ↦ rw v refl
            ]

  eq_is : (v : Ordering) → is_eq v ≡ true → v ≡ Equal
  eq_is Less h = absurd (cc)
  eq_is Equal h = refl
  eq_is Greater h = absurd (cc)

  pub all_kept : (P : X → Type 0) (base : List (Flagged X)) → AllByRecursion P (map (λ k. k.item) base)
      → AllByRecursion P (left_of base)
  unfolding left_of
  all_kept P [] h = tt
  all_kept P (k ∷ base) h =
      elim (cases_Bool k.stands) [
        | inl t ↦ rw t (h.0, all_kept P base h.1)
        | inr f ↦ rw f (all_kept P base h.1)
      ]

  all_at : (P : X → Type 0) (base : List (Flagged X)) (i : ℕ) (b : Flagged X)
      → AllByRecursion P (map (λ k. k.item) base) → i < length base → b ≡ get_or base i b → P b.item
  all_at P [] i b h l e = absurd (omega arith)
  all_at P (k ∷ base) zero b h l e = subst (λ x. P x.item) (sym e) h.0
  all_at P (k ∷ base) (suc i) b h l e = all_at P base i b h.1 (omega arith) e

  keeps : (r k : X) (zs : List X) → R r k ≡ Equal → AllByRecursion (λ y. R k y ≡ Less) zs
      → filter (λ s. not (is_eq (R r s))) zs ≡ zs
  keeps r k [] e h = refl
  keeps r k (z ∷ zs) e h =
      let f : is_eq (R r z) ≡ false = ap is_eq (o.congr r k z e ∙ h.0) in
      rw f (ap (λ l. z ∷ l) (keeps r k zs e h.1))

  has_none : (r k : X) (zs : List X) → R r k ≡ Equal → AllByRecursion (λ y. R k y ≡ Less) zs
      → list_any (λ s. is_eq (R r s)) zs ≡ false
  has_none r k [] e h = refl
  has_none r k (z ∷ zs) e h =
      let f : is_eq (R r z) ≡ false = ap is_eq (o.congr r k z e ∙ h.0) in
      rw f (has_none r k zs e h.1)

  -- the base: an element that is no longer there is left out
  pub kept_drop : (base : List (Flagged X)) (i : ℕ) (b : Flagged X) (r : X) → Rises R (map (λ k. k.item) base)
      → i < length base → b ≡ get_or base i b → is_eq (R r b.item) ≡ true
      → left_of (set base i (fallen b)) ≡ filter (λ s. not (is_eq (R r s))) (left_of base)
  unfolding left_of
  kept_drop [] i b r h l e t = absurd (omega arith)
  kept_drop (k ∷ base) zero b r h l e t =
      let u : is_eq (R r k.item) ≡ true = subst (λ x. is_eq (R r x.item) ≡ true) e t in
      let same =
      sym (keeps r k.item (left_of base) (eq_is (R r k.item) u) (all_kept (λ y. R k.item y ≡ Less) base h.0)) in
      elim (cases_Bool k.stands) [
        | inl v ↦ rw (v, u) same
        | inr v ↦ rw v same
      ]
  kept_drop (k ∷ base) (suc i) b r h l e t =
      let less = all_at (λ y. R k.item y ≡ Less) base i b h.0 (omega arith) e in
      let f : is_eq (R r k.item) ≡ false =
      ap is_eq (o.congr r b.item k.item (eq_is (R r b.item) t) ∙ lt_back k.item b.item less) in
      let rest = kept_drop base i b r h.1 (omega arith) e t in
      elim (cases_Bool k.stands) [
        | inl v ↦ rw (v, f) (ap (λ l. k.item ∷ l) rest)
        | inr v ↦ rw v rest
      ]

  -- an element that is still there is in the list, one that isn't is not
  pub kept_has : (base : List (Flagged X)) (i : ℕ) (b : Flagged X) (r : X) → Rises R (map (λ k. k.item) base)
      → i < length base → b ≡ get_or base i b → is_eq (R r b.item) ≡ true
      → list_any (λ s. is_eq (R r s)) (left_of base) ≡ b.stands
  unfolding left_of
  kept_has [] i b r h l e t = absurd (omega arith)
  kept_has (k ∷ base) zero b r h l e t =
      let u : is_eq (R r k.item) ≡ true = subst (λ x. is_eq (R r x.item) ≡ true) e t in
      rw e
      (elim (cases_Bool k.stands) [
        | inl v ↦ rw (v, u) refl
        | inr v ↦
            rw v (has_none r k.item (left_of base) (eq_is (R r k.item) u) (all_kept (λ y. R k.item y ≡ Less) base h.0))
      ])
  kept_has (k ∷ base) (suc i) b r h l e t =
      let less = all_at (λ y. R k.item y ≡ Less) base i b h.0 (omega arith) e in
      let f : is_eq (R r k.item) ≡ false =
      ap is_eq (o.congr r b.item k.item (eq_is (R r b.item) t) ∙ lt_back k.item b.item less) in
      let rest = kept_has base i b r h.1 (omega arith) e t in
      elim (cases_Bool k.stands) [
        | inl v ↦ rw (v, f) rest
        | inr v ↦ rw v rest
      ]

  all_place : (P : X → Type 0) (r : X) (zs : List X) → P r → AllByRecursion P zs → AllByRecursion P (placed R r zs)
  unfolding placed
  all_place P r [] p h = (p, tt)
  all_place P r (s ∷ zs) p h =
      elim (cases_Bool (is_gt (R r s))) [
        | inl t ↦ rw t (h.0, all_place P r zs p h.1)
        | inr f ↦ rw f (p, h)
      ]

  less_is : (v : Ordering) → is_gt v ≡ false → is_eq v ≡ false → v ≡ Less
  less_is Less f g = refl
  less_is Equal f g = absurd (cc)
  less_is Greater f g = absurd (cc)

  pub all_less : (r s : X) (zs : List X) → R r s ≡ Less → AllByRecursion (λ y. R s y ≡ Less) zs
      → AllByRecursion (λ y. R r y ≡ Less) zs
  all_less r s [] e h = tt
  all_less r s (z ∷ zs) e h = (o.trans r s z e h.0, all_less r s zs e h.1)

  rises_place : (r : X) (zs : List X) → Rises R zs → list_any (λ s. is_eq (R r s)) zs ≡ false → Rises R (placed R r zs)
  unfolding placed
  rises_place r [] h n = (tt, tt)
  rises_place r (s ∷ zs) h n =
      let parts = or_parts (is_eq (R r s)) (list_any (λ s. is_eq (R r s)) zs) n in
      elim (cases_Bool (is_gt (R r s))) [
        | inl t ↦
            rw t (all_place (λ y. R s y ≡ Less) r zs (gt_back r s (gt_is (R r s) t)) h.0, rises_place r zs h.1 parts.1)
        | inr f ↦ let e = less_is (R r s) f parts.0 in rw f ((e, all_less r s zs e h.0), h)
      ]

  none_less : (a : X) (xs : List X) → AllByRecursion (λ y. R a y ≡ Less) xs → list_any (λ s. is_eq (R a s)) xs ≡ false
  none_less a [] h = refl
  none_less a (x ∷ xs) h = let f : is_eq (R a x) ≡ false = ap is_eq h.0 in rw f (none_less a xs h.1)

  none_overlaid : (a : X) (xs zs : List X) → list_any (λ s. is_eq (R a s)) xs ≡ false
      → list_any (λ s. is_eq (R a s)) zs ≡ false → list_any (λ s. is_eq (R a s)) (overlaid R xs zs) ≡ false
  none_overlaid a xs zs f g = any_overlaid (λ s. is_eq (R a s)) xs zs ∙ rw (f, g) refl

  pub rises_overlaid : (xs zs : List X) → Rises R xs → Rises R zs → AreApart R xs zs → Rises R (overlaid R xs zs)
  unfolding overlaid
  rises_overlaid [] zs h g d = g
  rises_overlaid (a ∷ xs) zs h g d = rises_place a (overlaid R xs zs) (rises_overlaid xs zs h.1 g d.1)
      (none_overlaid a xs zs (none_less a xs h.0) d.0)

  pub filter_overlaid : (p : X → Bool) (xs zs : List X) → Rises R xs → Rises R zs → AreApart R xs zs
      → filter p (overlaid R xs zs) ≡ overlaid R (filter p xs) (filter p zs)
  unfolding overlaid
  filter_overlaid p [] zs h g d = refl
  filter_overlaid p (a ∷ xs) zs h g d =
      let step = filter_place p a (overlaid R xs zs) (rises_overlaid xs zs h.1 g d.1) in
      let rest = filter_overlaid p xs zs h.1 g d.1 in
      elim (cases_Bool (p a)) [
        | inl t ↦ rw t at step ∙ rw t (ap (placed R a) rest)
        | inr f ↦ rw f at step ∙ rw f rest
      ]

  keeps_none : (r : X) (zs : List X) → list_any (λ s. is_eq (R r s)) zs ≡ false
      → filter (λ s. not (is_eq (R r s))) zs ≡ zs
  keeps_none r [] n = refl
  keeps_none r (z ∷ zs) n =
      let parts = or_parts (is_eq (R r z)) (list_any (λ s. is_eq (R r s)) zs) n in
      rw parts.0 (ap (λ l. z ∷ l) (keeps_none r zs parts.1))

  remove_filter : (r : X) (xs : List X) → Rises R xs
      → remove_key (is_at (R r)) xs ≡ filter (λ s. not (is_eq (R r s))) xs
  remove_filter r [] h = refl
  remove_filter r (x ∷ xs) h =
      elim (cases_Bool (is_eq (R r x))) [
        | inl t ↦ rw t (sym (keeps r x xs (eq_is (R r x) t) h.0))
        | inr f ↦ rw f (ap (λ l. x ∷ l) (remove_filter r xs h.1))
      ]

  -- what is taken from the set is taken from the zone
  pub taken_from_set : (xs zs : List X) (r : X) → Rises R xs → Rises R zs → AreApart R xs zs
      → list_any (λ s. is_eq (R r s)) zs ≡ false
      → overlaid R (remove_key (is_at (R r)) xs) zs ≡ filter (λ s. not (is_eq (R r s))) (overlaid R xs zs)
  taken_from_set xs zs r h g d n =
      ap (λ l. overlaid R l zs) (remove_filter r xs h)
      ∙ (ap (overlaid R (filter (λ s. not (is_eq (R r s))) xs)) (sym (keeps_none r zs n))
      ∙ sym (filter_overlaid (λ s. not (is_eq (R r s))) xs zs h g d))

  -- what is no longer in the base is taken from the zone
  pub taken_from_base : (xs : List X) (base : List (Flagged X)) (i : ℕ) (b : Flagged X) (r : X) → Rises R xs
      → Rises R (map (λ k. k.item) base) → Rises R (left_of base) → AreApart R xs (left_of base) → i < length base
      → b ≡ get_or base i b
      → is_eq (R r b.item) ≡ true → list_any (λ s. is_eq (R r s)) xs ≡ false
      → overlaid R xs (left_of (set base i (fallen b)))
      ≡ filter (λ s. not (is_eq (R r s))) (overlaid R xs (left_of base))
  taken_from_base xs base i b r h w g d l e t n =
      ap (overlaid R xs) (kept_drop base i b r w l e t)
      ∙ (ap (λ l. overlaid R l (filter (λ s. not (is_eq (R r s))) (left_of base))) (sym (keeps_none r xs n))
      ∙ sym (filter_overlaid (λ s. not (is_eq (R r s))) xs (left_of base) h g d))

  all_overlaid : (P : X → Type 0) (xs zs : List X) → AllByRecursion P xs → AllByRecursion P zs
      → AllByRecursion P (overlaid R xs zs)
  unfolding overlaid
  all_overlaid P [] zs h g = g
  all_overlaid P (x ∷ xs) zs h g = all_place P x (overlaid R xs zs) h.0 (all_overlaid P xs zs h.1 g)

  less_not_gt : (a : X) (zs : List X) → AllByRecursion (λ z. R a z ≡ Less) zs
      → AllByRecursion (λ z. is_gt (R a z) ≡ false) zs
  less_not_gt a [] h = tt
  less_not_gt a (z ∷ zs) h = (ap is_gt h.0, less_not_gt a zs h.1)

  -- the two steps of a merge: the first of the set comes first, or the first of the base does
  pub merge_set : (a : X) (xs zs : List X) → AllByRecursion (λ x. R a x ≡ Less) xs
      → AllByRecursion (λ z. R a z ≡ Less) zs → overlaid R (a ∷ xs) zs ≡ a ∷ overlaid R xs zs
  unfolding overlaid
  merge_set a xs zs h g =
      place_front a (overlaid R xs zs) (less_not_gt a (overlaid R xs zs) (all_overlaid (λ z. R a z ≡ Less) xs zs h g))

  pub merge_base : (b : X) (xs zs : List X) → AllByRecursion (λ x. R b x ≡ Less) xs
      → overlaid R xs (b ∷ zs) ≡ b ∷ overlaid R xs zs
  unfolding overlaid
  merge_base b [] zs h = refl
  merge_base b (x ∷ xs) zs h =
      ap (placed R x) (merge_base b xs zs h.1) ∙ behind x b (overlaid R xs zs) (ap is_gt (lt_back b x h.0))

  -- what keeps the overlay in order
  items_set : (base : List (Flagged X)) (i : ℕ) (b : Flagged X) → i < length base → b ≡ get_or base i b
      → map (λ k. k.item) (set base i (fallen b)) ≡ map (λ k. k.item) base
  items_set [] i b l e = absurd (omega arith)
  items_set (k ∷ base) zero b l e = ap (λ x. x.item ∷ map (λ k. k.item) base) e
  items_set (k ∷ base) (suc i) b l e = ap (λ l. k.item ∷ l) (items_set base i b (omega arith) e)

  pub rises_filter : (p : X → Bool) (xs : List X) → Rises R xs → Rises R (filter p xs)
  rises_filter p [] h = tt
  rises_filter p (x ∷ xs) h =
      elim (cases_Bool (p x)) [
        | inl t ↦ rw t (all_filter (λ y. R x y ≡ Less) p xs h.0, rises_filter p xs h.1)
        | inr f ↦ rw f (rises_filter p xs h.1)
      ]

  any_filter : (q p : X → Bool) (zs : List X) → list_any q zs ≡ false → list_any q (filter p zs) ≡ false
  any_filter q p [] h = refl
  any_filter q p (z ∷ zs) h =
      let parts = or_parts (q z) (list_any q zs) h in
      elim (cases_Bool (p z)) [
        | inl t ↦ rw (t, parts.0) (any_filter q p zs parts.1)
        | inr f ↦ rw f (any_filter q p zs parts.1)
      ]

  apart_left : (p : X → Bool) (xs zs : List X) → AreApart R xs zs → AreApart R (filter p xs) zs
  apart_left p [] zs h = tt
  apart_left p (x ∷ xs) zs h =
      elim (cases_Bool (p x)) [
        | inl t ↦ rw t (h.0, apart_left p xs zs h.1)
        | inr f ↦ rw f (apart_left p xs zs h.1)
      ]

  apart_right : (p : X → Bool) (xs zs : List X) → AreApart R xs zs → AreApart R xs (filter p zs)
  apart_right p [] zs h = tt
  apart_right p (x ∷ xs) zs h = (any_filter (λ s. is_eq (R x s)) p zs h.0, apart_right p xs zs h.1)

  pub rises_kept : (base : List (Flagged X)) → Rises R (map (λ k. k.item) base) → Rises R (left_of base)
  unfolding left_of
  rises_kept [] h = tt
  rises_kept (k ∷ base) h =
      elim (cases_Bool k.stands) [
        | inl t ↦ rw t (all_kept (λ y. R k.item y ≡ Less) base h.0, rises_kept base h.1)
        | inr f ↦ rw f (rises_kept base h.1)
      ]

  pub strict_rises : (xs : List X) → IsStrictlySortedBy R xs → Rises R xs
  unfolding IsStrictlySortedBy
  strict_rises [] h = tt
  strict_rises (x ∷ xs) h = (h.0, strict_rises xs h.1)

  tied_none : (r x : X) (zs : List X) → R r x ≡ Equal → list_any (λ s. is_eq (R x s)) zs ≡ false
      → list_any (λ s. is_eq (R r s)) zs ≡ false
  tied_none r x [] e n = refl
  tied_none r x (z ∷ zs) e n =
      let parts = or_parts (is_eq (R x z)) (list_any (λ s. is_eq (R x s)) zs) n in
      let f : is_eq (R r z) ≡ false = ap is_eq (o.congr r x z e) ∙ parts.0 in
      rw f (tied_none r x zs e parts.1)

  apart_none : (r : X) (xs zs : List X) → AreApart R xs zs → list_any (λ s. is_eq (R r s)) xs ≡ true
      → list_any (λ s. is_eq (R r s)) zs ≡ false
  apart_none r [] zs h t = absurd (cc)
  apart_none r (x ∷ xs) zs h t =
      elim (cases_Bool (is_eq (R r x))) [
        | inl u ↦ tied_none r x zs (eq_is (R r x) u) h.0
        | inr f ↦ apart_none r xs zs h.1 (rw f at t)
      ]

  pub none_kept : (r : X) (base : List (Flagged X)) → list_any (λ s. is_eq (R r s)) (map (λ k. k.item) base) ≡ false
      → list_any (λ s. is_eq (R r s)) (left_of base) ≡ false
  unfolding left_of
  none_kept r [] n = refl
  none_kept r (k ∷ base) n =
      let parts = or_parts (is_eq (R r k.item)) (list_any (λ s. is_eq (R r s)) (map (λ k. k.item) base)) n in
      elim (cases_Bool k.stands) [
        | inl t ↦ rw (t, parts.0) (none_kept r base parts.1)
        | inr f ↦ rw f (none_kept r base parts.1)
      ]

  module _ (base : List (Flagged X)) (keys : List X) (r : X) (h : IsOverlay R base keys) where
    zone_has : list_any (λ s. is_eq (R r s)) (overlaid R keys (left_of base))
        ≡ (list_any (λ s. is_eq (R r s)) keys || list_any (λ s. is_eq (R r s)) (left_of base))
    zone_has = any_overlaid (λ s. is_eq (R r s)) keys (left_of base)

    same_keys : list_any (λ s. is_eq (R r s)) keys ≡ false → remove_key (is_at (R r)) keys ≡ keys
    same_keys n = remove_filter r keys h.added ∙ keeps_none r keys n

    -- the set had it
    pub left_set : (new : List X) → new ≡ remove_key (is_at (R r)) keys → list_any (λ s. is_eq (R r s)) keys ≡ true
        → IsOverlay R base new × (true ≡ list_any (λ s. is_eq (R r s)) (overlaid R keys (left_of base)))
        × (overlaid R new (left_of base) ≡ filter (λ s. not (is_eq (R r s))) (overlaid R keys (left_of base)))
    left_set new e t = (
      record {
        base = h.base;
        added = subst (Rises R) (sym (e ∙ remove_filter r keys h.added))
            (rises_filter (λ s. not (is_eq (R r s))) keys h.added);
        apart = subst (λ l. AreApart R l (left_of base)) (sym (e ∙ remove_filter r keys h.added))
            (apart_left (λ s. not (is_eq (R r s))) keys (left_of base) h.apart);
      },
      sym (zone_has ∙ rw t refl),
      ap (λ l. overlaid R l (left_of base)) e ∙ taken_from_set keys (left_of base) r h.added
          (rises_kept base h.base) h.apart (apart_none r keys (left_of base) h.apart t),
    )

    -- nothing had it
    pub left_none : (new : List X) → new ≡ remove_key (is_at (R r)) keys → list_any (λ s. is_eq (R r s)) keys ≡ false
        → list_any (λ s. is_eq (R r s)) (left_of base) ≡ false
        → IsOverlay R base new × (false ≡ list_any (λ s. is_eq (R r s)) (overlaid R keys (left_of base)))
        × (overlaid R new (left_of base) ≡ filter (λ s. not (is_eq (R r s))) (overlaid R keys (left_of base)))
    left_none new e n m = (
      subst (IsOverlay R base) (sym (e ∙ same_keys n)) h,
      sym (zone_has ∙ rw (n, m) refl),
      ap (λ l. overlaid R l (left_of base)) (e ∙ same_keys n)
          ∙ sym (keeps_none r (overlaid R keys (left_of base)) (zone_has ∙ rw (n, m) refl)),
    )

    -- the base has it, whether or not it was still there
    pub left_base : (new : List X) (i : ℕ) (b : Flagged X) (now : List (Flagged X))
        → new ≡ remove_key (is_at (R r)) keys → list_any (λ s. is_eq (R r s)) keys ≡ false → i < length base
        → b ≡ get_or base i b → is_eq (R r b.item) ≡ true
        → now ≡ set base i (fallen b)
        → IsOverlay R now new × (b.stands ≡ list_any (λ s. is_eq (R r s)) (overlaid R keys (left_of base)))
        × (overlaid R new (left_of now) ≡ filter (λ s. not (is_eq (R r s))) (overlaid R keys (left_of base)))
    left_base new i b now e n l g t f = (
      subst (λ x. IsOverlay R x new) (sym f)
          (subst (IsOverlay R (set base i (fallen b))) (sym (e ∙ same_keys n)) (record {
            base = subst (Rises R) (sym (items_set base i b l g)) h.base;
            added = h.added;
            apart = subst (AreApart R keys) (sym (kept_drop base i b r h.base l g t))
                (apart_right (λ s. not (is_eq (R r s))) keys (left_of base) h.apart);
          })),
      sym (zone_has ∙ rw n (kept_has base i b r h.base l g t)),
      ap (overlaid R new) (ap left_of f) ∙ (ap (λ x. overlaid R x (left_of (set base i (fallen b)))) (e ∙ same_keys n)
          ∙ taken_from_base keys base i b r h.added h.base (rises_kept base h.base) h.apart l g t n),
    )

    pub base_none : list_any (λ s. is_eq (R r s)) (map (λ k. k.item) base) ≡ false
        → list_any (λ s. is_eq (R r s)) (left_of base) ≡ false
    base_none n = none_kept r base n

  none_apart : (xs zs : List X) (r : X) → AreApart R xs zs → list_any (λ s. is_eq (R r s)) zs ≡ false
      → AreApart R (insert_key R xs r) zs
  none_apart [] zs r h n = (n, tt)
  none_apart (x ∷ xs) zs r h n =
      (elim (R r x) as (λ v. AreApart R (match_ordering v (r ∷ x ∷ xs) (x ∷ xs) (x ∷ insert_key R xs r)) zs) [
        | Less ↦ (n, h)
        | Equal ↦ h
        | Greater ↦ (h.0, none_apart xs zs r h.1 n)
      ])

  module _ (base : List (Flagged X)) (keys : List X) (r : X) (h : IsOverlay R base keys) where
    -- what joins
    pub joins : (new : List X) → new ≡ insert_key R keys r → IsStrictlySortedBy R new
        → list_any (λ s. is_eq (R r s)) keys ≡ false → list_any (λ s. is_eq (R r s)) (left_of base) ≡ false
        → IsOverlay R base new × (overlaid R new (left_of base) ≡ placed R r (overlaid R keys (left_of base)))
    joins new e s n m = (
      record {
        base = h.base;
        added = strict_rises new s;
        apart = subst (λ l. AreApart R l (left_of base)) (sym e) (none_apart keys (left_of base) r h.apart m);
      },
      ap (λ l. overlaid R l (left_of base)) e ∙ overlaid_insert keys (left_of base) r n,
    )

  pub or_none : (a : Bool) → (a || false) ≡ a
  or_none true = refl
  or_none false = refl

  pub or_true : (a b : Bool) → b ≡ true → (a || b) ≡ true
  or_true true b e = refl
  or_true false b e = e

  pub rises_left : (xs ys : List X) → Rises R (xs ++ ys) → Rises R ys
  rises_left [] ys h = h
  rises_left (x ∷ xs) ys h = rises_left xs ys h.1

  apart_behind : (xs ys zs : List X) → AreApart R (xs ++ ys) zs → AreApart R ys zs
  apart_behind [] ys zs h = h
  apart_behind (x ∷ xs) ys zs h = apart_behind xs ys zs h.1

  pub apart_tail : (b : X) (xs zs : List X) → AreApart R xs (b ∷ zs) → AreApart R xs zs
  apart_tail b [] zs h = tt
  apart_tail b (x ∷ xs) zs h =
      ((or_parts (is_eq (R x b)) (list_any (λ s. is_eq (R x s)) zs) h.0).1, apart_tail b xs zs h.1)

  -- those that were moved come first
  moved_first : (moved left zs : List X) (b : X) → Rises R (moved ++ left) → AllByRecursion (λ x. R x b ≡ Less) moved
      → AllByRecursion (λ z. R b z ≡ Less) zs → overlaid R (moved ++ left) (b ∷ zs) ≡ moved ++ overlaid R left (b ∷ zs)
  moved_first [] left zs b h m z = refl
  moved_first (x ∷ moved) left zs b h m z =
      merge_set x (moved ++ left) (b ∷ zs) h.0 (m.0, all_less x b zs m.0 z)
      ∙ ap (λ l. x ∷ l) (moved_first moved left zs b h.1 m.1 z)

  lt_is : (v : Ordering) → is_lt v ≡ false → is_eq v ≡ false → v ≡ Greater
  lt_is Less f g = absurd (cc)
  lt_is Equal f g = absurd (cc)
  lt_is Greater f g = refl

  -- the others come after it
  left_above : (b : X) (left zs : List X) → Rises R left → AreApart R left (b ∷ zs) → first_before R left b ≡ false
      → AllByRecursion (λ x. R b x ≡ Less) left
  left_above b [] zs h a f = tt
  left_above b (x ∷ left) zs h a f =
      let parts = or_parts (is_eq (R x b)) (list_any (λ s. is_eq (R x s)) zs) a.0 in
      let e = gt_back x b (lt_is (R x b) f parts.0) in
      (e, all_less b x left e h.0)

  pub merge_step : (b : Flagged X) (rest : List (Flagged X)) (out keys new left : List X) → IsOverlay R (b ∷ rest) keys
      → b.stands ≡ true → Moves R out keys b.item new left
      → IsOverlay R rest left
      × ((new ++ b.item ∷ []) ++ overlaid R left (left_of rest) ≡ out ++ overlaid R keys (left_of (b ∷ rest)))
  unfolding left_of
  merge_step b rest out keys new left h t m =
      let rises = subst (Rises R) m.added_are h.added in
      let apart : AreApart R keys (b.item ∷ left_of rest) = rw t at h.apart in
      let apart_left = apart_behind m.moved left (b.item ∷ left_of rest)
      (subst (λ l. AreApart R l (b.item ∷ left_of rest)) m.added_are apart) in
      let above = left_above b.item left (left_of rest) (rises_left m.moved left rises) apart_left m.stops in
      let behind_b = all_kept (λ y. R b.item y ≡ Less) rest h.base.0 in
      let whole : overlaid R keys (b.item ∷ left_of rest) ≡ m.moved ++ b.item ∷ overlaid R left (left_of rest) =
      ap (λ l. overlaid R l (b.item ∷ left_of rest)) m.added_are
      ∙ (moved_first m.moved left (left_of rest) b.item rises m.before behind_b
      ∙ ap (λ l. m.moved ++ l) (merge_base b.item left (left_of rest) above)) in (
        record {
          base = h.base.1;
          added = rises_left m.moved left rises;
          apart = apart_tail b.item left (left_of rest) apart_left;
        },
        rw t (ap (λ l. (l ++ b.item ∷ []) ++ overlaid R left (left_of rest)) m.new_is
            ∙ (append_assoc (out ++ m.moved) (b.item ∷ []) (overlaid R left (left_of rest))
            ∙ (append_assoc out m.moved (b.item ∷ overlaid R left (left_of rest))
            ∙ ap (λ l. out ++ l) (sym whole)))),
      )

  pub merge_skip : (b : Flagged X) (rest : List (Flagged X)) (out keys : List X)
      → IsOverlay R (b ∷ rest) keys → b.stands ≡ false
      → IsOverlay R rest keys × (out ++ overlaid R keys (left_of rest) ≡ out ++ overlaid R keys (left_of (b ∷ rest)))
  unfolding left_of
  merge_skip b rest out keys h f = (record { base = h.base.1; added = h.added; apart = rw f at h.apart }, rw f refl)

  -- the same before any elements after the bound
  moved_over : (moved left zs : List X) (b : X) → Rises R (moved ++ left) → AllByRecursion (λ x. R x b ≡ Less) moved
      → AllByRecursion (λ z. R b z ≡ Less) zs → overlaid R (moved ++ left) zs ≡ moved ++ overlaid R left zs
  moved_over [] left zs b h m z = refl
  moved_over (x ∷ moved) left zs b h m z =
      merge_set x (moved ++ left) zs h.0 (all_less x b zs m.0 z)
      ∙ ap (λ l. x ∷ l) (moved_over moved left zs b h.1 m.1 z)

  -- an element that has fallen is passed
  pub merge_gone : (b : Flagged X) (item : X) (all rest : List (Flagged X)) (out keys new left total : List X)
      → all ≡ b ∷ rest → item ≡ b.item → b.stands ≡ false → IsOverlay R all keys
      → out ++ overlaid R keys (left_of all) ≡ total
      → Moves R out keys item new left → IsOverlay R rest left × (new ++ overlaid R left (left_of rest) ≡ total)
  unfolding left_of
  merge_gone b item all rest out keys new left total e i t h f n =
      let m = subst (λ x. Moves R out keys x new left) i n in
      let g = subst (λ l. IsOverlay R l keys) e h in
      let skip = merge_skip b rest out keys g t in
      let rises = subst (Rises R) m.added_are g.added in
      let apart = apart_behind m.moved left (left_of rest)
      (subst (λ l. AreApart R l (left_of rest)) m.added_are skip.0.apart) in
      let behind_b = all_kept (λ y. R b.item y ≡ Less) rest g.base.0 in
      let whole : overlaid R keys (left_of rest) ≡ m.moved ++ overlaid R left (left_of rest) =
      ap (λ l. overlaid R l (left_of rest)) m.added_are
      ∙ moved_over m.moved left (left_of rest) b.item rises m.before behind_b in (
        record { base = g.base.1; added = rises_left m.moved left rises; apart = apart },
        ap (λ l. l ++ overlaid R left (left_of rest)) m.new_is
            ∙ (append_assoc out m.moved (overlaid R left (left_of rest)) ∙ (ap (λ l. out ++ l) (sym whole)
            ∙ (skip.1 ∙ (ap (λ l. out ++ overlaid R keys (left_of l)) (sym e) ∙ f)))),
      )

  rises_to : (a : X) (base : List (Flagged X)) (n : ℕ) (far : Flagged X)
      → AllByRecursion (λ y. R a y ≡ Less) (items base) → n < length base → far ≡ get_or base n far
      → R a far.item ≡ Less
  rises_to a [] n far h l e = absurd (omega arith)
  rises_to a (b ∷ base) zero far h l e = subst (λ k. R a k.item ≡ Less) (sym e) h.0
  rises_to a (b ∷ base) (suc n) far h l e = rises_to a base n far h.1 (omega arith) e

  not_before : (keys : List X) (a b : X) → R a b ≡ Less → first_before R keys b ≡ false → first_before R keys a ≡ false
  not_before [] a b l f = refl
  not_before (x ∷ keys) a b l f =
      elim (cases_Bool (is_lt (R x a))) [
        | inl t ↦ absurd (both_ways (is_lt (R x b)) f (ap is_lt (o.trans x a b (lt_is_less (R x a) t) l)))
        | inr g ↦ g
      ] where
        lt_is_less : (v : Ordering) → is_lt v ≡ true → v ≡ Less
        lt_is_less Less h = refl
        lt_is_less Equal h = absurd (cc)
        lt_is_less Greater h = absurd (cc)

  -- where the first doesn't come before an element, it comes before none that precedes that one
  pub ahead_of : (keys : List X) (base : List (Flagged X)) (n : ℕ) (far : Flagged X) → Rises R (items base)
      → n < length base → far ≡ get_or base n far → first_before R keys far.item ≡ false
      → AreAhead R keys (take (suc n) base)
  ahead_of keys [] n far h l e f = absurd (omega arith)
  ahead_of keys (b ∷ base) zero far h l e f = (subst (λ k. first_before R keys k.item ≡ false) e f, tt)
  ahead_of keys (b ∷ base) (suc n) far h l e f = (
    not_before keys b.item far.item (rises_to b.item base n far h.0 (omega arith) e) f,
    ahead_of keys base n far h.1 (omega arith) e f,
  )

  -- what is known of the next records, cut after the first of them
  pub ahead_here : (keys : List X) (all rest : List (Flagged X)) (b : Flagged X) (item : X) (n : ℕ) → all ≡ b ∷ rest
      → item ≡ b.item → AreAhead R keys (take n all)
      → (0 < n → first_before R keys item ≡ false) × AreAhead R keys (take (n - 1) rest)
  ahead_here keys all rest b item zero e i h = ((λ l. absurd (omega (arith, l))), tt)
  ahead_here keys all rest b item (suc n) e i h =
      let g = subst (λ l. AreAhead R keys (take (suc n) l)) e h in
      let k : n ≡ suc n - 1 = omega arith in
      ((λ l. ap (first_before R keys) i ∙ g.0), subst (λ m. AreAhead R keys (take m rest)) k g.1)

  -- where the first doesn't come before the bound, nothing is moved
  pub moves_none : (out keys : List X) (bound : X) → first_before R keys bound ≡ false
      → Moves R out keys bound out keys
  moves_none out keys bound f =
      record { moved = []; added_are = refl; new_is = sym (append-nil out); before = tt; stops = f }

  pub overlaid_none : (keys : List X) → Rises R keys → overlaid R keys (left_of []) ≡ keys
  unfolding left_of overlaid
  overlaid_none [] h = refl
  overlaid_none (x ∷ keys) h = ap (placed R x) (overlaid_none keys h.1) ∙ place_front x keys (less_not_gt x keys h.0)

  pub merge_take : (b : Flagged X) (item : X) (all rest : List (Flagged X)) (out keys new left pushed total : List X)
      → all ≡ b ∷ rest → item ≡ b.item → b.stands ≡ true → IsOverlay R all keys
      → out ++ overlaid R keys (left_of all) ≡ total
      → Moves R out keys item new left → pushed ≡ new ++ item ∷ []
      → IsOverlay R rest left × (pushed ++ overlaid R left (left_of rest) ≡ total)
  merge_take b item all rest out keys new left pushed total e i t h f m p =
      let w = merge_step b rest out keys new left (subst (λ l. IsOverlay R l keys) e h) t
      (subst (λ x. Moves R out keys x new left) i m) in (
        w.0,
        ap (λ l. l ++ overlaid R left (left_of rest)) (p ∙ ap (λ x. new ++ x ∷ []) i)
            ∙ (w.1 ∙ (ap (λ l. out ++ overlaid R keys (left_of l)) (sym e) ∙ f)),
      )

  pub merge_pass : (b : Flagged X) (all rest : List (Flagged X)) (out keys total : List X) → all ≡ b ∷ rest
      → b.stands ≡ false → IsOverlay R all keys → out ++ overlaid R keys (left_of all) ≡ total
      → IsOverlay R rest keys × (out ++ overlaid R keys (left_of rest) ≡ total)
  merge_pass b all rest out keys total e t h f =
      let w = merge_skip b rest out keys (subst (λ l. IsOverlay R l keys) e h) t in
      (w.0, w.1 ∙ (ap (λ l. out ++ overlaid R keys (left_of l)) (sym e) ∙ f))

  pub merge_end : (all : List (Flagged X)) (out keys total last gone : List X) → all ≡ [] → IsOverlay R all keys
      → out ++ overlaid R keys (left_of all) ≡ total → last ++ gone ≡ out ++ keys → gone ≡ [] → last ≡ total
  merge_end all out keys total last gone e h f g n =
      sym (append-nil last) ∙ (ap (λ l. last ++ l) (sym n) ∙ (g ∙ (ap (λ l. out ++ l)
      (sym (overlaid_none keys h.added)) ∙ (ap (λ l. out ++ overlaid R keys (left_of l)) (sym e) ∙ f))))

pub no_key : {X : Type 0} (keys : List X) → (0 < length keys → ⊥) → keys ≡ []
no_key [] h = refl
no_key (x ∷ keys) h = absurd (h (omega arith))

-- one more was moved
pub moved_more : {X : Type 0} (R : X → X → Ordering) (bound x : X) (all keys left out now pushed : List X)
    → (moved : List X) × (all ≡ moved ++ keys) × (now ≡ out ++ moved) × AllByRecursion (λ y. R y bound ≡ Less) moved
    → keys ≡ x ∷ left → pushed ≡ now ++ x ∷ [] → first_before R keys bound ≡ true
    → (moved : List X) × (all ≡ moved ++ left) × (pushed ≡ out ++ moved) × AllByRecursion (λ y. R y bound ≡ Less) moved
moved_more {X} R bound x all keys left out now pushed w e p b = (
  w.0 ++ x ∷ [],
  w.1 ∙ (ap (λ l. w.0 ++ l) e ∙ sym (append_assoc w.0 (x ∷ []) left)),
  p ∙ (ap (λ l. l ++ x ∷ []) w.2 ∙ append_assoc out w.0 (x ∷ [])),
  all_behind w.0 w.3 (is_less (R x bound) (ap (λ l. first_before R l bound) (sym e) ∙ b)),
) where
  is_less : (v : Ordering) → is_lt v ≡ true → v ≡ Less
  is_less Less h = refl
  is_less Equal h = absurd (cc)
  is_less Greater h = absurd (cc)

  all_behind : (ys : List X) → AllByRecursion (λ y. R y bound ≡ Less) ys → R x bound ≡ Less
      → AllByRecursion (λ y. R y bound ≡ Less) (ys ++ x ∷ [])
  all_behind [] h e = (e, tt)
  all_behind (y ∷ ys) h e = (h.0, all_behind ys h.1 e)

-- the items of elements that are all still there
pub items_flagged : {X : Type 0} (xs : List X) → items (map flagged xs) ≡ xs
items_flagged [] = refl
items_flagged (x ∷ xs) = ap (λ l. x ∷ l) (items_flagged xs)

pub left_flagged : {X : Type 0} (xs : List X) → left_of (map flagged xs) ≡ xs
unfolding left_of
left_flagged [] = refl
left_flagged (x ∷ xs) = ap (λ l. x ∷ l) (left_flagged xs)

pub fresh : {X : Type 0} (R : X → X → Ordering) (o : IsTotalOrder R) (p : X → Bool) (xs : List X)
    (base : List (Flagged X)) (keys : List X) → IsStrictlySortedBy R xs → base ≡ map flagged (filter p xs) → keys ≡ []
    → IsOverlay R base keys
fresh R o p xs base keys h e n =
    rw (e, n) record {
      base = rw (items_flagged (filter p xs)) (rises_filter R o p xs (strict_rises R o xs h));
      added = tt;
      apart = tt;
    }

pub fresh_left : {X : Type 0} (R : X → X → Ordering) (xs : List X) (base : List (Flagged X)) (keys : List X)
    → base ≡ map flagged xs → keys ≡ [] → overlaid R keys (left_of base) ≡ xs
unfolding overlaid
fresh_left R xs base keys e n = rw (e, n) (left_flagged xs)
