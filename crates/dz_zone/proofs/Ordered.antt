-- A stable sort, and of elements that tie the first.
use Rattle.std.proofs.Common.{◌≡◌, ℕ, ◌<◌, Bool, true, false, not, List, [], ◌∷◌, length, refl, sym, ◌∙◌, ap, arith}
use Rattle.std.proofs.Common.{get_or, inl, inr, zero, suc}
use Rattle.std.specs.Prelude.{filter, if◌then◌else◌, ⊤}
use Rattle.std.specs.List.{AllByRecursion, dedup, dedup_from}
use Rattle.std.specs.List.Sorted.{IsSortedBy, IsStableBy, ties}
use Rattle.std.specs.Cmp.{IsStrictWeakOrder}
use Rattle.std.proofs.lemmas.Bool.{cases_Bool, and_parts, not-true, not_from_false, false_from_ne_true, both_ways}
use Rattle.std.proofs.lemmas.List.Sorted.{sorted_far}
use Rattle.std.proofs.lemmas.List.Elements.{recursion_from_All}

abbrev pub first_of : {X : Type 0} → List X → List X
first_of [] = []
first_of (x ∷ xs) = x ∷ []

-- of elements that tie the first is kept
unfoldable pub firsts : {X : Type 0} → (X → X → Bool) → List X → List X
firsts same [] = []
firsts same (x ∷ xs) = x ∷ filter (λ y. not (same x y)) (firsts same xs)

-- an element inserted before the first that it doesn't come after
unfoldable pub put : {X : Type 0} → (X → X → Bool) → X → List X → List X
put lt x [] = x ∷ []
put lt x (y ∷ ys) = if lt y x then y ∷ put lt x ys else x ∷ y ∷ ys

unfoldable pub puts : {X : Type 0} → (X → X → Bool) → List X → List X
puts lt [] = []
puts lt (x ∷ xs) = put lt x (puts lt xs)

-- no element comes before one that precedes it in the list
unfoldable pub Ascends : {X : Type 0} → (X → X → Bool) → List X → Type 0
Ascends lt [] = ⊤
Ascends lt (x ∷ xs) = AllByRecursion (λ y. lt y x ≡ false) xs × Ascends lt xs

-- each comes before all that follow it
unfoldable pub Climbs : {X : Type 0} → (X → X → Bool) → List X → Type 0
Climbs lt [] = ⊤
Climbs lt (x ∷ xs) = AllByRecursion (λ y. lt x y ≡ true) xs × Climbs lt xs

filter_in : {X : Type 0} (p q : X → Bool) → ((s : X) → p s ≡ true → q s ≡ true) → (xs : List X)
    → filter p (filter q xs) ≡ filter p xs
filter_in p q h [] = refl
filter_in p q h (x ∷ xs) =
    elim (cases_Bool (q x)) [
      | inl t ↦ rw (t, filter_in p q h xs) refl
      | inr f ↦ elim (cases_Bool (p x)) [
        | inl t ↦ absurd (both_ways (q x) f (h x t))
        | inr g ↦ rw (f, g) (filter_in p q h xs)
      ]
    ]

filter_out : {X : Type 0} (p q : X → Bool) → ((s : X) → p s ≡ true → q s ≡ false) → (xs : List X)
    → filter p (filter q xs) ≡ []
filter_out p q h [] = refl
filter_out p q h (x ∷ xs) =
    elim (cases_Bool (q x)) [
      | inl t ↦ elim (cases_Bool (p x)) [
        | inl u ↦ absurd (both_ways (q x) (h x u) t)
        | inr g ↦ rw (t, g) (filter_out p q h xs)
      ]
      | inr f ↦ rw f (filter_out p q h xs)
    ]

filter_none : {X : Type 0} (p : X → Bool) (xs : List X) → AllByRecursion (λ x. p x ≡ false) xs → filter p xs ≡ []
filter_none p [] h = refl
filter_none p (x ∷ xs) h = rw h.0 (filter_none p xs h.1)

pub each_more : {X : Type 0} (P Q : X → Type 0) → ((x : X) → P x → Q x) → (xs : List X) → AllByRecursion P xs
    → AllByRecursion Q xs
each_more P Q f [] h = tt
each_more P Q f (x ∷ xs) h = (f x h.0, each_more P Q f xs h.1)

all_put : {X : Type 0} (lt : X → X → Bool) (P : X → Type 0) (x : X) (ys : List X) → P x → AllByRecursion P ys
    → AllByRecursion P (put lt x ys)
unfolding put
all_put lt P x [] p h = (p, tt)
all_put lt P x (y ∷ ys) p h =
    elim (cases_Bool (lt y x)) [
      | inl t ↦ rw t (h.0, all_put lt P x ys p h.1)
      | inr f ↦ rw f (p, h)
    ]

all_dedup : {X : Type 0} (same : X → X → Bool) (P : X → Type 0) (k : X) (ys : List X) → P k → AllByRecursion P ys
    → AllByRecursion P (dedup_from same k ys)
all_dedup same P k [] p h = (p, tt)
all_dedup same P k (y ∷ ys) p h =
    elim (cases_Bool (same y k)) [
      | inl t ↦ rw t (all_dedup same P k ys p h.1)
      | inr f ↦ rw f (p, all_dedup same P y ys h.0 h.1)
    ]

same_heads : {X : Type 0} (x y : X) (xs ys : List X) → x ∷ xs ≡ y ∷ ys → (x ≡ y) × (xs ≡ ys)
same_heads x y xs ys e = (cc, cc)

module _ {X : Type 0} (lt : X → X → Bool) (o : IsStrictWeakOrder lt) where
  tie_from : (x y : X) → lt x y ≡ false → lt y x ≡ false → ties lt x y ≡ true
  tie_from x y a b = rw (a, b) refl

  no_tie_before : (x y : X) → lt x y ≡ true → ties lt x y ≡ false
  no_tie_before x y t = rw t refl

  tie_parts : (x y : X) → ties lt x y ≡ true → (lt x y ≡ false) × (lt y x ≡ false)
  tie_parts x y t =
      let both = and_parts (not (lt x y)) (not (lt y x)) t in
      (not-true (lt x y) both.0, not-true (lt y x) both.1)

  pub tie_itself : (x : X) → ties lt x x ≡ true
  tie_itself x =
      elim (cases_Bool (lt x x)) [
        | inl t ↦ absurd (both_ways (lt x x) (o.one_way x x t) t)
        | inr f ↦ tie_from x x f f
      ]

  tie_back : (x y : X) → ties lt x y ≡ true → ties lt y x ≡ true
  tie_back x y t = let p = tie_parts x y t in tie_from y x p.1 p.0

  tie_trans : (x y z : X) → ties lt x y ≡ true → ties lt y z ≡ true → ties lt x z ≡ true
  tie_trans x y z s t =
      let p = tie_parts x y s in
      let q = tie_parts y z t in
      tie_from x z (o.chain x y z p.0 q.0) (o.chain z y x q.1 p.1)

  -- what comes before an element comes before all that aren't before that one
  before_all : (x y z : X) → lt x y ≡ true → lt z y ≡ false → lt x z ≡ true
  before_all x y z t f =
      elim (cases_Bool (lt x z)) [
        | inl s ↦ s
        | inr g ↦ absurd (both_ways (lt x y) (o.chain x z y g f) t)
      ]

  none_tie : (x y : X) (ys : List X) → lt x y ≡ true → AllByRecursion (λ z. lt z y ≡ false) ys
      → filter (ties lt x) (y ∷ ys) ≡ []
  none_tie x y ys t h =
      rw (no_tie_before x y t)
      (filter_none (ties lt x) ys (each_more (λ z. lt z y ≡ false) (λ z. ties lt x z ≡ false)
      (λ z f. no_tie_before x z (before_all x y z t f)) ys h))

  some_tie : (x : X) (xs : List X) → filter (ties lt x) (x ∷ xs) ≡ x ∷ filter (ties lt x) xs
  some_tie x xs = rw (tie_itself x) refl

  tails_alike : (x y z : X) (xs ys : List X) → x ≡ y → filter (ties lt z) (x ∷ xs) ≡ filter (ties lt z) (y ∷ ys)
      → filter (ties lt z) xs ≡ filter (ties lt z) ys
  tails_alike x y z xs ys e h =
      elim (cases_Bool (ties lt z y)) [
        | inl t ↦ let g = rw (e, t) at h in (same_heads y y (filter (ties lt z) xs) (filter (ties lt z) ys) g).1
        | inr f ↦ rw (e, f) at h
      ]

  -- two lists that ascend, and hold the same of each class of ties in the same order, are one
  pub alike : (xs ys : List X) → Ascends lt xs → Ascends lt ys
      → ((x : X) → filter (ties lt x) xs ≡ filter (ties lt x) ys) → xs ≡ ys
  unfolding Ascends
  alike [] [] a b h = refl
  alike [] (y ∷ ys) a b h = let e = h y ∙ some_tie y ys in absurd (cc)
  alike (x ∷ xs) [] a b h = let e = sym (h x) ∙ some_tie x xs in absurd (cc)
  alike (x ∷ xs) (y ∷ ys) a b h =
      elim (cases_Bool (lt x y)) [
        | inl t ↦ let e = sym (none_tie x y ys t b.0) ∙ (sym (h x) ∙ some_tie x xs) in absurd (cc)
        | inr f ↦ elim (cases_Bool (lt y x)) [
          | inl t ↦ let e = sym (none_tie y x xs t a.0) ∙ (h y ∙ some_tie y ys) in absurd (cc)
          | inr g ↦
              let k : filter (ties lt x) (y ∷ ys) ≡ y ∷ filter (ties lt x) ys = rw (tie_from x y f g) refl in
              let e = (same_heads x y _ _ (sym (some_tie x xs) ∙ (h x ∙ k))).0 in
              let rest = alike xs ys a.1 b.1 (λ z. tails_alike x y z xs ys e (h z)) in
              rw (e, rest) refl
        ]
      ]

  ascends_pairs : (xs : List X)
      → ((i j : ℕ) (d : X) → i < j → j < length xs → lt (get_or xs j d) (get_or xs i d) ≡ false) → Ascends lt xs
  unfolding Ascends
  ascends_pairs [] up = tt
  ascends_pairs (x ∷ xs) up = (
    recursion_from_All (λ y. lt y x ≡ false) xs (λ j d inside. up zero (suc j) d (omega arith) (omega arith)),
    ascends_pairs xs (λ i j d below inside. up (suc i) (suc j) d (omega arith) (omega arith)),
  )

  pub ascends : (xs : List X) → IsSortedBy lt xs → Ascends lt xs
  ascends xs up = ascends_pairs xs (λ i j d below inside. sorted_far lt o xs up i j d (omega arith) inside)

  ascends_put : (x : X) (ys : List X) → Ascends lt ys → Ascends lt (put lt x ys)
  unfolding Ascends put
  ascends_put x [] a = (tt, tt)
  ascends_put x (y ∷ ys) a =
      elim (cases_Bool (lt y x)) [
        | inl t ↦ rw t (all_put lt (λ z. lt z y ≡ false) x ys (o.one_way y x t) a.0, ascends_put x ys a.1)
        | inr f ↦
            rw f ((f, each_more (λ z. lt z y ≡ false) (λ z. lt z x ≡ false) (λ z g. o.chain z y x g f) ys a.0), a)
      ]

  pub ascends_puts : (xs : List X) → Ascends lt (puts lt xs)
  unfolding puts Ascends
  ascends_puts [] = tt
  ascends_puts (x ∷ xs) = ascends_put x (puts lt xs) (ascends_puts xs)

  put_keeps : (z x : X) (ys : List X) → filter (ties lt z) (put lt x ys) ≡ filter (ties lt z) (x ∷ ys)
  unfolding put
  put_keeps z x [] = refl
  put_keeps z x (y ∷ ys) =
      elim (cases_Bool (lt y x)) [
        | inl t ↦ elim (cases_Bool (ties lt z y)) [
          | inl s ↦
              let n : ties lt z x ≡ false =
              false_from_ne_true (ties lt z x)
              (λ r. both_ways (ties lt y x) (no_tie_before y x t) (tie_trans y z x (tie_back z y s) r)) in
              let h : filter (ties lt z) (put lt x ys) ≡ filter (ties lt z) ys = put_keeps z x ys ∙ rw n refl in
              rw (t, s, n, h) refl
          | inr s ↦ rw (t, s) (put_keeps z x ys)
        ]
        | inr f ↦ rw f refl
      ]

  filter_cons : (p : X → Bool) (x : X) (xs ys : List X) → filter p xs ≡ filter p ys
      → filter p (x ∷ xs) ≡ filter p (x ∷ ys)
  filter_cons p x xs ys h = rw h refl

  pub puts_keep : (z : X) (xs : List X) → filter (ties lt z) (puts lt xs) ≡ filter (ties lt z) xs
  unfolding puts
  puts_keep z [] = refl
  puts_keep z (x ∷ xs) = put_keeps z x (puts lt xs) ∙ filter_cons (ties lt z) x (puts lt xs) xs (puts_keep z xs)

  pub firsts_keep : (z : X) (xs : List X) → filter (ties lt z) (firsts (ties lt) xs) ≡ first_of (filter (ties lt z) xs)
  unfolding firsts
  firsts_keep z [] = refl
  firsts_keep z (x ∷ xs) =
      elim (cases_Bool (ties lt z x)) [
        | inl t ↦
            let out = filter_out (ties lt z) (λ y. not (ties lt x y))
            (λ s r. rw (tie_trans x z s (tie_back z x t) r) refl) (firsts (ties lt) xs) in
            rw (t, out) refl
        | inr f ↦
            let inside = filter_in (ties lt z) (λ y. not (ties lt x y))
            (λ s r. not_from_false (ties lt x s) (false_from_ne_true (ties lt x s)
            (λ q. both_ways (ties lt z x) f (tie_trans z s x r (tie_back x s q))))) (firsts (ties lt) xs) in
            rw (f, inside) (firsts_keep z xs)
      ]

  ascends_dedup : (k : X) (ys : List X) → AllByRecursion (λ y. lt y k ≡ false) ys → Ascends lt ys
      → Ascends lt (dedup_from (ties lt) k ys)
  unfolding Ascends
  ascends_dedup k [] above a = (tt, tt)
  ascends_dedup k (y ∷ ys) above a =
      elim (cases_Bool (ties lt y k)) [
        | inl t ↦ rw t (ascends_dedup k ys above.1 a.1)
        | inr f ↦ rw f (all_dedup (ties lt) (λ z. lt z k ≡ false) y ys above.0 above.1, ascends_dedup y ys a.0 a.1)
      ]

  dedup_keeps : (z k : X) (ys : List X) → AllByRecursion (λ y. lt y k ≡ false) ys → Ascends lt ys
      → filter (ties lt z) (dedup_from (ties lt) k ys) ≡ first_of (filter (ties lt z) (k ∷ ys))
  unfolding Ascends
  dedup_keeps z k [] above a = elim (cases_Bool (ties lt z k)) [ inl t ↦ rw t refl | inr f ↦ rw f refl ]
  dedup_keeps z k (y ∷ ys) above a =
      elim (cases_Bool (ties lt y k)) [
        | inl t ↦ elim (cases_Bool (ties lt z k)) [
          | inl s ↦ let h = rw s at (dedup_keeps z k ys above.1 a.1) in rw (t, s) h
          | inr s ↦
              let n : ties lt z y ≡ false =
              false_from_ne_true (ties lt z y) (λ r. both_ways (ties lt z k) s (tie_trans z y k r t)) in
              let h = rw s at (dedup_keeps z k ys above.1 a.1) in
              rw (t, s, n) h
        ]
        | inr f ↦
            let before : lt k y ≡ true = elim (cases_Bool (lt k y)) [
              | inl s ↦ s
              | inr s ↦ absurd (both_ways (ties lt y k) f (tie_from y k above.0 s))
            ] in
            elim (cases_Bool (ties lt z k)) [
              | inl s ↦
                  let none : filter (ties lt z) (y ∷ ys) ≡ [] =
                  none_tie z y ys (elim (cases_Bool (lt z y)) [
                    | inl r ↦ r
                    | inr r ↦ absurd (both_ways (lt k y) (o.chain k z y ((tie_parts z k s).1) r) before)
                  ]) a.0 in
                  let h = dedup_keeps z y ys a.0 a.1 ∙ ap first_of none in
                  rw (f, s, h) refl
              | inr s ↦ rw (f, s) (dedup_keeps z y ys a.0 a.1)
            ]
      ]

  ascends_deduped : (ys : List X) → Ascends lt ys → Ascends lt (dedup (ties lt) ys)
  unfolding Ascends
  ascends_deduped [] a = tt
  ascends_deduped (y ∷ ys) a = ascends_dedup y ys a.0 a.1

  deduped_keeps : (z : X) (ys : List X) → Ascends lt ys
      → filter (ties lt z) (dedup (ties lt) ys) ≡ first_of (filter (ties lt z) ys)
  unfolding Ascends
  deduped_keeps z [] a = refl
  deduped_keeps z (y ∷ ys) a = dedup_keeps z y ys a.0 a.1

  -- what a stable sort and the removal of ties leave
  pub tidied : (xs ys : List X) → IsSortedBy lt ys → IsStableBy lt xs ys
      → dedup (ties lt) ys ≡ puts lt (firsts (ties lt) xs)
  tidied xs ys up stable =
      let a = ascends ys up in
      alike (dedup (ties lt) ys) (puts lt (firsts (ties lt) xs)) (ascends_deduped ys a)
      (ascends_puts (firsts (ties lt) xs))
      (λ z. deduped_keeps z ys a
      ∙ (ap first_of (stable z) ∙ (sym (firsts_keep z xs) ∙ sym (puts_keep z (firsts (ties lt) xs)))))

  pub climbs_ascends : (xs : List X) → Climbs lt xs → Ascends lt xs
  unfolding Climbs Ascends
  climbs_ascends [] h = tt
  climbs_ascends (x ∷ xs) h =
      (each_more (λ y. lt x y ≡ true) (λ y. lt y x ≡ false) (λ y t. o.one_way x y t) xs h.0, climbs_ascends xs h.1)

  climbs_kept : (z : X) (xs : List X) → Climbs lt xs → filter (ties lt z) xs ≡ first_of (filter (ties lt z) xs)
  unfolding Climbs
  climbs_kept z [] h = refl
  climbs_kept z (x ∷ xs) h =
      elim (cases_Bool (ties lt z x)) [
        | inl t ↦
            let p = tie_parts z x t in
            let none = filter_none (ties lt z) xs
            (each_more (λ y. lt x y ≡ true) (λ y. ties lt z y ≡ false)
            (λ y s. false_from_ne_true (ties lt z y)
            (λ r. both_ways (ties lt x y) (no_tie_before x y s) (tie_trans x z y (tie_back z x t) r))) xs h.0) in
            rw (t, none) refl
        | inr f ↦ rw f (climbs_kept z xs h.1)
      ]

  -- a list that climbs is as it should be
  pub climbed : (xs : List X) → Climbs lt xs → xs ≡ puts lt (firsts (ties lt) xs)
  climbed xs h =
      alike xs (puts lt (firsts (ties lt) xs)) (climbs_ascends xs h) (ascends_puts (firsts (ties lt) xs))
      (λ z. climbs_kept z xs h ∙ (sym (firsts_keep z xs) ∙ sym (puts_keep z (firsts (ties lt) xs))))
