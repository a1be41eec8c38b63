-- What is at one key of a list, replaced, put in or taken out.
use Rattle.std.proofs.Common.{◌≡◌, Bool, true, false, List, [], ◌∷◌, ◌++◌, map, refl, sym, ◌∙◌, ap, subst, inl, inr}
use Rattle.std.proofs.Common.{Ordering, Less, Equal, Greater, is_lt, is_gt}
use Rattle.std.specs.Prelude.{Option, Some, None, filter, if◌then◌else◌}
use Rattle.std.specs.Option.{option_to_list, ForSome}
use Rattle.std.specs.Bool.{Decides}
use Rattle.std.specs.Cmp.{IsTotalOrder}
use Rattle.std.specs.Ordering.{ordering_reverse}
use Rattle.std.specs.List.{find, AllByRecursion}
use Rattle.std.specs.List.Sorted.{IsStrictlySortedBy}
use Rattle.std.proofs.lemmas.Bool.{cases_Bool}
use Rattle.dz_member.proofs.WalkLemmas.{all_more, apart, apart_back}
use Rattle.dz_member.proofs.EachLemmas.{by_order}
use Rattle.dz_member.proofs.OrderLemmas.{less_is}

greater_is : (k : Ordering) → is_gt k ≡ true → k ≡ Greater
greater_is Less h = absurd (cc)
greater_is Equal h = absurd (cc)
greater_is Greater h = refl

-- what is found in parts
abbrev first_some : {X : Type 0} → Option X → Option X → Option X
first_some None r = r
first_some (Some x) r = Some x

first_none : {X : Type 0} (o : Option X) → first_some o None ≡ o
first_none None = refl
first_none (Some x) = refl

find_both : {X : Type 0} (p : X → Bool) (xs ys : List X)
    → find p (xs ++ ys) ≡ first_some (find p xs) (find p ys)
find_both p [] ys = refl
find_both p (x ∷ xs) ys =
    elim (cases_Bool (p x)) [ inl t ↦ rw t refl | inr f ↦ rw f (find_both p xs ys) ]

find_kept : {X : Type 0} (p q : X → Bool) (xs : List X) → ((x : X) → p x ≡ true → q x ≡ true)
    → find p (filter q xs) ≡ find p xs
find_kept p q [] h = refl
find_kept p q (x ∷ xs) h =
    elim (cases_Bool (p x)) [
      | inl t ↦ rw (h x t, t) refl
      | inr f ↦ elim (cases_Bool (q x)) [
        | inl s ↦ rw (s, f) (find_kept p q xs h)
        | inr u ↦ rw (u, f) (find_kept p q xs h)
      ]
    ]

find_left : {X : Type 0} (p q : X → Bool) (xs : List X) → ((x : X) → p x ≡ true → q x ≡ false)
    → find p (filter q xs) ≡ None
find_left p q [] h = refl
find_left p q (x ∷ xs) h =
    elim (cases_Bool (q x)) [
      | inr u ↦ rw u (find_left p q xs h)
      | inl s ↦ elim (cases_Bool (p x)) [
        | inl t ↦ absurd (let bad : true ≡ false = sym s ∙ h x t in cc)
        | inr f ↦ rw (s, f) (find_left p q xs h)
      ]
    ]

module _ {K X : Type 0} (R : K → K → Ordering) (o : IsTotalOrder R) (same : K → K → Bool)
    (decides : (a b : K) → Decides (same a b) (a ≡ b)) (exact : (a b : K) → R a b ≡ Equal → a ≡ b) (key : X → K)
    (k : K) (v : Option X) (xs : List X) where
  abbrev pub low : List X
  low = filter (λ x. is_lt (R (key x) k)) xs

  abbrev pub high : List X
  high = filter (λ x. is_gt (R (key x) k)) xs

  abbrev pub put : List X
  put = low ++ option_to_list v ++ high

  -- ---- what is found at a key
  abbrev pub at : K → List X → Option X
  at z ys = find (λ x. same (key x) z) ys

  parts : (z : K) → at z put ≡ first_some (first_some (at z low) (at z (option_to_list v))) (at z high)
  parts z = find_both (λ x. same (key x) z) (low ++ option_to_list v) high
      ∙ ap (λ r. first_some r (at z high)) (find_both (λ x. same (key x) z) low (option_to_list v))

  other_key : (z : K) → ForSome v (λ x. key x ≡ k) → same k z ≡ false → at z (option_to_list v) ≡ None
  other_key z own f = elim v as (λ w. ForSome w (λ x. key x ≡ k) → at z (option_to_list w) ≡ None) [
    | None ↦ λ h. refl
    | Some x ↦ λ h. let e : same (key x) z ≡ false = subst (λ y. same y z ≡ false) (sym (h x refl)) f in rw e refl
  ] own

  this_key : (z : K) → ForSome v (λ x. key x ≡ k) → same k z ≡ true → at z (option_to_list v) ≡ v
  this_key z own t = elim v as (λ w. ForSome w (λ x. key x ≡ k) → at z (option_to_list w) ≡ w) [
    | None ↦ λ h. refl
    | Some x ↦ λ h. let e : same (key x) z ≡ true = subst (λ y. same y z ≡ true) (sym (h x refl)) t in rw e refl
  ] own

  -- a test of the order is the same at each element that has the key
  tested : (test : Ordering → Bool) (z : K) (b : Bool) → test (R z k) ≡ b → (x : X) → same (key x) z ≡ true
      → test (R (key x) k) ≡ b
  tested test z b e x t = subst (λ y. test (R y k) ≡ b) (sym ((decides (key x) z).0 t)) e

  pub put_found : (z : K) → ForSome v (λ x. key x ≡ k) → at z put ≡ (if same k z then v else at z xs)
  put_found z own = parts z ∙ by_order (R z k)
      (λ e.
      let a : at z low ≡ at z xs = find_kept _ _ xs (tested is_lt z true (ap is_lt e)) in
      let c : at z high ≡ None = find_left _ _ xs (tested is_gt z false (ap is_gt e)) in
      let f : same k z ≡ false = apart_back R o same decides z k e in
      let b = other_key z own f in
      rw (a, b, c, f) (first_none (first_some (at z xs) None) ∙ first_none (at z xs)))
      (λ e.
      let a : at z low ≡ None = find_left _ _ xs (tested is_lt z false (ap is_lt e)) in
      let c : at z high ≡ None = find_left _ _ xs (tested is_gt z false (ap is_gt e)) in
      let t : same k z ≡ true = (decides k z).1 (sym (exact z k e)) in
      let b = this_key z own t in
      rw (a, b, c, t) (first_none v))
      (λ e.
      let a : at z low ≡ None = find_left _ _ xs (tested is_lt z false (ap is_lt e)) in
      let c : at z high ≡ at z xs = find_kept _ _ xs (tested is_gt z true (ap is_gt e)) in
      let l : R k z ≡ Less = o.antisymm k z ∙ ap ordering_reverse e in
      let f : same k z ≡ false = apart R o same decides k z l in
      let b = other_key z own f in
      rw (a, b, c, f) refl)

  -- ---- the keys rise
  abbrev Rise : List X → Type 0
  Rise ys = IsStrictlySortedBy R (map key ys)

  abbrev Keys : (K → Type 0) → List X → Type 0
  Keys P ys = AllByRecursion P (map key ys)

  keys_kept : (P : K → Type 0) (q : X → Bool) (ys : List X) → Keys P ys → Keys P (filter q ys)
  keys_kept P q [] a = tt
  keys_kept P q (y ∷ ys) a =
      elim (cases_Bool (q y)) [
        | inl t ↦ rw t (a.0, keys_kept P q ys a.1)
        | inr f ↦ rw f (keys_kept P q ys a.1)
      ]

  rise_kept : (q : X → Bool) (ys : List X) → Rise ys → Rise (filter q ys)
  unfolding IsStrictlySortedBy
  rise_kept q [] up = tt
  rise_kept q (y ∷ ys) up =
      elim (cases_Bool (q y)) [
        | inl t ↦ rw t (keys_kept (λ j. R (key y) j ≡ Less) q ys up.0, rise_kept q ys up.1)
        | inr f ↦ rw f (rise_kept q ys up.1)
      ]

  passing : (P : K → Type 0) (q : X → Bool) → ((x : X) → q x ≡ true → P (key x)) → (ys : List X)
      → Keys P (filter q ys)
  passing P q h [] = tt
  passing P q h (y ∷ ys) =
      elim (cases_Bool (q y)) [
        | inl t ↦ rw t (h y t, passing P q h ys)
        | inr f ↦ rw f (passing P q h ys)
      ]

  keys_both : (P : K → Type 0) (ys zs : List X) → Keys P ys → Keys P zs → Keys P (ys ++ zs)
  keys_both P [] zs a b = b
  keys_both P (y ∷ ys) zs a b = (a.0, keys_both P ys zs a.1 b)

  rise_both : (ys zs : List X) → Rise ys → Rise zs → Keys (λ j. Keys (λ z. R j z ≡ Less) zs) ys → Rise (ys ++ zs)
  unfolding IsStrictlySortedBy
  rise_both [] zs up rise below = rise
  rise_both (y ∷ ys) zs up rise below = (
    keys_both (λ j. R (key y) j ≡ Less) ys zs up.0 below.0,
    rise_both ys zs up.1 rise below.1,
  )

  low_less : Keys (λ j. R j k ≡ Less) low
  low_less = passing (λ j. R j k ≡ Less) (λ x. is_lt (R (key x) k)) (λ x t. less_is (R (key x) k) t) xs

  high_greater : Keys (λ j. R k j ≡ Less) high
  high_greater = passing (λ j. R k j ≡ Less) (λ x. is_gt (R (key x) k))
      (λ x t. o.antisymm k (key x) ∙ ap ordering_reverse (greater_is (R (key x) k) t)) xs

  middle : (P : K → Type 0) (w : Option X) → ForSome w (λ x. key x ≡ k) → P k → Keys P (option_to_list w)
  middle P None own p = tt
  middle P (Some x) own p = (subst P (sym (own x refl)) p, tt)

  middle_rises : (w : Option X) → Rise (option_to_list w)
  unfolding IsStrictlySortedBy
  middle_rises None = tt
  middle_rises (Some x) = (tt, tt)

  pub put_rises : ForSome v (λ x. key x ≡ k) → Rise xs → Rise put
  put_rises own up =
      let above : (j : K) → R j k ≡ Less → Keys (λ z. R j z ≡ Less) high = λ j l.
      all_more (λ z. R k z ≡ Less) (λ z. R j z ≡ Less) (λ z m. o.trans j k z l m) (map key high) high_greater in
      let beside : (j : K) → R j k ≡ Less → Keys (λ z. R j z ≡ Less) (option_to_list v) = λ j l.
      middle (λ z. R j z ≡ Less) v own l in
      let first : Rise (low ++ option_to_list v) = rise_both low (option_to_list v)
      (rise_kept (λ x. is_lt (R (key x) k)) xs up) (middle_rises v)
      (all_more (λ j. R j k ≡ Less) (λ j. Keys (λ z. R j z ≡ Less) (option_to_list v)) beside (map key low) low_less) in
      rise_both (low ++ option_to_list v) high first (rise_kept (λ x. is_gt (R (key x) k)) xs up)
      (keys_both (λ j. Keys (λ z. R j z ≡ Less) high) low (option_to_list v)
      (all_more (λ j. R j k ≡ Less) (λ j. Keys (λ z. R j z ≡ Less) high) above (map key low) low_less)
      (middle (λ j. Keys (λ z. R j z ≡ Less) high) v own high_greater))
