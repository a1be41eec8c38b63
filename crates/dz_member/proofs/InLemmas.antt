-- What is in a list, and what a search finds there.
use Rattle.std.proofs.Common.{◌≡◌, ◌⊎◌, Bool, true, false, List, [], ◌∷◌, map, refl, sym, ◌∙◌, ap, subst, inl}
use Rattle.std.proofs.Common.{inr}
use Rattle.std.proofs.Common.{Ordering, Less}
use Rattle.std.specs.Prelude.{Option, Some, None, ◌||◌}
use Rattle.std.specs.Bool.{Decides}
use Rattle.std.specs.Cmp.{IsTotalOrder}
use Rattle.std.specs.List.{find, filter_map, cons_option, list_any, AllByRecursion, All}
use Rattle.std.specs.List.Sorted.{IsStrictlySortedBy}
use Rattle.std.proofs.lemmas.Bool.{cases_Bool, or_parts}
use Rattle.std.proofs.lemmas.List.Elements.{All-head, All-tail}
use Rattle.std.proofs.lemmas.Map.Keys.{sorted_head, sorted_tail}
use Rattle.dz_settings.specs.Twice.{has_twice}
use Rattle.dz_member.proofs.WalkLemmas.{apart}

-- an element is one of these
abbrev pub IsIn : {X : Type 0} → X → List X → Type 0
IsIn x [] = ⊥
IsIn x (y ∷ ys) = (y ≡ x) ⊎ IsIn x ys

-- what is found is in the list, and passes
pub found_in : {X : Type 0} (p : X → Bool) (xs : List X) (x : X) → find p xs ≡ Some x → IsIn x xs × (p x ≡ true)
found_in p [] x e = absurd (cc)
found_in p (y ∷ ys) x e =
    elim (cases_Bool (p y)) [
      | inl t ↦
          let s : Some y ≡ Some x = rw t at e in
          let same : y ≡ x = cc in (inl same, subst (λ z. p z ≡ true) same t)
      | inr f ↦ let r = found_in p ys x (rw f at e) in (inr r.0, r.1)
    ]

-- where nothing is found, nothing passes
pub none_in : {X : Type 0} (p : X → Bool) (xs : List X) (x : X) → find p xs ≡ None → IsIn x xs → p x ≡ false
none_in p [] x e i = absurd i
none_in p (y ∷ ys) x e i =
    elim (cases_Bool (p y)) [
      | inl t ↦ absurd (let q : Some y ≡ None = rw t at e in cc)
      | inr f ↦ elim i as (λ _. p x ≡ false) [
        | inl same ↦ subst (λ z. p z ≡ false) same f
        | inr j ↦ none_in p ys x (rw f at e) j
      ]
    ]

-- some element passes, or none does
pub any_in : {X : Type 0} (p : X → Bool) (xs : List X) (x : X) → IsIn x xs → p x ≡ true → list_any p xs ≡ true
any_in p [] x i t = absurd i
any_in p (y ∷ ys) x i t =
    elim i as (λ _. (p y || list_any p ys) ≡ true) [
      | inl same ↦ rw (subst (λ z. p z ≡ true) (sym same) t) refl
      | inr j ↦ elim (cases_Bool (p y)) [ inl s ↦ rw s refl | inr f ↦ rw f (any_in p ys x j t) ]
    ]

pub not_any : {X : Type 0} (p : X → Bool) (xs : List X) → ((x : X) → IsIn x xs → p x ≡ false)
    → list_any p xs ≡ false
not_any p [] h = refl
not_any p (y ∷ ys) h = rw (h y (inl refl)) (not_any p ys (λ x i. h x (inr i)))

pub any_none : {X : Type 0} (p : X → Bool) (xs : List X) → find p xs ≡ None → list_any p xs ≡ false
any_none p xs e = not_any p xs (λ x i. none_in p xs x e i)

-- what holds of all of a list
pub in_all : {X : Type 0} (P : X → Type 0) (xs : List X) (x : X) → All P xs → IsIn x xs → P x
in_all P [] x all i = absurd i
in_all P (y ∷ ys) x all i =
    elim i as (λ _. P x) [
      | inl same ↦ subst P same (All-head P y ys all)
      | inr j ↦ in_all P ys x (All-tail P y ys all) j
    ]

in_keys : {X K : Type 0} (key : X → K) (P : K → Type 0) (xs : List X) (x : X) → AllByRecursion P (map key xs)
    → IsIn x xs → P (key x)
in_keys key P [] x all i = absurd i
in_keys key P (y ∷ ys) x all i =
    elim i as (λ _. P (key x)) [
      | inl same ↦ subst (λ z. P (key z)) same all.0
      | inr j ↦ in_keys key P ys x all.1 j
    ]

-- what is made of the elements
in_more : {Y : Type 0} (o : Option Y) (ys : List Y) (y : Y) → IsIn y ys → IsIn y (cons_option o ys)
in_more None ys y i = i
in_more (Some x) ys y i = inr i

pub in_kept : {X Y : Type 0} (f : X → Option Y) (xs : List X) (x : X) (y : Y) → IsIn x xs → f x ≡ Some y
    → IsIn y (filter_map f xs)
in_kept f [] x y i e = absurd i
in_kept f (z ∷ zs) x y i e =
    elim i as (λ _. IsIn y (cons_option (f z) (filter_map f zs))) [
      | inl same ↦ let q : f z ≡ Some y = subst (λ w. f w ≡ Some y) (sym same) e in rw q (inl refl)
      | inr j ↦ in_more (f z) (filter_map f zs) y (in_kept f zs x y j e)
    ]

-- what an element was made of
pub record IsMade {X Y : Type 0} (f : X → Option Y) (xs : List X) (y : Y) : Type 0 where
  pub of : X
  pub inside : IsIn of xs
  pub is : f of ≡ Some y

pub made_of : {X Y : Type 0} (f : X → Option Y) (xs : List X) (y : Y) → IsIn y (filter_map f xs) → IsMade f xs y
made_of f [] y i = absurd i
made_of f (x ∷ xs) y i =
    elim (f x) as (λ o. f x ≡ o → IsIn y (cons_option o (filter_map f xs)) → IsMade f (x ∷ xs) y) [
      | None ↦ λ e j. let r = made_of f xs y j in record { of = r.of; inside = inr r.inside; is = r.is }
      | Some z ↦ λ e j. elim j as (λ _. IsMade f (x ∷ xs) y) [
        | inl same ↦ record { of = x; inside = inl refl; is = e ∙ ap Some same }
        | inr k ↦ let r = made_of f xs y k in record { of = r.of; inside = inr r.inside; is = r.is }
      ]
    ] refl i

-- two searches that find the same
pub same_options : {X : Type 0} (o r : Option X) → ((x : X) → o ≡ Some x → r ≡ Some x)
    → ((x : X) → r ≡ Some x → o ≡ Some x) → o ≡ r
same_options None None f g = refl
same_options None (Some y) f g = g y refl
same_options (Some x) r f g = sym (f x refl)

-- keys of which no two are the same
module _ {K X : Type 0} (same : K → K → Bool) (decides : (a b : K) → Decides (same a b) (a ≡ b)) (key : X → K) where
  abbrev pub of_key : K → List X → Option X
  of_key k xs = find (λ x. same (key x) k) xs

  pub found_key : (xs : List X) (k : K) (x : X) → of_key k xs ≡ Some x → IsIn x xs × (key x ≡ k)
  found_key xs k x e = let r = found_in (λ y. same (key y) k) xs x e in (r.0, (decides (key x) k).0 r.1)

  pub none_key : (xs : List X) (k : K) (x : X) → of_key k xs ≡ None → IsIn x xs → key x ≡ k → ⊥
  none_key xs k x e i is =
      let f : same (key x) k ≡ false = none_in (λ y. same (key y) k) xs x e i in
      let t : same (key x) k ≡ true = (decides (key x) k).1 is in
      let bad : true ≡ false = sym t ∙ f in cc

  abbrev pub Once : List X → Type 0
  Once xs = has_twice (λ a b. same (key a) (key b)) xs ≡ false

  -- each element is found by its key
  pub once_found : (xs : List X) (x : X) → Once xs → IsIn x xs → of_key (key x) xs ≡ Some x
  once_found [] x once i = absurd i
  once_found (y ∷ ys) x once i =
      let parts =
      or_parts (list_any (λ z. same (key y) (key z)) ys) (has_twice (λ a b. same (key a) (key b)) ys) once in
      elim i as (λ _. of_key (key x) (y ∷ ys) ≡ Some x) [
        | inl is ↦
            let t : same (key y) (key x) ≡ true = (decides (key y) (key x)).1 (ap key is) in rw t (ap Some is)
        | inr j ↦ elim (cases_Bool (same (key y) (key x))) [
          | inl t ↦ absurd (let q : list_any (λ z. same (key y) (key z)) ys ≡ true =
              any_in (λ z. same (key y) (key z)) ys x j t in
              let bad : true ≡ false = sym q ∙ parts.0 in cc)
          | inr f ↦ rw f (once_found ys x parts.1 j)
        ]
      ]

  pub one_key : (xs : List X) (x y : X) → Once xs → IsIn x xs → IsIn y xs → key x ≡ key y → x ≡ y
  one_key xs x y once i j e =
      let a = once_found xs x once i in
      let b = once_found xs y once j in
      let c : of_key (key y) xs ≡ Some x = subst (λ k. of_key k xs ≡ Some x) e a in
      let s : Some x ≡ Some y = sym c ∙ b in cc

  -- keys that rise
  module _ (R : K → K → Ordering) (o : IsTotalOrder R) where
    pub rising_found : (xs : List X) (x : X) → IsStrictlySortedBy R (map key xs) → IsIn x xs
        → of_key (key x) xs ≡ Some x
    rising_found [] x up i = absurd i
    rising_found (y ∷ ys) x up i =
        elim i as (λ _. of_key (key x) (y ∷ ys) ≡ Some x) [
          | inl is ↦
              let t : same (key y) (key x) ≡ true = (decides (key y) (key x)).1 (ap key is) in rw t (ap Some is)
          | inr j ↦
              let l : R (key y) (key x) ≡ Less =
              in_keys key (λ k. R (key y) k ≡ Less) ys x (sorted_head R (key y) (map key ys) up) j in
              rw (apart R o same decides (key y) (key x) l)
              (rising_found ys x (sorted_tail R (key y) (map key ys) up) j)
        ]

    -- none is there twice if what is the same by another test has one key
    pub once_by : (test : X → X → Bool) (xs : List X) → IsStrictlySortedBy R (map key xs)
        → ((x y : X) → IsIn x xs → IsIn y xs → test x y ≡ true → key x ≡ key y) → has_twice test xs ≡ false
    once_by test [] up h = refl
    once_by test (x ∷ xs) up h =
        let none : list_any (λ y. test x y) xs ≡ false = not_any (λ y. test x y) xs (λ y i.
        elim (cases_Bool (test x y)) [
          | inr f ↦ f
          | inl t ↦ absurd (
              let l : R (key x) (key y) ≡ Less =
              in_keys key (λ k. R (key x) k ≡ Less) xs y (sorted_head R (key x) (map key xs) up) i in
              let f : same (key x) (key y) ≡ false = apart R o same decides (key x) (key y) l in
              let s : same (key x) (key y) ≡ true = (decides (key x) (key y)).1 (h x y (inl refl) (inr i) t) in
              let bad : true ≡ false = sym s ∙ f in cc
              )
        ]) in
        rw none (once_by test xs (sorted_tail R (key x) (map key xs) up) (λ a b i j t. h a b (inr i) (inr j) t))
