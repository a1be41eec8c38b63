-- Values in a map, each at its own key: what the map does by keys is what lists of the values have.
use Rattle.std.proofs.Common.{◌≡◌, Bool, true, false, List, [], ◌∷◌, map, refl, sym, ◌∙◌, ap, subst, inl, inr, T, cond}
use Rattle.std.proofs.Common.{Ordering, Less, Equal, Greater, not}
use Rattle.std.specs.Prelude.{Option, Some, None, if◌then◌else◌}
use Rattle.std.specs.Bool.{Decides}
use Rattle.std.specs.Cmp.{IsTotalOrder}
use Rattle.std.specs.Ordering.{eq_by_cmp, is_eq}
use Rattle.std.specs.List.{find, AllByRecursion}
use Rattle.std.specs.List.Sorted.{IsStrictlySortedBy}
use Rattle.std.specs.FinMap as fin
use Rattle.std.specs.FinMap.Entries.{below_all, is_sorted-put, is_sorted-where_key, find-put, find-where_key}
use Rattle.std.proofs.lemmas.Bool.{cases_Bool}
use Rattle.std.proofs.lemmas.Cmp.{tied_itself}
use Rattle.dz_chunks.specs.Map.{without_key}
use Rattle.dz_member.proofs.EachLemmas.{by_order}
use Rattle.std.proofs.lemmas.Bool.Decides.{same_from_decides}

equal_is : (k : Ordering) → is_eq k ≡ true → k ≡ Equal
equal_is Less h = absurd (cc)
equal_is Equal h = refl
equal_is Greater h = absurd (cc)

pub true_is : (b : Bool) → T b → b ≡ true
true_is true h = refl
true_is false h = absurd h

module _ {K X : Type 0} (R : K → K → Ordering) (o : IsTotalOrder R) (same : K → K → Bool)
    (decides : (a b : K) → Decides (same a b) (a ≡ b)) (exact : (a b : K) → R a b ≡ Equal → a ≡ b)
    (key : X → K) where
  abbrev Own : List (K × X) → Type 0
  Own es = AllByRecursion (λ e. e.0 ≡ key e.1) es

  abbrev values : List (K × X) → List X
  values es = map (λ e. e.1) es

  abbrev Rise : List X → Type 0
  Rise xs = IsStrictlySortedBy R (map key xs)

  abbrev at : K → List X → Option X
  at z xs = find (λ x. same (key x) z) xs

  ties : (a b : K) → Decides (eq_by_cmp R a b) (a ≡ b)
  ties a b = (λ t. exact a b (equal_is (R a b) t), λ e. subst (λ z. eq_by_cmp R a z ≡ true) e (ap is_eq (tied_itself o a)))

  pub tests : (a b : K) → eq_by_cmp R a b ≡ same a b
  tests a b = same_from_decides (eq_by_cmp R a b) (same a b) (ties a b) (decides a b)

  turned : (a b : K) → Decides (same b a) (a ≡ b)
  turned a b = (λ t. sym ((decides b a).0 t), λ e. (decides b a).1 (sym e))

  pub tests_back : (a b : K) → eq_by_cmp R a b ≡ same b a
  tests_back a b = same_from_decides (eq_by_cmp R a b) (same b a) (ties a b) (turned a b)

  -- ---- what is found
  pub find_values : (z : K) (es : List (K × X)) → Own es → fin.find R z es ≡ at z (values es)
  find_values z [] own = refl
  find_values z (e ∷ es) own =
      let q : eq_by_cmp R z e.0 ≡ same (key e.1) z = tests_back z e.0 ∙ ap (λ k. same k z) own.0 in
      elim (cases_Bool (same (key e.1) z)) [
        | inl t ↦ rw (q, t) refl
        | inr f ↦ rw (q, f) (find_values z es own.1)
      ]

  -- ---- each value at its own key
  pub put_own : (v : X) (es : List (K × X)) → Own es → Own (fin.put R (key v) v es)
  put_own v [] own = (refl, tt)
  put_own v (e ∷ es) own = by_order (R (key v) e.0)
      (λ l. rw l (refl, own))
      (λ q. rw q (sym (exact (key v) e.0 q), own.1))
      (λ g. rw g (own.0, put_own v es own.1))

  pub without_own : (k : K) (es : List (K × X)) → Own es → Own (without_key R k es)
  without_own k [] own = tt
  without_own k (e ∷ es) own =
      elim (cases_Bool (eq_by_cmp R k e.0)) [
        | inl t ↦ rw t (without_own k es own.1)
        | inr f ↦ rw f (own.0, without_own k es own.1)
      ]

  -- ---- the keys rise
  below_from : (k : K) (es : List (K × X)) → Own es → AllByRecursion (λ y. R k y ≡ Less) (map key (values es))
      → T (below_all R k es)
  below_from k [] own a = tt
  below_from k (e ∷ es) own a =
      let l : R k e.0 ≡ Less = subst (λ z. R k z ≡ Less) (sym own.0) a.0 in rw l (below_from k es own.1 a.1)

  pub sorted_from : (es : List (K × X)) → Own es → Rise (values es) → T (fin.is_sorted R es)
  unfolding IsStrictlySortedBy
  sorted_from [] own up = tt
  sorted_from (e ∷ es) own up =
      let below : T (below_all R e.0 es) = subst (λ z. T (below_all R z es)) (sym own.0) (below_from (key e.1) es own.1 up.0) in
      let is : below_all R e.0 es ≡ true = true_is (below_all R e.0 es) below in rw is (sorted_from es own.1 up.1)

  below_back : (k : K) (es : List (K × X)) → Own es → T (below_all R k es)
      → AllByRecursion (λ y. R k y ≡ Less) (map key (values es))
  below_back k [] own h = tt
  below_back k (e ∷ es) own h = by_order (R k e.0)
      (λ l. let h' : T (below_all R k es) = rw l at h in
      (subst (λ z. R k z ≡ Less) own.0 l, below_back k es own.1 h'))
      (λ q. absurd (let h' : ⊥ = rw q at h in h'))
      (λ g. absurd (let h' : ⊥ = rw g at h in h'))

  pub rises_from : (es : List (K × X)) → Own es → T (fin.is_sorted R es) → Rise (values es)
  unfolding IsStrictlySortedBy
  rises_from [] own h = tt
  rises_from (e ∷ es) own h =
      elim (cases_Bool (below_all R e.0 es)) [
        | inl t ↦
            let h' : T (fin.is_sorted R es) = rw t at h in
            let b : T (below_all R e.0 es) = rw t tt in (
              subst (λ k. AllByRecursion (λ y. R k y ≡ Less) (map key (values es))) own.0 (below_back e.0 es own.1 b),
              rises_from es own.1 h',
            )
        | inr f ↦ absurd (let h' : ⊥ = rw f at h in h')
      ]

  pub put_rises : (v : X) (es : List (K × X)) → Own es → Rise (values es) → Rise (values (fin.put R (key v) v es))
  put_rises v es own up =
      rises_from (fin.put R (key v) v es) (put_own v es own) (is_sorted-put R o (key v) v es (sorted_from es own up))

  pub without_rises : (k : K) (es : List (K × X)) → Own es → Rise (values es) → Rise (values (without_key R k es))
  without_rises k es own up =
      rises_from (without_key R k es) (without_own k es own)
      (is_sorted-where_key R (λ other. not (eq_by_cmp R k other)) es (sorted_from es own up))

  -- ---- what is found afterwards
  pub put_at : (z : K) (v : X) (es : List (K × X)) → Own es
      → at z (values (fin.put R (key v) v es)) ≡ (if same (key v) z then Some v else at z (values es))
  put_at z v es own =
      sym (find_values z (fin.put R (key v) v es) (put_own v es own))
      ∙ (find-put R o z (key v) v es
      ∙ (λ i. cond (tests_back z (key v) i) (Some v) (find_values z es own i)))

  cond_not : {A : Type 0} (b : Bool) (x y : A) → cond (not b) x y ≡ cond b y x
  cond_not true x y = refl
  cond_not false x y = refl

  pub without_at : (z k : K) (es : List (K × X)) → Own es
      → at z (values (without_key R k es)) ≡ (if same k z then None else at z (values es))
  without_at z k es own =
      sym (find_values z (without_key R k es) (without_own k es own))
      ∙ (find-where_key R (λ other. not (eq_by_cmp R k other)) z
      (λ x e. ap (λ y. not (eq_by_cmp R k y)) (sym (exact z x e))) es
      ∙ (cond_not (eq_by_cmp R k z) (fin.find R z es) None
      ∙ (λ i. cond (tests k z i) None (find_values z es own i))))
