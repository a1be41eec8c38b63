-- What is found of one key in a list made key by key.
use Rattle.std.proofs.Common.{◌≡◌, Bool, true, false, List, [], ◌∷◌, map, refl, sym, ◌∙◌, ap, subst, inl, inr}
use Rattle.std.proofs.Common.{Ordering, Less, Equal, Greater}
use Rattle.std.specs.Prelude.{Option, Some, None, IfSome}
use Rattle.std.specs.Bool.{Decides}
use Rattle.std.specs.Cmp.{IsTotalOrder}
use Rattle.std.specs.Ordering.{ordering_reverse}
use Rattle.std.specs.List.{find, list_any, filter_map, cons_option, AllByRecursion}
use Rattle.std.specs.List.Sorted.{IsStrictlySortedBy}
use Rattle.std.specs.Set.{sorted_merge}
use Rattle.std.proofs.lemmas.Cmp.{tied_itself}
use Rattle.std.proofs.lemmas.Bool.{cases_Bool}
use Rattle.dz_member.proofs.WalkLemmas.{all_merged, all_more}

pub by_order : {P : Type 0} (k : Ordering) → (k ≡ Less → P) → (k ≡ Equal → P) → (k ≡ Greater → P) → P
by_order Less a b c = a refl
by_order Equal a b c = b refl
by_order Greater a b c = c refl

all_map : {A B : Type 0} (f : A → B) (P : B → Type 0) (xs : List A) → AllByRecursion (λ x. P (f x)) xs
    → AllByRecursion P (map f xs)
all_map f P [] a = tt
all_map f P (x ∷ xs) a = (a.0, all_map f P xs a.1)

module _ {K : Type 0} (R : K → K → Ordering) (o : IsTotalOrder R) (same : K → K → Bool)
    (decides : (a b : K) → Decides (same a b) (a ≡ b)) (exact : (a b : K) → R a b ≡ Equal → a ≡ b) where
  -- ---- the merge of two lists that rise
  merged_at : (x : K) (xs : List K) → IsStrictlySortedBy R (x ∷ xs)
      → ((ys : List K) → IsStrictlySortedBy R ys → IsStrictlySortedBy R (sorted_merge R true xs ys)) → (ys : List K)
      → IsStrictlySortedBy R ys → IsStrictlySortedBy R (sorted_merge R true (x ∷ xs) ys)
  unfolding IsStrictlySortedBy
  merged_at x xs s h [] t = s
  merged_at x xs s h (y ∷ ys) t = by_order (R x y)
      (λ k. rw k (
        all_merged R (λ z. R x z ≡ Less) xs (y ∷ ys) s.0
            (k, all_more (λ z. R y z ≡ Less) (λ z. R x z ≡ Less) (λ z l. o.trans x y z k l) ys t.0),
        h (y ∷ ys) t,
      ))
      (λ k. rw k (
        all_merged R (λ z. R x z ≡ Less) xs ys s.0
            (all_more (λ z. R y z ≡ Less) (λ z. R x z ≡ Less) (λ z l. rw (exact x y k) l) ys t.0),
        h ys t.1,
      ))
      (λ k.
      let l : R y x ≡ Less = o.antisymm y x ∙ ap ordering_reverse k in
      rw k (
        all_merged R (λ z. R y z ≡ Less) (x ∷ xs) ys (
          l,
          all_more (λ z. R x z ≡ Less) (λ z. R y z ≡ Less)
              (λ z m. o.trans y x z l m) xs s.0,
        ) t.0,
        merged_at x xs s h ys t.1,
      ))

  pub merged : (xs ys : List K) → IsStrictlySortedBy R xs → IsStrictlySortedBy R ys
      → IsStrictlySortedBy R (sorted_merge R true xs ys)
  unfolding IsStrictlySortedBy
  merged [] ys s t = t
  merged (x ∷ xs) ys s t = merged_at x xs s (λ zs. merged xs zs s.1) ys t

  abbrev pub has : K → List K → Bool
  has z ks = list_any (λ k. same k z) ks

  all_apart : (z : K) (ks : List K) → has z ks ≡ false → AllByRecursion (λ k. same k z ≡ false) ks
  all_apart z [] e = tt
  all_apart z (k ∷ ks) e =
      elim (cases_Bool (same k z)) [
        | inl t ↦ absurd (let q : true ≡ false = rw t at e in cc)
        | inr f ↦ (f, all_apart z ks (rw f at e))
      ]

  has_none : (z : K) (ks : List K) → AllByRecursion (λ k. same k z ≡ false) ks → has z ks ≡ false
  has_none z [] a = refl
  has_none z (k ∷ ks) a = rw a.0 (has_none z ks a.1)

  -- what holds of each key of the merge holds of each key of both
  parts_at : (P : K → Type 0) (x : K) (xs : List K)
      → ((ys : List K) → AllByRecursion P (sorted_merge R true xs ys) → AllByRecursion P xs × AllByRecursion P ys)
      → (ys : List K) → AllByRecursion P (sorted_merge R true (x ∷ xs) ys)
      → AllByRecursion P (x ∷ xs) × AllByRecursion P ys
  parts_at P x xs h [] a = (a, tt)
  parts_at P x xs h (y ∷ ys) a = by_order (R x y)
      (λ k. let a' : P x × AllByRecursion P (sorted_merge R true xs (y ∷ ys)) = rw k at a in
      let q = h (y ∷ ys) a'.1 in
      ((a'.0, q.0), q.1))
      (λ k. let a' : P x × AllByRecursion P (sorted_merge R true xs ys) = rw k at a in
      let q = h ys a'.1 in
      ((a'.0, q.0), (subst P (exact x y k) a'.0, q.1)))
      (λ k. let a' : P y × AllByRecursion P (sorted_merge R true (x ∷ xs) ys) = rw k at a in
      let q = parts_at P x xs h ys a'.1 in
      (q.0, (a'.0, q.1)))

  parts : (P : K → Type 0) (xs ys : List K) → AllByRecursion P (sorted_merge R true xs ys)
      → AllByRecursion P xs × AllByRecursion P ys
  parts P [] ys a = (tt, a)
  parts P (x ∷ xs) ys a = parts_at P x xs (λ zs b. parts P xs zs b) ys a

  pub lacks : (z : K) (xs ys : List K) → has z (sorted_merge R true xs ys) ≡ false
      → (has z xs ≡ false) × (has z ys ≡ false)
  lacks z xs ys e =
      let q = parts (λ k. same k z ≡ false) xs ys (all_apart z (sorted_merge R true xs ys) e) in
      (has_none z xs q.0, has_none z ys q.1)

  module _ {X : Type 0} (key : X → K) where
    abbrev pub of : K → List X → Option X
    of z xs = find (λ x. same (key x) z) xs

    pub none_of : (z : K) (xs : List X) → has z (map key xs) ≡ false → of z xs ≡ None
    none_of z [] e = refl
    none_of z (x ∷ xs) e =
        elim (cases_Bool (same (key x) z)) [
          | inl t ↦ absurd (let q : true ≡ false = rw t at e in cc)
          | inr u ↦ rw u (none_of z xs (rw u at e))
        ]

    -- ---- a list made key by key: g gives nothing, or what has that key
    module _ (g : K → Option X) (own : (z : K) → IfSome (g z) (λ x. key x ≡ z)) where
      out_of : (z : K) (ks : List K) → has z ks ≡ false → of z (filter_map g ks) ≡ None
      out_of z [] e = refl
      out_of z (k ∷ ks) e =
          elim (cases_Bool (same k z)) [
            | inl t ↦ absurd (let q : true ≡ false = rw t at e in cc)
            | inr u ↦
                elim (g k) as (λ r. IfSome r (λ x. key x ≡ k) → of z (cons_option r (filter_map g ks)) ≡ None) [
                  | None ↦ λ i. out_of z ks (rw u at e)
                  | Some x ↦ λ i. let w : same (key x) z ≡ false = rw i u in rw w (out_of z ks (rw u at e))
                ] (own k)
          ]

      above : (k z : K) (ks : List K) → AllByRecursion (λ y. R k y ≡ Less) ks → same k z ≡ true → has z ks ≡ false
      above k z [] a t = refl
      above k z (y ∷ ys) a t =
          let e : k ≡ z = (decides k z).0 t in
          let l : R z y ≡ Less = rw e at a.0 in
          let u : same y z ≡ false =
          (elim (cases_Bool (same y z)) [
            | inr f ↦ f
            | inl v ↦ (let q : y ≡ z = (decides y z).0 v in
                let m : R z z ≡ Less = rw q at l in let r = tied_itself o z in absurd (cc))
          ]) in
          rw u (above k z ys a.1 t)

      in_of : (z : K) (ks : List K) → IsStrictlySortedBy R ks → has z ks ≡ true → of z (filter_map g ks) ≡ g z
      unfolding IsStrictlySortedBy
      in_of z [] up e = absurd (cc)
      in_of z (k ∷ ks) up e =
          elim (cases_Bool (same k z)) [
            | inl t ↦
                let none = out_of z ks (above k z ks up.0 t) in
                let is : k ≡ z = (decides k z).0 t in
                subst (λ (q : K). of z (cons_option (g k) (filter_map g ks)) ≡ g q) is
                (elim (g k) as (λ r. IfSome r (λ x. key x ≡ k) → of z (cons_option r (filter_map g ks)) ≡ r) [
                  | None ↦ λ i. none
                  | Some x ↦ λ i. let w : same (key x) z ≡ true = rw i t in rw w refl
                ] (own k))
            | inr u ↦
                let e' : has z ks ≡ true = rw u at e in
                elim (g k) as (λ r. IfSome r (λ x. key x ≡ k) → of z (cons_option r (filter_map g ks)) ≡ g z) [
                  | None ↦ λ i. in_of z ks up.1 e'
                  | Some x ↦ λ i. let w : same (key x) z ≡ false = rw i u in rw w (in_of z ks up.1 e')
                ] (own k)
          ]

      -- it rises as the keys do
      all_kept : (P : K → Type 0) (ks : List K) → AllByRecursion P ks → AllByRecursion P (map key (filter_map g ks))
      all_kept P [] a = tt
      all_kept P (k ∷ ks) a =
          elim (g k) as (λ r. IfSome r (λ x. key x ≡ k)
          → AllByRecursion P (map key (cons_option r (filter_map g ks)))) [
            | None ↦ λ i. all_kept P ks a.1
            | Some x ↦ λ i. (subst P (sym i) a.0, all_kept P ks a.1)
          ] (own k)

      pub kept_rises : (ks : List K) → IsStrictlySortedBy R ks → IsStrictlySortedBy R (map key (filter_map g ks))
      unfolding IsStrictlySortedBy
      kept_rises [] up = tt
      kept_rises (k ∷ ks) up =
          elim (g k) as (λ r. IfSome r (λ x. key x ≡ k)
          → IsStrictlySortedBy R (map key (cons_option r (filter_map g ks)))) [
            | None ↦ λ i. kept_rises ks up.1
            | Some x ↦ λ i. (
              subst (λ (q : K). AllByRecursion (λ y. R q y ≡ Less) (map key (filter_map g ks))) (sym i)
                  (all_kept (λ y. R k y ≡ Less) ks up.0),
              kept_rises ks up.1,
            )
          ] (own k)

      -- at each key by itself
      pub each_of : (z : K) (ks : List K) → IsStrictlySortedBy R ks → (has z ks ≡ false → g z ≡ None)
          → of z (filter_map g ks) ≡ g z
      each_of z ks up none =
          elim (cases_Bool (has z ks)) [
            | inl t ↦ in_of z ks up t
            | inr f ↦ out_of z ks f ∙ sym (none f)
          ]
