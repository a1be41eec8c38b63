-- The last entry up to a key, among entries and among chunks.
use Rattle.std.proofs.Common.{◌≡◌, ℕ, zero, suc, ◌+◌, ◌<◌, ◌≤◌, Bool, true, false, List, [], ◌∷◌, ◌++◌, length, get_or}
use Rattle.std.proofs.Common.{Option, Some, None, refl, sym, ◌∙◌, ap, arith, inl, inr}
use Rattle.std.specs.Prelude.{T, not, filter}
use Rattle.std.specs.List.{last_or}
use Rattle.std.specs.Ordering.{is_lt, is_gt}
use Rattle.std.specs.Cmp.{IsTotalOrder}
use Rattle.std.specs.FinMap.{is_sorted}
use Rattle.std.specs.FinMap.Entries.{below_all}
use Rattle.std.specs.List.Sorted.{IsPartitionedBy}
use Rattle.std.specs.declared.cmp.Ordering.{Ordering}
use Rattle.std.specs.declared.cmp.Ordering.TheVariants.{Less, Equal, Greater}
use Rattle.std.proofs.lemmas.Bool.{false≢true, cases_Bool}
use Rattle.std.proofs.lemmas.Cmp.{alike_right}
use Rattle.std.proofs.lemmas.List.Elements.{filter-append}
use Rattle.dz_chunks.specs.Map.{is_upto, last_upto}
use Rattle.dz_chunks.specs.Chunked.{flat, AreChunks}
use Rattle.dz_chunks.specs.inner.Chunked.{begins_upto, IsUptoAt, IsBehindAt, IsChunked}
use Rattle.dz_chunks.proofs.EntryLemmas.{less_of, first_of_both, second_of_both, true_of, below_at}

last_append : {A : Type 0} (o : Option A) (xs ys : List A) → last_or o (xs ++ ys) ≡ last_or (last_or o xs) ys
last_append o [] ys = refl
last_append o (x ∷ xs) ys = last_append (Some x) xs ys

module _ {A : Type 0} (p : A → Bool) where
  pub none_passes : (xs : List A) (o : Option A)
      → ((j : ℕ) (d : A) → 0 ≤ j → j < length xs → p (get_or xs j d) ≡ false) → last_or o (filter p xs) ≡ o
  none_passes [] o h = refl
  none_passes (x ∷ xs) o h =
      rw (h 0 x (omega arith) (omega arith)) (none_passes xs o (λ j d low lt. h (suc j) d (omega arith) (omega arith)))

  -- the one in front of the point where a search ends
  pub last_at : (xs : List A) (n : ℕ) (d : A) (o : Option A) → n < length xs → p (get_or xs n d) ≡ true
      → ((j : ℕ) (e : A) → n < j → j < length xs → p (get_or xs j e) ≡ false)
      → Some (get_or xs n d) ≡ last_or o (filter p xs)
  last_at [] n d o lt t h = absurd (omega arith)
  last_at (x ∷ xs) zero d o lt t h =
      rw t (sym (none_passes xs (Some x) (λ j e low l. h (suc j) e (omega arith) (omega arith))))
  last_at (x ∷ xs) (suc n) d o lt t h = elim (cases_Bool (p x)) [
    | inl y ↦ rw y (last_at xs n d (Some x) (omega arith) t (λ j e low l. h (suc j) e (omega arith) (omega arith)))
    | inr f ↦ rw f (last_at xs n d o (omega arith) t (λ j e low l. h (suc j) e (omega arith) (omega arith)))
  ]

module _ {K : Type 0} (R : K → K → Ordering) (o : IsTotalOrder R) where
  upto_before : (x y k : K) → R x y ≡ Less → not (is_gt (R y k)) ≡ true → not (is_gt (R x k)) ≡ true
  upto_before x y k lt h = go (R y k) refl h
    where
      go : (r : Ordering) → R y k ≡ r → not (is_gt r) ≡ true → not (is_gt (R x k)) ≡ true
      go Less e h = rw (o.trans x y k lt e) refl
      go Equal e h = rw (sym (alike_right o y k x e) ∙ lt) refl
      go Greater e h = absurd (false≢true h)

module _ {K X : Type 0} (R : K → K → Ordering) where
  pub none_of : (k : K) (es : List (K × X)) → length es ≡ 0 → None ≡ last_upto R k es
  none_of k [] e = refl
  none_of k (x ∷ es) e = absurd (omega (arith, e))

  last_any : (k : K) (c : List (K × X)) (a b : Option (K × X)) → begins_upto R k c ≡ true
      → last_or a (filter (is_upto R k) c) ≡ last_or b (filter (is_upto R k) c)
  last_any k [] a b h = absurd (false≢true h)
  last_any k (x ∷ c) a b h = rw h refl

  below_back : (x : K) (xs ys : List (K × X)) → T (below_all R x (xs ++ ys)) → T (below_all R x ys)
  below_back x [] ys b = b
  below_back x (y ∷ xs) ys b = below_back x xs ys (second_of_both (is_lt (R x y.0)) _ b)

  sorted_back : (xs ys : List (K × X)) → T (is_sorted R (xs ++ ys)) → T (is_sorted R ys)
  sorted_back [] ys s = s
  sorted_back (x ∷ xs) ys s = sorted_back xs ys (second_of_both (below_all R x.0 (xs ++ ys)) _ s)

module _ {K X : Type 0} (R : K → K → Ordering) (o : IsTotalOrder R) where
  pub upto_partitioned : (k : K) (xs : List (K × X)) → T (is_sorted R xs) → IsPartitionedBy (is_upto R k) xs
  upto_partitioned k [] s i j d le lt h = absurd (omega arith)
  upto_partitioned k (x ∷ xs) s zero zero d le lt h = h
  upto_partitioned k (x ∷ xs) s (suc i) zero d le lt h = absurd (omega arith)
  upto_partitioned k (x ∷ xs) s zero (suc j) d le lt h =
      upto_before R o x.0 (get_or xs j d).0 k
      (below_at R o x.0 xs (first_of_both _ (is_sorted R xs) s) j d (omega arith)) h
  upto_partitioned k (x ∷ xs) s (suc i) (suc j) d le lt h =
      upto_partitioned k xs (second_of_both (below_all R x.0 xs) _ s) i j d (omega arith) (omega arith) h

  -- where an entry is after the key, all that come later are
  later_behind : (k : K) (es : List (K × X)) (i j : ℕ) (d : K × X) → T (is_sorted R es) → IsBehindAt R k es i → i ≤ j
      → j < length es → is_upto R k (get_or es j d) ≡ false
  later_behind k es i j d s b le lt = elim (cases_Bool (is_upto R k (get_or es j d))) [
    | inl t ↦ absurd (false≢true (sym (b d) ∙ upto_partitioned k es s i j d le lt t))
    | inr f ↦ f
  ]

  -- where the first entry is after the key, none is up to it
  pub none_behind : (k : K) (es : List (K × X)) (d : K × X) → T (is_sorted R es) → is_upto R k (get_or es 0 d) ≡ false
      → None ≡ last_upto R k es
  none_behind k [] d s b = refl
  none_behind k (x ∷ es) d s b =
      sym (none_passes (is_upto R k) (x ∷ es) None (λ j e low lt. later_behind k (x ∷ es) 0 j e s (λ e'. b) low lt))

  -- an entry up to the key is the last where the next one is after it
  pub found_last : (k : K) (es : List (K × X)) (n : ℕ) (d : K × X) → T (is_sorted R es) → n < length es
      → IsUptoAt R k es n → (n + 1 < length es → IsBehindAt R k es (n + 1)) → Some (get_or es n d) ≡ last_upto R k es
  found_last k es n d s lt u b = last_at (is_upto R k) es n d None lt (u d)
      (λ j e low l. later_behind k es (n + 1) j e s (b (omega arith)) (omega arith) l)

  none_below : (x k : K) (es : List (K × X)) (a : Option (K × X)) → T (below_all R x es) → not (is_gt (R x k)) ≡ false
      → last_or a (filter (is_upto R k) es) ≡ a
  none_below x k [] a b h = refl
  none_below x k (y ∷ es) a b h = elim (cases_Bool (is_upto R k y)) [
    | inl t ↦ absurd (false≢true
        (sym h ∙ upto_before R o x y.0 k (less_of (R x y.0) (true_of _ (first_of_both _ (below_all R x es) b))) t))
    | inr f ↦ rw f (none_below x k es a (second_of_both (is_lt (R x y.0)) _ b) h)
  ]

  later_first : (x k : K) (cs : List (List (K × X))) (j : ℕ) (d : List (K × X)) → T (below_all R x (flat cs))
      → j < length cs → begins_upto R k (get_or cs j d) ≡ true → not (is_gt (R x k)) ≡ true
  later_first x k [] j d b lt h = absurd (omega arith)
  later_first x k ([] ∷ cs) zero d b lt h = absurd (false≢true h)
  later_first x k ((y ∷ c) ∷ cs) zero d b lt h =
      upto_before R o x y.0 k (less_of (R x y.0) (true_of _ (first_of_both _ (below_all R x (c ++ flat cs)) b))) h
  later_first x k (c ∷ cs) (suc j) d b lt h = later_first x k cs j d (below_back R x c (flat cs) b) (omega arith) h

  begins_partitioned : (k : K) (cs : List (List (K × X))) → T (is_sorted R (flat cs)) → AreChunks cs
      → IsPartitionedBy (begins_upto R k) cs
  begins_partitioned k [] s z i j d le lt h = absurd (omega arith)
  begins_partitioned k (c ∷ cs) s z zero zero d le lt h = h
  begins_partitioned k (c ∷ cs) s z (suc i) zero d le lt h = absurd (omega arith)
  begins_partitioned k ([] ∷ cs) s z zero (suc j) d le lt h = absurd (omega (arith, z.0))
  begins_partitioned k ((x ∷ c) ∷ cs) s z zero (suc j) d le lt h =
      later_first x.0 k cs j d (below_back R x.0 c (flat cs) (first_of_both _ (is_sorted R (c ++ flat cs)) s))
      (omega arith) h
  begins_partitioned k (c ∷ cs) s z (suc i) (suc j) d le lt h =
      begins_partitioned k cs (sorted_back R c (flat cs) s) z.3 i j d (omega arith) (omega arith) h

  -- where the first chunk begins after the key, no entry is up to it
  none_begins : (k : K) (cs : List (List (K × X))) (a : Option (K × X)) → T (is_sorted R (flat cs)) → AreChunks cs
      → ((j : ℕ) (d : List (K × X)) → 0 ≤ j → j < length cs → begins_upto R k (get_or cs j d) ≡ false)
      → last_or a (filter (is_upto R k) (flat cs)) ≡ a
  none_begins k [] a s z h = refl
  none_begins k ([] ∷ cs) a s z h = absurd (omega (arith, z.0))
  none_begins k ((x ∷ c) ∷ cs) a s z h =
      let f = h 0 (x ∷ c) (omega arith) (omega arith) in
      rw f (none_below x.0 k (c ++ flat cs) a (first_of_both _ (is_sorted R (c ++ flat cs)) s) f)

  -- the last chunk that begins up to the key has the last entry up to it
  last_chunk : (k : K) (cs : List (List (K × X))) (n : ℕ) (d : List (K × X)) (a : Option (K × X))
      → T (is_sorted R (flat cs)) → AreChunks cs → n < length cs → begins_upto R k (get_or cs n d) ≡ true
      → ((j : ℕ) (e : List (K × X)) → n < j → j < length cs → begins_upto R k (get_or cs j e) ≡ false)
      → last_upto R k (get_or cs n d) ≡ last_or a (filter (is_upto R k) (flat cs))
  last_chunk k [] n d a s z lt t h = absurd (omega arith)
  last_chunk k (c ∷ cs) zero d a s z lt t h =
      last_any R k c None a t
      ∙ (sym (none_begins k cs (last_or a (filter (is_upto R k) c)) (sorted_back R c (flat cs) s) z.3
      (λ j e low l. h (suc j) e (omega arith) (omega arith)))
      ∙ (sym (last_append a (filter (is_upto R k) c) (filter (is_upto R k) (flat cs)))
      ∙ ap (last_or a) (sym (filter-append (is_upto R k) c (flat cs)))))
  last_chunk k (c ∷ cs) (suc n) d a s z lt t h =
      last_chunk k cs n d (last_or a (filter (is_upto R k) c)) (sorted_back R c (flat cs) s) z.3 (omega arith) t
      (λ j e low l. h (suc j) e (omega arith) (omega arith))
      ∙ (sym (last_append a (filter (is_upto R k) c) (filter (is_upto R k) (flat cs)))
      ∙ ap (last_or a) (sym (filter-append (is_upto R k) c (flat cs))))

  -- where the first key of a list doesn't come after the key
  pub upto_first : (k : K) (es : List (K × X)) → begins_upto R k es ≡ true → IsUptoAt R k es 0
  upto_first k [] h = absurd (false≢true h)
  upto_first k (x ∷ es) h = λ d. h

  pub some_upto : (k : K) (es : List (K × X)) → begins_upto R k es ≡ true → 0 < length es
  some_upto k [] h = absurd (false≢true h)
  some_upto k (x ∷ es) h = omega arith

  -- .. of the chunks of a map
  module _ (k : K) where
    pub seen_begins : (cs : List (List (K × X))) → IsChunked R cs → IsPartitionedBy (begins_upto R k) cs
    seen_begins cs is = begins_partitioned k cs is.sorted is.sized

    pub seen_none : (cs : List (List (K × X))) → IsChunked R cs
        → ((j : ℕ) (d : List (K × X)) → 0 ≤ j → j < length cs → begins_upto R k (get_or cs j d) ≡ false)
        → None ≡ last_upto R k (flat cs)
    seen_none cs is h = sym (none_begins k cs None is.sorted is.sized h)

    pub seen_last : (cs : List (List (K × X))) (n : ℕ) (d : List (K × X)) → IsChunked R cs → n < length cs
        → begins_upto R k (get_or cs n d) ≡ true
        → ((j : ℕ) (e : List (K × X)) → n + 1 ≤ j → j < length cs → begins_upto R k (get_or cs j e) ≡ false)
        → last_upto R k (get_or cs n d) ≡ last_upto R k (flat cs)
    seen_last cs n d is lt t h = last_chunk k cs n d None is.sorted is.sized lt t (λ j e low l. h j e (omega arith) l)
