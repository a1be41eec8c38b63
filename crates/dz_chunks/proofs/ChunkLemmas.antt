-- Which chunk a key belongs to, and that a change of that chunk is a change of the whole.
use Rattle.std.proofs.Common.{◌≡◌, ℕ, zero, suc, ◌+◌, ◌<◌, ◌≤◌, Bool, true, false, List, [], ◌∷◌, ◌++◌, length, take}
use Rattle.std.proofs.Common.{drop, get_or, None, append_assoc, refl, sym, ◌∙◌, ap, arith, inl, inr}
use Rattle.std.specs.Prelude.{T, not, cond}
use Rattle.std.specs.Option.{is_some}
use Rattle.std.specs.Ordering.{is_lt, is_gt, ordering_reverse, eq_by_cmp}
use Rattle.std.specs.Cmp.{IsTotalOrder}
use Rattle.std.specs.FinMap.{find, put, is_sorted}
use Rattle.std.specs.FinMap.Entries.{below_all, is_sorted-put, is_sorted-where_key, length_without}
use Rattle.std.specs.List.Sorted.{IsPartitionedBy}
use Rattle.std.specs.declared.cmp.Ordering.{Ordering}
use Rattle.std.specs.declared.cmp.Ordering.TheVariants.{Less, Equal, Greater}
use Rattle.std.proofs.lemmas.Bool.{false≢true, cases_Bool}
use Rattle.std.proofs.lemmas.List.{take_all}
use Rattle.std.proofs.lemmas.List.Elements.{filter-append}
use Rattle.dz_chunks.specs.Map.{without_key}
use Rattle.dz_chunks.specs.Chunked.{flat, AreChunks}
use Rattle.dz_chunks.specs.inner.Chunked.{AllBefore, AllBehind, ends_before, IsChunked}
use Rattle.dz_chunks.proofs.EntryLemmas.{less_of, reversed_not_gt, greater_back, first_of_both, second_of_both}
use Rattle.dz_chunks.proofs.EntryLemmas.{both_of, true_of, behind_of_below, before_kept, behind_kept}

pub drop_none : {A : Type 0} (n : ℕ) → drop {A = A} n [] ≡ []
drop_none zero = refl
drop_none (suc n) = refl

one_fewer : (b : Bool) (a n : ℕ) → cond b 1 0 + a ≡ n → (n ≤ a + 1) × (a ≤ n)
one_fewer true a n e = (omega arith, omega arith)
one_fewer false a n e = (omega arith, omega arith)

module _ {K X : Type 0} (R : K → K → Ordering) where
  put_step : (k : K) (v : X) (x : K × X) (c ys : List (K × X)) → put R k v c ++ ys ≡ put R k v (c ++ ys)
      → put R k v (x ∷ c) ++ ys ≡ put R k v (x ∷ (c ++ ys))
  put_step k v x c ys ih = go (R k x.0) refl
    where
      go : (r : Ordering) → R k x.0 ≡ r → put R k v (x ∷ c) ++ ys ≡ put R k v (x ∷ (c ++ ys))
      go Less e = rw e refl
      go Equal e = rw e refl
      go Greater e = rw e (ap (λ l. x ∷ l) ih)

  longer_step : (k : K) (v : X) (x : K × X) (c : List (K × X))
      → (length (put R k v c) ≤ length c + 1) × (length c ≤ length (put R k v c))
      → (length (put R k v (x ∷ c)) ≤ length (x ∷ c) + 1) × (length (x ∷ c) ≤ length (put R k v (x ∷ c)))
  longer_step k v x c ih = go (R k x.0) refl
    where
      go : (r : Ordering) → R k x.0 ≡ r
          → (length (put R k v (x ∷ c)) ≤ length (x ∷ c) + 1) × (length (x ∷ c) ≤ length (put R k v (x ∷ c)))
      go Less e = rw e (omega arith, omega arith)
      go Equal e = rw e (omega arith, omega arith)
      go Greater e = rw e (omega (arith, ih.0), omega (arith, ih.1))

  -- a value put makes a list longer by one entry at most
  pub put_longer : (k : K) (v : X) (es : List (K × X))
      → (length (put R k v es) ≤ length es + 1) × (length es ≤ length (put R k v es))
  put_longer k v [] = (omega arith, omega arith)
  put_longer k v (e ∷ es) = longer_step k v e es (put_longer k v es)

  find_step : (k : K) (x : K × X) (c ys : List (K × X)) → find R k c ≡ find R k (c ++ ys)
      → find R k (x ∷ c) ≡ find R k (x ∷ (c ++ ys))
  find_step k x c ys ih = go (R k x.0) refl
    where
      go : (r : Ordering) → R k x.0 ≡ r → find R k (x ∷ c) ≡ find R k (x ∷ (c ++ ys))
      go Less e = rw e ih
      go Equal e = rw e refl
      go Greater e = rw e ih

module _ {K X : Type 0} (R : K → K → Ordering) (o : IsTotalOrder R) where
  pub ends_in_last : (k : K) (xs : List (K × X)) (n : ℕ) (d : K × X) → length xs ≡ suc n
      → ends_before R k xs ≡ is_lt (R (get_or xs n d).0 k)
  ends_in_last k [] n d h = absurd (omega arith)
  ends_in_last k (x ∷ []) zero d h = refl
  ends_in_last k (x ∷ []) (suc n) d h = absurd (omega arith)
  ends_in_last k (x ∷ y ∷ xs) zero d h = absurd (omega arith)
  ends_in_last k (x ∷ y ∷ xs) (suc n) d h = ends_in_last k (y ∷ xs) n d (omega arith)

  behind_parts : (k : K) (xs ys : List (K × X)) → AllBehind R k (xs ++ ys) → AllBehind R k xs × AllBehind R k ys
  behind_parts k [] ys b = (tt, b)
  behind_parts k (x ∷ xs) ys b = let r = behind_parts k xs ys b.1 in ((b.0, r.0), r.1)

  sorted_back : (xs ys : List (K × X)) → T (is_sorted R (xs ++ ys)) → T (is_sorted R ys)
  sorted_back [] ys s = s
  sorted_back (x ∷ xs) ys s = sorted_back xs ys (second_of_both (below_all R x.0 (xs ++ ys)) _ s)

  below_front : (k : K) (xs ys : List (K × X)) → T (below_all R k (xs ++ ys)) → T (below_all R k xs)
  below_front k [] ys b = tt
  below_front k (x ∷ xs) ys b = both_of (is_lt (R k x.0)) _ (first_of_both _ (below_all R k (xs ++ ys)) b)
      (below_front k xs ys (second_of_both (is_lt (R k x.0)) _ b))

  sorted_front : (xs ys : List (K × X)) → T (is_sorted R (xs ++ ys)) → T (is_sorted R xs)
  sorted_front [] ys s = tt
  sorted_front (x ∷ xs) ys s =
      both_of (below_all R x.0 xs) _ (below_front x.0 xs ys (first_of_both _ (is_sorted R (xs ++ ys)) s))
      (sorted_front xs ys (second_of_both (below_all R x.0 (xs ++ ys)) _ s))

  -- a chunk that doesn't end before the key has all later ones after the key
  behind_chunk : (k : K) (c ys : List (K × X)) → T (is_sorted R (c ++ ys)) → 1 ≤ length c → ends_before R k c ≡ false
      → AllBehind R k ys
  behind_chunk k [] ys s some e = absurd (omega arith)
  behind_chunk k (x ∷ []) ys s some e =
      behind_of_below R o k x.0 ys (ap is_gt (o.antisymm k x.0) ∙ reversed_not_gt (R x.0 k) e)
      (first_of_both _ (is_sorted R ys) s)
  behind_chunk k (x ∷ y ∷ c) ys s some e =
      behind_chunk k (y ∷ c) ys (second_of_both (below_all R x.0 (y ∷ c ++ ys)) _ s) (omega arith) e

  behind_no_end : (k : K) (c : List (K × X)) → AllBehind R k c → ends_before R k c ≡ false
  behind_no_end k [] b = refl
  behind_no_end k (x ∷ []) b = rw (o.antisymm x.0 k, b.0) refl
  behind_no_end k (x ∷ y ∷ c) b = behind_no_end k (y ∷ c) b.1

  behind_each : (k : K) (cs : List (List (K × X))) (j : ℕ) (d : List (K × X)) → j < length cs → AllBehind R k (flat cs)
      → ends_before R k (get_or cs j d) ≡ false
  behind_each k [] j d lt b = absurd (omega arith)
  behind_each k (c ∷ cs) zero d lt b = behind_no_end k c (behind_parts k c (flat cs) b).0
  behind_each k (c ∷ cs) (suc j) d lt b = behind_each k cs j d (omega arith) (behind_parts k c (flat cs) b).1

  chunks_partitioned : (k : K) (cs : List (List (K × X))) → T (is_sorted R (flat cs)) → AreChunks cs
      → IsPartitionedBy (ends_before R k) cs
  chunks_partitioned k [] s z i j d le lt h = absurd (omega arith)
  chunks_partitioned k (c ∷ cs) s z zero zero d le lt h = h
  chunks_partitioned k (c ∷ cs) s z (suc i) zero d le lt h = absurd (omega arith)
  chunks_partitioned k (c ∷ cs) s z (suc i) (suc j) d le lt h =
      chunks_partitioned k cs (sorted_back c (flat cs) s) z.3 i j d (omega arith) (omega arith) h
  chunks_partitioned k (c ∷ cs) s z zero (suc j) d le lt h = elim (cases_Bool (ends_before R k c)) [
    | inl t ↦ t
    | inr f ↦ absurd (false≢true (sym (behind_each k cs j d (omega arith) (behind_chunk k c (flat cs) s z.0 f)) ∙ h))
  ]

  before_of_end : (k : K) (c : List (K × X)) → T (is_sorted R c) → ends_before R k c ≡ true → AllBefore R k c
  before_of_end k [] s e = tt
  before_of_end k (x ∷ []) s e = (greater_back R o x.0 k e, tt)
  before_of_end k (x ∷ y ∷ c) s e =
      let r : AllBefore R k (y ∷ c) = before_of_end k (y ∷ c) (second_of_both (below_all R x.0 (y ∷ c)) _ s) e in
      let b : R y.0 k ≡ Less = o.antisymm y.0 k ∙ ap ordering_reverse r.0 in
      let a : R x.0 y.0 ≡ Less = less_of (R x.0 y.0)
      (true_of _ (first_of_both _ (below_all R x.0 c) (first_of_both _ (is_sorted R (y ∷ c)) s))) in
      (greater_back R o x.0 k (ap is_lt (o.trans x.0 y.0 k a b)), r)

  before_parts : (k : K) (xs ys : List (K × X)) → AllBefore R k (xs ++ ys) → AllBefore R k xs × AllBefore R k ys
  before_parts k [] ys b = (tt, b)
  before_parts k (x ∷ xs) ys b = let r = before_parts k xs ys b.1 in ((b.0, r.0), r.1)

  before_both : (k : K) (xs ys : List (K × X)) → AllBefore R k xs → AllBefore R k ys → AllBefore R k (xs ++ ys)
  before_both k [] ys a b = b
  before_both k (x ∷ xs) ys a b = (a.0, before_both k xs ys a.1 b)

  chunks_before : (k : K) (cs : List (List (K × X))) (i : ℕ) → T (is_sorted R (flat cs)) → i ≤ length cs
      → ((j : ℕ) (d : List (K × X)) → 0 ≤ j → j < i → ends_before R k (get_or cs j d) ≡ true)
      → AllBefore R k (flat (take i cs))
  chunks_before k cs zero s within h = tt
  chunks_before k [] (suc i) s within h = tt
  chunks_before k (c ∷ cs) (suc i) s within h =
      before_both k c (flat (take i cs))
      (before_of_end k c (sorted_front c (flat cs) s) (h 0 c (omega arith) (omega arith)))
      (chunks_before k cs i (sorted_back c (flat cs) s) (omega arith)
      (λ j d low lt. h (suc j) d (omega arith) (omega arith)))

  chunks_behind : (k : K) (cs : List (List (K × X))) (i : ℕ) → T (is_sorted R (flat cs)) → AreChunks cs
      → ((j : ℕ) (d : List (K × X)) → i ≤ j → j < length cs → ends_before R k (get_or cs j d) ≡ false)
      → AllBehind R k (flat (drop (i + 1) cs))
  chunks_behind k [] i s z h = rw (drop_none {A = List (K × X)} (i + 1)) tt
  chunks_behind k (c ∷ cs) zero s z h = behind_chunk k c (flat cs) s z.0 (h 0 c (omega arith) (omega arith))
  chunks_behind k (c ∷ cs) (suc i) s z h =
      let e : suc i + 1 ≡ suc (i + 1) = omega arith in
      rw e
      (chunks_behind k cs i (sorted_back c (flat cs) s) z.3 (λ j d low lt. h (suc j) d (omega arith) (omega arith)))

  -- fewer chunks come before the key too
  pub before_fewer : (k : K) (cs : List (List (K × X))) (i j : ℕ) → j ≤ i → AllBefore R k (flat (take i cs))
      → AllBefore R k (flat (take j cs))
  before_fewer k [] i zero le a = tt
  before_fewer k [] i (suc j) le a = tt
  before_fewer k (c ∷ cs) i zero le a = tt
  before_fewer k (c ∷ cs) zero (suc j) le a = absurd (omega arith)
  before_fewer k (c ∷ cs) (suc i) (suc j) le a =
      let p = before_parts k c (flat (take i cs)) a in
      before_both k c (flat (take j cs)) p.0 (before_fewer k cs i j (omega arith) p.1)

  -- a change of one chunk is a change of the whole
  put_in : (k : K) (v : X) (front c behind : List (K × X)) → AllBefore R k front → AllBehind R k behind
      → front ++ (put R k v c ++ behind) ≡ put R k v (front ++ (c ++ behind))
  put_in k v [] [] [] a b = refl
  put_in k v [] [] (y ∷ ys) a b = rw b.0 refl
  put_in k v [] (x ∷ c) ys a b = put_step R k v x c ys (put_in k v [] c ys tt b)
  put_in k v (x ∷ front) c ys a b = rw a.0 (ap (λ l. x ∷ l) (put_in k v front c ys a.1 b))

  find_in : (k : K) (front c behind : List (K × X)) → AllBefore R k front → AllBehind R k behind
      → find R k c ≡ find R k (front ++ (c ++ behind))
  find_in k [] [] [] a b = refl
  find_in k [] [] (y ∷ ys) a b = rw b.0 (find_in k [] [] ys tt b.1)
  find_in k [] (x ∷ c) ys a b = find_step R k x c ys (find_in k [] c ys tt b)
  find_in k (x ∷ front) c ys a b = rw a.0 (find_in k front c ys a.1 b)

  without_in : (k : K) (front c behind : List (K × X)) → AllBefore R k front → AllBehind R k behind
      → front ++ (without_key R k c ++ behind) ≡ without_key R k (front ++ (c ++ behind))
  without_in k front c behind a b =
      sym (filter-append (λ e. not (eq_by_cmp R k e.0)) front (c ++ behind)
      ∙ (ap (λ l. l ++ without_key R k (c ++ behind)) (before_kept R k front a)
      ∙ ap (λ l. front ++ l) (filter-append (λ e. not (eq_by_cmp R k e.0)) c behind
      ∙ ap (λ l. without_key R k c ++ l) (behind_kept R k behind b))))

  find_before : (k : K) (xs : List (K × X)) → AllBefore R k xs → None ≡ find R k xs
  find_before k [] a = refl
  find_before k (x ∷ xs) a = rw a.0 (find_before k xs a.1)

  find_past : (k : K) (cs : List (List (K × X))) (i : ℕ) → length cs ≤ i → AllBefore R k (flat (take i cs))
      → None ≡ find R k (flat cs)
  find_past k cs i h a = let b : AllBefore R k (flat cs) = rw (take_all i cs h) at a in find_before k (flat cs) b

  sorted_at : (cs : List (List (K × X))) (i : ℕ) (d : List (K × X)) → i < length cs → T (is_sorted R (flat cs))
      → T (is_sorted R (get_or cs i d))
  sorted_at [] i d h s = absurd (omega arith)
  sorted_at (c ∷ cs) zero d h s = sorted_front c (flat cs) s
  sorted_at (c ∷ cs) (suc i) d h s = sorted_at cs i d (omega arith) (sorted_back c (flat cs) s)

  -- the chunks before a place, the one there and those after it
  pub flat_at : (cs : List (List (K × X))) (i : ℕ) (d : List (K × X)) → i < length cs
      → flat cs ≡ flat (take i cs) ++ (get_or cs i d ++ flat (drop (i + 1) cs))
  flat_at [] i d h = absurd (omega arith)
  flat_at (c ∷ cs) zero d h = refl
  flat_at (c ∷ cs) (suc i) d h =
      let e : suc i + 1 ≡ suc (i + 1) = omega arith in
      rw (e, flat_at cs i d (omega arith))
      (sym (append_assoc c (flat (take i cs)) (get_or cs i d ++ flat (drop (i + 1) cs))))

  -- .. at a place of the chunks of a map
  module _ (k : K) where
    pub seen_partitioned : (cs : List (List (K × X))) → IsChunked R cs → IsPartitionedBy (ends_before R k) cs
    seen_partitioned cs is = chunks_partitioned k cs is.sorted is.sized

    pub point_before : (cs : List (List (K × X))) (i : ℕ) → IsChunked R cs → i ≤ length cs
        → ((j : ℕ) (d : List (K × X)) → 0 ≤ j → j < i → ends_before R k (get_or cs j d) ≡ true)
        → AllBefore R k (flat (take i cs))
    point_before cs i is le h = chunks_before k cs i is.sorted le h

    pub point_behind : (cs : List (List (K × X))) (i : ℕ) → IsChunked R cs
        → ((j : ℕ) (d : List (K × X)) → i ≤ j → j < length cs → ends_before R k (get_or cs j d) ≡ false)
        → AllBehind R k (flat (drop (i + 1) cs))
    point_behind cs i is h = chunks_behind k cs i is.sorted is.sized h

    pub seen_sorted : (cs : List (List (K × X))) (i : ℕ) (d : List (K × X)) → IsChunked R cs → i < length cs
        → T (is_sorted R (get_or cs i d))
    seen_sorted cs i d is lt = sorted_at cs i d lt is.sorted

    pub seen_find : (cs : List (List (K × X))) (i : ℕ) (d : List (K × X)) → i < length cs
        → AllBefore R k (flat (take i cs)) → AllBehind R k (flat (drop (i + 1) cs))
        → find R k (get_or cs i d) ≡ find R k (flat cs)
    seen_find cs i d lt a b = find_in k (flat (take i cs)) (get_or cs i d) (flat (drop (i + 1) cs)) a b
        ∙ ap (find R k) (sym (flat_at cs i d lt))

    pub seen_past : (cs : List (List (K × X))) (i : ℕ) → length cs ≤ i → AllBefore R k (flat (take i cs))
        → None ≡ find R k (flat cs)
    seen_past cs i h a = find_past k cs i h a

    pub seen_put : (v : X) (cs new : List (List (K × X))) (i : ℕ) (d es : List (K × X)) → i < length cs
        → AllBefore R k (flat (take i cs)) → AllBehind R k (flat (drop (i + 1) cs))
        → es ≡ put R k v (get_or cs i d) → flat new ≡ flat (take i cs) ++ (es ++ flat (drop (i + 1) cs))
        → flat new ≡ put R k v (flat cs)
    seen_put v cs new i d es lt a b e n =
        n ∙ (ap (λ l. flat (take i cs) ++ (l ++ flat (drop (i + 1) cs))) e
        ∙ (put_in k v (flat (take i cs)) (get_or cs i d) (flat (drop (i + 1) cs)) a b
        ∙ ap (put R k v) (sym (flat_at cs i d lt))))

    pub seen_without : (cs new : List (List (K × X))) (i : ℕ) (d es : List (K × X)) → i < length cs
        → AllBefore R k (flat (take i cs)) → AllBehind R k (flat (drop (i + 1) cs))
        → es ≡ without_key R k (get_or cs i d) → flat new ≡ flat (take i cs) ++ (es ++ flat (drop (i + 1) cs))
        → flat new ≡ without_key R k (flat cs)
    seen_without cs new i d es lt a b e n =
        n ∙ (ap (λ l. flat (take i cs) ++ (l ++ flat (drop (i + 1) cs))) e
        ∙ (without_in k (flat (take i cs)) (get_or cs i d) (flat (drop (i + 1) cs)) a b
        ∙ ap (without_key R k) (sym (flat_at cs i d lt))))

  -- the chunks of a map that was changed
  pub chunked_put : (k : K) (v : X) (cs new : List (List (K × X))) → IsChunked R cs → AreChunks new
      → flat new ≡ put R k v (flat cs) → IsChunked R new
  chunked_put k v cs new is z e = record { sorted = rw e (is_sorted-put R o k v (flat cs) is.sorted); sized = z }

  pub chunked_without : (k : K) (cs new : List (List (K × X))) → IsChunked R cs → AreChunks new
      → flat new ≡ without_key R k (flat cs) → IsChunked R new
  chunked_without k cs new is z e = record {
    sorted =
        rw e (is_sorted-where_key R (λ other. not (eq_by_cmp R k other)) (flat cs) is.sorted);
    sized = z;
  }

  pub without_shorter : (k : K) (es : List (K × X)) → T (is_sorted R es)
      → (length es ≤ length (without_key R k es) + 1) × (length (without_key R k es) ≤ length es)
  without_shorter k es s = one_fewer (is_some (find R k es)) _ _ (length_without R o k es s)
