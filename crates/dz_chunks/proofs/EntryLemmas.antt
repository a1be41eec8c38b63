-- Where a key is among entries in the order of their keys, and what a change of the entry there does.
use Rattle.std.proofs.Common.{◌≡◌, ℕ, zero, suc, ◌+◌, ◌<◌, ◌≤◌, Bool, true, false, List, [], ◌∷◌, ◌++◌, length, take}
use Rattle.std.proofs.Common.{drop, get_or, Some, None, Result, Ok, Err, IfOk, refl, sym, ◌∙◌, ap, arith}
use Rattle.std.specs.Prelude.{T, ◌&&◌}
use Rattle.std.specs.Ordering.{is_lt, is_gt, is_eq, ordering_reverse}
use Rattle.std.specs.Cmp.{IsTotalOrder}
use Rattle.std.specs.FinMap.{find, put, is_sorted}
use Rattle.std.specs.FinMap.Entries.{below_all}
use Rattle.std.specs.List.Sorted.{IsPartitionedBy}
use Rattle.std.specs.declared.cmp.Ordering.{Ordering}
use Rattle.std.specs.declared.cmp.Ordering.TheVariants.{Less, Equal, Greater}
use Rattle.std.proofs.lemmas.Bool.{false≢true}
use Rattle.dz_chunks.specs.Map.{without_key}
use Rattle.dz_chunks.specs.inner.Chunked.{AllBefore, AllBehind, NotBefore, begins_at}

pub less_of : (o : Ordering) → is_lt o ≡ true → o ≡ Less
less_of Less h = refl
less_of Equal h = absurd (false≢true h)
less_of Greater h = absurd (false≢true h)

pub equal_of : (o : Ordering) → is_eq o ≡ true → o ≡ Equal
equal_of Less h = absurd (false≢true h)
equal_of Equal h = refl
equal_of Greater h = absurd (false≢true h)

pub less_left : (o : Ordering) → is_gt o ≡ false → is_eq o ≡ false → o ≡ Less
less_left Less g e = refl
less_left Equal g e = absurd (false≢true (sym e))
less_left Greater g e = absurd (false≢true (sym g))

pub reversed_not_gt : (o : Ordering) → is_lt o ≡ false → is_gt (ordering_reverse o) ≡ false
reversed_not_gt Less h = absurd (false≢true (sym h))
reversed_not_gt Equal h = refl
reversed_not_gt Greater h = refl

pub first_of_both : (a b : Bool) → T (a && b) → T a
first_of_both true b p = tt
first_of_both false b p = p

pub second_of_both : (a b : Bool) → T (a && b) → T b
second_of_both true b p = p
second_of_both false b p = absurd p

pub both_of : (a b : Bool) → T a → T b → T (a && b)
both_of true b p q = q
both_of false b p q = p

pub true_of : (b : Bool) → T b → b ≡ true
true_of true p = refl
true_of false p = absurd p

module _ {K : Type 0} (R : K → K → Ordering) (o : IsTotalOrder R) where
  pub greater_back : (a b : K) → is_lt (R a b) ≡ true → R b a ≡ Greater
  greater_back a b h = o.antisymm b a ∙ ap ordering_reverse (less_of (R a b) h)

  less_through : (k y z : K) → is_gt (R k y) ≡ false → R y z ≡ Less → R k z ≡ Less
  less_through k y z h lt = go (R k y) refl h
    where
      go : (r : Ordering) → R k y ≡ r → is_gt r ≡ false → R k z ≡ Less
      go Less e h = o.trans k y z e lt
      go Equal e h = o.congr k y z e ∙ lt
      go Greater e h = absurd (false≢true (sym h))

module _ {K X : Type 0} (R : K → K → Ordering) where
  pub before_kept : (k : K) (xs : List (K × X)) → AllBefore R k xs → without_key R k xs ≡ xs
  before_kept k [] a = refl
  before_kept k (x ∷ xs) a = rw a.0 (ap (λ l. x ∷ l) (before_kept k xs a.1))

  pub behind_kept : (k : K) (xs : List (K × X)) → AllBehind R k xs → without_key R k xs ≡ xs
  behind_kept k [] a = refl
  behind_kept k (x ∷ xs) a = rw a.0 (ap (λ l. x ∷ l) (behind_kept k xs a.1))

module _ {K X : Type 0} (R : K → K → Ordering) (o : IsTotalOrder R) where
  -- from what a binary search says
  pub before_from : (k : K) (xs : List (K × X)) (i : ℕ) → i ≤ length xs
      → ((j : ℕ) (d : K × X) → 0 ≤ j → j < i → is_lt (R (get_or xs j d).0 k) ≡ true) → AllBefore R k (take i xs)
  before_from k xs zero within h = tt
  before_from k [] (suc i) within h = tt
  before_from k (x ∷ xs) (suc i) within h = (
    greater_back R o x.0 k (h 0 x (omega arith) (omega arith)),
    before_from k xs i (omega arith) (λ j d low lt. h (suc j) d (omega arith) (omega arith)),
  )

  pub here_from : (k : K) (xs : List (K × X)) (i : ℕ)
      → ((j : ℕ) (d : K × X) → i ≤ j → j < length xs → is_lt (R (get_or xs j d).0 k) ≡ false)
      → NotBefore R k (drop i xs)
  here_from k [] zero h = tt
  here_from k [] (suc i) h = tt
  here_from k (x ∷ xs) zero h =
      ap is_gt (o.antisymm k x.0) ∙ reversed_not_gt (R x.0 k) (h 0 x (omega arith) (omega arith))
  here_from k (x ∷ xs) (suc i) h = here_from k xs i (λ j d low lt. h (suc j) d (omega arith) (omega arith))

  pub below_at : (y : K) (xs : List (K × X)) → T (below_all R y xs) → (j : ℕ) (d : K × X) → j < length xs
      → R y (get_or xs j d).0 ≡ Less
  below_at y [] b j d lt = absurd (omega arith)
  below_at y (x ∷ xs) b zero d lt = less_of (R y x.0) (true_of _ (first_of_both _ (below_all R y xs) b))
  below_at y (x ∷ xs) b (suc j) d lt = below_at y xs (second_of_both (is_lt (R y x.0)) _ b) j d (omega arith)

  pub entries_partitioned : (k : K) (xs : List (K × X)) → T (is_sorted R xs)
      → IsPartitionedBy (λ e. is_lt (R e.0 k)) xs
  entries_partitioned k [] s i j d le lt h = absurd (omega arith)
  entries_partitioned k (x ∷ xs) s zero zero d le lt h = h
  entries_partitioned k (x ∷ xs) s (suc i) zero d le lt h = absurd (omega arith)
  entries_partitioned k (x ∷ xs) s zero (suc j) d le lt h =
      ap is_lt (o.trans x.0 (get_or xs j d).0 k
      (below_at x.0 xs (first_of_both _ (is_sorted R xs) s) j d (omega arith)) (less_of (R (get_or xs j d).0 k) h))
  entries_partitioned k (x ∷ xs) s (suc i) (suc j) d le lt h =
      entries_partitioned k xs (second_of_both (below_all R x.0 xs) _ s) i j d (omega arith) (omega arith) h

  -- an entry replaced, inserted, removed and found at the place of its key
  pub replaced_is : ((a b : K) → R a b ≡ Equal → a ≡ b) → (k : K) (v : X) (xs : List (K × X)) (at : ℕ)
      → AllBefore R k (take at xs) → begins_at R k (drop at xs) ≡ true
      → take at xs ++ (k, v) ∷ drop (at + 1) xs ≡ put R k v xs
  replaced_is one k v [] zero before here = absurd (false≢true here)
  replaced_is one k v [] (suc i) before here = absurd (false≢true here)
  replaced_is one k v (x ∷ xs) zero before here =
      let tied = equal_of (R k x.0) here in
      rw tied (ap (λ key. (key, v) ∷ xs) (one k x.0 tied))
  replaced_is one k v (x ∷ xs) (suc i) before here =
      let e : suc i + 1 ≡ suc (i + 1) = omega arith in
      rw (e, before.0) (ap (λ l. x ∷ l) (replaced_is one k v xs i before.1 here))

  pub inserted_is : (k : K) (v : X) (xs : List (K × X)) (at : ℕ) → AllBefore R k (take at xs)
      → NotBefore R k (drop at xs) → begins_at R k (drop at xs) ≡ false
      → take at xs ++ (k, v) ∷ drop at xs ≡ put R k v xs
  inserted_is k v [] zero before next other = refl
  inserted_is k v [] (suc i) before next other = refl
  inserted_is k v (x ∷ xs) zero before next other = rw (less_left (R k x.0) next other) refl
  inserted_is k v (x ∷ xs) (suc i) before next other =
      rw before.0 (ap (λ l. x ∷ l) (inserted_is k v xs i before.1 next other))

  pub found_is : (k : K) (xs : List (K × X)) (at : ℕ) (d : K × X) → AllBefore R k (take at xs)
      → begins_at R k (drop at xs) ≡ true → Some (get_or xs at d).1 ≡ find R k xs
  found_is k [] zero d before here = absurd (false≢true here)
  found_is k [] (suc i) d before here = absurd (false≢true here)
  found_is k (x ∷ xs) zero d before here = rw (equal_of (R k x.0) here) refl
  found_is k (x ∷ xs) (suc i) d before here = rw before.0 (found_is k xs i d before.1 here)

  -- what comes after an entry that isn't before the key
  pub behind_of_below : (k y : K) (xs : List (K × X)) → is_gt (R k y) ≡ false → T (below_all R y xs) → AllBehind R k xs
  behind_of_below k y [] h b = tt
  behind_of_below k y (x ∷ xs) h b = (
    less_through R o k y x.0 h (less_of (R y x.0) (true_of _ (first_of_both _ (below_all R y xs) b))),
    behind_of_below k y xs h (second_of_both (is_lt (R y x.0)) _ b),
  )

  pub removed_is : (k : K) (xs : List (K × X)) (at : ℕ) → T (is_sorted R xs) → AllBefore R k (take at xs)
      → begins_at R k (drop at xs) ≡ true
      → take at xs ++ drop (at + 1) xs ≡ without_key R k xs
  removed_is k [] zero s before here = absurd (false≢true here)
  removed_is k [] (suc i) s before here = absurd (false≢true here)
  removed_is k (x ∷ xs) zero s before here =
      let same = equal_of (R k x.0) here in
      rw same
      (sym (behind_kept R k xs (behind_of_below k x.0 xs (ap is_gt same) (first_of_both _ (is_sorted R xs) s))))
  removed_is k (x ∷ xs) (suc i) s before here =
      let e : suc i + 1 ≡ suc (i + 1) = omega arith in
      rw (e, before.0) (ap (λ l. x ∷ l) (removed_is k xs i (second_of_both (below_all R x.0 xs) _ s) before.1 here))

  find_behind : (k : K) (xs : List (K × X)) → AllBehind R k xs → None ≡ find R k xs
  find_behind k [] b = refl
  find_behind k (x ∷ xs) b = rw b.0 (find_behind k xs b.1)

  -- a key that isn't at its place is nowhere
  pub missing_is : (k : K) (xs : List (K × X)) (at : ℕ) → T (is_sorted R xs) → AllBefore R k (take at xs)
      → NotBefore R k (drop at xs) → begins_at R k (drop at xs) ≡ false → None ≡ find R k xs
  missing_is k [] zero s before next other = refl
  missing_is k [] (suc i) s before next other = refl
  missing_is k (x ∷ xs) zero s before next other =
      rw (less_left (R k x.0) next other)
      (find_behind k xs (behind_of_below k x.0 xs next (first_of_both _ (is_sorted R xs) s)))
  missing_is k (x ∷ xs) (suc i) s before next other =
      rw before.0 (missing_is k xs i (second_of_both (below_all R x.0 xs) _ s) before.1 next other)

  pub unchanged_is : (k : K) (xs : List (K × X)) (at : ℕ) → T (is_sorted R xs) → AllBefore R k (take at xs)
      → NotBefore R k (drop at xs) → begins_at R k (drop at xs) ≡ false → xs ≡ without_key R k xs
  unchanged_is k [] zero s before next other = refl
  unchanged_is k [] (suc i) s before next other = refl
  unchanged_is k (x ∷ xs) zero s before next other =
      rw (less_left (R k x.0) next other) (ap
      (λ l. x ∷ l) (sym (behind_kept R k xs (behind_of_below k x.0 xs next (first_of_both _ (is_sorted R xs) s)))))
  unchanged_is k (x ∷ xs) (suc i) s before next other =
      rw before.0 (ap (λ l. x ∷ l) (unchanged_is k xs i (second_of_both (below_all R x.0 xs) _ s) before.1 next other))

pub ok_into : {A E : Type 0} {B : Type 0} (f : A → B) (r : Result A E) (s t : B) → IfOk r (λ v. f v ≡ s) → s ≡ t
    → IfOk r (λ v. f v ≡ t)
ok_into f (Ok i) s t h e = h ∙ e
ok_into f (Err x) s t h e = tt

pub ok_then : {A E : Type 0} (P Q : A → Type 0) (r : Result A E) → IfOk r P → ((x : A) → P x → Q x) → IfOk r Q
ok_then P Q (Ok i) h f = f i h
ok_then P Q (Err x) h f = tt

pub ok_with : {A E : Type 0} (P Q S : A → Type 0) (r : Result A E) → IfOk r P → IfOk r Q
    → ((x : A) → P x → Q x → S x) → IfOk r S
ok_with P Q S (Ok i) h k f = f i h k
ok_with P Q S (Err x) h k f = tt
