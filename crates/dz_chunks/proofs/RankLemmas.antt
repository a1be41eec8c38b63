-- Where the chunks of a map end, which entry is at a place, and at which place a key is.
use Rattle.std.proofs.Common.{◌≡◌, ℕ, zero, suc, ◌+◌, ◌-◌, ◌<◌, ◌≤◌, true, false, List, [], ◌∷◌, ◌++◌, length, take}
use Rattle.std.proofs.Common.{drop, get_or, Option, Some, None, length-append, refl, sym, ◌∙◌, ap, arith, inl, inr}
use Rattle.std.specs.Prelude.{T, slice_get, nat_le}
use Rattle.std.specs.Option.{option_map, SomeIff}
use Rattle.std.specs.Ordering.{eq_by_cmp}
use Rattle.std.specs.Cmp.{IsTotalOrder}
use Rattle.std.specs.FinMap.{is_sorted}
use Rattle.std.specs.FinMap.Entries.{below_all}
use Rattle.std.specs.List.{position_from}
use Rattle.std.specs.List.Sorted.{IsNonDecreasing, IsPartitionedBy, IsPartitionPoint}
use Rattle.std.specs.declared.cmp.Ordering.{Ordering}
use Rattle.std.proofs.lemmas.Bool.{cases_Bool, false≢true}
use Rattle.std.proofs.lemmas.Bool.Decides.{nat_tests}
use Rattle.std.proofs.lemmas.Iterator.Adapters.{position_from-zero}
use Rattle.std.proofs.lemmas.List.{append-nil, take_all}
use Rattle.std.proofs.lemmas.List.Quantifiers.{position-Some}
use Rattle.std.proofs.lemmas.Option.{none-some, slice_get_past, slice_get_read, slice_get-get_or, get_or_from_slice_get}
use Rattle.dz_chunks.specs.Map.{place_in}
use Rattle.dz_chunks.specs.Chunked.{flat}
use Rattle.dz_chunks.specs.inner.Chunked.{AllBefore, AllBehind, NotBefore, begins_at}
use Rattle.dz_chunks.specs.inner.Ranked.{ends_after}
use Rattle.dz_chunks.proofs.ChunkLemmas.{flat_at}
use Rattle.dz_chunks.proofs.JoinLemmas.{taken_length}
use Rattle.dz_chunks.proofs.EntryLemmas.{equal_of, less_left, behind_of_below, first_of_both, second_of_both}

-- the sum, where it is one
pub summed : (o : Option ℕ) (P : Type 0) (v e : ℕ) → SomeIff o P v → o ≡ Some e → e ≡ v
summed o P v e h is = (rw is at h).1

le_true : (a b : ℕ) → a ≤ b → nat_le a b ≡ true
le_true a b le = grind (arith, nat_tests)

of_le_true : (a b : ℕ) → nat_le a b ≡ true → a ≤ b
of_le_true a b h = grind (arith, nat_tests)

of_le_false : (a b : ℕ) → nat_le a b ≡ false → b < a
of_le_false a b h = grind (arith, nat_tests)

pub pair_is : {A B : Type 0} (a : A) (b : B) (p : A × B) → a ≡ p.0 → b ≡ p.1 → ◌≡◌ {A = A × B} (a, b) p
pair_is a b p h k i = (h i, k i)

-- numbers that grow are parted by any place
pub grown_parted : (ns : List ℕ) (place : ℕ) → IsNonDecreasing ns → IsPartitionedBy (λ n. nat_le n place) ns
grown_parted ns place grow i j d le lt h = le_true _ _ (omega (arith, grow i j d le lt, of_le_true _ _ h))

pub point_of : (ns : List ℕ) (place i : ℕ)
    → IsPartitionPoint (λ n. nat_le n place ≡ true) (λ n. nat_le n place ≡ false) ns i
    → IsPartitionPoint (λ n. n ≤ place) (λ n. place < n) ns i
point_of ns place i h =
    (λ j d low lt. of_le_true _ _ (h.0 j d low lt), λ j d low lt. of_le_false _ _ (h.1 j d low lt))

module _ {A : Type 0} where
  -- one more chunk ends where the others and it do
  ends_more : (cs : List (List A)) (i before : ℕ) (d : List A) → i < length cs
      → ends_after before (take (i + 1) cs)
      ≡ ends_after before (take i cs) ++ (before + length (flat (take i cs)) + length (get_or cs i d)) ∷ []
  ends_more [] i before d lt = absurd (omega arith)
  ends_more (c ∷ cs) zero before d lt = ap (λ n. n ∷ []) (omega arith)
  ends_more (c ∷ cs) (suc i) before d lt =
      let e : suc i + 1 ≡ suc (i + 1) = omega arith in
      let n : before + length c + length (flat (take i cs)) + length (get_or cs i d)
      ≡ before + length (c ++ flat (take i cs)) + length (get_or cs i d) =
      omega (arith, length-append c (flat (take i cs))) in
      rw e (ap (λ ns. (before + length c) ∷ ns) (ends_more cs i (before + length c) d (omega (arith, lt))
      ∙ ap (λ m. ends_after (before + length c) (take i cs) ++ m ∷ []) n))

  pub ends_pushed : (cs : List (List A)) (i : ℕ) (d : List A) (old new : List ℕ) (end : ℕ) → i < length cs
      → old ≡ ends_after 0 (take i cs) → end ≡ length (flat (take i cs)) + length (get_or cs i d)
      → new ≡ old ++ end ∷ [] → new ≡ ends_after 0 (take (i + 1) cs)
  ends_pushed cs i d old new end lt o e n =
      let s : end ≡ 0 + length (flat (take i cs)) + length (get_or cs i d) = omega (arith, e) in
      n ∙ (ap (λ ns. ns ++ end ∷ []) o ∙ (ap (λ m. ends_after 0 (take i cs) ++ m ∷ []) s ∙ sym (ends_more cs i 0 d lt)))

  pub ends_count : (cs : List (List A)) (before : ℕ) → length (ends_after before cs) ≡ length cs
  ends_count [] before = refl
  ends_count (c ∷ cs) before = ap suc (ends_count cs (before + length c))

  -- the end of a chunk is the length of what comes before it, and its own
  pub end_at : (cs : List (List A)) (i before : ℕ) (d : List A) (e : ℕ) → i < length cs
      → get_or (ends_after before cs) i e ≡ before + length (flat (take i cs)) + length (get_or cs i d)
  end_at [] i before d e lt = absurd (omega arith)
  end_at (c ∷ cs) zero before d e lt = omega arith
  end_at (c ∷ cs) (suc i) before d e lt =
      end_at cs i (before + length c) d e (omega (arith, lt)) ∙ omega (arith, length-append c (flat (take i cs)))

  ends_low : (cs : List (List A)) (before j e : ℕ) → j < length cs → before ≤ get_or (ends_after before cs) j e
  ends_low [] before j e lt = absurd (omega arith)
  ends_low (c ∷ cs) before zero e lt = omega arith
  ends_low (c ∷ cs) before (suc j) e lt = omega (arith, ends_low cs (before + length c) j e (omega (arith, lt)))

  ends_rise : (cs : List (List A)) (before i j e : ℕ) → i ≤ j → j < length cs
      → get_or (ends_after before cs) i e ≤ get_or (ends_after before cs) j e
  ends_rise [] before i j e le lt = absurd (omega arith)
  ends_rise (c ∷ cs) before zero zero e le lt = omega arith
  ends_rise (c ∷ cs) before (suc i) zero e le lt = absurd (omega arith)
  ends_rise (c ∷ cs) before zero (suc j) e le lt = ends_low cs (before + length c) j e (omega (arith, lt))
  ends_rise (c ∷ cs) before (suc i) (suc j) e le lt =
      ends_rise cs (before + length c) i j e (omega (arith, le)) (omega (arith, lt))

  pub ends_grow : (cs : List (List A)) → IsNonDecreasing (ends_after 0 cs)
  ends_grow cs i j d le lt = ends_rise cs 0 i j d le (omega (arith, lt, ends_count cs 0))

  front_get : (xs ys : List A) (i : ℕ) → i < length xs → slice_get (xs ++ ys) i ≡ slice_get xs i
  front_get [] ys i lt = absurd (omega arith)
  front_get (x ∷ xs) ys zero lt = refl
  front_get (x ∷ xs) ys (suc i) lt = front_get xs ys i (omega (arith, lt))

  back_get : (xs ys : List A) (i : ℕ) → length xs ≤ i → slice_get (xs ++ ys) i ≡ slice_get ys (i - length xs)
  back_get [] ys i le = ap (slice_get ys) (omega arith)
  back_get (x ∷ xs) ys zero le = absurd (omega arith)
  back_get (x ∷ xs) ys (suc i) le = back_get xs ys i (omega (arith, le)) ∙ ap (slice_get ys) (omega arith)

  -- a place that chunks before the one at i don't reach: how far it is from the end of that chunk
  place_behind : (cs : List (List A)) (before place i : ℕ) (d : List A) (e : ℕ) → before ≤ place → i < length cs
      → ((j : ℕ) → j < i → get_or (ends_after before cs) j e ≤ place)
      → get_or (ends_after before cs) i e - place ≤ length (get_or cs i d)
  place_behind [] before place i d e le lt h = absurd (omega arith)
  place_behind (c ∷ cs) before place zero d e le lt h = omega (arith, le)
  place_behind (c ∷ cs) before place (suc i) d e le lt h =
      place_behind cs (before + length c) place i d e (h 0 (omega arith)) (omega (arith, lt))
      (λ j l. h (suc j) (omega (arith, l)))

  place_get : (cs : List (List A)) (before place i : ℕ) (d : List A) (e : ℕ) → before ≤ place → i < length cs
      → ((j : ℕ) → j < i → get_or (ends_after before cs) j e ≤ place) → place < get_or (ends_after before cs) i e
      → slice_get (get_or cs i d) (length (get_or cs i d) - (get_or (ends_after before cs) i e - place))
      ≡ slice_get (flat cs) (place - before)
  place_get [] before place i d e le lt h up = absurd (omega arith)
  place_get (c ∷ cs) before place zero d e le lt h up =
      let n : length c - (before + length c - place) ≡ place - before = omega (arith, le, up) in
      ap (slice_get c) n ∙ sym (front_get c (flat cs) (place - before) (omega (arith, le, up)))
  place_get (c ∷ cs) before place (suc i) d e le lt h up =
      let first : before + length c ≤ place = h 0 (omega arith) in
      let n : place - (before + length c) ≡ place - before - length c = omega (arith, first) in
      place_get cs (before + length c) place i d e first (omega (arith, lt)) (λ j l. h (suc j) (omega (arith, l))) up
      ∙ (ap (slice_get (flat cs)) n ∙ sym (back_get c (flat cs) (place - before) (omega (arith, first))))

  all_short : (cs : List (List A)) (before place e : ℕ) → before ≤ place
      → ((j : ℕ) → j < length cs → get_or (ends_after before cs) j e ≤ place)
      → before + length (flat cs) ≤ place
  all_short [] before place e le h = omega (arith, le)
  all_short (c ∷ cs) before place e le h =
      omega (
        arith,
        length-append c (flat cs),
        all_short cs (before + length c) place e (h 0 (omega arith)) (λ j l. h (suc j) (omega (arith, l))),
      )

  -- what a search among the ends says of a place
  module _ (cs : List (List A)) (place i : ℕ)
      (point : IsPartitionPoint (λ end. end ≤ place) (λ end. place < end) (ends_after 0 cs) i) where
    upto : (e j : ℕ) → j < i → get_or (ends_after 0 cs) j e ≤ place
    upto e j lt = point.0 j e (omega arith) lt

    pub end_above : (e : ℕ) → i < length cs → place < get_or (ends_after 0 cs) i e
    end_above e lt = point.1 i e (omega arith) (omega (arith, lt, ends_count cs 0))

    pub end_near : (d : List A) (e : ℕ) → i < length cs
        → get_or (ends_after 0 cs) i e - place ≤ length (get_or cs i d)
    end_near d e lt = place_behind cs 0 place i d e (omega arith) lt (upto e)

    entry_at : (d : List A) (e : ℕ) → i < length cs
        → slice_get (get_or cs i d) (length (get_or cs i d) - (get_or (ends_after 0 cs) i e - place))
        ≡ slice_get (flat cs) place
    entry_at d e lt = place_get cs 0 place i d e (omega arith) lt (upto e) (end_above e lt)
        ∙ ap (slice_get (flat cs)) (omega arith)

    pub entry_is : (d part : List A) (ends : List ℕ) (x : A) → i < length cs → part ≡ get_or cs i d
        → ends ≡ ends_after 0 cs → x ≡ get_or part (length part - (get_or ends i 0 - place)) x
        → Some x ≡ slice_get (flat cs) place
    entry_is d part ends x lt p e is =
        let at : ℕ = length (get_or cs i d) - (get_or (ends_after 0 cs) i 0 - place) in
        let read : x ≡ get_or (get_or cs i d) at x = is
        ∙ (ap (λ l. get_or l (length l - (get_or ends i 0 - place)) x) p
        ∙ ap (λ ns. get_or (get_or cs i d) (length (get_or cs i d) - (get_or ns i 0 - place)) x) e) in
        let within : at < length (get_or cs i d) = omega (arith, end_above 0 lt, end_near d 0 lt) in
        sym (slice_get_read (get_or cs i d) (length (get_or cs i d)) at x refl within read) ∙ entry_at d 0 lt

    pub none_at : length cs ≤ i → None ≡ slice_get (flat cs) place
    none_at le =
        let short = all_short cs 0 place 0 (omega arith) (λ j lt. upto 0 j (omega (arith, lt, le))) in
        sym (slice_get_past (flat cs) place (omega (arith, short)))

  -- the last end
  pub last_some : (cs : List (List A)) (end : ℕ) → Some end ≡ slice_get (ends_after 0 cs) (length (ends_after 0 cs) - 1)
      → end ≡ length (flat cs)
  last_some [] end is = absurd (none-some _ (sym is))
  last_some (c ∷ cs) end is =
      let n : length (ends_after 0 (c ∷ cs)) - 1 ≡ length cs = omega (arith, ends_count cs (0 + length c)) in
      let all : take (length cs + 1) (c ∷ cs) ≡ c ∷ cs = take_all (length cs + 1) (c ∷ cs) (omega arith) in
      sym (get_or_from_slice_get (ends_after 0 (c ∷ cs)) (length cs) end 0 (ap (slice_get (ends_after 0 (c ∷ cs))) (sym n) ∙ sym is))
      ∙ (end_at (c ∷ cs) (length cs) 0 [] 0 (omega arith) ∙ omega arith
      ∙ (sym (taken_length (c ∷ cs) (length cs) [] (omega arith)) ∙ ap (λ l. length (flat l)) all))

  pub last_none : (cs : List (List A)) → None ≡ slice_get (ends_after 0 cs) (length (ends_after 0 cs) - 1)
      → 0 ≡ length (flat cs)
  last_none [] is = refl
  last_none (c ∷ cs) is =
      let n : length (ends_after 0 (c ∷ cs)) - 1 ≡ length cs = omega (arith, ends_count cs (0 + length c)) in
      absurd (none-some _ (is ∙ (ap (slice_get (ends_after 0 (c ∷ cs))) n ∙ slice_get-get_or (ends_after 0 (c ∷ cs))
      (length cs) 0 (omega (arith, ends_count (c ∷ cs) 0)))))

module _ {K X : Type 0} (R : K → K → Ordering) where
  -- the place of a key, counted from a number on
  place_from : K → ℕ → List (K × X) → Option ℕ
  place_from k = position_from (λ e. eq_by_cmp R k e.0)

  place_is : (k : K) (es : List (K × X)) → place_in R k es ≡ place_from k 0 es
  unfolding place_from
  place_is k es = position_from-zero (λ e. eq_by_cmp R k e.0) es

  behind_none : (k : K) (i : ℕ) (xs : List (K × X)) → AllBehind R k xs → place_from k i xs ≡ None
  unfolding place_from
  behind_none k i [] b = refl
  behind_none k i (x ∷ xs) b = rw b.0 (behind_none k (i + 1) xs b.1)

  before_skipped : (k : K) (i : ℕ) (xs ys : List (K × X)) → AllBefore R k xs
      → place_from k i (xs ++ ys) ≡ place_from k (i + length xs) ys
  unfolding place_from
  before_skipped k i [] ys a = ap (λ n. place_from k n ys) (omega arith)
  before_skipped k i (x ∷ xs) ys a =
      rw a.0 (before_skipped k (i + 1) xs ys a.1 ∙ ap (λ n. place_from k n ys) (omega arith))

  behind_skipped : (k : K) (i : ℕ) (xs ys : List (K × X)) → AllBehind R k ys
      → place_from k i (xs ++ ys) ≡ place_from k i xs
  unfolding place_from
  behind_skipped k i [] ys b = behind_none k i ys b
  behind_skipped k i (x ∷ xs) ys b = elim (cases_Bool (eq_by_cmp R k x.0)) [
    | inl t ↦ rw t refl
    | inr f ↦ rw f (behind_skipped k (i + 1) xs ys b)
  ]

  shifted : (k : K) (i n : ℕ) (xs : List (K × X))
      → place_from k (i + n) xs ≡ option_map (λ m. m + n) (place_from k i xs)
  unfolding place_from
  shifted k i n [] = refl
  shifted k i n (x ∷ xs) = elim (cases_Bool (eq_by_cmp R k x.0)) [
    | inl t ↦ rw t refl
    | inr f ↦ rw f (ap (λ m. place_from k m xs) (omega arith) ∙ shifted k (i + 1) n xs)
  ]

  -- the place among all entries is that in the chunk after those before it
  place_whole : (k : K) (front c behind : List (K × X)) → AllBefore R k front → AllBehind R k behind
      → place_in R k (front ++ (c ++ behind)) ≡ option_map (λ m. m + length front) (place_in R k c)
  place_whole k front c behind a b =
      place_is k (front ++ (c ++ behind)) ∙ (before_skipped k 0 front (c ++ behind) a
      ∙ (behind_skipped k (0 + length front) c behind b ∙ (shifted k 0 (length front) c
      ∙ ap (option_map (λ m. m + length front)) (sym (place_is k c)))))

  place_past : (k : K) (xs : List (K × X)) → AllBefore R k xs → None ≡ place_in R k xs
  unfolding place_from
  place_past k xs a =
      sym (place_is k xs ∙ (ap (place_from k 0) (sym (append-nil xs)) ∙ before_skipped k 0 xs [] a))

module _ {K X : Type 0} (R : K → K → Ordering) (o : IsTotalOrder R) where
  found_from : (k : K) (i : ℕ) (xs : List (K × X)) (at : ℕ) → AllBefore R k (take at xs)
      → begins_at R k (drop at xs) ≡ true → Some (i + at) ≡ place_from R k i xs
  unfolding place_from
  found_from k i [] zero before here = absurd (false≢true here)
  found_from k i [] (suc at) before here = absurd (false≢true here)
  found_from k i (x ∷ xs) zero before here = rw (equal_of (R k x.0) here) (ap Some (omega arith))
  found_from k i (x ∷ xs) (suc at) before here =
      rw before.0 (ap Some (omega arith) ∙ found_from k (i + 1) xs at before.1 here)

  missing_from : (k : K) (i : ℕ) (xs : List (K × X)) (at : ℕ) → T (is_sorted R xs) → AllBefore R k (take at xs)
      → NotBefore R k (drop at xs) → begins_at R k (drop at xs) ≡ false → None ≡ place_from R k i xs
  unfolding place_from
  missing_from k i [] zero s before next other = refl
  missing_from k i [] (suc at) s before next other = refl
  missing_from k i (x ∷ xs) zero s before next other =
      rw (less_left (R k x.0) next other)
      (sym (behind_none R k (i + 1) xs (behind_of_below R o k x.0 xs next (first_of_both _ (is_sorted R xs) s))))
  missing_from k i (x ∷ xs) (suc at) s before next other =
      rw before.0 (missing_from k (i + 1) xs at (second_of_both (below_all R x.0 xs) _ s) before.1 next other)

  pub place_within : (k : K) (xs : List (K × X)) (at : ℕ) → Some at ≡ place_in R k xs → at < length xs
  place_within k [] at is = absurd (none-some _ (sym is))
  place_within k (x ∷ xs) at is = (position-Some (λ e. eq_by_cmp R k e.0) (x ∷ xs) at x (sym is)).0

  -- where a search among entries ends
  module _ (k : K) (xs : List (K × X)) (at : ℕ) (before : AllBefore R k (take at xs)) where
    pub place_found : begins_at R k (drop at xs) ≡ true → Some at ≡ place_in R k xs
    place_found here = ap Some (omega arith) ∙ found_from k 0 xs at before here ∙ sym (place_is R k xs)

    pub place_missing : T (is_sorted R xs) → NotBefore R k (drop at xs) → begins_at R k (drop at xs) ≡ false
        → None ≡ place_in R k xs
    place_missing s next other = missing_from k 0 xs at s before next other ∙ sym (place_is R k xs)

  -- .. and among chunks
  module _ (k : K) (cs : List (List (K × X))) (i : ℕ) (before : AllBefore R k (flat (take i cs))) where
    pub chunk_past : length cs ≤ i → None ≡ place_in R k (flat cs)
    chunk_past le = let b : AllBefore R k (flat cs) = rw (take_all i cs le) at before in place_past R k (flat cs) b

    place_through : (d : List (K × X)) → i < length cs → AllBehind R k (flat (drop (i + 1) cs))
        → place_in R k (flat cs) ≡ option_map (λ m. m + length (flat (take i cs))) (place_in R k (get_or cs i d))
    place_through d lt behind = ap (place_in R k) (flat_at R o cs i d lt)
        ∙ place_whole R k (flat (take i cs)) (get_or cs i d) (flat (drop (i + 1) cs)) before behind

    pub chunk_missing : (d : List (K × X)) → i < length cs → AllBehind R k (flat (drop (i + 1) cs))
        → None ≡ place_in R k (get_or cs i d) → None ≡ place_in R k (flat cs)
    chunk_missing d lt behind none =
        sym (place_through d lt behind ∙ ap (option_map (λ m. m + length (flat (take i cs)))) (sym none))

    pub chunk_found : (d : List (K × X)) (e place : ℕ) → i < length cs → AllBehind R k (flat (drop (i + 1) cs))
        → Some place ≡ place_in R k (get_or cs i d)
        → Some (get_or (ends_after 0 cs) i e - (length (get_or cs i d) - place)) ≡ place_in R k (flat cs)
    chunk_found d e place lt behind is =
        let within = place_within k (get_or cs i d) place is in
        ap Some (omega (arith, end_at cs i 0 d e lt, within))
        ∙ sym (place_through d lt behind ∙ ap (option_map (λ m. m + length (flat (take i cs)))) (sym is))
