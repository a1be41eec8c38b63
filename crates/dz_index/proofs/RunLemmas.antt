-- A run of another index's owners after those of an index.
use Rattle.std.proofs.Common.{◌≡◌, ℕ, ◌+◌, ◌-◌, ◌<◌, ◌≤◌, true, false, List, [], ◌++◌, length, take, get_or, refl, sym}
use Rattle.std.proofs.Common.{◌∙◌, ap, arith, inl, inr, length-append}
use Rattle.std.specs.Prelude.{slice_index, slice_range, nat_lt}
use Rattle.std.specs.Ordering.{is_lt, is_le}
use Rattle.std.specs.Cmp.Lexicographic.{nat_list_cmp_total}
use Rattle.std.specs.declared.cmp.Ordering.{Ordering}
use Rattle.std.specs.declared.cmp.Ordering.TheVariants.{Less, Equal, Greater}
use Rattle.std.proofs.lemmas.Bool.{cases_lt, false≢true}
use Rattle.std.proofs.lemmas.Bool.Decides.{nat_tests}
use Rattle.std.proofs.lemmas.List.{get_or_append_left, get_or-append_right, get_or-take, length-take-le}
use Rattle.std.proofs.lemmas.List.Edits.{length-between, get_or-between}
use Rattle.std.specs.FinMap.{slice_cmp-IsAntisymmetric, nat_cmp-IsAntisymmetric}
use Rattle.dz_index.specs.SortKey.{key_of}
use Rattle.dz_index.specs.declared.index.Portion.{Portion}
use Rattle.dz_index.specs.Rows.{Rows, compared, key_at, count, total, IsIndex}
use Rattle.dz_index.specs.inner.Kept.{IsKept, last_compared}
use Rattle.dz_index.specs.inner.Portion.{IsPlaces, moved, joined, continued}
use Rattle.dz_index.proofs.AddingLemmas.{itself_le, less_back, equal_some}
use Rattle.dz_index.proofs.SearchLemmas.{ge_ge}
use Rattle.dz_index.proofs.PlacesLemmas.{AreGrowing, grown, kept_growing, kept_from, places_length, place_old}
use Rattle.dz_index.proofs.PlacesLemmas.{place_new, place_last, places_rise}

-- the rows of one index up to a number, and those of a portion of another after them
pub record IsJoined (r o q : Rows) (p : Portion) (s : ℕ) : Type 0 where
  pub keys : length q.keys ≡ s + (p.to - p.from)
  pub below : s ≤ count r
  pub key_old : (i : ℕ) → i < s → key_at q i ≡ key_at r i
  pub key_new : (i : ℕ) → p.from + i < p.to → key_at q (s + i) ≡ key_at o (p.from + i)
  pub first_old : (i : ℕ) → i ≤ s → slice_index q.firsts i ≡ slice_index r.firsts i
  pub first_new : (i : ℕ) → 0 < i → p.from + i < p.to
      → slice_index q.firsts (s + i) ≡ moved p.begin (total r) (slice_index o.firsts (p.from + i))
  pub first_last : slice_index q.firsts (s + (p.to - p.from)) ≡ total r + (p.end - p.begin)
  pub growing : AreGrowing q.firsts
  pub long : length q.firsts ≡ length q.keys + 1

-- the key of a list with a part of another after it
keys_old : (xs ys : List (List ℕ)) (from to i : ℕ) → i < length xs
    → get_or (xs ++ slice_range ys from to) i [] ≡ get_or xs i []
keys_old xs ys from to i h = get_or_append_left xs (slice_range ys from to) [] i h

keys_new : (xs ys : List (List ℕ)) (from to i j : ℕ) → j ≡ length xs + i → from + i < to
    → get_or (xs ++ slice_range ys from to) j [] ≡ get_or ys (from + i) []
keys_new xs ys from to i j is h =
    let e : j - length xs ≡ i = omega arith in
    get_or-append_right xs (slice_range ys from to) (length xs) j [] refl (omega arith)
    ∙ (ap (λ n. get_or (slice_range ys from to) n []) e ∙ get_or-between ys from to i [] h)

module _ (r o : Rows) (p : Portion) (kept : IsKept r) (theirs : IsKept o) (are : IsPlaces o.firsts p) where
  few_keys : p.to ≤ length o.keys
  few_keys = omega (arith, are.within, theirs.long)

  pub is_joined : IsJoined r o (joined r o p) p (count r)
  is_joined =
      let up : slice_index r.firsts (count r) ≤ total r = omega arith in
      let n : length (joined r o p).keys ≡ count r + (p.to - p.from) =
      length-append r.keys (slice_range o.keys p.from p.to)
      ∙ ap (λ k. count r + k) (length-between o.keys p.from p.to few_keys) in
      record {
        keys = n;
        below = omega arith;
        key_old = λ i h. keys_old r.keys o.keys p.from p.to i h;
        key_new = λ i h. keys_new r.keys o.keys p.from p.to i (count r + i) refl h;
        first_old = λ i h. place_old r.firsts o.firsts p (total r) (count r) kept.long are i h;
        first_new = λ i some h. place_new r.firsts o.firsts p (total r) (count r) kept.long are i some h;
        first_last = place_last r.firsts o.firsts p (total r) (count r) kept.long are;
        growing = places_rise r.firsts o.firsts p (total r) (count r) kept.long are (kept_growing o theirs)
            (λ i h. kept.rise i h) up;
        long = places_length r.firsts o.firsts p (total r) (count r) kept.long are ∙ ap (λ k. k + 1) (sym n);
      }

  pub joined_kept : IsKept (joined r o p)
  joined_kept =
      kept_from (joined r o p) is_joined.long (is_joined.first_old 0 (omega arith) ∙ kept.first) is_joined.growing

  pub joined_few : count r + (p.to - p.from) ≤ total r + (p.end - p.begin)
  joined_few = omega (
    arith,
    is_joined.keys,
    joined_kept.few,
    ap (slice_index (joined r o p).firsts) is_joined.keys,
    is_joined.first_last,
  )

  module _ (some : 0 < count r) where
    base_long : length (take (count r) r.firsts) ≡ count r - 1 + 1
    base_long = length-take-le (count r) r.firsts (omega (arith, kept.long)) ∙ omega arith

    base_at : (i : ℕ) → i < count r → get_or (take (count r) r.firsts) i 0 ≡ get_or r.firsts i 0
    base_at i h = get_or-take (count r) r.firsts i 0 h

    continued_key : key_at r (count r - 1) ≡ key_at o p.from → (i : ℕ) → p.from + i < p.to
        → key_at (continued r o p) (count r - 1 + i) ≡ key_at o (p.from + i)
    continued_key same i h = elim (cases_lt 0 i) [
      | inl lt ↦
          let e : p.from + 1 + (i - 1) ≡ p.from + i = omega arith in
          keys_new r.keys o.keys (p.from + 1) p.to (i - 1) (count r - 1 + i) (omega arith) (omega arith)
          ∙ ap (λ n. key_at o n) e
      | inr ge ↦
          let e : count r - 1 + i ≡ count r - 1 = omega arith in
          let f : p.from + i ≡ p.from = omega arith in
          rw (e, f) (keys_old r.keys o.keys (p.from + 1) p.to (count r - 1) (omega arith) ∙ same)
    ]

    base_up : get_or (take (count r) r.firsts) (count r - 1) 0 ≤ total r
    base_up = rw (base_at (count r - 1) (omega arith)) (kept.within (count r - 1) (omega (arith, kept.long)))

    more_keys : length (continued r o p).keys ≡ count r - 1 + (p.to - p.from)
    more_keys = length-append r.keys (slice_range o.keys (p.from + 1) p.to)
        ∙ (ap (λ k. count r + k) (length-between o.keys (p.from + 1) p.to few_keys) ∙ omega (arith, are.order))

    more_places : length (continued r o p).firsts ≡ length (continued r o p).keys + 1
    more_places = places_length (take (count r) r.firsts) o.firsts p (total r) (count r - 1) base_long are
        ∙ ap (λ k. k + 1) (sym more_keys)

    old_place : (i : ℕ) → i ≤ count r - 1 → slice_index (continued r o p).firsts i ≡ slice_index r.firsts i
    old_place i h = place_old (take (count r) r.firsts) o.firsts p (total r) (count r - 1) base_long are i h
        ∙ base_at i (omega arith)

    more_rise : AreGrowing (continued r o p).firsts
    more_rise =
        places_rise (take (count r) r.firsts) o.firsts p (total r) (count r - 1) base_long are (kept_growing o theirs)
        (λ i h. rw (base_at i (omega arith), base_at (i + 1) (omega arith)) (kept.rise i (omega arith))) base_up

    more_last : slice_index (continued r o p).firsts (count r - 1 + (p.to - p.from)) ≡ total r + (p.end - p.begin)
    more_last = place_last (take (count r) r.firsts) o.firsts p (total r) (count r - 1) base_long are

    pub continued_kept : IsKept (continued r o p)
    continued_kept = kept_from (continued r o p) more_places (old_place 0 (omega arith) ∙ kept.first) more_rise

    pub continued_few : count r + (p.to - (p.from + 1)) ≤ total r + (p.end - p.begin)
    continued_few = omega (
      arith,
      more_keys,
      continued_kept.few,
      ap (slice_index (continued r o p).firsts) more_keys,
      more_last,
      are.order,
    )

    pub is_continued : key_at r (count r - 1) ≡ key_at o p.from → IsJoined r o (continued r o p) p (count r - 1)
    is_continued same = record {
      keys = more_keys;
      below = omega arith;
      key_old = λ i h. keys_old r.keys o.keys (p.from + 1) p.to i (omega arith);
      key_new = λ i h. continued_key same i h;
      first_old = old_place;
      first_new =
          λ i one h. place_new (take (count r) r.firsts) o.firsts p (total r) (count r - 1) base_long are i one h;
      first_last = more_last;
      growing = more_rise;
      long = more_places;
    }

pub total_joined : (r o q : Rows) (p : Portion) (s : ℕ) → IsJoined r o q p s → total q ≡ total r + (p.end - p.begin)
total_joined r o q p s is = ap (slice_index q.firsts) is.keys ∙ is.first_last

-- the owner of the first record of a portion
module _ (others : List (List (List ℕ))) (o : Rows) (p : Portion) (theirs : IsKept o) (index : IsIndex others o)
    (are : IsPlaces o.firsts p) where
  pub end_within : p.end ≤ length others
  end_within = omega (arith, are.upto, theirs.within p.to are.within, index.total_is)

  tied : (o : Ordering) → is_le o ≡ true → is_lt o ≡ false → o ≡ Equal
  tied Less a b = absurd (false≢true (sym b))
  tied Equal a b = refl
  tied Greater a b = absurd (false≢true a)

  pub first_key : (d : List (List ℕ)) → key_at o p.from ≡ key_of (get_or others p.begin d)
  first_key d =
      let within : p.from < count o = omega (arith, are.order, are.within, theirs.long) in
      let k = key_of (get_or others p.begin d) in
      let le = index.upto p.from p.begin d within (are.high (p.from + 1) (omega arith) (omega (arith, theirs.long))) in
      let ge = index.behind p.from p.begin d within are.low (omega (arith, end_within, are.some)) in
      sym (slice_cmp-IsAntisymmetric nat_cmp-IsAntisymmetric k (key_at o p.from)
      (tied (compared k (key_at o p.from)) le ge))

-- where the last key comes before another, each does
pub before_all : (owners : List (List (List ℕ))) (r : Rows) (key : List ℕ) → IsIndex owners r
    → Less ≡ last_compared r key → (i : ℕ) → i < count r → compared (key_at r i) key ≡ Less
before_all owners r key index less i h =
    let some : nat_lt 0 (count r) ≡ true = test_true (count r) (omega arith) in
    let last : compared (key_at r (count r - 1)) key ≡ Less = sym (rw some at less) in
    elim (cases_lt i (count r - 1)) [
      | inl lt ↦ nat_list_cmp_total.trans (key_at r i) (key_at r (count r - 1)) key
          (index.rise i (count r - 1) lt (omega arith)) last
      | inr ge ↦ let e : i ≡ count r - 1 = omega arith in rw e last
    ]
  where
    test_true : (n : ℕ) → 0 < n → nat_lt 0 n ≡ true
    test_true n h = grind (arith, nat_tests)

le_trans : (a b c : List ℕ) → is_le (compared a b) ≡ true → is_le (compared b c) ≡ true → is_le (compared a c) ≡ true
le_trans a b c h k = go (compared a b) (compared b c) refl refl h k
  where
    go : (p q : Ordering) → compared a b ≡ p → compared b c ≡ q → is_le p ≡ true → is_le q ≡ true
        → is_le (compared a c) ≡ true
    go Less Less e f h k = ap is_le (nat_list_cmp_total.trans a b c e f)
    go Less Equal e f h k =
        let same : b ≡ c = slice_cmp-IsAntisymmetric nat_cmp-IsAntisymmetric b c f in
        ap is_le (rw same at e)
    go Less Greater e f h k = absurd (false≢true k)
    go Equal q e f h k = ap is_le (nat_list_cmp_total.congr a b c e ∙ f) ∙ k
    go Greater q e f h k = absurd (false≢true h)

-- the index of the owners of both
module _ (owners others : List (List (List ℕ))) (r o q : Rows) (p : Portion) (s : ℕ) (kept : IsKept r)
    (theirs : IsKept o) (mine : IsIndex owners r) (index : IsIndex others o)
    (are : IsPlaces o.firsts p) (is : IsJoined r o q p s)
    (before : (i : ℕ) → i < s → compared (key_at r i) (key_at o p.from) ≡ Less)
    (last : s < count r → (s + 1 ≡ count r) × (key_at r s ≡ key_at o p.from)) where
  ends : p.end ≤ length others
  ends = end_within others o p theirs index are

  few : p.to ≤ count o
  few = omega (arith, are.within, theirs.long)

  more_owners : length (owners ++ slice_range others p.begin p.end) ≡ length owners + (p.end - p.begin)
  more_owners = length-append owners (slice_range others p.begin p.end)
      ∙ ap (λ n. length owners + n) (length-between others p.begin p.end ends)

  old_owner : (j : ℕ) (d : List (List ℕ)) → j < length owners
      → get_or (owners ++ slice_range others p.begin p.end) j d ≡ get_or owners j d
  old_owner j d h = get_or_append_left owners (slice_range others p.begin p.end) d j h

  new_owner : (j : ℕ) (d : List (List ℕ)) → length owners ≤ j → j < length owners + (p.end - p.begin)
      → get_or (owners ++ slice_range others p.begin p.end) j d ≡ get_or others (p.begin + (j - length owners)) d
  new_owner j d h k = get_or-append_right owners (slice_range others p.begin p.end) (length owners) j d refl h
      ∙ get_or-between others p.begin p.end (j - length owners) d (omega arith)

  -- the first key of the portion, beside the others of it and those before
  from_le : (t : ℕ) → p.from + t < p.to → is_le (compared (key_at o p.from) (key_at o (p.from + t))) ≡ true
  from_le t h = elim (cases_lt 0 t) [
    | inl lt ↦ ap is_le (index.rise p.from (p.from + t) (omega arith) (omega (arith, few)))
    | inr ge ↦ let e : p.from + t ≡ p.from = omega arith in rw e (itself_le (key_at o p.from))
  ]

  row_le : (i : ℕ) → i < count r → is_le (compared (key_at r i) (key_at o p.from)) ≡ true
  row_le i h = elim (cases_lt i s) [
    | inl lt ↦ ap is_le (before i lt)
    | inr ge ↦
        let told = last (omega arith) in
        let e : i ≡ s = omega (arith, told.0) in
        rw (e, told.1) (itself_le (key_at o p.from))
  ]

  owner_le : (j : ℕ) (d : List (List ℕ)) → j < length owners
      → is_le (compared (key_of (get_or owners j d)) (key_at o p.from)) ≡ true
  owner_le j d h =
      elim (cases_lt 0 (count r)) [
        | inl some ↦
            let e : count r - 1 + 1 ≡ count r = omega arith in
            let up : is_le (compared (key_of (get_or owners j d)) (key_at r (count r - 1))) ≡ true =
            mine.upto (count r - 1) j d (omega arith) (rw e (omega (arith, mine.total_is))) in
            le_trans (key_of (get_or owners j d)) (key_at r (count r - 1)) (key_at o p.from) up
            (row_le (count r - 1) (omega arith))
        | inr none ↦
            let e : count r ≡ 0 = omega arith in
            let z : total r ≡ 0 = ap (slice_index r.firsts) e ∙ mine.first in
            absurd (omega (arith, mine.total_is))
      ]

  -- the places of the portion
  next_place : (t j : ℕ) → p.from + t < p.to → length owners ≤ j → j < slice_index q.firsts (s + (t + 1))
      → p.begin + (j - length owners) < slice_index o.firsts (p.from + (t + 1))
  next_place t j h old k =
      let over = are.high (p.from + (t + 1)) (omega arith) (omega (arith, are.within)) in
      elim (cases_lt (p.from + (t + 1)) p.to) [
        | inl lt ↦ omega (arith, is.first_new (t + 1) (omega arith) lt, mine.total_is)
        | inr ge ↦
            let e : s + (t + 1) ≡ s + (p.to - p.from) = omega arith in
            let f : p.from + (t + 1) ≡ p.to = omega arith in
            let l : j < slice_index q.firsts (s + (p.to - p.from)) = rw e at k in
            rw f (omega (arith, is.first_last, mine.total_is, are.upto, are.some))
      ]

  all_places : (i : ℕ) → i ≤ s + (p.to - p.from) → slice_index q.firsts i ≤ length owners + (p.end - p.begin)
  all_places i h = omega (
    arith,
    grown q.firsts i (s + (p.to - p.from)) is.growing h (omega (arith, is.long, is.keys)),
    is.first_last,
    mine.total_is,
  )

  upto_new : (t j : ℕ) (d : List (List ℕ)) → p.from + t < p.to → j < slice_index q.firsts (s + (t + 1))
      → is_le (compared (key_of (get_or (owners ++ slice_range others p.begin p.end) j d)) (key_at o (p.from + t)))
      ≡ true
  upto_new t j d h k = elim (cases_lt j (length owners)) [
    | inl old ↦ rw (old_owner j d old) (le_trans (key_of (get_or owners j d)) (key_at o p.from) (key_at o (p.from + t))
        (owner_le j d old) (from_le t h))
    | inr new ↦
        let f : p.from + (t + 1) ≡ p.from + t + 1 = omega arith in
        let within : j < length owners + (p.end - p.begin) = omega (arith, all_places (s + (t + 1)) (omega arith)) in
        rw (new_owner j d new within) (index.upto (p.from + t) (p.begin + (j - length owners)) d (omega (arith, few))
        (rw f at (next_place t j h new k)))
  ]

  upto_joined : (i j : ℕ) (d : List (List ℕ)) → i < count q → j < slice_index q.firsts (i + 1)
      → is_le (compared (key_of (get_or (owners ++ slice_range others p.begin p.end) j d)) (key_at q i)) ≡ true
  upto_joined i j d h k = elim (cases_lt i s) [
    | inl lt ↦
        let l : j < slice_index r.firsts (i + 1) = rw (is.first_old (i + 1) (omega arith)) at k in
        let old : j < length owners =
        omega (arith, kept.within (i + 1) (omega (arith, kept.long, is.below)), mine.total_is) in
        rw (is.key_old i lt, old_owner j d old) (mine.upto i j d (omega (arith, is.below)) l)
    | inr ge ↦
        let e : s + (i - s) ≡ i = omega arith in
        let f : s + (i - s + 1) ≡ i + 1 = omega arith in
        let within : p.from + (i - s) < p.to = omega (arith, is.keys, are.order) in
        let key : key_at q i ≡ key_at o (p.from + (i - s)) =
        ap (λ n. key_at q n) (sym e) ∙ is.key_new (i - s) within in
        let l : j < slice_index q.firsts (s + (i - s + 1)) = rw f k in
        rw key (upto_new (i - s) j d within l)
  ]

  behind_first : (j : ℕ) (d : List (List ℕ)) → slice_index r.firsts s ≤ j → j < length owners + (p.end - p.begin)
      → is_lt (compared (key_of (get_or (owners ++ slice_range others p.begin p.end) j d)) (key_at o p.from)) ≡ false
  behind_first j d k l = elim (cases_lt j (length owners)) [
    | inl old ↦
        elim (cases_lt s (count r)) [
          | inl lt ↦ rw (old_owner j d old, ← (last lt).1) (mine.behind s j d lt k old)
          | inr ge ↦ let e : s ≡ count r = omega (arith, is.below) in
              let m : total r ≤ j = rw e at k in
              absurd (omega (arith, mine.total_is))
        ]
    | inr new ↦
        rw (new_owner j d new l) (index.behind p.from (p.begin + (j - length owners)) d (omega (arith, few, are.order))
        (omega (arith, are.low)) (omega (arith, ends)))
  ]

  behind_new : (t j : ℕ) (d : List (List ℕ)) → p.from + t < p.to → slice_index q.firsts (s + t) ≤ j
      → j < length owners + (p.end - p.begin)
      → is_lt (compared (key_of (get_or (owners ++ slice_range others p.begin p.end) j d)) (key_at o (p.from + t)))
      ≡ false
  behind_new t j d h k l = elim (cases_lt 0 t) [
    | inl some ↦
        let over = are.high (p.from + t) (omega arith) (omega (arith, are.within)) in
        let new : length owners ≤ j = omega (arith, is.first_new t some h, mine.total_is) in
        rw (new_owner j d new l) (index.behind (p.from + t) (p.begin + (j - length owners)) d (omega (arith, few))
        (omega (arith, is.first_new t some h, mine.total_is)) (omega (arith, ends)))
    | inr none ↦
        let e : s + t ≡ s = omega arith in
        let f : p.from + t ≡ p.from = omega arith in
        let m : slice_index r.firsts s ≤ j = rw (e, is.first_old s (omega arith)) at k in
        rw f (behind_first j d m l)
  ]

  behind_old : (i j : ℕ) (d : List (List ℕ)) → i < s → slice_index r.firsts i ≤ j
      → j < length owners + (p.end - p.begin)
      → is_lt (compared (key_of (get_or (owners ++ slice_range others p.begin p.end) j d)) (key_at r i)) ≡ false
  behind_old i j d h k l = elim (cases_lt j (length owners)) [
    | inl old ↦ rw (old_owner j d old) (mine.behind i j d (omega (arith, is.below)) k old)
    | inr new ↦
        let low : slice_index r.firsts s ≤ j =
        omega (arith, kept.within s (omega (arith, kept.long, is.below)), mine.total_is) in
        ge_ge (key_of (get_or (owners ++ slice_range others p.begin p.end) j d)) (key_at o p.from) (key_at r i)
        (behind_first j d low l) (less_back (key_at r i) (key_at o p.from) (before i h))
  ]

  behind_joined : (i j : ℕ) (d : List (List ℕ)) → i < count q → slice_index q.firsts i ≤ j
      → j < length (owners ++ slice_range others p.begin p.end)
      → is_lt (compared (key_of (get_or (owners ++ slice_range others p.begin p.end) j d)) (key_at q i)) ≡ false
  behind_joined i j d h k m =
      let l : j < length owners + (p.end - p.begin) = rw more_owners at m in
      elim (cases_lt i s) [
        | inl lt ↦ let n : slice_index r.firsts i ≤ j = rw (is.first_old i (omega arith)) at k in
            rw (is.key_old i lt) (behind_old i j d lt n l)
        | inr ge ↦
            let e : s + (i - s) ≡ i = omega arith in
            let within : p.from + (i - s) < p.to = omega (arith, is.keys, are.order) in
            let key : key_at q i ≡ key_at o (p.from + (i - s)) =
            ap (λ n. key_at q n) (sym e) ∙ is.key_new (i - s) within in
            let n : slice_index q.firsts (s + (i - s)) ≤ j = rw e k in
            rw key (behind_new (i - s) j d within n l)
      ]

  rise_joined : (i j : ℕ) → i < j → j < count q → compared (key_at q i) (key_at q j) ≡ Less
  rise_joined i j h k = elim (cases_lt j s) [
    | inl lt ↦ rw (is.key_old i (omega arith), is.key_old j lt) (mine.rise i j h (omega (arith, is.below)))
    | inr ge ↦
        let e : s + (j - s) ≡ j = omega arith in
        let within : p.from + (j - s) < p.to = omega (arith, is.keys, are.order) in
        let key : key_at q j ≡ key_at o (p.from + (j - s)) =
        ap (λ n. key_at q n) (sym e) ∙ is.key_new (j - s) within in
        elim (cases_lt i s) [
          | inl old ↦ rw (is.key_old i old, key) (less_le (key_at r i) (key_at o p.from) (key_at o (p.from + (j - s)))
              (before i old) (from_le (j - s) within))
          | inr new ↦
              let f : s + (i - s) ≡ i = omega arith in
              let near : p.from + (i - s) < p.to = omega arith in
              let first : key_at q i ≡ key_at o (p.from + (i - s)) =
              ap (λ n. key_at q n) (sym f) ∙ is.key_new (i - s) near in
              rw (first, key) (index.rise (p.from + (i - s)) (p.from + (j - s)) (omega arith) (omega (arith, few)))
        ]
  ]
    where
      less_le : (a b c : List ℕ) → compared a b ≡ Less → is_le (compared b c) ≡ true → compared a c ≡ Less
      less_le a b c e k = go (compared b c) refl k
        where
          go : (o : Ordering) → compared b c ≡ o → is_le o ≡ true → compared a c ≡ Less
          go Less f k = nat_list_cmp_total.trans a b c e f
          go Equal f k = let same : b ≡ c = slice_cmp-IsAntisymmetric nat_cmp-IsAntisymmetric b c f in rw same at e
          go Greater f k = absurd (false≢true k)

  pub index_joined : IsIndex (owners ++ slice_range others p.begin p.end) q
  index_joined = record {
    total_is = total_joined r o q p s is ∙ omega (arith, mine.total_is, more_owners);
    first = is.first_old 0 (omega arith) ∙ mine.first;
    grow = λ i h. is.growing i (omega (arith, is.long));
    rise = λ i j h k. rise_joined i j h k;
    upto = λ i j d h k. upto_joined i j d h k;
    behind = λ i j d h k l. behind_joined i j d h k l;
  }

-- the same as the code makes it, by how the last key compares with the first one of the portion
module _ (r o : Rows) (p : Portion) (kept : IsKept r) (theirs : IsKept o) (are : IsPlaces o.firsts p) where
  pub index_less : (owners others : List (List (List ℕ))) → IsIndex owners r → IsIndex others o
      → Less ≡ last_compared r (key_at o p.from) → IsIndex (owners ++ slice_range others p.begin p.end) (joined r o p)
  index_less owners others mine index less =
      index_joined owners others r o (joined r o p) p (count r) kept theirs mine index are
      (is_joined r o p kept theirs are) (before_all owners r (key_at o p.from) mine less) (λ h. absurd (omega arith))

  pub index_equal : (owners others : List (List (List ℕ))) → IsIndex owners r → IsIndex others o → Equal
      ≡ last_compared r (key_at o p.from) → IsIndex (owners ++ slice_range others p.begin p.end) (continued r o p)
  index_equal owners others mine index equal =
      let told = equal_some r (key_at o p.from) equal in
      index_joined owners others r o (continued r o p) p (count r - 1) kept theirs mine index are
      (is_continued r o p kept theirs are told.0 told.1)
      (λ i h. rw (← told.1) (mine.rise i (count r - 1) h (omega (arith, told.0)))) (λ h. (omega arith, told.1))

  pub total_less : total (joined r o p) ≡ total r + (p.end - p.begin)
  total_less = total_joined r o (joined r o p) p (count r) (is_joined r o p kept theirs are)

  pub total_equal : Equal ≡ last_compared r (key_at o p.from) → total (continued r o p) ≡ total r + (p.end - p.begin)
  total_equal equal =
      let told = equal_some r (key_at o p.from) equal in
      total_joined r o (continued r o p) p (count r - 1) (is_continued r o p kept theirs are told.0 told.1)
