-- Places that rise: where one is among them, and those of a portion after others.
use Rattle.std.proofs.Common.{◌≡◌, ℕ, zero, suc, ◌+◌, ◌-◌, ◌<◌, ◌≤◌, true, false, List, [], ◌∷◌, ◌++◌, length, map}
use Rattle.std.proofs.Common.{get_or, refl, ◌∙◌, ap, arith, inl, inr, length-append}
use Rattle.std.specs.Prelude.{nat_lt, slice_index, slice_range}
use Rattle.std.specs.List.Sorted.{IsPartitionPoint, IsPartitionedBy}
use Rattle.std.proofs.lemmas.Bool.{cases_lt}
use Rattle.std.proofs.lemmas.Bool.Decides.{nat_tests}
use Rattle.std.proofs.lemmas.List.{get_or_append_left, get_or-append_right, get_or_at, get_or_default, get_or-map}
use Rattle.std.proofs.lemmas.List.{length-map}
use Rattle.std.proofs.lemmas.List.Edits.{length-between, get_or-between}
use Rattle.dz_index.specs.declared.index.Portion.{Portion}
use Rattle.dz_index.specs.Rows.{Rows, count, total}
use Rattle.dz_index.specs.inner.Kept.{IsKept}
use Rattle.dz_index.specs.inner.Portion.{IsPlaces, moved, places_with}

-- each place comes before the next
abbrev pub AreGrowing : List ℕ → Type 0
AreGrowing xs = (i : ℕ) → i + 1 < length xs → get_or xs i 0 < get_or xs (i + 1) 0

pub grown : (xs : List ℕ) (i j : ℕ) → AreGrowing xs → i ≤ j → j < length xs → get_or xs i 0 + (j - i) ≤ get_or xs j 0
grown xs i zero rise le within = let e : i ≡ zero = omega arith in rw e (omega arith)
grown xs i (suc j) rise le within = elim (cases_lt i (suc j)) [
  | inl lt ↦
      let s : suc j ≡ j + 1 = omega arith in
      let step : get_or xs j 0 < get_or xs (suc j) 0 = rw s (rise j (omega arith)) in
      omega (arith, grown xs i j rise (omega arith) (omega arith))
  | inr ge ↦ let e : i ≡ suc j = omega arith in rw e (omega arith)
]

pub kept_growing : (r : Rows) → IsKept r → AreGrowing r.firsts
kept_growing r kept i h = kept.rise i (omega (arith, kept.long))

pub kept_from : (r : Rows) → length r.firsts ≡ length r.keys + 1 → slice_index r.firsts 0 ≡ 0
    → AreGrowing r.firsts → IsKept r
kept_from r long first rise = record {
  long = long;
  first = first;
  rise = λ i h. rise i (omega arith);
  within = λ i h. omega (arith, grown r.firsts i (length r.keys) rise (omega arith) (omega arith));
  few = omega (arith, first, grown r.firsts 0 (length r.keys) rise (omega arith) (omega arith));
}

-- a search by halves finds how many come before a place
pub parted : (xs : List ℕ) (place : ℕ) → AreGrowing xs → IsPartitionedBy (λ n. nat_lt n place) xs
parted xs place rise i j d le within h =
    let a : get_or xs j d ≡ get_or xs j 0 = get_or_default xs j d 0 within in
    let b : get_or xs i d ≡ get_or xs i 0 = get_or_default xs i d 0 (omega arith) in
    let up = grown xs i j rise le within in
    let lt : get_or xs j 0 < place = below_place (get_or xs j 0) place (rw a at h) in
    rw b (place_above (get_or xs i 0) place (omega arith))
  where
    below_place : (n m : ℕ) → nat_lt n m ≡ true → n < m
    below_place n m h = grind (arith, nat_tests)

    place_above : (n m : ℕ) → n < m → nat_lt n m ≡ true
    place_above n m h = grind (arith, nat_tests)

module _ (xs : List ℕ) (place n : ℕ)
    (point : IsPartitionPoint (λ x. nat_lt x place ≡ true) (λ x. nat_lt x place ≡ false) xs n) where
  pub point_before : (i : ℕ) → i < n → get_or xs i 0 < place
  point_before i h = let t = point.0 i 0 (omega arith) h in grind (arith, nat_tests)

  pub point_behind : (i : ℕ) → n ≤ i → i < length xs → place ≤ get_or xs i 0
  point_behind i h k = let t = point.1 i 0 h k in grind (arith, nat_tests)

pub some_before : (r : Rows) (n begin : ℕ) → IsKept r
    → ((i : ℕ) → n ≤ i → i ≤ count r → begin + 1 ≤ slice_index r.firsts i) → 1 ≤ n
some_before r n begin kept behind = elim (cases_lt 0 n) [
  | inl lt ↦ omega arith
  | inr le ↦ absurd (omega (arith, behind 0 le (omega arith), kept.first))
]

-- the owners of the records from one place up to another
module _ (r : Rows) (n m begin end : ℕ) (kept : IsKept r) (some : begin < end) (within : end ≤ total r)
    (n_before : (i : ℕ) → i < n → slice_index r.firsts i < begin + 1)
    (n_behind : (i : ℕ) → n ≤ i → i ≤ count r → begin + 1 ≤ slice_index r.firsts i)
    (m_before : (i : ℕ) → i < m → slice_index r.firsts i < end)
    (m_behind : (i : ℕ) → m ≤ i → i ≤ count r → end ≤ slice_index r.firsts i) where
  n_some : 1 ≤ n
  n_some = some_before r n begin kept n_behind

  m_within : m ≤ count r
  m_within = elim (cases_lt (count r) m) [
    | inl lt ↦ absurd (omega (arith, m_before (count r) lt))
    | inr le ↦ le
  ]

  n_lt_m : n - 1 < m
  n_lt_m = elim (cases_lt (n - 1) m) [
    | inl lt ↦ lt
    | inr le ↦
        elim (cases_lt (count r) (n - 1)) [
          | inl out ↦ absurd (omega (arith, n_before (count r) (omega arith), n_some))
          | inr in' ↦ absurd (omega (arith, m_behind (n - 1) le in', n_before (n - 1) (omega (arith, n_some))))
        ]
  ]

  pub portion_is : IsPlaces r.firsts (record { from = n - 1; to = m; begin = begin; end = end })
  portion_is = record {
    some = some;
    order = n_lt_m;
    within = omega (arith, m_within, kept.long);
    low = omega (arith, n_before (n - 1) (omega (arith, n_some)));
    high = λ i h k. omega (arith, n_behind i (omega (arith, n_some)) (omega (arith, kept.long)));
    ends = λ i h. m_before i h;
    upto = m_behind m (omega arith) m_within;
  }

-- the places of a portion after others, of which the last one is that of the number s
module _ (base others : List ℕ) (p : Portion) (records s : ℕ) (long : length base ≡ s + 1)
    (are : IsPlaces others p) where
  rest_length : length (map (moved p.begin records) (slice_range others (p.from + 1) p.to)) ≡ p.to - p.from - 1
  rest_length =
      length-map (slice_range others (p.from + 1) p.to) (moved p.begin records)
      ∙ (length-between others (p.from + 1) p.to (omega (arith, are.within)) ∙ omega arith)

  front_length : length (base ++ map (moved p.begin records) (slice_range others (p.from + 1) p.to))
      ≡ s + (p.to - p.from)
  front_length =
      length-append base (map (moved p.begin records) (slice_range others (p.from + 1) p.to))
      ∙ omega (arith, rest_length, long, are.order)

  pub places_length : length (places_with base others p records) ≡ s + (p.to - p.from) + 1
  places_length = length-append (base ++ map (moved p.begin records) (slice_range others (p.from + 1) p.to))
      ((records + (p.end - p.begin)) ∷ []) ∙ ap (λ n. n + 1) front_length

  pub place_old : (i : ℕ) → i ≤ s → get_or (places_with base others p records) i 0 ≡ get_or base i 0
  place_old i h =
      get_or_append_left (base ++ map (moved p.begin records) (slice_range others (p.from + 1) p.to))
      ((records + (p.end - p.begin)) ∷ []) 0 i (omega (arith, front_length, are.order))
      ∙ get_or_append_left base (map (moved p.begin records) (slice_range others (p.from + 1) p.to)) 0 i
      (omega (arith, long))

  pub place_new : (i : ℕ) → 0 < i → p.from + i < p.to
      → get_or (places_with base others p records) (s + i) 0 ≡ moved p.begin records (get_or others (p.from + i) 0)
  place_new i some h =
      let k : s + i - (s + 1) ≡ i - 1 = omega arith in
      let at : p.from + 1 + (i - 1) ≡ p.from + i = omega arith in
      let within : i - 1 < length (slice_range others (p.from + 1) p.to) =
      omega (arith, length-between others (p.from + 1) p.to (omega (arith, are.within))) in
      get_or_append_left (base ++ map (moved p.begin records) (slice_range others (p.from + 1) p.to))
      ((records + (p.end - p.begin)) ∷ []) 0 (s + i) (omega (arith, front_length))
      ∙ (get_or-append_right base (map (moved p.begin records) (slice_range others (p.from + 1) p.to)) (s + 1)
      (s + i) 0 long (omega arith)
      ∙ (ap (λ n. get_or (map (moved p.begin records) (slice_range others (p.from + 1) p.to)) n 0) k
      ∙ (get_or-map (moved p.begin records) (slice_range others (p.from + 1) p.to) (i - 1) 0 0 within
      ∙ (ap (moved p.begin records) (get_or-between others (p.from + 1) p.to (i - 1) 0 (omega arith))
      ∙ ap (λ n. moved p.begin records (get_or others n 0)) at))))

  pub place_last : get_or (places_with base others p records) (s + (p.to - p.from)) 0 ≡ records + (p.end - p.begin)
  place_last = get_or_at (base ++ map (moved p.begin records) (slice_range others (p.from + 1) p.to))
      (records + (p.end - p.begin)) [] 0 (s + (p.to - p.from)) front_length

  module _ (rise : AreGrowing others) (base_rise : (i : ℕ) → i < s → get_or base i 0 < get_or base (i + 1) 0)
      (up_to : get_or base s 0 ≤ records) where
    -- the place of one owner of the portion, and the next
    step_low : (t : ℕ) → p.from + t < p.to
        → (get_or (places_with base others p records) (s + t) 0 ≤ records + (get_or others (p.from + t) 0 - p.begin))
    step_low t h = elim (cases_lt 0 t) [
      | inl some ↦ omega (arith, place_new t some h)
      | inr none ↦ let e : s + t ≡ s = omega arith in rw e (omega (arith, place_old s (omega arith), up_to))
    ]

    step : (t : ℕ) → p.from + t < p.to → get_or (places_with base others p records) (s + t) 0
        < get_or (places_with base others p records) (s + (t + 1)) 0
    step t h =
        let low = step_low t h in
        let up : get_or others (p.from + t) 0 < get_or others (p.from + (t + 1)) 0 = omega
        (arith, grown others (p.from + t) (p.from + (t + 1)) rise (omega arith) (omega (arith, are.within))) in
        let over = are.high (p.from + (t + 1)) (omega arith) (omega (arith, are.within)) in
        elim (cases_lt (p.from + (t + 1)) p.to) [
          | inl lt ↦ omega (arith, place_new (t + 1) (omega arith) lt)
          | inr ge ↦
              let e : s + (t + 1) ≡ s + (p.to - p.from) = omega arith in
              let ends = are.ends (p.from + t) h in
              rw e (omega (arith, place_last, are.some))
        ]

    pub places_rise : AreGrowing (places_with base others p records)
    places_rise i h = elim (cases_lt i s) [
      | inl lt ↦ rw (place_old i (omega arith), place_old (i + 1) (omega arith)) (base_rise i lt)
      | inr ge ↦
          let e : s + (i - s) ≡ i = omega arith in
          let f : s + (i - s + 1) ≡ i + 1 = omega arith in
          rw (e, f) at (step (i - s) (omega (arith, places_length)))
    ]

-- one more place after the others, which the record after them begins at
pub kept_more : (r : Rows) (keys : List (List ℕ)) (firsts : List ℕ) → IsKept r → length keys ≡ length r.keys + 1
    → firsts ≡ r.firsts ++ (total r + 1) ∷ [] → IsKept (record { keys = keys; firsts = firsts })
kept_more r keys firsts kept long is =
    let n : length firsts ≡ length r.firsts + 1 = ap length is ∙ length-append r.firsts ((total r + 1) ∷ []) in
    let old = λ (i : ℕ) (h : i < length r.firsts). ap (λ xs. get_or xs i 0) is
    ∙ get_or_append_left r.firsts ((total r + 1) ∷ []) 0 i h in
    let new = ap (λ xs. get_or xs (length r.firsts) 0) is
    ∙ get_or_at r.firsts (total r + 1) [] 0 (length r.firsts) refl in
    kept_from (record { keys = keys; firsts = firsts }) (omega (arith, n, long, kept.long))
    (old 0 (omega (arith, kept.long)) ∙ kept.first)
    (λ i h. elim (cases_lt (i + 1) (length r.firsts)) [
      | inl lt ↦ rw (old i (omega arith), old (i + 1) lt) (kept.rise i (omega (arith, kept.long)))
      | inr ge ↦
          let e : i + 1 ≡ length r.firsts = omega (arith, n) in
          let low : get_or r.firsts i 0 ≤ total r = kept.within i (omega arith) in
          rw (e, old i (omega arith), new) (omega arith)
    ])
