-- The parts of a block of octets: how many, which, and one more.
use Rattle.std.proofs.Common.{◌≡◌, ℕ, zero, suc, ◌+◌, ◌-◌, ◌*◌, ◌<◌, ◌≤◌, List, [], ◌∷◌, ◌++◌, length, take, drop, map}
use Rattle.std.proofs.Common.{get_or, refl, sym, ◌∙◌, ap, arith, inl, inr, length-append, length-drop}
use Rattle.std.specs.Prelude.{slice_range}
use Rattle.std.proofs.lemmas.Bool.{cases_lt}
use Rattle.std.proofs.lemmas.List.{take-append-le, drop-append-le, drop_at, take_all, take-take, drop-drop, drop-take}
use Rattle.std.proofs.lemmas.List.{ext_get_or, get_or_append_left, get_or-append_right, get_or-drop, get_or-map}
use Rattle.std.proofs.lemmas.List.{length-map}
use Rattle.std.proofs.lemmas.List.Edits.{length-between, get_or-between}
use Rattle.dz_index.specs.inner.Parts.{parts_of, AreBounds, AreWithin, last_of}
use Rattle.dz_index.specs.inner.Portion.{moved, AreMovable}

pub parts_length : (octets bounds : List ℕ) → 0 < length bounds → length (parts_of octets bounds) + 1 ≡ length bounds
parts_length octets [] some = absurd (omega arith)
parts_length octets (begin ∷ []) some = omega arith
parts_length octets (begin ∷ end ∷ bounds) some = omega (arith, parts_length octets (end ∷ bounds) (omega arith))

pub part_at : (octets bounds : List ℕ) (i : ℕ) → i + 1 < length bounds
    → get_or (parts_of octets bounds) i [] ≡ slice_range octets (get_or bounds i 0) (get_or bounds (i + 1) 0)
part_at octets [] i h = absurd (omega arith)
part_at octets (begin ∷ []) i h = absurd (omega arith)
part_at octets (begin ∷ end ∷ bounds) zero h = refl
part_at octets (begin ∷ end ∷ bounds) (suc i) h =
    let s : suc i + 1 ≡ suc (i + 1) = omega arith in
    rw s (part_at octets (end ∷ bounds) i (omega arith))

module _ (octets key : List ℕ) where
  same_part : (begin end : ℕ) → begin ≤ length octets → end ≤ length octets
      → slice_range (octets ++ key) begin end ≡ slice_range octets begin end
  same_part begin end low high =
      rw (drop-append-le begin octets key low)
      (take-append-le (end - begin) (drop begin octets) key (omega (arith, length-drop begin octets)))

  new_part : (begin end : ℕ) → begin ≡ length octets → end ≡ length octets + length key
      → slice_range (octets ++ key) begin end ≡ key
  new_part begin end is ends =
      rw (ends, is, drop_at octets key (length octets) refl)
      (take_all (length octets + length key - length octets) key (omega arith))

  more_parts : (bounds : List ℕ) (end : ℕ) → 0 < length bounds
      → ((i : ℕ) → i < length bounds → get_or bounds i 0 ≤ length octets)
      → ((i : ℕ) → i + 1 ≡ length bounds → get_or bounds i 0 ≡ length octets)
      → end ≡ length octets + length key
      → parts_of (octets ++ key) (bounds ++ end ∷ []) ≡ parts_of octets bounds ++ key ∷ []
  more_parts [] end some inside last is = absurd (omega arith)
  more_parts (begin ∷ []) end some inside last is =
      ap (λ part. part ∷ []) (new_part begin end (last 0 (omega arith)) is)
  more_parts (begin ∷ next ∷ bounds) end some inside last is =
      let rest = more_parts (next ∷ bounds) end (omega arith) (λ i h. inside (suc i) (omega arith))
      (λ i h. last (suc i) (omega arith)) is in
      ap (λ part. part ∷ parts_of (octets ++ key) (next ∷ bounds ++ end ∷ []))
      (same_part begin next (inside 0 (omega arith)) (inside 1 (omega arith)))
      ∙ ap (λ parts. slice_range octets begin next ∷ parts) rest

-- one more part after the others
pub part_added : (octets key bounds : List ℕ) (end : ℕ) → AreBounds octets bounds → end ≡ length octets + length key
    → parts_of (octets ++ key) (bounds ++ end ∷ []) ≡ parts_of octets bounds ++ key ∷ []
part_added octets key bounds end are is =
    more_parts octets key bounds end are.some are.inside
    (λ i e. let f : i ≡ length bounds - 1 = omega arith in rw f are.last) is

-- a part of a copied block is the part that was copied
part_copied : (octets others : List ℕ) (begin end x y : ℕ) → begin ≤ x → x ≤ y → y ≤ end
    → slice_range (octets ++ slice_range others begin end) (length octets + (x - begin)) (length octets + (y - begin))
    ≡ slice_range others x y
part_copied octets others begin end x y low mid high =
    let count : length octets + (y - begin) - (length octets + (x - begin)) ≡ y - x = omega arith in
    let room : end - begin ≡ x - begin + (end - x) = omega arith in
    let at : begin + (x - begin) ≡ x = omega arith in
    let a : drop (length octets + (x - begin)) (octets ++ slice_range others begin end)
    ≡ drop (x - begin) (slice_range others begin end) =
    sym (drop-drop (x - begin) (length octets) (octets ++ slice_range others begin end))
    ∙ ap (drop (x - begin)) (drop_at octets (slice_range others begin end) (length octets) refl) in
    let b : drop (x - begin) (slice_range others begin end) ≡ take (end - x) (drop x others) =
    ap (λ n. drop (x - begin) (take n (drop begin others))) room
    ∙ (drop-take (x - begin) (end - x) (drop begin others)
    ∙ (ap (take (end - x)) (drop-drop (x - begin) begin others) ∙ ap (λ n. take (end - x) (drop n others)) at)) in
    ap (λ n. take n (drop (length octets + (x - begin)) (octets ++ slice_range others begin end))) count
    ∙ (ap (take (y - x)) (a ∙ b) ∙ take-take (y - x) (end - x) (drop x others) (omega arith))

-- bounds within octets fit when moved to where the octets end
pub movable : (others theirs : List ℕ) (before : ℕ) → AreWithin others theirs
    → before + (last_of theirs - get_or theirs 0 0) < 4294967296
    → AreMovable (get_or theirs 0 0) before (slice_range theirs 1 (length theirs))
movable others theirs before are room = record {
  behind =
      λ i h. let k : 1 + i < length theirs = omega (arith, length-between theirs 1 (length theirs) (omega arith)) in
      rw (get_or-between theirs 1 (length theirs) i 0 k) (are.rising (1 + i) k);
  fit = λ i h. let k : 1 + i < length theirs = omega (arith, length-between theirs 1 (length theirs) (omega arith)) in
      rw (get_or-between theirs 1 (length theirs) i 0 k) (omega (arith, are.below (1 + i) k, are.rising (1 + i) k));
}

-- bounds in order, however far apart
bounds_rise : (octets bounds : List ℕ) (i j : ℕ) → AreBounds octets bounds → i ≤ j → j < length bounds
    → get_or bounds i 0 ≤ get_or bounds j 0
bounds_rise octets bounds i zero are le within = let e : i ≡ zero = omega arith in rw e (omega arith)
bounds_rise octets bounds i (suc j) are le within = elim (cases_lt i (suc j)) [
  | inl lt ↦
      let s : suc j ≡ j + 1 = omega arith in
      let step : get_or bounds j 0 ≤ get_or bounds (suc j) 0 = rw s (are.rising j (omega arith)) in
      omega (arith, bounds_rise octets bounds i j are (omega arith) (omega arith))
  | inr ge ↦ let e : i ≡ suc j = omega arith in rw e (omega arith)
]

bounds_near : (octets bounds : List ℕ) (i j : ℕ) → AreBounds octets bounds → i ≤ j → j < length bounds
    → get_or bounds j 0 ≤ get_or bounds i 0 + 512 * (j - i)
bounds_near octets bounds i zero are le within = let e : i ≡ zero = omega arith in rw e (omega arith)
bounds_near octets bounds i (suc j) are le within = elim (cases_lt i (suc j)) [
  | inl lt ↦
      let s : suc j ≡ j + 1 = omega arith in
      let step : get_or bounds (suc j) 0 ≤ get_or bounds j 0 + 512 = rw s (are.short j (omega arith)) in
      omega (arith, bounds_near octets bounds i j are (omega arith) (omega arith))
  | inr ge ↦ let e : i ≡ suc j = omega arith in rw e (omega arith)
]

-- a run of parts after the others
module _ (octets bounds others theirs : List ℕ) (from to : ℕ) (are : AreBounds octets bounds)
    (are_theirs : AreBounds others theirs) (order : from ≤ to) (within : to < length theirs) where
  run_length : length (slice_range theirs from (to + 1)) ≡ to + 1 - from
  run_length = length-between theirs from (to + 1) (omega arith)

  run_at : (i : ℕ) → i ≤ to - from → get_or (slice_range theirs from (to + 1)) i 0 ≡ get_or theirs (from + i) 0
  run_at i h = get_or-between theirs from (to + 1) i 0 (omega arith)

  run_first : get_or (slice_range theirs from (to + 1)) 0 0 ≡ get_or theirs from 0
  run_first = let e : from + 0 ≡ from = omega arith in run_at 0 (omega arith) ∙ ap (λ n. get_or theirs n 0) e

  run_last : last_of (slice_range theirs from (to + 1)) ≡ get_or theirs to 0
  run_last =
      let e : length (slice_range theirs from (to + 1)) - 1 ≡ to - from = omega (arith, run_length) in
      let f : from + (to - from) ≡ to = omega arith in
      ap (λ n. get_or (slice_range theirs from (to + 1)) n 0) e
      ∙ (run_at (to - from) (omega arith) ∙ ap (λ n. get_or theirs n 0) f)

  pub run_within : AreWithin others (slice_range theirs from (to + 1))
  run_within = record {
    some = omega (arith, run_length);
    rising = λ i h. rw (run_first, run_at i (omega (arith, run_length)))
        (bounds_rise others theirs from (from + i) are_theirs (omega arith) (omega (arith, run_length)));
    below = λ i h. rw (run_at i (omega (arith, run_length)), run_last)
        (bounds_rise others theirs (from + i) to are_theirs (omega (arith, run_length)) within);
    inside =
        λ i h. rw (run_at i (omega (arith, run_length))) (are_theirs.inside (from + i) (omega (arith, run_length)));
  }

  pub run_room : length octets + (last_of (slice_range theirs from (to + 1))
      - get_or (slice_range theirs from (to + 1)) 0 0) ≤ 512 * (length bounds - 1 + (to - from))
  run_room =
      rw (run_first, run_last) (omega (arith, are.room, bounds_near others theirs from to are_theirs order within))

  abbrev new_octets : List ℕ
  new_octets = octets ++ slice_range others (get_or (slice_range theirs from (to + 1)) 0 0)
      (last_of (slice_range theirs from (to + 1)))

  abbrev new_bounds : List ℕ
  new_bounds = bounds ++ map (moved (get_or (slice_range theirs from (to + 1)) 0 0) (length octets))
      (drop 1 (slice_range theirs from (to + 1)))

  more_length : length (map (moved (get_or (slice_range theirs from (to + 1)) 0 0) (length octets))
      (drop 1 (slice_range theirs from (to + 1)))) ≡ to - from
  more_length =
      length-map (drop 1 (slice_range theirs from (to + 1)))
      (moved (get_or (slice_range theirs from (to + 1)) 0 0) (length octets))
      ∙ (length-drop 1 (slice_range theirs from (to + 1)) ∙ omega (arith, run_length))

  bounds_length : length new_bounds ≡ length bounds + (to - from)
  bounds_length = length-append bounds (map (moved (get_or (slice_range theirs from (to + 1)) 0 0) (length octets))
      (drop 1 (slice_range theirs from (to + 1)))) ∙ ap (λ n. length bounds + n) more_length

  octets_length : length new_octets ≡ length octets + (get_or theirs to 0 - get_or theirs from 0)
  octets_length =
      length-append octets (slice_range others (get_or (slice_range theirs from (to + 1)) 0 0)
      (last_of (slice_range theirs from (to + 1))))
      ∙ ap (λ n. length octets + n) (rw (run_first, run_last)
      (length-between others (get_or theirs from 0) (get_or theirs to 0) (are_theirs.inside to within)))

  bound_old : (i : ℕ) → i < length bounds → get_or new_bounds i 0 ≡ get_or bounds i 0
  bound_old i h =
      get_or_append_left bounds (map (moved (get_or (slice_range theirs from (to + 1)) 0 0) (length octets))
      (drop 1 (slice_range theirs from (to + 1)))) 0 i h

  bound_later : (i : ℕ) → 0 < i → i ≤ to - from → get_or new_bounds (length bounds - 1 + i) 0
      ≡ length octets + (get_or theirs (from + i) 0 - get_or theirs from 0)
  bound_later i some h =
      let k : length bounds - 1 + i - length bounds ≡ i - 1 = omega (arith, are.some) in
      let n : 1 + (i - 1) ≡ i = omega arith in
      let e : get_or theirs (from + i) 0 - get_or theirs from 0 + length octets
      ≡ length octets + (get_or theirs (from + i) 0 - get_or theirs from 0) = omega arith in
      get_or-append_right bounds (map (moved (get_or (slice_range theirs from (to + 1)) 0 0) (length octets))
      (drop 1 (slice_range theirs from (to + 1)))) (length bounds) (length bounds - 1 + i) 0 refl
      (omega (arith, are.some))
      ∙ (ap (λ m. get_or (map (moved (get_or (slice_range theirs from (to + 1)) 0 0) (length octets))
      (drop 1 (slice_range theirs from (to + 1)))) m 0) k
      ∙ (get_or-map (moved (get_or (slice_range theirs from (to + 1)) 0 0) (length octets))
      (drop 1 (slice_range theirs from (to + 1))) (i - 1) 0 0
      (omega (arith, length-drop 1 (slice_range theirs from (to + 1)), run_length))
      ∙ (ap (moved (get_or (slice_range theirs from (to + 1)) 0 0) (length octets))
      (get_or-drop 1 (slice_range theirs from (to + 1)) (i - 1) 0
      ∙ (ap (λ m. get_or (slice_range theirs from (to + 1)) m 0) n ∙ run_at i h))
      ∙ (ap (λ b. moved b (length octets) (get_or theirs (from + i) 0)) run_first ∙ e))))

  bound_new : (i : ℕ) → i ≤ to - from → get_or new_bounds (length bounds - 1 + i) 0
      ≡ length octets + (get_or theirs (from + i) 0 - get_or theirs from 0)
  bound_new i h = elim (cases_lt 0 i) [
    | inl some ↦ bound_later i some h
    | inr none ↦
        let e : length bounds - 1 + i ≡ length bounds - 1 = omega arith in
        let f : from + i ≡ from = omega arith in
        let z : length octets + (get_or theirs from 0 - get_or theirs from 0) ≡ length octets = omega arith in
        rw (e, f, z) (bound_old (length bounds - 1) (omega (arith, are.some)) ∙ are.last)
  ]

  -- a bound is an old one or one of the run
  pub run_bounds : AreBounds new_octets new_bounds
  run_bounds = record {
    some = omega (arith, bounds_length, are.some);
    rising = λ i h. elim (cases_lt (i + 1) (length bounds)) [
      | inl lt ↦ rw (bound_old i (omega arith), bound_old (i + 1) lt) (are.rising i lt)
      | inr ge ↦
          let e : length bounds - 1 + (i - (length bounds - 1)) ≡ i = omega (arith, are.some) in
          let f : length bounds - 1 + (i - (length bounds - 1) + 1) ≡ i + 1 = omega (arith, are.some) in
          let low = ap (λ n. get_or new_bounds n 0) (sym e)
          ∙ bound_new (i - (length bounds - 1)) (omega (arith, bounds_length, are.some)) in
          let high = ap (λ n. get_or new_bounds n 0) (sym f)
          ∙ bound_new (i - (length bounds - 1) + 1) (omega (arith, bounds_length, are.some)) in
          let up = bounds_rise others theirs (from + (i - (length bounds - 1))) (from + (i - (length bounds - 1) + 1))
          are_theirs (omega arith) (omega (arith, bounds_length, are.some)) in
          omega (arith, low, high, up)
    ];
    short = λ i h. elim (cases_lt (i + 1) (length bounds)) [
      | inl lt ↦ rw (bound_old i (omega arith), bound_old (i + 1) lt) (are.short i lt)
      | inr ge ↦
          let e : length bounds - 1 + (i - (length bounds - 1)) ≡ i = omega (arith, are.some) in
          let f : length bounds - 1 + (i - (length bounds - 1) + 1) ≡ i + 1 = omega (arith, are.some) in
          let low = ap (λ n. get_or new_bounds n 0) (sym e)
          ∙ bound_new (i - (length bounds - 1)) (omega (arith, bounds_length, are.some)) in
          let high = ap (λ n. get_or new_bounds n 0) (sym f)
          ∙ bound_new (i - (length bounds - 1) + 1) (omega (arith, bounds_length, are.some)) in
          let first = bounds_rise others theirs from (from + (i - (length bounds - 1))) are_theirs (omega arith)
          (omega (arith, bounds_length, are.some)) in
          let near =
          bounds_near others theirs (from + (i - (length bounds - 1))) (from + (i - (length bounds - 1) + 1))
          are_theirs (omega arith) (omega (arith, bounds_length, are.some)) in
          omega (arith, low, high, first, near)
    ];
    inside = λ i h. elim (cases_lt i (length bounds)) [
      | inl lt ↦ rw (bound_old i lt) (omega (arith, are.inside i lt, octets_length))
      | inr ge ↦
          let e : length bounds - 1 + (i - (length bounds - 1)) ≡ i = omega (arith, are.some) in
          let at = ap (λ n. get_or new_bounds n 0) (sym e)
          ∙ bound_new (i - (length bounds - 1)) (omega (arith, bounds_length, are.some)) in
          let up = bounds_rise others theirs (from + (i - (length bounds - 1))) to are_theirs
          (omega (arith, bounds_length, are.some)) within in
          omega (arith, at, up, octets_length)
    ];
    last =
        let e : length new_bounds - 1 ≡ length bounds - 1 + (to - from) = omega (arith, bounds_length, are.some) in
        let f : from + (to - from) ≡ to = omega arith in
        rw (e, bound_new (to - from) (omega arith), f) (sym octets_length);
    room = omega (
      arith,
      octets_length,
      bounds_length,
      are.some,
      are.room,
      bounds_near others theirs from to are_theirs order within,
    );
  }

  old_part : (i : ℕ) → i + 1 < length bounds
      → get_or (parts_of new_octets new_bounds) i [] ≡ get_or (parts_of octets bounds) i []
  old_part i h =
      part_at new_octets new_bounds i (omega (arith, bounds_length))
      ∙ (ap (λ n. slice_range new_octets n (get_or new_bounds (i + 1) 0)) (bound_old i (omega arith))
      ∙ (ap (slice_range new_octets (get_or bounds i 0)) (bound_old (i + 1) h)
      ∙ (same_part octets (slice_range others (get_or (slice_range theirs from (to + 1)) 0 0)
      (last_of (slice_range theirs from (to + 1)))) (get_or bounds i 0) (get_or bounds (i + 1) 0)
      (are.inside i (omega arith)) (are.inside (i + 1) h)
      ∙ sym (part_at octets bounds i h))))

  run_part : (i : ℕ) → i < to - from → get_or (parts_of new_octets new_bounds) (length bounds - 1 + i) []
      ≡ get_or (parts_of others theirs) (from + i) []
  run_part i h =
      let f : length bounds - 1 + i + 1 ≡ length bounds - 1 + (i + 1) = omega arith in
      let g : from + (i + 1) ≡ from + i + 1 = omega arith in
      part_at new_octets new_bounds (length bounds - 1 + i) (omega (arith, bounds_length, are.some))
      ∙ (ap (λ n. slice_range new_octets n (get_or new_bounds (length bounds - 1 + i + 1) 0))
      (bound_new i (omega arith))
      ∙ (ap (λ n. slice_range new_octets (length octets + (get_or theirs (from + i) 0 - get_or theirs from 0))
      (get_or new_bounds n 0)) f
      ∙ (ap (slice_range new_octets (length octets + (get_or theirs (from + i) 0 - get_or theirs from 0)))
      (bound_new (i + 1) (omega arith))
      ∙ (rw (run_first, run_last, g) (part_copied octets others (get_or theirs from 0) (get_or theirs to 0)
      (get_or theirs (from + i) 0) (get_or theirs (from + i + 1) 0)
      (bounds_rise others theirs from (from + i) are_theirs (omega arith) (omega arith)) (are_theirs.rising (from + i)
      (omega arith)) (bounds_rise others theirs (from + i + 1) to are_theirs (omega arith) within))
      ∙ sym (part_at others theirs (from + i) (omega arith))))))

  pub run_added : parts_of new_octets new_bounds
      ≡ parts_of octets bounds ++ slice_range (parts_of others theirs) from to
  run_added =
      let n = parts_length octets bounds are.some in
      let m = parts_length new_octets new_bounds (omega (arith, bounds_length, are.some)) in
      let k = parts_length others theirs are_theirs.some in
      let r : length (slice_range (parts_of others theirs) from to) ≡ to - from =
      length-between (parts_of others theirs) from to (omega (arith, k)) in
      ext_get_or [] (parts_of new_octets new_bounds)
      (parts_of octets bounds ++ slice_range (parts_of others theirs) from to)
      (omega (
        arith,
        n,
        m,
        r,
        bounds_length,
        length-append (parts_of octets bounds) (slice_range (parts_of others theirs) from to),
      ))
      (λ i h. elim (cases_lt i (length (parts_of octets bounds))) [
        | inl lt ↦ old_part i (omega (arith, n))
            ∙ sym (get_or_append_left (parts_of octets bounds) (slice_range (parts_of others theirs) from to) [] i lt)
        | inr ge ↦
            let e : length bounds - 1 + (i - length (parts_of octets bounds)) ≡ i = omega (arith, n) in
            let low : i - length (parts_of octets bounds) < to - from = omega (arith, n, m, bounds_length) in
            ap (λ j. get_or (parts_of new_octets new_bounds) j []) (sym e)
            ∙ (run_part (i - length (parts_of octets bounds)) low
            ∙ (sym (get_or-between (parts_of others theirs) from to (i - length (parts_of octets bounds)) []
            (omega arith))
            ∙ sym (get_or-append_right (parts_of octets bounds) (slice_range (parts_of others theirs) from to)
            (length (parts_of octets bounds)) i [] refl ge)))
      ])
