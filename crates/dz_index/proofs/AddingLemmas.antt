-- One more owner in an index.
use Rattle.std.proofs.Common.{◌≡◌, ℕ, ◌+◌, ◌-◌, ◌<◌, ◌≤◌, ◌≢◌, true, false, List, [], ◌∷◌, ◌++◌, length, get_or, set}
use Rattle.std.proofs.Common.{refl, sym, ◌∙◌, ap, arith, inl, inr, length-append, get_or-set_same, get_or-set_other}
use Rattle.std.specs.Prelude.{nat_lt, slice_index}
use Rattle.std.proofs.lemmas.Bool.Decides.{nat_tests}
use Rattle.std.specs.Ordering.{is_lt, is_le, is_gt, ordering_reverse}
use Rattle.std.specs.Cmp.{tied_itself}
use Rattle.std.specs.Cmp.Lexicographic.{nat_list_cmp_total}
use Rattle.std.specs.declared.cmp.Ordering.{Ordering}
use Rattle.std.specs.declared.cmp.Ordering.TheVariants.{Less, Equal, Greater}
use Rattle.std.proofs.lemmas.Bool.{cases_lt, false≢true}
use Rattle.std.proofs.lemmas.List.{get_or_append_left, get_or-append_right}
use Rattle.std.specs.FinMap.{slice_cmp-IsAntisymmetric, nat_cmp-IsAntisymmetric}
use Rattle.dz_index.specs.SortKey.{key_of}
use Rattle.dz_name.specs.Name.{canonical_order}
use Rattle.dz_index.specs.Index.{order_behind}
use Rattle.dz_index.specs.Rows.{Rows, compared, key_at, count, total, IsIndex}
use Rattle.dz_index.specs.inner.Kept.{IsKept, repeated, added, last_compared}
use Rattle.dz_index.proofs.KeyLemmas.{key_order}
use Rattle.dz_index.proofs.OrderLemmas.{IsLast, le_le}

-- an element of a list with one more after it
old_item : {A : Type 0} (xs : List A) (y : A) (j : ℕ) (d : A) → j < length xs
    → get_or (xs ++ y ∷ []) j d ≡ get_or xs j d
old_item xs y j d h = get_or_append_left xs (y ∷ []) d j h

new_item : {A : Type 0} (xs : List A) (y : A) (j : ℕ) (d : A) → j ≡ length xs → get_or (xs ++ y ∷ []) j d ≡ y
new_item xs y j d e =
    let z : j - length xs ≡ 0 = omega arith in
    get_or-append_right xs (y ∷ []) (length xs) j d refl (omega arith) ∙ rw z refl

longer : {A : Type 0} (xs : List A) (y : A) → length (xs ++ y ∷ []) ≡ length xs + 1
longer xs y = length-append xs (y ∷ [])

itself : (k : List ℕ) → compared k k ≡ Equal
itself k = tied_itself nat_list_cmp_total k

pub itself_le : (k : List ℕ) → is_le (compared k k) ≡ true
itself_le k = rw (itself k) refl

itself_lt : (k : List ℕ) → is_lt (compared k k) ≡ false
itself_lt k = rw (itself k) refl

pub less_back : (a b : List ℕ) → compared a b ≡ Less → is_lt (compared b a) ≡ false
less_back a b e = ap is_lt (nat_list_cmp_total.antisymm b a ∙ ap ordering_reverse e)

module _ (owners : List (List (List ℕ))) (r : Rows) (name : List (List ℕ)) (kept : IsKept r)
    (index : IsIndex owners r) where
  module _ (some : 0 < count r) (last_is : key_at r (count r - 1) ≡ key_of name) where
    there : (i : ℕ) → i < count r → slice_index (set r.firsts (count r) (total r + 1)) i ≡ slice_index r.firsts i
    there i h = let ne : i ≢ count r = omega arith in get_or-set_other r.firsts (count r) i (total r + 1) 0 ne

    at_end : slice_index (set r.firsts (count r) (total r + 1)) (count r) ≡ total r + 1
    at_end = get_or-set_same r.firsts (count r) (total r + 1) 0 (omega (arith, kept.long))

    last_le : (i : ℕ) → i < count r → is_lt (compared (key_of name) (key_at r i)) ≡ false
    last_le i h = elim (cases_lt i (count r - 1)) [
      | inl lt ↦
          rw (← last_is)
          (less_back (key_at r i) (key_at r (count r - 1)) (index.rise i (count r - 1) lt (omega arith)))
      | inr le ↦ let e : i ≡ count r - 1 = omega arith in rw (e, last_is) (itself_lt (key_of name))
    ]

    upto_again : (i j : ℕ) (d : List (List ℕ)) → i < count r
        → j < slice_index (set r.firsts (count r) (total r + 1)) (i + 1)
        → is_le (compared (key_of (get_or (owners ++ name ∷ []) j d)) (key_at r i)) ≡ true
    upto_again i j d h k = elim (cases_lt (i + 1) (count r)) [
      | inl lt ↦
          let l : j < slice_index r.firsts (i + 1) = rw (there (i + 1) lt) at k in
          rw (old_item owners name j d (omega (arith, kept.long, kept.within (i + 1), index.total_is)))
          (index.upto i j d h l)
      | inr le ↦
          let e : i + 1 ≡ count r = omega arith in
          let l : j < total r + 1 = rw (e, at_end) at k in
          elim (cases_lt j (length owners)) [
            | inl old ↦ rw (old_item owners name j d old) (index.upto i j d h (rw e (omega (arith, index.total_is))))
            | inr new ↦
                let f : i ≡ count r - 1 = omega arith in
                rw (new_item owners name j d (omega (arith, index.total_is)), f, last_is) (itself_le (key_of name))
          ]
    ]

    behind_again : (i j : ℕ) (d : List (List ℕ)) → i < count r
        → slice_index (set r.firsts (count r) (total r + 1)) i ≤ j → j < length (owners ++ name ∷ [])
        → is_lt (compared (key_of (get_or (owners ++ name ∷ []) j d)) (key_at r i)) ≡ false
    behind_again i j d h k l =
        let m : slice_index r.firsts i ≤ j = rw (there i h) at k in
        elim (cases_lt j (length owners)) [
          | inl old ↦ rw (old_item owners name j d old) (index.behind i j d h m old)
          | inr new ↦ rw (new_item owners name j d (omega (arith, longer owners name))) (last_le i h)
        ]

    grow_again : (i : ℕ) → i < count r → slice_index (set r.firsts (count r) (total r + 1)) i
        < slice_index (set r.firsts (count r) (total r + 1)) (i + 1)
    grow_again i h = elim (cases_lt (i + 1) (count r)) [
      | inl lt ↦ rw (there i h, there (i + 1) lt) (index.grow i h)
      | inr le ↦ let e : i + 1 ≡ count r = omega arith in
          let g : slice_index r.firsts i < total r + 1 = omega (arith, kept.long, kept.within i) in
          rw (there i h, e, at_end) g
    ]

    pub index_repeated : IsIndex (owners ++ name ∷ []) (repeated r)
    index_repeated = record {
      total_is = rw at_end (omega (arith, index.total_is, longer owners name));
      first = there 0 some ∙ index.first;
      grow = λ i h. grow_again i h;
      rise = λ i j h k. index.rise i j h k;
      upto = λ i j d h k. upto_again i j d h k;
      behind = λ i j d h k l. behind_again i j d h k l;
    }

  -- a key of its own, after all others
  module _ (key : List ℕ) (is : key ≡ key_of name) (last : IsLast name owners)
      (other : 0 < count r → key_at r (count r - 1) ≢ key) where
    early : (i : ℕ) → i < length r.firsts → slice_index (added r key).firsts i ≡ slice_index r.firsts i
    early i h = old_item r.firsts (total r + 1) i 0 h

    late : slice_index (added r key).firsts (length r.firsts) ≡ total r + 1
    late = new_item r.firsts (total r + 1) (length r.firsts) 0 refl

    more_count : count (added r key) ≡ count r + 1
    more_count = longer r.keys key

    old_key : (i : ℕ) → i < count r → key_at (added r key) i ≡ key_at r i
    old_key i h = old_item r.keys key i [] h

    new_key : (i : ℕ) → i ≡ count r → key_at (added r key) i ≡ key
    new_key i e = new_item r.keys key i [] e

    owner_le : (j : ℕ) (d : List (List ℕ)) → j < length owners
        → is_le (compared (key_of (get_or owners j d)) key) ≡ true
    owner_le j d h = rw is (ap is_le (key_order (get_or owners j d) name) ∙ last j d h)

    both : (o : Ordering) → is_le o ≡ true → is_lt o ≡ false → o ≡ Equal
    both Less a b = absurd (false≢true (sym b))
    both Equal a b = refl
    both Greater a b = absurd (false≢true a)

    le_not : (o : Ordering) → is_le o ≡ true → o ≢ Equal → o ≡ Less
    le_not Less a b = refl
    le_not Equal a b = absurd (b refl)
    le_not Greater a b = absurd (false≢true a)

    last_less : 0 < count r → compared (key_at r (count r - 1)) key ≡ Less
    last_less some =
        let i = count r - 1 in
        let e : i + 1 ≡ count r = omega arith in
        let j = slice_index r.firsts i in
        let in_range : j < length owners = omega
        (arith, index.total_is, index.grow i (omega arith), kept.within (i + 1) (omega (arith, kept.long))) in
        let tied : compared (key_of (get_or owners j [])) (key_at r i) ≡ Equal =
        both (compared (key_of (get_or owners j [])) (key_at r i)) (index.upto i j [] (omega arith)
        (index.grow i (omega arith))) (index.behind i j [] (omega arith) (omega arith) in_range) in
        let le : is_le (compared (key_at r i) key) ≡ true =
        ap is_le (sym (nat_list_cmp_total.congr (key_of (get_or owners j [])) (key_at r i) key tied))
        ∙ owner_le j [] in_range in
        le_not (compared (key_at r i) key) le
        (λ q. other some (slice_cmp-IsAntisymmetric nat_cmp-IsAntisymmetric (key_at r i) key q))

    top : (i : ℕ) → i < count r → compared (key_at r i) key ≡ Less
    top i h = elim (cases_lt i (count r - 1)) [
      | inl lt ↦ nat_list_cmp_total.trans (key_at r i) (key_at r (count r - 1)) key
          (index.rise i (count r - 1) lt (omega arith)) (last_less (omega arith))
      | inr le ↦ let e : i ≡ count r - 1 = omega arith in rw e (last_less (omega arith))
    ]

    grow_more : (i : ℕ) → i < count r + 1
        → slice_index (added r key).firsts i < slice_index (added r key).firsts (i + 1)
    grow_more i h = elim (cases_lt i (count r)) [
      | inl lt ↦ rw (early i (omega (arith, kept.long)), early (i + 1) (omega (arith, kept.long))) (index.grow i lt)
      | inr le ↦
          let e : i ≡ count r = omega arith in
          let s : i + 1 ≡ length r.firsts = omega (arith, kept.long) in
          let t : slice_index r.firsts i ≡ total r = ap (slice_index r.firsts) e in
          rw (s, late, early i (omega (arith, kept.long)), t) (omega arith)
    ]

    rise_more : (i j : ℕ) → i < j → j < count r + 1 → compared (key_at (added r key) i) (key_at (added r key) j) ≡ Less
    rise_more i j h k = elim (cases_lt j (count r)) [
      | inl lt ↦ rw (old_key i (omega arith), old_key j lt) (index.rise i j h lt)
      | inr le ↦ rw (old_key i (omega arith), new_key j (omega arith)) (top i (omega arith))
    ]

    upto_more : (i j : ℕ) (d : List (List ℕ)) → i < count r + 1 → j < slice_index (added r key).firsts (i + 1)
        → is_le (compared (key_of (get_or (owners ++ name ∷ []) j d)) (key_at (added r key) i)) ≡ true
    upto_more i j d h k = elim (cases_lt i (count r)) [
      | inl lt ↦
          let l : j < slice_index r.firsts (i + 1) = rw (early (i + 1) (omega (arith, kept.long))) at k in
          rw (old_key i lt, old_item owners name j d (omega (arith, kept.long, kept.within (i + 1), index.total_is)))
          (index.upto i j d lt l)
      | inr le ↦
          let s : i + 1 ≡ length r.firsts = omega (arith, kept.long) in
          let l : j < total r + 1 = rw (s, late) at k in
          elim (cases_lt j (length owners)) [
            | inl old ↦ rw (new_key i (omega arith), old_item owners name j d old) (owner_le j d old)
            | inr new ↦ rw (new_key i (omega arith), new_item owners name j d (omega (arith, index.total_is)), is)
                (itself_le (key_of name))
          ]
    ]

    behind_more : (i j : ℕ) (d : List (List ℕ)) → i < count r + 1 → slice_index (added r key).firsts i ≤ j
        → j < length (owners ++ name ∷ [])
        → is_lt (compared (key_of (get_or (owners ++ name ∷ []) j d)) (key_at (added r key) i)) ≡ false
    behind_more i j d h k l =
        let m : slice_index r.firsts i ≤ j = rw (early i (omega (arith, kept.long))) at k in
        elim (cases_lt i (count r)) [
          | inl lt ↦ elim (cases_lt j (length owners)) [
            | inl old ↦ rw (old_key i lt, old_item owners name j d old) (index.behind i j d lt m old)
            | inr new ↦ rw (old_key i lt, new_item owners name j d (omega (arith, longer owners name)), ← is)
                (less_back (key_at r i) key (top i lt))
          ]
          | inr le ↦
              let e : i ≡ count r = omega arith in
              let n : total r ≤ j = rw e at m in
              rw (new_key i e, new_item owners name j d (omega (arith, index.total_is, longer owners name)), is)
              (itself_lt (key_of name))
        ]

    pub index_added : IsIndex (owners ++ name ∷ []) (added r key)
    index_added =
        let n : length (r.keys ++ key ∷ []) ≡ length r.firsts = omega (arith, longer r.keys key, kept.long) in
        record {
          total_is = rw (n, late) (omega (arith, index.total_is, longer owners name));
          first = early 0 (omega (arith, kept.long)) ∙ index.first;
          grow = λ i h. grow_more i (rw more_count at h);
          rise = λ i j h k. rise_more i j h (rw more_count at k);
          upto = λ i j d h k. upto_more i j d (rw more_count at h) k;
          behind = λ i j d h k l. behind_more i j d (rw more_count at h) k l;
        }

pub total_added : (r : Rows) (key : List ℕ) → IsKept r → total (added r key) ≡ total r + 1
total_added r key kept =
    let n : length (r.keys ++ key ∷ []) ≡ length r.firsts = omega (arith, longer r.keys key, kept.long) in
    rw n (new_item r.firsts (total r + 1) (length r.firsts) 0 refl)

pub total_repeated : (r : Rows) → IsKept r → total (repeated r) ≡ total r + 1
total_repeated r kept = get_or-set_same r.firsts (count r) (total r + 1) 0 (omega (arith, kept.long))

lt_true : (n : ℕ) → 0 < n → nat_lt 0 n ≡ true
lt_true n h = grind (arith, nat_tests)

le_not_gt : (o : Ordering) → is_gt o ≡ false → is_le o ≡ true
le_not_gt Less h = refl
le_not_gt Equal h = refl
le_not_gt Greater h = absurd (false≢true (sym h))

-- the last key is that of the last owner
module _ (owners : List (List (List ℕ))) (r : Rows) (kept : IsKept r) (index : IsIndex owners r) where
  same_le : (o : Ordering) → is_le o ≡ true → is_lt o ≡ false → o ≡ Equal
  same_le Less a b = absurd (false≢true (sym b))
  same_le Equal a b = refl
  same_le Greater a b = absurd (false≢true a)

  some_keys : 0 < length owners → 0 < count r
  some_keys some = elim (cases_lt 0 (count r)) [
    | inl lt ↦ lt
    | inr le ↦
        let e : length r.keys ≡ 0 = omega arith in
        let z : total r ≡ 0 = ap (slice_index r.firsts) e ∙ index.first in
        absurd (omega (arith, index.total_is))
  ]

  no_keys : length owners ≡ 0 → count r ≡ 0
  no_keys none = elim (cases_lt 0 (count r)) [
    | inl lt ↦ absurd (omega (arith, index.grow 0 lt, kept.within 1 (omega (arith, kept.long)), index.total_is))
    | inr le ↦ omega arith
  ]

  pub last_key : 0 < length owners → key_at r (count r - 1) ≡ key_of (get_or owners (length owners - 1) [])
  last_key some =
      let i = count r - 1 in
      let j = length owners - 1 in
      let keys = some_keys some in
      let e : i + 1 ≡ count r = omega arith in
      let up : j < slice_index r.firsts (i + 1) = rw e (omega (arith, index.total_is)) in
      let low : slice_index r.firsts i ≤ j = omega (arith, rw e at (index.grow i (omega arith)), index.total_is) in
      let tied = same_le (compared (key_of (get_or owners j [])) (key_at r i)) (index.upto i j [] (omega arith) up)
      (index.behind i j [] (omega arith) low (omega arith)) in
      sym (slice_cmp-IsAntisymmetric nat_cmp-IsAntisymmetric (key_of (get_or owners j [])) (key_at r i) tied)

  pub order_is : (name : List (List ℕ)) → last_compared r (key_of name) ≡ order_behind owners name
  order_is name = elim (cases_lt 0 (length owners)) [
    | inl some ↦
        let k : nat_lt 0 (count r) ≡ true = lt_true (count r) (some_keys some) in
        let l : nat_lt 0 (length owners) ≡ true = lt_true (length owners) some in
        rw (k, l, last_key some) (key_order (get_or owners (length owners - 1) []) name)
    | inr le ↦
        let z : length owners ≡ 0 = omega arith in
        rw (no_keys z, z) refl
  ]

  -- a name that the last owner doesn't come after is after all
  pub last_of : (name : List (List ℕ)) → is_gt (order_behind owners name) ≡ false → IsLast name owners
  last_of name h j d within =
      let some : 0 < length owners = omega arith in
      let l : nat_lt 0 (length owners) ≡ true = lt_true (length owners) some in
      let i = count r - 1 in
      let e : i + 1 ≡ count r = omega (arith, some_keys some) in
      let up : is_le (compared (key_of (get_or owners j d)) (key_at r i)) ≡ true =
      index.upto i j d (omega (arith, some_keys some)) (rw e (omega (arith, index.total_is))) in
      let first : is_le (canonical_order (get_or owners j d) (get_or owners (length owners - 1) [])) ≡ true =
      ap is_le (sym (key_order (get_or owners j d) (get_or owners (length owners - 1) [])))
      ∙ rw (last_key some) at up in
      le_le (get_or owners j d) (get_or owners (length owners - 1) []) name first
      (le_not_gt (canonical_order (get_or owners (length owners - 1) []) name) (rw l at h))

pub compared_none : (r : Rows) (key : List ℕ) (n : ℕ) → n ≡ count r → n ≡ 0 → Less ≡ last_compared r key
compared_none r key n is none = let z : count r ≡ 0 = omega arith in rw z refl

pub compared_some : (r : Rows) (key : List ℕ) (n : ℕ) {o : Ordering} → n ≡ count r → n ≢ 0
    → o ≡ compared (key_at r (count r - 1)) key → o ≡ last_compared r key
compared_some r key n {o} is some e = let t : nat_lt 0 (count r) ≡ true = lt_true (count r) (omega arith) in rw t e

pub other_less : (r : Rows) (key : List ℕ) → Less ≡ last_compared r key → 0 < count r → key_at r (count r - 1) ≢ key
other_less r key h some e = let g : Less ≡ Equal = rw (lt_true (count r) some, e, itself key) at h in cc

pub equal_some : (r : Rows) (key : List ℕ) → Equal ≡ last_compared r key
    → (0 < count r) × (key_at r (count r - 1) ≡ key)
equal_some r key h = elim (cases_lt 0 (count r)) [
  | inl some ↦ (
    some,
    slice_cmp-IsAntisymmetric nat_cmp-IsAntisymmetric (key_at r (count r - 1)) key
        (sym (rw (lt_true (count r) some) at h)),
  )
  | inr le ↦ let z : count r ≡ 0 = omega arith in absurd (let g : Equal ≡ Less = rw z at h in cc)
]
