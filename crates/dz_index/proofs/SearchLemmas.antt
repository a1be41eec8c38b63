-- A search by halves: its steps, and what it leaves on either side.
use Rattle.std.proofs.Common.{◌≡◌, ℕ, zero, suc, ◌+◌, ◌*◌, ◌<◌, ◌≤◌, Bool, true, false, List, length, get_or, refl}
use Rattle.std.proofs.Common.{sym, ◌∙◌, ap, arith, inl, inr}
use Rattle.std.specs.Prelude.{◌^◌, slice_index, nat_lt, ◌&&◌}
use Rattle.std.specs.Cmp.{first_so, second_so, tied_itself, Equal-is}
use Rattle.std.proofs.lemmas.Bool.Decides.{nat_tests}
use Rattle.std.specs.Ordering.{is_lt, is_le, is_eq, ordering_reverse}
use Rattle.std.specs.Cmp.Lexicographic.{nat_list_cmp_total}
use Rattle.std.specs.declared.cmp.Ordering.{Ordering}
use Rattle.std.specs.declared.cmp.Ordering.TheVariants.{Less, Equal, Greater}
use Rattle.std.proofs.lemmas.Bool.{cases_Bool, cases_lt, false≢true}
use Rattle.std.proofs.lemmas.Nat.{mul-le}
use Rattle.std.proofs.Math.Pow.{pow_mono}
use Rattle.std.proofs.lemmas.Grind.{pow_more}
use Rattle.dz_index.specs.SortKey.{key_of}
use Rattle.dz_index.specs.Index.{IsFirstOf, IsEndOf, IsRun, TakesAtMost}
use Rattle.std.specs.FinMap.{slice_cmp-IsAntisymmetric, nat_cmp-IsAntisymmetric}
use Rattle.dz_name.specs.Name.{canonical_order}
use Rattle.dz_index.specs.Rows.{Rows, compared, key_at, count, IsIndex, AreRising}
use Rattle.dz_index.specs.inner.Kept.{IsPlaceAmong}
use Rattle.dz_index.proofs.KeyLemmas.{key_order}

pub halved : (t u s r n : ℕ) → u ≡ t + 1 → 2 ^ t * s ≤ n → 2 * r ≤ s → 2 ^ u * r ≤ n
halved t u s r n is h le =
    let p : 2 ^ u ≡ 2 ^ t * 2 = ap (λ k. 2 ^ k) is ∙ pow_more 2 t in
    let m : 2 ^ t * (2 * r) ≤ 2 ^ t * s = mul-le (2 ^ t) (2 * r) (2 ^ t) s (omega arith) le in
    rw p (omega arith)

pub doubled : (t u s n : ℕ) → u ≡ t + 1 → 2 ^ t * s ≤ n → 0 < s → 2 ^ u ≤ 2 * n + 1
doubled t u s n is h some =
    let p : 2 ^ u ≡ 2 ^ t * 2 = ap (λ k. 2 ^ k) is ∙ pow_more 2 t in
    let m : 2 ^ t * 1 ≤ 2 ^ t * s = mul-le (2 ^ t) 1 (2 ^ t) s (omega arith) (omega arith) in
    rw p (omega arith)

less_is : (o : Ordering) → is_lt o ≡ true → o ≡ Less
less_is Less h = refl
less_is Equal h = absurd (false≢true h)
less_is Greater h = absurd (false≢true h)

pub lt_below : (a b k : List ℕ) → compared a b ≡ Less → is_lt (compared b k) ≡ true → is_lt (compared a k) ≡ true
lt_below a b k l m = ap is_lt (nat_list_cmp_total.trans a b k l (less_is (compared b k) m))

pub lt_above : (a b k : List ℕ) → compared a b ≡ Less → is_lt (compared a k) ≡ false → is_lt (compared b k) ≡ false
lt_above a b k l m = elim (cases_Bool (is_lt (compared b k))) [
  | inr n ↦ n
  | inl y ↦ absurd (false≢true (sym m ∙ lt_below a b k l y))
]

-- the test of one key, carried to those before it or after it
pub before_more : (r : Rows) (key : List ℕ) (middle : ℕ) → AreRising r → middle < count r
    → is_lt (compared (key_at r middle) key) ≡ true
    → (i : ℕ) → i < middle + 1 → is_lt (compared (key_at r i) key) ≡ true
before_more r key middle rise within lower i h = elim (cases_lt i middle) [
  | inl lt ↦ lt_below (key_at r i) (key_at r middle) key (rise i middle lt within) lower
  | inr le ↦ let e : i ≡ middle = omega arith in rw e lower
]

pub behind_more : (r : Rows) (key : List ℕ) (middle : ℕ) → AreRising r → is_lt (compared (key_at r middle) key) ≡ false
    → (i : ℕ) → middle ≤ i → i < count r → is_lt (compared (key_at r i) key) ≡ false
behind_more r key middle rise upper i h within = elim (cases_lt middle i) [
  | inl lt ↦ lt_above (key_at r middle) (key_at r i) key (rise middle i lt within) upper
  | inr le ↦ let e : i ≡ middle = omega arith in rw e upper
]

pub told : (o p : Ordering) (r v : Bool) → o ≡ p → r ≡ is_lt o → r ≡ v → is_lt p ≡ v
told o p r v e f g = rw (← e) (sym f ∙ g)

pub le_lt : (a b k : List ℕ) → is_le (compared a b) ≡ true → is_lt (compared b k) ≡ true → is_lt (compared a k) ≡ true
le_lt a b k h m = go (compared a b) refl h
  where
    go : (o : Ordering) → compared a b ≡ o → is_le o ≡ true → is_lt (compared a k) ≡ true
    go Less e h = lt_below a b k e m
    go Equal e h = ap is_lt (nat_list_cmp_total.congr a b k e) ∙ m
    go Greater e h = absurd (false≢true h)

pub ge_ge : (a b k : List ℕ) → is_lt (compared a b) ≡ false → is_lt (compared b k) ≡ false
    → is_lt (compared a k) ≡ false
ge_ge a b k h m = go (compared a b) refl h
  where
    go : (o : Ordering) → compared a b ≡ o → is_lt o ≡ false → is_lt (compared a k) ≡ false
    go Less e h = absurd (false≢true (sym h))
    go Equal e h = ap is_lt (nat_list_cmp_total.congr a b k e) ∙ m
    go Greater e h = lt_above b a k (nat_list_cmp_total.antisymm b a ∙ ap ordering_reverse e) m

-- the place of the first owner, by the number of keys_of before
below : (owners : List (List (List ℕ))) (r : Rows) (key : List ℕ) (found : ℕ) → IsIndex owners r
    → IsPlaceAmong key r found → found ≤ count r
    → (j : ℕ) (d : List (List ℕ)) → j < slice_index r.firsts found
    → is_lt (compared (key_of (get_or owners j d)) key) ≡ true
below owners r key zero index among within j d h = absurd (omega (arith, index.first))
below owners r key (suc q) index among within j d h =
    let e : suc q ≡ q + 1 = omega arith in
    le_lt (key_of (get_or owners j d)) (key_at r q) key (index.upto q j d (omega arith) (rw e at h))
    (among.before q (omega arith))

above : (owners : List (List (List ℕ))) (r : Rows) (key : List ℕ) (found : ℕ) → IsIndex owners r
    → IsPlaceAmong key r found → found ≤ count r
    → (j : ℕ) (d : List (List ℕ)) → slice_index r.firsts found ≤ j → j < length owners
    → is_lt (compared (key_of (get_or owners j d)) key) ≡ false
above owners r key found index among within j d h k = elim (cases_lt found (count r)) [
  | inl lt ↦ ge_ge (key_of (get_or owners j d)) (key_at r found) key (index.behind found j d lt h k)
      (among.behind found (omega arith) lt)
  | inr le ↦ let e : found ≡ count r = omega arith in
      let f : slice_index r.firsts (count r) ≤ j = rw e at h in
      absurd (omega (arith, index.total_is))
]

pub first_place : (name : List (List ℕ)) (owners : List (List (List ℕ))) (r : Rows) (key : List ℕ) (found place : ℕ)
    → key ≡ key_of name → IsIndex owners r
    → IsPlaceAmong key r found → found ≤ count r → place ≡ slice_index r.firsts found → IsFirstOf name owners place
first_place name owners r key found place is index among within e = (
  λ j d low lt. ap is_lt (sym (key_order (get_or owners j d) name))
      ∙ rw (← is) (below owners r key found index among within j d (omega arith)),
  λ j d low high. ap is_lt (sym (key_order (get_or owners j d) name))
      ∙ rw (← is) (above owners r key found index among within j d (omega arith) high),
)

-- where there is an owner with the key, its records end before those of the next
lt_le : (o : Ordering) → is_lt o ≡ true → is_le o ≡ true
lt_le Less h = refl
lt_le Equal h = absurd (false≢true h)
lt_le Greater h = absurd (false≢true h)

more_not_le : (a b k : List ℕ) → compared k b ≡ Less → is_lt (compared a b) ≡ false → is_le (compared a k) ≡ false
more_not_le a b k l m = go (compared a k) refl
  where
    go : (o : Ordering) → compared a k ≡ o → is_le o ≡ false
    go Less e = absurd (false≢true (sym m ∙ ap is_lt (nat_list_cmp_total.trans a k b e l)))
    go Equal e = absurd (false≢true (sym m ∙ ap is_lt (nat_list_cmp_total.congr a k b e ∙ l)))
    go Greater e = refl

-- a key that isn't before another and isn't it comes after it
behind_key : (a k : List ℕ) → is_lt (compared a k) ≡ false → (a ≡ k → ⊥) → compared k a ≡ Less
behind_key a k low other = go (compared a k) refl low
  where
    go : (o : Ordering) → compared a k ≡ o → is_lt o ≡ false → compared k a ≡ Less
    go Less e h = absurd (false≢true (sym h))
    go Equal e h = absurd (other (slice_cmp-IsAntisymmetric nat_cmp-IsAntisymmetric a k e))
    go Greater e h = nat_list_cmp_total.antisymm k a ∙ ap ordering_reverse e

module _ (name : List (List ℕ)) (owners : List (List (List ℕ))) (r : Rows) (key : List ℕ) (found : ℕ)
    (is : key ≡ key_of name) (index : IsIndex owners r) where
  by_key : (j : ℕ) (d : List (List ℕ)) (v : Bool) → is_le (compared (key_of (get_or owners j d)) key) ≡ v
      → is_le (canonical_order (get_or owners j d) name) ≡ v
  by_key j d v h = ap is_le (sym (key_order (get_or owners j d) name)) ∙ rw is at h

  end_upto : key_at r found ≡ key → found < count r → (j : ℕ) (d : List (List ℕ))
      → j < slice_index r.firsts (found + 1) → is_le (canonical_order (get_or owners j d) name) ≡ true
  end_upto same within j d k = by_key j d true (rw (← same) (index.upto found j d within k))

  end_behind : key_at r found ≡ key → found < count r → (j : ℕ) (d : List (List ℕ)) → slice_index r.firsts (found + 1)
      ≤ j → j < length owners → is_le (canonical_order (get_or owners j d) name) ≡ false
  end_behind same within j d h k = elim (cases_lt (found + 1) (count r)) [
    | inl more ↦
        let next : compared key (key_at r (found + 1)) ≡ Less =
        rw (← same) (index.rise found (found + 1) (omega arith) more) in
        by_key j d false (more_not_le (key_of (get_or owners j d)) (key_at r (found + 1)) key next
        (index.behind (found + 1) j d more h k))
    | inr none ↦
        let e : found + 1 ≡ count r = omega arith in
        let f : slice_index r.firsts (count r) ≤ j = rw e at h in
        absurd (omega (arith, index.total_is))
  ]

  pub end_of_owner : key_at r found ≡ key → found < count r → IsEndOf name owners (slice_index r.firsts (found + 1))
  end_of_owner same within = (
    λ j d h k. end_upto same within j d k,
    λ j d h k. end_behind same within j d h k,
  )

  -- where there is none, they would end where they begin
  pub end_of_none : IsPlaceAmong key r found → found ≤ count r → (found < count r → key_at r found ≡ key → ⊥)
      → IsEndOf name owners (slice_index r.firsts found)
  end_of_none among within other = (
    λ j d h k. by_key j d true
        (lt_le (compared (key_of (get_or owners j d)) key) (below owners r key found index among within j d k)),
    λ j d h k. elim (cases_lt found (count r)) [
      | inl lt ↦
          by_key j d false (more_not_le (key_of (get_or owners j d)) (key_at r found) key (behind_key
          (key_at r found) key (among.behind found (omega arith) lt) (other lt)) (index.behind found j d lt h k))
      | inr le ↦ let e : found ≡ count r = omega arith in
          let f : slice_index r.firsts (count r) ≤ j = rw e at h in
          absurd (omega (arith, index.total_is))
    ],
  )

-- the run of the owner of a number
equal_is : (o : Ordering) → is_le o ≡ true → is_lt o ≡ false → o ≡ Equal
equal_is Less h m = absurd (false≢true (sym m))
equal_is Equal h m = refl
equal_is Greater h m = absurd (false≢true h)

module _ (owners : List (List (List ℕ))) (r : Rows) (number : ℕ) (index : IsIndex owners r) (within : number < count r)
    (ends : slice_index r.firsts (number + 1) ≤ length owners) where
  own_key : (d : List (List ℕ)) → key_at r number ≡ key_of (get_or owners (slice_index r.firsts number) d)
  own_key d =
      let j = slice_index r.firsts number in
      let k = key_of (get_or owners j d) in
      let grow = index.grow number within in
      sym (slice_cmp-IsAntisymmetric nat_cmp-IsAntisymmetric k (key_at r number)
      (equal_is (compared k (key_at r number)) (index.upto number j d within grow)
      (index.behind number j d within (omega arith) (omega (arith, grow, ends)))))

  own_place : (d : List (List ℕ)) → IsPlaceAmong (key_of (get_or owners (slice_index r.firsts number) d)) r number
  own_place d =
      let key = key_of (get_or owners (slice_index r.firsts number) d) in
      let same : key_at r number ≡ key = own_key d in
      record {
        before = λ i lt. ap is_lt (rw same at (index.rise i number lt within));
        behind = λ i le lt. behind_more r key number index.rise
            (rw same (ap is_lt (tied_itself nat_list_cmp_total key))) i le lt;
      }

  pub run_is : IsRun owners (slice_index r.firsts number) (slice_index r.firsts (number + 1))
  run_is = record {
    some = index.grow number within;
    within = ends;
    first = λ d. first_place (get_or owners (slice_index r.firsts number) d) owners r
        (key_of (get_or owners (slice_index r.firsts number) d)) number (slice_index r.firsts number) refl index
        (own_place d) (omega (arith, within)) refl;
    last = λ d. end_of_owner (get_or owners (slice_index r.firsts number) d) owners r
        (key_of (get_or owners (slice_index r.firsts number) d)) number refl index (own_key d) within;
  }

-- a search and one comparison more
pub takes_at_most : (n m t taken : ℕ) → n ≤ m → 2 ^ t ≤ 2 * n + 1 → taken ≤ t + 1 → TakesAtMost m taken
takes_at_most n m t taken few search le bits h = elim (cases_lt t (bits + 1)) [
  | inl lt ↦ omega arith
  | inr ge ↦ let m : 2 ^ (bits + 1) ≤ 2 ^ t = pow_mono ge in absurd (omega arith)
]

-- a comparison where there is a key
pub one_more : (n m old new : ℕ) → n ≤ m → (n < m → new ≡ old + 1) → (n ≡ m → new ≡ old) → new ≤ old + 1
one_more n m old new le one none = elim (cases_lt n m) [
  | inl lt ↦ omega (arith, one lt)
  | inr ge ↦ omega (arith, none (omega arith))
]

pub none_less : (n m old new : ℕ) → n ≤ m → (n < m → new ≡ old + 1) → (n ≡ m → new ≡ old) → old ≤ new
none_less n m old new le one none = elim (cases_lt n m) [
  | inl lt ↦ omega (arith, one lt)
  | inr ge ↦ omega (arith, none (omega arith))
]

-- the test of a number's key
pub has_it : (n m : ℕ) (a b : List ℕ) → nat_lt n m && is_eq (compared a b) ≡ true → (n < m) × (a ≡ b)
has_it n m a b h = (
  (let t = first_so (nat_lt n m) (is_eq (compared a b)) h in grind (arith, nat_tests)),
  slice_cmp-IsAntisymmetric nat_cmp-IsAntisymmetric a b
      ((Equal-is (compared a b)).0 (second_so (nat_lt n m) (is_eq (compared a b)) h)),
)

pub has_other : (n m : ℕ) (a b : List ℕ) → nat_lt n m && is_eq (compared a b) ≡ false → n < m → a ≡ b → ⊥
has_other n m a b h within same =
    let t : nat_lt n m ≡ true = grind (arith, nat_tests) in
    let e : is_eq (compared a b) ≡ true = (Equal-is (compared a b)).1 (rw same (tied_itself nat_list_cmp_total b)) in
    false≢true (sym (rw (t, e) at h))
