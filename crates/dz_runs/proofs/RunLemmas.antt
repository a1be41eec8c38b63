-- The elements that are looked for are one run of a list in order.
use Rattle.std.proofs.Common.{◌≡◌, ℕ, ◌+◌, ◌-◌, ◌<◌, ◌≤◌, Bool, true, false, List, [], ◌∷◌, ◌++◌, length, take, drop}
use Rattle.std.proofs.Common.{get_or, get_or-drop, refl, sym, ◌∙◌, ap, arith, length-drop, length-take-le, inl, inr}
use Rattle.std.specs.Prelude.{filter}
use Rattle.std.specs.List.{All}
use Rattle.std.specs.List.Sorted.{IsPartitionPoint, IsPartitionedBy, IsNonDecreasingBy}
use Rattle.std.specs.Ordering.{is_lt, is_le, is_eq, ordering_index}
use Rattle.std.specs.declared.cmp.Ordering.{Ordering}
use Rattle.std.specs.declared.cmp.Ordering.TheVariants.{Less, Equal, Greater}
use Rattle.std.proofs.lemmas.Bool.{cases_lt}
use Rattle.std.proofs.lemmas.List.{take-append-drop, append-nil, get_or-take, get_or_default}
use Rattle.std.proofs.lemmas.List.Elements.{filter-append, All-head, All-tail}

-- where no element passes, and where each does
pub filter_none : {X : Type 0} (p : X → Bool) (xs : List X) → All (λ x. p x ≡ false) xs → filter p xs ≡ []
filter_none p [] none = refl
filter_none p (x ∷ xs) none =
    rw (All-head (λ x. p x ≡ false) x xs none) (filter_none p xs (All-tail (λ x. p x ≡ false) x xs none))

filter_all : {X : Type 0} (p : X → Bool) (xs : List X) → All (λ x. p x ≡ true) xs → filter p xs ≡ xs
filter_all p [] each = refl
filter_all p (x ∷ xs) each =
    rw (All-head (λ x. p x ≡ true) x xs each)
    (ap (λ ys. x ∷ ys) (filter_all p xs (All-tail (λ x. p x ≡ true) x xs each)))

lt_is_le : (o : Ordering) → is_lt o ≡ true → is_le o ≡ true
lt_is_le Less h = refl
lt_is_le Equal h = refl
lt_is_le Greater h = absurd (cc)

lt_not_eq : (o : Ordering) → is_lt o ≡ true → is_eq o ≡ false
lt_not_eq Less h = refl
lt_not_eq Equal h = absurd (cc)
lt_not_eq Greater h = absurd (cc)

not_le_not_eq : (o : Ordering) → is_le o ≡ false → is_eq o ≡ false
not_le_not_eq Less h = absurd (cc)
not_le_not_eq Equal h = absurd (cc)
not_le_not_eq Greater h = refl

le_not_lt_eq : (o : Ordering) → is_lt o ≡ false → is_le o ≡ true → is_eq o ≡ true
le_not_lt_eq Less h k = absurd (cc)
le_not_lt_eq Equal h k = refl
le_not_lt_eq Greater h k = absurd (cc)

-- the elements that are before what is looked for end no later than those that are before it or are it
pub points_rise : {X : Type 0} (ord : X → Ordering) (xs : List X) (i j : ℕ) → i ≤ length xs
    → IsPartitionPoint (λ y. is_lt (ord y) ≡ true) (λ y. is_lt (ord y) ≡ false) xs i
    → IsPartitionPoint (λ y. is_le (ord y) ≡ true) (λ y. is_le (ord y) ≡ false) xs j → i ≤ j
points_rise ord [] i j within low high = omega arith
points_rise ord (x ∷ xs) i j within low high = elim (cases_lt j i) [
  | inr le ↦ le
  | inl lt ↦
      let a : is_le (ord (get_or (x ∷ xs) j x)) ≡ true =
      lt_is_le (ord (get_or (x ∷ xs) j x)) (low.0 j x (omega arith) lt) in
      let b : is_le (ord (get_or (x ∷ xs) j x)) ≡ false = high.1 j x (omega arith) (omega arith) in
      absurd (cc)
]

-- what is between the two is what is looked for
pub run_is : {X : Type 0} (ord : X → Ordering) (xs : List X) (i j : ℕ) → i ≤ length xs → j ≤ length xs
    → IsPartitionPoint (λ y. is_lt (ord y) ≡ true) (λ y. is_lt (ord y) ≡ false) xs i
    → IsPartitionPoint (λ y. is_le (ord y) ≡ true) (λ y. is_le (ord y) ≡ false) xs j
    → take (j - i) (drop i xs) ≡ filter (λ y. is_eq (ord y)) xs
run_is {X} ord xs i j low_in high_in low high =
    let le : i ≤ j = points_rise ord xs i j low_in low high in
    let rest = drop i xs in
    let n : length (take (j - i) rest) ≡ j - i = length-take-le (j - i) rest (omega (arith, length-drop i xs)) in
    let front : filter (λ y. is_eq (ord y)) (take i xs) ≡ [] =
    filter_none (λ y. is_eq (ord y)) (take i xs) (λ k d h.
    let m : k < i = omega (arith, length-take-le i xs low_in) in
    rw (get_or-take i xs k d m) (lt_not_eq (ord (get_or xs k d)) (low.0 k d (omega arith) m))) in
    let middle : filter (λ y. is_eq (ord y)) (take (j - i) rest) ≡ take (j - i) rest =
    filter_all (λ y. is_eq (ord y)) (take (j - i) rest) (λ k d h.
    let m : k < j - i = omega arith in
    rw (get_or-take (j - i) rest k d m, get_or-drop i xs k d)
    (le_not_lt_eq (ord (get_or xs (i + k) d)) (low.1 (i + k) d (omega arith) (omega arith))
    (high.0 (i + k) d (omega arith) (omega arith)))) in
    let back : filter (λ y. is_eq (ord y)) (drop (j - i) rest) ≡ [] =
    filter_none (λ y. is_eq (ord y)) (drop (j - i) rest) (λ k d h.
    let m : i + ((j - i) + k) ≡ j + k = omega arith in
    let len : j + k < length xs = omega (arith, length-drop (j - i) rest, length-drop i xs) in
    rw (get_or-drop (j - i) rest k d, get_or-drop i xs ((j - i) + k) d, m)
    (not_le_not_eq (ord (get_or xs (j + k) d)) (high.1 (j + k) d (omega arith) len))) in
    let parts : filter (λ y. is_eq (ord y)) xs
    ≡ filter (λ y. is_eq (ord y)) (take i xs) ++ filter (λ y. is_eq (ord y)) rest =
    ap (filter (λ y. is_eq (ord y))) (sym (take-append-drop i xs))
    ∙ filter-append (λ y. is_eq (ord y)) (take i xs) rest in
    let more : filter (λ y. is_eq (ord y)) rest
    ≡ filter (λ y. is_eq (ord y)) (take (j - i) rest) ++ filter (λ y. is_eq (ord y)) (drop (j - i) rest) =
    ap (filter (λ y. is_eq (ord y))) (sym (take-append-drop (j - i) rest))
    ∙ filter-append (λ y. is_eq (ord y)) (take (j - i) rest) (drop (j - i) rest) in
    sym (parts ∙ rw (front, more, middle, back) (append-nil (take (j - i) rest)))

-- a search by an order that rises along the list splits it in two
index_lt : (o p : Ordering) → ordering_index o ≤ ordering_index p → is_lt p ≡ true → is_lt o ≡ true
index_lt Less p h k = refl
index_lt o Equal h k = absurd (cc)
index_lt o Greater h k = absurd (cc)
index_lt Equal Less h k = absurd (omega arith)
index_lt Greater Less h k = absurd (omega arith)

index_le : (o p : Ordering) → ordering_index o ≤ ordering_index p → is_le p ≡ true → is_le o ≡ true
index_le Less p h k = refl
index_le Equal p h k = refl
index_le o Greater h k = absurd (cc)
index_le Greater Less h k = absurd (omega arith)
index_le Greater Equal h k = absurd (omega arith)

pub partitioned_lt : {X : Type 0} (ord : X → Ordering) (xs : List X)
    → IsNonDecreasingBy (λ y. ordering_index (ord y)) xs → IsPartitionedBy (λ y. is_lt (ord y)) xs
partitioned_lt ord xs up i j d le within h =
    index_lt (ord (get_or xs i d)) (ord (get_or xs j d)) (up i j d le within) h

pub partitioned_le : {X : Type 0} (ord : X → Ordering) (xs : List X)
    → IsNonDecreasingBy (λ y. ordering_index (ord y)) xs → IsPartitionedBy (λ y. is_le (ord y)) xs
partitioned_le ord xs up i j d le within h =
    index_le (ord (get_or xs i d)) (ord (get_or xs j d)) (up i j d le within) h

-- where what is looked for begins, and all up to an element after it are what is looked for, it ends there
eq_is_le : (o : Ordering) → is_eq o ≡ true → is_le o ≡ true
eq_is_le Less h = absurd (cc)
eq_is_le Equal h = refl
eq_is_le Greater h = absurd (cc)

behind_not_le : (o p : Ordering) → is_lt o ≡ false → is_eq o ≡ false → ordering_index o ≤ ordering_index p
    → is_le p ≡ false
behind_not_le o Greater low other le = refl
behind_not_le Less p low other le = absurd (cc)
behind_not_le Equal p low other le = absurd (cc)
behind_not_le Greater Less low other le = absurd (omega arith)
behind_not_le Greater Equal low other le = absurd (omega arith)

pub run_ends : {X : Type 0} (ord : X → Ordering) (xs : List X) (i j : ℕ) (x : X)
    → IsNonDecreasingBy (λ y. ordering_index (ord y)) xs
    → IsPartitionPoint (λ y. is_lt (ord y) ≡ true) (λ y. is_lt (ord y) ≡ false) xs i → i ≤ j → j < length xs
    → ((k : ℕ) (d : X) → i ≤ k → k < j → is_eq (ord (get_or xs k d)) ≡ true) → is_eq (ord (get_or xs j x)) ≡ false
    → IsPartitionPoint (λ y. is_le (ord y) ≡ true) (λ y. is_le (ord y) ≡ false) xs j
run_ends ord xs i j x up low le inside between other = (
  λ k d h before. elim (cases_lt k i) [
    | inl lt ↦ lt_is_le (ord (get_or xs k d)) (low.0 k d h lt)
    | inr ge ↦ eq_is_le (ord (get_or xs k d)) (between k d ge before)
  ],
  λ k d behind h.
      let here : is_eq (ord (get_or xs j d)) ≡ false = rw (get_or_default xs j d x inside) other in
      behind_not_le (ord (get_or xs j d)) (ord (get_or xs k d)) (low.1 j d le inside) here (up j k d behind h),
)
