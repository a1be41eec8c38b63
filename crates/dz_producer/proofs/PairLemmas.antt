-- What holds of each two elements of a list.
use Rattle.std.proofs.Common.{◌≡◌, Bool, true, false, not, ◌||◌, List, [], ◌∷◌, ◌++◌, map, refl, ◌∙◌, ap, inl, inr}
use Rattle.std.specs.Prelude.{filter, if◌then◌else◌, ⊤}
use Rattle.std.specs.List.{AllByRecursion, list_any, flat_map}
use Rattle.std.proofs.lemmas.Bool.{cases_Bool, or_parts}
use Rattle.std.proofs.lemmas.List.Folds.{list_any-append}
use Rattle.dz_record.specs.Record.{Record, same_record}
use Rattle.dz_record.specs.Records.{distinct}
use Rattle.dz_zone.specs.Valid.{some_two}
use Rattle.dz_zone.proofs.Ordered.{puts, put}
use Rattle.dz_member.specs.Sorting.{insert_by, sorted_by}
use Rattle.dz_settings.specs.Twice.{has_twice}

pub or_false : (a b : Bool) → a ≡ false → b ≡ false → (a || b) ≡ false
or_false a b p q = rw (p, q) refl

-- ---- each element and each later one
abbrev pub Pairs : {X : Type 0} → (X → X → Type 0) → List X → Type 0
Pairs R [] = ⊤
Pairs R (x ∷ xs) = AllByRecursion (R x) xs × Pairs R xs

pub each_more : {X : Type 0} (P Q : X → Type 0) → ((x : X) → P x → Q x) → (xs : List X) → AllByRecursion P xs
    → AllByRecursion Q xs
each_more P Q f [] h = tt
each_more P Q f (x ∷ xs) h = (f x h.0, each_more P Q f xs h.1)

pub each_differs : {X : Type 0} (p : X → Bool) (xs : List X) → list_any p xs ≡ false
    → AllByRecursion (λ y. p y ≡ false) xs
each_differs p [] h = tt
each_differs p (x ∷ xs) h = let parts = or_parts (p x) (list_any p xs) h in (parts.0, each_differs p xs parts.1)

pub any_no : {X : Type 0} (p : X → Bool) (xs : List X) → AllByRecursion (λ y. p y ≡ false) xs → list_any p xs ≡ false
any_no p [] h = refl
any_no p (x ∷ xs) h = or_false (p x) (list_any p xs) h.0 (any_no p xs h.1)

pub pairs_differ : {X : Type 0} (same : X → X → Bool) (R : X → X → Type 0) → ((x y : X) → same x y ≡ false → R x y)
    → (xs : List X) → has_twice same xs ≡ false → Pairs R xs
pairs_differ same R f [] h = tt
pairs_differ same R f (x ∷ xs) h =
    let parts = or_parts (list_any (λ y. same x y) xs) (has_twice same xs) h in (
      each_more (λ y. same x y ≡ false) (R x) (f x) xs (each_differs (λ y. same x y) xs parts.0),
      pairs_differ same R f xs parts.1,
    )

-- ---- sorting
pub all_insert : {X : Type 0} (lt : X → X → Bool) (P : X → Type 0) (x : X) (ys : List X) → P x → AllByRecursion P ys
    → AllByRecursion P (insert_by lt x ys)
all_insert lt P x [] p h = (p, tt)
all_insert lt P x (y ∷ ys) p h =
    elim (lt y x) as (λ b. AllByRecursion P (if b then y ∷ insert_by lt x ys else x ∷ y ∷ ys)) [
      | true ↦ (h.0, all_insert lt P x ys p h.1)
      | false ↦ (p, h)
    ]

pub all_sorted : {X : Type 0} (lt : X → X → Bool) (P : X → Type 0) (xs : List X) → AllByRecursion P xs
    → AllByRecursion P (sorted_by lt xs)
all_sorted lt P [] h = tt
all_sorted lt P (x ∷ xs) h = all_insert lt P x (sorted_by lt xs) h.0 (all_sorted lt P xs h.1)

-- a map that keeps the order of each two
put_map : {X Y : Type 0} (f : X → Y) (lt : X → X → Bool) (before : Y → Y → Bool) (x : X) (ys : List X)
    → AllByRecursion (λ y. before (f y) (f x) ≡ lt y x) ys → put before (f x) (map f ys) ≡ map f (insert_by lt x ys)
unfolding put
put_map f lt before x [] h = refl
put_map f lt before x (y ∷ ys) h =
    elim (cases_Bool (lt y x)) [
      | inl t ↦ rw (h.0, t) (ap (λ zs. f y ∷ zs) (put_map f lt before x ys h.1))
      | inr n ↦ rw (h.0, n) refl
    ]

pub puts_map : {X Y : Type 0} (f : X → Y) (lt : X → X → Bool) (before : Y → Y → Bool) (xs : List X)
    → Pairs (λ x y. before (f y) (f x) ≡ lt y x) xs → puts before (map f xs) ≡ map f (sorted_by lt xs)
unfolding puts
puts_map f lt before [] h = refl
puts_map f lt before (x ∷ xs) h =
    ap (put before (f x)) (puts_map f lt before xs h.1)
    ∙ put_map f lt before x (sorted_by lt xs) (all_sorted lt (λ y. before (f y) (f x) ≡ lt y x) xs h.0)

insert_map : {X : Type 0} (f : X → X) (lt : X → X → Bool) → ((x y : X) → lt (f y) (f x) ≡ lt y x)
    → (x : X) (ys : List X) → insert_by lt (f x) (map f ys) ≡ map f (insert_by lt x ys)
insert_map f lt keeps x [] = refl
insert_map f lt keeps x (y ∷ ys) =
    elim (cases_Bool (lt y x)) [
      | inl t ↦ rw (keeps x y, t) (ap (λ zs. f y ∷ zs) (insert_map f lt keeps x ys))
      | inr n ↦ rw (keeps x y, n) refl
    ]

pub sorted_map : {X : Type 0} (f : X → X) (lt : X → X → Bool) → ((x y : X) → lt (f y) (f x) ≡ lt y x) → (xs : List X)
    → sorted_by lt (map f xs) ≡ map f (sorted_by lt xs)
sorted_map f lt keeps [] = refl
sorted_map f lt keeps (x ∷ xs) = ap (insert_by lt (f x)) (sorted_map f lt keeps xs)
    ∙ insert_map f lt keeps x (sorted_by lt xs)

-- what comes twice after sorting came twice before
or_swap : (a b c : Bool) → (a || (b || c)) ≡ (b || (a || c))
or_swap true true c = refl
or_swap true false c = refl
or_swap false b c = refl

any_insert : {X : Type 0} (lt : X → X → Bool) (p : X → Bool) (x : X) (ys : List X)
    → list_any p (insert_by lt x ys) ≡ (p x || list_any p ys)
any_insert lt p x [] = refl
any_insert lt p x (y ∷ ys) =
    elim (cases_Bool (lt y x)) [
      | inl t ↦ rw t (ap (λ b. p y || b) (any_insert lt p x ys) ∙ or_swap (p y) (p x) (list_any p ys))
      | inr n ↦ rw n refl
    ]

twice_bits : (a b c d : Bool) → ((a || b) || (c || d)) ≡ ((a || c) || (b || d))
twice_bits true b c d = refl
twice_bits false true true d = refl
twice_bits false true false d = refl
twice_bits false false true d = refl
twice_bits false false false d = refl

twice_insert : {X : Type 0} (lt same : X → X → Bool) → ((x y : X) → same x y ≡ same y x) → (x : X) (ys : List X)
    → has_twice same (insert_by lt x ys) ≡ (list_any (λ y. same x y) ys || has_twice same ys)
twice_insert lt same turns x [] = refl
twice_insert lt same turns x (y ∷ ys) =
    elim (cases_Bool (lt y x)) [
      | inl t ↦
          rw t (ap (λ b. b || has_twice same (insert_by lt x ys))
          (any_insert lt (λ z. same y z) x ys ∙ ap (λ b. b || list_any (λ z. same y z) ys) (turns y x))
          ∙ (ap (λ b. (same x y || list_any (λ z. same y z) ys) || b) (twice_insert lt same turns x ys)
          ∙ twice_bits (same x y) (list_any (λ z. same y z) ys) (list_any (λ z. same x z) ys) (has_twice same ys)))
      | inr n ↦ rw n refl
    ]

pub any_sorted : {X : Type 0} (lt : X → X → Bool) (p : X → Bool) (xs : List X)
    → list_any p (sorted_by lt xs) ≡ list_any p xs
any_sorted lt p [] = refl
any_sorted lt p (x ∷ xs) = any_insert lt p x (sorted_by lt xs) ∙ ap (λ b. p x || b) (any_sorted lt p xs)

pub twice_sorted : {X : Type 0} (lt same : X → X → Bool) → ((x y : X) → same x y ≡ same y x) → (xs : List X)
    → has_twice same (sorted_by lt xs) ≡ has_twice same xs
twice_sorted lt same turns [] = refl
twice_sorted lt same turns (x ∷ xs) =
    twice_insert lt same turns x (sorted_by lt xs)
    ∙ (ap (λ b. b || has_twice same (sorted_by lt xs)) (any_sorted lt (λ y. same x y) xs)
    ∙ ap (λ b. list_any (λ y. same x y) xs || b) (twice_sorted lt same turns xs))

-- ---- no two of a list
pub two_append : {X : Type 0} (test : X → X → Bool) (xs ys : List X) → some_two test xs ≡ false
    → some_two test ys ≡ false → AllByRecursion (λ x. list_any (test x) ys ≡ false) xs
    → some_two test (xs ++ ys) ≡ false
unfolding some_two
two_append test [] ys p q h = q
two_append test (x ∷ xs) ys p q h =
    let parts = or_parts (list_any (test x) xs) (some_two test xs) p in
    or_false (list_any (test x) (xs ++ ys)) (some_two test (xs ++ ys)) (list_any-append (test x) xs ys
    ∙ or_false (list_any (test x) xs) (list_any (test x) ys) parts.0 h.0) (two_append test xs ys parts.1 q h.1)

any_flat : {X Y : Type 0} (f : X → List Y) (p : Y → Bool) (xs : List X)
    → AllByRecursion (λ x. list_any p (f x) ≡ false) xs → list_any p (flat_map f xs) ≡ false
any_flat f p [] h = refl
any_flat f p (x ∷ xs) h = list_any-append p (f x) (flat_map f xs)
    ∙ or_false (list_any p (f x)) (list_any p (flat_map f xs)) h.0 (any_flat f p xs h.1)

turned : {X Y : Type 0} (P : Y → X → Type 0) (ys : List Y) (xs : List X)
    → AllByRecursion (λ x. AllByRecursion (λ y. P y x) ys) xs → AllByRecursion (λ y. AllByRecursion (λ x. P y x) xs) ys
turned P [] xs h = tt
turned P (y ∷ ys) xs h = (
  each_more (λ x. AllByRecursion (λ z. P z x) (y ∷ ys)) (λ x. P y x) (λ x k. k.0) xs h,
  turned P ys xs
      (each_more (λ x. AllByRecursion (λ z. P z x) (y ∷ ys)) (λ x. AllByRecursion (λ z. P z x) ys) (λ x k. k.1) xs h),
)

pub two_flat : {X Y : Type 0} (f : X → List Y) (test : Y → Y → Bool) (xs : List X)
    → AllByRecursion (λ x. some_two test (f x) ≡ false) xs
    → Pairs (λ x z. AllByRecursion (λ y. list_any (test y) (f z) ≡ false) (f x)) xs
    → some_two test (flat_map f xs) ≡ false
unfolding some_two
two_flat f test [] each h = refl
two_flat f test (x ∷ xs) each h =
    two_append test (f x) (flat_map f xs) each.0 (two_flat f test xs each.1 h.1)
    (each_more (λ y. AllByRecursion (λ z. list_any (test y) (f z) ≡ false) xs)
    (λ y. list_any (test y) (flat_map f xs) ≡ false) (λ y k. any_flat f (test y) xs k) (f x)
    (turned (λ y z. list_any (test y) (f z) ≡ false) (f x) xs h.0))

-- records no two of which are the same
none_out : (r : Record) (rs : List Record) → list_any (same_record r) rs ≡ false
    → filter (λ s. not (same_record r s)) rs ≡ rs
none_out r [] h = refl
none_out r (s ∷ ss) h =
    let parts = or_parts (same_record r s) (list_any (same_record r) ss) h in
    rw parts.0 (ap (λ xs. s ∷ xs) (none_out r ss parts.1))

pub all_distinct : (rs : List Record) → some_two same_record rs ≡ false → distinct rs ≡ rs
unfolding some_two distinct
all_distinct [] h = refl
all_distinct (r ∷ rs) h =
    let parts = or_parts (list_any (same_record r) rs) (some_two same_record rs) h in
    ap (λ xs. r ∷ filter (λ s. not (same_record r s)) xs) (all_distinct rs parts.1)
    ∙ ap (λ xs. r ∷ xs) (none_out r rs parts.0)
