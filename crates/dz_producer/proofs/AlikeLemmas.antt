-- Lists of records that agree on those that are the same, and lists without two that are the same.
use Rattle.std.proofs.Common.{◌≡◌, ℕ, ◌+◌, ◌≤◌, Bool, true, false, not, List, [], ◌∷◌, ◌++◌, length, map, refl, sym}
use Rattle.std.proofs.Common.{◌∙◌, ap, subst, arith, length-append, inl, inr}
use Rattle.std.specs.Prelude.{filter}
use Rattle.std.specs.List.{list_any, flat_map}
use Rattle.std.specs.List.Sorted.{ties}
use Rattle.std.proofs.lemmas.Bool.{cases_Bool, or_parts}
use Rattle.std.proofs.lemmas.List.Elements.{filter-append}
use Rattle.dz_record.specs.Record.{Record, same_record, record_octets}
use Rattle.dz_record.specs.Records.{distinct, in_order}
use Rattle.dz_member.specs.Sorting.{insert_by, sorted_by}
use Rattle.dz_zone.specs.Valid.{some_two}
use Rattle.dz_zone.proofs.Ordered.{puts, first_of, alike, ascends_puts, puts_keep}
use Rattle.dz_zone.proofs.Pairs.{any_puts, length_puts}
use Rattle.dz_zone.proofs.RecordLemmas.{before, before_ranks, same_before, in_order_puts}
use Rattle.dz_zonemd.specs.Digested.{digested, is_left_out}
use Rattle.dz_producer.proofs.CanonicalLemmas.{canonical_same, same_parts}
use Rattle.dz_producer.proofs.ListingLemmas.{two_filters}
use Rattle.dz_producer.proofs.PairLemmas.{each_differs, each_more}
use Rattle.dz_producer.proofs.RecordLemmas.{none_kept}

-- of each record the same ones are there, in one order
abbrev pub Alike : List Record → List Record → Type 0
Alike rs ss = (z : Record) → filter (same_record z) rs ≡ filter (same_record z) ss

-- no two are the same
abbrev pub Once : List Record → Type 0
Once rs = (z : Record) → length (filter (same_record z) rs) ≤ 1

-- ---- what lists that are alike share
as_ties : (z : Record) → same_record z ≡ ties before z
as_ties z = λ i s. same_before z s i

tied_alike : (rs ss : List Record) → Alike rs ss → (z : Record) → filter (ties before z) rs ≡ filter (ties before z) ss
tied_alike rs ss h z = subst (λ (p : Record → Bool). filter p rs ≡ filter p ss) (as_ties z) (h z)

-- the canonical zone
pub canonical_alike : (rs ss : List Record) → Alike rs ss → in_order (distinct rs) ≡ in_order (distinct ss)
canonical_alike rs ss h = canonical_same rs ss (λ z. ap first_of (tied_alike rs ss h z))

-- the records in order
pub order_alike : (rs ss : List Record) → Alike rs ss → in_order rs ≡ in_order ss
order_alike rs ss h =
    in_order_puts rs
    ∙ (alike before before_ranks (puts before rs) (puts before ss) (ascends_puts before before_ranks rs)
    (ascends_puts before before_ranks ss)
    (λ z. puts_keep before before_ranks z rs ∙ (tied_alike rs ss h z ∙ sym (puts_keep before before_ranks z ss))) ∙ sym
    (in_order_puts ss))

pub in_order_alike : (rs : List Record) → Alike (in_order rs) rs
in_order_alike rs z =
    let tied : filter (ties before z) (in_order rs) ≡ filter (ties before z) rs =
    ap (filter (ties before z)) (in_order_puts rs) ∙ puts_keep before before_ranks z rs in
    subst (λ (p : Record → Bool). filter p (in_order rs) ≡ filter p rs) (sym (as_ties z)) tied

-- whether some passes a test
any_in_order : (p : Record → Bool) (rs : List Record) → list_any p (in_order rs) ≡ list_any p rs
any_in_order p rs = ap (list_any p) (in_order_puts rs) ∙ any_puts before p rs

pub any_alike : (p : Record → Bool) (rs ss : List Record) → Alike rs ss → list_any p rs ≡ list_any p ss
any_alike p rs ss h = sym (any_in_order p rs) ∙ (ap (list_any p) (order_alike rs ss h) ∙ any_in_order p ss)

-- how many there are
length_in_order : (rs : List Record) → length (in_order rs) ≡ length rs
length_in_order rs = ap (λ (xs : List Record). length xs) (in_order_puts rs) ∙ length_puts before rs

pub length_alike : (rs ss : List Record) → Alike rs ss → length rs ≡ length ss
length_alike rs ss h =
    sym (length_in_order rs) ∙ (ap (λ (xs : List Record). length xs) (order_alike rs ss h) ∙ length_in_order ss)

-- what passes a test
pub filter_alike : (p : Record → Bool) (rs ss : List Record) → Alike rs ss → Alike (filter p rs) (filter p ss)
filter_alike p rs ss h z = two_filters (same_record z) p rs ∙ (ap (filter p) (h z) ∙ two_filters p (same_record z) ss)

-- what is digested
pub digested_alike : (apex : List (List ℕ)) (rs ss : List Record) → Alike rs ss → digested apex rs ≡ digested apex ss
unfolding digested
digested_alike apex rs ss h =
    let keep = λ (r : Record). not (is_left_out apex r) in
    ap (flat_map record_octets) (canonical_alike (filter keep rs) (filter keep ss) (filter_alike keep rs ss h))

-- ---- lists in parts
pub append_alike : (xs ys us vs : List Record) → Alike xs ys → Alike us vs → Alike (xs ++ us) (ys ++ vs)
append_alike xs ys us vs h k z =
    filter-append (same_record z) xs us
    ∙ (ap (λ (l : List Record). l ++ filter (same_record z) us) (h z) ∙
    (ap (λ (l : List Record). filter (same_record z) ys ++ l) (k z) ∙ sym (filter-append (same_record z) ys vs)))

pub cons_alike : (r : Record) (rs ss : List Record) → Alike rs ss → Alike (r ∷ rs) (r ∷ ss)
cons_alike r rs ss h z = append_alike (r ∷ []) (r ∷ []) rs ss (λ w. refl) h z

three_kept : (p : Record → Bool) (xs ys zs : List Record)
    → filter p (xs ++ (ys ++ zs)) ≡ filter p xs ++ (filter p ys ++ filter p zs)
three_kept p xs ys zs =
    filter-append p xs (ys ++ zs) ∙ ap (λ (l : List Record). filter p xs ++ l) (filter-append p ys zs)

swap_short : {X : Type 0} (a b c : List X) → length (a ++ (b ++ c)) ≤ 1 → a ++ (b ++ c) ≡ b ++ (a ++ c)
swap_short [] b c h = refl
swap_short (x ∷ a) [] c h = refl
swap_short (x ∷ a) (y ∷ b) c h = absurd (omega (arith, length-append a (y ∷ (b ++ c))))

-- where no two are the same the order of the parts is free
pub swap_alike : (xs ys zs : List Record) → Once (xs ++ (ys ++ zs)) → Alike (xs ++ (ys ++ zs)) (ys ++ (xs ++ zs))
swap_alike xs ys zs once z =
    let p : Record → Bool = same_record z in
    let whole : filter p (xs ++ (ys ++ zs)) ≡ filter p xs ++ (filter p ys ++ filter p zs) = three_kept p xs ys zs in
    let few : length (filter p xs ++ (filter p ys ++ filter p zs)) ≤ 1 =
    subst (λ (l : List Record). length l ≤ 1) whole (once z) in
    whole ∙ (swap_short (filter p xs) (filter p ys) (filter p zs) few ∙ sym (three_kept p ys xs zs))

-- ---- no two that are the same
-- what is the same as a record is the same as those that are
pub same_as : (z r s : Record) → same_record z r ≡ true → same_record z s ≡ same_record r s
same_as z r s t =
    let same = same_parts z r t in
    λ i. same_record (record { owner = same.0 i; kind = same.1.0 i; ttl = z.ttl; rdata = same.1.1 i }) s

none_of : (z r : Record) (rs : List Record) → same_record z r ≡ true → list_any (same_record r) rs ≡ false
    → filter (same_record z) rs ≡ []
none_of z r rs t h =
    none_kept (same_record z) rs (each_more (λ s. same_record r s ≡ false) (λ s. same_record z s ≡ false)
    (λ s f. same_as z r s t ∙ f) rs (each_differs (same_record r) rs h))

pub once_from : (rs : List Record) → some_two same_record rs ≡ false → Once rs
unfolding some_two
once_from [] h z = omega arith
once_from (r ∷ rs) h z =
    let parts = or_parts (list_any (same_record r) rs) (some_two same_record rs) h in
    elim (cases_Bool (same_record z r)) [
      | inl t ↦ let none : filter (same_record z) rs ≡ [] = none_of z r rs t parts.0 in rw (t, none) (omega arith)
      | inr f ↦ rw f (once_from rs parts.1 z)
    ]

pub once_alike : (rs ss : List Record) → Alike rs ss → Once rs → Once ss
once_alike rs ss h once z = subst (λ (l : List Record). length l ≤ 1) (h z) (once z)

append_length : (p : Record → Bool) (xs ys : List Record)
    → length (filter p (xs ++ ys)) ≡ length (filter p xs) + length (filter p ys)
append_length p xs ys = ap (λ (l : List Record). length l) (filter-append p xs ys)
    ∙ length-append (filter p xs) (filter p ys)

pub once_front : (xs ys : List Record) → Once (xs ++ ys) → Once xs
once_front xs ys once z = let n = append_length (same_record z) xs ys in let few = once z in omega arith

pub once_back : (xs ys : List Record) → Once (xs ++ ys) → Once ys
once_back xs ys once z = let n = append_length (same_record z) xs ys in let few = once z in omega arith

pub once_without : (xs ys zs : List Record) → Once (xs ++ (ys ++ zs)) → Once (xs ++ zs)
once_without xs ys zs once z =
    let n = append_length (same_record z) xs (ys ++ zs) in
    let m = append_length (same_record z) ys zs in
    let k = append_length (same_record z) xs zs in
    let few = once z in
    omega arith

-- ---- sorting
module _ {X : Type 0} (f : X → List Record) (lt : X → X → Bool) where
  flat_insert : (x : X) (ys : List X) → Once (f x ++ flat_map f ys)
      → Alike (flat_map f (insert_by lt x ys)) (f x ++ flat_map f ys)
  flat_insert x [] once z = refl
  flat_insert x (y ∷ ys) once z =
      elim (cases_Bool (lt y x)) [
        | inl t ↦
            let behind : Alike (flat_map f (insert_by lt x ys)) (f x ++ flat_map f ys) =
            flat_insert x ys (once_without (f x) (f y) (flat_map f ys) once) in
            rw t (append_alike (f y) (f y) (flat_map f (insert_by lt x ys)) (f x ++ flat_map f ys) (λ w. refl) behind z
            ∙ sym
            (swap_alike (f x) (f y) (flat_map f ys) once z))
        | inr n ↦ rw n refl
      ]

  pub flat_sorted : (xs : List X) → Once (flat_map f xs) → Alike (flat_map f (sorted_by lt xs)) (flat_map f xs)
  flat_sorted [] once z = refl
  flat_sorted (x ∷ xs) once z =
      let rest : Alike (flat_map f (sorted_by lt xs)) (flat_map f xs) =
      flat_sorted xs (once_back (f x) (flat_map f xs) once) in
      let whole : Alike (f x ++ flat_map f (sorted_by lt xs)) (f x ++ flat_map f xs) =
      append_alike (f x) (f x) (flat_map f (sorted_by lt xs)) (flat_map f xs) (λ w. refl) rest in
      flat_insert x (sorted_by lt xs)
      (once_alike (f x ++ flat_map f xs) (f x ++ flat_map f (sorted_by lt xs)) (λ w. sym (whole w)) once) z ∙ whole z

map_flat : {X Y : Type 0} (h : X → Y) (xs : List X) → map h xs ≡ flat_map (λ x. h x ∷ []) xs
map_flat h [] = refl
map_flat h (x ∷ xs) = ap (λ ys. h x ∷ ys) (map_flat h xs)

pub map_sorted : {X : Type 0} (h : X → Record) (lt : X → X → Bool) (xs : List X) → Once (map h xs)
    → Alike (map h (sorted_by lt xs)) (map h xs)
map_sorted h lt xs once z =
    ap (filter (same_record z)) (map_flat h (sorted_by lt xs))
    ∙ (flat_sorted (λ x. h x ∷ []) lt xs (subst Once (map_flat h xs) once) z ∙ ap (filter (same_record z))
    (sym (map_flat h xs)))
