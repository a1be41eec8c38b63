-- Deletions and additions of records along lists that are alike.
use Rattle.std.proofs.Common.{◌≡◌, ◌≤◌, suc, Bool, true, false, not, ◌||◌, List, [], ◌∷◌, ◌++◌, length, refl, sym, ◌∙◌}
use Rattle.std.proofs.Common.{ap, subst, arith, append_assoc, append-nil, length-append, is_gt, is_eq, Ordering, Less}
use Rattle.std.proofs.Common.{Equal, Greater, inl, inr}
use Rattle.std.specs.Prelude.{filter}
use Rattle.std.specs.List.{list_any, flat_map}
use Rattle.std.proofs.lemmas.Bool.{cases_Bool, or_parts}
use Rattle.std.proofs.lemmas.List.Elements.{filter-append}
use Rattle.std.proofs.lemmas.List.Folds.{list_any-append}
use Rattle.dz_record.specs.Order.{records_equal, same_ties}
use Rattle.dz_record.specs.Record.{Record, same_record, record_order}
use Rattle.dz_record.specs.Records.{insertion}
use Rattle.dz_ixfr.specs.Incremental.{is_there, without, Deletes, Adds}
use Rattle.dz_producer.proofs.AlikeLemmas.{Alike, Once, any_alike, filter_alike, append_alike, cons_alike, swap_alike}
use Rattle.dz_producer.proofs.AlikeLemmas.{same_as, once_alike, once_back}

-- ---- a record and those after it
few_none : (p : Record → Bool) (rs : List Record) → length (filter p rs) ≤ 0 → list_any p rs ≡ false
few_none p [] h = refl
few_none p (r ∷ rs) h =
    elim (cases_Bool (p r)) [
      | inl t ↦ let more : suc (length (filter p rs)) ≤ 0 = rw t at h in absurd (omega arith)
      | inr f ↦ rw f (few_none p rs (rw f at h))
    ]

none_again : (r : Record) (rs : List Record) → Once (r ∷ rs) → list_any (same_record r) rs ≡ false
none_again r rs once =
    let few : suc (length (filter (same_record r) rs)) ≤ 1 = rw (records_equal.refl r) at (once r) in
    few_none (same_record r) rs (omega arith)

none_left_out : (r : Record) (rs : List Record) → list_any (same_record r) rs ≡ false
    → filter (λ s. not (same_record r s)) rs ≡ rs
none_left_out r [] h = refl
none_left_out r (s ∷ ss) h =
    let parts = or_parts (same_record r s) (list_any (same_record r) ss) h in rw parts.0
    (ap (λ (xs : List Record). s ∷ xs) (none_left_out r ss parts.1))

first_out : (r : Record) (rs : List Record) → Once (r ∷ rs) → without r (r ∷ rs) ≡ rs
first_out r rs once = rw (records_equal.refl r) (none_left_out r rs (none_again r rs once))

-- ---- records in two orders
swap_two : (s r : Record) (rs : List Record) → same_record r s ≡ false → Alike (s ∷ r ∷ rs) (r ∷ s ∷ rs)
swap_two s r rs apart z =
    elim (cases_Bool (same_record z r)) [
      | inl t ↦ let f : same_record z s ≡ false = same_as z r s t ∙ apart in rw (f, t) refl
      | inr f ↦ rw f refl
    ]

not_tied : (o : Ordering) → is_gt o ≡ true → is_eq o ≡ false
not_tied Less h = refl
not_tied Equal h = absurd (cc)
not_tied Greater h = refl

-- a record put in its place
pub insertion_alike : (r : Record) (rs : List Record) → Alike (insertion r rs) (r ∷ rs)
unfolding insertion
insertion_alike r [] z = refl
insertion_alike r (s ∷ ss) z =
    elim (cases_Bool (is_gt (record_order r s))) [
      | inl g ↦
          let apart : same_record r s ≡ false = same_ties r s ∙ not_tied (record_order r s) g in
          rw g (cons_alike s (insertion r ss) (r ∷ ss) (insertion_alike r ss) z ∙ swap_two s r ss apart z)
      | inr f ↦ rw f refl
    ]

short_swap : {X : Type 0} (a b : List X) → length (a ++ b) ≤ 1 → a ++ b ≡ b ++ a
short_swap [] b h = sym (append-nil b)
short_swap (x ∷ a) [] h = append-nil (x ∷ a)
short_swap (x ∷ a) (y ∷ b) h = absurd (omega (arith, length-append a (y ∷ b)))

pub swap_halves : (xs ys : List Record) → Once (xs ++ ys) → Alike (xs ++ ys) (ys ++ xs)
swap_halves xs ys once z =
    let p : Record → Bool = same_record z in
    let whole : filter p (xs ++ ys) ≡ filter p xs ++ filter p ys = filter-append p xs ys in
    whole ∙ (short_swap (filter p xs) (filter p ys) (subst (λ (l : List Record). length l ≤ 1) whole (once z)) ∙ sym
    (filter-append p ys xs))

-- those of some elements before those of the others
pub flat_split : {X : Type 0} (f : X → List Record) (p : X → Bool) (xs : List X) → Once (flat_map f xs)
    → Alike (flat_map f xs) (flat_map f (filter p xs) ++ flat_map f (filter (λ x. not (p x)) xs))
flat_split f p [] once z = refl
flat_split f p (x ∷ xs) once z =
    let some : List Record = flat_map f (filter p xs) in
    let others : List Record = flat_map f (filter (λ y. not (p y)) xs) in
    let behind : Alike (flat_map f xs) (some ++ others) = flat_split f p xs (once_back (f x) (flat_map f xs) once) in
    let whole : Alike (f x ++ flat_map f xs) (f x ++ (some ++ others)) =
    append_alike (f x) (f x) (flat_map f xs) (some ++ others) (λ w. refl) behind in
    elim (cases_Bool (p x)) [
      | inl t ↦ rw t (whole z ∙ ap (filter (same_record z)) (sym (append_assoc (f x) some others)))
      | inr g ↦
          rw g (whole z ∙ swap_alike (f x) some others
          (once_alike (f x ++ flat_map f xs) (f x ++ (some ++ others)) whole once) z)
    ]

-- ---- deletions
pub record Deleted (zone rs rest : List Record) : Type 0 where
  pub middle : List Record
  pub deletes : Deletes zone rs middle
  pub left : Alike middle rest

-- the front of a list is deleted, and what follows it is left
pub deleted_all : (zone rs rest : List Record) → Alike zone (rs ++ rest) → Once (rs ++ rest) → Deleted zone rs rest
deleted_all zone [] rest h once = record { middle = zone; deletes = refl; left = h }
deleted_all zone (r ∷ rs) rest h once =
    let itself : list_any (same_record r) (r ∷ (rs ++ rest)) ≡ true = rw (records_equal.refl r) refl in
    let there : is_there r zone ≡ true = any_alike (same_record r) zone (r ∷ (rs ++ rest)) h ∙ itself in
    let behind : Alike (without r zone) (rs ++ rest) =
    λ z. filter_alike (λ s. not (same_record r s)) zone (r ∷ (rs ++ rest)) h z ∙ ap (filter (same_record z))
    (first_out r (rs ++ rest) once) in
    let next = deleted_all (without r zone) rs rest behind (once_back (r ∷ []) (rs ++ rest) once) in
    record { middle = next.middle; deletes = (there, next.deletes); left = next.left }

-- ---- additions
pub record Added (zone rs rest : List Record) : Type 0 where
  pub after : List Record
  pub adds : Adds zone rs after
  pub whole : Alike after (rs ++ rest)

pub added_all : (zone rs rest : List Record) → Alike zone rest → Once (rs ++ rest) → Added zone rs rest
added_all zone [] rest h once = record { after = zone; adds = refl; whole = h }
added_all zone (r ∷ rs) rest h once =
    let apart : (list_any (same_record r) rs || list_any (same_record r) rest) ≡ false =
    sym (list_any-append (same_record r) rs rest) ∙ none_again r (rs ++ rest) once in
    let absent : is_there r zone ≡ false =
    any_alike (same_record r) zone rest h
    ∙ (or_parts (list_any (same_record r) rs) (list_any (same_record r) rest) apart).1 in
    let moved : Alike (r ∷ (rs ++ rest)) (rs ++ r ∷ rest) = swap_alike (r ∷ []) rs rest once in
    let joined : Alike (insertion r zone) (r ∷ rest) = λ z. insertion_alike r zone z ∙ cons_alike r zone rest h z in
    let next = added_all (insertion r zone) rs (r ∷ rest) joined
    (once_alike (r ∷ (rs ++ rest)) (rs ++ r ∷ rest) moved once) in
    record { after = next.after; adds = (absent, next.adds); whole = λ z. next.whole z ∙ sym (moved z) }
