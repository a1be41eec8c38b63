-- Owners in canonical order: none of the first comes after the next.
use Rattle.std.proofs.Common.{◌≡◌, ℕ, zero, suc, ◌+◌, ◌<◌, ◌≤◌, true, List, [], ◌∷◌, ◌++◌, length, take, get_or, refl}
use Rattle.std.proofs.Common.{sym, ◌∙◌, ap, arith, inl, inr, length-take-le}
use Rattle.std.specs.Ordering.{is_le}
use Rattle.std.proofs.lemmas.Bool.{cases_lt, false≢true}
use Rattle.dz_name.specs.Name.{canonical_order}
use Rattle.dz_name.specs.Order.{canonical_total, canonical_same}
use Rattle.std.specs.declared.cmp.Ordering.{Ordering}
use Rattle.std.specs.declared.cmp.Ordering.TheVariants.{Less, Equal, Greater}
use Rattle.std.proofs.lemmas.List.{get_or-take, take_more, get_or_default}
use Rattle.std.specs.Cmp.{tied_itself}
use Rattle.dz_index.specs.Index.{InOrder, order_behind}
use Rattle.std.specs.Prelude.{nat_lt}
use Rattle.std.proofs.lemmas.Bool.Decides.{nat_tests}
use Rattle.std.specs.Ordering.{is_gt}
use Rattle.std.proofs.Common.{false, ◌-◌}

-- no owner comes after the name
abbrev pub IsLast : List (List ℕ) → List (List (List ℕ)) → Type 0
IsLast name owners = (at : ℕ) (d : List (List ℕ)) → at < length owners
    → is_le (canonical_order (get_or owners at d) name) ≡ true

pub le_le : (a b c : List (List ℕ)) → is_le (canonical_order a b) ≡ true → is_le (canonical_order b c) ≡ true
    → is_le (canonical_order a c) ≡ true
le_le a b c p q = go (canonical_order a b) refl p
  where
    rest : (o : Ordering) → canonical_order b c ≡ o → canonical_order a b ≡ Less → is_le o ≡ true
        → is_le (canonical_order a c) ≡ true
    rest Less e less h = ap is_le (canonical_total.trans a b c less e)
    rest Equal e less h = let same : b ≡ c = canonical_same b c e in ap is_le (rw same at less)
    rest Greater e less h = absurd (false≢true h)

    go : (o : Ordering) → canonical_order a b ≡ o → is_le o ≡ true → is_le (canonical_order a c) ≡ true
    go Less e h = rest (canonical_order b c) refl e q
    go Equal e h = ap is_le (canonical_total.congr a b c e) ∙ q
    go Greater e h = absurd (false≢true h)

-- no owner in front of a place comes after the one that is there
up_to : (owners : List (List (List ℕ))) (n at : ℕ) (d : List (List ℕ)) → InOrder owners → n < length owners → at ≤ n
    → is_le (canonical_order (get_or owners at d) (get_or owners n d)) ≡ true
up_to owners zero at d order within le =
    let e : at ≡ zero = omega arith in
    rw (e, tied_itself canonical_total (get_or owners zero d)) refl
up_to owners (suc n) at d order within le = elim (cases_lt at (suc n)) [
  | inl before ↦
      let s : suc n ≡ n + 1 = omega arith in
      le_le (get_or owners at d) (get_or owners n d) (get_or owners (suc n) d)
      (up_to owners n at d order (omega arith) (omega arith)) (rw s (order n d (omega arith)))
  | inr here ↦ let e : at ≡ suc n = omega arith in rw (e, tied_itself canonical_total (get_or owners (suc n) d)) refl
]

pub is_last : (owners : List (List (List ℕ))) (n : ℕ) (name : List (List ℕ)) → InOrder owners → n < length owners
    → name ≡ get_or owners n name → IsLast name (take n owners)
is_last owners n name order within is at d before =
    let short : length (take n owners) ≡ n = length-take-le n owners (omega arith) in
    let e : get_or owners n name ≡ get_or owners n d = get_or_default owners n name d within in
    rw (get_or-take n owners at d (omega arith), is, e) (up_to owners n at d order within (omega arith))

pub one_more_owner : (owners : List (List (List ℕ))) (n : ℕ) (name : List (List ℕ)) → n < length owners
    → name ≡ get_or owners n name → take (n + 1) owners ≡ take n owners ++ name ∷ []
one_more_owner owners n name within is = take_more owners n name within ∙ ap (λ o. take n owners ++ o ∷ []) (sym is)

not_gt : (o : Ordering) → is_le o ≡ true → is_gt o ≡ false
not_gt Less h = refl
not_gt Equal h = refl
not_gt Greater h = absurd (false≢true h)

more_than_none : (n : ℕ) → 0 < n → nat_lt 0 n ≡ true
more_than_none n h = grind (arith, nat_tests)

-- where no owner comes after the name, the last one doesn't
pub not_behind : (owners : List (List (List ℕ))) (name : List (List ℕ)) → IsLast name owners
    → is_gt (order_behind owners name) ≡ false
not_behind [] name last = refl
not_behind (o ∷ owners) name last =
    let some : nat_lt 0 (length (o ∷ owners)) ≡ true = more_than_none (length (o ∷ owners)) (omega arith) in
    rw some (not_gt (canonical_order (get_or (o ∷ owners) (length (o ∷ owners) - 1) []) name)
    (last (length (o ∷ owners) - 1) [] (omega arith)))
