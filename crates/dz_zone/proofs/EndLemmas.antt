-- The first and the last of records that rise tell whether all are within a name.
use Rattle.std.proofs.Common.{◌≡◌, ℕ, ◌-◌, ◌<◌, Bool, true, false, not, List, length, get_or, refl, sym, ◌∙◌, arith}
use Rattle.std.proofs.Common.{inl, inr}
use Rattle.std.specs.Prelude.{◌==◌}
use Rattle.std.specs.List.{list_any}
use Rattle.std.specs.List.Sorted.{IsStrictlySortedBy}
use Rattle.std.specs.Cmp.{tied_itself}
use Rattle.std.specs.Ordering.{is_lt, is_gt, ordering_then, ordering_reverse, nat_cmp}
use Rattle.std.specs.declared.cmp.Ordering.{Ordering}
use Rattle.std.specs.declared.cmp.Ordering.TheVariants.{Less, Equal, Greater}
use Rattle.std.proofs.lemmas.Bool.{cases_lt, cases_Bool}
use Rattle.std.proofs.lemmas.Bool.Decides.{nat_tests}
use Rattle.std.proofs.lemmas.List.{get_or_default}
use Rattle.std.proofs.lemmas.List.Folds.{list_any_none, list_any_at}
use Rattle.std.proofs.lemmas.Map.Keys.{Less-from_sorted}
use Rattle.dz_name.specs.Name.{canonical_order, is_within}
use Rattle.dz_name.specs.Order.{canonical_total}
use Rattle.dz_record.specs.Record.{Record, record_order}
use Rattle.dz_zone.proofs.CanonicalLemmas.{both_within}

first_not_greater : (o p q : Ordering) → ordering_then (ordering_then o p) q ≡ Less → is_gt o ≡ false
first_not_greater Less p q h = refl
first_not_greater Equal p q h = refl
first_not_greater Greater p q h = absurd (cc)

back_not_less : (o : Ordering) → is_gt o ≡ false → is_lt (ordering_reverse o) ≡ false
back_not_less Less h = refl
back_not_less Equal h = refl
back_not_less Greater h = absurd (cc)

less_owner : (a b : Record) → record_order a b ≡ Less → is_gt (canonical_order a.owner b.owner) ≡ false
less_owner a b h = first_not_greater (canonical_order a.owner b.owner) (nat_cmp a.kind b.kind) _ h

above_owner : (a b : Record) → record_order a b ≡ Less → is_lt (canonical_order b.owner a.owner) ≡ false
above_owner a b h =
    rw (canonical_total.antisymm b.owner a.owner) (back_not_less (canonical_order a.owner b.owner) (less_owner a b h))

not_below_first : (rs : List Record) (k : ℕ) (d : Record) → IsStrictlySortedBy record_order rs → k < length rs
    → is_lt (canonical_order (get_or rs k d).owner (get_or rs 0 d).owner) ≡ false
not_below_first rs k d up within = elim (cases_lt 0 k) [
  | inl lt ↦ above_owner (get_or rs 0 d) (get_or rs k d) (Less-from_sorted record_order rs 0 k d up lt within)
  | inr le ↦ let e : k ≡ 0 = omega arith in rw (e, tied_itself canonical_total (get_or rs 0 d).owner) refl
]

not_above_last : (rs : List Record) (k : ℕ) (d : Record) → IsStrictlySortedBy record_order rs → k < length rs
    → is_gt (canonical_order (get_or rs k d).owner (get_or rs (length rs - 1) d).owner) ≡ false
not_above_last rs k d up within = elim (cases_lt k (length rs - 1)) [
  | inl lt ↦ less_owner (get_or rs k d) (get_or rs (length rs - 1) d)
      (Less-from_sorted record_order rs k (length rs - 1) d up lt (omega arith))
  | inr le ↦ let e : k ≡ length rs - 1 = omega arith in
      rw (e, tied_itself canonical_total (get_or rs (length rs - 1) d).owner) refl
]

not_true : (b : Bool) → b ≡ true → not b ≡ false
not_true b e = rw e refl

not_false : (b : Bool) → b ≡ false → not b ≡ true
not_false b e = rw e refl

ends_same : (rs : List Record) (k : ℕ) (d r : Record) → k < length rs → r ≡ get_or rs k r → get_or rs k d ≡ r
ends_same rs k d r within is = get_or_default rs k d r within ∙ sym is

pub one_outside : (apex : List (List ℕ)) (rs : List Record) (k : ℕ) (r : Record) → k < length rs → r ≡ get_or rs k r
    → is_within r.owner apex ≡ false
    → list_any (λ s. not (is_within s.owner apex)) rs ≡ true
one_outside apex rs k r within is out =
    let there : is_within (get_or rs k r).owner apex ≡ false = rw is at out in
    list_any_at (λ s. not (is_within s.owner apex)) rs k r within (not_false _ there)

pub none_outside : (apex : List (List ℕ)) (rs : List Record) (first last : Record) → IsStrictlySortedBy record_order rs
    → 0 < length rs → first ≡ get_or rs 0 first → last ≡ get_or rs (length rs - 1) last
    → is_within first.owner apex ≡ true → is_within last.owner apex ≡ true
    → list_any (λ s. not (is_within s.owner apex)) rs ≡ false
none_outside apex rs first last up some is_first is_last f l =
    list_any_none (λ s. not (is_within s.owner apex)) rs (λ k d within.
    let a : get_or rs 0 d ≡ first = ends_same rs 0 d first some is_first in
    let b : get_or rs (length rs - 1) d ≡ last = ends_same rs (length rs - 1) d last (omega arith) is_last in
    not_true _ (both_within first.owner last.owner (get_or rs k d).owner apex f l
    (rw a at (not_below_first rs k d up within)) (rw b at (not_above_last rs k d up within))))

pub ends_tell : (apex : List (List ℕ)) (rs : List Record) (first last : Record) (r : Bool)
    → IsStrictlySortedBy record_order rs → 0 < length rs → first ≡ get_or rs 0 first
    → last ≡ get_or rs (length rs - 1) last
    → is_within first.owner apex ≡ true → r ≡ is_within last.owner apex
    → not r ≡ list_any (λ s. not (is_within s.owner apex)) rs
ends_tell apex rs first last r up some is_first is_last f e =
    elim (cases_Bool (is_within last.owner apex)) [
      | inl t ↦ rw (e, t) (sym (none_outside apex rs first last up some is_first is_last f t))
      | inr g ↦ rw (e, g) (sym (one_outside apex rs (length rs - 1) last (omega arith) is_last g))
    ]

pub some_there : (n : ℕ) → false ≡ (n == 0) → 0 < n
some_there n h = grind (arith, nat_tests)
