-- Judge: the laws of the order of records (RFC 2181 section 5, RFC 4034 section 6).
use Rattle.std.specs.Prelude.{◌≡◌, ℕ, Bool, true, false, ◌==◌, ◌&&◌, refl}
use Rattle.std.specs.Bool.{Decides}
use Rattle.std.specs.Cmp.{IsTotalOrder, IsEquivalence, IsPartialEquivalence, IsPartialOrder, on_total, nat_cmp_total}
use Rattle.std.specs.Cmp.{eq_by_cmp_equiv, partial_equiv_from_equiv, partial_order_from_agreeing_total, tied_itself}
use Rattle.std.specs.Cmp.{Equal-is, unsigned_Decides}
use Rattle.std.specs.Cmp.Lexicographic.{slice_cmp, lists_total}
use Rattle.std.specs.FinMap.{slice_cmp-IsAntisymmetric, nat_cmp-IsAntisymmetric}
use Rattle.std.specs.Ordering.{nat_cmp, is_eq, eq_by_cmp, as_partial_cmp, ordering_then}
use Rattle.std.specs.Str.{bytes_eq}
use Rattle.std.specs.declared.cmp.Ordering.{Ordering}
use Rattle.std.specs.declared.cmp.Ordering.TheVariants.{Less, Equal, Greater}
use Rattle.std.proofs.Common.{sym, ◌∙◌, ap, subst}
use Rattle.std.proofs.lemmas.Bool.Decides.{same_from_decides}
use Rattle.std.proofs.lemmas.Cmp.{then_total}
use Rattle.std.proofs.lemmas.Slice.Eq.{bytes_eq-Decides}
use Rattle.dz_name.specs.Words.{Octets}
use Rattle.dz_name.specs.Name.{canonical_order}
use Rattle.dz_name.specs.Order.{canonical_total, same_ties as names_tie}
use Rattle.dz_record.specs.Record.{Record, record_order, same_record}

pub record_total : IsTotalOrder record_order
record_total = then_total
    (then_total (on_total (λ (r : Record). r.owner) canonical_total) (on_total (λ (r : Record). r.kind) nat_cmp_total))
    (on_total (λ (r : Record). r.rdata) (lists_total nat_cmp_total))

then_eq : (a b : Ordering) → is_eq (ordering_then a b) ≡ (is_eq a && is_eq b)
then_eq Less b = refl
then_eq Equal b = refl
then_eq Greater b = refl

numbers_decide : (a b : ℕ) → Decides (is_eq (nat_cmp a b)) (a ≡ b)
numbers_decide a b = (
  λ t. nat_cmp-IsAntisymmetric a b ((Equal-is (nat_cmp a b)).0 t),
  λ e. (Equal-is (nat_cmp a b)).1 (subst (λ x. nat_cmp a x ≡ Equal) e (tied_itself nat_cmp_total a)),
)

numbers_tie : (a b : ℕ) → (a == b) ≡ is_eq (nat_cmp a b)
numbers_tie a b = same_from_decides (a == b) (is_eq (nat_cmp a b)) (unsigned_Decides a b) (numbers_decide a b)

octets_decide : (a b : Octets) → Decides (is_eq (slice_cmp nat_cmp a b)) (a ≡ b)
octets_decide a b = (
  λ t. slice_cmp-IsAntisymmetric nat_cmp-IsAntisymmetric a b ((Equal-is (slice_cmp nat_cmp a b)).0 t),
  λ e. (Equal-is (slice_cmp nat_cmp a b)).1
      (subst (λ x. slice_cmp nat_cmp a x ≡ Equal) e (tied_itself (lists_total nat_cmp_total) a)),
)

octets_tie : (a b : Octets) → bytes_eq a b ≡ is_eq (slice_cmp nat_cmp a b)
octets_tie a b =
    same_from_decides (bytes_eq a b) (is_eq (slice_cmp nat_cmp a b)) (bytes_eq-Decides a b) (octets_decide a b)

and_regroup : (a b c : Bool) → (a && (b && c)) ≡ ((a && b) && c)
and_regroup true b c = refl
and_regroup false b c = refl

-- exactly the records that are the same compare as equal
pub same_ties : (a b : Record) → same_record a b ≡ eq_by_cmp record_order a b
same_ties a b =
    let x = canonical_order a.owner b.owner in
    let y = nat_cmp a.kind b.kind in
    let z = slice_cmp nat_cmp a.rdata b.rdata in
    ap (λ t. t && (a.kind == b.kind && bytes_eq a.rdata b.rdata)) (names_tie a.owner b.owner)
    ∙ (ap (λ t. is_eq x && (t && bytes_eq a.rdata b.rdata)) (numbers_tie a.kind b.kind)
    ∙ (ap (λ t. is_eq x && (is_eq y && t)) (octets_tie a.rdata b.rdata)
    ∙ (and_regroup (is_eq x) (is_eq y) (is_eq z)
    ∙ sym (then_eq (ordering_then x y) z ∙ ap (λ t. t && is_eq z) (then_eq x y)))))

pub records_equal : IsEquivalence same_record
records_equal = subst IsEquivalence (λ i a b. sym (same_ties a b) i) (eq_by_cmp_equiv record_total)

pub records_partly_equal : IsPartialEquivalence same_record
records_partly_equal = partial_equiv_from_equiv records_equal

pub records_ordered : IsPartialOrder same_record (as_partial_cmp record_order)
records_ordered = partial_order_from_agreeing_total record_order record_total (λ a b. refl) same_ties
