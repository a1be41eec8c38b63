-- What is digested of records in order.
use Rattle.std.proofs.Common.{◌≡◌, ℕ, ◌≤◌, ◌-◌, true, false, List, [], ◌∷◌, length, refl, sym, ◌∙◌, ap, arith, inl}
use Rattle.std.proofs.Common.{inr, ◌+◌, ◌<◌, ◌++◌, take, get_or, cond}
use Rattle.std.specs.Prelude.{not, filter, flat_map}
use Rattle.std.specs.List.{AllByRecursion}
use Rattle.std.specs.List.Sorted.{IsStrictlySortedBy}
use Rattle.std.specs.Ordering.{is_eq}
use Rattle.std.specs.declared.cmp.Ordering.TheVariants.{Less}
use Rattle.std.proofs.lemmas.Bool.Decides.{leb_tells}
use Rattle.std.proofs.lemmas.List.Kept.{IsStrictlySortedBy-filter}
use Rattle.std.proofs.lemmas.Map.Keys.{sorted_head, sorted_tail}
use Rattle.std.proofs.lemmas.List.{append-nil}
use Rattle.std.proofs.lemmas.List.Concat.{flat_map-append}
use Rattle.std.proofs.lemmas.List.Elements.{filter_more}
use Rattle.dz_record.specs.Order.{same_ties}
use Rattle.dz_record.specs.Record.{Record, IsRecord, record_order, record_octets, same_record}
use Rattle.dz_record.specs.Records.{distinct, insertion, in_order}
use Rattle.dz_record.specs.Fields.{fits, field_end, fields_of}
use Rattle.dz_record.specs.declared.fields.Field.{Field}
use Rattle.dz_record.specs.declared.fields.Field.TheVariants.{FixedLength}
use Rattle.dz_record.proofs.FieldLemmas.{fits_record}
use Rattle.dz_zonemd.specs.Digested.{digested, is_left_out}

-- records in order stay as they are when they are put in order, and none of them is left out as a double
placed_first : (r : Record) (rs : List Record) → AllByRecursion (λ s. record_order r s ≡ Less) rs
    → insertion r rs ≡ r ∷ rs
unfolding insertion
placed_first r [] h = refl
placed_first r (s ∷ ss) h = rw h.0 refl

in_order_stays : (rs : List Record) → IsStrictlySortedBy record_order rs → in_order rs ≡ rs
unfolding in_order
in_order_stays [] up = refl
in_order_stays (r ∷ rs) up =
    rw (in_order_stays rs (sorted_tail record_order r rs up)) (placed_first r rs (sorted_head record_order r rs up))

none_same : (r : Record) (rs : List Record) → AllByRecursion (λ s. record_order r s ≡ Less) rs
    → filter (λ s. not (same_record r s)) rs ≡ rs
none_same r [] h = refl
none_same r (s ∷ ss) h =
    let other : same_record r s ≡ false = same_ties r s ∙ ap is_eq h.0 in
    rw (other, none_same r ss h.1) refl

distinct_stays : (rs : List Record) → IsStrictlySortedBy record_order rs → distinct rs ≡ rs
unfolding distinct
distinct_stays [] up = refl
distinct_stays (r ∷ rs) up =
    rw (distinct_stays rs (sorted_tail record_order r rs up))
    (ap (λ xs. r ∷ xs) (none_same r rs (sorted_head record_order r rs up)))

-- so their octets are joined as they are
pub digested_rising : (apex : List (List ℕ)) (rs : List Record) → IsStrictlySortedBy record_order rs
    → flat_map record_octets (filter (λ r. not (is_left_out apex r)) rs) ≡ digested apex rs
unfolding digested
digested_rising apex rs up =
    let kept = filter (λ r. not (is_left_out apex r)) rs in
    let rises = IsStrictlySortedBy-filter record_order (λ r. not (is_left_out apex r)) rs up in
    sym (ap (flat_map record_octets) (ap in_order (distinct_stays kept rises) ∙ in_order_stays kept rises))

-- one record more, where it is digested and where it is left out
abbrev octets_of : List (List ℕ) → List Record → List ℕ
octets_of apex rs = flat_map record_octets (filter (λ r. not (is_left_out apex r)) rs)

more : (apex : List (List ℕ)) (rs : List Record) (i : ℕ) (r : Record) → i < length rs
    → octets_of apex (take (i + 1) rs) ≡ octets_of apex (take i rs)
    ++ flat_map record_octets (cond (not (is_left_out apex (get_or rs i r))) (get_or rs i r ∷ []) [])
more apex rs i r h =
    ap (flat_map record_octets) (filter_more (λ r. not (is_left_out apex r)) rs i r h)
    ∙ flat_map-append record_octets (filter (λ r. not (is_left_out apex r)) (take i rs)) _

pub one_digested : (apex : List (List ℕ)) (rs : List Record) (i : ℕ) (r : Record) → i < length rs → r ≡ get_or rs i r
    → is_left_out apex r ≡ false
    → octets_of apex (take i rs) ++ record_octets r ≡ octets_of apex (take (i + 1) rs)
one_digested apex rs i r h is f =
    let step = more apex rs i r h in
    sym (rw (← is, f, append-nil (record_octets r)) at step)

pub one_left_out : (apex : List (List ℕ)) (rs : List Record) (i : ℕ) (r : Record) → i < length rs → r ≡ get_or rs i r
    → is_left_out apex r ≡ true
    → octets_of apex (take i rs) ≡ octets_of apex (take (i + 1) rs)
one_left_out apex rs i r h is t =
    let step = more apex rs i r h in
    sym (rw (← is, t, append-nil (octets_of apex (take i rs))) at step)

-- the RDATA of an RRSIG has room for the type that it covers
first_octets : (n : ℕ) (fields : List Field) (rdata : List ℕ) → fits (FixedLength n ∷ fields) rdata 0 ≡ true
    → n ≤ length rdata
unfolding fits field_end
first_octets n fields rdata h =
    elim (leb_tells n (length rdata - 0)) [
      | inl w ↦ omega (arith, w.1)
      | inr w ↦ let q = rw w.0 at h in absurd (cc)
    ]

pub rrsig_long : (r : Record) → IsRecord r → r.kind ≡ 46 → 18 ≤ length r.rdata
unfolding fields_of
rrsig_long r is h = first_octets 18 _ r.rdata (rw h at (fits_record r is))
