-- The apex of a zone without a fault owns the first of its records in canonical order.
use Rattle.std.proofs.Common.{◌≡◌, ℕ, ◌<◌, true, false, None, List, [], ◌∷◌, length, refl, sym, ◌∙◌, ap, subst, Option}
use Rattle.std.proofs.Common.{inl, inr, arith}
use Rattle.std.specs.Prelude.{◌==◌}
use Rattle.std.specs.List.{AllByRecursion, list_any}
use Rattle.std.specs.List.Sorted.{IsStrictlySortedBy}
use Rattle.std.specs.Cmp.{tied_itself}
use Rattle.std.specs.Ordering.{is_lt, is_le, nat_cmp}
use Rattle.std.specs.declared.cmp.Ordering.{Ordering}
use Rattle.std.specs.declared.cmp.Ordering.TheVariants.{Less, Equal, Greater}
use Rattle.std.proofs.lemmas.Bool.{cases_Bool, and_parts}
use Rattle.dz_name.specs.Name.{canonical_order, same_name}
use Rattle.dz_name.specs.Order.{canonical_total, canonical_same, same_decides}
use Rattle.dz_record.specs.Record.{Record, record_order}
use Rattle.dz_record.specs.Records.{distinct, in_order}
use Rattle.dz_zone.specs.Valid.{at_apex, fault_of}
use Rattle.dz_zone.specs.Version.{zone_of}
use Rattle.dz_zone.specs.inner.Kept.{apex_in, zone_in}
use Rattle.dz_zone.specs.inner.Kinds.{kinds_of}
use Rattle.dz_zone.specs.declared.kinds.Kinds.{Kinds}
use Rattle.dz_zone.proofs.CanonicalLemmas.{within_not_less}
use Rattle.dz_zone.specs.declared.fault.ZoneFault.{ZoneFault}
use Rattle.dz_zone.proofs.FaultLemmas.{has_soa, fault_in_order}
use Rattle.dz_zone.proofs.OwnerLemmas.{first_le}
use Rattle.dz_zone.proofs.WithinLemmas.{all_within}

neither_less : (o : Ordering) → is_le o ≡ true → is_lt o ≡ false → o ≡ Equal
neither_less Less a b = absurd (cc)
neither_less Equal a b = refl
neither_less Greater a b = absurd (cc)

before_apex : (apex : List (List ℕ)) (r s : Record) → record_order r s ≡ Less → at_apex 6 apex s ≡ true
    → is_le (canonical_order r.owner apex) ≡ true
before_apex apex r s less at =
    let e : s.owner ≡ apex = (same_decides s.owner apex).0 ((and_parts (s.kind == 6) (same_name s.owner apex) at).1) in
    subst (λ n. is_le (canonical_order r.owner n) ≡ true) e
    (first_le (canonical_order r.owner s.owner) (nat_cmp r.kind s.kind) _ less)

-- a record before one of the apex has no owner after the apex
before_some : (apex : List (List ℕ)) (r : Record) (ss : List Record) → AllByRecursion (λ s. record_order r s ≡ Less) ss
    → list_any (at_apex 6 apex) ss ≡ true
    → is_le (canonical_order r.owner apex) ≡ true
before_some apex r [] up some = absurd (cc)
before_some apex r (s ∷ ss) up some =
    elim (cases_Bool (at_apex 6 apex s)) [
      | inl t ↦ before_apex apex r s up.0 t
      | inr f ↦ before_some apex r ss up.1 (rw f at some)
    ]

itself_le : (apex : List (List ℕ)) (r : Record) → at_apex 6 apex r ≡ true → is_le (canonical_order r.owner apex) ≡ true
itself_le apex r at =
    let e : r.owner ≡ apex = (same_decides r.owner apex).0 ((and_parts (r.kind == 6) (same_name r.owner apex) at).1) in
    rw (e, tied_itself canonical_total apex) refl

first_not_behind : (apex : List (List ℕ)) (r : Record) (rs : List Record) → IsStrictlySortedBy record_order (r ∷ rs)
    → list_any (at_apex 6 apex) (r ∷ rs) ≡ true
    → is_le (canonical_order r.owner apex) ≡ true
unfolding IsStrictlySortedBy
first_not_behind apex r rs up some =
    elim (cases_Bool (at_apex 6 apex r)) [
      | inl t ↦ itself_le apex r t
      | inr f ↦ before_some apex r rs up.0 (rw f at some)
    ]

pub apex_first : (apex : List (List ℕ)) (rs : List Record) → IsStrictlySortedBy record_order rs
    → fault_of apex rs ≡ None → apex_in rs ≡ apex
apex_first apex [] up none = absurd (let t = has_soa apex [] none in cc)
apex_first apex (r ∷ rs) up none =
    let low : is_lt (canonical_order r.owner apex) ≡ false =
    within_not_less r.owner apex (all_within apex (r ∷ rs) none 0 r (omega arith)) in
    canonical_same r.owner apex
    (neither_less (canonical_order r.owner apex) (first_not_behind apex r rs up (has_soa apex (r ∷ rs) none)) low)

pub some_records : (apex : List (List ℕ)) (rs : List Record) → fault_of apex rs ≡ None → 0 < length rs
some_records apex [] none = absurd (let t = has_soa apex [] none in cc)
some_records apex (r ∷ rs) none = omega arith

pub zone_made : (apex : List (List ℕ)) (tidied records : List Record) → IsStrictlySortedBy record_order tidied
    → fault_of apex tidied ≡ None → tidied ≡ in_order (distinct records)
    → zone_in tidied ≡ zone_of apex records
zone_made apex tidied records up none e = rw (apex_first apex tidied up none, e) refl

-- what is known of records by the name of the apex is known by the owner of the first
pub faultless_in : (apex : List (List ℕ)) (rs : List Record) → IsStrictlySortedBy record_order rs
    → fault_of apex rs ≡ None → fault_of (apex_in rs) rs ≡ None
faultless_in apex rs up none = subst (λ a. fault_of a rs ≡ None) (sym (apex_first apex rs up none)) none

pub kinds_in : (apex : List (List ℕ)) (rs : List Record) (kinds : Kinds) → IsStrictlySortedBy record_order rs
    → fault_of apex rs ≡ None → kinds ≡ kinds_of apex rs → kinds ≡ kinds_of (apex_in rs) rs
kinds_in apex rs kinds up none e = subst (λ a. kinds ≡ kinds_of a rs) (sym (apex_first apex rs up none)) e

-- what the faults of records in order say of the records that were given
pub judged : (apex : List (List ℕ)) (records tidied slice : List Record) (r : Option ZoneFault)
    → tidied ≡ in_order (distinct records) → slice ≡ tidied → r ≡ fault_of apex slice
    → fault_of apex (distinct records) ≡ r
judged apex records tidied slice r t s e =
    sym (e ∙ (ap (fault_of apex) (s ∙ t) ∙ fault_in_order apex (distinct records)))
