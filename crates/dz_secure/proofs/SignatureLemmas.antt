-- RRSIG records of an owner are in the order of what they cover.
use Rattle.std.proofs.Common.{◌≡◌, ℕ, zero, suc, ◌+◌, ◌-◌, ◌<◌, ◌≤◌, Bool, true, false, List, [], ◌∷◌, length, take}
use Rattle.std.proofs.Common.{drop, get_or, refl, sym, ◌∙◌, ap, arith, inl, inr}
use Rattle.std.specs.Prelude.{filter, ◌==◌, ◌&&◌}
use Rattle.std.specs.List.Sorted.{IsStrictlySortedBy, IsSortedBy, IsPartitionPoint}
use Rattle.std.specs.Ordering.{is_lt, is_le, is_eq, nat_cmp, ordering_then}
use Rattle.std.specs.Cmp.{tied_itself}
use Rattle.std.specs.Cmp.Lexicographic.{slice_cmp}
use Rattle.std.specs.declared.cmp.Ordering.{Ordering}
use Rattle.std.specs.declared.cmp.Ordering.TheVariants.{Less, Equal, Greater}
use Rattle.std.proofs.lemmas.Bool.{cases_Bool, false_from_ne_true, and_parts, eqb-true}
use Rattle.std.proofs.lemmas.Bool.Decides.{nat_tests}
use Rattle.std.proofs.lemmas.List.Sorted.{searchable_from_sorted}
use Rattle.std.proofs.lemmas.List.Kept.{IsStrictlySortedBy-filter}
use Rattle.std.proofs.lemmas.List.Elements.{filter_agree}
use Rattle.std.proofs.lemmas.List.Folds.{list_any_none, list_any_at}
use Rattle.std.proofs.lemmas.Map.Keys.{Less-from_sorted}
use Rattle.dz_name.specs.Words.{Name}
use Rattle.dz_name.specs.Name.{canonical_order, same_name, label_order}
use Rattle.dz_name.specs.Numbers.{two}
use Rattle.dz_name.specs.Order.{canonical_total, same_decides, label_total, same_label_ties}
use Rattle.dz_record.specs.Record.{Record, record_order}
use Rattle.dz_zone.specs.Version.{Zone, is_secure, is_of_dnssec}
use Rattle.dz_runs.specs.Runs.{of_type, records_of, owns}
use Rattle.dz_runs.proofs.InOrder.{records_of_is, no_run}
use Rattle.dz_runs.proofs.RunLemmas.{run_is}
use Rattle.dz_secure.specs.Secure.{covers, signatures}
use Rattle.dz_secure.specs.inner.Searchable.{AreSearchable}

-- where one list comes before another, its first elements don't come after the other's
front_order : (n : ℕ) (a b : List ℕ) → slice_cmp nat_cmp a b ≡ Less
    → is_lt (slice_cmp nat_cmp (take n b) (take n a)) ≡ false
front_order zero a b h = refl
front_order (suc n) [] [] h = refl
front_order (suc n) [] (y ∷ ys) h = refl
front_order (suc n) (x ∷ xs) [] h = absurd (cc)
front_order (suc n) (x ∷ xs) (y ∷ ys) h = step (nat_cmp x y) refl (λ g. front_order n xs ys g)
  where
    step : (o : Ordering) → nat_cmp x y ≡ o
        → (slice_cmp nat_cmp xs ys ≡ Less → is_lt (slice_cmp nat_cmp (take n ys) (take n xs)) ≡ false)
        → is_lt (ordering_then (nat_cmp y x) (slice_cmp nat_cmp (take n ys) (take n xs))) ≡ false
    step Less e more = let f : nat_cmp y x ≡ Greater = grind (arith, nat_tests) in rw f refl
    step Equal e more = let f : nat_cmp y x ≡ Equal = grind (arith, nat_tests) in let g = rw e at h in rw f (more g)
    step Greater e more = let g = rw e at h in absurd (cc)

-- elements that are kept pass
passes_first : (p : Record → Bool) (r : Record) (rest : List Record) (k : ℕ) (d : Record) → p r ≡ true
    → ((j : ℕ) → j < length rest → p (get_or rest j d) ≡ true)
    → k < length (r ∷ rest) → p (get_or (r ∷ rest) k d) ≡ true
passes_first p r rest zero d here others within = here
passes_first p r rest (suc k) d here others within = others k (omega arith)

passes : (p : Record → Bool) (rs : List Record) (k : ℕ) (d : Record) → k < length (filter p rs)
    → p (get_or (filter p rs) k d) ≡ true
passes p [] k d within = absurd (omega arith)
passes p (r ∷ rs) k d within = elim (cases_Bool (p r)) [
  | inl here ↦ rw here (passes_first p r (filter p rs) k d here (λ j h. passes p rs j d h) (rw here at within))
  | inr not_here ↦ rw not_here (passes p rs k d (rw not_here at within))
]

-- records of one owner and one type ascend by RDATA
rdata_less : (o p q : Ordering) → ordering_then (ordering_then o p) q ≡ Less → o ≡ Equal → p ≡ Equal → q ≡ Less
rdata_less o p q less same kind = rw (same, kind) at less

fronts_rise : (name : Name) (kind : ℕ) (rs : List Record) → IsStrictlySortedBy record_order rs
    → ((k : ℕ) (d : Record) → k < length rs → (get_or rs k d).owner ≡ name)
    → ((k : ℕ) (d : Record) → k < length rs → (get_or rs k d).kind ≡ kind)
    → IsSortedBy (λ a b. is_lt (label_order (take 2 a.rdata) (take 2 b.rdata))) rs
fronts_rise name kind rs up owned typed k d low within =
    let a : Record = get_or rs k d in
    let b : Record = get_or rs (k + 1) d in
    let less = Less-from_sorted record_order rs k (k + 1) d up (omega arith) within in
    let owner : canonical_order a.owner b.owner ≡ Equal =
    rw (owned k d (omega arith), owned (k + 1) d within) (tied_itself canonical_total name) in
    let types : nat_cmp a.kind b.kind ≡ Equal = rw (typed k d (omega arith), typed (k + 1) d within)
    (let e : nat_cmp kind kind ≡ Equal = grind (arith, nat_tests) in e) in
    front_order 2 a.rdata b.rdata (rdata_less (canonical_order a.owner b.owner) (nat_cmp a.kind b.kind)
    (slice_cmp nat_cmp a.rdata b.rdata) less owner types)

-- what holds of all records holds of those that are kept
kept_first : (p : Record → Bool) (name : Name) (r : Record) (rest : List Record) (k : ℕ) (d : Record) → r.owner ≡ name
    → ((j : ℕ) → j < length rest → (get_or rest j d).owner ≡ name)
    → k < length (r ∷ rest) → (get_or (r ∷ rest) k d).owner ≡ name
kept_first p name r rest zero d here others within = here
kept_first p name r rest (suc k) d here others within = others k (omega arith)

owner_kept : (p : Record → Bool) (name : Name) (rs : List Record)
    → ((j : ℕ) (e : Record) → j < length rs → (get_or rs j e).owner ≡ name) → (k : ℕ) (d : Record)
    → k < length (filter p rs) → (get_or (filter p rs) k d).owner ≡ name
owner_kept p name [] each k d within = absurd (omega arith)
owner_kept p name (r ∷ rs) each k d within =
    let rest : (j : ℕ) (e : Record) → j < length rs → (get_or rs j e).owner ≡ name =
    λ j e l. each (suc j) e (omega arith) in
    elim (cases_Bool (p r)) [
      | inl here ↦ rw here (kept_first p name r (filter p rs) k d (each 0 r (omega arith))
          (λ j h. owner_kept p name rs rest j d h) (rw here at within))
      | inr not_here ↦ rw not_here (owner_kept p name rs rest k d (rw not_here at within))
    ]

pub are_searchable : (zone : List Record) (name : Name) (kind : ℕ) → IsStrictlySortedBy record_order zone
    → AreSearchable (of_type kind (records_of zone name))
are_searchable zone name kind up octets =
    let owned : List Record = filter (λ r. same_name r.owner name) zone in
    let rise = IsStrictlySortedBy-filter record_order (λ r. same_name r.owner name) zone up in
    let rise_too = IsStrictlySortedBy-filter record_order (λ r. r.kind == kind) owned rise in
    let sorted = fronts_rise name kind (of_type kind owned) rise_too
    (λ k d within. owner_kept (λ r. r.kind == kind) name owned (λ j e l.
    (same_decides (get_or owned j e).owner name).0 (passes (λ r. same_name r.owner name) zone j e l)) k d within)
    (λ k d within. eqb-true _ kind (passes (λ r. r.kind == kind) owned k d within)) in
    rw (records_of_is zone name up)
    (searchable_from_sorted label_total (λ (r : Record). take 2 r.rdata) (of_type kind owned) octets sorted)

-- what is between two searches covers the type
pub covers_run : (rs : List Record) (kind i j : ℕ) → i ≤ length rs → j ≤ length rs
    → IsPartitionPoint (λ r. is_lt (label_order (take 2 r.rdata) (two kind)) ≡ true)
    (λ r. is_lt (label_order (take 2 r.rdata) (two kind)) ≡ false) rs i
    → IsPartitionPoint (λ r. is_le (label_order (take 2 r.rdata) (two kind)) ≡ true)
    (λ r. is_le (label_order (take 2 r.rdata) (two kind)) ≡ false) rs j
    → take (j - i) (drop i rs) ≡ filter (covers kind) rs
covers_run rs kind i j low_in high_in low high =
    run_is (λ r. label_order (take 2 r.rdata) (two kind)) rs i j low_in high_in low high
    ∙ filter_agree (λ r. is_eq (label_order (take 2 r.rdata) (two kind))) (covers kind)
    (λ r. sym (same_label_ties (take 2 r.rdata) (two kind))) rs

-- a zone without records of DNSSEC has no signatures
pub none_owned : (zone : Zone) (name : Name) (kind : ℕ) → is_of_dnssec kind ≡ true → is_secure zone ≡ false
    → owns zone.records kind name ≡ false
none_owned zone name kind of_dnssec none =
    list_any_none (λ r. (r.kind == kind) && same_name r.owner name) zone.records (λ k d within.
    let r = get_or zone.records k d in
    false_from_ne_true ((r.kind == kind) && same_name r.owner name) (λ t.
    let parts = and_parts (r.kind == kind) (same_name r.owner name) t in
    let is : r.kind ≡ kind = eqb-true r.kind kind parts.0 in
    let found = list_any_at (λ s. is_of_dnssec s.kind) zone.records k d within (ap is_of_dnssec is ∙ of_dnssec) in
    cc))

pub unsigned : (zone : Zone) (name : Name) (kind : ℕ) → IsStrictlySortedBy record_order zone.records
    → is_secure zone ≡ false → [] ≡ signatures zone.records name kind
unsigned zone name kind up none =
    ap (filter (covers kind)) (no_run zone.records name 46 up (none_owned zone name 46 refl none))
