-- Records in canonical order, one of those that are the same.
use Rattle.std.proofs.Common.{◌≡◌, Bool, true, false, List, [], ◌∷◌, refl, sym, ◌∙◌, ap, inl, inr}
use Rattle.std.specs.Prelude.{filter, not, ◌==◌, ◌&&◌, ◌||◌, if◌then◌else◌}
use Rattle.std.specs.List.{list_any}
use Rattle.std.specs.Str.{bytes_eq}
use Rattle.std.specs.List.Sorted.{ties}
use Rattle.std.proofs.lemmas.Bool.{cases_Bool, and_parts, eqb-true}
use Rattle.std.proofs.lemmas.Slice.Eq.{bytes_eq-Decides}
use Rattle.dz_name.specs.Name.{same_name}
use Rattle.dz_name.specs.Order.{same_decides}
use Rattle.dz_record.specs.Record.{Record, same_record}
use Rattle.dz_record.specs.Records.{distinct, in_order}
use Rattle.dz_zone.proofs.Ordered.{firsts, puts, first_of, alike, ascends_puts, puts_keep, firsts_keep}
use Rattle.dz_zone.proofs.Pairs.{any_puts, ascends_filter}
use Rattle.dz_zone.proofs.RecordLemmas.{before, before_ranks, same_before, in_order_puts}

distinct_firsts : (rs : List Record) → distinct rs ≡ firsts (ties before) rs
unfolding distinct firsts
distinct_firsts [] = refl
distinct_firsts (r ∷ rs) =
    ap (λ (xs : List Record). r ∷ filter (λ s. not (same_record r s)) xs) (distinct_firsts rs)
    ∙ ap (λ (p : Record → Bool). r ∷ filter (λ s. not (p s)) (firsts (ties before) rs)) (λ i s. same_before r s i)

canonical_puts : (rs : List Record) → in_order (distinct rs) ≡ puts before (firsts (ties before) rs)
canonical_puts rs = in_order_puts (distinct rs) ∙ ap (puts before) (distinct_firsts rs)

-- of the records that tie with one the first is there
pub canonical_keeps : (z : Record) (rs : List Record)
    → filter (ties before z) (in_order (distinct rs)) ≡ first_of (filter (ties before z) rs)
canonical_keeps z rs =
    ap (filter (ties before z)) (canonical_puts rs)
    ∙ (puts_keep before before_ranks z (firsts (ties before) rs) ∙ firsts_keep before before_ranks z rs)

-- so these tell all
pub canonical_same : (rs ss : List Record)
    → ((z : Record) → first_of (filter (ties before z) rs) ≡ first_of (filter (ties before z) ss))
    → in_order (distinct rs) ≡ in_order (distinct ss)
canonical_same rs ss h =
    let a = canonical_puts rs in
    let b = canonical_puts ss in
    a
    ∙ (alike before before_ranks (puts before (firsts (ties before) rs)) (puts before (firsts (ties before) ss))
    (ascends_puts before before_ranks (firsts (ties before) rs))
    (ascends_puts before before_ranks (firsts (ties before) ss))
    (λ z. ap (filter (ties before z)) (sym a)
    ∙ (canonical_keeps z rs ∙ (h z ∙ (sym (canonical_keeps z ss) ∙ ap (filter (ties before z)) b))))
    ∙ sym b)

first_first : {X : Type 0} (xs : List X) → first_of (first_of xs) ≡ first_of xs
first_first [] = refl
first_first (x ∷ xs) = refl

pub canonical_twice : (rs : List Record) → in_order (distinct (in_order (distinct rs))) ≡ in_order (distinct rs)
canonical_twice rs = canonical_same (in_order (distinct rs)) rs
    (λ z. ap first_of (canonical_keeps z rs) ∙ first_first (filter (ties before z) rs))

-- a test that records which are the same pass together
abbrev pub Respects : (Record → Bool) → Type 0
Respects p = (r s : Record) → same_record r s ≡ true → p s ≡ p r

kept_ties : (p : Record → Bool) (z : Record) → Respects p → (rs : List Record)
    → filter (ties before z) (filter p rs) ≡ (if p z then filter (ties before z) rs else [])
kept_ties p z respects [] =
    let none : List Record = [] in
    elim (p z) as (λ b. none ≡ (if b then none else none)) [ true ↦ refl | false ↦ refl ]
kept_ties p z respects (r ∷ rs) =
    elim (cases_Bool (ties before z r)) [
      | inl t ↦
          let e : p r ≡ p z = respects z r (same_before z r ∙ t) in
          elim (cases_Bool (p z)) [
            | inl s ↦ let ih = rw s at (kept_ties p z respects rs) in rw (e, s, t) (ap (λ xs. r ∷ xs) ih)
            | inr f ↦ let ih = rw f at (kept_ties p z respects rs) in rw (e, f) ih
          ]
      | inr f ↦ elim (cases_Bool (p r)) [
        | inl s ↦ rw (s, f) (kept_ties p z respects rs)
        | inr g ↦ rw (g, f) (kept_ties p z respects rs)
      ]
    ]

-- it keeps the same of the records as of those in canonical order
pub canonical_filter : (p : Record → Bool) (rs : List Record) → Respects p
    → filter p (in_order (distinct rs)) ≡ in_order (distinct (filter p rs))
canonical_filter p rs respects =
    let a = canonical_puts rs in
    let b = canonical_puts (filter p rs) in
    ap (filter p) a
    ∙ (alike before before_ranks (filter p (puts before (firsts (ties before) rs)))
    (puts before (firsts (ties before) (filter p rs)))
    (ascends_filter before p (puts before (firsts (ties before) rs))
    (ascends_puts before before_ranks (firsts (ties before) rs)))
    (ascends_puts before before_ranks (firsts (ties before) (filter p rs)))
    (λ z.
    ap (λ (xs : List Record). filter (ties before z) (filter p xs)) (sym a)
    ∙ (kept_ties p z respects (in_order (distinct rs))
    ∙ (ap (λ (xs : List Record). if p z then xs else []) (canonical_keeps z rs)
    ∙ (firsts_of (p z) (filter (ties before z) rs)
    ∙ (sym (ap first_of (kept_ties p z respects rs))
    ∙ (sym (canonical_keeps z (filter p rs)) ∙ ap (filter (ties before z)) b))))))
    ∙ sym b)
  where
    firsts_of : (b : Bool) (xs : List Record) → (if b then first_of xs else []) ≡ first_of (if b then xs else [])
    firsts_of true xs = refl
    firsts_of false xs = refl

-- and some pass where some of the records do
pub canonical_any : (p : Record → Bool) (r : Record) (rs : List Record) → p r ≡ true
    → list_any p (in_order (distinct (r ∷ rs))) ≡ true
unfolding distinct
canonical_any p r rs t =
    ap (list_any p) (in_order_puts (distinct (r ∷ rs))) ∙ (any_puts before p (distinct (r ∷ rs))
    ∙ ap (λ b. b || list_any p (filter (λ s. not (same_record r s)) (distinct rs))) t)

-- a test of owner, type and RDATA
pub same_parts : (r s : Record) → same_record r s ≡ true
    → (r.owner ≡ s.owner) × ((r.kind ≡ s.kind) × (r.rdata ≡ s.rdata))
same_parts r s t =
    let first = and_parts (same_name r.owner s.owner) (r.kind == s.kind && bytes_eq r.rdata s.rdata) t in
    let rest = and_parts (r.kind == s.kind) (bytes_eq r.rdata s.rdata) first.1 in (
      (same_decides r.owner s.owner).0 first.0,
      (eqb-true r.kind s.kind rest.0, (bytes_eq-Decides r.rdata s.rdata).0 rest.1),
    )
