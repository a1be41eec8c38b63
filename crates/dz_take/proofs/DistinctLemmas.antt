-- Records that are distinct stay as they are.
use Rattle.std.proofs.Common.{◌≡◌, Bool, false, not, List, [], ◌∷◌, refl, ◌∙◌, ap, inl, inr}
use Rattle.std.proofs.lemmas.Bool.{cases_Bool}
use Rattle.std.specs.Prelude.{filter}
use Rattle.std.specs.List.{AllByRecursion}
use Rattle.dz_record.specs.Record.{Record, same_record}
use Rattle.dz_record.specs.Records.{distinct}

-- no two are the same
abbrev NoTwo : List Record → Type 0
NoTwo [] = Unit {0}
NoTwo (r ∷ rs) = AllByRecursion (λ s. same_record r s ≡ false) rs × NoTwo rs

keeps_all : (r : Record) (rs : List Record) → AllByRecursion (λ s. same_record r s ≡ false) rs
    → filter (λ s. not (same_record r s)) rs ≡ rs
keeps_all r [] h = refl
keeps_all r (s ∷ rs) h = rw h.0 (ap (λ l. s ∷ l) (keeps_all r rs h.1))

all_filter : (P : Record → Type 0) (p : Record → Bool) (rs : List Record) → AllByRecursion P rs
    → AllByRecursion P (filter p rs)
all_filter P p [] h = tt
all_filter P p (r ∷ rs) h =
    elim (cases_Bool (p r)) [
      | inl t ↦ rw t (h.0, all_filter P p rs h.1)
      | inr f ↦ rw f (all_filter P p rs h.1)
    ]

two_filter : (p : Record → Bool) (rs : List Record) → NoTwo rs → NoTwo (filter p rs)
two_filter p [] h = tt
two_filter p (r ∷ rs) h =
    elim (cases_Bool (p r)) [
      | inl t ↦ rw t (all_filter (λ s. same_record r s ≡ false) p rs h.0, two_filter p rs h.1)
      | inr f ↦ rw f (two_filter p rs h.1)
    ]

others : (r : Record) (rs : List Record)
    → AllByRecursion (λ s. same_record r s ≡ false) (filter (λ s. not (same_record r s)) rs)
others r [] = tt
others r (s ∷ rs) =
    elim (cases_Bool (same_record r s)) [
      | inl t ↦ rw t (others r rs)
      | inr f ↦ rw f (f, others r rs)
    ]

distinct_two : (rs : List Record) → NoTwo (distinct rs)
unfolding distinct
distinct_two [] = tt
distinct_two (r ∷ rs) =
    (others r (distinct rs), two_filter (λ s. not (same_record r s)) (distinct rs) (distinct_two rs))

distinct_is : (rs : List Record) → NoTwo rs → distinct rs ≡ rs
unfolding distinct
distinct_is [] h = refl
distinct_is (r ∷ rs) h =
    ap (λ l. r ∷ l) (ap (filter (λ s. not (same_record r s))) (distinct_is rs h.1) ∙ keeps_all r rs h.0)

pub distinct_twice : (rs : List Record) → distinct (distinct rs) ≡ distinct rs
distinct_twice rs = distinct_is (distinct rs) (distinct_two rs)
