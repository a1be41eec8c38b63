-- Records of which those that are the same are kept once.
use Rattle.std.proofs.Common.{◌≡◌, Bool, true, false, not, ◌||◌, List, [], ◌∷◌, ◌++◌, append_assoc, refl, sym, ◌∙◌, ap}
use Rattle.std.proofs.Common.{is_eq, Less, Equal, Greater, inl, inr}
use Rattle.std.specs.Prelude.{filter, if◌then◌else◌}
use Rattle.std.specs.List.{list_any}
use Rattle.std.specs.Ordering.{match_ordering}
use Rattle.std.specs.BTreeSet.{insert_key}
use Rattle.std.proofs.lemmas.Bool.{cases_Bool, both_ways, or_parts}
use Rattle.std.proofs.lemmas.List.Elements.{filter-append}
use Rattle.std.proofs.lemmas.List.Folds.{list_any-append}
use Rattle.dz_record.specs.Order.{records_equal, same_ties}
use Rattle.dz_record.specs.Record.{Record, record_order, same_record}
use Rattle.dz_record.specs.Records.{distinct}
use Rattle.dz_axfr.specs.inner.Sifted.{IsKnown, has_same}

-- ---- the records that were seen
pub tie_same : (r : Record) (records : List Record)
    → has_same r records ≡ list_any (λ s. is_eq (record_order r s)) records
tie_same r records i = list_any (λ s. same_ties r s i) records

or_swap : (a b c : Bool) → (a || (b || c)) ≡ (b || (a || c))
or_swap true true c = refl
or_swap true false c = refl
or_swap false true c = refl
or_swap false false c = refl

or_last : (a b : Bool) → (a || b) ≡ (b || (a || false))
or_last true true = refl
or_last true false = refl
or_last false true = refl
or_last false false = refl

any_insert : (p : Record → Bool) (xs : List Record) (r : Record) → has_same r xs ≡ false
    → list_any p (insert_key record_order xs r) ≡ (p r || list_any p xs)
any_insert p [] r n = refl
any_insert p (x ∷ xs) r n =
    let parts = or_parts (same_record r x) (has_same r xs) n in
    (elim (record_order r x) as (λ v. record_order r x ≡ v → list_any p (match_ordering v (r ∷ x ∷ xs) (x ∷ xs)
    (x ∷ insert_key record_order xs r)) ≡ (p r || (p x || list_any p xs))) [
      | Less ↦ λ q. refl
      | Equal ↦ λ q. absurd (both_ways (same_record r x) parts.0 (same_ties r x ∙ ap is_eq q))
      | Greater ↦ λ q. ap (λ b. p x || b) (any_insert p xs r parts.1) ∙ or_swap (p x) (p r) (list_any p xs)
    ]) refl

pub not_false : (b : Bool) → not b ≡ true → b ≡ false
not_false true e = absurd (cc)
not_false false e = refl

-- a record that wasn't seen joins both
pub known_more : (seen kept : List Record) (x : Record) → IsKnown seen kept → has_same x seen ≡ false
    → IsKnown (insert_key record_order seen x) (kept ++ x ∷ [])
known_more seen kept x k n r =
    any_insert (same_record r) seen x n
    ∙ (ap (λ b. same_record r x || b) (k r)
    ∙ (or_last (same_record r x) (has_same r kept) ∙ sym (list_any-append (same_record r) kept (x ∷ []))))

-- ---- distinct records
-- the records that aren't the same as this one
abbrev other : Record → Record → Bool
other r = λ s. not (same_record r s)

-- a test that answers alike of records that are the same
abbrev Respects : (Record → Bool) → Type 0
Respects p = (a b : Record) → same_record a b ≡ true → p a ≡ p b

other_respects : (o : Record) → Respects (other o)
other_respects o a b t = ap not (records_equal.symm o a ∙ (records_equal.congr a b o t ∙ records_equal.symm b o))

filter_swap : (p q : Record → Bool) (xs : List Record) → filter p (filter q xs) ≡ filter q (filter p xs)
filter_swap p q [] = refl
filter_swap p q (x ∷ xs) =
    elim (cases_Bool (p x)) [
      | inl t ↦
          elim (cases_Bool (q x)) [
            | inl u ↦ rw (u, t, u) (ap (λ l. x ∷ l) (filter_swap p q xs))
            | inr g ↦ rw (g, t, g) (filter_swap p q xs)
          ]
      | inr f ↦
          elim (cases_Bool (q x)) [
            | inl u ↦ rw (u, f) (filter_swap p q xs)
            | inr g ↦ rw (g, f) (filter_swap p q xs)
          ]
    ]

kept_within : (p q : Record → Bool) (xs : List Record) → ((s : Record) → p s ≡ true → q s ≡ true)
    → filter p (filter q xs) ≡ filter p xs
kept_within p q [] h = refl
kept_within p q (x ∷ xs) h =
    elim (cases_Bool (p x)) [
      | inl t ↦ rw (h x t, t) (ap (λ l. x ∷ l) (kept_within p q xs h))
      | inr f ↦
          elim (cases_Bool (q x)) [
            | inl u ↦ rw (u, f) (kept_within p q xs h)
            | inr g ↦ rw (g, f) (kept_within p q xs h)
          ]
    ]

passes_other : (p : Record → Bool) (r s : Record) → Respects p → p r ≡ false → p s ≡ true
    → not (same_record r s) ≡ true
passes_other p r s c f t =
    elim (cases_Bool (same_record r s)) [
      | inr g ↦ rw g refl
      | inl u ↦ absurd (both_ways (p s) (sym (c r s u) ∙ f) t)
    ]

filter_distinct : (p : Record → Bool) (xs : List Record) → Respects p → filter p (distinct xs) ≡ distinct (filter p xs)
unfolding distinct
filter_distinct p [] c = refl
filter_distinct p (r ∷ rs) c =
    elim (cases_Bool (p r)) [
      | inl t ↦
          rw t
          (ap (λ l. r ∷ l) (filter_swap p (other r) (distinct rs) ∙ ap (filter (other r)) (filter_distinct p rs c)))
      | inr f ↦ rw f (kept_within p (other r) (distinct rs) (λ s t. passes_other p r s c f t) ∙ filter_distinct p rs c)
    ]

-- a record that is the same as an earlier one makes no difference
without_it : (o x : Record) (os rest : List Record) → same_record o x ≡ true
    → filter (other o) (os ++ x ∷ rest) ≡ filter (other o) (os ++ rest)
without_it o x os rest t =
    let front : filter (other o) (x ∷ rest) ≡ filter (other o) rest = rw t refl in
    filter-append (other o) os (x ∷ rest)
    ∙ (ap (λ l. filter (other o) os ++ l) front ∙ sym (filter-append (other o) os rest))

seen_twice : (out rest : List Record) (x : Record) → has_same x out ≡ true
    → distinct (out ++ x ∷ rest) ≡ distinct (out ++ rest)
unfolding distinct
seen_twice [] rest x t = absurd (cc)
seen_twice (o ∷ os) rest x t =
    elim (cases_Bool (same_record x o)) [
      | inl s ↦
          ap (λ l. o ∷ l) (filter_distinct (other o) (os ++ x ∷ rest) (other_respects o)
          ∙ (ap distinct (without_it o x os rest (records_equal.symm o x ∙ s))
          ∙ sym (filter_distinct (other o) (os ++ rest) (other_respects o))))
      | inr f ↦ ap (λ l. o ∷ filter (other o) l) (seen_twice os rest x (rw f at t))
    ]

-- a record that is kept unless the same is there
pub sift_step : (out new rest : List Record) (x : Record) → new ≡ (if has_same x out then out else out ++ x ∷ [])
    → distinct (new ++ rest) ≡ distinct (out ++ x ∷ rest)
sift_step out new rest x e =
    elim (cases_Bool (has_same x out)) [
      | inl t ↦ ap (λ l. distinct (l ++ rest)) (e ∙ rw t refl) ∙ sym (seen_twice out rest x t)
      | inr f ↦ ap (λ l. distinct (l ++ rest)) (e ∙ rw f refl) ∙ ap distinct (append_assoc out (x ∷ []) rest)
    ]

-- what is distinct stays so before further records
distinct_front : (xs ys : List Record) → distinct (distinct xs ++ ys) ≡ distinct (xs ++ ys)
unfolding distinct
distinct_front [] ys = refl
distinct_front (r ∷ rs) ys =
    let found = distinct rs in
    let within : filter (other r) (filter (other r) found ++ ys) ≡ filter (other r) (found ++ ys) =
    filter-append (other r) (filter (other r) found) ys
    ∙ (ap (λ l. l ++ filter (other r) ys) (kept_within (other r) (other r) found (λ s t. t))
    ∙ sym (filter-append (other r) found ys)) in
    ap (λ l. r ∷ l) (filter_distinct (other r) (filter (other r) found ++ ys) (other_respects r)
    ∙ (ap distinct within ∙ (sym (filter_distinct (other r) (found ++ ys) (other_respects r))
    ∙ ap (filter (other r)) (distinct_front rs ys))))

pub same_front : (xs ys rest : List Record) → distinct xs ≡ distinct ys → distinct (xs ++ rest) ≡ distinct (ys ++ rest)
same_front xs ys rest e = sym (distinct_front xs rest) ∙ (ap (λ l. distinct (l ++ rest)) e ∙ distinct_front ys rest)

-- the first record is there
pub first_kept : (kept body : List Record) (first : Record) → distinct kept ≡ distinct (first ∷ body)
    → (rest : List Record) × (kept ≡ first ∷ rest)
unfolding distinct
first_kept [] body first e = absurd (cc)
first_kept (x ∷ xs) body first e = (xs, ap (λ r. r ∷ xs) (cc))

-- what is kept and what is left, after one more record
pub sift_on : (out new all rest before : List Record) (x : Record)
    → new ≡ (if has_same x out then out else out ++ x ∷ []) → before ≡ x ∷ rest
    → distinct (out ++ before) ≡ distinct all → distinct (new ++ rest) ≡ distinct all
sift_on out new all rest before x e f h = sift_step out new rest x e ∙ (ap (λ l. distinct (out ++ l)) (sym f) ∙ h)
