-- The order of records, and what it ties.
use Rattle.std.proofs.Common.{◌≡◌, Bool, true, false, not, ◌&&◌, List, [], ◌∷◌, refl, sym, ◌∙◌, ap, is_lt, is_eq}
use Rattle.std.proofs.Common.{is_gt, Ordering, Less, Equal, Greater}
use Rattle.std.specs.Ordering.{ordering_reverse}
use Rattle.std.specs.Bool.{Decides}
use Rattle.std.specs.List.{dedup, IsAllAdjacentAnswer}
use Rattle.std.proofs.lemmas.Bool.{or_parts, not-true, not-false, not_from_false}
use Rattle.dz_zone.specs.inner.Neighbours.{neighbours_from, neighbours}
use Rattle.dz_zone.proofs.Pairs.{adjacent_answer}
use Rattle.std.specs.List.Sorted.{IsStrictlySortedBy, IsSortedBy, IsStableBy, ties}
use Rattle.std.specs.Cmp.{IsStrictWeakOrder}
use Rattle.std.proofs.lemmas.List.Sorted.{ranks_by}
use Rattle.dz_record.specs.Order.{record_total, same_ties}
use Rattle.dz_record.specs.Record.{Record, record_order, same_record}
use Rattle.dz_record.specs.Records.{distinct, in_order, insertion}
use Rattle.dz_zone.proofs.Ordered.{firsts, put, puts, Ascends, Climbs, each_more, tidied, climbed, climbs_ascends}

unfoldable pub before : Record → Record → Bool
before a b = is_lt (record_order a b)

abbrev pub is_before : Record → Record → Bool
is_before a b = is_lt (record_order a b)

pub before_is : IsStrictWeakOrder (λ a b. is_lt (record_order a b))
before_is = ranks_by record_total (λ r. r)

pub before_ranks : IsStrictWeakOrder before
unfolding before
before_ranks = before_is

tie_eq : (o p : Ordering) → p ≡ ordering_reverse o → is_eq p ≡ (not (is_lt p) && not (is_lt o))
tie_eq Less p e = rw e refl
tie_eq Equal p e = rw e refl
tie_eq Greater p e = rw e refl

pub same_before : (a b : Record) → same_record a b ≡ ties before a b
unfolding before
same_before a b = same_ties a b ∙ tie_eq (record_order b a) (record_order a b) (record_total.antisymm a b)

turn_gt : (o p : Ordering) → p ≡ ordering_reverse o → is_gt p ≡ is_lt o
turn_gt Less p e = rw e refl
turn_gt Equal p e = rw e refl
turn_gt Greater p e = rw e refl

placed_put : (r : Record) (ss : List Record) → insertion r ss ≡ put before r ss
unfolding insertion put before
placed_put r [] = refl
placed_put r (s ∷ ss) =
    rw (turn_gt (record_order s r) (record_order r s) (record_total.antisymm r s), placed_put r ss) refl

pub in_order_puts : (rs : List Record) → in_order rs ≡ puts before rs
unfolding in_order puts
in_order_puts [] = refl
in_order_puts (r ∷ rs) = rw (in_order_puts rs) (placed_put r (puts before rs))

distinct_same : (rs : List Record) → distinct rs ≡ firsts same_record rs
unfolding distinct firsts
distinct_same [] = refl
distinct_same (r ∷ rs) = rw (distinct_same rs) refl

distinct_firsts : (rs : List Record) → distinct rs ≡ firsts (ties before) rs
distinct_firsts rs = distinct_same rs ∙ ap (λ same. firsts same rs) (λ i a b. same_before a b i)

canonical : (rs : List Record) → puts before (firsts (ties before) rs) ≡ in_order (distinct rs)
canonical rs = sym (in_order_puts (distinct rs) ∙ ap (puts before) (distinct_firsts rs))

climbs : (rs : List Record) → IsStrictlySortedBy record_order rs → Climbs before rs
unfolding Climbs IsStrictlySortedBy before
climbs [] h = tt
climbs (r ∷ rs) h = (
  each_more (λ s. record_order r s ≡ Less) (λ s. is_lt (record_order r s) ≡ true)
      (λ s e. ap is_lt e) rs h.0,
  climbs rs h.1,
)

pub rising_ascends : (rs : List Record) → IsStrictlySortedBy record_order rs → Ascends before rs
rising_ascends rs h = climbs_ascends before before_ranks rs (climbs rs h)

pub rising_canonical : (rs : List Record) → IsStrictlySortedBy record_order rs → rs ≡ in_order (distinct rs)
rising_canonical rs h = climbed before before_ranks rs (climbs rs h) ∙ canonical rs

-- what a stable sort and the removal of those that are the same leave
pub sorted_canonical : (rs ss : List Record) → IsSortedBy (λ a b. is_lt (record_order a b)) ss
    → IsStableBy (λ a b. is_lt (record_order a b)) rs ss → dedup same_record ss ≡ in_order (distinct rs)
unfolding before
sorted_canonical rs ss up stable =
    ap (λ same. dedup same ss) (λ i a b. same_before a b i)
    ∙ (tidied before before_ranks rs ss up stable ∙ canonical rs)

lt_less : (o : Ordering) → is_lt o ≡ true → o ≡ Less
lt_less Less h = refl
lt_less Equal h = absurd (cc)
lt_less Greater h = absurd (cc)

-- where each comes before the next, each comes before all that follow it
rise_from : (r : Record) (ss : List Record) → neighbours_from (λ a b. not (is_before a b)) r ss ≡ false
    → IsStrictlySortedBy record_order (r ∷ ss)
unfolding neighbours_from IsStrictlySortedBy
rise_from r [] h = (tt, tt)
rise_from r (s ∷ ss) h =
    let parts = or_parts (not (is_before r s)) (neighbours_from (λ a b. not (is_before a b)) s ss) h in
    let rest = rise_from s ss parts.1 in
    let first = lt_less (record_order r s) (not-false (is_before r s) parts.0) in (
      (
        first,
        each_more (λ t. record_order s t ≡ Less) (λ t. record_order r t ≡ Less)
            (λ t l. record_total.trans r s t first l) ss rest.0,
      ),
      rest,
    )

risen_from : (r : Record) (ss : List Record) → IsStrictlySortedBy record_order (r ∷ ss)
    → neighbours_from (λ a b. not (is_before a b)) r ss ≡ false
unfolding neighbours_from IsStrictlySortedBy
risen_from r [] h = refl
risen_from r (s ∷ ss) h = rw h.0.0 (risen_from s ss h.1)

rise_decides : (rs : List Record)
    → Decides (not (neighbours (λ a b. not (is_before a b)) rs)) (IsStrictlySortedBy record_order rs)
unfolding IsStrictlySortedBy
rise_decides [] = (λ t. tt, λ h. refl)
rise_decides (r ∷ rs) =
    let n = neighbours_from (λ a b. not (is_before a b)) r rs in
    (λ t. rise_from r rs (not-true n t), λ h. not_from_false n (risen_from r rs h))

not_turn : (a b : Bool) → not a ≡ b → a ≡ not b
not_turn true b e = rw (← e) refl
not_turn false b e = rw (← e) refl

pub rise_walk : (rs : List Record) (r : Bool) → IsAllAdjacentAnswer (λ a b c. c ≡ is_before a b) rs r
    → Decides r (IsStrictlySortedBy record_order rs)
rise_walk rs r h = rw (not_turn r _ (adjacent_answer is_before rs r h)) (rise_decides rs)
