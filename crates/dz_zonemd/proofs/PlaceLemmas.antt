-- The ZONEMD records of an apex are one run of records in order.
use Rattle.std.proofs.Common.{◌≡◌, ℕ, ◌+◌, ◌-◌, ◌<◌, ◌≤◌, Bool, true, false, List, [], ◌∷◌, ◌++◌, length, take, drop}
use Rattle.std.proofs.Common.{get_or, get_or-drop, refl, sym, ◌∙◌, ap, arith, length-drop, inl, inr}
use Rattle.std.specs.Prelude.{filter, ◌==◌, ◌&&◌}
use Rattle.std.specs.List.{All}
use Rattle.std.specs.List.Sorted.{IsStrictlySortedBy, IsSortedBy, IsNonDecreasingBy, IsPartitionedBy}
use Rattle.std.specs.Cmp.{IsTotalOrder, on_total, then_total, nat_cmp_total}
use Rattle.std.specs.Ordering.{is_lt, is_le, is_eq, is_gt, ordering_index, ordering_then, ordering_reverse, nat_cmp}
use Rattle.std.specs.Ordering.{on, then_cmp}
use Rattle.std.specs.declared.cmp.Ordering.{Ordering}
use Rattle.std.specs.declared.cmp.Ordering.TheVariants.{Less, Equal, Greater}
use Rattle.std.proofs.lemmas.Bool.{cases_lt}
use Rattle.std.proofs.lemmas.Bool.Decides.{nat_tests}
use Rattle.std.proofs.lemmas.List.{take-append-drop, append-nil, get_or-take, length-take-le}
use Rattle.std.proofs.lemmas.List.Elements.{filter-append, filter_agree, All-head, All-tail}
use Rattle.std.proofs.lemmas.List.Sorted.{searchable_from_sorted}
use Rattle.std.proofs.lemmas.Map.Keys.{Less-from_sorted}
use Rattle.dz_name.specs.Words.{Name}
use Rattle.dz_name.specs.Name.{canonical_order}
use Rattle.dz_name.specs.Order.{canonical_total, same_ties}
use Rattle.dz_record.specs.Record.{Record, record_order}
use Rattle.dz_zonemd.specs.Standing.{zonemds, is_zonemd}
use Rattle.dz_zonemd.specs.inner.Places.{from_zonemds, IsBegin, IsEnd}

-- owner and type of a record, and their order
abbrev key : Record → Name × ℕ
key r = (r.owner, r.kind)

abbrev key_order : Name × ℕ → Name × ℕ → Ordering
key_order = then_cmp (on (λ k. k.0) canonical_order) (on (λ k. k.1) nat_cmp)

key_total : IsTotalOrder key_order
key_total = then_total (on_total (λ k. k.0) canonical_total) (on_total (λ k. k.1) nat_cmp_total)

front_not_greater : (o p : Ordering) → ordering_then o p ≡ Less → is_gt o ≡ false
front_not_greater Less p h = refl
front_not_greater Equal p h = refl
front_not_greater Greater p h = absurd (cc)

turned_not_less : (o : Ordering) → is_gt o ≡ false → is_lt (ordering_reverse o) ≡ false
turned_not_less Less h = refl
turned_not_less Equal h = refl
turned_not_less Greater h = absurd (cc)

keys_rise : (records : List Record) → IsStrictlySortedBy record_order records
    → IsSortedBy (λ a b. is_lt (key_order (key a) (key b))) records
keys_rise records up k d low within =
    let a = get_or records k d in
    let b = get_or records (k + 1) d in
    rw (key_total.antisymm (key b) (key a)) (turned_not_less (key_order (key a) (key b)) (front_not_greater
    (key_order (key a) (key b)) _ (Less-from_sorted record_order records k (k + 1) d up (omega arith) within)))

rises : (apex : Name) (records : List Record) → IsStrictlySortedBy record_order records
    → IsNonDecreasingBy (λ r. ordering_index (from_zonemds apex r)) records
rises apex records up = searchable_from_sorted key_total key records (apex, 63) (keys_rise records up)

below_less : (o p : Ordering) → ordering_index o ≤ ordering_index p → is_lt p ≡ true → is_lt o ≡ true
below_less Less p h k = refl
below_less o Equal h k = absurd (cc)
below_less o Greater h k = absurd (cc)
below_less Equal Less h k = absurd (omega arith)
below_less Greater Less h k = absurd (omega arith)

below_le : (o p : Ordering) → ordering_index o ≤ ordering_index p → is_le p ≡ true → is_le o ≡ true
below_le Less p h k = refl
below_le Equal p h k = refl
below_le o Greater h k = absurd (cc)
below_le Greater Less h k = absurd (omega arith)
below_le Greater Equal h k = absurd (omega arith)

-- what the searches ask
pub parted_before : (apex : Name) (records : List Record) → IsStrictlySortedBy record_order records
    → IsPartitionedBy (λ r. is_lt (from_zonemds apex r)) records
parted_before apex records up i j d le within h = below_less (from_zonemds apex (get_or records i d))
    (from_zonemds apex (get_or records j d)) (rises apex records up i j d le within) h

pub parted_upto : (apex : Name) (records : List Record) → IsStrictlySortedBy record_order records
    → IsPartitionedBy (λ r. is_le (from_zonemds apex r)) records
parted_upto apex records up i j d le within h = below_le (from_zonemds apex (get_or records i d))
    (from_zonemds apex (get_or records j d)) (rises apex records up i j d le within) h

lt_is_le : (o : Ordering) → is_lt o ≡ true → is_le o ≡ true
lt_is_le Less h = refl
lt_is_le Equal h = refl
lt_is_le Greater h = absurd (cc)

lt_not_eq : (o : Ordering) → is_lt o ≡ true → is_eq o ≡ false
lt_not_eq Less h = refl
lt_not_eq Equal h = absurd (cc)
lt_not_eq Greater h = absurd (cc)

not_le_not_eq : (o : Ordering) → is_le o ≡ false → is_eq o ≡ false
not_le_not_eq Less h = absurd (cc)
not_le_not_eq Equal h = absurd (cc)
not_le_not_eq Greater h = refl

le_not_lt_eq : (o : Ordering) → is_lt o ≡ false → is_le o ≡ true → is_eq o ≡ true
le_not_lt_eq Less h k = absurd (cc)
le_not_lt_eq Equal h k = refl
le_not_lt_eq Greater h k = absurd (cc)

-- the search for the end leads no nearer to the beginning than that for the begin
pub places_rise : (apex : Name) (records : List Record) (i j : ℕ) → i ≤ length records → IsBegin apex records i
    → IsEnd apex records j → i ≤ j
places_rise apex [] i j within low high = omega arith
places_rise apex (r ∷ rs) i j within low high = elim (cases_lt j i) [
  | inr le ↦ le
  | inl lt ↦
      let a : is_le (from_zonemds apex (get_or (r ∷ rs) j r)) ≡ true = lt_is_le _ (low.0 j r (omega arith) lt) in
      let b : is_le (from_zonemds apex (get_or (r ∷ rs) j r)) ≡ false = high.1 j r (omega arith) (omega arith) in
      absurd (cc)
]

none_pass : (p : Record → Bool) (rs : List Record) → All (λ r. p r ≡ false) rs → filter p rs ≡ []
none_pass p [] none = refl
none_pass p (r ∷ rs) none =
    rw (All-head (λ r. p r ≡ false) r rs none) (none_pass p rs (All-tail (λ r. p r ≡ false) r rs none))

all_pass : (p : Record → Bool) (rs : List Record) → All (λ r. p r ≡ true) rs → filter p rs ≡ rs
all_pass p [] each = refl
all_pass p (r ∷ rs) each = rw (All-head (λ r. p r ≡ true) r rs each)
    (ap (λ xs. r ∷ xs) (all_pass p rs (All-tail (λ r. p r ≡ true) r rs each)))

never : (b : Bool) → false ≡ (b && false)
never true = refl
never false = refl

always : (b : Bool) → b ≡ (b && true)
always true = refl
always false = refl

equal_is : (a b : ℕ) → is_eq (nat_cmp a b) ≡ (a == b)
equal_is a b = grind (arith, nat_tests)

both_equal : (o : Ordering) (a b : ℕ) → is_eq (ordering_then o (nat_cmp a b)) ≡ ((a == b) && is_eq o)
both_equal Less a b = never (a == b)
both_equal Equal a b = equal_is a b ∙ always (a == b)
both_equal Greater a b = never (a == b)

is_key : (apex : Name) (r : Record) → is_eq (from_zonemds apex r) ≡ is_zonemd apex r
is_key apex r = both_equal (canonical_order r.owner apex) r.kind 63
    ∙ ap (λ b. (r.kind == 63) && b) (sym (same_ties r.owner apex))

pub run_is : (apex : Name) (records : List Record) (i j : ℕ) → i ≤ length records → j ≤ length records
    → IsBegin apex records i → IsEnd apex records j
    → take (j - i) (drop i records) ≡ zonemds apex records
run_is apex records i j low_in high_in low high =
    let seen = from_zonemds apex in
    let p : Record → Bool = λ r. is_eq (from_zonemds apex r) in
    let le : i ≤ j = places_rise apex records i j low_in low high in
    let rest = drop i records in
    let n : length (take (j - i) rest) ≡ j - i = length-take-le (j - i) rest (omega (arith, length-drop i records)) in
    let front : filter p (take i records) ≡ [] =
    none_pass p (take i records) (λ k d h.
    let m : k < i = omega (arith, length-take-le i records low_in) in
    rw (get_or-take i records k d m) (lt_not_eq (seen (get_or records k d)) (low.0 k d (omega arith) m))) in
    let middle : filter p (take (j - i) rest) ≡ take (j - i) rest =
    all_pass p (take (j - i) rest) (λ k d h.
    let m : k < j - i = omega arith in
    rw (get_or-take (j - i) rest k d m, get_or-drop i records k d)
    (le_not_lt_eq (seen (get_or records (i + k) d)) (low.1 (i + k) d (omega arith) (omega arith))
    (high.0 (i + k) d (omega arith) (omega arith)))) in
    let back : filter p (drop (j - i) rest) ≡ [] =
    none_pass p (drop (j - i) rest) (λ k d h.
    let m : i + ((j - i) + k) ≡ j + k = omega arith in
    let len : j + k < length records = omega (arith, length-drop (j - i) rest, length-drop i records) in
    rw (get_or-drop (j - i) rest k d, get_or-drop i records ((j - i) + k) d, m)
    (not_le_not_eq (seen (get_or records (j + k) d)) (high.1 (j + k) d (omega arith) len))) in
    let parts : filter p records ≡ filter p (take i records) ++ filter p rest =
    ap (filter p) (sym (take-append-drop i records)) ∙ filter-append p (take i records) rest in
    let more : filter p rest ≡ filter p (take (j - i) rest) ++ filter p (drop (j - i) rest) =
    ap (filter p) (sym (take-append-drop (j - i) rest)) ∙ filter-append p (take (j - i) rest) (drop (j - i) rest) in
    sym (parts ∙ rw (front, more, middle, back) (append-nil (take (j - i) rest)))
    ∙ filter_agree p (is_zonemd apex) (is_key apex) records
