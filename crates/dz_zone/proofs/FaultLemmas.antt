-- The faults of records in any order, and of records in canonical order.
use Rattle.std.proofs.Common.{◌≡◌, ℕ, ◌≤◌, Bool, true, false, not, ◌&&◌, ◌||◌, cond, List, [], ◌∷◌, length, refl, sym}
use Rattle.std.proofs.Common.{◌∙◌, ap, subst, arith, is_lt, Ordering, Less, Equal, Greater, Some, None, inl, inr}
use Rattle.std.proofs.Common.{get_or, take, drop, suc, ◌-◌}
use Rattle.std.proofs.lemmas.List.{take_all}
use Rattle.std.specs.Ordering.{ordering_reverse, ordering_then, nat_cmp}
use Rattle.std.specs.Prelude.{All, filter, ◌==◌, nat_lt, if◌then◌else◌}
use Rattle.std.specs.List.{list_any, find, IsAllAdjacentAnswer}
use Rattle.std.specs.List.Sorted.{IsStrictlySortedBy}
use Rattle.std.specs.Cmp.{tied_itself}
use Rattle.std.proofs.lemmas.Bool.{cases_Bool, and_parts, not-true, eqb-true}
use Rattle.std.proofs.lemmas.Bool.Decides.{nat_tests}
use Rattle.dz_name.specs.Name.{same_name, canonical_order, is_within}
use Rattle.dz_name.specs.Order.{canonical_total, canonical_same, same_decides, names_equal}
use Rattle.dz_record.specs.Record.{Record, IsRecord, record_order, soa_of}
use Rattle.dz_record.specs.Records.{in_order}
use Rattle.dz_zone.specs.inner.Neighbours.{neighbours_from, neighbours}
use Rattle.dz_zone.specs.Valid.{some_two, at_apex, no_soa, soa_twice, soa_below, no_ns, out_of_zone, cname_beside}
use Rattle.dz_zone.specs.Valid.{owned_twice, too_many, is_beside_any, is_cname_and_other, clash, both_are, fault_of}
use Rattle.dz_zone.specs.declared.fault.ZoneFault.TheVariants.{NoSoa, SoaTwice, SoaBelow, NoNs, OutOfZone, CnameBeside}
use Rattle.dz_zone.specs.declared.fault.ZoneFault.TheVariants.{CnameTwice, DnameTwice, TooMany}
use Rattle.dz_zone.proofs.Pairs.{any_puts, sum_puts, length_puts, two_puts, two_neighbours, ascends_filter, each_kept}
use Rattle.dz_zone.proofs.Pairs.{each_true, two_filter, front_no, adjacent_answer}
use Rattle.dz_zone.proofs.RecordLemmas.{before, rising_ascends, in_order_puts}

lt_first : (a b : Ordering) → is_lt (ordering_then a b) ≡ false → is_lt a ≡ false
lt_first Less b h = h
lt_first Equal b h = refl
lt_first Greater b h = refl

lt_second : (a b : Ordering) → a ≡ Equal → is_lt (ordering_then a b) ≡ false → is_lt b ≡ false
lt_second a b e h = rw e at h

neither : (o p : Ordering) → p ≡ ordering_reverse o → is_lt o ≡ false → is_lt p ≡ false → p ≡ Equal
neither Less p e f g = absurd (cc)
neither Equal p e f g = e
neither Greater p e f g = let h = rw e at g in absurd (cc)

owner_not_before : (x y : Record) → before y x ≡ false → is_lt (canonical_order y.owner x.owner) ≡ false
unfolding before
owner_not_before x y h =
    let o = canonical_order y.owner x.owner in
    let k = nat_cmp y.kind x.kind in
    lt_first o k (lt_first (ordering_then o k) _ h)

-- a record between two of one owner has that owner
owner_between : (x y z : Record) → before y x ≡ false → before z y ≡ false → x.owner ≡ z.owner → x.owner ≡ y.owner
owner_between x y z a b e =
    let back : is_lt (canonical_order x.owner y.owner) ≡ false = rw (← e) at (owner_not_before y z b) in
    canonical_same x.owner y.owner
    (neither (canonical_order y.owner x.owner) (canonical_order x.owner y.owner)
    (canonical_total.antisymm x.owner y.owner) (owner_not_before x y a) back)

nat_not_before : (a b : ℕ) → is_lt (nat_cmp b a) ≡ false → a ≤ b
nat_not_before a b h = grind (arith, nat_tests)

kind_not_before : (x y : Record) → before y x ≡ false → x.owner ≡ y.owner → x.kind ≤ y.kind
unfolding before
kind_not_before x y h e =
    let o = canonical_order y.owner x.owner in
    let k = nat_cmp y.kind x.kind in
    let tied : o ≡ Equal =
    subst (λ n. canonical_order y.owner n ≡ Equal) (sym e) (tied_itself canonical_total y.owner) in
    nat_not_before x.kind y.kind (lt_second o k tied (lt_first (ordering_then o k) _ h))

owners_are : (a b : Record) → same_name a.owner b.owner ≡ true → a.owner ≡ b.owner
owners_are a b t = (same_decides a.owner b.owner).0 t

owners_same : (a b : Record) → a.owner ≡ b.owner → same_name a.owner b.owner ≡ true
owners_same a b e = (same_decides a.owner b.owner).1 e

kind_is : (a b : ℕ) → a ≡ b → (a == b) ≡ true
kind_is a b e = grind (arith, nat_tests)

pub both_gap : (kind : ℕ) (x y z : Record) → true ≡ true → before y x ≡ false → before z y ≡ false
    → both_are kind x z ≡ true → (both_are kind x y || both_are kind y z) ≡ true
unfolding both_are
both_gap kind x y z k a b h =
    let parts = and_parts (same_name x.owner z.owner) (x.kind == kind && z.kind == kind) h in
    let kinds = and_parts (x.kind == kind) (z.kind == kind) parts.1 in
    let xz = owners_are x z parts.0 in
    let xy = owner_between x y z a b xz in
    let x_is = eqb-true x.kind kind kinds.0 in
    let z_is = eqb-true z.kind kind kinds.1 in
    let low = kind_not_before x y a xy in
    let high = kind_not_before y z b (sym xy ∙ xz) in
    let y_is : y.kind ≡ kind = omega arith in
    rw (owners_same x y xy, kinds.0, kind_is y.kind kind y_is) refl

gap_bits : (a b c f g : Bool) → ((a && not (c || g)) || (c && not (a || f))) ≡ true
    → (((a && not (b || false)) || (b && not (a || f))) || ((b && not (c || g)) || (c && not (b || false)))) ≡ true
gap_bits true false c f g h = refl
gap_bits true true true f g h = absurd (cc)
gap_bits true true false f true h = absurd (cc)
gap_bits true true false f false h = refl
gap_bits false b false f g h = absurd (cc)
gap_bits false false true f g h = refl
gap_bits false true true true g h = absurd (cc)
gap_bits false true true false g h = refl

pub clash_gap : (x y z : Record) → not (is_beside_any y.kind) ≡ true → before y x ≡ false → before z y ≡ false
    → clash x z ≡ true → (clash x y || clash y z) ≡ true
unfolding clash
clash_gap x y z k a b h =
    let parts = and_parts (same_name x.owner z.owner) (is_cname_and_other x z || is_cname_and_other z x) h in
    let xz = owners_are x z parts.0 in
    let xy = owner_between x y z a b xz in
    let plain : is_beside_any y.kind ≡ false = not-true (is_beside_any y.kind) k in
    rw (owners_same x y xy, owners_same y z (sym xy ∙ xz), plain)
    (gap_bits (x.kind == 5) (y.kind == 5) (z.kind == 5) (is_beside_any x.kind) (is_beside_any z.kind) parts.1)

or_turn : (a b : Bool) → (a || b) ≡ (b || a)
or_turn true true = refl
or_turn true false = refl
or_turn false true = refl
or_turn false false = refl

and_turn : (a b : Bool) → (a && b) ≡ (b && a)
and_turn true true = refl
and_turn true false = refl
and_turn false true = refl
and_turn false false = refl

swap_or : (a b c d : Bool) → a ≡ c → (a && (b || d)) ≡ (c && (d || b))
swap_or true b c d e = rw (← e) (or_turn b d)
swap_or false b c d e = rw (← e) refl

pub clash_back : (x y : Record) → clash x y ≡ clash y x
unfolding clash
clash_back x y = swap_or (same_name x.owner y.owner) (is_cname_and_other x y) (same_name y.owner x.owner)
    (is_cname_and_other y x) (names_equal.symm x.owner y.owner)

and_swap : (a b c d : Bool) → a ≡ c → (a && (b && d)) ≡ (c && (d && b))
and_swap true b c d e = rw (← e) (and_turn b d)
and_swap false b c d e = rw (← e) refl

pub both_back : (kind : ℕ) (x y : Record) → both_are kind x y ≡ both_are kind y x
unfolding both_are
both_back kind x y = and_swap (same_name x.owner y.owner) (x.kind == kind) (same_name y.owner x.owner) (y.kind == kind)
    (names_equal.symm x.owner y.owner)

beside_apart : (k : ℕ) → is_beside_any k ≡ true → (k == 5) ≡ false
beside_apart k h = grind (arith, nat_tests)

abbrev keep : Record → Bool
keep r = not (is_beside_any r.kind)

no_bits : (s a c g : Bool) → a ≡ false → (s && ((a && not (c || g)) || (c && not (a || true)))) ≡ false
no_bits true a true g e = rw e refl
no_bits true a false g e = rw e refl
no_bits false a c g e = refl

clash_kept : (x y : Record) → keep x ≡ false → clash x y ≡ false
unfolding clash
clash_kept x y h =
    elim (cases_Bool (is_beside_any x.kind)) [
      | inl t ↦ rw t (no_bits (same_name x.owner y.owner) (x.kind == 5) (y.kind == 5) (is_beside_any y.kind)
          (beside_apart x.kind t))
      | inr f ↦ let g = rw f at h in absurd (cc)
    ]

clash_kept_back : (x y : Record) → keep y ≡ false → clash x y ≡ false
clash_kept_back x y h = clash_back x y ∙ clash_kept y x h

-- the pass over neighbours finds what two records of the list show
pub beside_walk : (first : Record) (rest : List Record) → IsStrictlySortedBy record_order (first ∷ rest)
    → neighbours_from clash first (filter (λ r. not (is_beside_any r.kind)) rest) ≡ some_two clash (first ∷ rest)
beside_walk first rest up =
    let all = first ∷ rest in
    let whole : neighbours clash (filter keep all) ≡ some_two clash all =
    sym (two_neighbours before clash keep clash_gap (filter keep all) (each_kept keep all)
    (ascends_filter before keep all (rising_ascends all up)))
    ∙ two_filter clash keep clash_kept clash_kept_back all in
    elim (cases_Bool (keep first)) [
      | inl t ↦ rw t at whole
      | inr f ↦ front_no clash first (λ y. clash_kept first y f) (filter keep rest) ∙ rw f at whole
    ]

not_not : (b : Bool) → b ≡ not (not b)
not_not true = refl
not_not false = refl

pub twice_walk : (kind : ℕ) (rs : List Record) (r : Bool) → IsStrictlySortedBy record_order rs
    → IsAllAdjacentAnswer (λ a b c. c ≡ not (both_are kind a b)) rs r → not r ≡ some_two (both_are kind) rs
twice_walk kind rs r up h =
    adjacent_answer (λ a b. not (both_are kind a b)) rs r h
    ∙ (ap (λ t. neighbours t rs) (λ i a b. sym (not_not (both_are kind a b)) i)
    ∙ sym (two_neighbours before (both_are kind) (λ _. true) (both_gap kind) rs (each_true rs) (rising_ascends rs up)))

-- the faults don't depend on the order of the records
pub fault_in_order : (apex : List (List ℕ)) (rs : List Record) → fault_of apex (in_order rs) ≡ fault_of apex rs
unfolding fault_of
fault_in_order apex rs =
    rw in_order_puts
    (rw (
      any_puts before (at_apex 6 apex) rs,
      sum_puts before (λ r. cond (at_apex 6 apex r) 1 0) rs,
      any_puts before (λ r. r.kind == 6 && not (same_name r.owner apex)) rs,
      any_puts before (at_apex 2 apex) rs,
      any_puts before (λ r. not (is_within r.owner apex)) rs,
      two_puts before clash clash_back rs,
      two_puts before (both_are 5) (both_back 5) rs,
      two_puts before (both_are 39) (both_back 39) rs,
      length_puts before rs,
    ) refl)

pub has_soa : (apex : List (List ℕ)) (rs : List Record) → fault_of apex rs ≡ None → list_any (at_apex 6 apex) rs ≡ true
unfolding fault_of
has_soa apex rs h =
    elim (cases_Bool (list_any (at_apex 6 apex) rs)) [
      | inl t ↦ t
      | inr f ↦ let g = rw f at h in absurd (cc)
    ]

pub found_some : (p : Record → Bool) (rs : List Record) → list_any p rs ≡ true → find p rs ≡ None → ⊥
found_some p [] h e = cc
found_some p (r ∷ rs) h e =
    elim (cases_Bool (p r)) [
      | inl t ↦ let g = rw t at e in cc
      | inr f ↦ found_some p rs (rw f at h) (rw f at e)
    ]

pub found_passes : (p : Record → Bool) (rs : List Record) (r : Record) → Some r ≡ find p rs → p r ≡ true
found_passes p [] r e = absurd (cc)
found_passes p (s ∷ rs) r e =
    elim (cases_Bool (p s)) [
      | inl t ↦ let g : Some r ≡ Some s = rw t at e in let q : r ≡ s = cc in rw q t
      | inr f ↦ found_passes p rs r (rw f at e)
    ]

-- what is known of all records is known of one that is found
pub found_held : (p : Record → Bool) (rs : List Record) (r : Record) → Some r ≡ find p rs → All IsRecord rs
    → IsRecord r
found_held p [] r e held = absurd (cc)
found_held p (s ∷ rs) r e held =
    elim (cases_Bool (p s)) [
      | inl t ↦ let g : Some r ≡ Some s = rw t at e in let q : r ≡ s = cc in rw q (held 0 s (omega arith))
      | inr f ↦ found_held p rs r (rw f at e) (λ k d lt. held (suc k) d (omega arith))
    ]

pub soa_kind : (apex : List (List ℕ)) (rs : List Record) (r : Record) → Some r ≡ find (at_apex 6 apex) rs
    → soa_of r ≡ None → ⊥
soa_kind apex rs r e none =
    let t = (and_parts (r.kind == 6) (same_name r.owner apex) (found_passes (at_apex 6 apex) rs r e)).0 in
    let g = rw t at none in cc

pub beside_split : (rs : List Record) (first : Record) → 1 ≤ length rs → first ≡ get_or rs 0 first
    → IsStrictlySortedBy record_order rs
    → neighbours_from clash first (filter (λ r. not (is_beside_any r.kind)) (take (length rs - 1) (drop 1 rs)))
    ≡ some_two clash rs
beside_split [] first h e up = absurd (omega arith)
beside_split (r ∷ rs) first h e up =
    let n : suc (length rs) - 1 ≡ length rs = omega arith in
    rw (e, n, take_all (length rs) rs (omega arith)) (beside_walk r rs up)

-- where no fault holds, there aren't too many records
last_no : (a b c d e f g h i : Bool) → (
    if a then Some NoSoa else if b then Some SoaTwice else if c then Some SoaBelow else if d then Some NoNs else if e
    then Some OutOfZone
    else if f then Some CnameBeside else if g then Some CnameTwice else if h then Some DnameTwice else if i
    then Some TooMany else None
    ) ≡ None → i ≡ false
last_no true b c d e f g h i n = absurd (cc)
last_no false true c d e f g h i n = absurd (cc)
last_no false false true d e f g h i n = absurd (cc)
last_no false false false true e f g h i n = absurd (cc)
last_no false false false false true f g h i n = absurd (cc)
last_no false false false false false true g h i n = absurd (cc)
last_no false false false false false false true h i n = absurd (cc)
last_no false false false false false false false true i n = absurd (cc)
last_no false false false false false false false false true n = absurd (cc)
last_no false false false false false false false false false n = refl

pub few_records : (apex : List (List ℕ)) (rs : List Record) → fault_of apex rs ≡ None → length rs ≤ 250000
unfolding fault_of
few_records apex rs h =
    let few : nat_lt 250000 (length rs) ≡ false =
    last_no (no_soa apex rs) (soa_twice apex rs) (soa_below apex rs) (no_ns apex rs) (out_of_zone apex rs)
    (cname_beside rs) (owned_twice 5 rs) (owned_twice 39 rs) (too_many rs) h in
    grind (arith, nat_tests)
