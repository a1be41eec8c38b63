-- In canonical order the names within a name follow it, and nothing comes between them.
use Rattle.std.specs.Prelude.{nat_lt, nat_le, ◌&&◌, Bool, filter}
use Rattle.std.specs.List.{list_any}
use Rattle.std.proofs.lemmas.Bool.Decides.{nat_tests}
use Rattle.dz_lookup.specs.inner.Links.{no_record}
use Rattle.std.proofs.Common.{◌≡◌, ℕ, ◌<◌, ◌≤◌, true, false, List, [], ◌∷◌, ◌++◌, length, get_or, take, drop, ◌-◌, ◌+◌}
use Rattle.std.proofs.Common.{min, refl, sym, ◌∙◌, ap, arith, inl, inr, append_assoc, length-append, length-drop}
use Rattle.std.specs.List.Sorted.{IsStrictlySortedBy}
use Rattle.std.specs.Cmp.{both_ways}
use Rattle.std.specs.Ordering.{is_lt, is_gt, ordering_reverse}
use Rattle.std.specs.declared.cmp.Ordering.{Ordering}
use Rattle.std.specs.declared.cmp.Ordering.TheVariants.{Less, Equal, Greater}
use Rattle.std.proofs.lemmas.Bool.{cases_Bool, cases_lt, false_from_ne_true}
use Rattle.std.proofs.lemmas.List.{get_or_default, take-append-drop, drop-drop}
use Rattle.std.proofs.lemmas.List.Folds.{list_any_at, Any-from_list_any}
use Rattle.dz_name.specs.Name.{canonical_order, is_within, same_name, IsWithin}
use Rattle.dz_name.proofs.PartLemmas.{within_suffix}
use Rattle.dz_record.specs.Record.{Record, record_order}
use Rattle.dz_zone.proofs.CanonicalLemmas.{within_not_less, both_within}
use Rattle.dz_runs.specs.Runs.{exists, records_of}
use Rattle.dz_runs.specs.Node.{from_owner, IsBegin}
use Rattle.dz_lookup.specs.inner.Places.{IsMissing}
use Rattle.dz_name.specs.Order.{canonical_total, same_decides}
use Rattle.std.proofs.lemmas.List.Sorted.{sorted_far, ranks_by}
use Rattle.dz_runs.proofs.InOrder.{owners_rise, records_of_is}

not_gt : (o p : Ordering) → o ≡ ordering_reverse p → is_lt p ≡ false → is_gt o ≡ false
not_gt o Less e h = absurd (cc)
not_gt o Equal e h = rw e refl
not_gt o Greater e h = rw e refl

less_not_gt : (o : Ordering) → is_lt o ≡ true → is_gt o ≡ false
less_not_gt Less h = refl
less_not_gt Equal h = absurd (cc)
less_not_gt Greater h = absurd (cc)

-- a name is within a name that exists just where one of the two records beside the name's place is within it
pub none_beside : (zone : List Record) (name above : List (List ℕ)) (i : ℕ) → IsStrictlySortedBy record_order zone
    → IsBegin (from_owner name) zone i → i ≤ length zone
    → is_within name above ≡ true → ((d : Record) → i < length zone → is_within (get_or zone i d).owner above ≡ false)
    → ((d : Record) → 0 < i → is_within (get_or zone (i - 1) d).owner above ≡ false) → exists zone above ≡ false
none_beside zone name above i up begin room inner from_here before_here =
    false_from_ne_true (exists zone above) (λ t.
    let some = Any-from_list_any (λ r. is_within r.owner above) zone t in
    let k = some.0 in
    let r = some.1 in
    let rise = owners_rise zone up in
    let ranks = ranks_by canonical_total (λ (r : Record). r.owner) in
    let one : get_or zone k r ≡ r = some.3 in
    elim (cases_lt k i) [
      | inl before ↦
          let last : Record = get_or zone (i - 1) r in
          let low : is_lt (canonical_order last.owner (get_or zone k r).owner) ≡ false =
          sorted_far (λ (a b : Record). is_lt (canonical_order a.owner b.owner)) ranks zone rise k (i - 1) r
          (omega arith) (omega arith) in
          let high = less_not_gt (from_owner name last) (begin.0 (i - 1) r (omega arith) (omega arith)) in
          let is = both_within r.owner name last.owner above some.4 inner (rw one at low) high in
          let no = before_here r (omega arith) in
          absurd (cc)
      | inr from ↦
          let first : Record = get_or zone i r in
          let lt : i < length zone = omega (arith, some.2) in
          let a : is_lt (canonical_order (get_or zone k r).owner first.owner) ≡ false =
          sorted_far (λ (a b : Record). is_lt (canonical_order a.owner b.owner)) ranks zone rise i k r from some.2 in
          let high : is_gt (canonical_order first.owner (get_or zone k r).owner) ≡ false =
          not_gt (canonical_order first.owner (get_or zone k r).owner) (canonical_order
          (get_or zone k r).owner first.owner) (canonical_total.antisymm first.owner (get_or zone k r).owner) a in
          let low = begin.1 i r (omega arith) lt in
          let is = both_within name r.owner first.owner above inner some.4 low (rw one at high) in
          let no = from_here r lt in
          absurd (cc)
    ])

first_fact : (s t : Bool) → true ≡ (s && t) → (s ≡ true) × (t ≡ true)
first_fact true t e = (refl, sym e)
first_fact false t e = absurd (cc)

-- a look at a record, and what it shows
abbrev pub IsLook : List Record → List (List ℕ) → ℕ → Bool → Type 0
IsLook zone above i look = (d : Record) → look ≡ (nat_lt i (length zone) && is_within (get_or zone i d).owner above)

pub look_shows : (zone : List Record) (above : List (List ℕ)) (i : ℕ) (look : Bool) → IsLook zone above i look
    → look ≡ true → true ≡ exists zone above
look_shows zone above i look is seen =
    let both = first_fact (nat_lt i (length zone)) (is_within (get_or zone i no_record).owner above)
    (sym seen ∙ is no_record) in
    let within : i < length zone = grind (arith, nat_tests, both.0) in
    sym (list_any_at (λ r. is_within r.owner above) zone i no_record within both.1)

look_fails : (zone : List Record) (above : List (List ℕ)) (i : ℕ) (look : Bool) → IsLook zone above i look
    → look ≡ false
    → (d : Record) → i < length zone → is_within (get_or zone i d).owner above ≡ false
look_fails zone above i look is unseen d within =
    let lt : nat_lt i (length zone) ≡ true = grind (arith, nat_tests) in
    let e : false ≡ (true && is_within (get_or zone i d).owner above) = rw (unseen, lt) at is d in
    sym e

-- the looks at the records beside a name's place tell whether a name above it exists
pub looks_tell : (zone : List Record) (name above : List (List ℕ)) (i : ℕ) (here before : Bool)
    → IsStrictlySortedBy record_order zone → IsBegin (from_owner name) zone i → i ≤ length zone
    → is_within name above ≡ true → IsLook zone above i here → here ≡ false → IsLook zone above (i - 1) before
    → before ≡ exists zone above
looks_tell zone name above i here before up begin room inner here_is unseen before_is = elim (cases_Bool before) [
  | inl seen ↦ seen ∙ look_shows zone above (i - 1) before before_is seen
  | inr none ↦
      none ∙ sym (none_beside zone name above i up begin room inner (look_fails zone above i here here_is unseen)
      (λ d some. look_fails zone above (i - 1) before before_is none d (omega arith)))
]

pub look_alone : (zone : List Record) (name above : List (List ℕ)) (i : ℕ) (here : Bool)
    → IsStrictlySortedBy record_order zone → IsBegin (from_owner name) zone i → i ≤ length zone
    → is_within name above ≡ true → IsLook zone above i here → here ≡ false → i ≡ 0 → false ≡ exists zone above
look_alone zone name above i here up begin room inner here_is unseen first =
    sym (none_beside zone name above i up begin room inner (look_fails zone above i here here_is unseen)
    (λ d some. absurd (omega arith)))

-- what is left of a name after its first labels is a name above it
pub drop_within : (name : List (List ℕ)) (j k : ℕ) → j ≤ k → is_within (drop j name) (drop k name) ≡ true
drop_within name j k le =
    let n : j + (k - j) ≡ k = omega arith in
    let rest : drop (k - j) (drop j name) ≡ drop k name = drop-drop (k - j) j name ∙ ap (λ x. drop x name) n in
    (within_suffix (drop j name) (drop k name)).1 (
      take (k - j) (drop j name),
      sym (take-append-drop (k - j) (drop j name)) ∙ ap (λ xs. take (k - j) (drop j name) ++ xs) rest,
    )

pub look_is : (zone : List Record) (above : List (List ℕ)) (i : ℕ) (r d : Record) (look : Bool) → i < length zone
    → r ≡ get_or zone i r → look ≡ is_within r.owner above
    → look ≡ (nat_lt i (length zone) && is_within (get_or zone i d).owner above)
look_is zone above i r d look within item is =
    let lt : nat_lt i (length zone) ≡ true = grind (arith, nat_tests) in
    let same : r ≡ get_or zone i d = item ∙ get_or_default zone i r d within in
    is ∙ (ap (λ (x : Record). is_within x.owner above) same ∙ rw lt refl)

-- where there is no record, a number past all labels tells that no name above is shared
pub no_look : (zone : List Record) (above : List (List ℕ)) (i : ℕ) (d : Record) (past k : ℕ)
    → length zone ≤ i → k < past
    → nat_le past k ≡ (nat_lt i (length zone) && is_within (get_or zone i d).owner above)
no_look zone above i d past k beyond few =
    let gt : nat_lt i (length zone) ≡ false = grind (arith, nat_tests) in
    let lt : nat_le past k ≡ false = grind (arith, nat_tests) in
    lt ∙ rw gt refl

-- how many first labels a name has before the longest name that encloses it and an owner tells which names above it
-- the owner is within
pub apart_is : (name owner : List (List ℕ)) (apart skip : ℕ) → apart ≤ length name → IsWithin owner (drop apart name)
    → ((zone : List (List ℕ)) → IsWithin name zone → IsWithin owner zone → IsWithin (drop apart name) zone)
    → skip ≤ length name → nat_le apart skip ≡ is_within owner (drop skip name)
apart_is name owner apart skip few encloses longest le =
    both_ways (nat_le apart skip) (is_within owner (drop skip name))
    (λ t.
    let least : apart ≤ skip = grind (arith, nat_tests) in
    let w = (within_suffix (drop apart name) (drop skip name)).0 (drop_within name apart skip least) in
    (within_suffix owner (drop skip name)).1 (
      encloses.0 ++ w.0,
      encloses.1 ∙ (ap (λ rest. encloses.0 ++ rest) w.1 ∙ sym (append_assoc encloses.0 w.0 (drop skip name))),
    ))
    (λ t.
    let w = (within_suffix owner (drop skip name)).0 t in
    let v = longest (drop skip name) (take skip name, sym (take-append-drop skip name)) w in
    let least : apart ≤ skip = omega
    (arith, ap length v.1, length-append v.0 (drop skip name), length-drop apart name, length-drop skip name) in
    grind (arith, nat_tests))

-- the looks at the records beside the place of a name that tell which names above it exist
module _ (zone : List Record) (name : List (List ℕ)) (i here : ℕ) (up : IsStrictlySortedBy record_order zone)
    (begin : IsBegin (from_owner name) zone i) (room : i ≤ length zone)
    (here_is : (skip : ℕ) → skip ≤ length name → IsLook zone (drop skip name) i (nat_le here skip)) where
  within_above : (skip : ℕ) → is_within name (drop skip name) ≡ true
  within_above skip = drop_within name 0 skip (omega arith)

  seen_here : (skip : ℕ) → skip ≤ length name → nat_le here skip ≡ true
      → exists zone (drop skip name) ≡ nat_le here skip
  seen_here skip le t = sym (t ∙ look_shows zone (drop skip name) i (nat_le here skip) (here_is skip le) t)

  -- .. at the first place of all
  pub missing_first : i ≡ 0 → IsMissing zone name here
  missing_first first skip le = elim (cases_Bool (nat_le here skip)) [
    | inl t ↦ seen_here skip le t
    | inr f ↦ sym (f ∙ look_alone zone name (drop skip name) i (nat_le here skip) up begin room (within_above skip)
        (here_is skip le) f first)
  ]

  -- .. where the name itself or the one above it is seen from its own place: no owner before the place is within the
  -- name
  before_not : (d : Record) → 0 < i → is_within (get_or zone (i - 1) d).owner name ≡ false
  before_not d some = false_from_ne_true (is_within (get_or zone (i - 1) d).owner name) (λ t.
      let a : is_lt (from_owner name (get_or zone (i - 1) d)) ≡ true =
      begin.0 (i - 1) d (omega (arith, room)) (omega arith) in
      let b = within_not_less (get_or zone (i - 1) d).owner name t in
      absurd (cc))

  pub missing_near : here ≤ 1 → IsMissing zone name here
  missing_near near skip le = elim (cases_Bool (nat_le here skip)) [
    | inl t ↦ seen_here skip le t
    | inr f ↦
        let none : skip ≡ 0 = grind (arith, nat_tests) in
        rw none (none_beside zone name name i up begin room (within_above 0)
        (look_fails zone name i (nat_le here 0) (here_is 0 (omega arith)) (rw none at f)) before_not) ∙ sym f
  ]

  -- .. and else
  pub missing_both : (before : ℕ) → 0 < i
      → ((skip : ℕ) → skip ≤ length name → IsLook zone (drop skip name) (i - 1) (nat_le before skip))
      → IsMissing zone name (min here before)
  missing_both before some before_is skip le = elim (cases_Bool (nat_le here skip)) [
    | inl t ↦ let e : nat_le (min here before) skip ≡ nat_le here skip = grind (arith, nat_tests) in
        seen_here skip le t ∙ sym e
    | inr f ↦
        let e : nat_le (min here before) skip ≡ nat_le before skip = grind (arith, nat_tests) in
        sym (e ∙ looks_tell zone name (drop skip name) i (nat_le here skip) (nat_le before skip) up begin room
        (within_above skip) (here_is skip le) f (before_is skip le))
  ]

-- a name that owns records exists, and so does each name above it
some_kept : {X : Type 0} (p : X → Bool) (xs : List X) → 0 < length (filter p xs) → list_any p xs ≡ true
some_kept p [] some = absurd (omega (arith, some))
some_kept p (x ∷ xs) some = elim (cases_Bool (p x)) [
  | inl here ↦ rw here refl
  | inr not_here ↦ rw not_here (some_kept p xs (rw not_here at some))
]

pub none_missing : (zone : List Record) (name : List (List ℕ)) (own : List Record)
    → IsStrictlySortedBy record_order zone → own ≡ records_of zone name → 0 < length own → IsMissing zone name 0
none_missing zone name own up is some skip le =
    let kept : own ≡ filter (λ r. same_name r.owner name) zone = is ∙ records_of_is zone name up in
    let any = Any-from_list_any (λ r. same_name r.owner name) zone
    (some_kept (λ r. same_name r.owner name) zone (rw kept at some)) in
    let same : any.1.owner ≡ name = (same_decides any.1.owner name).0 any.4 in
    let t : nat_le 0 skip ≡ true = grind (arith, nat_tests) in
    list_any_at (λ r. is_within r.owner (drop skip name)) zone any.0 any.1 any.2
    (rw (any.3, same) (drop_within name 0 skip (omega arith))) ∙ sym t

-- whether the name itself exists
pub exists_all : (zone : List Record) (name : List (List ℕ)) (missing : ℕ) → IsMissing zone name missing → missing ≡ 0
    → exists zone name ≡ true
exists_all zone name missing is none =
    let t : nat_le missing 0 ≡ true = grind (arith, nat_tests) in
    is 0 (omega arith) ∙ t

pub exists_not : (zone : List Record) (name : List (List ℕ)) (missing : ℕ) → IsMissing zone name missing → 0 < missing
    → exists zone name ≡ false
exists_not zone name missing is some =
    let f : nat_le missing 0 ≡ false = grind (arith, nat_tests) in
    is 0 (omega arith) ∙ f
