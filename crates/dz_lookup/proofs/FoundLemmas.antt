-- What is found, and that it has records.
use Rattle.std.proofs.Common.{◌≡◌, ℕ, ◌<◌, Bool, true, false, List, [], ◌∷◌, length, refl, ap, subst, arith, inl, inr}
use Rattle.std.proofs.Common.{sym, ◌∙◌}
use Rattle.std.proofs.lemmas.Bool.Decides.{nat_tests}
use Rattle.std.specs.Prelude.{Option, option_map, Some, None, filter, slice_get, nat_lt, ◌==◌, ◌&&◌, not}
use Rattle.std.specs.Prelude.{if◌then◌else◌}
use Rattle.std.specs.List.{list_any}
use Rattle.std.proofs.Common.{drop, get_or}
use Rattle.std.proofs.lemmas.List.Folds.{list_any_none, list_any_at}
use Rattle.dz_name.specs.Order.{same_decides}
use Rattle.dz_zone.specs.Version.{Zone, has_cuts, has_dnames}
use Rattle.dz_lookup.specs.inner.Places.{renamer_at, if_exists}
use Rattle.dz_lookup.proofs.Walk.{topmost_none}
use Rattle.std.specs.List.Sorted.{IsStrictlySortedBy}
use Rattle.std.proofs.lemmas.Bool.{cases_Bool, and_parts, false_from_ne_true, false≢true}
use Rattle.dz_name.specs.Words.{Name}
use Rattle.dz_name.specs.Name.{same_name, wildcard_of}
use Rattle.dz_record.specs.Record.{Record, record_order}
use Rattle.std.specs.Option.{option_or}
use Rattle.dz_runs.specs.Runs.{owns, of_type, records_of, exists}
use Rattle.dz_lookup.specs.Found.{Found, referral, rename, found, at_node, at_source, encloser, wildcard_under}
use Rattle.dz_lookup.specs.Found.{here_or, renaming, barrier, behind_barrier, cut, cut_for, dname, is_cut, source}
use Rattle.dz_lookup.specs.Found.{topmost, HasRecords}
use Rattle.dz_runs.proofs.InOrder.{records_of_is, no_run}

-- the NS records of a referral are some
chosen : (b : Bool) (name above : List (List ℕ)) → (if b then Some name else None) ≡ Some above
    → (b ≡ true) × (name ≡ above)
chosen true name above h = (refl, cc)
chosen false name above h = absurd (cc)

passes_or : (test : List (List ℕ) → Bool) (name above : List (List ℕ)) (higher : Option (List (List ℕ)))
    → (higher ≡ Some above → test above ≡ true)
    → option_or higher (if test name then Some name else None) ≡ Some above → test above ≡ true
passes_or test name above None rest h = let w = chosen (test name) name above h in rw w.1 at w.0
passes_or test name above (Some x) rest h = rest h

topmost_passes : (test : List (List ℕ) → Bool) (name above : List (List ℕ)) → topmost test name ≡ Some above
    → test above ≡ true
unfolding topmost
topmost_passes test [] above h = let w = chosen (test []) [] above h in rw w.1 at w.0
topmost_passes test (label ∷ labels) above h =
    passes_or test (label ∷ labels) above (topmost test labels) (topmost_passes test labels above) h

second : (s t : Bool) → (s && t) ≡ true → t ≡ true
second true t h = h
second false t h = absurd (cc)

any_kept : {X : Type 0} (p q : X → Bool) (xs : List X) → list_any (λ x. q x && p x) xs ≡ true
    → 0 < length (filter q (filter p xs))
any_kept p q [] h = absurd (cc)
any_kept p q (x ∷ xs) h = elim (cases_Bool (p x)) [
  | inr fails ↦ elim (cases_Bool (q x)) [
    | inl also ↦ rw fails (any_kept p q xs (rw (fails, also) at h))
    | inr not_also ↦ rw fails (any_kept p q xs (rw (fails, not_also) at h))
  ]
  | inl passes ↦ elim (cases_Bool (q x)) [
    | inl also ↦ rw (passes, also) (omega arith)
    | inr not_also ↦ rw (passes, not_also) (any_kept p q xs (rw (passes, not_also) at h))
  ]
]

-- what is found at a node has records
or_has : (rs ss : List Record) → HasRecords (here_or rs ss)
or_has (r ∷ rs) ss = omega arith
or_has [] (s ∷ ss) = tt
or_has [] [] = tt

source_has : (zone : List Record) (kind : ℕ) (node : Option Name) → HasRecords (at_source zone kind node)
source_has zone kind None = tt
source_has zone kind (Some name) =
    or_has (if kind == 255 then records_of zone name else of_type kind (records_of zone name))
    (of_type 5 (records_of zone name))

-- and so has a barrier
renaming_has : (rs : List Record) → HasRecords (renaming rs)
renaming_has [] = tt
renaming_has (r ∷ rs) = tt

servers_some : (apex : Name) (zone : List Record) (name at : Name) → IsStrictlySortedBy record_order zone
    → cut apex zone name ≡ Some at → 0 < length (of_type 2 (records_of zone at))
servers_some apex zone name at up e =
    let is : is_cut apex zone at ≡ true = topmost_passes (is_cut apex zone) name at e in
    let has : owns zone 2 at ≡ true = second (not (same_name at apex)) (owns zone 2 at) is in
    let some = any_kept (λ r. same_name r.owner at) (λ r. r.kind == 2) zone has in
    rw (records_of_is zone at up) some

cut_some : (apex : Name) (zone : List Record) (name : Name) (kind : ℕ) (at : Name)
    → IsStrictlySortedBy record_order zone
    → cut_for apex zone kind name ≡ Some at → 0 < length (of_type 2 (records_of zone at))
cut_some apex zone [] kind at up e = servers_some apex zone [] at up e
cut_some apex zone (label ∷ labels) kind at up e = elim (cases_Bool (kind == 43)) [
  | inl t ↦ servers_some apex zone labels at up (rw t at e)
  | inr f ↦ servers_some apex zone (label ∷ labels) at up (rw f at e)
]

barrier_has : (apex : Name) (zone : List Record) (name : Name) (kind : ℕ) (at above : Option Name) (f : Found)
    → IsStrictlySortedBy record_order zone → cut_for apex zone kind name ≡ at → barrier zone at above ≡ Some f
    → HasRecords f
barrier_has apex zone name kind None None f up is e = absurd (cc)
barrier_has apex zone name kind None (Some above) f up is e =
    let g : renaming (of_type 39 (records_of zone above)) ≡ f = cc in
    subst HasRecords g (renaming_has (of_type 39 (records_of zone above)))
barrier_has apex zone name kind (Some at) None f up is e =
    let g : referral (of_type 2 (records_of zone at)) ≡ f = cc in
    subst HasRecords g (cut_some apex zone name kind at up is)
barrier_has apex zone name kind (Some at) (Some above) f up is e =
    elim (cases_Bool (nat_lt (length above) (length at))) [
      | inl t ↦
          let h : ◌≡◌ {A = Option Found} (Some (renaming (of_type 39 (records_of zone above)))) (Some f) = rw t at e in
          let g : renaming (of_type 39 (records_of zone above)) ≡ f = cc in
          subst HasRecords g (renaming_has (of_type 39 (records_of zone above)))
      | inr n ↦
          let h : ◌≡◌ {A = Option Found} (Some (referral (of_type 2 (records_of zone at)))) (Some f) = rw n at e in
          let g : referral (of_type 2 (records_of zone at)) ≡ f = cc in
          subst HasRecords g (cut_some apex zone name kind at up is)
    ]

behind_has : (apex : Name) (zone : List Record) (name : Name) (kind : ℕ) (at above : Option Name) (b : Option Found)
    → IsStrictlySortedBy record_order zone → cut_for apex zone kind name ≡ at → barrier zone at above ≡ b
    → HasRecords (behind_barrier zone name kind b)
behind_has apex zone name kind at above None up is e = source_has zone kind (source zone name)
behind_has apex zone name kind at above (Some f) up is e = barrier_has apex zone name kind at above f up is e

pub has_records : (apex : Name) (zone : List Record) (name : Name) (kind : ℕ) (f : Found)
    → IsStrictlySortedBy record_order zone
    → f ≡ found apex zone name kind → HasRecords f
unfolding found
has_records apex zone name kind f up e =
    subst HasRecords (sym e) (behind_has apex zone name kind (cut_for apex zone kind name) (dname zone name)
    (barrier zone (cut_for apex zone kind name) (dname zone name)) up refl refl)

-- what is found at or below a barrier, and elsewhere
pub found_below : (apex : Name) (zone : List Record) (name : Name) (kind : ℕ) (f : Found)
    → Some f ≡ barrier zone (cut_for apex zone kind name) (dname zone name) → f ≡ found apex zone name kind
unfolding found
found_below apex zone name kind f is = ap (behind_barrier zone name kind) is

pub found_elsewhere : (apex : Name) (zone : List Record) (name : Name) (kind : ℕ) (f : Found)
    → None ≡ barrier zone (cut_for apex zone kind name) (dname zone name) → f ≡ at_source zone kind (source zone name)
    → f ≡ found apex zone name kind
unfolding found
found_elsewhere apex zone name kind f none is = is ∙ ap (behind_barrier zone name kind) none

-- an owner of NS records shows them, and no other name does
pub shows_owned : (zone : List Record) (name : Name) (servers : List Record) → IsStrictlySortedBy record_order zone
    → servers ≡ of_type 2 (records_of zone name)
    → true ≡ (length servers == 0) → owns zone 2 name ≡ false
shows_owned zone name servers up is none =
    false_from_ne_true (owns zone 2 name) (λ has.
    let some : 0 < length (of_type 2 (filter (λ r. same_name r.owner name) zone)) =
    any_kept (λ r. same_name r.owner name) (λ r. r.kind == 2) zone has in
    let kept : servers ≡ of_type 2 (filter (λ r. same_name r.owner name) zone) =
    rw (records_of_is zone name up) at is in
    let count : 0 < length servers = rw kept some in
    let test : length servers == 0 ≡ false = grind (arith, nat_tests) in
    false≢true (sym test ∙ sym none))

pub owned_shows : (zone : List Record) (name : Name) (servers : List Record) → IsStrictlySortedBy record_order zone
    → servers ≡ of_type 2 (records_of zone name)
    → false ≡ (length servers == 0) → owns zone 2 name ≡ true
owned_shows zone name servers up is some = elim (cases_Bool (owns zone 2 name)) [
  | inl owned ↦ owned
  | inr not_owned ↦
      let none : servers ≡ [] = is ∙ sym (no_run zone name 2 up not_owned) in
      let test : length servers == 0 ≡ true = rw none refl in
      absurd (false≢true (some ∙ test))
]

-- a zone without a cut has none above any name
no_cut_at : (zone : Zone) (name : Name) → has_cuts zone ≡ false → is_cut zone.apex zone.records name ≡ false
no_cut_at zone name none = elim (cases_Bool (same_name name zone.apex)) [
  | inl apex ↦ rw apex refl
  | inr below ↦
      let free : owns zone.records 2 name ≡ false =
      list_any_none (λ r. (r.kind == 2) && same_name r.owner name) zone.records (λ k d within.
      let r = get_or zone.records k d in
      false_from_ne_true ((r.kind == 2) && same_name r.owner name) (λ t.
      let parts = and_parts (r.kind == 2) (same_name r.owner name) t in
      let owner : r.owner ≡ name = (same_decides r.owner name).0 parts.1 in
      let other : same_name r.owner zone.apex ≡ false = rw owner below in
      let found = list_any_at (λ s. (s.kind == 2) && not (same_name s.owner zone.apex)) zone.records k d within
      (rw (parts.0, other) refl) in
      cc)) in
      rw (below, free) refl
]

pub no_cut : (zone : Zone) (name : Name) → false ≡ has_cuts zone → cut zone.apex zone.records name ≡ None
no_cut zone name none =
    topmost_none (is_cut zone.apex zone.records) name (λ k within. no_cut_at zone (drop k name) (sym none))

-- an owner of a DNAME shows it, and no other name does
first_some : (rs : List Record) → 0 < length rs → slice_get rs 0 ≡ None → ⊥
first_some [] some none = omega arith
first_some (r ∷ rs) some none = cc

pub no_renamer : (zone : List Record) (name : Name) → IsStrictlySortedBy record_order zone
    → renamer_at zone name ≡ None → owns zone 39 name ≡ false
no_renamer zone name up none =
    false_from_ne_true (owns zone 39 name) (λ has.
    let some : 0 < length (of_type 39 (filter (λ r. same_name r.owner name) zone)) =
    any_kept (λ r. same_name r.owner name) (λ r. r.kind == 39) zone has in
    first_some (of_type 39 (records_of zone name)) (rw (records_of_is zone name up) some) none)

first_none : (rs : List Record) (r : Record) → slice_get rs 0 ≡ Some r → rs ≡ [] → ⊥
first_none [] r e none = cc
first_none (s ∷ ss) r e none = cc

pub has_renamer : (zone : List Record) (name : Name) (r : Record) → IsStrictlySortedBy record_order zone
    → renamer_at zone name ≡ Some r → owns zone 39 name ≡ true
has_renamer zone name r up e = elim (cases_Bool (owns zone 39 name)) [
  | inl owned ↦ owned
  | inr not_owned ↦
      absurd (first_none (of_type 39 (records_of zone name)) r e (sym (no_run zone name 39 up not_owned)))
]

-- a zone without a DNAME has none at any name
pub none_owned_at_all : (zone : Zone) (name : Name) → false ≡ has_dnames zone → owns zone.records 39 name ≡ false
none_owned_at_all zone name none =
    list_any_none (λ r. (r.kind == 39) && same_name r.owner name) zone.records (λ k d within.
    let r = get_or zone.records k d in
    false_from_ne_true ((r.kind == 39) && same_name r.owner name) (λ t.
    let parts = and_parts (r.kind == 39) (same_name r.owner name) t in
    let found = list_any_at (λ s. s.kind == 39) zone.records k d within parts.0 in
    cc))

pub no_renamer_at_all : (zone : Zone) (name : Name) → IsStrictlySortedBy record_order zone.records
    → false ≡ has_dnames zone → renamer_at zone.records name ≡ None
no_renamer_at_all zone name up none =
    ap (λ rs. slice_get rs 0) (sym (no_run zone.records name 39 up (none_owned_at_all zone name none)))

pub renaming_is : (rs : List Record) (r : Record) → slice_get rs 0 ≡ Some r → renaming rs ≡ rename r
renaming_is [] r e = absurd (cc)
renaming_is (s ∷ ss) r e = let f : s ≡ r = cc in ap rename f

-- what a node gives that exists
pub node_answers : (zone : List Record) (kind : ℕ) (name : Name) (rs : List Record) (f : Found) → f ≡ at_node kind rs
    → rs ≡ records_of zone name → exists zone name ≡ true
    → f ≡ at_source zone kind (if_exists zone name)
node_answers zone kind name rs f is own there = rw there (is ∙ ap (at_node kind) own)

-- a wildcard below the closest encloser, as far as it exists
under_is : (zone : List Record) (above : Option Name) (wildcard : Name) → Some wildcard ≡ option_map wildcard_of above
    → if_exists zone wildcard ≡ wildcard_under zone above
under_is zone None wildcard h = absurd (cc)
under_is zone (Some above) wildcard h = let e : wildcard ≡ wildcard_of above = cc in rw e refl

pub source_is : (zone : List Record) (name wildcard : Name) → exists zone name ≡ false
    → Some wildcard ≡ option_map wildcard_of (encloser zone name) → if_exists zone wildcard ≡ source zone name
source_is zone name wildcard none below = rw none (under_is zone (encloser zone name) wildcard below)
