-- A barrier above a name: found by a walk from the apex down, or not there.
use Rattle.std.proofs.Common.{◌≡◌, ℕ, ◌+◌, ◌-◌, ◌<◌, ◌≤◌, zero, suc, Bool, true, false, List, [], ◌∷◌, length, drop}
use Rattle.std.proofs.Common.{refl, sym, ◌∙◌, ap, arith, inl, inr, length-drop, length-append, Option, Some, None}
use Rattle.std.specs.Prelude.{nat_lt, ◌||◌, ◌⊎◌, if◌then◌else◌, ◌==◌}
use Rattle.std.specs.List.{All}
use Rattle.std.specs.Option.{option_or}
use Rattle.std.proofs.lemmas.Bool.{cases_Bool, false_from_ne_true}
use Rattle.std.proofs.lemmas.Bool.Decides.{nat_tests}
use Rattle.std.proofs.lemmas.List.{drop-drop, drop_at}
use Rattle.dz_name.specs.Words.{Name}
use Rattle.dz_name.specs.Name.{same_name, is_within}
use Rattle.dz_name.specs.Order.{same_decides}
use Rattle.dz_name.proofs.PartLemmas.{within_suffix}
use Rattle.dz_record.specs.Record.{Record}
use Rattle.dz_zone.specs.Version.{Zone, has_cuts, has_dnames}
use Rattle.dz_runs.specs.Runs.{exists, owns, of_type, records_of}
use Rattle.dz_lookup.specs.Found.{topmost, is_cut, cut, cut_for, dname, barrier, renaming, referral}
use Rattle.dz_lookup.proofs.Walk.{topmost_none, topmost_step, topmost_found, topmost_below, none_above, none_owned}
use Rattle.dz_lookup.proofs.Walk.{no_owner_above, no_cut_below, cut_here, within_long}
use Rattle.dz_lookup.proofs.Within.{drop_within}
use Rattle.dz_lookup.proofs.FoundLemmas.{no_cut, none_owned_at_all}

-- what is found above a name, from which nothing is found after this many labels, has as many labels as are left, and
-- more
chosen : (b : Bool) (name found : Name) → (if b then Some name else None) ≡ Some found → name ≡ found
chosen true name found h = cc
chosen false name found h = absurd (cc)

long_or : (test : Name → Bool) (label : List ℕ) (labels found : Name) (k : ℕ) (higher : Option Name)
    → (higher ≡ Some found → length labels < length found + k)
    → option_or higher (if test (label ∷ labels) then Some (label ∷ labels) else None) ≡ Some found
    → length (label ∷ labels) < length found + suc k
long_or test label labels found k None step is =
    let e = chosen (test (label ∷ labels)) (label ∷ labels) found is in
    omega (arith, ap length e)
long_or test label labels found k (Some x) step is = omega (arith, step is)

topmost_long : (test : Name → Bool) (name found : Name) (k : ℕ) → k ≤ length name → topmost test (drop k name) ≡ None
    → topmost test name ≡ Some found → length name < length found + k
unfolding topmost
topmost_long test name found zero le none is =
    absurd (let e : ◌≡◌ {A = Option Name} None (Some found) = sym none ∙ is in cc)
topmost_long test [] found (suc k) le none is = absurd (omega arith)
topmost_long test (label ∷ labels) found (suc k) le none is =
    long_or test label labels found k (topmost test labels)
    (λ e. topmost_long test labels found k (omega arith) none e) is

-- the DNAME above a name is above the name's first label
dname_is : (zone : List Record) (name : Name) → 0 < length name
    → dname zone name ≡ topmost (owns zone 39) (drop 1 name)
dname_is zone [] some = absurd (omega arith)
dname_is zone (label ∷ labels) some = refl

pub dname_none : (zone : List Record) (name : Name) → topmost (owns zone 39) (drop 1 name) ≡ None
    → dname zone name ≡ None
dname_none zone [] none = refl
dname_none zone (label ∷ labels) none = none

behind_one : (name : Name) (k : ℕ) → drop k (drop 1 name) ≡ drop (k + 1) name
behind_one name k = let e : k + 1 ≡ 1 + k = omega arith in rw e (drop-drop k 1 name)

-- the cut that counts for a type: for a DS none at the name itself
cut_plain : (apex : Name) (zone : List Record) (kind : ℕ) (name : Name) → (kind == 43) ≡ false
    → cut_for apex zone kind name ≡ cut apex zone name
cut_plain apex zone kind [] other = refl
cut_plain apex zone kind (label ∷ labels) other = rw other refl

cut_higher : (apex : Name) (zone : List Record) (kind : ℕ) (name : Name) → (kind == 43) ≡ true → 0 < length name
    → cut_for apex zone kind name ≡ cut apex zone (drop 1 name)
cut_higher apex zone kind [] is some = absurd (omega arith)
cut_higher apex zone kind (label ∷ labels) is some = rw is refl

rest_none : (higher own : Option Name) → option_or higher own ≡ None → higher ≡ None
rest_none None own h = refl
rest_none (Some x) own h = absurd (cc)

topmost_rest : (test : Name → Bool) (name : Name) → 0 < length name → topmost test name ≡ None
    → topmost test (drop 1 name) ≡ None
unfolding topmost
topmost_rest test [] some h = absurd (omega arith)
topmost_rest test (label ∷ labels) some h =
    rest_none (topmost test labels) (if test (label ∷ labels) then Some (label ∷ labels) else None) h

cut_for_none : (apex : Name) (zone : List Record) (kind : ℕ) (name : Name) → cut apex zone name ≡ None
    → cut_for apex zone kind name ≡ None
cut_for_none apex zone kind [] none = none
cut_for_none apex zone kind (label ∷ labels) none = elim (cases_Bool (kind == 43)) [
  | inl t ↦ cut_higher apex zone kind (label ∷ labels) t (omega arith)
      ∙ topmost_rest (is_cut apex zone) (label ∷ labels) (omega arith) none
  | inr f ↦ cut_plain apex zone kind (label ∷ labels) f ∙ none
]

-- below a name that is clear, what is found has more labels
cut_for_long : (apex : Name) (zone : List Record) (kind : ℕ) (name c : Name) (k : ℕ) → 0 < k → k ≤ length name
    → cut apex zone (drop k name) ≡ None → cut_for apex zone kind name ≡ Some c → length name < length c + k
cut_for_long apex zone kind name c k some le none is = elim (cases_Bool (kind == 43)) [
  | inl t ↦
      let e : k - 1 + 1 ≡ k = omega arith in
      let here : cut apex zone (drop (k - 1) (drop 1 name)) ≡ None =
      ap (cut apex zone) (behind_one name (k - 1)) ∙ (rw e none) in
      omega (
        arith,
        topmost_long (is_cut apex zone) (drop 1 name) c (k - 1) (omega (arith, length-drop 1 name)) here
            (sym (cut_higher apex zone kind name t (omega arith)) ∙ is),
        length-drop 1 name,
      )
  | inr f ↦ topmost_long (is_cut apex zone) name c k le none (sym (cut_plain apex zone kind name f) ∙ is)
]

-- no barrier: no cut, and no DNAME
barrier_none : (zone : List Record) (at above : Option Name) → at ≡ None → above ≡ None → None ≡ barrier zone at above
barrier_none zone at above a b = rw (a, b) refl

either_none : (a b : Bool) → (a || b) ≡ false → (a ≡ false) × (b ≡ false)
either_none true b h = absurd (cc)
either_none false b h = (refl, h)

pub no_barrier : (zone : Zone) (kind : ℕ) (name : Name) → (has_cuts zone || has_dnames zone) ≡ false
    → None ≡ barrier zone.records (cut_for zone.apex zone.records kind name) (dname zone.records name)
no_barrier zone kind name none =
    let both = either_none (has_cuts zone) (has_dnames zone) none in
    barrier_none zone.records _ _ (cut_for_none zone.apex zone.records kind name (no_cut zone name (sym both.0)))
    (dname_none zone.records name (topmost_none (owns zone.records 39) (drop 1 name)
    (λ k within. none_owned_at_all zone (drop k (drop 1 name)) (sym both.1))))

-- names above the apex own nothing
pub none_higher : (apex : Name) (zone : List Record) (name : Name) (k : ℕ)
    → All (λ r. is_within r.owner apex ≡ true) zone → length name < length apex + k → k ≤ length name
    → topmost (owns zone 39) (drop k name) ≡ None
none_higher apex zone name k owners short within =
    topmost_none (owns zone 39) (drop k name) (λ j h.
    let few : length (drop j (drop k name)) < length apex =
    omega (arith, length-drop j (drop k name), length-drop k name) in
    no_owner_above apex zone 39 (drop j (drop k name)) owners (omega arith)
    (false_from_ne_true (same_name (drop j (drop k name)) apex)
    (λ t. let e = ap length ((same_decides (drop j (drop k name)) apex).0 t) in absurd (omega arith))))

dname_at_apex : (apex : Name) (zone : List Record) (name : Name) → All (λ r. is_within r.owner apex ≡ true) zone
    → length name ≤ length apex → dname zone name ≡ None
dname_at_apex apex zone [] owners short = refl
dname_at_apex apex zone (label ∷ labels) owners short =
    none_higher apex zone (label ∷ labels) 1 owners (omega arith) (omega arith)

pub no_barrier_at_apex : (apex : Name) (zone : List Record) (kind : ℕ) (name : Name)
    → All (λ r. is_within r.owner apex ≡ true) zone → length name ≤ length apex
    → None ≡ barrier zone (cut_for apex zone kind name) (dname zone name)
no_barrier_at_apex apex zone kind name owners short =
    barrier_none zone _ _ (cut_for_none apex zone kind name (none_above apex zone name 0 owners (omega arith)))
    (dname_at_apex apex zone name owners short)

-- a walk has come down to what follows this many labels, and found nothing
pub record IsClear (apex : Name) (zone : List Record) (name : Name) (skip : ℕ) : Type 0 where
  pub within : skip + length apex ≤ length name
  pub cuts : cut apex zone (drop skip name) ≡ None
  pub dnames : topmost (owns zone 39) (drop skip name) ≡ None

-- it begins at the apex, above which nothing is owned
alone : (test : Name → Bool) (name : Name) → (0 < length name → topmost test (drop 1 name) ≡ None)
    → topmost test name ≡ (if test name then Some name else None)
unfolding topmost
alone test [] h = refl
alone test (label ∷ labels) h = rw (h (omega arith)) refl

apex_alone : (apex : Name) (zone : List Record) → All (λ r. is_within r.owner apex ≡ true) zone
    → topmost (owns zone 39) apex ≡ (if owns zone 39 apex then Some apex else None)
apex_alone apex zone owners =
    alone (owns zone 39) apex (λ some. none_higher apex zone apex 1 owners (omega arith) (omega arith))

above_apex : (name apex : Name) → is_within name apex ≡ true → drop (length name - length apex) name ≡ apex
above_apex name apex h =
    let w = (within_suffix name apex).0 h in
    let size : length name ≡ length w.0 + length apex = ap length w.1 ∙ length-append w.0 apex in
    let front : length w.0 ≡ length name - length apex = omega arith in
    ap (drop (length name - length apex)) w.1 ∙ drop_at w.0 apex (length name - length apex) front

pub clear_at_apex : (apex : Name) (zone : List Record) (name : Name) (labels : ℕ)
    → All (λ r. is_within r.owner apex ≡ true) zone → is_within name apex ≡ true → labels ≡ length name - length apex
    → owns zone 39 apex ≡ false → IsClear apex zone name labels
clear_at_apex apex zone name labels owners inside is free =
    let long = within_long name apex inside in
    let here : drop labels name ≡ apex = rw is (above_apex name apex inside) in
    record {
      within = omega arith;
      cuts = none_above apex zone name labels owners (omega arith);
      dnames = ap (topmost (owns zone 39)) here ∙ (apex_alone apex zone owners ∙ rw free refl);
    }

-- a step down
pub clear_step : (apex : Name) (zone : List Record) (name : Name) (skip : ℕ) → 0 < skip → IsClear apex zone name skip
    → owns zone 2 (drop (skip - 1) name) ≡ false → owns zone 39 (drop (skip - 1) name) ≡ false
    → IsClear apex zone name (skip - 1)
clear_step apex zone name skip some is no_cut no_dname =
    let e : skip - 1 + 1 ≡ skip = omega arith in
    let step = topmost_step (owns zone 39) name (skip - 1) (omega (arith, is.within)) (rw e is.dnames) in
    record {
      within = omega (arith, is.within);
      cuts = cut_here apex zone name skip false some is.within is.cuts (sym no_cut);
      dnames = rw no_dname at step;
    }

-- a DNAME is there
shorter : (zone : List Record) (at : Option Name) (above : Name) → ((c : Name) → at ≡ Some c → length above < length c)
    → Some (renaming (of_type 39 (records_of zone above))) ≡ barrier zone at (Some above)
shorter zone None above less = refl
shorter zone (Some c) above less =
    let t : nat_lt (length above) (length c) ≡ true = grind (arith, nat_tests, less c refl) in rw t refl

renamed_at : (apex : Name) (zone : List Record) (kind : ℕ) (name above : Name) (k : ℕ) → 0 < k → k ≤ length name
    → above ≡ drop k name → cut apex zone above ≡ None → topmost (owns zone 39) above ≡ Some above
    → Some (renaming (of_type 39 (records_of zone above)))
    ≡ barrier zone (cut_for apex zone kind name) (dname zone name)
renamed_at apex zone kind name above k some le is none top =
    let e : k - 1 + 1 ≡ k = omega arith in
    let back : drop (k - 1) (drop 1 name) ≡ above = behind_one name (k - 1) ∙ (rw e (sym is)) in
    let here : topmost (owns zone 39) (drop (k - 1) (drop 1 name)) ≡ Some above =
    ap (topmost (owns zone 39)) back ∙ top in
    let top_is : dname zone name ≡ Some above =
    dname_is zone name (omega arith)
    ∙ topmost_found (owns zone 39) (drop 1 name) above (k - 1) (omega (arith, length-drop 1 name)) here in
    shorter zone (cut_for apex zone kind name) above (λ c f. omega (
      arith,
      cut_for_long apex zone kind name c k some le
          (ap (cut apex zone) (sym is) ∙ none) f,
      ap length is,
      length-drop k name,
    ))
    ∙ ap (barrier zone (cut_for apex zone kind name)) (sym top_is)

pub renamed_here : (apex : Name) (zone : List Record) (kind : ℕ) (name : Name) (skip : ℕ)
    → 1 < skip → IsClear apex zone name skip → owns zone 2 (drop (skip - 1) name) ≡ false
    → owns zone 39 (drop (skip - 1) name) ≡ true
    → Some (renaming (of_type 39 (records_of zone (drop (skip - 1) name))))
    ≡ barrier zone (cut_for apex zone kind name) (dname zone name)
renamed_here apex zone kind name skip some is no_cut has =
    let e : skip - 1 + 1 ≡ skip = omega arith in
    let step = topmost_step (owns zone 39) name (skip - 1) (omega (arith, is.within)) (rw e is.dnames) in
    renamed_at apex zone kind name (drop (skip - 1) name) (skip - 1) (omega arith) (omega (arith, is.within)) refl
    (cut_here apex zone name skip false (omega arith) is.within is.cuts (sym no_cut)) (rw has at step)

pub renamed_by_apex : (apex : Name) (zone : List Record) (kind : ℕ) (name : Name)
    → All (λ r. is_within r.owner apex ≡ true) zone → is_within name apex ≡ true → length apex < length name
    → owns zone 39 apex ≡ true
    → Some (renaming (of_type 39 (records_of zone apex)))
    ≡ barrier zone (cut_for apex zone kind name) (dname zone name)
renamed_by_apex apex zone kind name owners inside long has =
    let k : ℕ = length name - length apex in
    let none : cut apex zone apex ≡ None = none_above apex zone apex 0 owners (omega arith) in
    renamed_at apex zone kind name apex (length name - length apex) (omega arith) (omega arith)
    (sym (above_apex name apex inside)) none (apex_alone apex zone owners ∙ rw has refl)

-- a cut is there
not_shorter : (zone : List Record) (at : Name) (above : Option Name)
    → ((d : Name) → above ≡ Some d → length at ≤ length d)
    → Some (referral (of_type 2 (records_of zone at))) ≡ barrier zone (Some at) above
not_shorter zone at None less = refl
not_shorter zone at (Some d) less =
    let t : nat_lt (length d) (length at) ≡ false = grind (arith, nat_tests, less d refl) in rw t refl

above_long : (zone : List Record) (name d : Name) (skip : ℕ) → 0 < skip → skip ≤ length name
    → topmost (owns zone 39) (drop skip name) ≡ None → dname zone name ≡ Some d → length name + 1 ≤ length d + skip
above_long zone [] d skip some le none is = absurd (cc)
above_long zone (label ∷ labels) d skip some le none is =
    let e : skip - 1 + 1 ≡ skip = omega arith in
    let here : topmost (owns zone 39) (drop (skip - 1) labels) ≡ None =
    ap (topmost (owns zone 39)) (behind_one (label ∷ labels) (skip - 1)) ∙ (rw e none) in
    omega (arith, topmost_long (owns zone 39) labels d (skip - 1) (omega arith) here is)

cut_found : (apex : Name) (zone : List Record) (kind : ℕ) (name : Name) (skip : ℕ) → 0 < skip
    → IsClear apex zone name skip → owns zone 2 (drop (skip - 1) name) ≡ true → (1 < skip) ⊎ ((kind == 43) ≡ false)
    → cut_for apex zone kind name ≡ Some (drop (skip - 1) name)
cut_found apex zone kind name skip some is has counts = elim (cases_Bool (kind == 43)) [
  | inl t ↦ elim counts [
    | inl more ↦
        let here = cut_here apex zone name skip true some is.within is.cuts (sym has) in
        let e : skip - 1 - 1 + 1 ≡ skip - 1 = omega arith in
        let back : drop (skip - 1 - 1) (drop 1 name) ≡ drop (skip - 1) name =
        behind_one name (skip - 1 - 1) ∙ (rw e refl) in
        cut_higher apex zone kind name t (omega (arith, is.within))
        ∙ topmost_found (is_cut apex zone) (drop 1 name) (drop (skip - 1) name) (skip - 1 - 1)
        (omega (arith, is.within, length-drop 1 name)) (ap (topmost (is_cut apex zone)) back ∙ here)
    | inr other ↦ absurd (let q : true ≡ false = sym t ∙ other in cc)
  ]
  | inr f ↦
      let here = cut_here apex zone name skip true some is.within is.cuts (sym has) in
      cut_plain apex zone kind name f
      ∙ topmost_found (is_cut apex zone) name (drop (skip - 1) name) (skip - 1) (omega (arith, is.within)) here
]

pub cut_is_here : (apex : Name) (zone : List Record) (kind : ℕ) (name : Name) (skip : ℕ) → 0 < skip
    → IsClear apex zone name skip → owns zone 2 (drop (skip - 1) name) ≡ true → (1 < skip) ⊎ ((kind == 43) ≡ false)
    → Some (referral (of_type 2 (records_of zone (drop (skip - 1) name))))
    ≡ barrier zone (cut_for apex zone kind name) (dname zone name)
cut_is_here apex zone kind name skip some is has counts =
    let top = cut_found apex zone kind name skip some is has counts in
    not_shorter zone (drop (skip - 1) name) (dname zone name) (λ d f. omega
    (arith, above_long zone name d skip some (omega (arith, is.within)) is.dnames f, length-drop (skip - 1) name))
    ∙ ap (λ at. barrier zone at (dname zone name)) (sym top)

-- nothing exists there, so nothing is below
pub nothing_below : (apex : Name) (zone : List Record) (kind : ℕ) (name : Name) (skip : ℕ) → 1 < skip
    → IsClear apex zone name skip → exists zone (drop (skip - 1) name) ≡ false
    → None ≡ barrier zone (cut_for apex zone kind name) (dname zone name)
nothing_below apex zone kind name skip some is missing =
    let e : skip - 1 + 1 ≡ skip = omega arith in
    let tail = drop 1 name in
    let here : topmost (owns zone 39) (drop (skip - 1) (drop 1 name)) ≡ None =
    ap (topmost (owns zone 39)) (behind_one name (skip - 1)) ∙ (rw e is.dnames) in
    let none : topmost (owns zone 39) (drop 1 name) ≡ None =
    topmost_below (owns zone 39) (drop 1 name) (skip - 1) (omega (arith, is.within, length-drop 1 name)) here (λ j lt.
    rw (behind_one name j) (none_owned zone 39 (drop (j + 1) name) (drop (skip - 1) name)
    (drop_within name (j + 1) (skip - 1) (omega arith)) missing)) in
    barrier_none zone _ _ (cut_for_none apex zone kind name
    (no_cut_below apex zone name skip (omega arith) is.within is.cuts missing)) (dname_none zone name none)

-- the walk came to the name, which is no cut, or none that counts
pub walked_through : (apex : Name) (zone : List Record) (kind : ℕ) (name : Name)
    → IsClear apex zone name 1 → ((kind == 43) ≡ true) ⊎ (owns zone 2 name ≡ false)
    → None ≡ barrier zone (cut_for apex zone kind name) (dname zone name)
walked_through apex zone kind name is free =
    barrier_none zone _ _ (elim free [
      | inl t ↦ cut_higher apex zone kind name t (omega (arith, is.within)) ∙ is.cuts
      | inr none ↦
          cut_for_none apex zone kind name (cut_here apex zone name 1 false (omega arith) is.within is.cuts (sym none))
    ]) (dname_none zone name is.dnames)
