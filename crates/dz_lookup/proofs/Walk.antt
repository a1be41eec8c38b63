-- Walks along the names above a name.
use Rattle.std.proofs.Common.{◌≡◌, ℕ, ◌+◌, ◌-◌, ◌<◌, ◌≤◌, zero, suc, Bool, true, false, List, [], ◌∷◌, ◌++◌, length}
use Rattle.std.proofs.Common.{drop, refl, sym, ◌∙◌, ap, arith, length-append, length-drop}
use Rattle.std.specs.Prelude.{Some, None, if◌then◌else◌, ◌==◌, ◌&&◌, nat_le}
use Rattle.std.proofs.lemmas.Bool.Decides.{nat_tests}
use Rattle.std.proofs.lemmas.List.{drop_all}
use Rattle.dz_lookup.specs.inner.Places.{IsMissing}
use Rattle.std.specs.List.{All, AllByRecursion}
use Rattle.std.proofs.Common.{inl, inr}
use Rattle.dz_name.specs.Name.{wire_of, same_name, is_within, IsLabel}
use Rattle.dz_name.specs.Order.{same_decides}
use Rattle.dz_name.proofs.PartLemmas.{within_suffix}
use Rattle.dz_record.specs.Record.{Record}
use Rattle.dz_name.specs.Name.{upward}
use Rattle.dz_runs.specs.Runs.{exists, owns}
use Rattle.dz_lookup.specs.Found.{encloser, topmost, is_cut, cut}
use Rattle.std.proofs.lemmas.Bool.{cases_Bool, false_from_ne_true}
use Rattle.std.proofs.lemmas.List.Folds.{list_any_at, Any-from_list_any}
use Rattle.dz_lookup.proofs.Within.{drop_within}

-- the closest encloser: names that don't exist are passed over
pub encloser_step : (zone : List Record) (name : List (List ℕ)) (k : ℕ) → k < length name
    → exists zone (drop k name) ≡ false → encloser zone (drop (k + 1) name) ≡ encloser zone (drop k name)
unfolding upward
encloser_step zone [] k h none = absurd (omega arith)
encloser_step zone (label ∷ labels) zero h none = rw none refl
encloser_step zone (label ∷ labels) (suc k) h none =
    let e : suc k + 1 ≡ suc (k + 1) = omega arith in rw e (encloser_step zone labels k (omega arith) none)

pub encloser_here : (zone : List Record) (name : List (List ℕ)) → exists zone name ≡ true
    → encloser zone name ≡ Some name
unfolding upward
encloser_here zone [] here = rw here refl
encloser_here zone (label ∷ labels) here = rw here refl

pub encloser_root : (zone : List Record) (name : List (List ℕ)) → name ≡ [] → exists zone name ≡ false
    → encloser zone name ≡ None
unfolding upward
encloser_root zone [] e none = rw none refl
encloser_root zone (label ∷ labels) e none = absurd (cc)

-- .. as many as are missing
encloser_from : (zone : List Record) (name : List (List ℕ)) (skip : ℕ) → skip ≤ length name
    → ((k : ℕ) → k < skip → exists zone (drop k name) ≡ false) → encloser zone (drop skip name) ≡ encloser zone name
encloser_from zone name zero le none = refl
encloser_from zone name (suc k) le none =
    let e : k + 1 ≡ suc k = omega arith in
    rw e at (encloser_step zone name k (omega arith) (none k (omega arith)))
    ∙ encloser_from zone name k (omega arith) (λ j lt. none j (omega arith))

pub above_missing : (zone : List Record) (name : List (List ℕ)) (missing : ℕ) → IsMissing zone name missing → (k : ℕ)
    → k ≤ length name → k < missing → exists zone (drop k name) ≡ false
above_missing zone name missing is k le lt = let f : nat_le missing k ≡ false = grind (arith, nat_tests) in is k le ∙ f

pub encloser_missing : (zone : List Record) (name : List (List ℕ)) (missing : ℕ) → IsMissing zone name missing
    → missing ≤ length name → Some (drop missing name) ≡ encloser zone name
encloser_missing zone name missing is le =
    let t : nat_le missing missing ≡ true = grind (arith, nat_tests) in
    sym (encloser_here zone (drop missing name) (is missing le ∙ t))
    ∙ encloser_from zone name missing le (λ k lt. above_missing zone name missing is k (omega arith) lt)

pub encloser_nothing : (zone : List Record) (name : List (List ℕ)) (missing : ℕ) → IsMissing zone name missing
    → length name < missing → None ≡ encloser zone name
encloser_nothing zone name missing is lt =
    let root : drop (length name) name ≡ [] = drop_all (length name) name (omega arith) in
    sym (encloser_root zone (drop (length name) name) root
    (above_missing zone name missing is (length name) (omega arith) lt))
    ∙ encloser_from zone name (length name) (omega arith)
    (λ k below. above_missing zone name missing is k (omega arith) (omega arith))

-- the wire form of a name that follows a label is at least two octets shorter
pub wire_grows : (name : List (List ℕ)) (k : ℕ) → k < length name → AllByRecursion IsLabel (drop k name)
    → length (wire_of (drop (k + 1) name)) + 2 ≤ length (wire_of (drop k name))
unfolding wire_of
wire_grows [] k h each = absurd (omega arith)
wire_grows (label ∷ labels) zero h each = omega (arith, length-append label (wire_of labels), each.0.some)
wire_grows (label ∷ labels) (suc k) h each =
    let e : suc k + 1 ≡ suc (k + 1) = omega arith in
    rw e (wire_grows labels k (omega arith) each)

-- the topmost name that passes
pub topmost_none : (test : List (List ℕ) → Bool) (name : List (List ℕ))
    → ((k : ℕ) → k ≤ length name → test (drop k name) ≡ false) → topmost test name ≡ None
unfolding topmost
topmost_none test [] none = rw (none 0 (omega arith)) refl
topmost_none test (label ∷ labels) none =
    rw (topmost_none test labels (λ k h. none (suc k) (omega arith)), none 0 (omega arith)) refl

pub topmost_step : (test : List (List ℕ) → Bool) (name : List (List ℕ)) (k : ℕ) → k < length name
    → topmost test (drop (k + 1) name) ≡ None
    → topmost test (drop k name) ≡ (if test (drop k name) then Some (drop k name) else None)
unfolding topmost
topmost_step test [] k h none = absurd (omega arith)
topmost_step test (label ∷ labels) zero h none = rw none refl
topmost_step test (label ∷ labels) (suc k) h none =
    let e : suc k + 1 ≡ suc (k + 1) = omega arith in topmost_step test labels k (omega arith) (rw e at none)

pub topmost_found : (test : List (List ℕ) → Bool) (name above : List (List ℕ)) (k : ℕ) → k ≤ length name
    → topmost test (drop k name) ≡ Some above → topmost test name ≡ Some above
unfolding topmost
topmost_found test name above zero h found = found
topmost_found test [] above (suc k) h found = absurd (omega arith)
topmost_found test (label ∷ labels) above (suc k) h found =
    rw (topmost_found test labels above k (omega arith) found) refl

second : (s t : Bool) → (s && t) ≡ true → t ≡ true
second true t h = h
second false t h = absurd (cc)

-- names with as few labels as the apex are no cuts
short_is_apex : (front name apex : List (List ℕ)) → name ≡ front ++ apex → length name ≤ length apex → name ≡ apex
short_is_apex [] name apex e h = e
short_is_apex (label ∷ front) name apex e h = absurd (omega (arith, ap length e, length-append front apex))

pub no_owner_above : (apex : List (List ℕ)) (zone : List Record) (kind : ℕ) (name : List (List ℕ))
    → All (λ r. is_within r.owner apex ≡ true) zone → length name ≤ length apex → same_name name apex ≡ false
    → owns zone kind name ≡ false
no_owner_above apex zone kind name owners short other =
    false_from_ne_true (owns zone kind name) (λ t.
    let some = Any-from_list_any (λ r. (r.kind == kind) && same_name r.owner name) zone t in
    let r = some.1 in
    let same : r.owner ≡ name =
    (same_decides r.owner name).0 (second (r.kind == kind) (same_name r.owner name) some.4) in
    let w = (within_suffix r.owner apex).0 (rw some.3 at (owners some.0 r some.2)) in
    let e : name ≡ apex = short_is_apex w.0 name apex (sym same ∙ w.1) short in
    let f = (same_decides name apex).1 e in
    cc)

pub short_no_cut : (apex : List (List ℕ)) (zone : List Record) (name : List (List ℕ))
    → All (λ r. is_within r.owner apex ≡ true) zone → length name ≤ length apex → is_cut apex zone name ≡ false
short_no_cut apex zone name owners short = elim (cases_Bool (same_name name apex)) [
  | inl same ↦ rw same refl
  | inr other ↦ rw (other, no_owner_above apex zone 2 name owners short other) refl
]

pub none_above : (apex : List (List ℕ)) (zone : List Record) (name : List (List ℕ)) (k : ℕ)
    → All (λ r. is_within r.owner apex ≡ true) zone → length name - k ≤ length apex
    → cut apex zone (drop k name) ≡ None
none_above apex zone name k owners short =
    topmost_none (is_cut apex zone) (drop k name) (λ j h.
    short_no_cut apex zone (drop j (drop k name)) owners
    (omega (arith, length-drop j (drop k name), length-drop k name)))

-- names with more labels than the apex are cuts where they own NS records
pub long_cut : (apex : List (List ℕ)) (zone : List Record) (name : List (List ℕ)) → length apex < length name
    → is_cut apex zone name ≡ owns zone 2 name
long_cut apex zone name long =
    let other : same_name name apex ≡ false = false_from_ne_true (same_name name apex)
    (λ t. let e = ap length ((same_decides name apex).0 t) in absurd (omega arith)) in
    rw other refl

pub within_long : (name apex : List (List ℕ)) → is_within name apex ≡ true → length apex ≤ length name
within_long name apex h = let w = (within_suffix name apex).0 h in omega (arith, ap length w.1, length-append w.0 apex)

-- a step down: what the name below the ones that were looked at gives
pub cut_here : (apex : List (List ℕ)) (zone : List Record) (name : List (List ℕ)) (skip : ℕ) (r : Bool) → 0 < skip
    → skip + length apex ≤ length name → cut apex zone (drop skip name) ≡ None
    → r ≡ owns zone 2 (drop (skip - 1) name)
    → cut apex zone (drop (skip - 1) name) ≡ (if r then Some (drop (skip - 1) name) else None)
cut_here apex zone name skip r some short none is =
    let e : skip - 1 + 1 ≡ skip = omega arith in
    let long : length apex < length (drop (skip - 1) name) = omega (arith, length-drop (skip - 1) name) in
    rw (is, ← long_cut apex zone (drop (skip - 1) name) long)
    (topmost_step (is_cut apex zone) name (skip - 1) (omega arith) (rw e none))

-- below a name that doesn't exist no name owns records
pub none_owned : (zone : List Record) (kind : ℕ) (name above : List (List ℕ)) → is_within name above ≡ true
    → exists zone above ≡ false → owns zone kind name ≡ false
none_owned zone kind name above within none =
    false_from_ne_true (owns zone kind name) (λ t.
    let some = Any-from_list_any (λ r. r.kind == kind && same_name r.owner name) zone t in
    let same : same_name some.1.owner name ≡ true =
    second (some.1.kind == kind) (same_name some.1.owner name) some.4 in
    let e : some.1.owner ≡ name = (same_decides some.1.owner name).0 same in
    let found = list_any_at (λ r. is_within r.owner above) zone some.0 some.1 some.2 (rw (some.3, e) within) in
    absurd (cc))

pub topmost_below : (test : List (List ℕ) → Bool) (name : List (List ℕ)) (k : ℕ) → k ≤ length name
    → topmost test (drop k name) ≡ None
    → ((j : ℕ) → j < k → test (drop j name) ≡ false) → topmost test name ≡ None
topmost_below test name zero le none each = none
topmost_below test name (suc k) le none each =
    let e : k + 1 ≡ suc k = omega arith in
    let step = topmost_step test name k (omega arith) (rw e none) in
    let no = each k (omega arith) in
    topmost_below test name k (omega arith) (rw no at step) (λ j lt. each j (omega arith))

-- no name below one that doesn't exist is a cut
pub no_cut_below : (apex : List (List ℕ)) (zone : List Record) (name : List (List ℕ)) (skip : ℕ) → 0 < skip
    → skip + length apex ≤ length name → cut apex zone (drop skip name) ≡ None
    → exists zone (drop (skip - 1) name) ≡ false → cut apex zone name ≡ None
no_cut_below apex zone name skip some short none missing =
    topmost_below (is_cut apex zone) name skip (omega arith) none (λ j lt.
    let owned : owns zone 2 (drop j name) ≡ false =
    none_owned zone 2 (drop j name) (drop (skip - 1) name) (drop_within name j (skip - 1) (omega arith)) missing in
    long_cut apex zone (drop j name) (omega (arith, length-drop j name)) ∙ owned)
