-- Labels at their places in the wire form.
use Rattle.std.proofs.Common.{◌≡◌, ℕ, ◌+◌, ◌-◌, ◌*◌, ◌<◌, ◌≤◌, ◌≢◌, zero, suc, List, [], ◌∷◌, ◌++◌, length, take, drop}
use Rattle.std.proofs.Common.{refl, sym, ◌∙◌, ap, arith, length-append, length-drop, get_or, set, drop-drop}
use Rattle.std.proofs.Common.{below_more, get_or-set_same, get_or-set_other, length-set, inl, inr}
use Rattle.std.specs.List.{AllByRecursion}
use Rattle.std.proofs.lemmas.List.{get_or-drop, drop_at, take_at, length-reverse, length-take-le}
use Rattle.std.specs.Prelude.{reverse, ◌⊎◌}
use Rattle.std.specs.Cmp.Lexicographic.{slice_cmp}
use Rattle.std.specs.Ordering.{nat_cmp}
use Rattle.std.proofs.lemmas.Bool.Decides.{nat_tests}
use Rattle.dz_name.specs.Name.{wire_of, IsLabel, IsName}
use Rattle.dz_name.specs.inner.Starts.{offset_of, AreStarts}
use Rattle.dz_name.proofs.KeptLemmas.{wire_some}
use Rattle.dz_name.proofs.PartLemmas.{behind_step, first_in, wire_drop_le, is_more, is_all}

pub labels_few : (labels : List (List ℕ)) → AllByRecursion IsLabel labels → 2 * length labels < length (wire_of labels)
unfolding wire_of
labels_few [] each = omega arith
labels_few (label ∷ labels) each =
    omega (arith, labels_few labels each.1, each.0.some, length-append label (wire_of labels))

-- what is at a label's place
pub wire_at : (labels : List (List ℕ)) (k : ℕ) → k ≤ length labels
    → drop (offset_of labels k) (wire_of labels) ≡ wire_of (drop k labels)
unfolding wire_of
wire_at labels zero h = let e : length (wire_of labels) - length (wire_of labels) ≡ 0 = omega arith in rw e refl
wire_at [] (suc k) h = absurd (omega arith)
wire_at (label ∷ labels) (suc k) h =
    let le = wire_drop_le k labels in
    let e : suc (length (label ++ wire_of labels)) - length (wire_of (drop k labels))
    ≡ suc (length label + offset_of labels k) = omega (arith, length-append label (wire_of labels)) in
    rw (
      e,
      ← drop-drop (offset_of labels k) (length label) (label ++ wire_of labels),
      drop_at label (wire_of labels) (length label) refl,
    ) (wire_at labels k (omega arith))

pub first_at : (labels : List (List ℕ)) (k : ℕ) → k ≤ length labels
    → get_or (wire_of labels) (offset_of labels k) 0 ≡ get_or (wire_of (drop k labels)) 0 0
first_at labels k h =
    let z : offset_of labels k ≡ offset_of labels k + 0 = omega arith in
    ap (λ n. get_or (wire_of labels) n 0) z ∙ sym (get_or-drop (offset_of labels k) (wire_of labels) 0 0)
    ∙ ap (λ w. get_or w 0 0) (wire_at labels k h)

pub offset_step : (labels : List (List ℕ)) (k : ℕ) → k < length labels
    → offset_of labels k + (get_or (wire_of labels) (offset_of labels k) 0 + 1) ≡ offset_of labels (k + 1)
offset_step labels k h =
    let e = first_at labels k (omega arith) in
    let f = ap length (behind_step labels k h) in
    let g = length-drop (get_or (wire_of (drop k labels)) 0 0 + 1) (wire_of (drop k labels)) in
    omega (
      arith,
      first_in (drop k labels),
      wire_drop_le k labels,
      wire_drop_le (k + 1) labels,
      wire_some (drop (k + 1) labels),
    )

pub offset_lt : (labels : List (List ℕ)) (k : ℕ) → offset_of labels k < length (wire_of labels)
offset_lt labels k = omega (arith, wire_some (drop k labels), wire_some labels)

pub label_within : (labels : List (List ℕ)) (k : ℕ) → k ≤ length labels
    → offset_of labels k + get_or (wire_of labels) (offset_of labels k) 0 < length (wire_of labels)
label_within labels k h = omega (arith, first_at labels k h, first_in (drop k labels), wire_drop_le k labels)

-- the label at its place
pub label_in_wire : (labels : List (List ℕ)) (k : ℕ) → k < length labels
    → take (get_or (wire_of (drop k labels)) 0 0) (drop 1 (wire_of (drop k labels))) ≡ get_or labels k []
unfolding wire_of
label_in_wire [] k h = absurd (omega arith)
label_in_wire (label ∷ labels) zero h = take_at label (wire_of labels) (length label) refl
label_in_wire (label ∷ labels) (suc k) h = label_in_wire labels k (omega arith)

pub label_is : (labels : List (List ℕ)) (k at : ℕ) → k < length labels → at ≡ offset_of labels k
    → take (get_or (wire_of labels) at 0) (drop (at + 1) (wire_of labels)) ≡ get_or labels k []
label_is labels k at h e =
    let f : drop (at + 1) (wire_of labels) ≡ drop 1 (wire_of (drop k labels)) =
    rw (e, ← drop-drop 1 (offset_of labels k) (wire_of labels), wire_at labels k (omega arith)) refl in
    rw (f, e, first_at labels k (omega arith)) (label_in_wire labels k h)

pub more_at : (labels : List (List ℕ)) (count at : ℕ) (wire : List ℕ) → IsName labels → wire ≡ wire_of labels
    → at ≡ offset_of labels count → count ≤ length labels → get_or wire at 0 ≢ 0 → count < length labels
more_at labels count at wire name w e le h =
    is_more labels count (wire_of (drop count labels)) name refl (λ z. h (rw (w, e) (first_at labels count le ∙ z)))

pub all_at : (labels : List (List ℕ)) (count at : ℕ) (wire : List ℕ) → IsName labels → wire ≡ wire_of labels
    → at ≡ offset_of labels count → count ≤ length labels → get_or wire at 0 ≡ 0 → count ≡ length labels
all_at labels count at wire name w e le h =
    is_all labels count (wire_of (drop count labels)) name refl (sym (first_at labels count le) ∙ rw (w, e) at h) le

pub starts_more : (labels : List (List ℕ)) (count at : ℕ) (starts : List ℕ) → AreStarts labels count starts
    → count < 128 → at ≡ offset_of labels count → AreStarts labels (count + 1) (set starts count at)
starts_more labels count at starts are h e =
    let lt : count < length starts = omega (arith, are.long) in
    record {
      long = length-set starts count at ∙ are.long;
      each = below_more _ _ (λ k below. let ne : k ≢ count = omega arith in
          get_or-set_other starts count k at 0 ne ∙ are.each k below) (get_or-set_same starts count at 0 lt ∙ e);
    }

pub few_labels : (labels : List (List ℕ)) → IsName labels → length labels < 128
few_labels labels name = omega (arith, labels_few labels name.each, name.short)

ends_cmp : (xs ys : List (List ℕ)) → (length xs ≡ 0) ⊎ (length ys ≡ 0)
    → nat_cmp (length xs) (length ys) ≡ slice_cmp (slice_cmp nat_cmp) xs ys
ends_cmp [] [] h = refl
ends_cmp [] (y ∷ ys) h = grind (arith, nat_tests)
ends_cmp (x ∷ xs) [] h = grind (arith, nat_tests)
ends_cmp (x ∷ xs) (y ∷ ys) h = absurd (elim h [ inl e ↦ omega arith | inr e ↦ omega arith ])

pub cmp_end : (a b : List (List ℕ)) (left right : ℕ) → left ≤ length a → right ≤ length b → (left ≡ 0) ⊎ (right ≡ 0)
    → nat_cmp left right ≡ slice_cmp (slice_cmp nat_cmp) (reverse (take left a)) (reverse (take right b))
cmp_end a b left right l r h =
    let p : length (reverse (take left a)) ≡ left = length-reverse (take left a) ∙ length-take-le left a l in
    let q : length (reverse (take right b)) ≡ right = length-reverse (take right b) ∙ length-take-le right b r in
    rw (p, q) at (ends_cmp (reverse (take left a)) (reverse (take right b)) (rw (p, q) h))
