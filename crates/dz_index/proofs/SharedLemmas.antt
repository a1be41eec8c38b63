-- The longest name that encloses two names.
use Rattle.std.proofs.Common.{◌≡◌, ◌≢◌, ℕ, ◌+◌, ◌<◌, ◌≤◌, List, [], ◌∷◌, ◌++◌, length, drop, refl, sym, ◌∙◌, ap, arith}
use Rattle.std.proofs.Common.{length-append}
use Rattle.std.proofs.lemmas.List.{drop-drop}
use Rattle.dz_name.specs.Name.{IsWithin, wire_of}

-- wire forms tell which of two names is longer
some_wire : (name : List (List ℕ)) → 1 ≤ length (wire_of name)
unfolding wire_of
some_wire [] = omega arith
some_wire (label ∷ labels) = omega arith

root_wire : (name : List (List ℕ)) → length (wire_of name) ≤ 1 → name ≡ []
unfolding wire_of
root_wire [] h = refl
root_wire (label ∷ labels) h = absurd (omega (arith, h, length-append label (wire_of labels), some_wire labels))

front_wire : (front zone : List (List ℕ)) → length front + length (wire_of zone) ≤ length (wire_of (front ++ zone))
unfolding wire_of
front_wire [] zone = omega arith
front_wire (label ∷ front) zone = omega (arith, front_wire front zone, length-append label (wire_of (front ++ zone)))

no_longer : (name zone : List (List ℕ)) → IsWithin name zone → length (wire_of zone) ≤ length (wire_of name)
no_longer name zone w = omega (arith, ap (λ n. length (wire_of n)) w.1, front_wire w.0 zone)

same_wire : (front name zone : List (List ℕ)) → name ≡ front ++ zone → length (wire_of name) ≤ length (wire_of zone)
    → name ≡ zone
same_wire [] name zone e h = e
same_wire (label ∷ front) name zone e h =
    absurd (omega (arith, ap (λ n. length (wire_of n)) e, front_wire (label ∷ front) zone))

-- what encloses a name and isn't the name encloses the one above it
rest_within : (front name zone : List (List ℕ)) → name ≡ front ++ zone → name ≢ zone → IsWithin (drop 1 name) zone
rest_within [] name zone e other = absurd (other e)
rest_within (label ∷ front) name zone e other = (front, ap (drop 1) e)

-- two names on the way up from two others, within all that encloses both of these
abbrev pub Keep : List (List ℕ) → List (List ℕ) → List (List ℕ) → List (List ℕ) → Type 0
Keep name other near far = (zone : List (List ℕ)) → IsWithin name zone → IsWithin other zone
    → IsWithin near zone × IsWithin far zone

only_root : length (wire_of []) ≡ 1
unfolding wire_of
only_root = refl

pub some_left : (near far : List (List ℕ)) → near ≢ far → length (wire_of far) ≤ length (wire_of near)
    → 1 ≤ length near
some_left [] far other h = absurd (other (sym (root_wire far (omega (arith, h, only_root)))))
some_left (label ∷ labels) far other h = omega arith

pub longer_left : (near far : List (List ℕ)) → length (wire_of near) < length (wire_of far) → 1 ≤ length far
longer_left near [] h = absurd (omega (arith, h, some_wire near, only_root))
longer_left near (label ∷ labels) h = omega arith

pub keep_near : (name other near far : List (List ℕ)) → Keep name other near far → near ≢ far
    → length (wire_of far) ≤ length (wire_of near) → Keep name other (drop 1 near) far
keep_near name other near far keep apart long zone w v =
    let both = keep zone w v in (
      rest_within both.0.0 near zone both.0.1 (λ e. apart
          (e ∙ sym (same_wire both.1.0 far zone both.1.1 (omega (arith, long, ap (λ n. length (wire_of n)) e))))),
      both.1,
    )

pub keep_far : (name other near far : List (List ℕ)) → Keep name other near far
    → length (wire_of near) < length (wire_of far) → Keep name other near (drop 1 far)
keep_far name other near far keep long zone w v =
    let both = keep zone w v in (
      both.0,
      rest_within both.1.0 far zone both.1.1
          (λ e. absurd (omega (arith, long, ap (λ n. length (wire_of n)) e, no_longer near zone both.0))),
    )

-- one label further
pub further : (name near next : List (List ℕ)) (apart : ℕ) → near ≡ drop apart name → next ≡ drop 1 near
    → next ≡ drop (apart + 1) name
further name near next apart e n =
    let more : apart + 1 ≡ 1 + apart = omega arith in
    n ∙ (ap (drop 1) e ∙ (drop-drop 1 apart name ∙ ap (λ k. drop k name) (omega arith)))

pub within_next : (other far next : List (List ℕ)) → IsWithin other far → 1 ≤ length far → next ≡ drop 1 far
    → IsWithin other next
within_next other [] next w some e = absurd (omega (arith, some))
within_next other (label ∷ labels) next w some e = rw e (w.0 ++ label ∷ [], w.1 ∙ sym (joined w.0))
  where
    joined : (front : List (List ℕ)) → (front ++ label ∷ []) ++ labels ≡ front ++ label ∷ labels
    joined [] = refl
    joined (first ∷ front) = ap (λ rest. first ∷ rest) (joined front)
