-- Parts of names.
use Rattle.std.proofs.Common.{◌≡◌, ℕ, List, [], ◌∷◌, ◌++◌, length, drop, get_or, refl, ◌∙◌, ap, arith, ◌≢◌, ◌<◌, ◌≤◌}
use Rattle.std.proofs.Common.{length-append, inl, inr}
use Rattle.std.specs.Prelude.{Some, MatchBool, ◌==◌}
use Rattle.std.proofs.lemmas.Bool.{cases_Bool}
use Rattle.std.proofs.lemmas.Bool.Decides.{nat_tests}
use Rattle.std.proofs.lemmas.Bool.Decides.{same_from_decides}
use Rattle.dz_name.specs.Name.{first_label, parent_of, wire_of, is_within, same_name, IsWithin}
use Rattle.dz_name.specs.Order.{same_decides}
use Rattle.dz_name.proofs.PartLemmas.{within_suffix}

some_wire : (name : List (List ℕ)) → 1 ≤ length (wire_of name)
unfolding wire_of
some_wire [] = omega arith
some_wire (label ∷ labels) = omega arith

pub root_tells : (name : List (List ℕ)) (n : ℕ) → n ≡ length (wire_of name)
    → MatchBool (n == 1) (length name ≡ 0) (0 < length name)
unfolding wire_of
root_tells [] n e = rw e refl
root_tells (label ∷ labels) n e =
    let more : 2 ≤ n = omega (arith, e, length-append label (wire_of labels), some_wire labels) in
    elim (cases_Bool (n == 1)) [
      | inl t ↦ absurd (grind (arith, nat_tests, t, more))
      | inr f ↦ rw f (omega arith)
    ]

pub parent_is : (name rest : List (List ℕ)) → length name ≢ 0 → rest ≡ drop 1 name → Some rest ≡ parent_of name
parent_is [] rest h e = absurd (h refl)
parent_is (label ∷ labels) rest h e = ap Some e

pub first_is : (name : List (List ℕ)) (piece back : List ℕ) → length name ≢ 0
    → piece ≡ length (get_or name 0 []) ∷ get_or name 0 [] → back ≡ drop 1 piece → Some back ≡ first_label name
first_is [] piece back h p b = absurd (h refl)
first_is (label ∷ labels) piece back h p b = ap Some (b ∙ ap (λ (xs : List ℕ). drop 1 xs) p)

-- a name is not longer than one below it
wire_more : (front above : List (List ℕ)) → length (wire_of above) ≤ length (wire_of (front ++ above))
unfolding wire_of
wire_more [] above = omega arith
wire_more (label ∷ labels) above =
    omega (arith, length-append label (wire_of (labels ++ above)), wire_more labels above)

wire_longer : (label : List ℕ) (labels above : List (List ℕ))
    → length (wire_of above) < length (wire_of (label ∷ labels ++ above))
unfolding wire_of
wire_longer label labels above = omega (arith, length-append label (wire_of (labels ++ above)), wire_more labels above)

pub some_label : (name above : List (List ℕ)) → length (wire_of above) < length (wire_of name) → 1 ≤ length name
unfolding wire_of
some_label [] above h = absurd (omega (arith, some_wire above))
some_label (label ∷ labels) above h = omega arith

pub shorter : (name rest : List (List ℕ)) → 1 ≤ length name → rest ≡ drop 1 name → length rest < length name
shorter [] rest h e = absurd (omega arith)
shorter (label ∷ labels) rest h e = let n : length rest ≡ length labels = ap length e in omega arith

tail_within : (label : List ℕ) (labels above : List (List ℕ)) → length (wire_of above)
    < length (wire_of (label ∷ labels)) → IsWithin (label ∷ labels) above → IsWithin labels above
tail_within label labels above h ([], e) =
    absurd (let n : length (wire_of (label ∷ labels)) ≡ length (wire_of above) = ap (λ x. length (wire_of x)) e in
    omega arith)
tail_within label labels above h (first ∷ front, e) = (front, ap (drop 1) e)

-- what follows the first label of a longer name is within another where the name is
pub tail_is : (name above rest : List (List ℕ)) → length (wire_of above) < length (wire_of name) → rest ≡ drop 1 name
    → is_within rest above ≡ is_within name above
tail_is [] above rest h e = absurd (let n = some_label [] above h in omega arith)
tail_is (label ∷ labels) above rest h e =
    let d = within_suffix (label ∷ labels) above in
    let t = within_suffix labels above in
    ap (λ x. is_within x above) e
    ∙ same_from_decides (is_within labels above) (is_within (label ∷ labels) above) t
    (λ y. tail_within label labels above h (d.0 y), λ w. d.1 (label ∷ w.0, ap (λ x. label ∷ x) w.1))

-- a name that is not longer is within another where the two are one
whole : (name above : List (List ℕ)) → length (wire_of name) ≤ length (wire_of above) → IsWithin name above
    → name ≡ above
whole name above h ([], e) = e
whole name above h (label ∷ front, e) = absurd
    (let n : length (wire_of name) ≡ length (wire_of (label ∷ front ++ above)) = ap (λ x. length (wire_of x)) e in
    omega (arith, wire_longer label front above))

pub whole_is : (name above : List (List ℕ)) → length (wire_of name) ≤ length (wire_of above)
    → same_name name above ≡ is_within name above
whole_is name above h =
    let d = within_suffix name above in
    same_from_decides (same_name name above) (is_within name above) (same_decides name above)
    (λ y. whole name above h (d.0 y), λ e. d.1 ([], e))

pub not_longer : (name above : List (List ℕ)) (x y : List ℕ) → x ≡ wire_of name → y ≡ wire_of above
    → length x ≤ length y → length (wire_of name) ≤ length (wire_of above)
not_longer name above x y e f h =
    let a : length x ≡ length (wire_of name) = ap length e in
    let b : length y ≡ length (wire_of above) = ap length f in
    omega (arith, h)
