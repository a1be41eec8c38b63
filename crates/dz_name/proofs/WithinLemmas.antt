-- Whether a name is within another, by the name's labels that are left.
use Rattle.std.proofs.Common.{◌≡◌, ℕ, ◌+◌, ◌<◌, ◌≤◌, List, [], ◌∷◌, ◌++◌, length, drop, refl, sym, ◌∙◌, ap, arith}
use Rattle.std.proofs.Common.{length-append, get_or}
use Rattle.std.specs.Prelude.{Bool}
use Rattle.std.specs.Bool.{Decides}
use Rattle.std.specs.Str.{bytes_eq}
use Rattle.std.proofs.lemmas.Bool.Decides.{same_from_decides}
use Rattle.dz_name.specs.Name.{wire_of, is_within, IsWithin, IsName}
use Rattle.dz_name.proofs.KeptLemmas.{wire_some}
use Rattle.dz_name.proofs.PartLemmas.{behind_step, first_in, name_drop, same_wires, within_suffix}

-- the labels that are left of a name, with their wire form, are within another name exactly where the name is
pub record IsLeft (name above : List (List ℕ)) (rest : List ℕ) : Type 0 where
  pub left : List (List ℕ)
  pub is_name : IsName left
  pub wire : rest ≡ wire_of left
  pub same : is_within left above ≡ is_within name above

root_wire : length (wire_of []) ≡ 1
unfolding wire_of
root_wire = refl

-- the wire form of labels before others is no shorter than that of the others
wire_front : (front above : List (List ℕ)) → length (wire_of above) ≤ length (wire_of (front ++ above))
unfolding wire_of
wire_front [] above = omega arith
wire_front (label ∷ front) above =
    omega (arith, wire_front front above, length-append label (wire_of (front ++ above)))

wire_longer : (first : List ℕ) (front above : List (List ℕ))
    → length (wire_of above) < length (wire_of (first ∷ (front ++ above)))
unfolding wire_of
wire_longer first front above = omega (arith, wire_front front above, length-append first (wire_of (front ++ above)))

-- without its first label a name that is longer than another is within it still
inner : (label : List ℕ) (labels above : List (List ℕ)) → length (wire_of above) < length (wire_of (label ∷ labels))
    → IsWithin (label ∷ labels) above → IsWithin labels above
inner label labels above longer (front, e) = go front e
  where
    go : (front : List (List ℕ)) → label ∷ labels ≡ front ++ above → IsWithin labels above
    go [] e = absurd (omega (arith, longer, ap (λ n. length (wire_of n)) e))
    go (first ∷ front) e = (front, ap (λ n. drop 1 n) e)

-- a name that is longer than another is within it exactly where its parent is
within_parent : (label : List ℕ) (labels above : List (List ℕ)) → length (wire_of above)
    < length (wire_of (label ∷ labels)) → is_within labels above ≡ is_within (label ∷ labels) above
within_parent label labels above longer =
    same_from_decides (is_within labels above) (is_within (label ∷ labels) above) (within_suffix labels above) (
      λ t. inner label labels above longer ((within_suffix (label ∷ labels) above).0 t),
      λ w. (within_suffix (label ∷ labels) above).1 (label ∷ w.0, ap (λ xs. label ∷ xs) w.1),
    )

-- a name that isn't longer than another is within it exactly where it is the other
within_whole : (left above : List (List ℕ)) → length (wire_of left) ≤ length (wire_of above) → IsWithin left above
    → left ≡ above
within_whole left above short (front, e) = go front e
  where
    go : (front : List (List ℕ)) → left ≡ front ++ above → left ≡ above
    go [] e = e
    go (first ∷ front) e =
        absurd (omega (arith, short, ap (λ n. length (wire_of n)) e, wire_longer first front above))

-- nothing is left out yet
pub none_left : (name above : List (List ℕ)) (rest : List ℕ) → IsName name → rest ≡ wire_of name
    → IsLeft name above rest
none_left name above rest is e = record { left = name; is_name = is; wire = e; same = refl }

-- one label more is left out
pub next_left : (name above : List (List ℕ)) (rest next : List ℕ) → IsLeft name above rest
    → length (wire_of above) < length rest → next ≡ drop (get_or rest 0 0 + 1) rest → IsLeft name above next
next_left name above rest next l longer e = go l.left l.is_name l.wire l.same
  where
    go : (left : List (List ℕ)) → IsName left → rest ≡ wire_of left → is_within left above ≡ is_within name above
        → IsLeft name above next
    go [] is w same = absurd (omega (arith, longer, ap length w, wire_some above, root_wire))
    go (label ∷ labels) is w same = record {
      left = labels;
      is_name = name_drop 1 (label ∷ labels) is;
      wire = e ∙ rw w (behind_step (label ∷ labels) 0 (omega arith));
      same = within_parent label labels above (rw w at longer) ∙ same;
    }

-- what is left is the other name exactly where the name is within it
pub left_is : (name above : List (List ℕ)) (rest suffix : List ℕ) (r : Bool) → IsLeft name above rest → IsName above
    → suffix ≡ wire_of above → length rest ≤ length suffix → r ≡ bytes_eq rest suffix → r ≡ is_within name above
left_is name above rest suffix r l is w short e =
    let d = same_wires l.left above rest suffix r l.is_name is l.wire w e in
    let le : length (wire_of l.left) ≤ length (wire_of above) = omega (arith, short, ap length l.wire, ap length w) in
    same_from_decides r (is_within l.left above) d
    (λ t. within_whole l.left above le ((within_suffix l.left above).0 t), λ q. (within_suffix l.left above).1 ([], q))
    ∙ l.same

-- the first label that is left is whole
pub left_first : (name above : List (List ℕ)) (rest : List ℕ) → IsLeft name above rest → get_or rest 0 0 < length rest
left_first name above rest l = rw l.wire (first_in l.left)
