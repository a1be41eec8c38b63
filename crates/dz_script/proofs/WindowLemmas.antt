-- What a window's front is to a line, and what follows what was moved.
use Rattle.std.proofs.Common.{suc, ◌≡◌, ◌≤◌, ◌<◌, ◌+◌, ◌-◌, ℕ, Bool, true, false, List, [], ◌∷◌, ◌++◌, length, take}
use Rattle.std.proofs.Common.{drop, Option, Some, None, MatchOption, get_or, min, not, nat_eq, nat_lt, cond, refl, sym}
use Rattle.std.proofs.Common.{◌∙◌, ap, arith, add-one}
use Rattle.std.proofs.lemmas.Bool.Decides.{nat_tests}
use Rattle.std.proofs.lemmas.List.{take-append-drop, drop-take, drop-drop, take_rest, take-take, take_all, length-take}
use Rattle.std.proofs.lemmas.List.Sums.{prefix_len_stops}
use Rattle.std.proofs.Math.Seq.{take-suc, take-add}
use Rattle.std.specs.List.{prefix_len, position, slice_range}
use Rattle.dz_script.specs.Lines.{HasNoNewline, IsClosedLine}
use Rattle.dz_script.specs.inner.Window.{IsPiece}
use Rattle.dz_script.specs.declared.window.Piece.{Piece}

-- moving the front of the range that a window holds leaves what follows it
pub split_range : (octets all : List ℕ) (at end n : ℕ) → octets ≡ slice_range all at end → at + n ≤ end
    → octets ≡ take n octets ++ slice_range all (at + n) end
split_range octets all at end n whole fits =
    let more : end - at ≡ n + (end - (at + n)) = omega arith in
    let behind : drop n octets ≡ slice_range all (at + n) end =
    rw (whole, more, drop-take, drop-drop) refl in
    rw (← behind) (sym (take-append-drop n octets))

-- the octets that are no newline
abbrev pub other : ℕ → Bool
other octet = not (nat_eq octet 10)

head_other : (octet : ℕ) (octets : List ℕ) (n : ℕ) (b : Bool) → nat_eq octet 10 ≡ b
    → length (octet ∷ octets) ≤ cond (not b) (1 + n) 0 → (length octets ≤ n → HasNoNewline octets)
    → HasNoNewline (octet ∷ octets)
head_other octet octets n true is long rest = absurd (omega arith)
head_other octet octets n false is long rest = ((grind (arith, nat_tests)), rest (omega arith))

-- where each octet is another, there is no newline
pub all_other : (octets : List ℕ) → length octets ≤ prefix_len other octets → HasNoNewline octets
all_other [] long = tt
all_other (octet ∷ octets) long = head_other octet octets _ (nat_eq octet 10) refl long (all_other octets)

front_step : (octet : ℕ) (octets : List ℕ) (n : ℕ) (b : Bool) → nat_eq octet 10 ≡ b → HasNoNewline (take n octets)
    → HasNoNewline (take (cond (not b) (1 + n) 0) (octet ∷ octets))
front_step octet octets n true is rest = tt
front_step octet octets n false is rest =
    let one : 1 + n ≡ suc n = omega arith in
    rw one ((grind (arith, nat_tests)), rest)

-- before the first newline there is none
pub front_other : (octets : List ℕ) → HasNoNewline (take (prefix_len other octets) octets)
front_other [] = tt
front_other (octet ∷ octets) = front_step octet octets _ (nat_eq octet 10) refl (front_other octets)

is_ten : (octet : ℕ) → other octet ≡ false → octet ≡ 10
is_ten octet test = grind (arith, nat_tests)

closed_end : (octets : List ℕ) (n : ℕ) → n < length octets → get_or octets n 0 ≡ 10
    → take (n + 1) octets ≡ take n octets ++ 10 ∷ []
closed_end octets n inside is = rw (add-one, take-suc octets n 0 inside, is) refl

-- up to the first newline it is one line
pub closed_at : (octets : List ℕ) → prefix_len other octets < length octets
    → IsClosedLine (take (prefix_len other octets + 1) octets)
closed_at octets inside = record {
  front = take (prefix_len other octets) octets;
  line_is = closed_end octets _ inside (is_ten _ (prefix_len_stops other octets 0 inside));
  unbroken = front_other octets;
}

by_test : (n count : ℕ) (b : Bool) (r : Option ℕ) → nat_lt n count ≡ b → cond b (Some n) None ≡ r
    → MatchOption r (count ≤ n) (λ at. (at ≡ n) × (at < count))
by_test n count true None is found = cc
by_test n count true (Some at) is found = (let e : Some n ≡ Some at = found in (cc), (grind (arith, nat_tests)))
by_test n count false None is found = grind (arith, nat_tests)
by_test n count false (Some at) is found = cc

-- what the first newline's place says
pub found_at : (octets : List ℕ) (at : ℕ)
    → position (λ octet. nat_eq octet 10) octets ≡ Some at → IsClosedLine (take (at + 1) octets)
found_at octets at found =
    let is : (at ≡ prefix_len other octets) × (at < length octets) = by_test (prefix_len other octets) (length octets)
    (nat_lt (prefix_len other octets) (length octets)) (Some at) refl found in
    rw is.0 (closed_at octets (omega arith))

pub found_none : (octets : List ℕ) → position (λ octet. nat_eq octet 10) octets ≡ None → HasNoNewline octets
found_none octets found = all_other octets (by_test (prefix_len other octets) (length octets)
    (nat_lt (prefix_len other octets) (length octets)) None refl found)

-- the piece that ends with the first newline
pub piece_closed : (octets : List ℕ) (n at : ℕ)
    → position (λ octet. nat_eq octet 10) (take n octets) ≡ Some at → IsClosedLine (take (at + 1) octets)
piece_closed octets n at found =
    let inside : (at ≡ prefix_len other (take n octets)) × (at < length (take n octets)) =
    by_test (prefix_len other (take n octets)) (length (take n octets))
    (nat_lt (prefix_len other (take n octets)) (length (take n octets))) (Some at) refl found in
    let le : at + 1 ≤ n = omega (arith, length-take {A = ℕ}) in
    rw (← take-take (at + 1) n octets le) (found_at (take n octets) at found)

-- the piece that fills the room
pub piece_full : (octets : List ℕ) (n room : ℕ) → n ≡ min room (length octets)
    → n < length octets → position (λ octet. nat_eq octet 10) (take n octets) ≡ None
    → (length (take n octets) ≡ room) × (room < length octets) × HasNoNewline (take n octets)
piece_full octets n room size less found =
    ((omega (arith, length-take {A = ℕ})), (omega arith), found_none (take n octets) found)

-- the piece that is all there is
pub piece_open : (octets : List ℕ) (n : ℕ) → length octets ≤ n → position (λ octet. nat_eq octet 10) (take n octets)
    ≡ None → (take n octets ≡ octets) × HasNoNewline (take n octets)
piece_open octets n all found = (take_all n octets all, found_none (take n octets) found)

-- the same piece of the same octets
pub same_piece : (kind : Piece) (room n : ℕ) (text held : List ℕ) → text ≡ held → IsPiece kind room text (take n text)
    → IsPiece kind room held (take n held)
same_piece kind room n text held same piece = rw same at piece

-- what is left of a window when n of its octets were moved
pub split_window : (held text all : List ℕ) (at end n : ℕ) → slice_range all at end ≡ held → text ≡ held → at ≤ end
    → n ≤ length text → held ≡ take n held ++ slice_range all (at + n) end
split_window held text all at end n whole same order fits =
    split_range held all at end n (sym whole) (omega (arith, length-take {A = ℕ}, ap length whole, ap length same))
