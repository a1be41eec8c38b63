-- The first labels of a name before another name.
use Rattle.std.proofs.Common.{◌≡◌, ℕ, ◌+◌, ◌-◌, ◌<◌, ◌≤◌, zero, suc, List, [], ◌∷◌, ◌++◌, length, take, drop, refl}
use Rattle.std.proofs.Common.{sym, ◌∙◌, ap, append_assoc, arith, length-append, Some, None, true, false}
use Rattle.std.specs.Prelude.{replicate, nat_le}
use Rattle.std.specs.List.{AllByRecursion}
use Rattle.std.proofs.lemmas.List.{take_at}
use Rattle.std.proofs.lemmas.Bool.Decides.{nat_tests}
use Rattle.dz_name.specs.Name.{wire_of, IsLabel, IsName, fitting}
use Rattle.dz_name.specs.inner.Kept.{padded}
use Rattle.dz_name.proofs.PartLemmas.{write_zeros}

-- what the first labels have in a wire form
record HasFront (k : ℕ) (name above : List (List ℕ)) : Type 0 where
  front : List ℕ
  mine : wire_of name ≡ front ++ wire_of (drop k name)
  joined : wire_of (take k name ++ above) ≡ front ++ wire_of above

front_of : (k : ℕ) (name above : List (List ℕ)) → HasFront k name above
unfolding wire_of
front_of zero name above = record { front = []; mine = refl; joined = refl }
front_of (suc k) [] above = record { front = []; mine = refl; joined = refl }
front_of (suc k) (label ∷ labels) above =
    let f = front_of k labels above in
    record {
      front = length label ∷ (label ++ f.front);
      mine = ap (λ xs. length label ∷ xs)
          (ap (λ xs. label ++ xs) f.mine ∙ sym (append_assoc label f.front (wire_of (drop k labels))));
      joined = ap (λ xs. length label ∷ xs)
          (ap (λ xs. label ++ xs) f.joined ∙ sym (append_assoc label f.front (wire_of above)));
    }

-- how long the joined wire form is
pub joined_length : (k : ℕ) (name above : List (List ℕ)) → length (wire_of (take k name ++ above))
    ≡ length (wire_of name) - length (wire_of (drop k name)) + length (wire_of above)
joined_length k name above =
    let f = front_of k name above in
    omega (
      arith,
      ap length f.mine,
      ap length f.joined,
      length-append f.front (wire_of (drop k name)),
      length-append f.front (wire_of above),
    )

each_in_front : (k : ℕ) (name above : List (List ℕ)) → AllByRecursion IsLabel name → AllByRecursion IsLabel above
    → AllByRecursion IsLabel (take k name ++ above)
each_in_front zero name above a b = b
each_in_front (suc k) [] above a b = b
each_in_front (suc k) (label ∷ labels) above a b = (a.0, each_in_front k labels above a.1 b)

pub joined_name : (k : ℕ) (name above : List (List ℕ)) → IsName name → IsName above
    → length (wire_of (take k name ++ above)) ≤ 255 → IsName (take k name ++ above)
joined_name k name above a b few = record { each = each_in_front k name above a.each b.each; short = few }

pub joined_padded : (k : ℕ) (name above : List (List ℕ)) (wire rest behind part x1 x2 : List ℕ) (size : ℕ)
    → wire ≡ wire_of name → behind ≡ wire_of (drop k name) → rest ≡ wire_of above
    → size ≡ length wire - length behind → part ≡ take size wire
    → x1 ≡ take 0 (replicate 255 0) ++ (part ++ drop (0 + length part) (replicate 255 0))
    → x2 ≡ take size x1 ++ (rest ++ drop (size + length rest) x1)
    → x2 ≡ padded (take k name ++ above)
joined_padded k name above wire rest behind part x1 x2 size w b r s p e1 e2 =
    let f = front_of k name above in
    let front_size : length f.front ≡ size =
    omega (arith, ap length w, ap length b, s, ap length f.mine, length-append f.front (wire_of (drop k name))) in
    let part_is : part ≡ f.front =
    p ∙ ap (λ xs. take size xs) (w ∙ f.mine) ∙ take_at f.front (wire_of (drop k name)) size front_size in
    let part_size : length part ≡ size = ap length part_is ∙ front_size in
    let f1 : x1 ≡ part ++ replicate (255 - length part) 0 = e1 ∙ write_zeros [] part 255 0 refl in
    let f2 : x2 ≡ (part ++ rest) ++ replicate (255 - length part - length rest) 0 =
    rw f1 at e2 ∙ write_zeros part rest (255 - length part) size part_size in
    let wire_is : part ++ rest ≡ wire_of (take k name ++ above) =
    ap (λ xs. xs ++ rest) part_is ∙ ap (λ xs. f.front ++ xs) r ∙ sym f.joined in
    let n : 255 - length part - length rest ≡ 255 - length (wire_of (take k name ++ above)) =
    omega (arith, ap length wire_is, length-append part rest) in
    f2 ∙ (rw (n, wire_is) refl)

-- whether there is room
pub fits_in : (name : List (List ℕ)) → length (wire_of name) ≤ 255 → fitting name ≡ Some name
fits_in name few = let t : nat_le (length (wire_of name)) 255 ≡ true = grind (arith, nat_tests) in rw t refl

pub fits_not : (name : List (List ℕ)) → 255 < length (wire_of name) → fitting name ≡ None
fits_not name many = let t : nat_le (length (wire_of name)) 255 ≡ false = grind (arith, nat_tests) in rw t refl
