-- Inner: an ordered list under changes, as the elements that it began with, each with a flag, and those that were
-- added.
use Rattle.std.specs.Prelude.{◌≡◌, ⊤, ℕ, ◌<◌, Bool, true, false, not, List, [], ◌∷◌, ◌++◌, length, map, filter}
use Rattle.std.specs.Prelude.{slice_index_or, if◌then◌else◌, Result, Ok, Err}
use Rattle.std.specs.List.{AllByRecursion, list_any}
use Rattle.std.specs.Ordering.{is_gt, is_eq, is_lt}
use Rattle.std.specs.declared.cmp.Ordering.{Ordering}
use Rattle.std.specs.declared.cmp.Ordering.TheVariants.{Less}

-- an element that was there at the beginning, and whether it is still there
pub record Flagged (X : Type 0) : Type 0 where
  pub item : X
  pub stands : Bool

-- an element that is still there
abbrev pub flagged : {X : Type 0} → X → Flagged X
flagged x = record { item = x; stands = true }

-- an element that is no longer there
abbrev pub fallen : {X : Type 0} → Flagged X → Flagged X
fallen b = record { item = b.item; stands = false }

-- the elements that were there at the beginning, without their flags
abbrev pub items : {X : Type 0} → List (Flagged X) → List X
items base = map (λ b. b.item) base

-- the elements that are still there
unfoldable pub left_of : {X : Type 0} → List (Flagged X) → List X
left_of [] = []
left_of (b ∷ bs) = if b.stands then b.item ∷ left_of bs else left_of bs

module _ {X : Type 0} (R : X → X → Ordering) where
  -- an element put before the first that doesn't come before it
  unfoldable pub placed : X → List X → List X
  placed x [] = x ∷ []
  placed x (y ∷ ys) = if is_gt (R x y) then y ∷ placed x ys else x ∷ y ∷ ys

  -- the elements of the first list put at their places
  unfoldable pub overlaid : List X → List X → List X
  overlaid [] ys = ys
  overlaid (x ∷ xs) ys = placed x (overlaid xs ys)

-- each comes before all that follow it
abbrev pub Rises : {X : Type 0} → (X → X → Ordering) → List X → Type 0
Rises R [] = ⊤
Rises R (x ∷ xs) = AllByRecursion (λ y. R x y ≡ Less) xs × Rises R xs

-- an element of the list compares equal
abbrev pub has_tie : {X : Type 0} → (X → X → Ordering) → X → List X → Bool
has_tie R x xs = list_any (λ y. is_eq (R x y)) xs

-- the elements that don't compare equal
abbrev pub untied : {X : Type 0} → (X → X → Ordering) → X → List X → List X
untied R x xs = filter (λ y. not (is_eq (R x y))) xs

-- where an element that compares equal is among the first ones, or that none does
abbrev pub Finds : {X : Type 0} → (X → X → Ordering) → List (Flagged X) → X → Result ℕ ℕ → Type 0
Finds {X} R base x (Ok at) =
    (at < length base) × ((b : Flagged X) → b ≡ slice_index_or base at b → is_eq (R x b.item) ≡ true)
Finds R base x (Err at) = has_tie R x (items base) ≡ false

-- no element of the one list compares equal to one of the other
abbrev pub AreApart : {X : Type 0} → (X → X → Ordering) → List X → List X → Type 0
AreApart R [] ys = ⊤
AreApart R (x ∷ xs) ys = (has_tie R x ys ≡ false) × AreApart R xs ys

-- both rise, and nothing that was added compares equal to what is still there
pub record IsOverlay {X : Type 0} (R : X → X → Ordering) (first : List (Flagged X)) (later : List X) : Type 0 where
  pub base : Rises R (items first)
  pub added : Rises R later
  pub apart : AreApart R later (left_of first)

-- the first element comes before this one
abbrev pub first_before : {X : Type 0} → (X → X → Ordering) → List X → X → Bool
first_before R [] bound = false
first_before R (x ∷ xs) bound = is_lt (R x bound)

-- the first element of the one list comes before none of the others
abbrev pub AreAhead : {X : Type 0} → (X → X → Ordering) → List X → List (Flagged X) → Type 0
AreAhead R xs base = AllByRecursion (λ b. first_before R xs b.item ≡ false) base

-- the leading elements that come before the bound were moved to the end of another list
pub record Moves {X : Type 0} (R : X → X → Ordering) (out added : List X) (bound : X)
    (new left : List X) : Type 0 where
  pub moved : List X
  pub added_are : added ≡ moved ++ left
  pub new_is : new ≡ out ++ moved
  pub before : AllByRecursion (λ x. R x bound ≡ Less) moved
  pub stops : first_before R left bound ≡ false
