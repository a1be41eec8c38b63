-- Meaning: sorting by insertion, which keeps the order of ties.
use Rattle.std.specs.Prelude.{Bool, List, [], ◌∷◌, if◌then◌else◌}

-- an element inserted in its place, before all that it ties with
abbrev pub insert_by : {X : Type 0} → (X → X → Bool) → X → List X → List X
insert_by lt x [] = x ∷ []
insert_by lt x (y ∷ ys) = if lt y x then y ∷ insert_by lt x ys else x ∷ y ∷ ys

-- the elements sorted, ties in the order in which they were
abbrev pub sorted_by : {X : Type 0} → (X → X → Bool) → List X → List X
sorted_by lt [] = []
sorted_by lt (x ∷ xs) = insert_by lt x (sorted_by lt xs)
