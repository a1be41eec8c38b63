-- Inner: elements of a list and those next to them, as one pass looks at them.
use Rattle.std.specs.Prelude.{Bool, false, ◌||◌, List, [], ◌∷◌}

-- of an element followed by others, some element and the next one pass the test
unfoldable pub neighbours_from : {X : Type 0} → (X → X → Bool) → X → List X → Bool
neighbours_from test x [] = false
neighbours_from test x (y ∷ ys) = test x y || neighbours_from test y ys

-- some element of a list and the next one pass the test
abbrev pub neighbours : {X : Type 0} → (X → X → Bool) → List X → Bool
neighbours test [] = false
neighbours test (x ∷ xs) = neighbours_from test x xs
