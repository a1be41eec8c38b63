-- Meaning: whether something is in a list twice.
use Rattle.std.specs.Prelude.{Bool, false, ◌||◌, List, [], ◌∷◌}
use Rattle.std.specs.List.{list_any}

-- some two of the list are the same
abbrev pub has_twice : {X : Type 0} → (X → X → Bool) → List X → Bool
has_twice same [] = false
has_twice same (x ∷ xs) = list_any (λ y. same x y) xs || has_twice same xs
