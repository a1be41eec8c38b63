-- Meaning: entries in chunks, and how many are in each.
use Rattle.std.specs.Prelude.{ℕ, ◌+◌, ◌≤◌, List, [], ◌∷◌, ◌++◌, length}

-- the entries of all chunks
abbrev pub flat : {A : Type 0} → List (List A) → List A
flat [] = []
flat (c ∷ cs) = c ++ flat cs

-- two neighbouring chunks have at least 128 entries together
abbrev pub Joined : {A : Type 0} → List A → List (List A) → Type 0
Joined c [] = Unit {0}
Joined c (d ∷ ds) = 128 ≤ length c + length d

-- each chunk has 1 to 128 entries, and two neighbours at least 128
abbrev pub AreChunks : {A : Type 0} → List (List A) → Type 0
AreChunks [] = Unit {0}
AreChunks (c ∷ cs) = (1 ≤ length c) × (length c ≤ 128) × Joined c cs × AreChunks cs
