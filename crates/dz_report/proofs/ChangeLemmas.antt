-- Lines one after the other.
use Rattle.std.proofs.Common.{◌≡◌, ℕ, ◌+◌, ◌<◌, ◌≤◌, List, [], ◌∷◌, ◌++◌, length, get_or, drop, sym, ◌∙◌, ap}
use Rattle.std.proofs.Common.{append_assoc}
use Rattle.std.specs.List.{flat_map}
use Rattle.std.proofs.lemmas.List.{append-nil, drop_all, drop_more}

pub line_more : {X : Type 0} (f : X → List ℕ) (xs : List X) (i : ℕ) (x : X) (text whole : List ℕ) → i < length xs
    → x ≡ get_or xs i x
    → text ++ flat_map f (drop i xs) ≡ whole → (text ++ f x) ++ flat_map f (drop (i + 1) xs) ≡ whole
line_more {X} f xs i x text whole inside is so =
    let here : drop i xs ≡ x ∷ drop (i + 1) xs =
    drop_more xs i x inside ∙ ap (λ (y : X). y ∷ drop (i + 1) xs) (sym is) in
    append_assoc text (f x) (flat_map f (drop (i + 1) xs)) ∙ ap (λ rest. text ++ flat_map f rest) (sym here) ∙ so

pub lines_all : {X : Type 0} (f : X → List ℕ) (xs : List X) (i : ℕ) (text whole : List ℕ) → length xs ≤ i
    → text ++ flat_map f (drop i xs) ≡ whole → text ≡ whole
lines_all f xs i text whole past so =
    let none : drop i xs ≡ [] = drop_all i xs past in
    sym (append-nil text) ∙ ap (λ rest. text ++ flat_map f rest) (sym none) ∙ so
