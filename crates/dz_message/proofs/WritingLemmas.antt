-- Parts appended one after the other as a loop does.
use Rattle.std.proofs.Common.{◌≡◌, ℕ, ◌+◌, ◌≤◌, ◌<◌, List, ◌∷◌, ◌++◌, length, drop, get_or, sym, ap, ◌∙◌, append_assoc}
use Rattle.std.specs.List.{flat_map}
use Rattle.std.proofs.lemmas.List.{append-nil, drop_more, drop_all}

pub one_written : {X : Type 0} (f : X → List ℕ) (xs : List X) (i : ℕ) (x : X) (whole out more : List ℕ)
    → i < length xs → x ≡ get_or xs i x → out ++ flat_map f (drop i xs) ≡ whole → more ≡ out ++ f x
    → more ++ flat_map f (drop (i + 1) xs) ≡ whole
one_written f xs i x whole out more lt is so_far more_is =
    let e : drop i xs ≡ x ∷ drop (i + 1) xs = drop_more xs i x lt ∙ ap (λ y. y ∷ drop (i + 1) xs) (sym is) in
    ap (λ ys. ys ++ flat_map f (drop (i + 1) xs)) more_is ∙ append_assoc out (f x) (flat_map f (drop (i + 1) xs))
    ∙ ap (λ ys. out ++ flat_map f ys) (sym e) ∙ so_far

pub all_written : {X : Type 0} (f : X → List ℕ) (xs : List X) (i : ℕ) (whole out : List ℕ) → length xs ≤ i
    → out ++ flat_map f (drop i xs) ≡ whole → out ≡ whole
all_written f xs i whole out le so_far =
    sym (append-nil out) ∙ ap (λ ys. out ++ flat_map f ys) (sym (drop_all i xs le)) ∙ so_far
