-- Numbers read digit by digit, up to a number past every limit.
use Rattle.std.proofs.Common.{◌≡◌, ℕ, ◌+◌, ◌-◌, ◌*◌, ◌<◌, List, [], ◌∷◌, ◌++◌, min, take, length, get_or, refl, sym}
use Rattle.std.proofs.Common.{◌∙◌, ap, arith}
use Rattle.std.specs.List.{fold}
use Rattle.std.proofs.lemmas.List.{take_more}
use Rattle.dz_name.specs.Decimal.{value_of}

fold_push : {A B : Type 0} (f : B → A → B) (b : B) (xs : List A) (x : A) → fold f b (xs ++ x ∷ []) ≡ f (fold f b xs) x
fold_push f b [] x = refl
fold_push f b (y ∷ ys) x = fold_push f (f b y) ys x

capped : (v e : ℕ)
    → min (min v 18446744073709551616 * 10 + e) 18446744073709551616 ≡ min (v * 10 + e) 18446744073709551616
capped v e = omega arith

pub value_more : (xs : List ℕ) (i d old new : ℕ) → i < length xs → get_or xs i 0 ≡ d
    → old ≡ min (value_of (take i xs)) 18446744073709551616 → new ≡ min (old * 10 + (d - 48)) 18446744073709551616
    → new ≡ min (value_of (take (i + 1) xs)) 18446744073709551616
value_more xs i d old new lt is h e =
    e
    ∙ (ap (λ v. min (v * 10 + (d - 48)) 18446744073709551616) h
    ∙ (capped (value_of (take i xs)) (d - 48)
    ∙ ap (λ v. min v 18446744073709551616)
    (sym (fold_push (λ n x. n * 10 + (x - 48)) 0 (take i xs) d)
    ∙ ap value_of (ap (λ x. take i xs ++ x ∷ []) (sym is) ∙ sym (take_more xs i 0 lt)))))
