-- Chunks that were cut from the end on.
use Rattle.std.proofs.Common.{◌≡◌, ℕ, ◌≤◌, List, [], ◌∷◌, ◌++◌, length, map, reverse, append_assoc, refl, sym, ◌∙◌, ap}
use Rattle.std.proofs.Common.{arith, take, drop}
use Rattle.std.specs.Prelude.{◌==◌, false}
use Rattle.std.proofs.lemmas.Bool.Decides.{nat_tests}
use Rattle.std.proofs.lemmas.List.{reverse-append, map-append, take-append-drop}
use Rattle.dz_chunks.specs.Chunked.{flat, Joined, AreChunks}
use Rattle.dz_chunks.specs.inner.Chunked.{AreFull}

-- one more after the others is one more in front when they are turned round
turned : {X : Type 0} (xs : List X) (x : X) → reverse (xs ++ x ∷ []) ≡ x ∷ reverse xs
turned xs x = reverse-append xs (x ∷ [])

pub map_turned : {X Y : Type 0} (f : X → Y) (xs : List X) → map f (reverse xs) ≡ reverse (map f xs)
map_turned f [] = refl
map_turned f (x ∷ xs) =
    let e : reverse (x ∷ xs) ≡ reverse xs ++ x ∷ [] = reverse-append (x ∷ []) xs in
    let g : reverse (f x ∷ map f xs) ≡ reverse (map f xs) ++ f x ∷ [] = reverse-append (f x ∷ []) (map f xs) in
    ap (map f) e ∙ (map-append f (reverse xs) (x ∷ []) ∙ (ap (λ ys. ys ++ f x ∷ []) (map_turned f xs) ∙ sym g))

pub cut_more : {A : Type 0} (rest : List A) (at : ℕ) (old new : List (List A)) (all : List A)
    → new ≡ old ++ drop at rest ∷ [] → rest ++ flat (reverse old) ≡ all
    → take at rest ++ flat (reverse new) ≡ all
cut_more rest at old new all e h =
    ap (λ cs. take at rest ++ flat cs) (ap reverse e ∙ turned old (drop at rest))
    ∙ (sym (append_assoc (take at rest) (drop at rest) (flat (reverse old)))
    ∙ (ap (λ xs. xs ++ flat (reverse old)) (take-append-drop at rest) ∙ h))

pub full_more : {A : Type 0} (c : List A) (old new : List (List A)) → new ≡ old ++ c ∷ [] → length c ≡ 128
    → AreFull (reverse old) → AreFull (reverse new)
full_more c old new e size h = rw (e, turned old c) (size, h)

-- full chunks, and others in front
full_chunks : {A : Type 0} (cs : List (List A)) → AreFull cs → AreChunks cs
full_chunks [] h = tt
full_chunks (c ∷ []) h = (omega (arith, h.0), omega (arith, h.0), tt, tt)
full_chunks (c ∷ d ∷ ds) h = (omega (arith, h.0), omega (arith, h.0), omega (arith, h.0), full_chunks (d ∷ ds) h.1)

pub all_full : {A : Type 0} (cs : List (List A)) → AreFull (reverse cs) → AreChunks (reverse cs)
all_full cs h = full_chunks (reverse cs) h

joined_full : {A : Type 0} (c : List A) (cs : List (List A)) → AreFull cs → Joined c cs
joined_full c [] h = tt
joined_full c (d ∷ ds) h = omega (arith, h.0)

pub first_chunks : {A : Type 0} (c : List A) (old new : List (List A)) → new ≡ old ++ c ∷ [] → 1 ≤ length c
    → length c ≤ 128 → AreFull (reverse old) → AreChunks (reverse new)
first_chunks c old new e some few h =
    rw (e, turned old c) (some, few, joined_full c (reverse old) h, full_chunks (reverse old) h)

pub first_flat : {A : Type 0} (c : List A) (old new : List (List A)) (all : List A) → new ≡ old ++ c ∷ []
    → c ++ flat (reverse old) ≡ all → flat (reverse new) ≡ all
first_flat c old new all e h = rw (e, turned old c) h

pub some_left : (n : ℕ) → (n == 0) ≡ false → 1 ≤ n
some_left n e = grind (arith, nat_tests)
