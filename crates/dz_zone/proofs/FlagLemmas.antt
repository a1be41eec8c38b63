-- Elements with their flags.
use Rattle.std.proofs.Common.{◌≡◌, ℕ, zero, suc, ◌<◌, Bool, false, List, [], ◌∷◌, length, map, get_or, set, refl, ap}
use Rattle.std.proofs.Common.{arith, inl, inr, Ordering}
use Rattle.std.specs.Prelude.{filter}
use Rattle.std.specs.List.Sorted.{IsStrictlySortedBy}
use Rattle.std.proofs.lemmas.Bool.{cases_Bool}
use Rattle.dz_zone.specs.inner.Overlay.{Flagged, fallen, items, left_of, Rises, IsOverlay}
use Rattle.dz_zone.specs.inner.Revising.{flags_of}

-- the element of a place and its flag
abbrev pub flag_at : {X : Type 0} → List X → List Bool → ℕ → X → Bool → Flagged X
flag_at xs flags i d b = record { item = get_or xs i d; stands = get_or flags i b }

pub items_flags : {X : Type 0} (xs : List X) (flags : List Bool) → length flags ≡ length xs
    → items (flags_of xs flags) ≡ xs
unfolding flags_of
items_flags [] flags h = refl
items_flags (x ∷ xs) [] h = absurd (omega (arith, h))
items_flags (x ∷ xs) (f ∷ flags) h = ap (λ l. x ∷ l) (items_flags xs flags (omega (arith, h)))

pub length_flags : {X : Type 0} (xs : List X) (flags : List Bool) → length flags ≡ length xs
    → length (flags_of xs flags) ≡ length xs
unfolding flags_of
length_flags [] flags h = refl
length_flags (x ∷ xs) [] h = absurd (omega (arith, h))
length_flags (x ∷ xs) (f ∷ flags) h = ap suc (length_flags xs flags (omega (arith, h)))

pub at_flags : {X : Type 0} (xs : List X) (flags : List Bool) (i : ℕ) (d : X) (b : Bool) (e : Flagged X)
    → length flags ≡ length xs → i < length xs → flag_at xs flags i d b ≡ get_or (flags_of xs flags) i e
unfolding flags_of
at_flags [] flags i d b e h l = absurd (omega arith)
at_flags (x ∷ xs) [] i d b e h l = absurd (omega (arith, h))
at_flags (x ∷ xs) (f ∷ flags) zero d b e h l = refl
at_flags (x ∷ xs) (f ∷ flags) (suc i) d b e h l = at_flags xs flags i d b e (omega (arith, h)) (omega arith)

pub set_flags : {X : Type 0} (xs : List X) (flags : List Bool) (i : ℕ) (d : X) (b : Bool) → length flags ≡ length xs
    → i < length xs → flags_of xs (set flags i false) ≡ set (flags_of xs flags) i (fallen (flag_at xs flags i d b))
unfolding flags_of
set_flags [] flags i d b h l = absurd (omega arith)
set_flags (x ∷ xs) [] i d b h l = absurd (omega (arith, h))
set_flags (x ∷ xs) (f ∷ flags) zero d b h l = refl
set_flags (x ∷ xs) (f ∷ flags) (suc i) d b h l =
    ap (λ t. record { item = x; stands = f } ∷ t) (set_flags xs flags i d b (omega (arith, h)) (omega arith))

pub left_filter : {X : Type 0} (p : X → Bool) (xs : List X) → left_of (flags_of xs (map p xs)) ≡ filter p xs
unfolding flags_of left_of
left_filter p [] = refl
left_filter p (x ∷ xs) =
    elim (cases_Bool (p x)) [
      | inl t ↦ rw t (ap (λ l. x ∷ l) (left_filter p xs))
      | inr f ↦ rw f (left_filter p xs)
    ]

pub rises_of : {X : Type 0} (R : X → X → Ordering) (xs : List X) → IsStrictlySortedBy R xs → Rises R xs
unfolding IsStrictlySortedBy
rises_of R [] h = tt
rises_of R (x ∷ xs) h = (h.0, rises_of R xs h.1)

-- before the first change
pub fresh_flags : {X : Type 0} (R : X → X → Ordering) (xs : List X) (flags : List Bool) (keys : List X)
    → IsStrictlySortedBy R xs → length flags ≡ length xs → keys ≡ [] → IsOverlay R (flags_of xs flags) keys
fresh_flags R xs flags keys h l n =
    rw n record { base = rw (items_flags xs flags l) (rises_of R xs h); added = tt; apart = tt }
