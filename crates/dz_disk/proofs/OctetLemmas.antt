-- What is written at a place between two parts of a list, and what is torn there.
use Rattle.std.proofs.Common.{◌≡◌, ℕ, ◌+◌, ◌<◌, List, [], ◌∷◌, ◌++◌, length, get_or, take, drop, Some, refl, sym, ap}
use Rattle.std.proofs.Common.{◌∙◌, arith, append_assoc, length-append, take-append-drop}
use Rattle.std.specs.Prelude.{slice_get}
use Rattle.std.proofs.lemmas.List.{take_at, drop_at, drop_more}
use Rattle.std.proofs.lemmas.Option.{slice_get_within, get_or_from_slice_get}
use Rattle.dz_disk.specs.Disk.{put, IsTorn}

-- the octet at a place
pub at_place : (xs : List ℕ) (y : ℕ) (ys : List ℕ) → slice_get (xs ++ y ∷ ys) (length xs) ≡ Some y
at_place [] y ys = refl
at_place (x ∷ xs) y ys = at_place xs y ys

pub same_front : (n : ℕ) (xs ys zs : List ℕ) → xs ≡ ys ++ zs → length ys ≡ n → take n xs ≡ ys
same_front n xs ys zs are long = ap (λ l. take n l) are ∙ take_at ys zs n long

pub same_rest : (n : ℕ) (xs ys zs : List ℕ) → xs ≡ ys ++ zs → length ys ≡ n → drop n xs ≡ zs
same_rest n xs ys zs are long = ap (λ l. drop n l) are ∙ drop_at ys zs n long

one_more : (xs : List ℕ) (y n : ℕ) → length xs ≡ n → length (xs ++ y ∷ []) ≡ n + 1
one_more xs y n long = omega (arith, long, length-append xs (y ∷ []))

apart : (xs : List ℕ) (y : ℕ) (ys : List ℕ) → xs ++ y ∷ ys ≡ (xs ++ y ∷ []) ++ ys
apart xs y ys = sym (append_assoc xs (y ∷ []) ys)

pub front_more : (n : ℕ) (file xs : List ℕ) (y : ℕ) (ys : List ℕ) → file ≡ xs ++ y ∷ ys → length xs ≡ n
    → take (n + 1) file ≡ xs ++ y ∷ []
front_more n file xs y ys are long =
    same_front (n + 1) file (xs ++ y ∷ []) ys (are ∙ apart xs y ys) (one_more xs y n long)

pub rest_more : (n : ℕ) (file xs : List ℕ) (y : ℕ) (ys : List ℕ) → file ≡ xs ++ y ∷ ys → length xs ≡ n
    → drop (n + 1) file ≡ ys
rest_more n file xs y ys are long =
    same_rest (n + 1) file (xs ++ y ∷ []) ys (are ∙ apart xs y ys) (one_more xs y n long)

pub longer : (file xs : List ℕ) (y : ℕ) (ys : List ℕ) → file ≡ xs ++ y ∷ ys → length xs < length file
longer file xs y ys are = omega (arith, ap length are, length-append xs (y ∷ ys))

-- a write of one octet that a crash tears leaves some octet there
pub torn_octet : (n : ℕ) (file c xs : List ℕ) (y : ℕ) (ys : List ℕ) → file ≡ xs ++ y ∷ ys → length xs ≡ n
    → IsTorn n 1 file c → (g : ℕ) × (c ≡ xs ++ g ∷ ys)
torn_octet n file c xs y ys are long torn =
    let there : n < length c = omega (arith, long, torn.least, longer file xs y ys are) in
    let front : take n c ≡ xs = torn.front ∙ same_front n file xs (y ∷ ys) are long in
    let rest : drop n c ≡ get_or c n 0 ∷ ys =
    drop_more c n 0 there ∙ ap (λ l. get_or c n 0 ∷ l) (torn.beyond ∙ rest_more n file xs y ys are long) in
    (get_or c n 0, sym (take-append-drop n c) ∙ ap (λ l. l ++ drop n c) front ∙ ap (λ l. xs ++ l) rest)

-- a write after an octet leaves that octet
pub torn_after : (n count : ℕ) (file c xs : List ℕ) (y : ℕ) (ys : List ℕ) → file ≡ xs ++ y ∷ ys → length xs ≡ n
    → IsTorn (n + 1) count file c → c ≡ xs ++ y ∷ drop (n + 1) c
torn_after n count file c xs y ys are long torn =
    let front : take (n + 1) c ≡ xs ++ y ∷ [] = torn.front ∙ front_more n file xs y ys are long in
    sym (take-append-drop (n + 1) c) ∙ ap (λ l. l ++ drop (n + 1) c) front ∙ append_assoc xs (y ∷ []) (drop (n + 1) c)

-- octets and one more, written after an octet
pub put_after : (n : ℕ) (file xs : List ℕ) (y : ℕ) (ys piece : List ℕ) (z : ℕ) → file ≡ xs ++ y ∷ ys → length xs ≡ n
    → (rest : List ℕ) × (put (n + 1) (piece ++ z ∷ []) file ≡ xs ++ y ∷ (piece ++ z ∷ rest))
put_after n file xs y ys piece z are long =
    let rest = drop ((n + 1) + length (piece ++ z ∷ [])) file in (
      rest,
      ap (λ l. l ++ ((piece ++ z ∷ []) ++ rest)) (front_more n file xs y ys are long)
          ∙ append_assoc xs (y ∷ []) ((piece ++ z ∷ []) ++ rest)
          ∙ ap (λ l. xs ++ y ∷ l) (append_assoc piece (z ∷ []) rest),
    )

-- one octet written over another
pub put_over : (n : ℕ) (file xs : List ℕ) (y : ℕ) (ys : List ℕ) (z : ℕ) → file ≡ xs ++ y ∷ ys → length xs ≡ n
    → put n (z ∷ []) file ≡ xs ++ z ∷ ys
put_over n file xs y ys z are long =
    ap (λ l. l ++ (z ∷ drop (n + 1) file)) (same_front n file xs (y ∷ ys) are long)
    ∙ ap (λ l. xs ++ z ∷ l) (rest_more n file xs y ys are long)

-- the octet at a place, and what is before it and after it
pub split_place : (file : List ℕ) (n y : ℕ) → slice_get file n ≡ Some y → file ≡ take n file ++ y ∷ drop (n + 1) file
split_place file n y here =
    sym (take-append-drop n file)
    ∙ ap (λ l. take n file ++ l) (drop_more file n 0 (slice_get_within file n y here)
    ∙ ap (λ x. x ∷ drop (n + 1) file) (get_or_from_slice_get file n y 0 here))
