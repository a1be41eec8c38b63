-- Octets are below 256.
use Rattle.std.proofs.Common.{◌≡◌, ℕ, zero, suc, ◌<◌, true, List, [], ◌∷◌, ◌++◌, take, drop, get_or, arith}
use Rattle.std.specs.Prelude.{nat_lt, flat_map}
use Rattle.std.specs.Int.{byte_at, bytes_high_first}
use Rattle.std.specs.List.{AllByRecursion, list_all}
use Rattle.std.proofs.lemmas.Bool.{ltb-true, and_parts}
use Rattle.sha2.specs.Sha512.{sha384, digest_bytes}
use Rattle.dz_name.specs.Numbers.{two, four}

abbrev pub AreBytes : List ℕ → Type 0
AreBytes octets = AllByRecursion (λ c. c < 256) octets

pub bytes-append : (xs ys : List ℕ) → AreBytes xs → AreBytes ys → AreBytes (xs ++ ys)
bytes-append [] ys p q = q
bytes-append (x ∷ xs) ys p q = (p.0, bytes-append xs ys p.1 q)

pub bytes-flat_map : {X : Type 0} (f : X → List ℕ) (P : X → Type 0) → ((x : X) → P x → AreBytes (f x)) → (xs : List X)
    → AllByRecursion P xs → AreBytes (flat_map f xs)
bytes-flat_map f P each [] all = tt
bytes-flat_map f P each (x ∷ xs) all =
    bytes-append (f x) (flat_map f xs) (each x all.0) (bytes-flat_map f P each xs all.1)

pub bytes-take : (n : ℕ) (xs : List ℕ) → AreBytes xs → AreBytes (take n xs)
bytes-take zero xs p = tt
bytes-take (suc n) [] p = tt
bytes-take (suc n) (x ∷ xs) p = (p.0, bytes-take n xs p.1)

pub bytes-drop : (n : ℕ) (xs : List ℕ) → AreBytes xs → AreBytes (drop n xs)
bytes-drop zero xs p = p
bytes-drop (suc n) [] p = tt
bytes-drop (suc n) (x ∷ xs) p = bytes-drop n xs p.1

-- a text passes a test that computes
pub bytes_tested : (xs : List ℕ) → list_all (λ c. nat_lt c 256) xs ≡ true → AreBytes xs
bytes_tested [] t = tt
bytes_tested (x ∷ xs) t =
    let parts = and_parts (nat_lt x 256) (list_all (λ c. nat_lt c 256) xs) t in
    (ltb-true x 256 parts.0, bytes_tested xs parts.1)

-- ---- numbers
below_256 : (k n : ℕ) → byte_at k n < 256
below_256 zero n = omega arith
below_256 (suc k) n = omega arith

high_first : (k n : ℕ) → AreBytes (bytes_high_first k n)
high_first zero n = tt
high_first (suc k) n = (below_256 k n, high_first k n)

pub bytes_two : (n : ℕ) → AreBytes (two n)
unfolding two
bytes_two n = high_first 2 n

pub bytes_four : (n : ℕ) → AreBytes (four n)
unfolding four
bytes_four n = high_first 4 n

-- ---- digests
digest : (h : List ℕ) (n : ℕ) → AreBytes (digest_bytes h n)
unfolding digest_bytes
digest h zero = tt
digest h (suc n) = bytes-append (digest_bytes h n) _ (digest h n) (high_first 8 (get_or h n 0))

pub bytes_sha384 : (m : List ℕ) → AreBytes (sha384 m)
unfolding sha384
bytes_sha384 m = bytes-take 48 _ (digest _ 8)

-- the octet at each place
pub byte_there : (xs : List ℕ) → AreBytes xs → (i : ℕ) → get_or xs i 0 < 256
byte_there [] p i = omega arith
byte_there (x ∷ xs) p zero = p.0
byte_there (x ∷ xs) p (suc i) = byte_there xs p.1 i
