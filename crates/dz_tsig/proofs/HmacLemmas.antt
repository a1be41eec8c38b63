-- Combined bits, and codes that are compared octet by octet.
use Rattle.std.proofs.Common.{◌≡◌, ℕ, ◌+◌, ◌%◌, ◌<◌, List, length, get_or, below_more, ◌≤◌, refl, sym, ◌∙◌, ap, arith}
use Rattle.std.proofs.Common.{bit_or, bit_xor, [], ◌++◌, ◌-◌, take, drop, map, length-append}
use Rattle.std.specs.Prelude.{replicate}
use Rattle.std.proofs.lemmas.List.{take_all, drop_all, append-nil, drop-replicate, length-replicate, length-map}
use Rattle.std.proofs.lemmas.List.{take-append-drop}
use Rattle.dz_tsig.specs.Hmac.{padded}
use Rattle.std.specs.Int.{bit_at}
use Rattle.std.proofs.lemmas.Nat.{le_or_l, le_or_r}
use Rattle.std.proofs.lemmas.Nat.Bits.{bit_at-lt, bit_at_xor, bit_at-zero, same_from_bits}
use Rattle.std.proofs.lemmas.List.{same_lists, get_or_default}

pub xor_none : (a b : ℕ) → bit_xor a b ≡ 0 → a ≡ b
xor_none a b e = same_from_bits a b (λ i.
    let s : (bit_at a i + bit_at b i) % 2 ≡ 0 = sym (bit_at_xor a b i) ∙ ap (λ n. bit_at n i) e ∙ bit_at-zero i in
    omega (arith, s, bit_at-lt a i, bit_at-lt b i))

pub xor_same : (a : ℕ) → bit_xor a a ≡ 0
xor_same a = same_from_bits (bit_xor a a) 0 (λ i.
    let s : (bit_at a i + bit_at a i) % 2 ≡ 0 = omega (arith, bit_at-lt a i) in
    bit_at_xor a a i ∙ s ∙ sym (bit_at-zero i))

pub xor_zero : (a : ℕ) → bit_xor 0 a ≡ a
xor_zero a = same_from_bits (bit_xor 0 a) a (λ i.
    let s : (bit_at 0 i + bit_at a i) % 2 ≡ bit_at a i = omega (arith, bit_at-lt a i, bit_at-zero i) in
    bit_at_xor 0 a i ∙ s)

pub or_none : (a b : ℕ) → bit_or a b ≡ 0 → (a ≡ 0) × (b ≡ 0)
or_none a b e = (omega (arith, e, le_or_l a b), omega (arith, e, le_or_r a b))

-- ---- octets and a code, compared so far
pub same_so_far : (xs ys : List ℕ) (d at : ℕ) → (d ≡ 0 → (k : ℕ) → k < at → get_or xs k 0 ≡ get_or ys k 0)
    → bit_or d (bit_xor (get_or xs at 0) (get_or ys at 0)) ≡ 0 → (k : ℕ) → k < at + 1 → get_or xs k 0 ≡ get_or ys k 0
same_so_far xs ys d at h e =
    let parts = or_none d (bit_xor (get_or xs at 0) (get_or ys at 0)) e in
    below_more _ _ (h parts.0) (xor_none (get_or xs at 0) (get_or ys at 0) parts.1)

pub still_none : (xs ys : List ℕ) (d at : ℕ) → (xs ≡ ys → d ≡ 0) → xs ≡ ys
    → bit_or d (bit_xor (get_or xs at 0) (get_or ys at 0)) ≡ 0
still_none xs ys d at h e =
    let x : bit_xor (get_or xs at 0) (get_or ys at 0) ≡ 0 =
    ap (λ zs. bit_xor (get_or zs at 0) (get_or ys at 0)) e ∙ xor_same (get_or ys at 0) in
    rw (h e, x) refl

pub same_octets : (xs ys : List ℕ) (at : ℕ) → length xs ≡ 32 → length ys ≡ 32
    → 32 ≤ at → ((k : ℕ) → k < at → get_or xs k 0 ≡ get_or ys k 0) → xs ≡ ys
same_octets xs ys at m n le h = same_lists xs ys (m ∙ sym n) (λ k d lt.
    sym (get_or_default xs k 0 d lt) ∙ h k (omega (arith, lt, m, le))
    ∙ get_or_default ys k 0 d (omega (arith, lt, m, n)))

pub length_mapped : (f : ℕ → ℕ) (i : ℕ) (xs : List ℕ) → length (map f (take i xs) ++ drop i xs) ≡ length xs
length_mapped f i xs = length-append (map f (take i xs)) (drop i xs)
    ∙ omega (arith, length-map (take i xs) f, length-append (take i xs) (drop i xs), ap length (take-append-drop i xs))

abbrev the_zero : ℕ
the_zero = 0

long_zeros : (n : ℕ) → length (replicate n (the_zero)) ≡ n
long_zeros n = length-replicate n the_zero

-- ---- a key, filled with zero octets
pub padded_is : (key : List ℕ) (mask : ℕ) (block items : List ℕ) (i : ℕ)
    → block ≡ key ++ drop (length key) (replicate 64 0) → 64 ≤ i
    → items ≡ map (λ octet. bit_xor octet mask) (take i block) ++ drop i block → length key ≤ 64
    → items ≡ padded mask key
unfolding padded
padded_is key mask block items i is past made short =
    let rest : drop (length key) (replicate 64 the_zero) ≡ replicate (64 - length key) the_zero =
    drop-replicate (length key) 64 the_zero in
    let size : length block ≡ 64 =
    ap length (is ∙ ap (λ xs. key ++ xs) rest) ∙ length-append key (replicate (64 - length key) the_zero)
    ∙ omega (arith, long_zeros (64 - length key), short) in
    let all : take i block ≡ block = take_all i block (omega (arith, size, past)) in
    let none : drop i block ≡ [] = drop_all i block (omega (arith, size, past)) in
    made ∙ (rw (all, none) (append-nil (map (λ octet. bit_xor octet mask) block)))
    ∙ ap (map (λ octet. bit_xor octet mask)) (is ∙ ap (λ xs. key ++ xs) rest)
