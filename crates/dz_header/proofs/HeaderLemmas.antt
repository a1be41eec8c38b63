-- The octets of a header, written and read.
use Rattle.std.proofs.Common.{◌≡◌, ℕ, ◌<◌, ◌≤◌, ◌^◌, List, [], ◌∷◌, ◌++◌, length, drop, get_or, refl, ◌∙◌, ap, arith}
use Rattle.std.proofs.Common.{append_assoc}
use Rattle.dz_name.specs.Numbers.{two, number_of_two}
use Rattle.dz_name.proofs.NumberLemmas.{length_two, number-two}
use Rattle.dz_header.specs.Header.{header_in, header_octets}
use Rattle.dz_header.specs.declared.header.Header.{Header}
use Rattle.dz_header.proofs.PlaceLemmas.{length_there, drop_there}

pub four_items : (xs : List ℕ) → length xs ≡ 4
    → xs ≡ get_or xs 0 0 ∷ get_or xs 1 0 ∷ get_or xs 2 0 ∷ get_or xs 3 0 ∷ []
four_items [] h = absurd (omega arith)
four_items (a ∷ []) h = absurd (omega arith)
four_items (a ∷ b ∷ []) h = absurd (omega arith)
four_items (a ∷ b ∷ c ∷ []) h = absurd (omega arith)
four_items (a ∷ b ∷ c ∷ d ∷ []) h = refl
four_items (a ∷ b ∷ c ∷ d ∷ e ∷ rest) h = absurd (omega arith)

-- a number of two octets
pub two_there : (m : List ℕ) (at n : ℕ) (rest : List ℕ) → n < 2 ^ 16 → drop at m ≡ two n ++ rest
    → number_of_two (drop at m) ≡ n
two_there m at n rest small is = ap number_of_two is ∙ number-two n rest small

-- the header that is written is the header that is read
pub record IsHeaderThere (m : List ℕ) (header : Header) (rest : List ℕ) : Type 0 where
  pub header_is : header_in m ≡ header
  pub long : 12 ≤ length m
  pub behind : drop 12 m ≡ rest

pub header_there : (m : List ℕ) (id flags a b c d : ℕ) (rest : List ℕ) → id < 2 ^ 16 → flags < 2 ^ 16 → a < 2 ^ 16
    → b < 2 ^ 16 → c < 2 ^ 16 → d < 2 ^ 16
    → m ≡ header_octets (record { id = id; flags = flags; counts = a ∷ b ∷ c ∷ d ∷ [] }) ++ rest
    → IsHeaderThere m (record { id = id; flags = flags; counts = a ∷ b ∷ c ∷ d ∷ [] }) rest
unfolding header_octets header_in
header_there m id flags a b c d rest id_small flags_small a_small b_small c_small d_small is =
    let d0 : drop 0 m ≡ two id ++ (two flags ++ (two a ++ (two b ++ (two c ++ (two d ++ rest))))) =
    is ∙ append_assoc (two id) (two flags ++ (two a ++ (two b ++ (two c ++ (two d ++ []))))) rest
    ∙ ap (λ xs. two id ++ xs) (append_assoc (two flags) (two a ++ (two b ++ (two c ++ (two d ++ [])))) rest
    ∙ ap (λ xs. two flags ++ xs) (append_assoc (two a) (two b ++ (two c ++ (two d ++ []))) rest
    ∙ ap (λ xs. two a ++ xs) (append_assoc (two b) (two c ++ (two d ++ [])) rest
    ∙ ap (λ xs. two b ++ xs) (append_assoc (two c) (two d ++ []) rest
    ∙ ap (λ xs. two c ++ xs) (append_assoc (two d) [] rest))))) in
    let d2 : drop 2 m ≡ two flags ++ (two a ++ (two b ++ (two c ++ (two d ++ rest)))) =
    drop_there m 0 2 (two id) _ d0 (length_two id) in
    let d4 : drop 4 m ≡ two a ++ (two b ++ (two c ++ (two d ++ rest))) =
    drop_there m 2 2 (two flags) _ d2 (length_two flags) in
    let d6 : drop 6 m ≡ two b ++ (two c ++ (two d ++ rest)) = drop_there m 4 2 (two a) _ d4 (length_two a) in
    let d8 : drop 8 m ≡ two c ++ (two d ++ rest) = drop_there m 6 2 (two b) _ d6 (length_two b) in
    let d10 : drop 10 m ≡ two d ++ rest = drop_there m 8 2 (two c) _ d8 (length_two c) in
    let d12 : drop 12 m ≡ rest = drop_there m 10 2 (two d) _ d10 (length_two d) in
    let n0 = two_there m 0 id _ id_small d0 in
    let n2 = two_there m 2 flags _ flags_small d2 in
    let n4 = two_there m 4 a _ a_small d4 in
    let n6 = two_there m 6 b _ b_small d6 in
    let n8 = two_there m 8 c _ c_small d8 in
    let n10 = two_there m 10 d _ d_small d10 in
    record {
      header_is = rw (n0, n2, n4, n6, n8, n10) refl;
      long = omega (arith, length_there m 10 (two d) rest d10, length_two d);
      behind = d12;
    }
