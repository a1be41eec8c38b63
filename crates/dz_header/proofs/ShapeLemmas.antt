-- Owners by their shape, one label at a time.
use Rattle.std.proofs.Common.{◌≡◌, ℕ, ◌+◌, ◌-◌, ◌<◌, ◌≤◌, zero, suc, List, [], ◌∷◌, length, drop, get_or, refl, sym}
use Rattle.std.proofs.Common.{arith, Some, None, add-one}
use Rattle.std.specs.Prelude.{◌≢◌, ◌==◌, nat_le, nat_lt, true, false}
use Rattle.std.proofs.lemmas.Bool.Decides.{nat_tests}
use Rattle.dz_header.specs.Shape.{behind_owner, behind_records, shape_of, ◌>>=◌}

pub passed_over : (n : ℕ) (octets : List ℕ) → n ≤ length octets
    → behind_owner n octets ≡ behind_owner 0 (drop n octets)
unfolding behind_owner
passed_over zero octets h = refl
passed_over (suc n) [] h = absurd (omega arith)
passed_over (suc n) (octet ∷ rest) h = passed_over n rest (omega arith)

cut_label : (n : ℕ) (octets : List ℕ) → length octets ≤ n → behind_owner n octets ≡ None
unfolding behind_owner
cut_label n [] h = elim n as (λ n. behind_owner n [] ≡ None) [ zero ↦ refl | suc m ↦ refl ]
cut_label zero (octet ∷ rest) h = absurd (omega arith)
cut_label (suc n) (octet ∷ rest) h = cut_label n rest (omega arith)

pub owner_none : (octets : List ℕ) → length octets ≡ 0 → behind_owner 0 octets ≡ None
unfolding behind_owner
owner_none [] h = refl
owner_none (octet ∷ rest) h = absurd (omega arith)

pub owner_ends : (octets : List ℕ) → 0 < length octets → get_or octets 0 0 ≡ 0
    → behind_owner 0 octets ≡ Some (drop 1 octets)
unfolding behind_owner
owner_ends [] h e = absurd (omega arith)
owner_ends (octet ∷ rest) h e = let a : (octet == 0) ≡ true = grind (arith, nat_tests) in rw a refl

pub owner_label : (octets : List ℕ) → get_or octets 0 0 ≢ 0 → get_or octets 0 0 < 64
    → get_or octets 0 0 < length octets → behind_owner 0 (drop (get_or octets 0 0 + 1) octets) ≡ behind_owner 0 octets
unfolding behind_owner
owner_label [] ne lt h = absurd (omega arith)
owner_label (octet ∷ rest) ne lt h =
    let a : (octet == 0) ≡ false = grind (arith, nat_tests) in
    let b : nat_le octet 63 ≡ true = grind (arith, nat_tests) in
    rw (add-one, a, b) (sym (passed_over octet rest (omega arith)))

pub owner_cut : (octets : List ℕ) → 0 < length octets → get_or octets 0 0 ≢ 0 → get_or octets 0 0 < 64
    → length octets ≤ get_or octets 0 0 → behind_owner 0 octets ≡ None
unfolding behind_owner
owner_cut [] h ne lt le = absurd (omega arith)
owner_cut (octet ∷ rest) h ne lt le =
    let a : (octet == 0) ≡ false = grind (arith, nat_tests) in
    let b : nat_le octet 63 ≡ true = grind (arith, nat_tests) in
    rw (a, b) (cut_label octet rest (omega arith))

pub owner_bad : (octets : List ℕ) → 64 ≤ get_or octets 0 0 → get_or octets 0 0 < 192 → behind_owner 0 octets ≡ None
unfolding behind_owner
owner_bad [] le lt = refl
owner_bad (octet ∷ rest) le lt =
    let a : (octet == 0) ≡ false = grind (arith, nat_tests) in
    let b : nat_le octet 63 ≡ false = grind (arith, nat_tests) in
    let d : nat_lt octet 192 ≡ true = grind (arith, nat_tests) in
    rw (a, b, d) refl

pub owner_half : (octets : List ℕ) → 192 ≤ get_or octets 0 0 → length octets ≡ 1 → behind_owner 0 octets ≡ None
unfolding behind_owner
owner_half [] le one = absurd (omega arith)
owner_half (octet ∷ rest) le one =
    let a : (octet == 0) ≡ false = grind (arith, nat_tests) in
    let b : nat_le octet 63 ≡ false = grind (arith, nat_tests) in
    let d : nat_lt octet 192 ≡ false = grind (arith, nat_tests) in
    let e : (length rest == 0) ≡ true = grind (arith, nat_tests) in
    rw (a, b, d, e) refl

pub owner_points : (octets : List ℕ) → 192 ≤ get_or octets 0 0 → 1 < length octets
    → behind_owner 0 octets ≡ Some (drop 2 octets)
unfolding behind_owner
owner_points [] le h = absurd (omega arith)
owner_points (octet ∷ rest) le h =
    let a : (octet == 0) ≡ false = grind (arith, nat_tests) in
    let b : nat_le octet 63 ≡ false = grind (arith, nat_tests) in
    let d : nat_lt octet 192 ≡ false = grind (arith, nat_tests) in
    let e : (length rest == 0) ≡ false = grind (arith, nat_tests) in
    rw (a, b, d, e) refl

pub skipped_step : (count i : ℕ) (octets : List ℕ) → i < count
    → behind_records (count - i) octets ≡ (shape_of octets >>= λ first. behind_records (count - (i + 1)) first.2)
unfolding behind_records
skipped_step count i octets h = let e : count - i ≡ suc (count - (i + 1)) = omega arith in rw e refl

pub skipped_done : (count i : ℕ) (octets : List ℕ) → count ≤ i → behind_records (count - i) octets ≡ Some octets
unfolding behind_records
skipped_done count i octets h = let e : count - i ≡ 0 = omega arith in rw e refl
