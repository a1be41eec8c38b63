-- What is at an offset of some octets.
use Rattle.std.proofs.Common.{◌≡◌, ℕ, ◌+◌, ◌-◌, List, ◌∷◌, ◌++◌, length, take, drop, get_or, get_or-drop, sym, ◌∙◌, ap}
use Rattle.std.proofs.Common.{arith, length-append, length-drop}
use Rattle.std.specs.Prelude.{slice_index, slice_range}
use Rattle.std.proofs.lemmas.List.{take_at, drop_at, drop-drop}

-- how many octets a part and the rest have
pub length_there : (m : List ℕ) (at : ℕ) (part rest : List ℕ) → drop at m ≡ part ++ rest
    → length m - at ≡ length part + length rest
length_there m at part rest is = sym (length-drop at m) ∙ (ap length is ∙ length-append part rest)

-- what follows a part
pub drop_there : (m : List ℕ) (at n : ℕ) (part rest : List ℕ) → drop at m ≡ part ++ rest → length part ≡ n
    → drop (at + n) m ≡ rest
drop_there m at n part rest is count = sym (drop-drop n at m) ∙ (ap (drop n) is ∙ drop_at part rest n count)

-- the first octet
pub index_there : (m : List ℕ) (at first : ℕ) (rest : List ℕ) → drop at m ≡ first ∷ rest → slice_index m at ≡ first
index_there m at first rest is =
    let e : get_or (drop at m) 0 0 ≡ slice_index m (at + 0) = get_or-drop at m 0 0 in
    let z : at + 0 ≡ at = omega arith in
    sym (rw z at e) ∙ ap (λ xs. get_or xs 0 0) is

-- the octets of a part
pub range_there : (m : List ℕ) (at end : ℕ) (part rest : List ℕ) → drop at m ≡ part ++ rest → at + length part ≡ end
    → slice_range m at end ≡ part
range_there m at end part rest is ends =
    let n : length part ≡ end - at = omega arith in
    ap (take (end - at)) is ∙ take_at part rest (end - at) n
