-- The key of an owner: that of the name above it, and its first label after it.
use Rattle.std.proofs.Common.{◌≡◌, ◌≢◌, ℕ, ◌-◌, zero, suc, ◌+◌, ◌<◌, ◌≤◌, List, [], ◌∷◌, ◌++◌, length, take, drop}
use Rattle.std.proofs.Common.{get_or, refl, sym, ◌∙◌, ap, arith, length-append}
use Rattle.std.specs.Prelude.{reverse}
use Rattle.std.proofs.lemmas.List.{drop_all, reverse-append, append_assoc}
use Rattle.dz_name.specs.Name.{wire_of, IsName}
use Rattle.dz_name.proofs.OrderLemmas.{label_is, more_at}
use Rattle.dz_index.specs.SortKey.{octet_before, label_before, keys_of, key_of}
use Rattle.dz_index.proofs.KeyLemmas.{octet_low, octet_high, ended_step, ended_length}

-- an octet and a label in front of others, which stay as they are
octet_over : (c : ℕ) (r s : List ℕ) → octet_before c (r ++ s) ≡ octet_before c r ++ s
unfolding octet_before
octet_over zero r s = refl
octet_over (suc zero) r s = refl
octet_over (suc (suc c)) r s = refl

label_over : (l r s : List ℕ) → label_before l (r ++ s) ≡ label_before l r ++ s
unfolding label_before
label_over [] r s = refl
label_over (c ∷ l) r s = ap (octet_before c) (label_over l r s) ∙ octet_over c (label_before l r) s

keys_behind : (names : List (List ℕ)) (l : List ℕ) → keys_of (names ++ l ∷ []) ≡ keys_of names ++ label_before l []
unfolding keys_of
keys_behind [] l = refl
keys_behind (n ∷ names) l =
    ap (label_before n) (keys_behind names l) ∙ label_over n (keys_of names) (label_before l [])

-- the key of a name is that of the name above, and its first label after it
pub key_below : (l : List ℕ) (above : List (List ℕ)) → key_of (l ∷ above) ≡ key_of above ++ label_before l []
key_below l above = ap keys_of (reverse-append (l ∷ []) above) ∙ keys_behind (reverse above) l

pub key_root : (name : List (List ℕ)) → name ≡ [] → [] ≡ key_of name
unfolding keys_of
key_root name is = rw is refl

-- a key has at most two octets for each octet of the wire form but the last
pub key_short : (name : List (List ℕ)) → length (key_of name) + 2 ≤ length (wire_of name) + length (wire_of name)
unfolding keys_of wire_of
key_short [] = omega arith
key_short (l ∷ above) =
    omega (
      arith,
      key_short above,
      ap length (key_below l above),
      length-append (key_of above) (label_before l []),
      ended_length l [],
      length-append l (wire_of above),
    )

-- an octet of a label after others, written as two and as one
pub behind_two : (front a b : List ℕ) (c : ℕ) → c < 2 → a ≡ front ++ 1 ∷ [] → b ≡ a ++ (c + 1) ∷ []
    → b ≡ front ++ octet_before c []
behind_two front a b c low first second =
    rw (octet_low c [] low, second, first) (append_assoc front (1 ∷ []) ((c + 1) ∷ []))

pub behind_one : (front b : List ℕ) (c : ℕ) → 2 ≤ c → b ≡ front ++ c ∷ [] → b ≡ front ++ octet_before c []
behind_one front b c high is = rw (octet_high c [] high) is

-- one octet more of a label, and its end
pub behind_step : (label front old new : List ℕ) (c at : ℕ) → at < length label → c ≡ get_or label at 0
    → new ≡ old ++ octet_before c [] → old ++ label_before (drop at label) [] ≡ front
    → new ++ label_before (drop (at + 1) label) [] ≡ front
behind_step label front old new c at within is next key =
    let rest = label_before (drop (at + 1) label) [] in
    let step : octet_before c [] ++ rest ≡ label_before (drop at label) [] =
    sym (octet_over c [] rest) ∙ rw is (ended_step label at [] within) in
    ap (λ k. k ++ rest) next ∙ (append_assoc old (octet_before c []) rest ∙ (ap (λ k. old ++ k) step ∙ key))

pub behind_end : (label front old new : List ℕ) (at : ℕ) → length label ≤ at → new ≡ old ++ 0 ∷ []
    → old ++ label_before (drop at label) [] ≡ front → new ≡ front
unfolding label_before
behind_end label front old new at done is key = is ∙ rw (drop_all at label done) at key

-- a wire form that doesn't begin with 0 is that of a label and a name above it
pub some_label : (name : List (List ℕ)) (wire : List ℕ) → IsName name → wire ≡ wire_of name → get_or wire 0 0 ≢ 0
    → 1 ≤ length name
some_label name wire is w more = more_at name 0 0 wire is w (omega arith) (omega arith) more

first_is : (l : List ℕ) (above : List (List ℕ)) (wire part : List ℕ) → wire ≡ wire_of (l ∷ above)
    → part ≡ take (get_or wire 0 0 + 1 - 1) (drop 1 wire) → part ≡ l
first_is l above wire part w is =
    let n : get_or wire 0 0 + 1 - 1 ≡ get_or wire 0 0 = omega arith in
    rw n at is ∙ rw w (label_is (l ∷ above) 0 0 (omega arith) (omega arith))

pub label_fits : (name : List (List ℕ)) (wire part old : List ℕ) → IsName name → 1 ≤ length name → wire ≡ wire_of name
    → part ≡ take (get_or wire 0 0 + 1 - 1) (drop 1 wire)
    → old ≡ key_of (drop 1 name) → length old + (length part + length part + 1) ≤ 512
unfolding wire_of
label_fits [] wire part old is some w p o = absurd (omega arith)
label_fits (l ∷ above) wire part old is some w p o =
    omega (
      arith,
      is.short,
      key_short above,
      ap length o,
      ap length (first_is l above wire part w p),
      length-append l (wire_of above),
    )

pub owner_key : (name : List (List ℕ)) (wire part old new : List ℕ) → 1 ≤ length name → wire ≡ wire_of name
    → part ≡ take (get_or wire 0 0 + 1 - 1) (drop 1 wire)
    → old ≡ key_of (drop 1 name) → new ≡ old ++ label_before part [] → new ≡ key_of name
owner_key [] wire part old new some w p o n = absurd (omega arith)
owner_key (l ∷ above) wire part old new some w p o n =
    n ∙ (rw (o, first_is l above wire part w p) (sym (key_below l above)))
