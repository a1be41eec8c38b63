-- The order of sort keys_of as octets is the canonical order of names.
use Rattle.std.proofs.Common.{◌≡◌, ℕ, zero, suc, ◌+◌, ◌<◌, ◌≤◌, List, [], ◌∷◌, length, refl, sym, ◌∙◌, ap, arith}
use Rattle.std.specs.Prelude.{reverse}
use Rattle.std.specs.Ordering.{nat_cmp, ordering_then}
use Rattle.std.specs.Cmp.Lexicographic.{slice_cmp}
use Rattle.std.specs.Cmp.{tied_itself}
use Rattle.std.specs.Cmp.Lexicographic.{nat_list_cmp_total}
use Rattle.std.specs.declared.cmp.Ordering.{Ordering}
use Rattle.std.specs.declared.cmp.Ordering.TheVariants.{Less, Equal, Greater}
use Rattle.std.proofs.lemmas.Bool.Decides.{nat_tests}
use Rattle.dz_name.specs.Name.{canonical_order}
use Rattle.dz_name.specs.Order.{canonical_same}
use Rattle.std.proofs.Common.{get_or, drop, ◌-◌}
use Rattle.std.proofs.Common.{take}
use Rattle.std.proofs.lemmas.List.{drop_all, drop_more, take_all, take_more, reverse-append}
use Rattle.dz_name.specs.Name.{wire_of}
use Rattle.dz_name.specs.inner.Starts.{offset_of}
use Rattle.dz_name.proofs.OrderLemmas.{label_is, label_within, offset_step}
use Rattle.dz_index.specs.SortKey.{octet_before, label_before, keys_of, key_of}

pub then_then : (a b c : Ordering) → ordering_then (ordering_then a b) c ≡ ordering_then a (ordering_then b c)
then_then Less b c = refl
then_then Equal b c = refl
then_then Greater b c = refl

abbrev octets_cmp : List ℕ → List ℕ → Ordering
octets_cmp a b = slice_cmp nat_cmp a b

nat_less : (a b : ℕ) → a < b → nat_cmp a b ≡ Less
nat_less a b h = grind (arith, nat_tests)

nat_more : (a b : ℕ) → b < a → nat_cmp a b ≡ Greater
nat_more a b h = grind (arith, nat_tests)

-- one label in front of others on either side
pub ended_order : (a b r s : List ℕ)
    → octets_cmp (label_before a r) (label_before b s) ≡ ordering_then (octets_cmp a b) (octets_cmp r s)
unfolding label_before octet_before
ended_order [] [] r s = refl
ended_order [] (zero ∷ ys) r s = refl
ended_order [] (suc zero ∷ ys) r s = refl
ended_order [] (suc (suc y) ∷ ys) r s = rw (nat_less 0 (suc (suc y)) (omega arith)) refl
ended_order (zero ∷ xs) [] r s = refl
ended_order (suc zero ∷ xs) [] r s = refl
ended_order (suc (suc x) ∷ xs) [] r s = rw (nat_more (suc (suc x)) 0 (omega arith)) refl
ended_order (zero ∷ xs) (zero ∷ ys) r s = ended_order xs ys r s
ended_order (zero ∷ xs) (suc zero ∷ ys) r s = refl
ended_order (zero ∷ xs) (suc (suc y) ∷ ys) r s =
    rw (nat_less 1 (suc (suc y)) (omega arith), nat_less 0 (suc (suc y)) (omega arith)) refl
ended_order (suc zero ∷ xs) (zero ∷ ys) r s = refl
ended_order (suc zero ∷ xs) (suc zero ∷ ys) r s = ended_order xs ys r s
ended_order (suc zero ∷ xs) (suc (suc y) ∷ ys) r s = rw (nat_less 1 (suc (suc y)) (omega arith)) refl
ended_order (suc (suc x) ∷ xs) (zero ∷ ys) r s =
    rw (nat_more (suc (suc x)) 1 (omega arith), nat_more (suc (suc x)) 0 (omega arith)) refl
ended_order (suc (suc x) ∷ xs) (suc zero ∷ ys) r s = rw (nat_more (suc (suc x)) 1 (omega arith)) refl
ended_order (suc (suc x) ∷ xs) (suc (suc y) ∷ ys) r s =
    ap (ordering_then (nat_cmp (suc (suc x)) (suc (suc y)))) (ended_order xs ys r s)
    ∙ sym (then_then (nat_cmp (suc (suc x)) (suc (suc y))) (octets_cmp xs ys) (octets_cmp r s))

pub keys_order : (ls ms : List (List ℕ)) → octets_cmp (keys_of ls) (keys_of ms) ≡ slice_cmp (slice_cmp nat_cmp) ls ms
unfolding keys_of label_before octet_before
keys_order [] [] = refl
keys_order [] ([] ∷ ms) = refl
keys_order [] ((zero ∷ m) ∷ ms) = refl
keys_order [] ((suc zero ∷ m) ∷ ms) = refl
keys_order [] ((suc (suc y) ∷ m) ∷ ms) = refl
keys_order ([] ∷ ls) [] = refl
keys_order ((zero ∷ l) ∷ ls) [] = refl
keys_order ((suc zero ∷ l) ∷ ls) [] = refl
keys_order ((suc (suc x) ∷ l) ∷ ls) [] = refl
keys_order (l ∷ ls) (m ∷ ms) =
    ended_order l m (keys_of ls) (keys_of ms) ∙ ap (ordering_then (octets_cmp l m)) (keys_order ls ms)

-- the order of keys_of as octets is the canonical order
pub key_order : (a b : List (List ℕ)) → slice_cmp nat_cmp (key_of a) (key_of b) ≡ canonical_order a b
key_order a b = keys_order (reverse a) (reverse b)

-- equal keys_of are of one name
pub key_same : (a b : List (List ℕ)) → key_of a ≡ key_of b → a ≡ b
key_same a b e = canonical_same a b (sym (key_order a b)
    ∙ (ap (λ k. slice_cmp nat_cmp (key_of a) k) (sym e) ∙ tied_itself nat_list_cmp_total (key_of a)))

-- a key has at most two octets for each octet of the wire form
pub ended_length : (a r : List ℕ) → length (label_before a r) ≤ length a + length a + 1 + length r
unfolding label_before octet_before
ended_length [] r = omega arith
ended_length (zero ∷ xs) r = omega (arith, ended_length xs r)
ended_length (suc zero ∷ xs) r = omega (arith, ended_length xs r)
ended_length (suc (suc x) ∷ xs) r = omega (arith, ended_length xs r)

-- an octet that is written as two, and one that is written as it is
pub octet_low : (c : ℕ) (rest : List ℕ) → c < 2 → octet_before c rest ≡ 1 ∷ (c + 1) ∷ rest
unfolding octet_before
octet_low zero rest h = refl
octet_low (suc zero) rest h = refl
octet_low (suc (suc c)) rest h = absurd (omega arith)

pub octet_high : (c : ℕ) (rest : List ℕ) → 2 ≤ c → octet_before c rest ≡ c ∷ rest
unfolding octet_before
octet_high zero rest h = absurd (omega arith)
octet_high (suc zero) rest h = absurd (omega arith)
octet_high (suc (suc c)) rest h = refl

-- the last octet of a part of a label
pub ended_step : (label : List ℕ) (k : ℕ) (rest : List ℕ) → k < length label
    → octet_before (get_or label k 0) (label_before (drop (k + 1) label) rest) ≡ label_before (drop k label) rest
unfolding label_before
ended_step label k rest h = rw (drop_more label k 0 h) refl

pub ended_nothing : (label rest : List ℕ) → 0 ∷ rest ≡ label_before (drop (length label) label) rest
unfolding label_before
ended_nothing label rest = rw (drop_all (length label) label (omega arith)) refl

-- the same with a number for the octets that are left
pub ended_next : (label key rest new : List ℕ) (left : ℕ) → 0 < left → left ≤ length label
    → key ≡ label_before (drop left label) rest
    → new ≡ octet_before (get_or label (left - 1) 0) key → new ≡ label_before (drop (left - 1) label) rest
ended_next label key rest new zero some within is next = absurd (omega arith)
ended_next label key rest new (suc k) some within is next =
    let e : suc k ≡ k + 1 = omega arith in
    let f : suc k - 1 ≡ k = omega arith in
    rw f (rw f at next ∙ (ap (octet_before (get_or label k 0)) (rw e at is) ∙ ended_step label k rest (omega arith)))

-- the first labels and one more
pub key_step : (name : List (List ℕ)) (count : ℕ) → count < length name → keys_of (reverse (take (count + 1) name))
    ≡ label_before (get_or name count []) (keys_of (reverse (take count name)))
unfolding keys_of
key_step name count h =
    rw (take_more name count [] h, reverse-append (take count name) (get_or name count [] ∷ [])) refl

pub key_next : (name : List (List ℕ)) (wire key new part : List ℕ) (place count : ℕ) → wire ≡ wire_of name
    → place ≡ offset_of name count → count < length name
    → key ≡ keys_of (reverse (take count name))
    → part ≡ take (place + 1 + get_or wire place 0 - (place + 1)) (drop (place + 1) wire) → new ≡ label_before part key
    → new ≡ keys_of (reverse (take (count + 1) name))
key_next name wire key new part place count w at more is p next =
    let n : place + 1 + get_or wire place 0 - (place + 1) ≡ get_or wire place 0 = omega arith in
    let l : part ≡ get_or name count [] = rw n at p ∙ rw w (label_is name count place more at) in
    next ∙ (rw (l, is) (sym (key_step name count more)))

pub key_whole : (name : List (List ℕ)) (key : List ℕ) (count : ℕ) → count ≡ length name
    → key ≡ keys_of (reverse (take count name)) → key ≡ key_of name
key_whole name key count e is =
    let w : take count name ≡ name = take_all count name (omega arith) in
    rw w at is

pub key_none : (name : List (List ℕ)) → [] ≡ keys_of (reverse (take 0 name))
unfolding keys_of
key_none name = refl

-- the label that begins at a place lies within
pub label_room : (name : List (List ℕ)) (wire : List ℕ) (place count : ℕ) → wire ≡ wire_of name
    → place ≡ offset_of name count → count ≤ length name
    → place + get_or wire place 0 < length wire
label_room name wire place count w at le = rw (w, at) (label_within name count le)

pub next_place : (name : List (List ℕ)) (wire : List ℕ) (place count : ℕ) → wire ≡ wire_of name
    → place ≡ offset_of name count → count < length name
    → place + 1 + get_or wire place 0 ≡ offset_of name (count + 1)
next_place name wire place count w at more =
    let e : place + (get_or wire place 0 + 1) ≡ offset_of name (count + 1) =
    rw (w, at) (offset_step name count more) in
    omega arith

take_short : (n : ℕ) (xs : List ℕ) → length (take n xs) ≤ n
take_short zero xs = omega arith
take_short (suc n) [] = omega arith
take_short (suc n) (x ∷ xs) = omega (arith, take_short n xs)

pub room_next : (key new rest : List ℕ) (place w : ℕ) → length key ≤ place + place
    → new ≡ label_before (take (place + 1 + w - (place + 1)) rest) key
    → length new ≤ place + 1 + w + (place + 1 + w)
room_next key new rest place w room is =
    let n : place + 1 + w - (place + 1) ≡ w = omega arith in
    omega (
      arith,
      ap length is,
      ended_length (take (place + 1 + w - (place + 1)) rest) key,
      take_short (place + 1 + w - (place + 1)) rest,
    )

-- an octet of a label that is written in front of others as two, and as one
pub octet_two : (end c : ℕ) (old new newer : List ℕ) → 2 ≤ end → c < 2
    → drop (end - 1) new ≡ (c + 1) ∷ drop (end - 1 + 1) old → drop (end - 2) newer ≡ 1 ∷ drop (end - 2 + 1) new
    → drop (end - 2) newer ≡ octet_before c (drop end old)
octet_two end c old new newer some low first second =
    let e : end - 1 + 1 ≡ end = omega arith in
    let f : end - 2 + 1 ≡ end - 1 = omega arith in
    rw f at second ∙ (ap (λ (k : List ℕ). 1 ∷ k) (rw e at first) ∙ sym (octet_low c (drop end old) low))

pub octet_one : (end c : ℕ) (old new : List ℕ) → 2 ≤ end → 2 ≤ c → drop (end - 1) new ≡ c ∷ drop (end - 1 + 1) old
    → drop (end - 1) new ≡ octet_before c (drop end old)
octet_one end c old new some high is =
    let e : end - 1 + 1 ≡ end = omega arith in
    rw e at is ∙ sym (octet_high c (drop end old) high)

-- the end of a label in front of others
pub label_end : (end : ℕ) (old new label : List ℕ) → 1 ≤ end → drop (end - 1) new ≡ 0 ∷ drop (end - 1 + 1) old
    → drop (end - 1) new ≡ label_before (drop (length label) label) (drop end old)
label_end end old new label some is =
    let e : end - 1 + 1 ≡ end = omega arith in
    rw e at is ∙ ended_nothing label (drop end old)
