-- The names of texts are short, and made of octets.
use Rattle.std.proofs.Common.{◌≡◌, ℕ, ◌+◌, ◌-◌, ◌*◌, ◌<◌, ◌≤◌, Bool, true, false, List, [], ◌∷◌, ◌++◌, length, drop}
use Rattle.std.proofs.Common.{refl, inl, inr, arith, length-append, Result, Ok, Err}
use Rattle.std.specs.Prelude.{◌==◌, nat_lt, nat_eq, codes, decimal, if◌then◌else◌}
use Rattle.std.specs.Char.{is_ascii_digit, to_ascii_lowercase}
use Rattle.std.specs.Cmp.Lexicographic.{pointwise}
use Rattle.std.specs.List.{AllByRecursion}
use Rattle.std.proofs.lemmas.Bool.{cases_Bool, ltb-true, ltb-false}
use Rattle.std.proofs.lemmas.Bool.Decides.{nat_tests}
use Rattle.dz_name.specs.Name.{lower, wire_of}
use Rattle.dz_name.specs.Text.{Item, octet, dot, bad_escape, Place, outside, behind_backslash, behind_one, behind_two}
use Rattle.dz_name.specs.Text.{items, with_label, unless_fault, labels_from, name_of_text}
use Rattle.dz_name.specs.Words.{Name}
use Rattle.dz_name.specs.declared.text.NameError.{NameError}
use Rattle.dz_gen.specs.Texts.{digits, numbered, name_or_root, named}
use Rattle.dz_gen.proofs.ByteLemmas.{AreBytes, bytes-append, bytes-drop, bytes_tested}
use Rattle.dz_gen.proofs.DecimalLemmas.{number_spelled, digit_bytes}

-- a name of octets whose wire form is short
pub record IsShort (name : Name) : Type 0 where
  pub bytes : AllByRecursion AreBytes name
  pub short : length (wire_of name) ≤ 255

abbrev ItemIsByte : Item → Type 0
ItemIsByte (octet c) = c < 256
ItemIsByte dot = Unit {0}
ItemIsByte bad_escape = Unit {0}

abbrev AreItems : List Item → Type 0
AreItems its = AllByRecursion ItemIsByte its

-- ---- what a text is made of
either : (b : Bool) (x y : List Item) → AreItems x → AreItems y → AreItems (if b then x else y)
either true x y p q = p
either false x y p q = q

by_test : (v : ℕ) (its : List Item) → AreItems its → AreItems (if nat_lt v 256 then octet v ∷ its else bad_escape ∷ [])
by_test v its p = elim (cases_Bool (nat_lt v 256)) [
  | inl t ↦ rw t (ltb-true v 256 t, p)
  | inr f ↦ rw f (tt, tt)
]

item_bytes : (place : Place) (text : List ℕ) → AreBytes text → AreItems (items place text)
unfolding items
item_bytes outside [] p = tt
item_bytes outside (c ∷ text) p =
    either (c == 92) (items behind_backslash text)
    (if c == 46 then dot ∷ items outside text else octet c ∷ items outside text)
    (item_bytes behind_backslash text p.1)
    (either (c == 46) (dot ∷ items outside text) (octet c ∷ items outside text) (tt, item_bytes outside text p.1)
    (p.0, item_bytes outside text p.1))
item_bytes behind_backslash [] p = (tt, tt)
item_bytes behind_backslash (c ∷ text) p =
    either (is_ascii_digit c) (items (behind_one (c - 48)) text) (octet c ∷ items outside text)
    (item_bytes (behind_one (c - 48)) text p.1) (p.0, item_bytes outside text p.1)
item_bytes (behind_one n) [] p = (tt, tt)
item_bytes (behind_one n) (c ∷ text) p =
    either (is_ascii_digit c) (items (behind_two (n * 10 + (c - 48))) text) (bad_escape ∷ [])
    (item_bytes (behind_two (n * 10 + (c - 48))) text p.1) (tt, tt)
item_bytes (behind_two n) [] p = (tt, tt)
item_bytes (behind_two n) (c ∷ text) p =
    either (is_ascii_digit c) (if nat_lt (n * 10 + (c - 48)) 256 then octet (n * 10 + (c - 48))
    ∷ items outside text else bad_escape ∷ []) (bad_escape ∷ [])
    (by_test (n * 10 + (c - 48)) (items outside text) (item_bytes outside text p.1)) (tt, tt)

-- ---- labels
lower_byte : (c : ℕ) → c < 256 → to_ascii_lowercase c < 256
lower_byte c small = grind (arith, nat_tests)

lower_bytes : (label : List ℕ) → AreBytes label → AreBytes (lower label)
lower_bytes [] p = tt
lower_bytes (c ∷ label) p = (lower_byte c p.0, lower_bytes label p.1)

labels-push : (labels : Name) (label : List ℕ) → AllByRecursion AreBytes labels → AreBytes label
    → AllByRecursion AreBytes (labels ++ label ∷ [])
labels-push [] label p q = (q, tt)
labels-push (first ∷ labels) label p q = (p.0, labels-push labels label p.1 q)

label_ends : (labels : Name) (label : List ℕ) (name : Name) → AllByRecursion AreBytes labels → AreBytes label
    → with_label labels label ≡ Ok name → IsShort name
unfolding with_label
label_ends labels label name p q is =
    elim (cases_Bool (length label == 0)) [
      | inl t ↦ let h = rw t at is in absurd (cc)
      | inr none ↦ elim (cases_Bool (nat_lt 63 (length label))) [
        | inl t ↦ let h = rw (none, t) at is in absurd (cc)
        | inr long ↦ elim (cases_Bool (nat_lt 255 (length (wire_of (labels ++ lower label ∷ []))))) [
          | inl t ↦ let h = rw (none, long, t) at is in absurd (cc)
          | inr fits ↦
              let h : ◌≡◌ {A = Result Name NameError} (Ok (labels ++ lower label ∷ [])) (Ok name) =
              rw (none, long, fits) at is in
              let e : labels ++ lower label ∷ [] ≡ name = cc in
              rw (← e) (record {
                bytes = labels-push labels (lower label) p (lower_bytes label q);
                short = ltb-false 255 (length (wire_of (labels ++ lower label ∷ []))) fits;
              })
        ]
      ]
    ]

goes_on : (r : Result Name NameError) (more : Name → Result Name NameError) (name : Name)
    → ((labels : Name) → r ≡ Ok labels → IsShort labels)
    → ((labels : Name) → IsShort labels → more labels ≡ Ok name → IsShort name) → unless_fault r more ≡ Ok name
    → IsShort name
goes_on (Ok labels) more name so_far next is = next labels (so_far labels refl) is
goes_on (Err fault) more name so_far next is = absurd (cc)

labels_short : (labels : Name) (label : List ℕ) (its : List Item) (name : Name) → AllByRecursion AreBytes labels
    → AreBytes label → AreItems its
    → labels_from labels label its ≡ Ok name → IsShort name
unfolding labels_from
labels_short labels label [] name p q r is = label_ends labels label name p q is
labels_short labels label (octet c ∷ its) name p q r is =
    labels_short labels (label ++ c ∷ []) its name p (bytes-append label (c ∷ []) q (r.0, tt)) r.1 is
labels_short labels label (bad_escape ∷ its) name p q r is = absurd (cc)
labels_short labels label (dot ∷ []) name p q r is = label_ends labels label name p q is
labels_short labels label (dot ∷ item ∷ its) name p q r is =
    goes_on (with_label labels label) (λ more. labels_from more [] (item ∷ its)) name
    (λ more e. label_ends labels label more p q e)
    (λ more short e. labels_short more [] (item ∷ its) name short.bytes tt r.1 e) is

-- ---- names
root_short : IsShort []
unfolding wire_of
root_short = record { bytes = tt; short = omega arith }

of_result : (r : Result Name NameError) → ((name : Name) → r ≡ Ok name → IsShort name) → IsShort (name_or_root r)
of_result (Ok name) each = each name refl
of_result (Err error) each = root_short

text_short : (text : List ℕ) (name : Name) → AreBytes text → name_of_text text ≡ Ok name → IsShort name
unfolding name_of_text
text_short text name p is = elim (cases_Bool (pointwise nat_eq text (46 ∷ []))) [
  | inl t ↦
      let h : ◌≡◌ {A = Result Name NameError} (Ok []) (Ok name) = rw t at is in
      let e : ◌≡◌ {A = Name} [] name = cc in
      rw (← e) root_short
  | inr f ↦ labels_short [] [] (items outside text) name tt tt (item_bytes outside text p) (rw f at is)
]

pub named_short : (text : List ℕ) → AreBytes text → IsShort (named text)
named_short text p = of_result (name_of_text text) (λ name e. text_short text name p e)

pub numbered_bytes : (before : List ℕ) (k : ℕ) (behind : List ℕ) → AreBytes before → AreBytes behind → 0 < k → k ≤ 1000
    → AreBytes (numbered before k behind)
numbered_bytes before k behind p q some few =
    let spelled = number_spelled k some (omega arith) in
    let own = digit_bytes (decimal k) spelled.digits in
    bytes-append before (digits k ++ behind) p
    (bytes-append (digits k) behind (bytes-append (drop (length (decimal k)) (codes "0000")) (decimal k)
    (bytes-drop (length (decimal k)) (codes "0000") (bytes_tested (codes "0000") refl)) own) q)

-- the wire form of a short name
wire_bytes_in : (name : Name) → AllByRecursion AreBytes name → length (wire_of name) ≤ 255 → AreBytes (wire_of name)
unfolding wire_of
wire_bytes_in [] p short = (omega arith, tt)
wire_bytes_in (label ∷ labels) p short =
    let n = length-append label (wire_of labels) in
    (omega arith, bytes-append label (wire_of labels) p.0 (wire_bytes_in labels p.1 (omega arith)))

pub wire_bytes : (name : Name) → IsShort name → AreBytes (wire_of name)
wire_bytes name is = wire_bytes_in name is.bytes is.short
