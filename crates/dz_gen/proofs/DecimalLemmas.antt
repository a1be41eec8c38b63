-- A number in decimal reads as the number.
use Rattle.std.proofs.Common.{◌≡◌, ℕ, ◌+◌, ◌-◌, ◌*◌, ◌/◌, ◌%◌, ◌^◌, ◌<◌, ◌≤◌, true, false, List, [], ◌∷◌, ◌++◌, length}
use Rattle.std.proofs.Common.{get_or, refl, ◌∙◌, arith, Some, length-append}
use Rattle.std.specs.Prelude.{◌==◌, nat_le, decimal}
use Rattle.std.specs.Char.{is_ascii_digit}
use Rattle.std.specs.List.{AllByRecursion, list_all, fold}
use Rattle.std.proofs.lemmas.Bool.{and_parts}
use Rattle.std.proofs.lemmas.Bool.Decides.{nat_tests}
use Rattle.std.proofs.lemmas.Fmt.{decimal_by_steps, first_decimal}
use Rattle.dz_name.specs.Decimal.{value_of, is_decimal, number_of}
use Rattle.dz_gen.proofs.ByteLemmas.{AreBytes}

abbrev pub IsDigit : ℕ → Type 0
IsDigit c = (47 < c) × (c < 58)

abbrev pub AreDigits : List ℕ → Type 0
AreDigits text = AllByRecursion IsDigit text

-- a text is a number in decimal, above zero
pub record IsNumber (n : ℕ) (text : List ℕ) : Type 0 where
  pub digits : AreDigits text
  pub some : 0 < length text
  pub first : 48 < get_or text 0 0
  pub value : value_of text ≡ n

record IsSpelled (n : ℕ) (text : List ℕ) : Type 0 where
  digits : AreDigits text
  some : 0 < length text
  value : value_of text ≡ n

pub digits-append : (xs ys : List ℕ) → AreDigits xs → AreDigits ys → AreDigits (xs ++ ys)
digits-append [] ys p q = q
digits-append (x ∷ xs) ys p q = (p.0, digits-append xs ys p.1 q)

value-push : (v : ℕ) (xs : List ℕ) (x : ℕ) → fold (λ n digit. n * 10 + (digit - 48)) v (xs ++ x ∷ [])
    ≡ fold (λ n digit. n * 10 + (digit - 48)) v xs * 10 + (x - 48)
value-push v [] x = refl
value-push v (y ∷ xs) x = value-push (v * 10 + (y - 48)) xs x

one_digit : (n : ℕ) → n < 10 → IsSpelled n ((48 + n) ∷ [])
one_digit n small = record { digits = ((omega arith, omega arith), tt); some = omega arith; value = omega arith }

one_more : (n : ℕ) (text : List ℕ) → 10 ≤ n → IsSpelled (n / 10) text → IsSpelled n (text ++ (48 + n % 10) ∷ [])
one_more n text large front = record {
  digits = digits-append text ((48 + n % 10) ∷ []) front.digits ((omega arith, omega arith), tt);
  some = omega (arith, length-append text ((48 + n % 10) ∷ []));
  value = value-push 0 text (48 + n % 10) ∙ omega (arith, front.value);
}

spelled : (n : ℕ) → n < 2 ^ 64 → IsSpelled n (decimal n)
spelled = decimal_by_steps IsSpelled one_digit one_more

pub number_spelled : (n : ℕ) → 0 < n → n < 2 ^ 64 → IsNumber n (decimal n)
number_spelled n some small =
    let is = spelled n small in
    record { digits = is.digits; some = is.some; first = first_decimal n some small; value = is.value }

digits_tested : (text : List ℕ) → AreDigits text → list_all is_ascii_digit text ≡ true
digits_tested [] p = refl
digits_tested (c ∷ text) p =
    let t : is_ascii_digit c ≡ true = grind (arith, nat_tests, p.0) in
    rw (t, digits_tested text p.1) refl

is_decimal_text : (text : List ℕ) → AreDigits text → 0 < length text → 48 < get_or text 0 0 → is_decimal text ≡ true
is_decimal_text [] digits some first = absurd (omega arith)
is_decimal_text (c ∷ text) digits some first =
    let t : (c == 48) ≡ false = grind (arith, nat_tests) in
    rw (digits_tested (c ∷ text) digits, t) refl

pub number_read : (most n : ℕ) (text : List ℕ) → IsNumber n text → n ≤ most → number_of most text ≡ Some n
number_read most n text is fits =
    let t : nat_le n most ≡ true = grind (arith, nat_tests) in
    rw (is_decimal_text text is.digits is.some is.first, is.value, t) refl

-- ---- texts that are written out
digit_tested : (c : ℕ) → is_ascii_digit c ≡ true → IsDigit c
digit_tested c t =
    let low : 47 < c = grind (arith, nat_tests) in
    let high : c < 58 = grind (arith, nat_tests) in
    (low, high)

pub digits_from_test : (text : List ℕ) → list_all is_ascii_digit text ≡ true → AreDigits text
digits_from_test [] t = tt
digits_from_test (c ∷ text) t =
    let parts = and_parts (is_ascii_digit c) (list_all is_ascii_digit text) t in
    (digit_tested c parts.0, digits_from_test text parts.1)

some_octet : (text : List ℕ) → 48 < get_or text 0 0 → 0 < length text
some_octet [] first = absurd (omega arith)
some_octet (c ∷ text) first = omega arith

pub number_tested : (text : List ℕ) → list_all is_ascii_digit text ≡ true → 48 < get_or text 0 0
    → IsNumber (value_of text) text
number_tested text t first =
    record { digits = digits_from_test text t; some = some_octet text first; first = first; value = refl }

-- digits are octets
pub digit_bytes : (text : List ℕ) → AreDigits text → AreBytes text
digit_bytes [] p = tt
digit_bytes (c ∷ text) p = (omega (arith, p.0), digit_bytes text p.1)
