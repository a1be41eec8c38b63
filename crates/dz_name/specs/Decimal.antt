-- Meaning: numbers as text, in decimal and without leading zeros.
use Rattle.std.specs.Prelude.{ℕ, ◌+◌, ◌-◌, ◌*◌, Bool, false, ◌==◌, ◌&&◌, ◌||◌, not, nat_le, [], ◌∷◌, length, fold}
use Rattle.std.specs.Prelude.{Option, Some, None, if◌then◌else◌}
use Rattle.std.specs.Char.{is_ascii_digit}
use Rattle.std.specs.List.{list_all}
use Rattle.dz_name.specs.Words.{Octets}

-- the value of decimal digits
abbrev pub value_of : Octets → ℕ
value_of digits = fold (λ n digit. n * 10 + (digit - 48)) 0 digits

-- whether a text is one or more digits without a leading zero
abbrev pub is_decimal : Octets → Bool
is_decimal [] = false
is_decimal (digit ∷ digits) = list_all is_ascii_digit (digit ∷ digits) && (not (digit == 48) || length digits == 0)

-- the value of a text that is a decimal number of at most `most`
abbrev pub number_of : ℕ → Octets → Option ℕ
number_of most text = if is_decimal text && nat_le (value_of text) most then Some (value_of text) else None
