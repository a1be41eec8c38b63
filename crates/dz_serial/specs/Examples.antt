-- Judge: pairs of serial numbers (RFC 1982 sections 4.1 and 5), computed by the checker.
use Rattle.std.specs.Prelude.{◌≡◌, true, false, refl}
use Rattle.dz_serial.specs.Serial.{is_newer, sum}
use Rattle.dz_serial.specs.declared.serial.TheConstants.{HALF}

next_one : is_newer 2018031900 2018031901 ≡ true
next_one = refl

one_back : is_newer 2018031901 2018031900 ≡ false
one_back = refl

round_the_end : is_newer 4294967295 0 ≡ true
round_the_end = refl

-- half of the serial number space is 2147483648
one_less_than_half : is_newer 0 2147483647 ≡ true
one_less_than_half = refl

half : is_newer 0 2147483648 ≡ false
half = refl

half_back : is_newer 2147483648 0 ≡ false
half_back = refl

one_more_than_half : is_newer 0 2147483649 ≡ false
one_more_than_half = refl

one_more_than_half_back : is_newer 2147483649 0 ≡ true
one_more_than_half_back = refl

added_round_the_end : sum 4294967295 2147483647 ≡ 2147483646
added_round_the_end = refl

-- ---- the numbers of serial arithmetic (RFC 1982 section 3.2), so that none can change
pub half_is_0x80000000 : HALF ≡ 0x80000000
half_is_0x80000000 = refl
