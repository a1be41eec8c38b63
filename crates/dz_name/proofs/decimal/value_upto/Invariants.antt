use Rattle.std.proofs.Common.{◌≡◌, min, take}
use Rattle.dz_name.specs.Decimal.{value_of}
use Rattle.dz_name.proofs.decimal.value_upto.Given as goal

abbrev pub invariant-digits : goal.invariant-digits
invariant-digits l = l.value ≡ min (value_of (take l.digit-index l.text)) 18446744073709551616
