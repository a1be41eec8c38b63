-- Judge: the lines of `answer`, computed by the checker.
use Rattle.std.specs.Prelude.{◌≡◌, refl, codes, true, false}
use Rattle.dz_script.specs.Line.{is_skipped}

pub a_comment : is_skipped (codes "# a comment") ≡ true
a_comment = refl

pub a_request : is_skipped (codes "0010") ≡ false
a_request = refl
