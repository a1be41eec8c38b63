-- Judge: the longest record of a store, so that it can't change.
use Rattle.std.specs.Prelude.{◌≡◌, refl}
use Rattle.dz_store.specs.declared.places.TheConstants.{MOST}

pub most_is_67109447 : MOST ≡ 67109447
most_is_67109447 = refl
