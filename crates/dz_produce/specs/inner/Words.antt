-- Inner: groups that were read.
use Rattle.std.specs.Prelude.{List, ◌++◌, Option, option_map}
use Rattle.dz_name.specs.Words.{Octets}

-- groups and then those that are still to be read
abbrev pub with_groups : List Octets → Option (List Octets) → Option (List Octets)
with_groups groups more = option_map (λ others. groups ++ others) more
