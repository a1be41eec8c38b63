-- Inner: lists that count alike.
use Rattle.std.specs.Prelude.{◌≡◌, List}
use Rattle.dz_name.specs.Words.{Name, Octets}
use Rattle.dz_store.specs.Store.{counting}

-- the same payload counts for each zone in both lists
abbrev pub CountsSame : List Octets → List Octets → Type 0
CountsSame list other = (zone : Name) → counting zone other ≡ counting zone list
