-- Inner: how the code keeps the key of an owner: the key of the name above it comes first.
use Rattle.std.specs.Prelude.{◌≡◌, ℕ, ◌≤◌, take}
use Rattle.dz_name.specs.Words.{Name, Octets}
use Rattle.dz_index.specs.SortKey.{key_of}

-- a key up to a place, before which the key of a name ends
pub record IsBelow (above : Name) (octets : Octets) (front end : ℕ) : Type 0 where
  pub key : take front octets ≡ key_of above
  pub front_in : front ≤ end
  pub within : end ≤ 512
