-- Meaning: keys that can be used.
use Rattle.std.specs.Prelude.{◌≤◌, length}
use Rattle.dz_settings.specs.declared.key.Key.{Key}
use Rattle.dz_settings.specs.declared.limits.TheConstants.{SECRET_OCTETS}

-- the secret of a key has 1 to 64 octets
pub record IsKey (key : Key) : Type 0 where
  pub some : 1 ≤ length key.secret
  pub short : length key.secret ≤ SECRET_OCTETS
