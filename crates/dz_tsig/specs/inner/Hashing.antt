-- Inner: hashers, and the octets that they hold.
use Rattle.std.specs.Prelude.{◌++◌}
use Rattle.sha2.specs.Hashers.{Holds256}
use Rattle.dz_name.specs.Words.{Octets}
use Rattle.dz_tsig.specs.Hmac.{padded}
use Rattle.dz_tsig.specs.declared.mac.MacHasher.{MacHasher}
use Rattle.dz_tsig.specs.declared.mac.TheConstants.{IPAD, OPAD}

-- the MAC so far is of this text, under this key
pub record IsOf (mac : MacHasher) (key text : Octets) : Type 0 where
  pub inner : Holds256 mac.inner (padded IPAD key ++ text)
  pub outer : Holds256 mac.outer (padded OPAD key)
