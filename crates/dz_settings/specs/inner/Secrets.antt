-- Inner: how a secret is kept: 64 octets, of which the first are the secret and the others 0.
use Rattle.std.specs.Prelude.{◌≡◌, ℕ, ◌-◌, ◌≤◌, ◌++◌, length, take, replicate}
use Rattle.dz_name.specs.Words.{Octets}

-- a secret followed by zeros up to 64 octets
abbrev pub secret_padded : Octets → Octets
secret_padded secret = secret ++ replicate (64 - length secret) 0

-- the octets are a secret of this length, padded with zeros
pub record IsSecretKept (octets : Octets) (len : ℕ) : Type 0 where
  pub short : length (take len octets) ≤ 64
  pub padded : secret_padded (take len octets) ≡ octets
  pub len_is : length (take len octets) ≡ len
