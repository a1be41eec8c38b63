-- Meaning: HMAC-SHA-256 (RFC 2104 section 2, FIPS 180-4), for keys of at most 64 octets.
use Rattle.std.specs.Prelude.{ℕ, ◌-◌, ◌++◌, length, map, replicate, bit_xor}
use Rattle.sha2.specs.Sha256.{sha256}
use Rattle.dz_name.specs.Words.{Octets}
use Rattle.dz_tsig.specs.declared.mac.TheConstants.{BLOCK_OCTETS, IPAD, OPAD}

-- a key, filled with zero octets up to 64, each octet combined with one of a pad
unfoldable pub padded : ℕ → Octets → Octets
padded pad key = map (λ octet. bit_xor octet pad) (key ++ replicate (BLOCK_OCTETS - length key) 0)

-- the MAC of a text under a key of at most 64 octets
unfoldable pub hmac : Octets → Octets → Octets
hmac key text = sha256 (padded OPAD key ++ sha256 (padded IPAD key ++ text))
