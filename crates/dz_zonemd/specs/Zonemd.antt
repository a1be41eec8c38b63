-- Meaning: ZONEMD records, and the digests that are known here (RFC 8976 sections 2.2 and 5).
use Rattle.std.specs.Prelude.{ℕ, Bool, false, ◌==◌, ◌&&◌, drop, length, slice_index, Option, Some, None, if◌then◌else◌}
use Rattle.std.specs.Option.{option_map_or}
use Rattle.sha2.specs.Sha512.{sha384, sha512}
use Rattle.dz_name.specs.Words.{Octets}
use Rattle.dz_name.specs.Numbers.{number_of_four}
use Rattle.dz_record.specs.Record.{Record}
use Rattle.dz_zonemd.specs.declared.algorithm.Algorithm.{Algorithm}
use Rattle.dz_zonemd.specs.declared.algorithm.Algorithm.TheVariants.{Sha384, Sha512}
use Rattle.dz_zonemd.specs.declared.algorithm.TheConstants.{SCHEME_SIMPLE, ALGORITHM_SHA384, ALGORITHM_SHA512}

-- the serial: the first four octets of RDATA (section 2.2.1)
abbrev pub serial_in : Record → ℕ
serial_in r = number_of_four r.rdata

-- the scheme: the octet after the serial (section 2.2.2), 0 where RDATA is too short, which is reserved (section 5.2)
abbrev pub scheme_in : Record → ℕ
scheme_in r = slice_index r.rdata 4

-- the hash algorithm: the octet after the scheme (section 2.2.3), 0 where RDATA is too short, which is reserved
-- (section 5.3)
abbrev pub algorithm_in : Record → ℕ
algorithm_in r = slice_index r.rdata 5

-- the digest: the rest of RDATA (section 2.2.4)
abbrev pub digest_in : Record → Octets
digest_in r = drop 6 r.rdata

-- a record that has another's scheme and hash algorithm
abbrev pub is_twin : Record → Record → Bool
is_twin r other = scheme_in other == scheme_in r && algorithm_in other == algorithm_in r

-- the number of a hash algorithm (section 5.3)
abbrev pub number_of : Algorithm → ℕ
number_of Sha384 = ALGORITHM_SHA384
number_of Sha512 = ALGORITHM_SHA512

-- a record of scheme SIMPLE (section 5.2) and this algorithm
abbrev pub is_by : Algorithm → Record → Bool
is_by algorithm r = scheme_in r == SCHEME_SIMPLE && algorithm_in r == number_of algorithm

-- the algorithm of a record whose scheme and algorithm are known
abbrev pub known_algorithm : Record → Option Algorithm
known_algorithm r = if is_by Sha384 r then Some Sha384 else if is_by Sha512 r then Some Sha512 else None

-- how many octets a digest of this algorithm has
abbrev pub size_of : Algorithm → ℕ
size_of Sha384 = 48
size_of Sha512 = 64

-- the digest of octets by this algorithm (FIPS 180-4)
abbrev pub hash_by : Algorithm → Octets → Octets
hash_by Sha384 octets = sha384 octets
hash_by Sha512 octets = sha512 octets

-- a record that can be verified: scheme and algorithm are known, and the digest has the algorithm's length (section 4)
abbrev pub is_supported : Record → Bool
is_supported r = option_map_or (λ algorithm. length (digest_in r) == size_of algorithm) (known_algorithm r) false
