-- Meaning: TSIG records (RFC 8945 section 4.2).
use Rattle.std.specs.Prelude.{ℕ, ◌+◌, ◌==◌, nat_lt, [], ◌∷◌, codes, length, take, drop, Option, Some, None}
use Rattle.std.specs.Prelude.{if◌then◌else◌}
use Rattle.dz_name.specs.Words.{Name, Octets}
use Rattle.dz_name.specs.Numbers.{number_of_two}
use Rattle.dz_tsig.specs.Numbers.{number_of_six}

-- a record: where it begins in its message; its owner name, which is that of the key; and its RDATA
pub record Tsig : Type 0 where
  pub at : ℕ
  pub key : Name
  pub algorithm : Name
  pub time : ℕ
  pub fudge : ℕ
  pub mac : Octets
  pub id : ℕ
  pub error : ℕ
  pub other : Octets

-- the algorithm's name hmac-sha256 (RFC 8945 section 6)
abbrev pub hmac_sha256 : Name
hmac_sha256 = codes "hmac-sha256" ∷ []

-- the RDATA from the MAC on: the MAC; original ID, error and other length in two octets each; other data, and nothing
-- else
unfoldable pub after_size : ℕ → Name → Name → Octets → ℕ → Octets → Option Tsig
after_size at key algorithm octets size rest =
    if nat_lt (length rest) (size + 6) then None
    else if length rest == size + 6 + number_of_two (drop (size + 4) rest) then Some (record {
      at = at;
      key = key;
      algorithm = algorithm;
      time = number_of_six octets;
      fudge = number_of_two (drop 6 octets);
      mac = take size rest;
      id = number_of_two (drop size rest);
      error = number_of_two (drop (size + 2) rest);
      other = drop (size + 6) rest;
    })
    else None

-- the RDATA after the algorithm's name: time in six octets, fudge and MAC size in two each, and the rest
unfoldable pub after_names : ℕ → Name → Name → Octets → Option Tsig
after_names at key algorithm octets =
    if nat_lt (length octets) 10 then None
    else after_size at key algorithm octets (number_of_two (drop 8 octets)) (drop 10 octets)
