-- Inner: where a TSIG is in its message.
use Rattle.std.specs.Prelude.{⊤, ◌≤◌, length}
use Rattle.dz_name.specs.Words.{Octets}
use Rattle.dz_name.specs.declared.dns.TheConstants.{HEADER_OCTETS}
use Rattle.dz_tsig.specs.Tsig.{Tsig}
use Rattle.dz_tsig.specs.declared.signature.Signature.{Signature}
use Rattle.dz_tsig.specs.declared.signature.Signature.TheVariants.{Absent, Malformed, Present}

-- a TSIG begins after the header
pub record IsPlacedTsig (m : Octets) (tsig : Tsig) : Type 0 where
  pub after_header : HEADER_OCTETS ≤ tsig.at
  pub within : tsig.at ≤ length m

-- the TSIG of a message, if it can be read, begins after the header
abbrev pub IsPlaced : Octets → Signature → Type 0
IsPlaced m Absent = ⊤
IsPlaced m Malformed = ⊤
IsPlaced m (Present tsig) = IsPlacedTsig m tsig
