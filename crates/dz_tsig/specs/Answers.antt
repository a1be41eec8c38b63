-- Answer: what the signer of a stream answers.
use Rattle.std.specs.Prelude.{⊤, ◌≡◌, ℕ, false, Result, Ok, Err}
use Rattle.dz_name.specs.Words.{Octets}
use Rattle.dz_settings.specs.declared.key.Key.{Key}
use Rattle.dz_tsig.specs.declared.streams.SignError.{SignError}
use Rattle.dz_tsig.specs.declared.streams.SignError.TheVariants as errors
use Rattle.dz_tsig.specs.Streams.{are_messages, IsSignedSo, IsTooLong}

-- what a call gave: the signed messages; or BadFrames, where octets aren't whole frames of messages; or else TooLong.
-- Running out of memory says nothing
abbrev pub IsSigned : Key → ℕ → Octets → Octets → Result Octets SignError → Type 0
IsSigned key moment mac octets (Ok out) = IsSignedSo key moment mac octets out
IsSigned key moment mac octets (Err errors.BadFrames) = are_messages octets ≡ false
IsSigned key moment mac octets (Err errors.TooLong) = IsTooLong key moment mac octets
IsSigned key moment mac octets (Err errors.OutOfMemory) = ⊤
