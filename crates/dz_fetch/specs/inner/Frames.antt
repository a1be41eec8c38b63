-- Inner: octets that are read from a source frame by frame.
use Rattle.std.specs.Prelude.{◌≡◌, ◌<◌, ◌≤◌, ◌⊎◌, ℕ, Bool, true, false, [], ◌++◌, length, drop, Option, None, IsSome}
use Rattle.std.specs.Prelude.{Result, Ok, Err}
use Rattle.dz_name.specs.Words.{Octets}
use Rattle.dz_name.specs.declared.dns.TheConstants.{MESSAGE_OCTETS}
use Rattle.dz_io.specs.Counts.{HasRisen}
use Rattle.dz_io.specs.Device.{Gains, GainsPrefix, IsAtEnd}
use Rattle.dz_message.specs.Frame.{frame, stream, first_size, messages_in, AreShort}
use Rattle.dz_name.specs.declared.dns.TheConstants.{LENGTH_OCTETS}
use Rattle.dz_take.specs.Outcome.{decided}
use Rattle.dz_take.specs.Transfer.{Transfer}
use Rattle.dz_fetch.specs.declared.frames.ReadError.{ReadError}
use Rattle.dz_fetch.specs.declared.frames.ReadError.TheVariants as errors
use Rattle.dz_fetch.specs.declared.fetched.Fetched.{Fetched}
use Rattle.dz_fetch.specs.declared.fetched.Fetched.TheVariants as fetched

-- more octets were given, and joined those that there were
pub record Joins (old new : Octets) (before after : Option Octets) : Type 0 where
  pub more : Octets
  pub joined : new ≡ old ++ more
  pub gains : Gains more before after

-- more octets were given, until there were this many or the source ended
pub record ReadsOn (want : ℕ) (old new : Octets) (before after left : Option Octets) : Type 0 where
  pub joins : Joins old new before after
  pub fits : length new ≤ want
  pub ends : length new < want → IsAtEnd left

-- the count of faults of a source didn't fall; it rose where reading failed, and is unchanged else
abbrev pub CountsAt : {T : Type 0} → Result T ReadError → ℕ → ℕ → Type 0
CountsAt (Err errors.Fault) before now = HasRisen before now
CountsAt (Err errors.OutOfMemory) before now = now ≡ before
CountsAt (Ok done) before now = now ≡ before

pub record HasCount {T : Type 0} (before now : ℕ) (result : Result T ReadError) : Type 0 where
  pub later : before ≤ now
  pub counts : CountsAt result before now

-- octets are the frame of a message: its length and the message (RFC 1035 section 4.2.2)
pub record IsFrame (octets : Octets) : Type 0 where
  pub long : LENGTH_OCTETS ≤ length octets
  pub is : octets ≡ frame (drop LENGTH_OCTETS octets)
  pub short : length (drop LENGTH_OCTETS octets) ≤ MESSAGE_OCTETS

-- octets are a part of a frame, and nothing is left
pub record IsPart (octets : Octets) (left : Option Octets) : Type 0 where
  pub part : first_size octets ≡ None
  pub ended : IsAtEnd left

-- what was read next, by whether it is whole
abbrev pub IsNext : Bool → Octets → Option Octets → Type 0
IsNext true octets left = IsFrame octets
IsNext false octets left = IsPart octets left

-- whole frames, and nothing after them
pub record AreFrames (octets : Octets) : Type 0 where
  pub are : octets ≡ stream (messages_in octets)
  pub short : AreShort (messages_in octets)

-- whole frames were read of all octets that were given; they decide something, or a part of a frame comes after them
-- and nothing is left
pub record HasTaken (transfer : Transfer) (read : Octets) (before after left : Option Octets) : Type 0 where
  pub frames : AreFrames read
  pub part : Octets
  pub gains : Gains (read ++ part) before after
  pub rest : first_size part ≡ None
  pub ends : ((part ≡ []) × IsSome (decided transfer (messages_in read)))
      ⊎ ((decided transfer (messages_in read) ≡ None) × IsAtEnd left)

-- where the transfer was read, the query was written before; and else a beginning of it, which may be empty or whole
abbrev pub IsAsked : Fetched → Octets → Option Octets → Option Octets → Type 0
IsAsked (fetched.Finished read) query before after = Gains query before after
IsAsked fetched.LinkFault query before after = GainsPrefix query before after
IsAsked fetched.OutOfMemory query before after = GainsPrefix query before after
