-- Inner: a stream that is signed message by message.
use Rattle.std.specs.Prelude.{⊤, ◌≡◌, ℕ, ◌+◌, ◌<◌, ◌≤◌, Bool, true, List, ◌++◌, length, drop, Result, Ok, Err}
use Rattle.std.specs.List.{list_all}
use Rattle.dz_name.specs.Words.{Octets}
use Rattle.dz_name.specs.declared.dns.TheConstants.{MESSAGE_OCTETS}
use Rattle.dz_message.specs.Frame.{frame, stream, messages_in, AreShort}
use Rattle.dz_tsig.specs.Streams.{is_message, signed_from}
use Rattle.dz_settings.specs.declared.key.Key.{Key}
use Rattle.dz_tsig.specs.declared.streams.SignError.{SignError}
use Rattle.dz_tsig.specs.declared.streams.SignError.TheVariants as errors

-- all messages are read where those are that are left, and the octets before an offset are those of whole frames
pub record ReadsOn (octets : Octets) (at : ℕ) : Type 0 where
  pub read : list_all is_message (messages_in octets) ≡ list_all is_message (messages_in (drop at octets))
  pub long : length (stream (messages_in octets)) ≡ at + length (stream (messages_in (drop at octets)))

-- the frame of a message was appended, where the message isn't too long
pub record IsAppended (m old new : Octets) : Type 0 where
  pub short : length m ≤ MESSAGE_OCTETS
  pub out : new ≡ old ++ frame m

-- what an appending call gave: the frame of the message, or TooLong; running out of memory says nothing
abbrev pub Appends : {A : Type 0} → Octets → Octets → Octets → Result A SignError → Type 0
Appends m old new (Ok x) = IsAppended m old new
Appends m old new (Err errors.BadFrames) = ⊥
Appends m old new (Err errors.TooLong) = MESSAGE_OCTETS < length m
Appends m old new (Err errors.OutOfMemory) = ⊤

-- what was written and what is left make the whole, and the rest is short where all is
pub record SignsOn (key : Key) (moment : ℕ) (all : List Octets) (is_first : Bool) (prior : Octets) (rest : List Octets)
    (written : Octets) : Type 0 where
  pub out : written ++ stream (signed_from key moment is_first prior rest) ≡ stream all
  pub short : AreShort (signed_from key moment is_first prior rest) → AreShort all
  pub back : AreShort all → AreShort (signed_from key moment is_first prior rest)

-- messages that are left, of a frame's length and readable
pub record AreLeft (ms : List Octets) : Type 0 where
  pub read : list_all is_message ms ≡ true
  pub short : AreShort ms
