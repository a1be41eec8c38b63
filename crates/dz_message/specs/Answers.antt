-- Answer: what the reader, the writer and the parts of both answer.
use Rattle.std.specs.Prelude.{◌≡◌, ℕ, ◌+◌, ◌++◌, Result, Ok, Err, length, ◌<◌, ◌≤◌}
use Rattle.dz_message.specs.declared.fault.MessageFault.{MessageFault}
use Rattle.dz_message.specs.declared.fault.MessageError.{MessageError}
use Rattle.dz_message.specs.declared.fault.MessageError.TheVariants as errors
use Rattle.dz_name.specs.Words.{Octets}
use Rattle.dz_message.specs.declared.fault.WriteError.{WriteError}
use Rattle.dz_message.specs.declared.fault.WriteError.TheVariants as write_errors
use Rattle.dz_message.specs.Message.{Content}
use Rattle.dz_name.specs.declared.dns.TheConstants.{MESSAGE_OCTETS}
use Rattle.dz_message.specs.Writing.{message_octets}
use Rattle.dz_message.specs.Spelling.{Spells}

-- a call failed with the fault that is read, or ran out of memory
abbrev pub Fails : {Y : Type 0} → MessageError → Result Y MessageFault → Type 0
Fails errors.OutOfMemory read = Unit {0}
Fails (errors.Fault f) read = read ≡ Err f

-- what a call gave, seen by `view`, is what is read, unless it ran out of memory
abbrev pub Gives : {X Y : Type 0} → (X → Y) → Result X MessageError → Result Y MessageFault → Type 0
Gives view (Ok x) read = read ≡ Ok (view x)
Gives view (Err e) read = Fails e read

-- a call that appends what is read, given the octets before, the octets after, and its result
abbrev pub Appends : {Y : Type 0} → Octets → Octets → Result Y MessageError → Result Octets MessageFault → Type 0
Appends old new (Ok y) read = (piece : Octets) × (read ≡ Ok piece) × (new ≡ old ++ piece)
Appends old new (Err e) read = Fails e read

-- the same for one field, where the result is the offset after it
abbrev pub AppendsOne : Octets → Octets → Result ℕ MessageError → Result (Octets × ℕ) MessageFault → Type 0
AppendsOne old new (Ok next) read = (piece : Octets) × (read ≡ Ok (piece, next)) × (new ≡ old ++ piece)
AppendsOne old new (Err e) read = Fails e read

-- a call that only checks whether something can be read
abbrev pub EndsWell : {X Y : Type 0} → Result X MessageFault → Result Y MessageFault → Type 0
EndsWell (Ok x) read = (y : _) × (read ≡ Ok y)
EndsWell (Err e) read = read ≡ Err e

-- a message of at most 65,535 octets is written; TooLong is given for a longer one only
abbrev pub IsWritten : Content → Result Octets WriteError → Type 0
IsWritten m (Ok octets) = (octets ≡ message_octets m) × (length octets ≤ MESSAGE_OCTETS)
IsWritten m (Err write_errors.TooLong) = MESSAGE_OCTETS < length (message_octets m)
IsWritten m (Err write_errors.OutOfMemory) = Unit {0}

-- a fault is reported where the octets spell no message; nothing is known where memory runs out
abbrev pub SpellsNone : Octets → MessageError → Type 0
SpellsNone octets errors.OutOfMemory = Unit {0}
SpellsNone octets (errors.Fault fault) = (m : Content) → ¬ (Spells octets m)
