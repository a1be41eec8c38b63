-- Meaning: what is read of the octets that a job got.
use Rattle.std.specs.Prelude.{◌≡◌, ℕ, ◌≤◌, ◌⊎◌, [], ◌++◌, length, take, drop, None, IsSome}
use Rattle.dz_name.specs.Words.{Octets}
use Rattle.dz_message.specs.Frame.{messages_in}
use Rattle.dz_take.specs.Outcome.{decided, outcome, octets_used}
use Rattle.dz_take.specs.Transfer.{Transfer}

-- the outcome of what was read is that of all the octets, all that was read is used, and where the octets decide
-- something just those that are used were read
pub record IsReadOf (transfer : Transfer) (octets read : Octets) : Type 0 where
  pub all : octets_used transfer read ≡ length read
  pub outcome : outcome transfer read ≡ outcome transfer octets
  pub used : IsSome (decided transfer (messages_in octets)) → read ≡ take (octets_used transfer octets) octets

-- a prefix of the octets was read, some of their messages, which the others follow; nothing is decided before
pub record IsFront (octets read : Octets) (place : ℕ) : Type 0 where
  pub within : place ≤ length octets
  pub are : read ≡ take place octets
  pub messages : messages_in octets ≡ messages_in read ++ messages_in (drop place octets)

-- messages were read until something was decided, or until none was left
pub record HasRead (transfer : Transfer) (octets read : Octets) : Type 0 where
  pub place : ℕ
  pub front : IsFront octets read place
  pub ended : (messages_in (drop place octets) ≡ []) ⊎ IsSome (decided transfer (messages_in read))
