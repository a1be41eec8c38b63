-- Meaning: messages over TCP, each preceded by its length in two octets (RFC 1035 section 4.2.2).
use Rattle.std.specs.Prelude.{◌≡◌, ℕ, zero, suc, ◌+◌, ◌-◌, ◌<◌, ◌≤◌, ◌^◌, nat_lt, List, [], ◌∷◌, ◌++◌, length, take}
use Rattle.std.specs.Prelude.{drop, Option, Some, None, option_map, if◌then◌else◌}
use Rattle.std.specs.List.{flat_map, All, AllByRecursion}
use Rattle.std.specs.Option.{option_map_or}
use Rattle.dz_name.specs.Words.{Octets}
use Rattle.dz_name.specs.Numbers.{two, number_of_two}
use Rattle.dz_name.specs.declared.dns.TheConstants.{MESSAGE_OCTETS}
use Rattle.dz_name.specs.declared.dns.TheConstants.{LENGTH_OCTETS}

-- a message preceded by its length in two octets
abbrev pub frame : Octets → Octets
frame message = two (length message) ++ message

-- messages, each preceded by its length
abbrev pub stream : List Octets → Octets
stream messages = flat_map frame messages

-- the length of the first message, where its frame is complete
unfoldable pub first_size : Octets → Option ℕ
first_size octets =
    if nat_lt (length octets) LENGTH_OCTETS then None
    else if nat_lt (length octets) (LENGTH_OCTETS + number_of_two octets) then None
    else Some (number_of_two octets)

-- where the message of the whole frame at an offset begins, and the offset after it; none where there is no whole
-- frame
unfoldable pub frame_at : Octets → ℕ → Option (ℕ × ℕ)
frame_at octets at = option_map (λ size. (at + LENGTH_OCTETS, at + LENGTH_OCTETS + size)) (first_size (drop at octets))

-- the first whole messages, at most the given number
unfoldable pub first_messages : ℕ → Octets → List Octets
first_messages zero octets = []
first_messages (suc n) octets = option_map_or (λ size. take size (drop LENGTH_OCTETS octets)
    ∷ first_messages n (drop size (drop LENGTH_OCTETS octets))) (first_size octets) []

-- the whole messages of a stream, up to the first incomplete frame
abbrev pub messages_in : Octets → List Octets
messages_in octets = first_messages (length octets) octets

-- the place of a message is within the octets, and its beginning is not after its end
abbrev pub IsWithin : Octets → ℕ × ℕ → Type 0
IsWithin octets place = (place.0 ≤ place.1) × (place.1 ≤ length octets)

-- what is found at an offset is the first message of the octets from there on, and the others follow it
abbrev pub IsFirst : Octets → ℕ → Option (ℕ × ℕ) → Type 0
IsFirst octets at None = messages_in (drop at octets) ≡ []
IsFirst octets at (Some place) =
    messages_in (drop at octets) ≡ take (place.1 - place.0) (drop place.0 octets) ∷ messages_in (drop place.1 octets)

-- messages that a frame can hold
abbrev pub AreShort : List Octets → Type 0
AreShort messages = AllByRecursion (λ message. length message ≤ MESSAGE_OCTETS) messages

-- messages put into frames are read back
abbrev pub ComesBack : Type 0
ComesBack = (messages : List Octets) → AreShort messages → messages_in (stream messages) ≡ messages

-- messages put into frames are read back where they are followed by part of a frame
abbrev pub ComesBackBeforeAPart : Type 0
ComesBackBeforeAPart = (messages : List Octets) (part : Octets) → AreShort messages → first_size part ≡ None
    → messages_in (stream messages ++ part) ≡ messages

-- octets consist of the frames of their whole messages, followed by part of a frame
pub record IsCut (octets : Octets) : Type 0 where
  pub part : Octets
  pub are : octets ≡ stream (messages_in octets) ++ part
  pub ends : first_size part ≡ None
  pub short : AreShort (messages_in octets)

-- every string of octets is cut so
abbrev pub EachIsCut : Type 0
EachIsCut = (octets : Octets) → All (λ octet. octet < 2 ^ 8) octets → IsCut octets
