-- Meaning: answers of several messages, each of which is signed (RFC 8945 section 5.3.1).
use Rattle.std.specs.Prelude.{◌≡◌, ℕ, Bool, true, false, ◌&&◌, is_ok, List, [], ◌∷◌, ◌++◌, if◌then◌else◌}
use Rattle.std.specs.List.{list_all}
use Rattle.std.specs.Str.{bytes_eq}
use Rattle.dz_name.specs.Words.{Octets}
use Rattle.dz_message.specs.Frame.{stream, messages_in, AreShort}
use Rattle.dz_message.specs.Reading.{message_of}
use Rattle.dz_tsig.specs.Hmac.{hmac}
use Rattle.dz_tsig.specs.Signing.{timers, variables, mac_octets, with_tsig}
use Rattle.dz_settings.specs.declared.key.Key.{Key}
use Rattle.dz_tsig.specs.declared.sign.TheConstants.{FUDGE}

-- what is digested after a message that is signed: in the first one the variables, and in a later one the timers
abbrev pub own_variables_or_timers : Key → ℕ → Bool → Octets
own_variables_or_timers key moment is_first =
    if is_first then variables key.name moment FUDGE 0 [] else timers moment FUDGE

-- the MAC of a message that follows another MAC: that of the request, or that of the message before
unfoldable pub next_mac : Key → ℕ → Bool → Octets → Octets → Octets
next_mac key moment is_first prior m =
    hmac key.secret (mac_octets prior ++ m ++ own_variables_or_timers key moment is_first)

-- messages, each signed after the MAC of the one before
unfoldable pub signed_from : Key → ℕ → Bool → Octets → List Octets → List Octets
signed_from key moment is_first prior [] = []
signed_from key moment is_first prior (m ∷ ms) =
    with_tsig key.name moment (next_mac key moment is_first prior m) m
    ∷ signed_from key moment false (next_mac key moment is_first prior m) ms

-- the signed messages of the answer to a request with this MAC
abbrev pub signed_messages : Key → ℕ → Octets → List Octets → List Octets
signed_messages key moment mac ms = signed_from key moment true mac ms

-- octets are a message
unfoldable pub is_message : Octets → Bool
is_message m = is_ok (message_of m)

-- octets are whole frames of messages, and nothing else
abbrev pub are_messages : Octets → Bool
are_messages octets = bytes_eq (stream (messages_in octets)) octets && list_all is_message (messages_in octets)

-- a call gave the signed messages
pub record IsSignedSo (key : Key) (moment : ℕ) (mac octets result : Octets) : Type 0 where
  pub messages : are_messages octets ≡ true
  pub short : AreShort (signed_messages key moment mac (messages_in octets))
  pub out : result ≡ stream (signed_messages key moment mac (messages_in octets))

-- a signed message has more than 65,535 octets
pub record IsTooLong (key : Key) (moment : ℕ) (mac octets : Octets) : Type 0 where
  pub messages : are_messages octets ≡ true
  pub long : ¬ (AreShort (signed_messages key moment mac (messages_in octets)))
