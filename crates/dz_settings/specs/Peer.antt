-- Meaning: the texts of peers, policies and words.
use Rattle.std.specs.Prelude.{ℕ, ◌+◌, ◌==◌, nat_le, [], ◌∷◌, take, drop, position, codes, Option, Some, None}
use Rattle.std.specs.Prelude.{option_map, if◌then◌else◌}
use Rattle.std.specs.Option.{option_and_then, option_map_or}
use Rattle.std.specs.Str.{bytes_eq}
use Rattle.dz_io.specs.declared.peer.Peer.{Peer}
use Rattle.dz_settings.specs.Config.{is_word}
use Rattle.dz_settings.specs.declared.peer.TheConstants.{DNS_PORT}
use Rattle.dz_settings.specs.declared.config.Policy.{Policy}
use Rattle.dz_settings.specs.declared.config.Policy.TheVariants.{Off, Present, Require}
use Rattle.dz_name.specs.Decimal.{number_of}
use Rattle.dz_name.specs.Words.{Octets}

-- what is before the first such octet, and after it
abbrev pub cut : ℕ → Octets → Option (Octets × Octets)
cut octet text = option_map (λ at. (take at text, drop (at + 1) text)) (position (λ x. x == octet) text)

-- the octets of four numbers, where all four can be read
abbrev pub four : Option ℕ → Option ℕ → Option ℕ → Option ℕ → Option Octets
four (Some a) (Some b) (Some c) (Some d) = Some (a ∷ b ∷ c ∷ d ∷ [])
four _ _ _ _ = None

-- an IPv4 address of the texts of four numbers, each up to 255
abbrev pub numbers_of : Octets → Octets → Octets → Octets → Option Octets
numbers_of a b c d = four (number_of 255 a) (number_of 255 b) (number_of 255 c) (number_of 255 d)

-- an IPv4 address: four numbers up to 255 with dots between them
abbrev pub address_of : Octets → Option Octets
address_of text =
    option_and_then (λ p. option_and_then (λ q. option_and_then (λ r. numbers_of p.0 q.0 r.0 r.1) (cut 46 q.1))
    (cut 46 p.1)) (cut 46 text)

-- a port: a number from 1 to 65535
abbrev pub port_of : Octets → Option ℕ
port_of text = option_and_then (λ port. if nat_le 1 port then Some port else None) (number_of 65535 text)

-- a peer of an address and a port, where both can be read
abbrev pub peer_from : Option Octets → Option ℕ → Option Peer
peer_from (Some address) (Some port) = Some (record { address = address; port = port })
peer_from _ _ = None

-- the peer of an address alone: port 53
abbrev pub host_of : Octets → Option Peer
host_of text = peer_from (address_of text) (Some DNS_PORT)

-- a peer: an address, and its port after a colon, or an address alone
abbrev pub peer_of : Octets → Option Peer
peer_of text = option_map_or (λ p. peer_from (address_of p.0) (port_of p.1)) (cut 58 text) (host_of text)

-- a policy by its name
abbrev pub policy_of : Octets → Option Policy
policy_of text =
    if bytes_eq text (codes "off") then Some Off
    else if bytes_eq text (codes "present") then Some Present
    else if bytes_eq text (codes "require") then Some Require
    else None

-- a word: 1 to 255 characters of visible ASCII
abbrev pub word_of : Octets → Option Octets
word_of text = if is_word text then Some text else None
