-- Meaning: the memory of one exchange: octets to read a request into, and the reply as far as it is written.
use Rattle.dz_header.specs.Writing.{WriterState, replacement, with_room}
use Rattle.dz_name.specs.Words.{Octets}

-- the octets that a request is read into, and the reply as far as it is written
pub record Exchange : Type 0 where
  pub request : Octets
  pub reply : WriterState

-- the exchange after octets were put into the room for requests
abbrev pub with_request : Exchange → Octets → Exchange
with_request exchange octets = record { request = replacement exchange.request octets; reply = exchange.reply }

-- the exchange with another reply
abbrev pub with_reply : Exchange → WriterState → Exchange
with_reply exchange reply = record { request = exchange.request; reply = reply }

-- the exchange after octets were put into the room for replies
abbrev pub with_reply_room : Exchange → Octets → Exchange
with_reply_room exchange octets = with_reply exchange (with_room exchange.reply octets)
