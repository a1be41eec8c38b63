-- Judge: the limit of a packet, so that it can't change: the length of a UDP datagram has two octets (RFC 768).
use Rattle.std.specs.Prelude.{◌≡◌, refl}
use Rattle.dz_io.specs.declared.datagram.TheConstants.{PACKET_OCTETS}

pub packet_octets_is_65535 : PACKET_OCTETS ≡ 65535
packet_octets_is_65535 = refl
