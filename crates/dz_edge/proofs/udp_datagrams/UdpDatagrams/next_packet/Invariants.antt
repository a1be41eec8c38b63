use Rattle.std.proofs.Common.{◌≡◌}
use Rattle.dz_edge.proofs.udp_datagrams.UdpDatagrams.next_packet.Given as goal

abbrev pub invariant-packets : goal.invariant-packets
invariant-packets g l = (l.self.is_closed ≡ l.initial.self.is_closed) × (l.self.faults ≡ l.initial.self.faults)
