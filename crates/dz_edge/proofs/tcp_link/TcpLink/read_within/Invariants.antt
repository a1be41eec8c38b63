use Rattle.std.proofs.Common.{◌≡◌}
use Rattle.dz_edge.proofs.tcp_link.TcpLink.read_within.Given as goal

abbrev pub invariant-tries : goal.invariant-tries
invariant-tries g l = l.self.faults ≡ l.initial.self.faults
