use Rattle.std.proofs.Common.{◌≤◌, length}
use Rattle.dz_edge.proofs.connection.push.Given as goal

-- the socket has taken octets of these alone
abbrev pub invariant-pieces : goal.invariant-pieces
invariant-pieces l = l.at ≤ length l.octets
