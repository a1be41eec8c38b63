use Rattle.std.proofs.Common.{◌≡◌, None}
use Rattle.dz_edge.proofs.tests.comes_beside.Given as goal

-- no turn is out
abbrev pub invariant-reads : goal.invariant-reads
invariant-reads g l = l.acceptor.out ≡ None
