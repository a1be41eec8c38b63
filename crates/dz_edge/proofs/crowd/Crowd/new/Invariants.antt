use Rattle.std.proofs.Common.{◌≡◌}
use Rattle.dz_edge.specs.Waiting.{waiting_at}
use Rattle.dz_edge.proofs.crowd.Crowd.new.Given as goal

-- nothing waits at the places so far
abbrev pub invariant-places : goal.invariant-places
invariant-places l = waiting_at l.places.items ≡ 0
