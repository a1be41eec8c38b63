use Rattle.std.proofs.Common.{◌≡◌, drop}
use Rattle.std.specs.List.{list_any}
use Rattle.dz_producer.specs.Faults.{has_bad_group}
use Rattle.dz_producer.proofs.refused.some_bad_group.Given as goal

abbrev pub invariant-nodes : goal.invariant-nodes
invariant-nodes l =
    list_any (λ b. has_bad_group b.now) (drop l.node-index l.nodes) ≡ list_any (λ b. has_bad_group b.now) l.nodes
