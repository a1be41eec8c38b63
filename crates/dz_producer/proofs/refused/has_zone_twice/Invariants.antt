use Rattle.std.proofs.Common.{take, List, ℕ}
use Rattle.std.specs.Borrow.{Bor}
use Rattle.std.specs.BTreeSet.{contains}
use Rattle.dz_name.specs.Name.{canonical_order}
use Rattle.dz_member.specs.declared.listing.Node.{Node}
use Rattle.dz_producer.proofs.TwiceLemmas.{IsSeen}
use Rattle.dz_producer.proofs.refused.has_zone_twice.Given as goal

abbrev pub invariant-nodes : goal.invariant-nodes
invariant-nodes l = IsSeen canonical_order (λ (q : List (List ℕ)). q) (λ (x : Bor Node). x.now.zone)
    (contains canonical_order l.zones) (take l.node-index l.nodes)
