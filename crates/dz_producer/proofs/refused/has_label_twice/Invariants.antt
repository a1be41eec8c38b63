use Rattle.std.proofs.Common.{take, List, ℕ}
use Rattle.std.specs.Borrow.{Bor}
use Rattle.std.specs.BTreeSet.{contains}
use Rattle.dz_name.specs.Name.{label_order}
use Rattle.dz_member.specs.declared.listing.Node.{Node}
use Rattle.dz_producer.proofs.TwiceLemmas.{IsSeen}
use Rattle.dz_producer.proofs.refused.has_label_twice.Given as goal

abbrev pub invariant-nodes : goal.invariant-nodes
invariant-nodes l = IsSeen label_order (λ (q : List ℕ). q) (λ (x : Bor Node). x.now.label)
    (contains label_order l.labels) (take l.node-index l.nodes)
