use Rattle.std.proofs.Common.{take, List, ℕ}
use Rattle.std.specs.BTreeSet.{contains}
use Rattle.dz_name.specs.Name.{label_order}
use Rattle.dz_producer.proofs.TwiceLemmas.{IsSeen}
use Rattle.dz_producer.proofs.amended.labels_of.Given as goal

abbrev pub invariant-labels : goal.invariant-labels
invariant-labels l = IsSeen label_order (λ (q : List ℕ). q) (λ (x : List ℕ). x) (contains label_order l.labels)
    (take l.label-index l.dropped)
